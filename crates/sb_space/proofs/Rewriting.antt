-- What a page that is rewritten, and an entry that is, make of the pages by their owners.
use Rattle.std.proofs.Common.{◌≡◌, ◌≢◌, ℕ, ◌*◌, ◌/◌, ◌%◌, ◌<◌, ◌≤◌, nat_lt, ◌==◌, Bool, true, false, cond, List, [], ◌∷◌, Result, Ok, Err, refl, sym, ap, subst, ◌∙◌, arith}
use Rattle.std.proofs.lemmas.Bool.{false≢true, eqb-true, eq-eqb, ltb-true, ltb-false}
use Rattle.sb_bytes.specs.Bytes.{splice}
use Rattle.sb_bytes.specs.Field.{number_at}
use Rattle.sb_drive.specs.Slots.{Slots, nobodys, with_slot}
use Rattle.sb_drive.specs.declared.space.SpaceFault.{SpaceFault}
use Rattle.sb_drive.specs.Spaces.{UnlessDown, Wanted}
use Rattle.sb_pool.specs.Pages.{with_bytes}
use Rattle.sb_txn.specs.Parts.{Parts}
use Rattle.sb_space.specs.Table.{IsTable, owner_at, shown, slots_in, table_len}
use Rattle.sb_space.specs.Works.{HasPages, Stands}
use Rattle.sb_space.specs.Instances.{rewritten}
use Rattle.sb_space.specs.Stored.{if_ok}
use Rattle.sb_space.proofs.Calling.{UnlessDown-map}
use Rattle.sb_space.proofs.Looking.{not_eq, owner-now, shown-high}
use Rattle.sb_space.proofs.Owning.{entered, written-same, HasPages-same, HasPages-entered}

-- ---- a page of the store
-- a page that has these bytes is as it was
pub rewritten-same : (n : ℕ) (bytes : List ℕ) (now : ℕ → List ℕ) → now n ≡ bytes → rewritten n bytes now ≡ now
rewritten-same n bytes now is = λ i p. sym (written-same n bytes now is p) i

spliced-rewritten : (n offset : ℕ) (piece bytes : List ℕ) (now : ℕ → List ℕ) → splice offset piece (now n) ≡ bytes → with_bytes n offset piece now ≡ rewritten n bytes now
spliced-rewritten n offset piece bytes now is = λ i p. each p (n == p) refl i
  where
    each : (p : ℕ) (b : Bool) → (n == p) ≡ b → cond (n == p) (splice offset piece (now p)) (now p) ≡ cond (n == p) bytes (now p)
    each p true at =
        ap (λ (b : Bool). cond b (splice offset piece (now p)) (now p)) at
        ∙ ap (λ (x : ℕ). splice offset piece (now x)) (sym (eqb-true n p at)) ∙ is
        ∙ ap (λ (b : Bool). cond b bytes (now p)) (sym at)
    each p false at = ap (λ (b : Bool). cond b (splice offset piece (now p)) (now p)) at ∙ ap (λ (b : Bool). cond b bytes (now p)) (sym at)

pub rewritten-result : (o p q : Parts) (n offset : ℕ) (bytes piece : List ℕ) (r : Result (Unit {0}) SpaceFault)
    → ((want now : ℕ → List ℕ) → Stands want now o → Stands want now p)
    → ((want now : ℕ → List ℕ) → Stands want now p → splice offset piece (now n) ≡ bytes)
    → UnlessDown r ((want now : ℕ → List ℕ) → Stands want now p → Stands want (if_ok r (with_bytes n offset piece) now) q)
    → UnlessDown r ((want now : ℕ → List ℕ) → Stands want now o → Stands want (if_ok r (rewritten n bytes) now) q)
rewritten-result o p q n offset bytes piece (Ok done) loads is made = λ want now stands.
    let mid = loads want now stands in
    subst (λ (then : ℕ → List ℕ). Stands want then q) (spliced-rewritten n offset piece bytes now (is want now mid)) (made want now mid)
rewritten-result o p q n offset bytes piece (Err e) loads is made =
    UnlessDown-map {T = Unit {0}} (Err e) ((want now : ℕ → List ℕ) → Stands want now p → Stands want now q) ((want now : ℕ → List ℕ) → Stands want now o → Stands want now q)
    (λ kept want now stands. kept want now (loads want now stands)) made

-- ---- a page that is nobody's, whose bytes are shown to none
behind_table : (pages : ℕ) (now : ℕ → List ℕ) (n : ℕ) → owner_at now n ≢ 1 → IsTable pages now → table_len pages ≤ n
behind_table pages now n other table = by_case (nat_lt n (table_len pages)) refl
  where
    by_case : (b : Bool) → nat_lt n (table_len pages) ≡ b → table_len pages ≤ n
    by_case true below = absurd (other (table.own n (ltb-true n (table_len pages) below)))
    by_case false from = ltb-false n (table_len pages) from

slots-hidden : (pages : ℕ) (now : ℕ → List ℕ) (n : ℕ) (bytes : List ℕ) → n < pages → owner_at now n ≡ 0 → IsTable pages now
    → (slots_in pages (rewritten n bytes now) ≡ slots_in pages now) × IsTable pages (rewritten n bytes now)
slots-hidden pages now n bytes less is table = (
  (λ i m. each m (n == m) refl (nat_lt m pages) refl i),
  record {
    own = λ m below. same_owner m (omega (arith, below)) ∙ table.own m below;
    others = λ m from below one. table.others m from below (sym (same_owner m (omega (arith, below))) ∙ one);
    none = λ m beyond below. same_owner m below ∙ table.none m beyond below;
  },
)
  where
    behind : table_len pages ≤ n
    behind = behind_table pages now n (λ one. omega (arith, one, is)) table

    other_page : (m : ℕ) → (n ≡ m → ⊥) → rewritten n bytes now m ≡ now m
    other_page m far = ap (λ (b : Bool). cond b bytes (now m)) (not_eq n m far)

    same_owner : (m : ℕ) → m < 2048 * table_len pages → owner_at (rewritten n bytes now) m ≡ owner_at now m
    same_owner m below = ap (λ (page : List ℕ). number_at 2 page (2 * (m % 2048))) (other_page (m / 2048) (λ same. omega (arith, same, below, behind)))

    each : (m : ℕ) (b : Bool) → (n == m) ≡ b → (d : Bool) → nat_lt m pages ≡ d → slots_in pages (rewritten n bytes now) m ≡ slots_in pages now m
    each m b at false beyond =
        ap (λ (d : Bool). cond d (shown (owner_at (rewritten n bytes now) m) (rewritten n bytes now m)) nobodys) beyond
        ∙ ap (λ (d : Bool). cond d (shown (owner_at now m) (now m)) nobodys) (sym beyond)
    each m true at true below =
        let none = ap (owner_at now) (sym (eqb-true n m at)) ∙ is in
        let less-2 = ltb-true m pages below in
        ap (λ (d : Bool). cond d (shown (owner_at (rewritten n bytes now) m) (rewritten n bytes now m)) nobodys) below
        ∙ ap (λ (o : ℕ). shown o (rewritten n bytes now m)) (same_owner m (omega (arith, less-2)) ∙ none)
        ∙ ap (λ (o : ℕ). shown o (now m)) (sym none)
        ∙ ap (λ (d : Bool). cond d (shown (owner_at now m) (now m)) nobodys) (sym below)
    each m false at true below =
        let less-2 = ltb-true m pages below in
        ap (λ (d : Bool). cond d (shown (owner_at (rewritten n bytes now) m) (rewritten n bytes now m)) nobodys) below
        ∙ (λ i. shown (same_owner m (omega (arith, less-2)) i) (other_page m (λ same. false≢true (sym at ∙ eq-eqb n m same)) i))
        ∙ ap (λ (d : Bool). cond d (shown (owner_at now m) (now m)) nobodys) (sym below)

module _ (want : Wanted) (s : Slots) (p q : Parts) (has : HasPages want s p) (sizes : q.store.pool.geometry.pages ≡ p.store.pool.geometry.pages) where
  pub HasPages-hidden : (n : ℕ) (bytes : List ℕ) → n < p.store.pool.geometry.pages → (s n).0 ≡ 0 → Stands want (rewritten n bytes has.now) q → (next : HasPages want s q) × (next.now n ≡ bytes)
  HasPages-hidden n bytes less none stands =
      let pages = p.store.pool.geometry.pages in
      let then = rewritten n bytes has.now in
      let is = slots-hidden pages has.now n bytes less (sym (owner-now want s p has n less) ∙ none) has.table in (
        record {
          now = then;
          stands = stands;
          table = subst (λ (k : ℕ). IsTable k then) (sym sizes) is.1;
          slots = has.slots ∙ sym is.0 ∙ ap (λ (k : ℕ). slots_in k then) (sym sizes);
        },
        ap (λ (b : Bool). cond b bytes (has.now n)) (eq-eqb n n refl),
      )

-- ---- an entry of a page that isn't the table's leaves the bytes of that page
entered-bytes : (pages : ℕ) (now : ℕ → List ℕ) (n owner : ℕ) → n < pages → owner_at now n ≢ 1 → IsTable pages now → entered now n owner n ≡ now n
entered-bytes pages now n owner less other table =
    let behind = behind_table pages now n other table in
    ap (λ (b : Bool). cond b (splice (2 * (n % 2048)) (owner / 256 % 256 ∷ owner % 256 ∷ []) (now n)) (now n)) (not_eq (n / 2048) n (λ same. omega (arith, less, behind, same)))

pub kept-result : (p q : Parts) (n owner : ℕ) (bytes : List ℕ) (r : Result (Unit {0}) SpaceFault) → q.store.pool.geometry.pages ≡ p.store.pool.geometry.pages → n < p.store.pool.geometry.pages → owner < 65536
    → bytes ≡ owner / 256 % 256 ∷ owner % 256 ∷ []
    → UnlessDown r ((want now : ℕ → List ℕ) → Stands want now p → Stands want (if_ok r (with_bytes (n / 2048) (2 * (n % 2048)) bytes) now) q)
    → UnlessDown r ((want : Wanted) (s : Slots) (has : HasPages want s p) → ((s n).0 ≡ 1 → ⊥) → (owner ≡ 1 → ⊥) → HasPages want (if_ok r (with_slot n (shown owner (has.now n))) s) q)
kept-result p q n owner bytes (Ok done) sizes less small is stands = λ want s has not_tables other.
    subst (λ (page : List ℕ). HasPages want (with_slot n (shown owner page) s) q)
    (entered-bytes p.store.pool.geometry.pages has.now n owner less (λ one. not_tables (owner-now want s p has n less ∙ one)) has.table)
    (HasPages-entered want s p q has sizes n owner less small other not_tables
    (subst (λ (b : List ℕ). Stands want (with_bytes (n / 2048) (2 * (n % 2048)) b has.now) q) is (stands want has.now has.stands)))
kept-result p q n owner bytes (Err e) sizes less small is stands =
    UnlessDown-map {T = Unit {0}} (Err e) ((want now : ℕ → List ℕ) → Stands want now p → Stands want now q)
    ((want : Wanted) (s : Slots) (has : HasPages want s p) → ((s n).0 ≡ 1 → ⊥) → (owner ≡ 1 → ⊥) → HasPages want s q)
    (λ kept want s has not_tables other. HasPages-same want s p q has sizes (kept want has.now has.stands)) stands

-- ---- a root: a page that was nobody's gets its bytes and then its owner
-- where the first change is made
pub rooted : (o p q : Parts) (n owner : ℕ) (bytes : List ℕ) (r : Result (Unit {0}) SpaceFault) → p.store.pool.geometry.pages ≡ o.store.pool.geometry.pages → n < o.store.pool.geometry.pages → 1 < owner
    → ((want now : ℕ → List ℕ) → Stands want now o → Stands want (rewritten n bytes now) p)
    → UnlessDown r ((want : Wanted) (s : Slots) (has : HasPages want s p) → ((s n).0 ≡ 1 → ⊥) → (owner ≡ 1 → ⊥) → HasPages want (if_ok r (with_slot n (shown owner (has.now n))) s) q)
    → UnlessDown r ((want : Wanted) (s : Slots) → HasPages want s o → (s n).0 ≡ 0 → HasPages want (if_ok r (with_slot n (owner, bytes)) s) q)
rooted o p q n owner bytes r sizes less high wrote made =
    UnlessDown-map r _ ((want : Wanted) (s : Slots) → HasPages want s o → (s n).0 ≡ 0 → HasPages want (if_ok r (with_slot n (owner, bytes)) s) q)
    (λ set want s has none.
    let mid = HasPages-hidden want s o p has sizes n bytes less none (wrote want has.now has.stands) in
    let last = set want s mid.0 (λ one. omega (arith, one, none)) (λ one. omega (arith, one, high)) in
    subst (λ (slot : ℕ × List ℕ). HasPages want (if_ok r (with_slot n slot) s) q) (ap (shown owner) mid.1 ∙ shown-high owner bytes high) last) made

-- where it is refused
pub root-refused : (o p : Parts) (n : ℕ) (e : SpaceFault) → p.store.pool.geometry.pages ≡ o.store.pool.geometry.pages
    → UnlessDown {T = Unit {0}} (Err e) ((want now : ℕ → List ℕ) → Stands want now o → Stands want now p)
    → UnlessDown {T = Unit {0}} (Err e) ((want : Wanted) (s : Slots) → HasPages want s o → (s n).0 ≡ 0 → HasPages want s p)
root-refused o p n e sizes kept =
    UnlessDown-map {T = Unit {0}} (Err e) ((want now : ℕ → List ℕ) → Stands want now o → Stands want now p) ((want : Wanted) (s : Slots) → HasPages want s o → (s n).0 ≡ 0 → HasPages want s p)
    (λ k want s has none. HasPages-same want s o p has sizes (k want has.now has.stands)) kept
