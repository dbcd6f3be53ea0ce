-- What changes of an entry of the table, and of a page, make of the pages by their owners.
use Rattle.std.proofs.Common.{◌≡◌, ◌≢◌, ◌⊎◌, ℕ, ◌+◌, ◌*◌, ◌/◌, ◌%◌, ◌<◌, ◌≤◌, nat_lt, ◌==◌, Bool, true, false, cond, List, [], ◌∷◌, length, Result, Ok, Err, inl, inr, refl, sym, ap, subst, ◌∙◌, arith}
use Rattle.std.proofs.lemmas.Bool.{false≢true, eqb-true, eq-eqb, ltb-true, ltb-false}
use Rattle.sb_bytes.specs.Bytes.{splice}
use Rattle.sb_bytes.specs.Field.{number_at, with_number}
use Rattle.sb_bytes.proofs.FieldLaws.{reads_back, leaves_others}
use Rattle.sb_drive.specs.Slots.{Slots, nobodys, with_slot}
use Rattle.sb_drive.specs.declared.space.SpaceFault.{SpaceFault}
use Rattle.sb_drive.specs.Spaces.{UnlessDown, Wanted}
use Rattle.sb_pool.specs.Pages.{with_bytes}
use Rattle.sb_txn.specs.Parts.{Parts}
use Rattle.sb_space.specs.Table.{AreWhole, IsTable, owner_at, shown, slots_in, table_len}
use Rattle.sb_space.specs.Works.{HasPages, Stands}
use Rattle.sb_space.specs.Stored.{if_ok}
use Rattle.sb_space.proofs.Calling.{UnlessDown-map}
use Rattle.sb_space.proofs.Looking.{not_eq, owner-now, shown-high}

-- ---- entries
spliced-entry : (owner at : ℕ) (page : List ℕ) → splice at (owner / 256 % 256 ∷ owner % 256 ∷ []) page ≡ with_number 2 page at owner
unfolding with_number
spliced-entry owner at page = refl

apart : (n m : ℕ) (b : Bool) → nat_lt (n % 2048) (m % 2048) ≡ b → n % 2048 ≢ m % 2048 → (2 * (m % 2048) + 2 ≤ 2 * (n % 2048)) ⊎ (2 * (n % 2048) + 2 ≤ 2 * (m % 2048))
apart n m true is far = let less = ltb-true (n % 2048) (m % 2048) is in inr (omega (arith, less))
apart n m false is far = let most = ltb-false (n % 2048) (m % 2048) is in inl (further (n % 2048) (m % 2048) most far)
  where
    further : (x y : ℕ) → y ≤ x → x ≢ y → 2 * y + 2 ≤ 2 * x
    further x y most far = by_case (nat_lt y x) refl
      where
        by_case : (b : Bool) → nat_lt y x ≡ b → 2 * y + 2 ≤ 2 * x
        by_case true is = let less = ltb-true y x is in omega (arith, less)
        by_case false is = let least = ltb-false y x is in absurd (far (omega (arith, least, most)))

module _ (now : ℕ → List ℕ) (n owner : ℕ) where
  -- the pages with another entry of this one
  abbrev pub entered : ℕ → List ℕ
  entered = with_bytes (n / 2048) (2 * (n % 2048)) (owner / 256 % 256 ∷ owner % 256 ∷ []) now

  module _ (long : length (now (n / 2048)) ≡ 4096) (small : owner < 65536) where
    entered-here : owner_at entered n ≡ owner
    entered-here =
        ap (λ (b : Bool). number_at 2 (cond b (splice (2 * (n % 2048)) (owner / 256 % 256 ∷ owner % 256 ∷ []) (now (n / 2048))) (now (n / 2048))) (2 * (n % 2048))) (eq-eqb (n / 2048) (n / 2048) refl)
        ∙ ap (λ (page : List ℕ). number_at 2 page (2 * (n % 2048))) (spliced-entry owner (2 * (n % 2048)) (now (n / 2048)))
        ∙ reads_back 2 (2 * (n % 2048)) owner (now (n / 2048)) (omega (arith, long)) (omega (arith, small))

    entered-other : (m : ℕ) → (n ≡ m → ⊥) → owner_at entered m ≡ owner_at now m
    entered-other m other = by_case (n / 2048 == m / 2048) refl
      where
        by_case : (b : Bool) → (n / 2048 == m / 2048) ≡ b → number_at 2 (cond b (splice (2 * (n % 2048)) (owner / 256 % 256 ∷ owner % 256 ∷ []) (now (m / 2048))) (now (m / 2048))) (2 * (m % 2048)) ≡ owner_at now m
        by_case false is = refl
        by_case true is =
            let same : n / 2048 ≡ m / 2048 = eqb-true (n / 2048) (m / 2048) is in
            let far : n % 2048 ≢ m % 2048 = λ rest. other (omega (arith, same, rest)) in
            let size : length (now (m / 2048)) ≡ 4096 = ap (λ (p : ℕ). length (now p)) (sym same) ∙ long in
            ap (λ (page : List ℕ). number_at 2 page (2 * (m % 2048))) (spliced-entry owner (2 * (n % 2048)) (now (m / 2048)))
            ∙ leaves_others 2 (2 * (n % 2048)) owner 2 (2 * (m % 2048)) (now (m / 2048)) (omega (arith, size)) (apart n m (nat_lt (n % 2048) (m % 2048)) refl far)

-- ---- slots
pub slots-entered : (pages : ℕ) (now : ℕ → List ℕ) (n owner : ℕ) → n < pages → owner < 65536 → owner ≢ 1 → AreWhole pages now → IsTable pages now → owner_at now n ≢ 1
    → (slots_in pages (entered now n owner) ≡ with_slot n (shown owner (entered now n owner n)) (slots_in pages now)) × IsTable pages (entered now n owner)
slots-entered pages now n owner less small other whole table not_tables = (
  (λ i m. each m (n == m) refl (nat_lt m pages) refl i),
  record {
    own = λ m below. at-other m (λ same. not_tables (ap (owner_at now) same ∙ table.own m below)) ∙ table.own m below;
    others = λ m from below. not_one m (n == m) refl from below;
    none = λ m beyond below. at-other m (λ same. omega (arith, same, less, beyond)) ∙ table.none m beyond below;
  },
)
  where
    long : length (now (n / 2048)) ≡ 4096
    long = (whole (n / 2048) (omega (arith, less))).long

    at-other : (m : ℕ) → (n ≡ m → ⊥) → owner_at (entered now n owner) m ≡ owner_at now m
    at-other m far = entered-other now n owner long small m far

    not_one : (m : ℕ) (b : Bool) → (n == m) ≡ b → table_len pages ≤ m → m < pages → owner_at (entered now n owner) m ≢ 1
    not_one m true is from below one = other (sym (entered-here now n owner long small) ∙ ap (owner_at (entered now n owner)) (eqb-true n m is) ∙ one)
    not_one m false is from below one = table.others m from below (sym (at-other m (λ same. false≢true (sym is ∙ eq-eqb n m same))) ∙ one)

    -- a page behind the table keeps its bytes, and those of the table are shown without
    same-shown : (m : ℕ) → m < pages → shown (owner_at now m) (entered now n owner m) ≡ shown (owner_at now m) (now m)
    same-shown m below = by_case (nat_lt m (table_len pages)) refl
      where
        by_case : (b : Bool) → nat_lt m (table_len pages) ≡ b → shown (owner_at now m) (entered now n owner m) ≡ shown (owner_at now m) (now m)
        by_case true is =
            let one = table.own m (ltb-true m (table_len pages) is) in
            ap (λ (o : ℕ). shown o (entered now n owner m)) one ∙ ap (λ (o : ℕ). shown o (now m)) (sym one)
        by_case false is =
            let from = ltb-false m (table_len pages) is in
            ap (λ (b : Bool). shown (owner_at now m) (cond b (splice (2 * (n % 2048)) (owner / 256 % 256 ∷ owner % 256 ∷ []) (now m)) (now m)))
            (not_eq (n / 2048) m (λ same. omega (arith, less, from, same)))

    each : (m : ℕ) (b : Bool) → (n == m) ≡ b → (d : Bool) → nat_lt m pages ≡ d → slots_in pages (entered now n owner) m ≡ with_slot n (shown owner (entered now n owner n)) (slots_in pages now) m
    each m true is true below =
        let same = eqb-true n m is in
        ap (λ (d : Bool). cond d (shown (owner_at (entered now n owner) m) (entered now n owner m)) nobodys) below
        ∙ ap (λ (x : ℕ). shown (owner_at (entered now n owner) x) (entered now n owner x)) (sym same)
        ∙ ap (λ (o : ℕ). shown o (entered now n owner n)) (entered-here now n owner long small)
        ∙ ap (λ (b : Bool). cond b (shown owner (entered now n owner n)) (slots_in pages now m)) (sym is)
    each m true is false beyond = absurd (omega (arith, less, ltb-false m pages beyond, eqb-true n m is))
    each m false is true below =
        ap (λ (d : Bool). cond d (shown (owner_at (entered now n owner) m) (entered now n owner m)) nobodys) below
        ∙ ap (λ (o : ℕ). shown o (entered now n owner m)) (at-other m (λ same. false≢true (sym is ∙ eq-eqb n m same)))
        ∙ same-shown m (ltb-true m pages below)
        ∙ ap (λ (d : Bool). cond d (shown (owner_at now m) (now m)) nobodys) (sym below)
        ∙ ap (λ (b : Bool). cond b (shown owner (entered now n owner n)) (slots_in pages now m)) (sym is)
    each m false is false beyond =
        ap (λ (d : Bool). cond d (shown (owner_at (entered now n owner) m) (entered now n owner m)) nobodys) beyond
        ∙ ap (λ (d : Bool). cond d (shown (owner_at now m) (now m)) nobodys) (sym beyond)
        ∙ ap (λ (b : Bool). cond b (shown owner (entered now n owner n)) (slots_in pages now m)) (sym is)

-- other bytes of a page behind the table
pub slots-written : (pages : ℕ) (now then : ℕ → List ℕ) (n owner : ℕ) (bytes : List ℕ) → n < pages → 1 < owner → owner_at now n ≡ owner → IsTable pages now → ((p : ℕ) → then p ≡ cond (n == p) bytes (now p))
    → (slots_in pages then ≡ with_slot n (owner, bytes) (slots_in pages now)) × IsTable pages then
slots-written pages now then n owner bytes less high is table made = (
  (λ i m. each m (n == m) refl (nat_lt m pages) refl i),
  record {
    own = λ m below. same_owner m (omega (arith, below)) ∙ table.own m below;
    others = λ m from below one. table.others m from below (sym (same_owner m (omega (arith, below))) ∙ one);
    none = λ m beyond below. same_owner m below ∙ table.none m beyond below;
  },
)
  where
    behind : table_len pages ≤ n
    behind = by_case (nat_lt n (table_len pages)) refl
      where
        by_case : (b : Bool) → nat_lt n (table_len pages) ≡ b → table_len pages ≤ n
        by_case true below = let one = table.own n (ltb-true n (table_len pages) below) in absurd (omega (arith, one, is, high))
        by_case false from = ltb-false n (table_len pages) from

    other_page : (m : ℕ) → (n ≡ m → ⊥) → then m ≡ now m
    other_page m far = made m ∙ ap (λ (b : Bool). cond b bytes (now m)) (not_eq n m far)

    same_owner : (m : ℕ) → m < 2048 * table_len pages → owner_at then m ≡ owner_at now m
    same_owner m below = ap (λ (page : List ℕ). number_at 2 page (2 * (m % 2048))) (other_page (m / 2048) (λ same. omega (arith, same, below, behind)))

    each : (m : ℕ) (b : Bool) → (n == m) ≡ b → (d : Bool) → nat_lt m pages ≡ d → slots_in pages then m ≡ with_slot n (owner, bytes) (slots_in pages now) m
    each m true at true below =
        let same = eqb-true n m at in
        ap (λ (d : Bool). cond d (shown (owner_at then m) (then m)) nobodys) below
        ∙ ap (λ (x : ℕ). shown (owner_at then x) (then x)) (sym same)
        ∙ (λ i. shown ((same_owner n (omega (arith, less)) ∙ is) i) ((made n ∙ ap (λ (b : Bool). cond b bytes (now n)) (eq-eqb n n refl)) i))
        ∙ shown-high owner bytes high
        ∙ ap (λ (b : Bool). cond b (owner, bytes) (slots_in pages now m)) (sym at)
    each m true at false beyond = absurd (omega (arith, less, ltb-false m pages beyond, eqb-true n m at))
    each m false at true below =
        let less-2 = ltb-true m pages below in
        ap (λ (d : Bool). cond d (shown (owner_at then m) (then m)) nobodys) below
        ∙ (λ i. shown (same_owner m (omega (arith, less-2)) i) (other_page m (λ same. false≢true (sym at ∙ eq-eqb n m same)) i))
        ∙ ap (λ (d : Bool). cond d (shown (owner_at now m) (now m)) nobodys) (sym below)
        ∙ ap (λ (b : Bool). cond b (owner, bytes) (slots_in pages now m)) (sym at)
    each m false at false beyond =
        ap (λ (d : Bool). cond d (shown (owner_at then m) (then m)) nobodys) beyond
        ∙ ap (λ (d : Bool). cond d (shown (owner_at now m) (now m)) nobodys) (sym beyond)
        ∙ ap (λ (b : Bool). cond b (owner, bytes) (slots_in pages now m)) (sym at)

-- ---- the space behind such a change
module _ (want : Wanted) (s : Slots) (p q : Parts) (has : HasPages want s p) (sizes : q.store.pool.geometry.pages ≡ p.store.pool.geometry.pages) where
  pub HasPages-same : Stands want has.now q → HasPages want s q
  HasPages-same stands = record {
    now = has.now;
    stands = stands;
    table = subst (λ (n : ℕ). IsTable n has.now) (sym sizes) has.table;
    slots = has.slots ∙ ap (λ (n : ℕ). slots_in n has.now) (sym sizes);
  }

  pub HasPages-entered : (n owner : ℕ) → n < p.store.pool.geometry.pages → owner < 65536 → owner ≢ 1 → (s n).0 ≢ 1 → Stands want (entered has.now n owner) q → HasPages want (with_slot n (shown owner (entered has.now n owner n)) s) q
  HasPages-entered n owner less small other not_tables stands =
      let pages = p.store.pool.geometry.pages in
      let is = slots-entered pages has.now n owner less small other has.stands.whole has.table (λ one. not_tables (owner-now want s p has n less ∙ one)) in
      record {
        now = entered has.now n owner;
        stands = stands;
        table = subst (λ (k : ℕ). IsTable k (entered has.now n owner)) (sym sizes) is.1;
        slots = ap (with_slot n (shown owner (entered has.now n owner n))) has.slots ∙ sym is.0 ∙ ap (λ (k : ℕ). slots_in k (entered has.now n owner)) (sym sizes);
      }

  pub HasPages-written : (then : ℕ → List ℕ) (n owner : ℕ) (bytes : List ℕ) → n < p.store.pool.geometry.pages → 1 < owner → (s n).0 ≡ owner → ((k : ℕ) → then k ≡ cond (n == k) bytes (has.now k)) → Stands want then q
      → HasPages want (with_slot n (owner, bytes) s) q
  HasPages-written then n owner bytes less high is made stands =
      let pages = p.store.pool.geometry.pages in
      let now = slots-written pages has.now then n owner bytes less high (sym (owner-now want s p has n less) ∙ is) has.table made in
      record {
        now = then;
        stands = stands;
        table = subst (λ (k : ℕ). IsTable k then) (sym sizes) now.1;
        slots = ap (with_slot n (owner, bytes)) has.slots ∙ sym now.0 ∙ ap (λ (k : ℕ). slots_in k then) (sym sizes);
      }

-- ---- by the result of the call
pub entered-result : (p q : Parts) (n owner : ℕ) (bytes : List ℕ) (r : Result (Unit {0}) SpaceFault) → q.store.pool.geometry.pages ≡ p.store.pool.geometry.pages → n < p.store.pool.geometry.pages → owner < 65536
    → bytes ≡ owner / 256 % 256 ∷ owner % 256 ∷ []
    → UnlessDown r ((want now : ℕ → List ℕ) → Stands want now p → Stands want (if_ok r (with_bytes (n / 2048) (2 * (n % 2048)) bytes) now) q)
    → UnlessDown r ((want : Wanted) (s : Slots) → HasPages want s p → ((s n).0 ≡ 1 → ⊥) → (owner ≡ 1 → ⊥) → (image : List ℕ) × HasPages want (if_ok r (with_slot n (shown owner image)) s) q)
entered-result p q n owner bytes (Ok done) sizes less small is stands = λ want s has not_tables other. (
  entered has.now n owner n,
  HasPages-entered want s p q has sizes n owner less small other not_tables
      (subst (λ (b : List ℕ). Stands want (with_bytes (n / 2048) (2 * (n % 2048)) b has.now) q) is (stands want has.now has.stands)),
)
entered-result p q n owner bytes (Err e) sizes less small is stands =
    UnlessDown-map {T = Unit {0}} (Err e) ((want now : ℕ → List ℕ) → Stands want now p → Stands want now q)
    ((want : Wanted) (s : Slots) → HasPages want s p → ((s n).0 ≡ 1 → ⊥) → (owner ≡ 1 → ⊥) → (image : List ℕ) × HasPages want s q)
    (λ kept want s has not_tables other. ([], HasPages-same want s p q has sizes (kept want has.now has.stands))) stands

pub written-result : (p q : Parts) (n owner offset : ℕ) (bytes piece : List ℕ) (r : Result (Unit {0}) SpaceFault) → q.store.pool.geometry.pages ≡ p.store.pool.geometry.pages → n < p.store.pool.geometry.pages
    → ((want : Wanted) (s : Slots) (has : HasPages want s p) → splice offset piece (has.now n) ≡ bytes)
    → UnlessDown r ((want now : ℕ → List ℕ) → Stands want now p → Stands want (if_ok r (with_bytes n offset piece) now) q)
    → UnlessDown r ((want : Wanted) (s : Slots) → HasPages want s p → 1 < owner → (s n).0 ≡ owner → HasPages want (if_ok r (with_slot n (owner, bytes)) s) q)
written-result p q n owner offset bytes piece (Ok done) sizes less is stands = λ want s has high own.
    HasPages-written want s p q has sizes (with_bytes n offset piece has.now) n owner bytes less high own (made want s has) (stands want has.now has.stands)
  where
    made : (want : Wanted) (s : Slots) (has : HasPages want s p) (k : ℕ) → with_bytes n offset piece has.now k ≡ cond (n == k) bytes (has.now k)
    made want s has k = by_case (n == k) refl
      where
        by_case : (b : Bool) → (n == k) ≡ b → cond b (splice offset piece (has.now k)) (has.now k) ≡ cond b bytes (has.now k)
        by_case true at = ap (λ (x : ℕ). splice offset piece (has.now x)) (sym (eqb-true n k at)) ∙ is want s has
        by_case false at = refl
written-result p q n owner offset bytes piece (Err e) sizes less is stands =
    UnlessDown-map {T = Unit {0}} (Err e) ((want now : ℕ → List ℕ) → Stands want now p → Stands want now q)
    ((want : Wanted) (s : Slots) → HasPages want s p → 1 < owner → (s n).0 ≡ owner → HasPages want s q)
    (λ kept want s has high own. HasPages-same want s p q has sizes (kept want has.now has.stands)) stands

pub written-same : (n : ℕ) (bytes : List ℕ) (now : ℕ → List ℕ) → now n ≡ bytes → (k : ℕ) → now k ≡ cond (n == k) bytes (now k)
written-same n bytes now is k = by_case (n == k) refl
  where
    by_case : (b : Bool) → (n == k) ≡ b → now k ≡ cond b bytes (now k)
    by_case true at = ap now (sym (eqb-true n k at)) ∙ is
    by_case false at = refl
