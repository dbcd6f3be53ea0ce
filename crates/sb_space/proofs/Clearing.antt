-- Pages of an owner that become nobody's, one page of the table after another.
use Rattle.std.proofs.Common.{◌≡◌, ◌≢◌, ℕ, ◌+◌, ◌*◌, ◌/◌, ◌%◌, ◌<◌, ◌≤◌, nat_lt, ◌==◌, Bool, true, false, cond, List, Result, Ok, Err, refl, sym, ap, subst, ◌∙◌, arith}
use Rattle.std.proofs.lemmas.Bool.{false≢true, eqb-true, eq-eqb, ltb-true, ltb-false, lt-ltb, le-ltb}
use Rattle.sb_bytes.specs.Field.{number_at}
use Rattle.sb_drive.specs.Slots.{Slot, Slots, nobodys, bytes_for}
use Rattle.sb_drive.specs.declared.space.SpaceFault.{SpaceFault}
use Rattle.sb_drive.specs.Spaces.{UnlessDown, Wanted}
use Rattle.sb_owners.specs.Instances.{without_owner}
use Rattle.sb_txn.specs.Parts.{Parts}
use Rattle.sb_space.specs.Instances.{AreCleared, entry_without, rewritten, without_in}
use Rattle.sb_space.specs.Stored.{if_ok, KeepsOthers}
use Rattle.sb_space.specs.Table.{IsTable, owner_at, shown, slots_in, table_len}
use Rattle.sb_space.specs.Works.{HasPages, Stands}
use Rattle.sb_space.proofs.Calling.{UnlessDown-map}
use Rattle.sb_space.proofs.Keeping.{others_none}
use Rattle.sb_space.proofs.Looking.{not_eq, shown-owner, bytes_for-none}
use Rattle.sb_space.proofs.Owning.{HasPages-same}

still_nobodys : (b d : Bool) → cond b (cond d nobodys nobodys) nobodys ≡ nobodys
still_nobodys true true = refl
still_nobodys true false = refl
still_nobodys false d = refl

-- ---- one page of the table
module _ (pages : ℕ) (now : ℕ → List ℕ) (owner page : ℕ) (entries : List ℕ) (high : 1 < owner) (within : page < table_len pages) (cleared : AreCleared owner (now page) entries) (table : IsTable pages now) where
  abbrev then : ℕ → List ℕ
  then = rewritten page entries now

  -- an entry in this page is cleared, and others stay
  entry-here : (m : ℕ) → (page == m / 2048) ≡ true → owner_at then m ≡ entry_without owner (owner_at now m)
  entry-here m at =
      ap (λ (b : Bool). number_at 2 (cond b entries (now (m / 2048))) (2 * (m % 2048))) at
      ∙ cleared (m % 2048) (omega arith)
      ∙ ap (λ (p : ℕ). entry_without owner (number_at 2 (now p) (2 * (m % 2048)))) (eqb-true page (m / 2048) at)

  entry-there : (m : ℕ) → (page == m / 2048) ≡ false → owner_at then m ≡ owner_at now m
  entry-there m at = ap (λ (b : Bool). number_at 2 (cond b entries (now (m / 2048))) (2 * (m % 2048))) at

  -- so an owner that isn't this one stays
  entry-kept : (m o : ℕ) → owner_at now m ≡ o → (o ≡ owner → ⊥) → owner_at then m ≡ o
  entry-kept m o is other = by_case (page == m / 2048) refl
    where
      by_case : (b : Bool) → (page == m / 2048) ≡ b → owner_at then m ≡ o
      by_case true at = entry-here m at ∙ ap (entry_without owner) is ∙ ap (λ (b : Bool). cond b 0 o) (not_eq o owner other)
      by_case false at = entry-there m at ∙ is

  entry-not_tables : (o : ℕ) → o ≢ 1 → entry_without owner o ≢ 1
  entry-not_tables o other = by_case (o == owner)
    where
      by_case : (b : Bool) → cond b 0 o ≢ 1
      by_case true one = omega (arith, one)
      by_case false one = other one

  -- the pages of the table are shown without bytes, and all others keep theirs
  same-shown : (m : ℕ) → shown (owner_at now m) (then m) ≡ shown (owner_at now m) (now m)
  same-shown m = by_case (page == m) refl
    where
      by_case : (b : Bool) → (page == m) ≡ b → shown (owner_at now m) (then m) ≡ shown (owner_at now m) (now m)
      by_case true at =
          let one : owner_at now m ≡ 1 = ap (owner_at now) (sym (eqb-true page m at)) ∙ table.own page within in
          ap (λ (o : ℕ). shown o (then m)) one ∙ ap (λ (o : ℕ). shown o (now m)) (sym one)
      by_case false at = ap (λ (b : Bool). shown (owner_at now m) (cond b entries (now m))) at

  shown-cleared : (m : ℕ) → shown (entry_without owner (owner_at now m)) (then m) ≡ cond ((shown (owner_at now m) (now m)).0 == owner) nobodys (shown (owner_at now m) (now m))
  shown-cleared m =
      by_case (owner_at now m == owner) refl
      ∙ ap (λ (o : ℕ). cond (o == owner) nobodys (shown (owner_at now m) (now m))) (sym (shown-owner (owner_at now m) (now m)))
    where
      by_case : (b : Bool) → (owner_at now m == owner) ≡ b → shown (cond (owner_at now m == owner) 0 (owner_at now m)) (then m) ≡ cond (owner_at now m == owner) nobodys (shown (owner_at now m) (now m))
      by_case true is =
          ap (λ (b : Bool). shown (cond b 0 (owner_at now m)) (then m)) is
          ∙ ap (λ (b : Bool). cond b nobodys (shown (owner_at now m) (now m))) (sym is)
      by_case false is =
          ap (λ (b : Bool). shown (cond b 0 (owner_at now m)) (then m)) is ∙ same-shown m
          ∙ ap (λ (b : Bool). cond b nobodys (shown (owner_at now m) (now m))) (sym is)

  each : (m : ℕ) (d : Bool) → nat_lt m pages ≡ d → (b : Bool) → (page == m / 2048) ≡ b → slots_in pages then m ≡ without_in owner page (slots_in pages now) m
  each m false beyond b at =
      let none : slots_in pages now m ≡ nobodys = ap (λ (d : Bool). cond d (shown (owner_at now m) (now m)) nobodys) beyond in
      ap (λ (d : Bool). cond d (shown (owner_at then m) (then m)) nobodys) beyond
      ∙ sym (still_nobodys (page == m / 2048) (0 == owner))
      ∙ sym (ap (λ (slot : Slot). cond (page == m / 2048) (cond (slot.0 == owner) nobodys slot) slot) none)
  each m true below true at =
      ap (λ (d : Bool). cond d (shown (owner_at then m) (then m)) nobodys) below
      ∙ ap (λ (o : ℕ). shown o (then m)) (entry-here m at)
      ∙ shown-cleared m
      ∙ ap (λ (d : Bool). without_owner owner (λ k. cond d (shown (owner_at now m) (now m)) nobodys) m) (sym below)
      ∙ ap (λ (b : Bool). cond b (without_owner owner (slots_in pages now) m) (slots_in pages now m)) (sym at)
  each m true below false at =
      ap (λ (d : Bool). cond d (shown (owner_at then m) (then m)) nobodys) below
      ∙ ap (λ (o : ℕ). shown o (then m)) (entry-there m at)
      ∙ same-shown m
      ∙ ap (λ (d : Bool). cond d (shown (owner_at now m) (now m)) nobodys) (sym below)
      ∙ ap (λ (b : Bool). cond b (without_owner owner (slots_in pages now) m) (slots_in pages now m)) (sym at)

  pub slots-cleared : (slots_in pages then ≡ without_in owner page (slots_in pages now)) × IsTable pages then
  slots-cleared = (
    (λ i m. each m (nat_lt m pages) refl (page == m / 2048) refl i),
    record {
      own = λ m below. entry-kept m 1 (table.own m below) (λ same. omega (arith, same, high));
      others = λ m from below. by_case m from below (page == m / 2048) refl;
      none = λ m beyond below. entry-kept m 0 (table.none m beyond below) (λ same. omega (arith, same, high));
    },
  )
    where
      by_case : (m : ℕ) → table_len pages ≤ m → m < pages → (b : Bool) → (page == m / 2048) ≡ b → owner_at then m ≢ 1
      by_case m from below true at one = entry-not_tables (owner_at now m) (table.others m from below) (sym (entry-here m at) ∙ one)
      by_case m from below false at one = table.others m from below (sym (entry-there m at) ∙ one)

-- ---- by the result of the call
pub cleared-result : (p q : Parts) (owner page : ℕ) (entries : List ℕ) (r : Result (Unit {0}) SpaceFault) → q.store.pool.geometry.pages ≡ p.store.pool.geometry.pages → page < table_len p.store.pool.geometry.pages → 1 < owner
    → ((want : Wanted) (s : Slots) (has : HasPages want s p) → AreCleared owner (has.now page) entries)
    → UnlessDown r ((want now : ℕ → List ℕ) → Stands want now p → Stands want (if_ok r (rewritten page entries) now) q)
    → UnlessDown r ((want : Wanted) (s : Slots) → HasPages want s p → HasPages want (if_ok r (without_in owner page) s) q)
cleared-result p q owner page entries (Ok done) sizes within high cleared stands = λ want s has.
    let pages = p.store.pool.geometry.pages in
    let is = slots-cleared pages has.now owner page entries high within (cleared want s has) has.table in
    record {
      now = rewritten page entries has.now;
      stands = stands want has.now has.stands;
      table = subst (λ (k : ℕ). IsTable k (rewritten page entries has.now)) (sym sizes) is.1;
      slots = ap (without_in owner page) has.slots ∙ sym is.0 ∙ ap (λ (k : ℕ). slots_in k (rewritten page entries has.now)) (sym sizes);
    }
cleared-result p q owner page entries (Err e) sizes within high cleared stands =
    UnlessDown-map {T = Unit {0}} (Err e) ((want now : ℕ → List ℕ) → Stands want now p → Stands want now q) ((want : Wanted) (s : Slots) → HasPages want s p → HasPages want s q)
    (λ kept want s has. HasPages-same want s p q has sizes (kept want has.now has.stands)) stands

-- ---- the first pages of the table
-- the owner's pages whose entries are in the first pages of the table are nobody's
abbrev pub without_below : ℕ → ℕ → Slots → Slots
without_below owner first s n = cond (nat_lt (n / 2048) first) (without_owner owner s n) (s n)

pub without_below-none : (owner : ℕ) (s : Slots) → without_below owner 0 s ≡ s
without_below-none owner s = λ i n. ap (λ (b : Bool). cond b (without_owner owner s n) (s n)) (le-ltb (n / 2048) 0 (omega arith)) i

above : (a b : ℕ) → a ≤ b → (a ≡ b → ⊥) → a + 1 ≤ b
above a b least other = by_case (nat_lt a b) refl
  where
    by_case : (d : Bool) → nat_lt a b ≡ d → a + 1 ≤ b
    by_case true less = let under = ltb-true a b less in omega (arith, under)
    by_case false most = let over = ltb-false a b most in absurd (other (omega (arith, least, over)))

pub without_below-more : (owner first : ℕ) (s : Slots) → without_in owner first (without_below owner first s) ≡ without_below owner (first + 1) s
without_below-more owner first s = λ i n. each n (first == n / 2048) refl i
  where
    each : (n : ℕ) (b : Bool) → (first == n / 2048) ≡ b → without_in owner first (without_below owner first s) n ≡ without_below owner (first + 1) s n
    each n true at =
        let same = eqb-true first (n / 2048) at in
        ap (λ (b : Bool). cond b (without_owner owner (without_below owner first s) n) (without_below owner first s n)) at
        ∙ ap (λ (b : Bool). without_owner owner (λ k. cond b (without_owner owner s n) (s n)) n) (le-ltb (n / 2048) first (omega (arith, same)))
        ∙ ap (λ (b : Bool). cond b (without_owner owner s n) (s n)) (sym (lt-ltb (n / 2048) (first + 1) (omega (arith, same))))
    each n false at =
        ap (λ (b : Bool). cond b (without_owner owner (without_below owner first s) n) (without_below owner first s n)) at
        ∙ ap (λ (b : Bool). cond b (without_owner owner s n) (s n)) (by_case (nat_lt (n / 2048) first) refl)
      where
        by_case : (d : Bool) → nat_lt (n / 2048) first ≡ d → nat_lt (n / 2048) first ≡ nat_lt (n / 2048) (first + 1)
        by_case true less = let under = ltb-true (n / 2048) first less in less ∙ sym (lt-ltb (n / 2048) (first + 1) (omega (arith, under)))
        by_case false most =
            let least = ltb-false (n / 2048) first most in
            most ∙ sym (le-ltb (n / 2048) (first + 1) (above first (n / 2048) least (λ same. false≢true (sym at ∙ eq-eqb first (n / 2048) same))))

-- with all pages of the table it has none
pub without_below-all : (want : Wanted) (s : Slots) (p : Parts) (owner first : ℕ) → HasPages want s p → first ≡ table_len p.store.pool.geometry.pages → without_below owner first s ≡ without_owner owner s
without_below-all want s p owner first has is = λ i n. each n (nat_lt (n / 2048) first) refl i
  where
    pages : ℕ
    pages = p.store.pool.geometry.pages

    nothing : (n : ℕ) → pages ≤ n → s n ≡ nobodys
    nothing n beyond = ap (λ (x : Slots). x n) has.slots ∙ ap (λ (d : Bool). cond d (shown (owner_at has.now n) (has.now n)) nobodys) (le-ltb n p.store.pool.geometry.pages beyond)

    each : (n : ℕ) (b : Bool) → nat_lt (n / 2048) first ≡ b → without_below owner first s n ≡ without_owner owner s n
    each n true less = ap (λ (b : Bool). cond b (without_owner owner s n) (s n)) less
    each n false most =
        let least = ltb-false (n / 2048) first most in
        let none = nothing n (omega (arith, least, is)) in
        ap (λ (b : Bool). cond b (without_owner owner s n) (s n)) most
        ∙ none ∙ sym (still_nobodys true (0 == owner)) ∙ sym (ap (λ (slot : Slot). cond (slot.0 == owner) nobodys slot) none)

-- all other owners keep their pages
pub without_below-others : (owner first : ℕ) (s : Slots) → KeepsOthers owner s (without_below owner first s)
without_below-others owner first s o other = λ i n. each n (nat_lt (n / 2048) first) i
  where
    freed : (n : ℕ) (b : Bool) → ((s n).0 == owner) ≡ b → bytes_for o (cond ((s n).0 == owner) nobodys (s n)) ≡ bytes_for o (s n)
    freed n true is =
        ap (λ (b : Bool). bytes_for o (cond b nobodys (s n))) is ∙ bytes_for-none o 0
        ∙ sym (others_none owner o (s n) other (eqb-true (s n).0 owner is))
    freed n false is = ap (λ (b : Bool). bytes_for o (cond b nobodys (s n))) is

    each : (n : ℕ) (b : Bool) → bytes_for o (cond b (without_owner owner s n) (s n)) ≡ bytes_for o (s n)
    each n true = freed n ((s n).0 == owner) refl
    each n false = refl
