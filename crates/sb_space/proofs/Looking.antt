-- What the owner table says, and what stays while pages are read.
use Rattle.std.proofs.Common.{◌≡◌, ◌≢◌, ℕ, zero, suc, ◌+◌, ◌<◌, ◌≤◌, nat_lt, ◌==◌, Bool, true, false, cond, Option, Some, None, is_some, Result, Ok, Err, OnOk, List, [], ◌∷◌, length, refl, sym, ap, subst, ◌∙◌, arith}
use Rattle.std.proofs.lemmas.Bool.{false≢true, ltb-true, lt-ltb, ltb-false, le-ltb, eq-eqb, eqb-true}
use Rattle.sb_disk.specs.Disk.{Story}
use Rattle.sb_forms.specs.Pages.{IsAbove, IsNext}
use Rattle.sb_images.specs.Layout.{page_at}
use Rattle.sb_log.specs.declared.geometry.Geometry.{Geometry}
use Rattle.sb_pool.specs.State.{Held, held}
use Rattle.sb_pool.specs.Pages.{bytes_or, ArePagesOn}
use Rattle.sb_drive.specs.Slots.{Slots, Slot, owned, bytes_for}
use Rattle.sb_ctx.specs.View.{View}
use Rattle.sb_drive.specs.declared.space.SpaceFault.{SpaceFault}
use Rattle.sb_drive.specs.declared.space.SpaceFault.TheVariants.{Fault, DataFull, TempFull, LogFull, GatesFull, Damaged, Down, NoMemory}
use Rattle.sb_drive.specs.declared.turns.Ask.{Ask}
use Rattle.sb_drive.specs.declared.turns.Ask.TheVariants.{Fresh}
use Rattle.sb_drive.specs.Spaces.{Wanted, IsFull}
use Rattle.sb_txn.specs.Book.{Undo}
use Rattle.sb_txn.specs.Clauses.{HoldsPages, unwound}
use Rattle.sb_txn.specs.Parts.{Parts, parts}
use Rattle.sb_txn.specs.State.{State}
use Rattle.sb_space.specs.Durable.{Lent, Leads, parts_in}
use Rattle.sb_space.specs.Table.{AreWhole, IsTable, owner_at, shown, slots_in}
use Rattle.sb_space.specs.Owners.{IsOwned, IsBehind}
use Rattle.sb_space.specs.Works.{HasPages, LeadsBack, MeansDown, Stands}
use Rattle.sb_space.specs.Telling.{told_from}

-- ---- slots
pub shown-owner : (o : ℕ) (bytes : List ℕ) → (shown o bytes).0 ≡ o
shown-owner zero bytes = refl
shown-owner (suc zero) bytes = refl
shown-owner (suc (suc o)) bytes = refl

pub slot-owner : (pages : ℕ) (now : ℕ → List ℕ) (n : ℕ) → n < pages → (slots_in pages now n).0 ≡ owner_at now n
slot-owner pages now n less = subst (λ (b : Bool). (cond b (shown (owner_at now n) (now n)) (0, [])).0 ≡ owner_at now n) (sym (lt-ltb n pages less)) (shown-owner (owner_at now n) (now n))

-- ---- a page that is held
-- it is the page now, of a store whose disk tells its bytes
pub held-stands : (want now : ℕ → List ℕ) (p : Parts) → Stands want now p → (n : ℕ) (h : Held) → n < p.store.pool.geometry.pages → held p.store.pool n ≡ Some h → h.bytes ≡ now n
held-stands want now p stands n h less is = by_told p.told stands.tells stands.store.2.pages
  where
    by_told : (told : Option Story) → is_some told ≡ true → ArePagesOn now told p.store.journal p.store.pool → h.bytes ≡ now n
    by_told None tells pages = absurd (false≢true tells)
    by_told (Some t) tells pages = sym (ap (bytes_or (page_at p.store.pool.geometry n t.now.reads)) is) ∙ pages stands.store.2.up n less

pub held-now : (want : Wanted) (s : Slots) (p : Parts) (has : HasPages want s p) (n : ℕ) (h : Held) → n < p.store.pool.geometry.pages → held p.store.pool n ≡ Some h → h.bytes ≡ has.now n
held-now want s p has n h less is = held-stands want has.now p has.stands n h less is

-- ---- reading leaves the pages
none_of : (us : List Undo) → length us ≤ 0 → us ≡ []
none_of [] few = refl
none_of (u ∷ us) few = absurd (omega (arith, few))

pub Stands-still : {D : Type 0} (told : D → Option Story) (len faults : D → ℕ) (a b : Lent D) (want now : ℕ → List ℕ) → Leads told len faults 0 a b → (b.store.now.book.down ≡ true → a.store.now.book.down ≡ true)
    → Stands want now (parts_in told len a) → Stands want now (parts_in told len b)
Stands-still {D = D} told len faults a b want now leads stays stands = by_case b.store.now.book.down refl
  where
    old : Parts
    old = parts_in told len a

    new : Parts
    new = parts_in told len b

    by_case : (down : Bool) → b.store.now.book.down ≡ down → Stands want now new
    by_case true on =
        let still = leads.works.down (stays on) in
        subst (λ (d : D). Stands want now (parts told len d b.store.now)) (sym still.0)
        (subst (λ (x : State). Stands want now (parts told len a.disk.now x)) (sym still.1) stands)
    by_case false off =
        let makes = leads.works.makes off in
        let turns = makes.pages want now stands.store in
        let back = told_from (told a.disk.now) (AreWhole a.store.now.pool.geometry.pages now → LeadsBack a.store.now.pool.geometry.pages makes.undos now turns.pages) stands.tells turns.back in
        let same : turns.pages ≡ now = λ i p. (sym (ap (λ (us : List Undo). unwound us turns.pages p) (none_of makes.undos makes.few)) ∙ (back stands.whole).back p) i in
        record {
          tells = sym (leads.works.leaves.each want now stands.store).tells ∙ stands.tells;
          store = subst (λ (now : ℕ → List ℕ). HoldsPages want now new) same turns.store;
          whole = subst (λ (n : ℕ). AreWhole n now) (sym (ap (λ (g : Geometry). g.pages) leads.works.geometry)) stands.whole;
        }

pub HasPages-still : {D : Type 0} (told : D → Option Story) (len faults : D → ℕ) (a b : Lent D) (want : Wanted) (s : Slots) → Leads told len faults 0 a b → (b.store.now.book.down ≡ true → a.store.now.book.down ≡ true)
    → HasPages want s (parts_in told len a) → HasPages want s (parts_in told len b)
HasPages-still told len faults a b want s leads stays has =
    let sizes = ap (λ (g : Geometry). g.pages) leads.works.geometry in
    record {
      now = has.now;
      stands = Stands-still told len faults a b want has.now leads stays has.stands;
      table = subst (λ (n : ℕ). IsTable n has.now) (sym sizes) has.table;
      slots = has.slots ∙ ap (λ (n : ℕ). slots_in n has.now) (sym sizes);
    }

-- ---- one page
pub owner-now : (want : Wanted) (s : Slots) (p : Parts) (has : HasPages want s p) (n : ℕ) → n < p.store.pool.geometry.pages → (s n).0 ≡ owner_at has.now n
owner-now want s p has n less = ap (λ (x : Slots). (x n).0) has.slots ∙ slot-owner p.store.pool.geometry.pages has.now n less

same_both : {A : Type 0} (b : Bool) (a : A) → cond b a a ≡ a
same_both true a = refl
same_both false a = refl

pub not_eq : (a b : ℕ) → (a ≡ b → ⊥) → (a == b) ≡ false
not_eq a b differ = by_case (a == b) refl
  where
    by_case : (t : Bool) → (a == b) ≡ t → t ≡ false
    by_case true is = absurd (differ (eqb-true a b is))
    by_case false is = refl

pub bytes_for-own : (owner : ℕ) (bytes : List ℕ) → 1 < owner → bytes_for owner (owner, bytes) ≡ bytes
bytes_for-own owner bytes high = λ i. cond (not_eq owner 0 (λ none. omega (arith, high, none)) i) [] (cond (eq-eqb owner owner refl i) bytes [])

pub bytes_for-other : (owner : ℕ) (slot : Slot) → (slot.0 == owner) ≡ false → bytes_for owner slot ≡ []
bytes_for-other owner slot other = ap (λ (b : Bool). cond (owner == 0) [] (cond b slot.1 [])) other ∙ same_both (owner == 0) []

pub bytes_for-none : (owner o : ℕ) → bytes_for owner (o, []) ≡ []
bytes_for-none owner o = ap (λ (bytes : List ℕ). cond (owner == 0) [] bytes) (same_both (o == owner) []) ∙ same_both (owner == 0) []

pub bytes_for-nobody : (owner : ℕ) (slot : Slot) → owner ≡ 0 → bytes_for owner slot ≡ []
bytes_for-nobody owner slot nobody = ap (λ (b : Bool). cond b [] (cond (slot.0 == owner) slot.1 [])) (eq-eqb owner 0 nobody)

-- from the catalogue on pages are shown with their bytes
pub shown-high : (o : ℕ) (bytes : List ℕ) → 1 < o → shown o bytes ≡ (o, bytes)
shown-high zero bytes high = absurd (omega (arith, high))
shown-high (suc zero) bytes high = absurd (omega (arith, high))
shown-high (suc (suc o)) bytes high = refl

shown-low : (o owner : ℕ) (bytes : List ℕ) → owner < 2 → bytes_for owner (shown o bytes) ≡ []
shown-low zero owner bytes low = bytes_for-none owner 0
shown-low (suc zero) owner bytes low = bytes_for-none owner 1
shown-low (suc (suc o)) owner bytes low = bytes_for-other owner (suc (suc o), bytes) (not_eq (suc (suc o)) owner (λ is. omega (arith, is, low)))

shown-bytes : (o owner : ℕ) (bytes : List ℕ) → 1 < owner → o ≡ owner → bytes_for owner (shown o bytes) ≡ bytes
shown-bytes o owner bytes high is = ap (λ (x : ℕ). bytes_for owner (shown x bytes)) is ∙ ap (bytes_for owner) (shown-high owner bytes high) ∙ bytes_for-own owner bytes high

shown-other : (o owner : ℕ) (bytes : List ℕ) → (o == owner) ≡ false → bytes_for owner (shown o bytes) ≡ []
shown-other o owner bytes other = bytes_for-other owner (shown o bytes) (ap (λ (x : ℕ). x == owner) (shown-owner o bytes) ∙ other)

pub owned-now : (want : Wanted) (s : Slots) (p : Parts) (has : HasPages want s p) (owner n : ℕ) → n < p.store.pool.geometry.pages → 1 < owner → (s n).0 ≡ owner → owned s owner n ≡ has.now n
owned-now want s p has owner n less high is =
    ap (λ (x : Slots). bytes_for owner (x n)) has.slots
    ∙ ap (λ (b : Bool). bytes_for owner (cond b (shown (owner_at has.now n) (has.now n)) (0, []))) (lt-ltb n p.store.pool.geometry.pages less)
    ∙ shown-bytes (owner_at has.now n) owner (has.now n) high (sym (owner-now want s p has n less) ∙ is)

-- an owner that no page has, or that isn't this page's
pub owned-low : (want : Wanted) (s : Slots) (p : Parts) (has : HasPages want s p) (owner n : ℕ) → owner < 2 → owned s owner n ≡ []
owned-low want s p has owner n low = ap (λ (x : Slots). bytes_for owner (x n)) has.slots ∙ by_case (nat_lt n p.store.pool.geometry.pages)
  where
    by_case : (b : Bool) → bytes_for owner (cond b (shown (owner_at has.now n) (has.now n)) (0, [])) ≡ []
    by_case true = shown-low (owner_at has.now n) owner (has.now n) low
    by_case false = bytes_for-none owner 0

pub owned-beyond : (want : Wanted) (s : Slots) (p : Parts) (has : HasPages want s p) (owner n : ℕ) → p.store.pool.geometry.pages ≤ n → owned s owner n ≡ []
owned-beyond want s p has owner n beyond =
    ap (λ (x : Slots). bytes_for owner (x n)) has.slots
    ∙ ap (λ (b : Bool). bytes_for owner (cond b (shown (owner_at has.now n) (has.now n)) (0, []))) (le-ltb n p.store.pool.geometry.pages beyond)
    ∙ bytes_for-none owner 0

pub owned-other : (want : Wanted) (s : Slots) (p : Parts) (has : HasPages want s p) (owner n : ℕ) → n < p.store.pool.geometry.pages → ((s n).0 == owner) ≡ false → owned s owner n ≡ []
owned-other want s p has owner n less other =
    ap (λ (x : Slots). bytes_for owner (x n)) has.slots
    ∙ ap (λ (b : Bool). bytes_for owner (cond b (shown (owner_at has.now n) (has.now n)) (0, []))) (lt-ltb n p.store.pool.geometry.pages less)
    ∙ shown-other (owner_at has.now n) owner (has.now n) (ap (λ (o : ℕ). o == owner) (sym (owner-now want s p has n less)) ∙ other)

-- ---- what a look-up says
pub IsOwned-low : (want : Wanted) (s : Slots) (p : Parts) (has : HasPages want s p) (owner n : ℕ) → owner < 2 → IsOwned s owner n false
IsOwned-low want s p has owner n low = owned-low want s p has owner n low

pub IsOwned-beyond : (want : Wanted) (s : Slots) (p : Parts) (has : HasPages want s p) (owner n : ℕ) → p.store.pool.geometry.pages ≤ n → IsOwned s owner n false
IsOwned-beyond want s p has owner n beyond = owned-beyond want s p has owner n beyond

pub IsOwned-looked : (want : Wanted) (s : Slots) (p : Parts) (has : HasPages want s p) (owner n found : ℕ) → 2 ≤ owner → n < p.store.pool.geometry.pages → found ≡ (s n).0 → IsOwned s owner n (found == owner)
IsOwned-looked want s p has owner n found high less is = by_case (found == owner) refl
  where
    by_case : (b : Bool) → (found == owner) ≡ b → IsOwned s owner n b
    by_case true same = (omega (arith, high), sym is ∙ eqb-true found owner same)
    by_case false other = owned-other want s p has owner n less (ap (λ (x : ℕ). x == owner) (sym is) ∙ other)

-- ---- numbers that were looked at
-- what is so of the numbers below one, and of that one, is so of those below the next
pub below_next : (n : ℕ) (IsSo : ℕ → Type 0) → ((m : ℕ) → m < n → IsSo m) → IsSo n → (m : ℕ) → m < n + 1 → IsSo m
below_next n IsSo below here m less = by_case (nat_lt m n) refl
  where
    by_case : (b : Bool) → nat_lt m n ≡ b → IsSo m
    by_case true is = below m (ltb-true m n is)
    by_case false is = let at = ltb-false m n is in let same : n ≡ m = omega (arith, at, less) in subst IsSo same here

-- ---- the owner's next page
module _ (want : Wanted) (s : Slots) (p : Parts) (has : HasPages want s p) (owner : ℕ) where
  -- from the number behind this one on there is none
  pub IsNext-none : (low : Option ℕ) (first n : ℕ) → IsBehind low first → p.store.pool.geometry.pages ≤ 65536 → p.store.pool.geometry.pages ≤ n → ((m : ℕ) → m < n → first ≤ m → owned s owner m ≡ []) → IsNext (owned s owner) low None
  IsNext-none low first n behind few beyond none = λ m above. by_case low behind m above (nat_lt m n) refl
    where
      by_case : (l : Option ℕ) → IsBehind l first → (m : ℕ) → IsAbove l m → (b : Bool) → nat_lt m n ≡ b → owned s owner m ≡ []
      by_case None behind m above true is = none m (ltb-true m n is) (omega (arith, behind))
      by_case (Some k) behind m above true is = none m (ltb-true m n is) (omega (arith, behind, above))
      by_case l behind m above false is = owned-beyond want s p has owner m (omega (arith, beyond, ltb-false m n is))

  -- it is the first one
  pub IsNext-found : (low : Option ℕ) (first n : ℕ) → IsBehind low first → p.store.pool.geometry.pages ≤ 65536 → first ≤ n → n < p.store.pool.geometry.pages → IsOwned s owner n true → ((m : ℕ) → m < n → first ≤ m → owned s owner m ≡ []) → IsNext (owned s owner) low (Some n)
  IsNext-found low first n behind few from less own none = (above low behind, some, λ m over under. none m under (reaches low behind m over))
    where
      above : (l : Option ℕ) → IsBehind l first → IsAbove l n
      above None behind = tt
      above (Some k) behind = omega (arith, behind, few, from, less)

      some : owned s owner n ≢ []
      some is =
          let bytes = owned-now want s p has owner n less own.0 own.1 in
          let long = (has.stands.whole n less).long in
          let short = ap (λ (x : List ℕ). length x) (sym bytes ∙ is) in
          omega (arith, long, short)

      reaches : (l : Option ℕ) → IsBehind l first → (m : ℕ) → IsAbove l m → first ≤ m
      reaches None behind m over = omega (arith, behind)
      reaches (Some k) behind m over = omega (arith, behind, over)

-- a refusal that means that the store is down isn't that it is full
pub IsFull-down : (total : ℕ) (s : Slots) (c : View) (e : SpaceFault) → MeansDown e → IsFull true total s c Fresh e
IsFull-down total s c Fault means = tt
IsFull-down total s c Down means = tt
IsFull-down total s c (DataFull used of) means = absurd means
IsFull-down total s c (TempFull used of) means = absurd means
IsFull-down total s c (LogFull used need of) means = absurd means
IsFull-down total s c (GatesFull used of) means = absurd means
IsFull-down total s c (Damaged page) means = absurd means
IsFull-down total s c NoMemory means = absurd means

-- what an answer is for the Ctx and the question that were handed in
pub handed-on : {T : Type 0} (r : Result T SpaceFault) (IsSo : View → Ask → Type 0) (v c : View) (a b : Ask) → v ≡ c → b ≡ a → OnOk r (IsSo v a) → OnOk r (IsSo c b)
handed-on (Ok x) IsSo v c a b same is so = subst (λ (x : Ask). IsSo c x) (sym is) (subst (λ (x : View). IsSo x a) same so)
handed-on (Err e) IsSo v c a b same is so = tt
