-- What is so where no test refuses a command.
use Rattle.std.proofs.Common.{◌≡◌, ℕ, ◌==◌, ◌||◌, Bool, true, false, true≢false, cond, List, [], ◌∷◌, map, Option, Some, None, is_none, option_map, refl, sym}
use Rattle.std.specs.List.{AllByRecursion, find, list_any}
use Rattle.std.specs.Option.{option_or}
use Rattle.std.specs.Prelude.{not}
use Rattle.std.proofs.lemmas.Bool.{not-false}
use Rattle.sb_fold.specs.declared.refusal.Refusal.{Refusal}
use Rattle.sb_fold.specs.declared.refusal.Refusal.TheVariants as refusal
use Rattle.sb_fold.specs.Extensions.{Extensions}
use Rattle.sb_relation.specs.Db.{Name}
use Rattle.sb_relation.specs.Fits.{first_missing}
use Rattle.sb_plain.specs.declared.command.Command.{Command}
use Rattle.sb_plain.specs.Refusing.{first_absent, first_existing, first_of, first_use, is_misplaced, is_mixed, is_well_kinded, missing_code, passes_limits, refuse_where, refused, relations_of, some_where, tests}
use Rattle.sb_plain.specs.State.{State, view}

-- no test refuses the command
pub record IsPassed (ext : Extensions) (s : State) (c : Command) : Type 0 where
  pub place : is_misplaced s c ≡ false
  pub there : first_missing (view s) (relations_of c) ≡ None
  pub new : first_existing s c ≡ None
  pub named : first_absent s c ≡ None
  pub coded : missing_code s c ≡ None
  pub unused : first_use (view s) c ≡ None
  pub fits : is_well_kinded ext (view s) c ≡ true
  pub alike : is_mixed ext (view s) c ≡ false
  pub within : passes_limits s c ≡ false

all_none : (os : List (Option Refusal)) → first_of os ≡ None → AllByRecursion (λ o. o ≡ None) os
all_none [] e = tt
all_none (None ∷ os) e = (refl, all_none os e)
all_none (Some r ∷ os) e = absurd (cc)

not_refused : (b : Bool) (r : Refusal) → refuse_where b r ≡ None → b ≡ false
not_refused true r e = absurd (cc)
not_refused false r e = refl

pub none_mapped : {A B : Type 0} (f : A → B) (o : Option A) → option_map f o ≡ None → o ≡ None
none_mapped f None e = refl
none_mapped f (Some x) e = absurd (cc)

pub passed : (ext : Extensions) (s : State) (c : Command) → refused ext s c ≡ None → IsPassed ext s c
passed ext s c e =
    let a = all_none (tests ext s c) e in
    record {
      place = not_refused (is_misplaced s c) refusal.State a.1.0;
      there = none_mapped refusal.NoRelation (first_missing (view s) (relations_of c)) a.1.1.0;
      new = none_mapped refusal.Exists (first_existing s c) a.1.1.1.0;
      named = none_mapped refusal.NoName (first_absent s c) a.1.1.1.1.0;
      coded = none_mapped refusal.NoExtension (missing_code s c) a.1.1.1.1.1.0;
      unused = none_mapped (λ (user : Name × Name). refusal.InUse user.0 user.1) (first_use (view s) c) a.1.1.1.1.1.1.0;
      fits = not-false (is_well_kinded ext (view s) c) (not_refused (not (is_well_kinded ext (view s) c)) refusal.Mistyped a.1.1.1.1.1.1.1.0);
      alike = not_refused (is_mixed ext (view s) c) refusal.Mixed a.1.1.1.1.1.1.1.1.0;
      within = not_refused (passes_limits s c) refusal.Limit a.1.1.1.1.1.1.1.1.1.0;
    }

-- ---- small facts
pub no_first : {A : Type 0} (a b : Option A) → option_or a b ≡ None → (a ≡ None) × (b ≡ None)
no_first None b e = (refl, e)
no_first (Some x) b e = absurd (cc)

pub not_some : (b : Bool) (name : Name) → some_where b name ≡ None → b ≡ false
not_some true name e = absurd (cc)
not_some false name e = refl

pub some_of : {A : Type 0} (o : Option A) → is_none o ≡ false → (x : A) × (o ≡ Some x)
some_of None e = absurd (true≢false e)
some_of (Some x) e = (x, refl)

-- the first of the names isn't missing, and none of the others is
pub found_first : {A : Type 0} (at : Name → Option A) (name : Name) (names : List Name) → find (λ n. is_none (at n)) (name ∷ names) ≡ None
    → ((x : A) × (at name ≡ Some x)) × (find (λ n. is_none (at n)) names ≡ None)
found_first {A} at name names e = of_test (is_none (at name)) refl e
  where
    of_test : (b : Bool) → is_none (at name) ≡ b → cond b (Some name) (find (λ n. is_none (at n)) names) ≡ None
        → ((x : A) × (at name ≡ Some x)) × (find (λ n. is_none (at n)) names ≡ None)
    of_test true is e = absurd (cc)
    of_test false is e = (some_of (at name) is, e)

-- a box has a code that stands among those of boxes
pub has_box : {M : Type 0} (code_in : M → ℕ) (code : ℕ) (boxes : List M) → list_any (λ c. c == code) (map code_in boxes) ≡ true
    → (x : M) × (find (λ m. code_in m == code) boxes ≡ Some x)
has_box {M} code_in code [] e = absurd (true≢false (sym e))
has_box {M} code_in code (m ∷ boxes) e = of_test (code_in m == code) e (λ is. has_box code_in code boxes is)
  where
    of_test : (b : Bool) → (b || list_any (λ c. c == code) (map code_in boxes)) ≡ true
        → (list_any (λ c. c == code) (map code_in boxes) ≡ true → (x : M) × (find (λ m. code_in m == code) boxes ≡ Some x)) → (x : M) × (cond b (Some m) (find (λ m. code_in m == code) boxes) ≡ Some x)
    of_test true e rest = (m, refl)
    of_test false e rest = rest e
