-- Actions and their rows, one by one.
use Rattle.std.proofs.Common.{◌≡◌, ℕ, ◌+◌, ◌<◌, ◌≤◌, List, [], ◌∷◌, Option, Some, None, refl, sym, ap, ◌∙◌, subst, option_map, drop, length, add-zero, zero-add, add_assoc, Result, IfOk, IfErr}
use Rattle.std.proofs.lemmas.List.{drop_more, drop_all}
use Rattle.std.proofs.lemmas.Result.{IfOk-weaker, IfErr-weaker}
use Rattle.std.proofs.Math.ListN.{get_or}
use Rattle.std.specs.List.{flat_map}
use Rattle.sb_pred.specs.declared.predicate.Term.{Term}
use Rattle.sb_rule.specs.declared.action.Action.{Action}
use Rattle.sb_rule.specs.declared.action.Action.TheVariants as action
use Rattle.sb_relation.specs.Db.{Name, Key, Row}
use Rattle.sb_relation.specs.Fits.{relation_of}
use Rattle.sb_fold.specs.declared.refusal.Refusal.{Refusal}
use Rattle.sb_fold.specs.Extensions.{Extensions}
use Rattle.sb_fold.specs.Fold.{Changes, act, act_all, change_each, change_if, change_within, matching}
use Rattle.sb_fold.specs.Outcome.{Trail, Going, Outcome, Gives, Stopped, NoStep, Work, made, continue, ◌>>=◌, with_picks}
use Rattle.sb_fold.specs.Wishes.{Wish, Put, const_of}
use Rattle.sb_cascade.specs.declared.wish.Wish as code
use Rattle.sb_cascade.specs.Runs.{MadeFrom, StopsFrom}
use Rattle.sb_cascade.specs.Steps.{change_key, wish_there}
use Rattle.sb_cascade.specs.Wishes.{wish_of}
use Rattle.sb_cascade.proofs.Forward.{forward_act_all, forward_each, forward_made, forward_next, forward_within}
use Rattle.sb_cascade.proofs.Leading.{GoesFrom, goes_from, goes_here, goes_made, goes_next, goes_then}
use Rattle.sb_cascade.proofs.Levels.{continue_parts}
use Rattle.sb_cascade.proofs.Stopping.{stops_from, stops_next, stops_then}

next_is : {A : Type 0} (xs : List A) (i : ℕ) (x : A) → i < length xs → x ≡ get_or xs i x → drop i xs ≡ x ∷ drop (i + 1) xs
next_is xs i x lt is = drop_more xs i x lt ∙ ap (λ z. z ∷ drop (i + 1) xs) (sym is)

-- ---- actions in their order
-- those of so many first ones are done
abbrev pub Acting : {S : Type 0} → (Going → S → Type 0) → Extensions → ℕ → List Action → S → ℕ → S → Type 0
Acting Stands ext levels actions old i new =
    (g : Going) → Stands g old → GoesFrom Stands (act_all (change_within ext levels) actions) g (act_all (change_within ext levels) (drop i actions)) new

module _ {S : Type 0} (Stands : Going → S → Type 0) (Stopped : Refusal → Trail → S → Type 0) (ext : Extensions) (levels : ℕ) (actions : List Action) (old : S) where
  pub acting_none : Acting Stands ext levels actions old 0 old
  acting_none g stands = goes_here Stands (act_all (change_within ext levels) actions) g old stands

  module _ (i : ℕ) (a : Action) (mid : S) (ext1 : Extensions) (same : ext1 ≡ ext) (within : i < length actions) (is : a ≡ get_or actions i a) (acting : Acting Stands ext levels actions old i mid) where
    acting_next : (g : Going) → Stands g old → GoesFrom Stands (act_all (change_within ext levels) actions) g (act_all (change_within ext levels) (a ∷ drop (i + 1) actions)) mid
    acting_next g stands = subst (λ rest. GoesFrom Stands (act_all (change_within ext levels) actions) g (act_all (change_within ext levels) rest) mid) (next_is actions i a within is) (acting g stands)

    pub acting_more : (n : ℕ) (new : S) → ((g : Going) → Stands g mid → MadeFrom Stands (act (change_within ext1 levels) a) g n new) → Acting Stands ext levels actions old (i + 1) new
    acting_more n new made g stands =
        let made0 : (h : Going) → Stands h mid → MadeFrom Stands (act (change_within ext levels) a) h n new =
        subst (λ (ext : Extensions). (h : Going) → Stands h mid → MadeFrom Stands (act (change_within ext levels) a) h n new) same made in
        goes_then (acting_next g stands) (λ h stands. goes_next (λ _. act_all (change_within ext levels) (drop (i + 1) actions)) (made0 h stands))

    pub acting_stopped : (r : Refusal) (new : S) → ((g : Going) → Stands g mid → StopsFrom Stopped (act (change_within ext1 levels) a) g r new)
        → (g : Going) → Stands g old → StopsFrom Stopped (act_all (change_within ext levels) actions) g r new
    acting_stopped r new stops g stands =
        let stops0 : (h : Going) → Stands h mid → StopsFrom Stopped (act (change_within ext levels) a) h r new =
        subst (λ (ext : Extensions). (h : Going) → Stands h mid → StopsFrom Stopped (act (change_within ext levels) a) h r new) same stops in
        stops_then Stopped (act_all (change_within ext levels) (a ∷ drop (i + 1) actions)) r new (act_all (change_within ext levels) actions) (acting_next g stands)
        (λ h stands. stops_next Stopped (act (change_within ext levels) a) r new h (λ _. act_all (change_within ext levels) (drop (i + 1) actions))
        (λ _. forward_act_all (change_within ext levels) (forward_within ext levels) (drop (i + 1) actions)) (stops0 h stands))

  pub acting_all : (i : ℕ) (new : S) → length actions ≤ i → Acting Stands ext levels actions old i new
      → (g : Going) → Stands g old → MadeFrom Stands (act_all (change_within ext levels) actions) g tt new
  acting_all i new past acting g stands =
      goes_made (subst (λ rest. GoesFrom Stands (act_all (change_within ext levels) actions) g (act_all (change_within ext levels) rest) new) (drop_all i actions past) (acting g stands))

-- ---- the rows of keys
-- the rows of keys, behind so many rows
abbrev pub counting : Changes → Action → ℕ → List Key → Work ℕ
counting changes a count keys = change_each changes a keys >>= λ others. made (count + others)

count_none : (o : Outcome ℕ) → o ≡ continue (λ others. made (0 + others)) o
count_none (Gives n g) = ap (λ (n : ℕ). Gives n g) (sym (zero-add n))
count_none (Stopped r trail) = refl
count_none (NoStep trail) = refl

count_next : (changes : Changes) (a : Action) (count : ℕ) (key : Key) (keys : List Key) (g : Going)
    → counting changes a count (key ∷ keys) g ≡ (change_key changes a key >>= λ one. counting changes a (count + one) keys) g
count_next changes a count key keys g =
    sym (continue_parts (change_key changes a key g) (λ one. counting changes a (count + one) keys) (λ one. change_each changes a keys >>= λ others. made (one + others)) (λ others. made (count + others))
    (λ one h. continue_parts (change_each changes a keys h) (λ others. made ((count + one) + others)) (λ others. made (one + others)) (λ others. made (count + others))
    (λ others mid. ap (λ (n : ℕ). Gives n mid) (add_assoc count one others))))

-- those of so many first keys are done, and were so many
abbrev pub Counting : {S : Type 0} → (Going → S → Type 0) → Extensions → ℕ → Action → List Key → S → ℕ → ℕ → S → Type 0
Counting Stands ext levels a keys old i count new =
    (g : Going) → Stands g old → GoesFrom Stands (change_each (change_within ext levels) a keys) g (counting (change_within ext levels) a count (drop i keys)) new

module _ {S : Type 0} (Stands : Going → S → Type 0) (Stopped : Refusal → Trail → S → Type 0) (ext : Extensions) (levels : ℕ) (a : Action) (keys : List Key) (old : S) where
  abbrev each : Work ℕ
  each = change_each (change_within ext levels) a keys

  abbrev left_over : ℕ → List Key → Work ℕ
  left_over count keys = counting (change_within ext levels) a count keys

  pub counting_none : Counting Stands ext levels a keys old 0 0 old
  counting_none g stands = goes_from each (λ left. count_none (each (with_picks g left))) (goes_here Stands (left_over 0 keys) g old stands)

  module _ (i count : ℕ) (key : Key) (mid : S) (ext1 : Extensions) (same : ext1 ≡ ext) (within : i < length keys) (is : key ≡ get_or keys i key) (counted : Counting Stands ext levels a keys old i count mid) where
    abbrev on : ℕ → Work ℕ
    on one = left_over (count + one) (drop (i + 1) keys)

    counting_next : (g : Going) → Stands g old → GoesFrom Stands each g (change_key (change_within ext levels) a key >>= on) mid
    counting_next g stands =
        goes_then (subst (λ rest. GoesFrom Stands each g (left_over count rest) mid) (next_is keys i key within is) (counted g stands))
        (λ h stands. record { picks = []; after = h; leads = record { leads = λ left. count_next (change_within ext levels) a count key (drop (i + 1) keys) (with_picks h left) }; stands = stands })

    pub counting_more : (one : ℕ) (new : S) → ((g : Going) → Stands g mid → MadeFrom Stands (change_key (change_within ext1 levels) a key) g one new)
        → Counting Stands ext levels a keys old (i + 1) (count + one) new
    counting_more one new made g stands =
        let made0 : (h : Going) → Stands h mid → MadeFrom Stands (change_key (change_within ext levels) a key) h one new =
        subst (λ (ext : Extensions). (h : Going) → Stands h mid → MadeFrom Stands (change_key (change_within ext levels) a key) h one new) same made in
        goes_then (counting_next g stands) (λ h stands. goes_next on (made0 h stands))

    pub counting_stopped : (r : Refusal) (new : S) → ((g : Going) → Stands g mid → StopsFrom Stopped (change_key (change_within ext1 levels) a key) g r new)
        → (g : Going) → Stands g old → StopsFrom Stopped (change_each (change_within ext levels) a keys) g r new
    counting_stopped r new stops g stands =
        let stops0 : (h : Going) → Stands h mid → StopsFrom Stopped (change_key (change_within ext levels) a key) h r new =
        subst (λ (ext : Extensions). (h : Going) → Stands h mid → StopsFrom Stopped (change_key (change_within ext levels) a key) h r new) same stops in
        stops_then Stopped (change_key (change_within ext levels) a key >>= on) r new each (counting_next g stands)
        (λ h stands. stops_next Stopped (change_key (change_within ext levels) a key) r new h on
        (λ one. forward_next _ _ (forward_each (change_within ext levels) (forward_within ext levels) a (drop (i + 1) keys)) (λ others. forward_made _)) (stops0 h stands))

  pub counting_all : (i count : ℕ) (new : S) → length keys ≤ i → Counting Stands ext levels a keys old i count new
      → (g : Going) → Stands g old → MadeFrom Stands (change_each (change_within ext levels) a keys) g count new
  counting_all i count new past counted g stands =
      let run : MadeFrom Stands each g (count + 0) new = goes_made (subst (λ rest. GoesFrom Stands each g (left_over count rest) new) (drop_all i keys past) (counted g stands)) in
      subst (λ n. MadeFrom Stands each g n new) (add-zero count) run

-- ---- the row of a key
-- what is wished of it
abbrev pub Wished : {S : Type 0} → (Going → S → Type 0) → Action → Key → S → Option Wish → S → Type 0
Wished Stands a key old wish new =
    (g : Going) → Stands g old → (wish ≡ wish_there g.db a key) × Stands g new

wished_is : (changes : Changes) (a : Action) (key : Key) (wish : Option Wish) (g : Going) → wish ≡ wish_there g.db a key
    → (left : List Key) → change_key changes a key (with_picks g left) ≡ change_if changes (relation_of a) wish (with_picks g left)
wished_is changes a key wish g is left = ap (λ (wish : Option Wish). change_if changes (relation_of a) wish (with_picks g left)) (sym is)

module _ {S : Type 0} (Stands : Going → S → Type 0) (Stopped : Refusal → Trail → S → Type 0) (ext : Extensions) (levels : ℕ) (a : Action) (key : Key) (old mid : S) (x : Option code.Wish)
    (wished : Wished Stands a key old (option_map wish_of x) mid) where
  abbrev below : Changes
  below = change_within ext levels

  pub key_left : x ≡ None → (g : Going) → Stands g old → MadeFrom Stands (change_key (change_within ext levels) a key) g 0 mid
  key_left none g stands =
      let w = wished g stands in
      goes_made (goes_from (change_key below a key) (wished_is below a key None g (sym (ap (option_map wish_of) none) ∙ w.0)) (goes_here Stands (made 0) g mid w.1))

  module _ (wish : code.Wish) (name : Name) (ext1 : Extensions) (some : x ≡ Some wish) (named : name ≡ relation_of a) (same : ext1 ≡ ext) where
    some_is : (g : Going) → Stands g old → (left : List Key) → change_key below a key (with_picks g left) ≡ (below (relation_of a) (wish_of wish) >>= λ _. made 1) (with_picks g left)
    some_is g stands = wished_is below a key (Some (wish_of wish)) g (sym (ap (option_map wish_of) some) ∙ (wished g stands).0)

    pub key_changed : (k : Option Key) (new : S) → ((g : Going) → Stands g mid → MadeFrom Stands (change_within ext1 levels name (wish_of wish)) g k new)
        → (g : Going) → Stands g old → MadeFrom Stands (change_key (change_within ext levels) a key) g 1 new
    key_changed k new run g stands =
        let run1 : MadeFrom Stands (change_within ext levels name (wish_of wish)) g k new = subst (λ (ext : Extensions). MadeFrom Stands (change_within ext levels name (wish_of wish)) g k new) same (run g (wished g stands).1) in
        let run0 : MadeFrom Stands (below (relation_of a) (wish_of wish)) g k new = subst (λ (name : Name). MadeFrom Stands (change_within ext levels name (wish_of wish)) g k new) named run1 in
        goes_made (goes_from (change_key below a key) (some_is g stands) (goes_next (λ _. made 1) run0))

    pub key_stopped : (r : Refusal) (new : S) → ((g : Going) → Stands g mid → StopsFrom Stopped (change_within ext1 levels name (wish_of wish)) g r new)
        → (g : Going) → Stands g old → StopsFrom Stopped (change_key (change_within ext levels) a key) g r new
    key_stopped r new stops g stands =
        let stops1 : StopsFrom Stopped (change_within ext levels name (wish_of wish)) g r new = subst (λ (ext : Extensions). StopsFrom Stopped (change_within ext levels name (wish_of wish)) g r new) same (stops g (wished g stands).1) in
        let stops0 : StopsFrom Stopped (below (relation_of a) (wish_of wish)) g r new = subst (λ (name : Name). StopsFrom Stopped (change_within ext levels name (wish_of wish)) g r new) named stops1 in
        stops_from Stopped (below (relation_of a) (wish_of wish) >>= λ _. made 1) r new g (change_key below a key) (some_is g stands)
        (stops_next Stopped (below (relation_of a) (wish_of wish)) r new g (λ _. made 1) (λ _. forward_made 1) stops0)

-- ---- an action
-- an insert
module _ {S : Type 0} (Stands : Going → S → Type 0) (Stopped : Refusal → Trail → S → Type 0) (ext : Extensions) (levels : ℕ) (a : Action) (old : S)
    (name : Name) (terms : List Term) (row : Row) (is : a ≡ action.Insert name terms) (row_is : row ≡ flat_map const_of terms) where
  pub inserted : (key : Option Key) (new : S) → ((g : Going) → Stands g old → MadeFrom Stands (change_within ext levels name (Put row)) g key new)
      → (g : Going) → Stands g old → MadeFrom Stands (act (change_within ext levels) a) g 1 new
  inserted key new run g stands =
      let run0 : MadeFrom Stands (change_within ext levels name (Put (flat_map const_of terms))) g key new =
      subst (λ (row : Row). MadeFrom Stands (change_within ext levels name (Put row)) g key new) row_is (run g stands) in
      let whole : MadeFrom Stands (act (change_within ext levels) (action.Insert name terms)) g 1 new = goes_made (goes_next (λ _. made 1) run0) in
      subst (λ (a : Action). MadeFrom Stands (act (change_within ext levels) a) g 1 new) (sym is) whole

  pub not_inserted : (r : Refusal) (new : S) → ((g : Going) → Stands g old → StopsFrom Stopped (change_within ext levels name (Put row)) g r new)
      → (g : Going) → Stands g old → StopsFrom Stopped (act (change_within ext levels) a) g r new
  not_inserted r new stops g stands =
      let stops0 : StopsFrom Stopped (change_within ext levels name (Put (flat_map const_of terms))) g r new =
      subst (λ (row : Row). StopsFrom Stopped (change_within ext levels name (Put row)) g r new) row_is (stops g stands) in
      subst (λ (a : Action). StopsFrom Stopped (act (change_within ext levels) a) g r new) (sym is)
      (stops_next Stopped (change_within ext levels name (Put (flat_map const_of terms))) r new g (λ _. made 1) (λ _. forward_made 1) stops0)

-- any other one is of the rows that match
other_is : (changes : Changes) (a : Action) (g : Going) → ((name : Name) (terms : List Term) → a ≡ action.Insert name terms → ⊥) → act changes a g ≡ change_each changes a (matching g.db a) g
other_is changes (action.Insert name terms) g other = absurd (other name terms refl)
other_is changes (action.Delete name pairs) g other = refl
other_is changes (action.Set name column term pairs) g other = refl
other_is changes (action.Add name column term pairs) g other = refl

module _ {S : Type 0} (Stands : Going → S → Type 0) (Stopped : Refusal → Trail → S → Type 0) (ext : Extensions) (levels : ℕ) (a : Action) (old mid : S) (keys : List Key) (ext1 : Extensions)
    (other : (name : Name) (terms : List Term) → a ≡ action.Insert name terms → ⊥) (same : ext1 ≡ ext) (matched : (g : Going) → Stands g old → (keys ≡ matching g.db a) × Stands g mid) where
  abbrev rows : Work ℕ
  rows = change_each (change_within ext levels) a keys

  rows_are : (g : Going) → Stands g old → (left : List Key) → act (change_within ext levels) a (with_picks g left) ≡ rows (with_picks g left)
  rows_are g stands left =
      other_is (change_within ext levels) a (with_picks g left) other
      ∙ ap (λ (keys : List Key). change_each (change_within ext levels) a keys (with_picks g left)) (sym (matched g stands).0)

  pub all_changed : (x : Result ℕ Refusal) (new : S) → IfOk x (λ n. (g : Going) → Stands g mid → MadeFrom Stands (change_each (change_within ext1 levels) a keys) g n new)
      → IfOk x (λ n. (g : Going) → Stands g old → MadeFrom Stands (act (change_within ext levels) a) g n new)
  all_changed x new =
      IfOk-weaker x (λ n. (g : Going) → Stands g mid → MadeFrom Stands (change_each (change_within ext1 levels) a keys) g n new)
      (λ n. (g : Going) → Stands g old → MadeFrom Stands (act (change_within ext levels) a) g n new)
      (λ n run g stands.
      let run0 : MadeFrom Stands rows g n new = subst (λ (ext : Extensions). MadeFrom Stands (change_each (change_within ext levels) a keys) g n new) same (run g (matched g stands).1) in
      let whole : GoesFrom Stands (act (change_within ext levels) a) g (made n) new =
      goes_from (act (change_within ext levels) a) (rows_are g stands) (record { picks = run0.picks; after = run0.after; leads = run0.leads; stands = run0.stands }) in
      goes_made whole)

  pub not_all_changed : (x : Result ℕ Refusal) (new : S) → IfErr x (λ r. (g : Going) → Stands g mid → StopsFrom Stopped (change_each (change_within ext1 levels) a keys) g r new)
      → IfErr x (λ r. (g : Going) → Stands g old → StopsFrom Stopped (act (change_within ext levels) a) g r new)
  not_all_changed x new =
      IfErr-weaker x (λ r. (g : Going) → Stands g mid → StopsFrom Stopped (change_each (change_within ext1 levels) a keys) g r new)
      (λ r. (g : Going) → Stands g old → StopsFrom Stopped (act (change_within ext levels) a) g r new)
      (λ r stops g stands.
      let stops0 : StopsFrom Stopped rows g r new = subst (λ (ext : Extensions). StopsFrom Stopped (change_each (change_within ext levels) a keys) g r new) same (stops g (matched g stands).1) in
      stops_from Stopped rows r new g (act (change_within ext levels) a) (rows_are g stands) stops0)
