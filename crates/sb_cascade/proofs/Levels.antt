-- A level of the fold, step by step.
use Rattle.std.proofs.Common.{◌≡◌, ℕ, suc, List, Option, Some, None, refl, sym, subst}
use Rattle.sb_rule.specs.declared.action.Action.{Action}
use Rattle.sb_rule.specs.declared.change.Change.{Change}
use Rattle.sb_relation.specs.Db.{Name, Key, Relation, relation_at}
use Rattle.sb_fold.specs.declared.refusal.Refusal.{Refusal}
use Rattle.sb_fold.specs.declared.refusal.Refusal.TheVariants.{Depth}
use Rattle.sb_fold.specs.Extensions.{Extensions}
use Rattle.sb_fold.specs.Fold.{act_all, answer_change, attachments_at, change_within, key_after, one_change, reach_change, unless_vetoed, vetoing}
use Rattle.sb_fold.specs.Outcome.{Trail, Going, Outcome, Gives, Stopped, NoStep, Work, made, continue, ◌>>=◌, with_picks}
use Rattle.sb_fold.specs.Wishes.{Wish, wished}
use Rattle.sb_cascade.specs.Runs.{MadeFrom, StopsFrom, row_change, row_of_relation}
use Rattle.sb_cascade.specs.Steps.{ask_all}
use Rattle.sb_cascade.proofs.Forward.{IsForward, forward_act_all, forward_ask_all, forward_made, forward_next, forward_within}
use Rattle.sb_cascade.proofs.Leading.{GoesFrom, goes_from, goes_made, goes_next, goes_then}
use Rattle.sb_cascade.proofs.Stopping.{stops_from, stops_here, stops_next, stops_then}

-- work behind work behind work
pub continue_parts : {A B C : Type 0} (o : Outcome A) (whole : A → Work C) (first : A → Work B) (next : B → Work C)
    → ((x : A) (g : Going) → whole x g ≡ continue next (first x g)) → continue whole o ≡ continue next (continue first o)
continue_parts (Gives x g) whole first next same = same x g
continue_parts (Stopped r trail) whole first next same = refl
continue_parts (NoStep trail) whole first next same = refl

-- ---- what is left of a change
-- behind the attachments
abbrev pub acting : Extensions → ℕ → Change → List Action → Work (Option Key)
acting ext n c following = act_all (change_within ext n) following >>= λ _. made (key_after c)

-- behind the row
abbrev pub answering : Extensions → ℕ → Name → Change → Work (Option Key)
answering ext n name c = ask_all ext name c >>= acting ext n c

answer_is : (ext : Extensions) (n : ℕ) (name : Name) (c : Change) (g : Going) → answer_change ext (change_within ext n) name c g ≡ answering ext n name c g
answer_is ext n name c g = continue_parts (unless_vetoed name (vetoing ext g.db name c (attachments_at g.db name)) g) _ _ _ (λ _ mid. refl)

one_is : (ext : Extensions) (n : ℕ) (name : Name) (wish : Wish) (r : Option Relation) (g : Going)
    → one_change ext (change_within ext n) name wish r g ≡ continue (answering ext n name) (row_of_relation ext name wish r g)
one_is ext n name wish None g = refl
one_is ext n name wish (Some r) g = continue_parts (wished name r wish g) _ _ _ (λ c mid. answer_is ext n name c (reach_change ext name r c mid))

level_is : (ext : Extensions) (n : ℕ) (name : Name) (wish : Wish) (g : Going)
    → change_within ext (suc n) name wish g ≡ (row_change ext name wish >>= answering ext n name) g
level_is ext n name wish g = one_is ext n name wish (relation_at g.db name) g

forward_acting : (ext : Extensions) (n : ℕ) (c : Change) (following : List Action) → IsForward (acting ext n c following)
forward_acting ext n c following = forward_next _ _ (forward_act_all (change_within ext n) (forward_within ext n) following) (λ _. forward_made (key_after c))

forward_answering : (ext : Extensions) (n : ℕ) (name : Name) (c : Change) → IsForward (answering ext n name c)
forward_answering ext n name c = forward_next _ _ (forward_ask_all ext name c) (forward_acting ext n c)

-- ---- a change with a level left
module _ {S : Type 0} (Stands : Going → S → Type 0) (Stopped : Refusal → Trail → S → Type 0) (ext : Extensions) (levels n : ℕ) (name : Name) (wish : Wish) (old : S) (is : levels ≡ suc n) where
  abbrev whole : ℕ → Work (Option Key)
  whole levels = change_within ext levels name wish

  -- the row wasn't changed
  pub not_changed : (r : Refusal) (new : S) → ((g : Going) → Stands g old → StopsFrom Stopped (row_change ext name wish) g r new)
      → (g : Going) → Stands g old → StopsFrom Stopped (change_within ext levels name wish) g r new
  not_changed r new stops g stands =
      subst (λ levels. StopsFrom Stopped (whole levels) g r new) (sym is)
      (stops_from Stopped (row_change ext name wish >>= answering ext n name) r new g (whole (suc n)) (λ left. level_is ext n name wish (with_picks g left))
      (stops_next Stopped (row_change ext name wish) r new g (answering ext n name) (forward_answering ext n name) (stops g stands)))

  module _ (Asks : Going → S → Type 0) (c : Change) (mid : S) (changed : (g : Going) → Stands g old → MadeFrom Asks (row_change ext name wish) g c mid) where
    row_changed : (g : Going) → Stands g old → GoesFrom Asks (whole (suc n)) g (answering ext n name c) mid
    row_changed g stands = goes_from (whole (suc n)) (λ left. level_is ext n name wish (with_picks g left)) (goes_next (answering ext n name) (changed g stands))

    -- an attachment vetoed it
    pub not_asked : (ext1 : Extensions) (r : Refusal) (new : S) → ext1 ≡ ext → ((g : Going) → Asks g mid → StopsFrom Stopped (ask_all ext1 name c) g r new)
        → (g : Going) → Stands g old → StopsFrom Stopped (change_within ext levels name wish) g r new
    not_asked ext1 r new same stops g stands =
        let stops0 : (h : Going) → Asks h mid → StopsFrom Stopped (ask_all ext name c) h r new =
        subst (λ (ext : Extensions). (h : Going) → Asks h mid → StopsFrom Stopped (ask_all ext name c) h r new) same stops in
        subst (λ levels. StopsFrom Stopped (whole levels) g r new) (sym is)
        (stops_then Stopped (answering ext n name c) r new (whole (suc n)) (row_changed g stands)
        (λ h asks. stops_next Stopped (ask_all ext name c) r new h (acting ext n c) (forward_acting ext n c) (stops0 h asks)))

    module _ (ext1 : Extensions) (following : List Action) (mid1 : S) (same1 : ext1 ≡ ext) (asked : (g : Going) → Asks g mid → MadeFrom Stands (ask_all ext1 name c) g following mid1) where
      all_asked : (g : Going) → Stands g old → GoesFrom Stands (whole (suc n)) g (acting ext n c following) mid1
      all_asked g stands =
          let asked0 : (h : Going) → Asks h mid → MadeFrom Stands (ask_all ext name c) h following mid1 =
          subst (λ (ext : Extensions). (h : Going) → Asks h mid → MadeFrom Stands (ask_all ext name c) h following mid1) same1 asked in
          goes_then (row_changed g stands) (λ h asks. goes_next (acting ext n c) (asked0 h asks))

      -- an action that follows was refused
      pub not_acted : (ext2 : Extensions) (r : Refusal) (new : S) → ext2 ≡ ext → ((g : Going) → Stands g mid1 → StopsFrom Stopped (act_all (change_within ext2 n) following) g r new)
          → (g : Going) → Stands g old → StopsFrom Stopped (change_within ext levels name wish) g r new
      not_acted ext2 r new same stops g stands =
          let stops0 : (h : Going) → Stands h mid1 → StopsFrom Stopped (act_all (change_within ext n) following) h r new =
          subst (λ (ext : Extensions). (h : Going) → Stands h mid1 → StopsFrom Stopped (act_all (change_within ext n) following) h r new) same stops in
          subst (λ levels. StopsFrom Stopped (whole levels) g r new) (sym is)
          (stops_then Stopped (acting ext n c following) r new (whole (suc n)) (all_asked g stands)
          (λ h stands. stops_next Stopped (act_all (change_within ext n) following) r new h (λ _. made (key_after c)) (λ _. forward_made (key_after c)) (stops0 h stands)))

      -- all of it was done
      pub all_acted : (ext2 : Extensions) (key : Option Key) (new : S) → ext2 ≡ ext → key ≡ key_after c
          → ((g : Going) → Stands g mid1 → MadeFrom Stands (act_all (change_within ext2 n) following) g tt new)
          → (g : Going) → Stands g old → MadeFrom Stands (change_within ext levels name wish) g key new
      all_acted ext2 key new same is_key acted g stands =
          let acted0 : (h : Going) → Stands h mid1 → MadeFrom Stands (act_all (change_within ext n) following) h tt new =
          subst (λ (ext : Extensions). (h : Going) → Stands h mid1 → MadeFrom Stands (act_all (change_within ext n) following) h tt new) same acted in
          subst (λ levels. MadeFrom Stands (whole levels) g key new) (sym is)
          (subst (λ key. MadeFrom Stands (whole (suc n)) g key new) (sym is_key)
          (goes_made (goes_then (all_asked g stands) (λ h stands. goes_next (λ _. made (key_after c)) (acted0 h stands)))))

-- no level is left
module _ {S : Type 0} (Stopped : Refusal → Trail → S → Type 0) (ext : Extensions) (levels : ℕ) (name : Name) (wish : Wish) (g : Going) (new : S) where
  pub no_level : levels ≡ 0 → Stopped Depth g.trail new → StopsFrom Stopped (change_within ext levels name wish) g Depth new
  no_level is stopped =
      subst (λ levels. StopsFrom Stopped (change_within ext levels name wish) g Depth new) (sym is)
      (stops_here Stopped (change_within ext 0 name wish) Depth new g refl (λ left. refl) stopped)
