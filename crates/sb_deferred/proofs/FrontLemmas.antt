-- What waited and what came behind it.
use Rattle.std.proofs.Common.{◌≡◌, ◌≤◌, List, [], ◌∷◌, ◌++◌, length, take, Bool, true, false, cond, refl, ap, ◌∙◌, append_assoc, arith}
use Rattle.std.proofs.Math.Seq.{take-append_seam}
use Rattle.std.proofs.lemmas.List.{length-append}
use Rattle.std.specs.List.{list_any}
use Rattle.sb_rule.specs.declared.action.Action.{Action}
use Rattle.sb_fold.specs.Outcome.{Entry, Queue, is_entry}
use Rattle.sb_deferred.specs.Waiting.{with_action, with_check, IsFront}
use Rattle.sb_deferred.specs.Laws.{GivesBack}

front_within : {A : Type 0} (old later new : List A) → new ≡ old ++ later → length old ≤ length new
front_within old later new is = omega (arith, ap length is, length-append old later)

front_taken : {A : Type 0} (old later new : List A) → new ≡ old ++ later → take (length old) new ≡ old
front_taken old later new is = ap (take (length old)) is ∙ take-append_seam old later

pub cut-front : (old new : Queue) → IsFront old new → GivesBack old new
cut-front old new front = record {
  within = record {
    actions = front_within old.actions front.later_actions new.actions front.actions;
    entries = front_within old.entries front.later_entries new.entries front.entries;
  };
  cut = λ i. record {
    actions = front_taken old.actions front.later_actions new.actions front.actions i;
    entries = front_taken old.entries front.later_entries new.entries front.entries i;
  };
}

append_nil : {A : Type 0} (xs : List A) → xs ≡ xs ++ []
append_nil [] = refl
append_nil (x ∷ xs) = ap (λ ys. x ∷ ys) (append_nil xs)

pub IsFront-same : (old : Queue) → IsFront old old
IsFront-same old = record { later_actions = []; later_entries = []; actions = append_nil old.actions; entries = append_nil old.entries }

pub IsFront-action : (old : Queue) (a : Action) → IsFront old (with_action old a)
IsFront-action old a = record { later_actions = a ∷ []; later_entries = []; actions = refl; entries = append_nil old.entries }

pub IsFront-check : (old : Queue) (e : Entry) → IsFront old (with_check old e)
IsFront-check old e = by (list_any (is_entry e) old.entries) refl
  where
    by : (b : Bool) → list_any (is_entry e) old.entries ≡ b → IsFront old (with_check old e)
    by true waits = record { later_actions = []; later_entries = []; actions = append_nil old.actions; entries = ap (λ b. cond b old.entries (old.entries ++ e ∷ [])) waits ∙ append_nil old.entries }
    by false new = record { later_actions = []; later_entries = e ∷ []; actions = append_nil old.actions; entries = ap (λ b. cond b old.entries (old.entries ++ e ∷ [])) new }

pub IsFront-then : (a b c : Queue) → IsFront a b → IsFront b c → IsFront a c
IsFront-then a b c first second = record {
  later_actions = first.later_actions ++ second.later_actions;
  later_entries = first.later_entries ++ second.later_entries;
  actions = second.actions ∙ ap (λ xs. xs ++ second.later_actions) first.actions ∙ append_assoc a.actions first.later_actions second.later_actions;
  entries = second.entries ∙ ap (λ xs. xs ++ second.later_entries) first.entries ∙ append_assoc a.entries first.later_entries second.later_entries;
}
