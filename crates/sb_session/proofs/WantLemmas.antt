-- To which commits memory or room may be wanting, and what keeps what is wanted.
use Rattle.std.proofs.Common.{◌≡◌, ℕ, Bool, true, false, not, ◌&&◌, List, [], ◌∷◌, Some, refl, ap, ◌∙◌}
use Rattle.sb_rule.specs.declared.action.Action.{Action}
use Rattle.sb_fold.specs.Outcome.{Entry}
use Rattle.sb_deferred.specs.Waiting.{nothing}
use Rattle.sb_plain.specs.declared.command.Command.TheVariants as command
use Rattle.sb_plain.specs.Licences.{is_none_gone, may_want_memory, may_want_room}
use Rattle.sb_plain.specs.State.{State, Transaction}
use Rattle.sb_txn.specs.Parts.{Parts}
use Rattle.sb_txn.proofs.KeepsLemmas.{LeavesWanted-none}
use Rattle.sb_transactions.specs.Calls.{KeepsWanted}
use Rattle.sb_transactions.specs.Working.{IsNoneGone}

-- whether something waits or is gone
abbrev is_left : List Action → List Entry → List ℕ → List ℕ → Bool
is_left actions entries durable others =
    not ((elim actions as (λ _. Bool) [ [] ↦ true | a ∷ more ↦ false ]) && (elim entries as (λ _. Bool) [ [] ↦ true | e ∷ more ↦ false ])
    && is_none_gone (record { durable = durable; others = others }))

some_left : (actions : List Action) (entries : List Entry) (durable others : List ℕ) → (actions ≡ [] → entries ≡ [] → durable ≡ [] → others ≡ [] → ⊥)
    → is_left actions entries durable others ≡ true
some_left [] [] [] [] never = absurd (never refl refl refl refl)
some_left [] [] [] (n ∷ others) never = refl
some_left [] [] (n ∷ durable) others never = refl
some_left [] (e ∷ entries) durable others never = refl
some_left (a ∷ actions) entries durable others never = refl

-- whether an action waits or something is gone
abbrev is_pending : List Action → List ℕ → List ℕ → Bool
is_pending actions durable others =
    not ((elim actions as (λ _. Bool) [ [] ↦ true | a ∷ more ↦ false ]) && is_none_gone (record { durable = durable; others = others }))

some_pending : (actions : List Action) (durable others : List ℕ) → (actions ≡ [] → durable ≡ [] → others ≡ [] → ⊥) → is_pending actions durable others ≡ true
some_pending [] [] [] never = absurd (never refl refl refl)
some_pending [] [] (n ∷ others) never = refl
some_pending [] (n ∷ durable) others never = refl
some_pending (a ∷ actions) durable others never = refl

-- room is wanting to one of a transaction in which an action waits or something is gone
pub may_want_room-commit : (s : State) (t : Transaction) → s.transaction ≡ Some t → (t.queue.actions ≡ [] → IsNoneGone t.gone → ⊥)
    → may_want_room s command.Commit ≡ true
may_want_room-commit s t inside never =
    ap (λ (x : State). may_want_room x command.Commit) within
    ∙ some_pending t.queue.actions t.gone.durable t.gone.others
    (λ actions durable others. never actions (record { durable = durable; others = others }))
  where
    within : s ≡ record s { transaction = Some t }
    within = λ i. record s { transaction = inside i }

-- memory is wanting to one of a transaction in which something is left
pub may_want_memory-commit : (s : State) (t : Transaction) → s.transaction ≡ Some t → (t.queue ≡ nothing → IsNoneGone t.gone → ⊥)
    → may_want_memory s command.Commit ≡ true
may_want_memory-commit s t inside never =
    ap (λ (x : State). may_want_memory x command.Commit) within
    ∙ some_left t.queue.actions t.queue.entries t.gone.durable t.gone.others
    (λ actions entries durable others.
    never (λ i. record { actions = actions i; entries = entries i }) (record { durable = durable; others = others }))
  where
    within : s ≡ record s { transaction = Some t }
    within = λ i. record s { transaction = inside i }

-- ---- what keeps what is wanted
pub KeepsWanted-none : (p : Parts) → KeepsWanted p p
KeepsWanted-none p = record { leaves = LeavesWanted-none p; stays = λ up want now holds. (now, holds) }
