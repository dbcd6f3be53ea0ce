-- A trigger that makes work for itself without end meets the bound on the actions of one commit.
use Rattle.std.specs.Prelude.{◌≡◌, refl, codes, List, [], ◌∷◌, map, true, Option, Some, None}
use Rattle.std.specs.Int.{to_be_bytes, w64}
use Rattle.std.specs.List.{range_with_len}
use Rattle.sb_pred.specs.declared.predicate.Term.TheVariants.{Const, New}
use Rattle.sb_pred.specs.Tree.{Always}
use Rattle.sb_rule.specs.declared.rule.Event.TheVariants as event
use Rattle.sb_rule.specs.declared.action.Action.TheVariants as action
use Rattle.sb_rule.specs.declared.rule.Rule.TheVariants.{Trigger}
use Rattle.sb_relation.specs.Db.{Key, Relation, int_column}
use Rattle.sb_fold.specs.declared.refusal.Refusal.{Refusal}
use Rattle.sb_fold.specs.declared.refusal.Refusal.TheVariants.{DeferLimit}
use Rattle.sb_fold.specs.Finish.{drain}
use Rattle.sb_fold.specs.Outcome.{Outcome, Gives, Stopped, NoStep, Going, begun}
use Rattle.sb_plain.specs.State.{none_gone}
use Rattle.sb_plain.proofs.Scripts.{no_extensions, int}

abbrev many : List Key
many = map (to_be_bytes w64) (range_with_len 1 101)

-- create g using heap (x int); attach trigger again on g after insert when always do insert g values (new.x) deferred
abbrev again : Relation
again = record {
  method = 1;
  schema = int_column (codes "x") ∷ [];
  key = [];
  rows = [];
  attachments = record { name = codes "again"; rule = Trigger event.Insert Always (action.Insert (codes "g") (New (codes "x") ∷ [])) true; buckets = 0 } ∷ [];
}

-- the first action waits
abbrev waiting : Going
waiting = begun ((codes "g", again) ∷ []) (record { actions = action.Insert (codes "g") (Const (int 1) ∷ []) ∷ []; entries = [] }) none_gone 0 many

abbrev refusal_of : {A : Type 0} → Outcome A → Option Refusal
refusal_of (Gives x going) = None
refusal_of (Stopped r trail) = Some r
refusal_of (NoStep trail) = None

-- with a bound of 100 actions
it_ends : refusal_of (drain no_extensions 100 waiting) ≡ Some DeferLimit
it_ends = refl
