-- Laws of queues and their marks.
use Rattle.std.specs.Prelude.{◌≡◌}
use Rattle.sb_rule.specs.declared.action.Action.{Action}
use Rattle.sb_fold.specs.Outcome.{Entry, Queue}
use Rattle.sb_deferred.specs.Waiting.{with_action, with_check, mark_of, cut_at, IsWithin, IsFront}

-- a mark that is within what waits now, and what a cut to it gives
pub record GivesBack (old new : Queue) : Type 0 where
  pub within : IsWithin (mark_of old) new
  pub cut : cut_at new (mark_of old) ≡ old

-- Where what waited is the front of what waits now, its mark is within that, and to cut back to it gives what waited.
abbrev pub CutGivesWhatWaited : Type 0
CutGivesWhatWaited = (old new : Queue) → IsFront old new → GivesBack old new

abbrev pub ActionsComeLast : Type 0
ActionsComeLast = (old : Queue) (a : Action) → IsFront old (with_action old a)

abbrev pub ChecksComeLast : Type 0
ChecksComeLast = (old : Queue) (e : Entry) → IsFront old (with_check old e)

abbrev pub NothingIsLost : Type 0
NothingIsLost = (old : Queue) → IsFront old old

abbrev pub FrontsAddUp : Type 0
FrontsAddUp = (a b c : Queue) → IsFront a b → IsFront b c → IsFront a c
