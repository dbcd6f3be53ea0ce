-- What waits for the commit, and marks on it.
use Rattle.std.specs.Prelude.{◌≡◌, ℕ, ◌≤◌, List, [], ◌∷◌, ◌++◌, length, take}
use Rattle.sb_rule.specs.declared.action.Action.{Action}
use Rattle.sb_relation.specs.Db.{Name}
use Rattle.sb_fold.specs.Outcome.{Entry, Queue, with_waiting}
use Rattle.sb_deferred.specs.declared.queue.QueueMark.{QueueMark}

abbrev pub nothing : Queue
nothing = record { actions = []; entries = [] }

-- the action behind the others
abbrev pub with_action : Queue → Action → Queue
with_action q a = record { actions = q.actions ++ a ∷ []; entries = q.entries }

abbrev pub check_of : Name → Name → List ℕ → Entry
check_of relation name entry = record { relation = relation; name = name; entry = entry }

-- the entry behind the others, unless it waits already
abbrev pub with_check : Queue → Entry → Queue
with_check q e = record { actions = q.actions; entries = with_waiting q.entries (e ∷ []) }

-- how much waits
abbrev pub mark_of : Queue → QueueMark
mark_of q = record { actions = length q.actions; entries = length q.entries }

-- as much as the mark says waits at least
pub record IsWithin (mark : QueueMark) (q : Queue) : Type 0 where
  pub actions : mark.actions ≤ length q.actions
  pub entries : mark.entries ≤ length q.entries

-- what waits without what came after the mark
abbrev pub cut_at : Queue → QueueMark → Queue
cut_at q mark = record { actions = take mark.actions q.actions; entries = take mark.entries q.entries }

-- what waited still waits, in front of all that came since
pub record IsFront (old new : Queue) : Type 0 where
  pub later_actions : List Action
  pub later_entries : List Entry
  pub actions : new.actions ≡ old.actions ++ later_actions
  pub entries : new.entries ≡ old.entries ++ later_entries
