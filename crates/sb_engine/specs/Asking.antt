-- What an attachment that was asked leaves to be done.
use Rattle.std.specs.Prelude.{ℕ, List, ◌++◌, map}
use Rattle.sb_rule.specs.declared.action.Action.{Action}
use Rattle.sb_relation.specs.Db.{Name}
use Rattle.sb_fold.specs.Outcome.{Queue, with_waiting}
use Rattle.sb_deferred.specs.Waiting.{check_of}

-- some actions and entries of an attachment behind what waits
abbrev pub with_late : Queue → Name → Name → List Action → List (List ℕ) → Queue
with_late q relation name late checks = record {
  actions = q.actions ++ late;
  entries = with_waiting q.entries (map (λ entry. check_of relation name entry) checks);
}
