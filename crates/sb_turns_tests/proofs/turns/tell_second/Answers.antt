use Rattle.std.proofs.Common.{refl}
use Rattle.sb_space_tests.proofs.Scribing.{IsInstance-scribe}
use Rattle.sb_turns_tests.proofs.turns.tell_second.Goals as goal

pub drive-told-requires-clause-inst : goal.drive-told-requires-clause-inst
drive-told-requires-clause-inst g c = IsInstance-scribe _ 1 c.in_ok-inst.inst refl refl refl c.in_ok-inst.ensures
