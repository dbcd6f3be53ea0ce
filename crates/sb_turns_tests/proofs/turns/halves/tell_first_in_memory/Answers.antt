use Rattle.std.proofs.Common.{refl}
use Rattle.sb_space_tests.proofs.Scribing.{IsInstance-scribe}
use Rattle.sb_turns_tests.proofs.turns.halves.tell_first_in_memory.Goals as goal

pub drive_in_memory-told-requires : goal.drive_in_memory-told-requires
drive_in_memory-told-requires c = IsInstance-scribe _ 0 c.in_ok-inst.inst refl refl refl c.in_ok-inst.ensures
