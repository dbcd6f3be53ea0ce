use Rattle.sb_ctx.specs.View.{IsClean}
use Rattle.sb_memory.specs.Contents.{slots}
use Rattle.sb_drive.specs.Spaces.{HoldsOf}
use Rattle.sb_drive_tests.proofs.drive.finds.Given as goal

abbrev pub invariant-loop-answered : goal.invariant-loop-answered
invariant-loop-answered g l = record {
  clean : IsClean l.ctx;
  holds : HoldsOf (slots l.memory.now) l.inst.owner l.ctx;
}
