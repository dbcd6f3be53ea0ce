use Rattle.sb_run.specs.Run.{Read}
use Rattle.sb_run.proofs.running.run_boxes.Goals as goal

pub returns-in-Ok-Some-clause-run : goal.returns-in-Ok-Some-clause-run
returns-in-Ok-Some-clause-run g c = λ m taken. Read c.in-Ok-Some.words (rw c.in-Ok-Some.field-0-is at c.in-Ok-Some.ensures) (c.run_with.ensures.run m taken)
