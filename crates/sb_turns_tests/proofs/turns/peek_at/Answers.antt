use Rattle.sb_space.specs.View.{lent}
use Rattle.sb_space.proofs.GoingBack.{KeepsChanges-driven}
use Rattle.sb_turns_tests.proofs.turns.peek_at.Goals as goal

pub returns-in-Err-clause-changes : goal.returns-in-Err-clause-changes
returns-in-Err-clause-changes g c =
    KeepsChanges-driven g.D.Disk.told g.D.Disk.len g.D.Disk.faults 0 (lent c.args.pages.now) (lent c.answer.new.self) c.answer.ensures.leads

pub returns-clause-changes : goal.returns-clause-changes
returns-clause-changes g c =
    KeepsChanges-driven g.D.Disk.told g.D.Disk.len g.D.Disk.faults 0 (lent c.args.pages.now) (lent c.answer.new.self) c.answer.ensures.leads
