use Rattle.sb_space.specs.View.{lent}
use Rattle.sb_space.proofs.GoingBack.{KeepsChanges-driven}
use Rattle.sb_halves_tests.proofs.halves.next_page.Goals as goal

pub returns-in-Err-clause-changes : goal.returns-in-Err-clause-changes
returns-in-Err-clause-changes g c =
    KeepsChanges-driven g.D.Disk.told g.D.Disk.len g.D.Disk.faults 0 (lent c.args.pages.now) (lent c.answer-answered.new.self) c.answer-answered.ensures.leads

pub returns-in-Ok-clause-changes : goal.returns-in-Ok-clause-changes
returns-in-Ok-clause-changes g c =
    KeepsChanges-driven g.D.Disk.told g.D.Disk.len g.D.Disk.faults 0 (lent c.args.pages.now) (lent c.answer-answered.new.self) c.answer-answered.ensures.leads
