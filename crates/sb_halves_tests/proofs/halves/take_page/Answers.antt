use Rattle.std.proofs.Common.{◌+◌}
use Rattle.sb_space.specs.SpaceLaws.{goes_on}
use Rattle.sb_space.specs.View.{lent}
use Rattle.sb_space.proofs.GoingBack.{KeepsChanges-driven}
use Rattle.sb_halves_tests.proofs.halves.take_page.Goals as goal

pub returns-in-Err-clause-changes : goal.returns-in-Err-clause-changes
returns-in-Err-clause-changes g c =
    KeepsChanges-driven g.D.Disk.told g.D.Disk.len g.D.Disk.faults 0 (lent c.args.pages.now) (lent c.answer.new.self) c.answer.ensures.leads

pub returns-clause-changes : goal.returns-clause-changes
returns-clause-changes g c =
    let told = g.D.Disk.told in
    let len = g.D.Disk.len in
    let faults = g.D.Disk.faults in
    let stored = c.store-stored.ensures.leads in
    KeepsChanges-driven told len faults (0 + stored.changes) (lent c.args.pages.now) (lent c.store-stored.new.self)
    (goes_on told len faults 0 stored.changes (lent c.args.pages.now) (lent c.answer.new.self) (lent c.store-stored.new.self) c.answer.ensures.leads stored.leads)
