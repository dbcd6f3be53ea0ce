use Rattle.std.proofs.Common.{ℕ, subst}
use Rattle.sb_space.specs.Durable.{parts_in}
use Rattle.sb_space.specs.View.{lent}
use Rattle.sb_space.specs.Works.{Serves}
use Rattle.sb_space.proofs.GoingBack.{KeepsChanges-driven}
use Rattle.sb_turns_tests.proofs.turns.drive.Goals as goal

pub returns : goal.returns
returns g c =
    let call = c.run_method-end.ensures in
    let led = call.leads in
    record {
      ready = subst (λ (tx : ℕ). Serves tx (parts_in g.D.Disk.told g.D.Disk.len (lent c.run_method-end.new.space))) led.1.tx call.ready;
      same_store = led.1.store;
      same_disk = led.1.disk;
      changes = KeepsChanges-driven g.D.Disk.told g.D.Disk.len g.D.Disk.faults led.0 (lent c.args.pages.now) (lent c.run_method-end.new.space) led.1;
    }
