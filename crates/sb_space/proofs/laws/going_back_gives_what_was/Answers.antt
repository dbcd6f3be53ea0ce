use Rattle.sb_space.proofs.GoingBack.{WasAt-mark, WasAt-driven, Stands-driven, KeepsChanges-driven, IsSameSpace-driven}
use Rattle.sb_space.proofs.laws.going_back_gives_what_was.Goals as goal

pub returns : goal.returns
returns g c =
    let told = g.D.Disk.told in
    let len = g.D.Disk.len in
    let faults = g.D.Disk.faults in
    record {
      mark = WasAt-mark;
      was = WasAt-driven told len faults;
      wanted = Stands-driven told len faults;
      changes = KeepsChanges-driven told len faults;
      space = IsSameSpace-driven told len faults;
    }
