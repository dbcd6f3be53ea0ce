use Rattle.std.proofs.Common.{◌≡◌}
use Rattle.sb_foreign.specs.Legends.{entry_of}
use Rattle.sb_foreign.proofs.LegendLaws.{Looks-entry, Looks-end}
use Rattle.sb_foreign.proofs.legend.LegendAttachment.next_entry.Goals as goal

pub returns-in_default : goal.returns-in_default
returns-in_default c = Looks-end _ _ _ _ c.in_default.ensures

pub returns-in-Ok : goal.returns-in-Ok
returns-in-Ok c =
    let is : (c.in-Ok.first, c.in-Ok.second) ≡ entry_of c.in-Some.sign = cc (c.in-Ok.ensures, c.in-Ok.first-is, c.in-Ok.second-is) in
    Looks-entry _ _ _ c.in-Some.sign (c.in-Ok.first, c.in-Ok.second) _ is c.in-Some.ensures
