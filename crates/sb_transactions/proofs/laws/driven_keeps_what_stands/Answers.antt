use Rattle.sb_transactions.proofs.DrivenLemmas.{driven-begun, driven-each, driven-leaves, driven-points, driven-stands, goes-works, running-stands}
use Rattle.sb_transactions.proofs.laws.driven_keeps_what_stands.Goals as goal

pub returns-clause-stands : goal.returns-clause-stands
returns-clause-stands g c = driven-stands g.D.Disk.told g.D.Disk.len g.D.Disk.faults

pub returns-clause-points : goal.returns-clause-points
returns-clause-points g c = driven-points g.D.Disk.told g.D.Disk.len g.D.Disk.faults

pub returns-clause-each_point : goal.returns-clause-each_point
returns-clause-each_point g c = driven-each g.D.Disk.told g.D.Disk.len g.D.Disk.faults

pub returns-clause-begun : goal.returns-clause-begun
returns-clause-begun g c = driven-begun g.D.Disk.told g.D.Disk.len g.D.Disk.faults

pub returns-clause-any_moment : goal.returns-clause-any_moment
returns-clause-any_moment g c = driven-leaves g.D.Disk.told g.D.Disk.len g.D.Disk.faults

pub returns-clause-goes : goal.returns-clause-goes
returns-clause-goes g c = goes-works g.D.Disk.told g.D.Disk.len g.D.Disk.faults g.B.Boxes.meanings

pub returns-clause-running : goal.returns-clause-running
returns-clause-running g c = running-stands g.D.Disk.told g.D.Disk.len g.D.Disk.faults g.B.Boxes.meanings
