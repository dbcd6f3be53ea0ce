use Rattle.sb_lawful_plays.proofs.Playing.{runs-lawful, made-lawful}
use Rattle.sb_lawful_plays.proofs.laws.runs_are_lawful.Goals as goal

pub returns-clause-runs : goal.returns-clause-runs
returns-clause-runs g c = runs-lawful g.D.Disk.told g.D.Disk.faults

pub returns-clause-made : goal.returns-clause-made
returns-clause-made g c = made-lawful g.D.Disk.told g.D.Disk.faults
