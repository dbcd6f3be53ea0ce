use Rattle.sb_foreign.proofs.ExampleLaws.{MayBeMet-inserted, MayBeMet-updated}
use Rattle.sb_foreign_tests.proofs.foreign.change.Goals as goal

pub returns-in-Changes : goal.returns-in-Changes
returns-in-Changes g c = MayBeMet-updated _ _ _ _ c.key.ensures c.key-in-Changes.ensures c.row.ensures c.row-in-Changes.ensures

pub returns-in-Stands : goal.returns-in-Stands
returns-in-Stands g c = MayBeMet-inserted _ _ c.key-in-Stands.ensures c.row-in-Stands.ensures
