use Rattle.sb_building.specs.Goings.{goes_none}
use Rattle.sb_statements.proofs.statements.stay.Goals as goal

pub returns-clause-goes : goal.returns-clause-goes
returns-clause-goes g c = goes_none g.S.PageSpace.leads g.met.S.PageSpace.stays c.args.running.now
