use Rattle.sb_map.proofs.Storing.{RemovesKey-changed}
use Rattle.sb_map.proofs.changes.remove.Goals as goal

pub returns-clause-removes : goal.returns-clause-removes
returns-clause-removes g c =
    RemovesKey-changed g.S.PageSpace.has g.S.PageSpace.leads c.args.place c.args.key.now c.args.space.now c.change.new.space c.change.result c.change.ensures.change c.change.ensures.becomes c.change.ensures.none
