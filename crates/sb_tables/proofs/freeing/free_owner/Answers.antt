use Rattle.sb_drive.proofs.SpacesLemmas.{LeadsWithin-more, LeadsWithin-none}
use Rattle.sb_tables.proofs.FreedLemmas.{freed_on, passed}
use Rattle.sb_tables.proofs.SpendingLemmas.{free_one}
use Rattle.sb_tables.proofs.freeing.free_owner.Goals as goal

pub returns-then-owner-gt-CATALOGUE-clause-freed : goal.returns-then-owner-gt-CATALOGUE-clause-freed
returns-then-owner-gt-CATALOGUE-clause-freed g c =
    freed_on g.S.PageSpace.has c.args.owner c.args.space.now c.free_owner.new.self c.free_owner.result c.free_owner.ensures.pages

pub returns-else-owner-gt-CATALOGUE-clause-freed : goal.returns-else-owner-gt-CATALOGUE-clause-freed
returns-else-owner-gt-CATALOGUE-clause-freed g c = λ m root kept want s gone has keeps.
    passed g.S.PageSpace.has m root kept want s c.args.owner gone c.args.space.now c.args.space.now keeps c.if-owner-gt-CATALOGUE.false has

pub returns-then-owner-gt-CATALOGUE-clause-leads : goal.returns-then-owner-gt-CATALOGUE-clause-leads
returns-then-owner-gt-CATALOGUE-clause-leads g c =
    LeadsWithin-more g.S.PageSpace.leads 33 _ c.args.space.now c.free_owner.new.self (free_one c.args.owner c.if-owner-gt-CATALOGUE.true) c.free_owner.ensures.leads

pub returns-else-owner-gt-CATALOGUE-clause-leads : goal.returns-else-owner-gt-CATALOGUE-clause-leads
returns-else-owner-gt-CATALOGUE-clause-leads g c =
    LeadsWithin-none g.S.PageSpace.leads _ c.args.space.now c.args.space.now (g.met.S.PageSpace.stays c.args.space.now)
