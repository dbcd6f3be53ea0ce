use Rattle.std.proofs.Common.{refl, sym}
use Rattle.sb_ctx.specs.View.{edits_of}
use Rattle.sb_ctx.proofs.ViewLaws.{stored-clean}
use Rattle.sb_drive.specs.Slots.{owned}
use Rattle.sb_drive.proofs.SpacesLemmas.{LeadsWithin-none}
use Rattle.sb_drive.proofs.space.store_edits.Goals as goal

pub returns-then-reading-clause-pages : goal.returns-then-reading-clause-pages
returns-then-reading-clause-pages g c = λ want s has part. record {
  slots = s;
  has = has;
  others = λ o other. refl;
  own = sym (stored-clean c.args.ctx.now (owned s c.args.owner) (c.requires.clean c.if-reading.true) part);
}

pub returns-then-reading-clause-leads : goal.returns-then-reading-clause-leads
returns-then-reading-clause-leads g c = LeadsWithin-none g.S.PageSpace.leads (edits_of c.args.ctx.now) c.args.space.now c.args.space.now (g.met.S.PageSpace.stays c.args.space.now)
