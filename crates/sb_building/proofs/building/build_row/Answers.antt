use Rattle.std.proofs.Common.{◌⊎◌, sym, subst}
use Rattle.sb_relation.specs.Db.{Key}
use Rattle.sb_ctx.specs.declared.calls.AttachCall.TheVariants.{Build}
use Rattle.sb_drive.specs.AttachCalls.{Fits}
use Rattle.sb_drive.specs.Slots.{owned}
use Rattle.sb_drive.specs.Spaces.{Leaves}
use Rattle.sb_drive.proofs.SpacesLemmas.{LeadsWithin-none, Leaves-so}
use Rattle.sb_standing.specs.Lacking.{WhereShort}
use Rattle.sb_standing.specs.Tables.{db_of}
use Rattle.sb_standing.proofs.LackingLemmas.{where_short}
use Rattle.sb_tables.specs.Calls.{CostsOver, IsAsked, IsFinal, LacksOver}
use Rattle.sb_tables.proofs.RefusedLemmas.{refused_cause}
use Rattle.sb_building.specs.Building.{IsBuilt, content_built, is_done}
use Rattle.sb_building.proofs.BoundLemmas.{short-row}
use Rattle.sb_building.proofs.ChargeLemmas.{costs-row}
use Rattle.sb_building.proofs.SiteLemmas.{IsBuilt-asked}
use Rattle.sb_building.proofs.building.build_row.Goals as goal

pub ask-made-requires-clause-fits : goal.ask-made-requires-clause-fits
ask-made-requires-clause-fits g c = λ live.
    subst (λ (k : Key). Fits live.box c.args.inst.now (Build k c.args.row)) (sym c.in-Ok.ensures) (c.requires.row live, c.requires.key)

pub returns-in-Err-clause-leads : goal.returns-in-Err-clause-leads
returns-in-Err-clause-leads g c = (0, g.met.S.PageSpace.stays c.args.space.now)

pub returns-in-Err-made-clause-refused : goal.returns-in-Err-made-clause-refused
returns-in-Err-made-clause-refused g c = λ live x rule built site over.
    refused_cause g.S.PageSpace.fails _ c.args.space.now c.ask-made.new.space c.in-Err-made.fault c.in-Err-made.ensures.works.refused
    (c.in-Err-made.ensures.undamaged live x.want x.slots x.kept (content_built live.box c.args.inst.now rule (db_of x.kept) built) site.has site.tables site.stand over)

pub returns-in-Err-made-clause-full : goal.returns-in-Err-made-clause-full
returns-in-Err-made-clause-full g c = λ live x rule built site next over joinless.
    let inst = c.args.inst.now in
    let row = c.args.row in
    let e = c.in-Err-made.fault in
    where_short e (LacksOver live.box inst (Build c.args.key.now row) (db_of x.kept) x.slots) _
    (short-row g.S.PageSpace.has (g.B.Boxes.meanings c.args.boxes.now) c.args.place.root x inst rule live c.args.space.now site joinless built (c.args.key.now, row) next over)
    (subst (λ (k : Key). WhereShort e (LacksOver live.box inst (Build k row) (db_of x.kept) x.slots)) c.in-Ok.ensures (c.in-Err-made.ensures.full live x.want x.slots x.kept site.has site.tables))

pub returns-in-Err-made-clause-leads : goal.returns-in-Err-made-clause-leads
returns-in-Err-made-clause-leads g c = c.in-Err-made.ensures.works.leads

pub returns-in-Ok-made-clause-built : goal.returns-in-Ok-made-clause-built
returns-in-Ok-made-clause-built g c = λ live x rule built site next over.
    let inst = c.args.inst.now in
    let key = c.args.key.now in
    let row = c.args.row in
    let made = c.in-Ok-made.end in
    let P = owned x.slots inst.owner in
    let final = subst (λ (k : Key). IsFinal (Build k row) made) c.in-Ok.ensures c.in-Ok-made.ensures.ends in
    let left = subst (λ (k : Key). Leaves g.S.PageSpace.has inst.owner x.want x.slots c.ask-made.new.space (λ after. IsAsked live.box inst (Build k row) (db_of x.kept) P after made)) c.in-Ok.ensures
    (c.in-Ok-made.ensures.asked live x.want x.slots x.kept site.has site.tables) in
    rw c.is_done-admitted.ensures
    (Leaves-so g.S.PageSpace.has inst.owner x.want x.slots c.ask-made.new.space (λ after. IsAsked live.box inst (Build key row) (db_of x.kept) P after made) (IsBuilt live.box inst rule (db_of x.kept) built (key, row) (is_done made))
    (λ after asked. IsBuilt-asked g.S.PageSpace.has (g.B.Boxes.meanings c.args.boxes.now) c.args.place.root x inst rule live.box c.args.space.now built (key, row) after made site next over final asked) left)

pub returns-in-Ok-made-clause-leads : goal.returns-in-Ok-made-clause-leads
returns-in-Ok-made-clause-leads g c = c.in-Ok-made.ensures.works.leads

-- ---- what it costs
pub returns-in-Err-clause-costs : goal.returns-in-Err-clause-costs
returns-in-Err-clause-costs g c = λ live x rule built site next over.
    LeadsWithin-none g.S.PageSpace.leads _ c.args.space.now c.args.space.now (g.met.S.PageSpace.stays c.args.space.now)

pub returns-in-Err-made-clause-costs : goal.returns-in-Err-made-clause-costs
returns-in-Err-made-clause-costs g c = λ live x rule built site next over.
    let leads = g.S.PageSpace.leads in
    let inst = c.args.inst.now in
    let row = c.args.row in
    let old = c.args.space.now in
    let new = c.ask-made.new.space in
    costs-row g.S.PageSpace.has leads (g.B.Boxes.meanings c.args.boxes.now) c.args.place.root x inst rule live old old new site built (c.args.key.now, row) next over
    (subst (λ (k : Key). leads 0 old new ⊎ CostsOver leads live.box inst (Build k row) (db_of x.kept) x.slots old new) c.in-Ok.ensures (c.in-Err-made.ensures.costs live x.want x.slots x.kept site.has site.tables))

pub returns-in-Ok-made-clause-costs : goal.returns-in-Ok-made-clause-costs
returns-in-Ok-made-clause-costs g c = λ live x rule built site next over.
    let leads = g.S.PageSpace.leads in
    let inst = c.args.inst.now in
    let row = c.args.row in
    let old = c.args.space.now in
    let new = c.ask-made.new.space in
    costs-row g.S.PageSpace.has leads (g.B.Boxes.meanings c.args.boxes.now) c.args.place.root x inst rule live old old new site built (c.args.key.now, row) next over
    (subst (λ (k : Key). leads 0 old new ⊎ CostsOver leads live.box inst (Build k row) (db_of x.kept) x.slots old new) c.in-Ok.ensures (c.in-Ok-made.ensures.costs live x.want x.slots x.kept site.has site.tables))
