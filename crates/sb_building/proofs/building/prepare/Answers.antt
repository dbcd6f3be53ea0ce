use Rattle.sb_ctx.specs.declared.calls.AttachCall.TheVariants.{Prepare}
use Rattle.sb_drive.specs.Slots.{owned}
use Rattle.sb_drive.proofs.SpacesLemmas.{Leaves-so}
use Rattle.sb_standing.specs.Tables.{db_of}
use Rattle.sb_standing.proofs.LackingLemmas.{where_short}
use Rattle.sb_tables.specs.Calls.{IsAsked, LacksOver}
use Rattle.sb_tables.proofs.RefusedLemmas.{refused_cause}
use Rattle.sb_building.specs.Instances.{HoldsFirst}
use Rattle.sb_building.proofs.BoundLemmas.{short-prepared}
use Rattle.sb_building.proofs.ChargeLemmas.{costs-prepared}
use Rattle.sb_building.proofs.SiteLemmas.{Prepared-asked}
use Rattle.sb_building.proofs.building.prepare.Goals as goal

pub returns-in-Err-clause-refused : goal.returns-in-Err-clause-refused
returns-in-Err-clause-refused g c = λ live x rule site new.
    refused_cause g.S.PageSpace.fails _ c.args.space.now c.ask-made.new.space c.in-Err.fault c.in-Err.ensures.works.refused
    (c.in-Err.ensures.undamaged_new live x.want x.slots x.kept site.has site.tables site.stand new)

pub returns-in-Err-clause-full : goal.returns-in-Err-clause-full
returns-in-Err-clause-full g c = λ live x rule site new joinless.
    where_short c.in-Err.fault (LacksOver live.box c.args.inst.now Prepare (db_of x.kept) x.slots) _
    (short-prepared g.S.PageSpace.has (g.B.Boxes.meanings c.args.boxes.now) c.args.place.root x c.args.inst.now rule live c.args.space.now site joinless new)
    (c.in-Err.ensures.full live x.want x.slots x.kept site.has site.tables)

pub returns-in-Err-clause-leads : goal.returns-in-Err-clause-leads
returns-in-Err-clause-leads g c = c.in-Err.ensures.works.leads

pub returns-in-Ok-clause-prepared : goal.returns-in-Ok-clause-prepared
unfolding HoldsFirst
returns-in-Ok-clause-prepared g c = λ live x rule site new.
    let inst = c.args.inst.now in
    let P = owned x.slots inst.owner in
    let move = c.in-Ok.end in
    Leaves-so g.S.PageSpace.has inst.owner x.want x.slots c.ask-made.new.space (λ after. IsAsked live.box inst Prepare (db_of x.kept) P after move) (HoldsFirst live.box inst rule (db_of x.kept))
    (λ after asked. Prepared-asked live.box inst rule (db_of x.kept) P after move c.in-Ok.ensures.ends site.stands new asked)
    (c.in-Ok.ensures.asked live x.want x.slots x.kept site.has site.tables)

pub returns-in-Ok-clause-leads : goal.returns-in-Ok-clause-leads
returns-in-Ok-clause-leads g c = c.in-Ok.ensures.works.leads

pub returns-in-Err-clause-costs : goal.returns-in-Err-clause-costs
returns-in-Err-clause-costs g c = λ live x rule site new.
    costs-prepared g.S.PageSpace.has g.S.PageSpace.leads (g.B.Boxes.meanings c.args.boxes.now) c.args.place.root x c.args.inst.now rule live c.args.space.now c.args.space.now c.ask-made.new.space site new
    (c.in-Err.ensures.costs live x.want x.slots x.kept site.has site.tables)

pub returns-in-Ok-clause-costs : goal.returns-in-Ok-clause-costs
returns-in-Ok-clause-costs g c = λ live x rule site new.
    costs-prepared g.S.PageSpace.has g.S.PageSpace.leads (g.B.Boxes.meanings c.args.boxes.now) c.args.place.root x c.args.inst.now rule live c.args.space.now c.args.space.now c.ask-made.new.space site new
    (c.in-Ok.ensures.costs live x.want x.slots x.kept site.has site.tables)
