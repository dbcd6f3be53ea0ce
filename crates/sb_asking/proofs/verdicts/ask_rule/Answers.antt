use Rattle.std.proofs.Common.{◌⊎◌, inl, sym, subst}
use Rattle.sb_rule.specs.declared.change.Change.{Change}
use Rattle.sb_ctx.specs.declared.calls.AttachCall.TheVariants.{Changed}
use Rattle.sb_ctx.specs.Attachment.{MayMeet}
use Rattle.sb_drive.specs.declared.space.SpaceFault.TheVariants.{NoMemory}
use Rattle.sb_drive.specs.Slots.{owned}
use Rattle.sb_drive.specs.Spaces.{Leaves}
use Rattle.sb_drive.proofs.SpacesLemmas.{IfErr-passed}
use Rattle.sb_opened.specs.Lacking.{WhereShort}
use Rattle.sb_opened.proofs.CallsLemmas.{Works-made, Works-passed}
use Rattle.sb_opened.proofs.LackingLemmas.{where_short}
use Rattle.sb_opened.specs.Asked.{changed_kept}
use Rattle.sb_opened.specs.Tables.{db_of}
use Rattle.sb_opened.proofs.StandLemmas.{StandRules-asks}
use Rattle.sb_opened.specs.Opened.{IsDurable}
use Rattle.sb_asking.specs.Calls.{CostsOver, IsAsked, LacksOver}
use Rattle.sb_asking.specs.Verdicts.{LacksAsked}
use Rattle.sb_asking.proofs.CallsLemmas.{Works-no_memory}
use Rattle.sb_asking.proofs.VerdictsLemmas.{Holds-next, IsVerdict-final, Says-asked, costs_asked, lacks_asked}
use Rattle.sb_asking.proofs.verdicts.ask_rule.Goals as goal

pub ask-made-requires-clause-fits : goal.ask-made-requires-clause-fits
ask-made-requires-clause-fits g c = λ live. subst (λ (x : Change). MayMeet live.box c.args.inst.now x) (sym c.in_ok-copy.ensures) (c.requires.meets live)

pub verdict_in-requires : goal.verdict_in-requires
verdict_in-requires g c = IsVerdict-final c.in_ok-copy.copy c.in_ok-made.made c.in_ok-made.ensures.ends

-- ---- no memory for the call
pub returns-in_err-copy-clause-works : goal.returns-in_err-copy-clause-works
returns-in_err-copy-clause-works g c =
    let stays = g.met.S.PageSpace.stays c.args.space.now in
    Works-no_memory g.S.PageSpace.has g.S.PageSpace.leads g.S.PageSpace.fails g.S.PageSpace.durable g.S.PageSpace.total c.args.inst.now.owner c.args.space.now c.args.space.now c.from_residual.result c.from_residual.ensures.1
    stays stays (λ want s has. has)

pub returns-in_err-copy-clause-undamaged : goal.returns-in_err-copy-clause-undamaged
returns-in_err-copy-clause-undamaged g c = IfErr-passed c.from_residual.result NoMemory _ c.from_residual.ensures.1 (λ want s x has asks next. tt)

pub returns-in_err-copy-clause-full : goal.returns-in_err-copy-clause-full
returns-in_err-copy-clause-full g c = IfErr-passed c.from_residual.result NoMemory _ c.from_residual.ensures.1 (λ want s x has asks next. tt)

-- ---- the call is refused
pub returns-in_err-made-clause-full : goal.returns-in_err-made-clause-full
returns-in_err-made-clause-full g c =
    let m = g.B.Boxes.meanings c.args.boxes.now in
    let inst = c.args.inst.now in
    let change = c.args.change.now in
    let live = c.requires.live in
    IfErr-passed c.from_residual-in_err-made.result c.in_err-made.field-0.0 _ c.from_residual-in_err-made.ensures.1
    (λ want s x has asks next.
    where_short c.in_err-made.field-0.0 (LacksOver live.box inst (Changed change) (db_of (changed_kept x.name change x.before)) s) (LacksAsked m s x change)
    (λ total lacks. lacks_asked m c.args.place.root s x change inst live.box total asks next live.live lacks)
    (subst (λ (d : Change). WhereShort c.in_err-made.field-0.0 (LacksOver live.box inst (Changed d) (db_of (changed_kept x.name change x.before)) s)) c.in_ok-copy.ensures
    (c.in_err-made.ensures.full live want s (changed_kept x.name change x.before) has asks.tables)))

pub returns-in_err-made-clause-works : goal.returns-in_err-made-clause-works
returns-in_err-made-clause-works g c =
    Works-passed g.S.PageSpace.has g.S.PageSpace.leads g.S.PageSpace.fails g.S.PageSpace.durable g.S.PageSpace.total c.args.inst.now.owner c.args.space.now c.ask-made.new.space c.from_residual-in_err-made.result c.in_err-made.field-0.0
    c.from_residual-in_err-made.ensures.1 c.in_err-made.ensures.works

pub returns-in_err-made-clause-undamaged : goal.returns-in_err-made-clause-undamaged
returns-in_err-made-clause-undamaged g c =
    let m = g.B.Boxes.meanings c.args.boxes.now in
    let root = c.args.place.root in
    let change = c.args.change.now in
    let live = c.requires.live in
    IfErr-passed c.from_residual-in_err-made.result c.in_err-made.field-0.0 _ c.from_residual-in_err-made.ensures.1
    (λ want s x has asks next.
    let formed = Holds-next m root s x change c.args.inst.now live.box asks next live.live in
    c.in_err-made.ensures.undamaged live want s (changed_kept x.name change x.before) formed.0 has asks.tables (StandRules-asks m IsDurable root s x.gone x.before x.name change x.index asks) formed.1)

-- ---- the call has ended
pub returns-clause-says : goal.returns-clause-says
returns-clause-says g c = λ want s x has asks next.
    let m = g.B.Boxes.meanings c.args.boxes.now in
    let inst = c.args.inst.now in
    let change = c.args.change.now in
    let live = c.requires.live in
    let made = c.in_ok-made.made in
    let left = subst (λ (d : Change). Leaves g.S.PageSpace.has inst.owner want s c.ask-made.new.space (λ after. IsAsked live.box inst (Changed d) (db_of (changed_kept x.name change x.before)) (owned s inst.owner) after made))
    c.in_ok-copy.ensures (c.in_ok-made.ensures.asked live want s (changed_kept x.name change x.before) has asks.tables) in
    rw c.verdict_in.ensures (Says-asked g.S.PageSpace.has m c.args.place.root want s x change c.ask-made.new.space inst live.box made asks next live.live (IsVerdict-final c.in_ok-copy.copy made c.in_ok-made.ensures.ends) left)

pub returns-clause-works : goal.returns-clause-works
returns-clause-works g c =
    Works-made g.S.PageSpace.has g.S.PageSpace.leads g.S.PageSpace.fails g.S.PageSpace.durable g.S.PageSpace.total c.args.inst.now.owner c.args.space.now c.ask-made.new.space c.in_ok-made.made c.verdict_in.result c.in_ok-made.ensures.works

-- ---- what it costs
pub returns-in_err-copy-clause-costs : goal.returns-in_err-copy-clause-costs
returns-in_err-copy-clause-costs g c = λ want s x has asks next.
    costs_asked g.S.PageSpace.leads (g.B.Boxes.meanings c.args.boxes.now) c.args.place.root s x c.args.change.now c.args.inst.now c.requires.live.box c.args.space.now c.args.space.now asks next c.requires.live.live
    (inl (g.met.S.PageSpace.stays c.args.space.now))

pub returns-in_err-made-clause-costs : goal.returns-in_err-made-clause-costs
returns-in_err-made-clause-costs g c = λ want s x has asks next.
    let inst = c.args.inst.now in
    let change = c.args.change.now in
    let live = c.requires.live in
    costs_asked g.S.PageSpace.leads (g.B.Boxes.meanings c.args.boxes.now) c.args.place.root s x change inst live.box c.args.space.now c.ask-made.new.space asks next live.live
    (subst (λ (d : Change). g.S.PageSpace.leads 0 c.args.space.now c.ask-made.new.space ⊎ CostsOver g.S.PageSpace.leads live.box inst (Changed d) (db_of (changed_kept x.name change x.before)) s c.args.space.now c.ask-made.new.space)
    c.in_ok-copy.ensures (c.in_err-made.ensures.costs live want s (changed_kept x.name change x.before) has asks.tables))

pub returns-clause-costs : goal.returns-clause-costs
returns-clause-costs g c = λ want s x has asks next.
    let inst = c.args.inst.now in
    let change = c.args.change.now in
    let live = c.requires.live in
    costs_asked g.S.PageSpace.leads (g.B.Boxes.meanings c.args.boxes.now) c.args.place.root s x change inst live.box c.args.space.now c.ask-made.new.space asks next live.live
    (subst (λ (d : Change). g.S.PageSpace.leads 0 c.args.space.now c.ask-made.new.space ⊎ CostsOver g.S.PageSpace.leads live.box inst (Changed d) (db_of (changed_kept x.name change x.before)) s c.args.space.now c.ask-made.new.space)
    c.in_ok-copy.ensures (c.in_ok-made.ensures.costs live want s (changed_kept x.name change x.before) has asks.tables))
