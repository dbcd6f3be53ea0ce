use Rattle.std.proofs.Common.{◌≡◌, true≢false, Option, IfSome, IsSome, sym, subst}
use Rattle.std.proofs.lemmas.Result.{IfOk-weaker, IfErr-weaker}
use Rattle.sb_rule.specs.declared.rule.Rule.{Rule}
use Rattle.sb_rule.specs.Spelling.{rule_code}
use Rattle.sb_drive.specs.declared.space.SpaceFault.TheVariants.{NoMemory}
use Rattle.sb_drive.specs.Spaces.{LeadsWithin}
use Rattle.sb_drive.proofs.SpacesLemmas.{IfErr-passed, LeadsWithin-none}
use Rattle.sb_catalog.specs.Descriptors.{IsCountedRule}
use Rattle.sb_standing.specs.Lacking.{WhereShort}
use Rattle.sb_standing.specs.Tables.{db_of}
use Rattle.sb_tables.specs.Working.{extensions_of}
use Rattle.sb_building.specs.Costs.{build_cost}
use Rattle.sb_building.specs.Lacking.{IsShortBuilding}
use Rattle.sb_building.proofs.CallLemmas.{IfOk-failed}
use Rattle.sb_building.proofs.OpenLemmas.{MayAdd-copy, ended_copy}
use Rattle.sb_building.proofs.attaching.attach_copy.Goals as goal

pub returns-in_err-copy-clause-refused : goal.returns-in_err-copy-clause-refused
returns-in_err-copy-clause-refused g c = IfErr-passed c.from_residual.result NoMemory _ c.from_residual.ensures.1 (λ x has stores may. tt)

pub returns-in_err-copy-clause-leads : goal.returns-in_err-copy-clause-leads
returns-in_err-copy-clause-leads g c = (0, g.met.S.PageSpace.stays c.args.space.now)

pub returns-in_default-clause-ended : goal.returns-in_default-clause-ended
returns-in_default-clause-ended g c = λ x has stores may main counted. absurd (true≢false (sym (subst (λ (o : Option Rule). IsSome o) c.in_default.is (c.in_ok-copy.ensures.only counted))))

pub returns-in_default-clause-leads : goal.returns-in_default-clause-leads
returns-in_default-clause-leads g c = (0, g.met.S.PageSpace.stays c.args.space.now)

pub attach_rule-requires-clause-storable : goal.attach_rule-requires-clause-storable
attach_rule-requires-clause-storable g c =
    let rule = c.args.rule.now in
    let is = subst (λ (o : Option Rule). IfSome o (λ r. r ≡ rule)) c.in-Some.is c.in_ok-copy.ensures.copy in
    subst (λ (r : Rule). IsCountedRule (rule_code r) r) (sym is) (subst (λ (o : Option Rule). IfSome o (λ r. IsCountedRule (rule_code rule) rule)) c.in-Some.is c.in_ok-copy.ensures.storable)

pub returns-clause-ended : goal.returns-clause-ended
returns-clause-ended g c =
    let rule = c.args.rule.now in
    let is = subst (λ (o : Option Rule). IfSome o (λ r. r ≡ rule)) c.in-Some.is c.in_ok-copy.ensures.copy in
    IfOk-weaker c.attach_rule.result _ _ (λ end ended x has stores may main counted.
    ended_copy g.S.PageSpace.has (g.B.Boxes.meanings c.args.boxes.now) c.args.place.root x c.args.name.now c.attach_rule.new.space end c.args.relation.now c.in-Some.copy rule is
    (λ adds alone. ended x has stores adds alone) may main) c.attach_rule.ensures.ended

pub returns-clause-refused : goal.returns-clause-refused
returns-clause-refused g c =
    let rule = c.args.rule.now in
    let is = subst (λ (o : Option Rule). IfSome o (λ r. r ≡ rule)) c.in-Some.is c.in_ok-copy.ensures.copy in
    IfErr-weaker c.attach_rule.result _ _ (λ e refused x has stores may.
    refused x has stores (MayAdd-copy (g.B.Boxes.meanings c.args.boxes.now) x c.args.relation.now c.args.name.now c.in-Some.copy rule is may)) c.attach_rule.ensures.refused

-- ---- no page is left
pub returns-in_err-copy-clause-full : goal.returns-in_err-copy-clause-full
returns-in_err-copy-clause-full g c = IfErr-passed c.from_residual.result NoMemory _ c.from_residual.ensures.1 (λ x has stores may. tt)

pub returns-clause-full : goal.returns-clause-full
returns-clause-full g c =
    let m = g.B.Boxes.meanings c.args.boxes.now in
    let rule = c.args.rule.now in
    let is = subst (λ (o : Option Rule). IfSome o (λ r. r ≡ rule)) c.in-Some.is c.in_ok-copy.ensures.copy in
    IfErr-weaker c.attach_rule.result _ _ (λ e full x has stores may.
    subst (λ (r : Rule). WhereShort e (IsShortBuilding g.S.PageSpace.has g.S.PageSpace.leads (extensions_of m) x c.args.relation.now r c.attach_rule.new.space)) is
    (full x has stores (MayAdd-copy m x c.args.relation.now c.args.name.now c.in-Some.copy rule is may))) c.attach_rule.ensures.full

-- ---- the rest
pub returns-in_err-copy-clause-ended : goal.returns-in_err-copy-clause-ended
returns-in_err-copy-clause-ended g c = IfOk-failed c.from_residual.result _ _ c.from_residual.ensures.1

pub returns-in_err-copy-clause-ready : goal.returns-in_err-copy-clause-ready
returns-in_err-copy-clause-ready g c = c.requires.ready

pub returns-in_default-clause-ready : goal.returns-in_default-clause-ready
returns-in_default-clause-ready g c = c.requires.ready

pub attach_rule-requires-clause-ready : goal.attach_rule-requires-clause-ready
attach_rule-requires-clause-ready g c = c.requires.ready

pub attach_rule-requires-clause-owner : goal.attach_rule-requires-clause-owner
attach_rule-requires-clause-owner g c = c.requires.owner

pub returns-clause-leads : goal.returns-clause-leads
returns-clause-leads g c = c.attach_rule.ensures.leads

pub returns-clause-ready : goal.returns-clause-ready
returns-clause-ready g c = c.attach_rule.ensures.ready

-- ---- a fault, whatever the pages keep
pub returns-in_err-copy-clause-fault : goal.returns-in_err-copy-clause-fault
returns-in_err-copy-clause-fault g c = IfErr-passed c.from_residual.result NoMemory _ c.from_residual.ensures.1 tt

pub returns-clause-fault : goal.returns-clause-fault
returns-clause-fault g c = c.attach_rule.ensures.fault

-- ---- what it costs
pub returns-in_err-copy-clause-costs : goal.returns-in_err-copy-clause-costs
returns-in_err-copy-clause-costs g c = λ x has stores may. LeadsWithin-none g.S.PageSpace.leads _ c.args.space.now c.args.space.now (g.met.S.PageSpace.stays c.args.space.now)

pub returns-in_default-clause-costs : goal.returns-in_default-clause-costs
returns-in_default-clause-costs g c = λ x has stores may. LeadsWithin-none g.S.PageSpace.leads _ c.args.space.now c.args.space.now (g.met.S.PageSpace.stays c.args.space.now)

pub returns-clause-costs : goal.returns-clause-costs
returns-clause-costs g c = λ x has stores may.
    let m = g.B.Boxes.meanings c.args.boxes.now in
    let relation = c.args.relation.now in
    let rule = c.args.rule.now in
    let is = subst (λ (o : Option Rule). IfSome o (λ r. r ≡ rule)) c.in-Some.is c.in_ok-copy.ensures.copy in
    subst (λ (r : Rule). LeadsWithin g.S.PageSpace.leads (build_cost (extensions_of m) (db_of x.kept) relation r) c.args.space.now c.attach_rule.new.space) is
    (c.attach_rule.ensures.costs x has stores (MayAdd-copy m x relation c.args.name.now c.in-Some.copy rule is may))
