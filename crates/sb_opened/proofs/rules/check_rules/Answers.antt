use Rattle.std.proofs.Common.{◌≡◌, Ok, Err, All, sym, subst, refl}
use Rattle.std.proofs.lemmas.List.Elements.{All-get_or, All-map, All-more, All-nil}
use Rattle.sb_rule.proofs.Lists.{all_taken}
use Rattle.sb_relation.specs.Db
use Rattle.sb_catalog.specs.declared.descriptor.Attached.{Attached}
use Rattle.sb_catalog.specs.Descriptors.{IsStorableAttached}
use Rattle.sb_drive.proofs.SpacesLemmas.{IfErr-passed}
use Rattle.sb_registry.specs.Live.{IsLiveRule}
use Rattle.sb_standing.proofs.CallsLemmas.{Looks-later, Looks-passed}
use Rattle.sb_standing.specs.Standing.{StandsRule}
use Rattle.sb_standing.specs.Tables.{db_of}
use Rattle.sb_opened.specs.Opened.{rule_of}
use Rattle.sb_opened.proofs.Standing.{rule-at}
use Rattle.sb_opened.proofs.rules.check_rules.Goals as goal

pub loop-attached-init : goal.loop-attached-init
loop-attached-init g c = record {
  ready = c.requires.ready;
  leads = g.met.S.PageSpace.stays c.args.space.now;
  has = λ want s has. has;
  live = All-nil (λ (a : Attached). IsLiveRule (g.B.Boxes.meanings c.args.boxes.now) (rule_of c.args.name.now c.args.descriptor.now a));
}

pub loop-attached-preserved : goal.loop-attached-preserved
loop-attached-preserved g c =
    let before = c.loop-attached.invariant in
    let looks = c.in_ok-check_rule.ensures.looks in
    let IsSo = λ (a : Attached). IsLiveRule (g.B.Boxes.meanings c.args.boxes.now) (rule_of c.args.name.now c.args.descriptor.now a) in
    record {
      ready = c.in_ok-check_rule.ensures.ready;
      leads = g.met.S.PageSpace.goes_on 0 0 c.args.space.now c.loop-attached.space c.check_rule.new.space before.leads looks.leads;
      has = λ want s has. looks.same want s (before.has want s has);
      live = All-more IsSo c.args.attachments.now c.loop-attached.attached-index c.attached-item.result c.loop-attached-test.true before.live (subst IsSo c.attached-item.is c.in_ok-check_rule.ensures.live);
    }

pub check_rule-requires-clause-storable : goal.check_rule-requires-clause-storable
check_rule-requires-clause-storable g c =
    subst IsStorableAttached (sym c.attached-item.is) (All-get_or IsStorableAttached c.args.attachments.now c.loop-attached.attached-index c.attached-item.result c.loop-attached-test.true c.requires.storable)

pub returns-in_err-check_rule-clause-undamaged : goal.returns-in_err-check_rule-clause-undamaged
returns-in_err-check_rule-clause-undamaged g c =
    IfErr-passed c.from_residual.result c.in_err-check_rule.field-0.0 _ c.from_residual.ensures.1
    (λ want s kept has tables others each.
    let m = g.B.Boxes.meanings c.args.boxes.now in
    let Stands = λ (d : Attached) (a : Db.Attached). StandsRule m (rule_of c.args.name.now c.args.descriptor.now d) a (db_of kept) in
    let one = rule-at Stands c.args.attachments.now others c.loop-attached.attached-index c.attached-item.result c.loop-attached-test.true each in
    c.in_err-check_rule.ensures.undamaged want s kept (c.loop-attached.invariant.has want s has) tables one.0 (subst (λ (d : Attached). Stands d one.0) (sym c.attached-item.is) one.1))

pub returns-in_err-check_rule-clause-looks : goal.returns-in_err-check_rule-clause-looks
returns-in_err-check_rule-clause-looks g c =
    Looks-passed g.S.PageSpace.has g.S.PageSpace.leads g.S.PageSpace.fails c.args.space.now c.check_rule.new.space c.from_residual.result c.in_err-check_rule.field-0.0 c.from_residual.ensures.1
    (Looks-later g.S.PageSpace.has g.S.PageSpace.leads g.S.PageSpace.fails c.args.space.now c.loop-attached.space c.check_rule.new.space (Err c.in_err-check_rule.field-0.0) g.met.S.PageSpace.goes_on g.met.S.PageSpace.fails_on c.loop-attached.invariant.leads c.loop-attached.invariant.has c.in_err-check_rule.ensures.looks)

pub returns-clause-live : goal.returns-clause-live
returns-clause-live g c =
    let m = g.B.Boxes.meanings c.args.boxes.now in
    let one = λ (a : Attached). rule_of c.args.name.now c.args.descriptor.now a in
    All-map (IsLiveRule m) one c.args.attachments.now
    (all_taken (λ (a : Attached). IsLiveRule m (one a)) c.args.attachments.now c.args.attachments.now c.loop-attached.attached-index refl c.loop-attached-test.false c.loop-attached.invariant.live)

pub returns-clause-looks : goal.returns-clause-looks
returns-clause-looks g c = record { same = c.loop-attached.invariant.has; leads = c.loop-attached.invariant.leads; fault = tt; refused = tt }
