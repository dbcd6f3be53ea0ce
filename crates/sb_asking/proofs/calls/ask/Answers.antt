use Rattle.std.proofs.Common.{◌≡◌, ◌∙◌, ◌<◌, inl, inr, Err, ap, subst, length}
use Rattle.sb_ctx.specs.declared.moves.Move.{Move}
use Rattle.sb_ctx.specs.declared.moves.Move.TheVariants.{Find}
use Rattle.sb_ctx.specs.AttachAnswers.{Answers, AsksFor}
use Rattle.sb_drive.specs.AttachCalls.{HandsUpIn}
use Rattle.sb_drive.specs.declared.space.SpaceFault.TheVariants.{NoMemory}
use Rattle.sb_drive.specs.Slots.{owned}
use Rattle.sb_drive.specs.Turns.{OnFind}
use Rattle.sb_drive.proofs.SpacesLemmas.{IfErr-passed, Leaves-so}
use Rattle.sb_opened.proofs.LackingLemmas.{read_short}
use Rattle.sb_opened.proofs.CallsLemmas.{Looks-later, Looks-no_memory, Looks-passed, Works-passed}
use Rattle.sb_opened.specs.Tables.{db_of}
use Rattle.sb_asking.specs.declared.calls.Answer.{Answer}
use Rattle.sb_asking.specs.Calls.{IsAsked, LacksOver, knowing}
use Rattle.sb_asking.proofs.CallsLemmas.{AreKeys, All-pushed, HoldsOf-known, IsAsked-known, IsClean-known, IsLast-end, IsOver, costs_known, lacks_known, Works-later, Works-looked, Works-no_memory, few-known, fewer-left}
use Rattle.sb_asking.proofs.calls.ask.Goals as goal

-- ---- no memory for the Ctx
pub returns-in_err-ctx-clause-works : goal.returns-in_err-ctx-clause-works
returns-in_err-ctx-clause-works g c =
    let before = c.finds.invariant in
    Works-no_memory g.S.PageSpace.has g.S.PageSpace.leads g.S.PageSpace.fails g.S.PageSpace.durable g.S.PageSpace.total c.args.inst.now.owner c.args.space.now c.finds.space c.from_residual.result c.from_residual.ensures.1
    (g.met.S.PageSpace.stays c.args.space.now) before.leads before.has

pub returns-in_err-ctx-clause-full : goal.returns-in_err-ctx-clause-full
returns-in_err-ctx-clause-full g c = IfErr-passed c.from_residual.result NoMemory _ c.from_residual.ensures.1 (λ live want s kept has tables. tt)

-- ---- the call
pub run_attachment-made-requires-clause-clean : goal.run_attachment-made-requires-clause-clean
run_attachment-made-requires-clause-clean g c = IsClean-known c.finds.answers.items c.in_ok-ctx.ctx (c.in_ok-ctx.ensures ∙ ap knowing c.deref.ensures.value) c.finds.invariant.keys

pub run_attachment-made-requires-clause-holds : goal.run_attachment-made-requires-clause-holds
run_attachment-made-requires-clause-holds g c = λ want s has.
    HoldsOf-known c.finds.answers.items c.in_ok-ctx.ctx s c.args.inst.now.owner (c.in_ok-ctx.ensures ∙ ap knowing c.deref.ensures.value)
    (g.met.S.PageSpace.whole want s c.finds.space has) (g.met.S.PageSpace.few want s c.finds.space has)

pub returns-in_err-made-clause-works : goal.returns-in_err-made-clause-works
returns-in_err-made-clause-works g c =
    let before = c.finds.invariant in
    let has = g.S.PageSpace.has in
    let leads = g.S.PageSpace.leads in
    let fails = g.S.PageSpace.fails in
    Works-passed has leads fails g.S.PageSpace.durable g.S.PageSpace.total c.args.inst.now.owner c.args.space.now c.run_attachment-made.new.space c.from_residual-in_err-made.result c.in_err-made.field-0.0 c.from_residual-in_err-made.ensures.1
    (Works-later has leads fails g.S.PageSpace.durable g.S.PageSpace.total c.args.inst.now.owner c.args.space.now c.finds.space c.run_attachment-made.new.space _ g.met.S.PageSpace.goes_on g.met.S.PageSpace.fails_on before.leads before.has c.in_err-made.ensures.works)

pub returns-in_err-made-clause-undamaged : goal.returns-in_err-made-clause-undamaged
returns-in_err-made-clause-undamaged g c =
    IfErr-passed c.from_residual-in_err-made.result c.in_err-made.field-0.0 _ c.from_residual-in_err-made.ensures.1
    (λ live want s kept content has tables stand holds. (c.in_err-made.ensures.runs live).sound want s content (c.finds.invariant.has want s has) holds)

pub returns-in_err-made-clause-undamaged_new : goal.returns-in_err-made-clause-undamaged_new
returns-in_err-made-clause-undamaged_new g c =
    IfErr-passed c.from_residual-in_err-made.result c.in_err-made.field-0.0 _ c.from_residual-in_err-made.ensures.1
    (λ live want s kept has tables stand new. (c.in_err-made.ensures.runs live).sound_new want s (c.finds.invariant.has want s has) new)

pub returns-in_err-made-clause-full : goal.returns-in_err-made-clause-full
returns-in_err-made-clause-full g c =
    IfErr-passed c.from_residual-in_err-made.result c.in_err-made.field-0.0 _ c.from_residual-in_err-made.ensures.1
    (λ live want s kept has tables.
    lacks_known g.S.PageSpace.leads g.S.PageSpace.durable g.S.PageSpace.total live.box c.args.inst.now c.args.call.now c.finds.answers.items c.in_ok-ctx.ctx (db_of kept) c.finds.space s
    (c.in_ok-ctx.ensures ∙ ap knowing c.deref.ensures.value) (c.finds.invariant.over want s kept has tables) c.in_err-made.field-0.0
    ((c.in_err-made.ensures.runs live).full want s (c.finds.invariant.has want s has)))

-- ---- a find
pub returns-in_err-keys-in-Find-clause-full : goal.returns-in_err-keys-in-Find-clause-full
returns-in_err-keys-in-Find-clause-full g c =
    IfErr-passed c.from_residual-in_err-keys-in-Find.result c.in_err-keys-in-Find.field-0.0 _ c.from_residual-in_err-keys-in-Find.ensures.1
    (λ live want s kept has tables. read_short c.in_err-keys-in-Find.field-0.0 (LacksOver live.box c.args.inst.now c.args.call.now (db_of kept) s) c.in_err-keys-in-Find.ensures.looks.fault)

pub returns-in_err-add_answer-in-Find-clause-full : goal.returns-in_err-add_answer-in-Find-clause-full
returns-in_err-add_answer-in-Find-clause-full g c =
    IfErr-passed c.from_residual-in_err-add_answer-in-Find.result NoMemory _ c.from_residual-in_err-add_answer-in-Find.ensures.1 (λ live want s kept has tables. tt)

pub returns-in_err-keys-in-Find-clause-works : goal.returns-in_err-keys-in-Find-clause-works
returns-in_err-keys-in-Find-clause-works g c =
    let before = c.finds.invariant in
    let has = g.S.PageSpace.has in
    let leads = g.S.PageSpace.leads in
    let fails = g.S.PageSpace.fails in
    let runs = c.in_ok-made.ensures.runs c.requires.live in
    let handed = subst (λ (m : Move). OnFind m (HandsUpIn has leads c.args.inst.now.owner c.finds.space c.run_attachment-made.new.space c.run_attachment-made.new.ctx c.in_ok-made.made)) c.in-Find.is runs.find in
    Works-passed has leads fails g.S.PageSpace.durable g.S.PageSpace.total c.args.inst.now.owner c.args.space.now c.find_keys.new.space c.from_residual-in_err-keys-in-Find.result c.in_err-keys-in-Find.field-0.0
    c.from_residual-in_err-keys-in-Find.ensures.1
    (Works-later has leads fails g.S.PageSpace.durable g.S.PageSpace.total c.args.inst.now.owner c.args.space.now c.run_attachment-made.new.space c.find_keys.new.space _ g.met.S.PageSpace.goes_on g.met.S.PageSpace.fails_on
    (g.met.S.PageSpace.goes_on 0 0 c.args.space.now c.finds.space c.run_attachment-made.new.space before.leads handed.same) (λ want s there. handed.has want s (before.has want s there))
    (Works-looked has leads fails g.S.PageSpace.durable g.S.PageSpace.total c.args.inst.now.owner c.run_attachment-made.new.space c.find_keys.new.space c.in_err-keys-in-Find.field-0.0 (g.met.S.PageSpace.stays c.run_attachment-made.new.space) c.in_err-keys-in-Find.ensures.looks))

pub returns-in_err-keys-in-Find-clause-undamaged : goal.returns-in_err-keys-in-Find-clause-undamaged
returns-in_err-keys-in-Find-clause-undamaged g c =
    let runs = c.in_ok-made.ensures.runs c.requires.live in
    let handed = subst (λ (m : Move). OnFind m (HandsUpIn g.S.PageSpace.has g.S.PageSpace.leads c.args.inst.now.owner c.finds.space c.run_attachment-made.new.space c.run_attachment-made.new.ctx c.in_ok-made.made)) c.in-Find.is runs.find in
    IfErr-passed c.from_residual-in_err-keys-in-Find.result c.in_err-keys-in-Find.field-0.0 _ c.from_residual-in_err-keys-in-Find.ensures.1
    (λ live want s kept content has tables stand holds. c.in_err-keys-in-Find.ensures.undamaged want s kept (handed.has want s (c.finds.invariant.has want s has)) tables stand)

pub returns-in_err-keys-in-Find-clause-undamaged_new : goal.returns-in_err-keys-in-Find-clause-undamaged_new
returns-in_err-keys-in-Find-clause-undamaged_new g c =
    let runs = c.in_ok-made.ensures.runs c.requires.live in
    let handed = subst (λ (m : Move). OnFind m (HandsUpIn g.S.PageSpace.has g.S.PageSpace.leads c.args.inst.now.owner c.finds.space c.run_attachment-made.new.space c.run_attachment-made.new.ctx c.in_ok-made.made)) c.in-Find.is runs.find in
    IfErr-passed c.from_residual-in_err-keys-in-Find.result c.in_err-keys-in-Find.field-0.0 _ c.from_residual-in_err-keys-in-Find.ensures.1
    (λ live want s kept has tables stand new. c.in_err-keys-in-Find.ensures.undamaged want s kept (handed.has want s (c.finds.invariant.has want s has)) tables stand)

pub returns-in_err-add_answer-in-Find-clause-works : goal.returns-in_err-add_answer-in-Find-clause-works
returns-in_err-add_answer-in-Find-clause-works g c =
    let before = c.finds.invariant in
    let runs = c.in_ok-made.ensures.runs c.requires.live in
    let looks = c.in_ok-keys-in-Find.ensures.looks in
    let handed = subst (λ (m : Move). OnFind m (HandsUpIn g.S.PageSpace.has g.S.PageSpace.leads c.args.inst.now.owner c.finds.space c.run_attachment-made.new.space c.run_attachment-made.new.ctx c.in_ok-made.made)) c.in-Find.is runs.find in
    let there = g.met.S.PageSpace.goes_on 0 0 c.args.space.now c.finds.space c.run_attachment-made.new.space before.leads handed.same in
    Works-no_memory g.S.PageSpace.has g.S.PageSpace.leads g.S.PageSpace.fails g.S.PageSpace.durable g.S.PageSpace.total c.args.inst.now.owner c.args.space.now c.find_keys.new.space
    c.from_residual-in_err-add_answer-in-Find.result c.from_residual-in_err-add_answer-in-Find.ensures.1 (g.met.S.PageSpace.stays c.args.space.now)
    (g.met.S.PageSpace.goes_on 0 0 c.args.space.now c.run_attachment-made.new.space c.find_keys.new.space there looks.leads) (λ want s has. looks.same want s (handed.has want s (before.has want s has)))

pub finds-smaller : goal.finds-smaller
finds-smaller g c =
    let runs = c.in_ok-made.ensures.runs c.requires.live in
    let old = c.finds.answers.items in
    let after = c.run_attachment-made.new.ctx in
    let find : c.in_ok-made.made ≡ Find c.in-Find.relation c.in-Find.columns c.in-Find.values = c.in-Find.is in
    let handed = subst (λ (m : Move). OnFind m (HandsUpIn g.S.PageSpace.has g.S.PageSpace.leads c.args.inst.now.owner c.finds.space c.run_attachment-made.new.space after c.in_ok-made.made)) find runs.find in
    let asks : AsksFor after (Find c.in-Find.relation c.in-Find.columns c.in-Find.values) = subst (λ (m : Move). AsksFor after m) find handed.asks in
    let few : length old < 8 = few-known old c.in_ok-ctx.ctx after (c.in_ok-ctx.ensures ∙ ap knowing c.deref.ensures.value) c.in_ok-made.ensures.found asks.1 in
    let answer : Answer = record { relation = c.in-Find.relation; columns = c.in-Find.columns; values = c.in-Find.values; keys = c.in_ok-keys-in-Find.keys } in
    fewer-left old c.add_answer.new.answers.items answer c.in_ok-add_answer-in-Find.ensures few

pub finds-preserved : goal.finds-preserved
finds-preserved g c =
    let before = c.finds.invariant in
    let runs = c.in_ok-made.ensures.runs c.requires.live in
    let found = c.in_ok-keys-in-Find.ensures in
    let old = c.finds.answers.items in
    let new = c.add_answer.new.answers.items in
    let handed = subst (λ (m : Move). OnFind m (HandsUpIn g.S.PageSpace.has g.S.PageSpace.leads c.args.inst.now.owner c.finds.space c.run_attachment-made.new.space c.run_attachment-made.new.ctx c.in_ok-made.made)) c.in-Find.is runs.find in
    let there = g.met.S.PageSpace.goes_on 0 0 c.args.space.now c.finds.space c.run_attachment-made.new.space before.leads handed.same in
    let answer : Answer = record { relation = c.in-Find.relation; columns = c.in-Find.columns; values = c.in-Find.values; keys = c.in_ok-keys-in-Find.keys } in
    record {
      ready = found.ready;
      leads = g.met.S.PageSpace.goes_on 0 0 c.args.space.now c.run_attachment-made.new.space c.find_keys.new.space there found.looks.leads;
      has = λ want s has. found.looks.same want s (handed.has want s (before.has want s has));
      keys = All-pushed AreKeys old new answer c.in_ok-add_answer-in-Find.ensures before.keys found.are_keys;
      over = λ want s kept has tables. All-pushed (IsOver (db_of kept)) old new answer c.in_ok-add_answer-in-Find.ensures (before.over want s kept has tables)
          (found.keys want s kept (handed.has want s (before.has want s has)) tables);
    }

-- ---- the end
pub returns-in_default-clause-asked : goal.returns-in_default-clause-asked
returns-in_default-clause-asked g c = λ live want s kept has tables.
    let inst = c.args.inst.now in
    let call = c.args.call.now in
    let ctx = c.in_ok-ctx.ctx in
    let made = c.in_ok-made.made in
    let P = owned s inst.owner in
    Leaves-so g.S.PageSpace.has inst.owner want s c.run_attachment-made.new.space (λ after. Answers live.box inst call ctx P after made) (λ after. IsAsked live.box inst call (db_of kept) P after made)
    (λ after says. IsAsked-known live.box inst call c.finds.answers.items ctx (db_of kept) P after made (c.in_ok-ctx.ensures ∙ ap knowing c.deref.ensures.value) (c.finds.invariant.over want s kept has tables) says)
    ((c.in_ok-made.ensures.runs live).answers want s (c.finds.invariant.has want s has))

pub returns-in_default-clause-ends : goal.returns-in_default-clause-ends
returns-in_default-clause-ends g c = record {
  may = c.in_ok-made.ensures.may;
  last = IsLast-end c.in_ok-made.made c.in_ok-made.ensures.ends (λ relation columns values is. c.in_default.not-Find relation columns values is);
}

pub returns-in_default-clause-works : goal.returns-in_default-clause-works
returns-in_default-clause-works g c =
    let before = c.finds.invariant in
    Works-later g.S.PageSpace.has g.S.PageSpace.leads g.S.PageSpace.fails g.S.PageSpace.durable g.S.PageSpace.total c.args.inst.now.owner c.args.space.now c.finds.space c.run_attachment-made.new.space _ g.met.S.PageSpace.goes_on g.met.S.PageSpace.fails_on
    before.leads before.has c.in_ok-made.ensures.works

-- ---- a reading call
pub returns-in_err-ctx-clause-looks : goal.returns-in_err-ctx-clause-looks
returns-in_err-ctx-clause-looks g c = λ reading.
    let before = c.finds.invariant in
    Looks-no_memory g.S.PageSpace.has g.S.PageSpace.leads g.S.PageSpace.fails c.args.space.now c.finds.space c.from_residual.result c.from_residual.ensures.1 before.leads before.has

pub returns-in_err-made-clause-looks : goal.returns-in_err-made-clause-looks
returns-in_err-made-clause-looks g c = λ reading.
    let before = c.finds.invariant in
    Looks-passed g.S.PageSpace.has g.S.PageSpace.leads g.S.PageSpace.fails c.args.space.now c.run_attachment-made.new.space c.from_residual-in_err-made.result c.in_err-made.field-0.0 c.from_residual-in_err-made.ensures.1
    (Looks-later g.S.PageSpace.has g.S.PageSpace.leads g.S.PageSpace.fails c.args.space.now c.finds.space c.run_attachment-made.new.space (Err c.in_err-made.field-0.0) g.met.S.PageSpace.goes_on g.met.S.PageSpace.fails_on before.leads before.has (c.in_err-made.ensures.looks reading))

pub returns-in_err-keys-in-Find-clause-looks : goal.returns-in_err-keys-in-Find-clause-looks
returns-in_err-keys-in-Find-clause-looks g c = λ reading.
    let before = c.finds.invariant in
    let runs = c.in_ok-made.ensures.runs c.requires.live in
    let handed = subst (λ (m : Move). OnFind m (HandsUpIn g.S.PageSpace.has g.S.PageSpace.leads c.args.inst.now.owner c.finds.space c.run_attachment-made.new.space c.run_attachment-made.new.ctx c.in_ok-made.made)) c.in-Find.is runs.find in
    let there = g.met.S.PageSpace.goes_on 0 0 c.args.space.now c.finds.space c.run_attachment-made.new.space before.leads handed.same in
    Looks-passed g.S.PageSpace.has g.S.PageSpace.leads g.S.PageSpace.fails c.args.space.now c.find_keys.new.space c.from_residual-in_err-keys-in-Find.result c.in_err-keys-in-Find.field-0.0 c.from_residual-in_err-keys-in-Find.ensures.1
    (Looks-later g.S.PageSpace.has g.S.PageSpace.leads g.S.PageSpace.fails c.args.space.now c.run_attachment-made.new.space c.find_keys.new.space (Err c.in_err-keys-in-Find.field-0.0) g.met.S.PageSpace.goes_on g.met.S.PageSpace.fails_on there
    (λ want s has. handed.has want s (before.has want s has)) c.in_err-keys-in-Find.ensures.looks)

pub returns-in_err-add_answer-in-Find-clause-looks : goal.returns-in_err-add_answer-in-Find-clause-looks
returns-in_err-add_answer-in-Find-clause-looks g c = λ reading.
    let before = c.finds.invariant in
    let runs = c.in_ok-made.ensures.runs c.requires.live in
    let looks = c.in_ok-keys-in-Find.ensures.looks in
    let handed = subst (λ (m : Move). OnFind m (HandsUpIn g.S.PageSpace.has g.S.PageSpace.leads c.args.inst.now.owner c.finds.space c.run_attachment-made.new.space c.run_attachment-made.new.ctx c.in_ok-made.made)) c.in-Find.is runs.find in
    let there = g.met.S.PageSpace.goes_on 0 0 c.args.space.now c.finds.space c.run_attachment-made.new.space before.leads handed.same in
    Looks-no_memory g.S.PageSpace.has g.S.PageSpace.leads g.S.PageSpace.fails c.args.space.now c.find_keys.new.space c.from_residual-in_err-add_answer-in-Find.result c.from_residual-in_err-add_answer-in-Find.ensures.1
    (g.met.S.PageSpace.goes_on 0 0 c.args.space.now c.run_attachment-made.new.space c.find_keys.new.space there looks.leads) (λ want s has. looks.same want s (handed.has want s (before.has want s has)))

pub returns-in_default-clause-looks : goal.returns-in_default-clause-looks
returns-in_default-clause-looks g c = λ reading.
    let before = c.finds.invariant in
    Looks-later g.S.PageSpace.has g.S.PageSpace.leads g.S.PageSpace.fails c.args.space.now c.finds.space c.run_attachment-made.new.space _ g.met.S.PageSpace.goes_on g.met.S.PageSpace.fails_on before.leads before.has (c.in_ok-made.ensures.looks reading)

-- ---- what it costs
pub returns-in_err-ctx-clause-costs : goal.returns-in_err-ctx-clause-costs
returns-in_err-ctx-clause-costs g c = λ live want s kept has tables. inl c.finds.invariant.leads

pub returns-in_err-made-clause-costs : goal.returns-in_err-made-clause-costs
returns-in_err-made-clause-costs g c = λ live want s kept has tables.
    inr (costs_known g.S.PageSpace.has g.S.PageSpace.leads live.box c.args.inst.now c.args.call.now c.finds.answers.items c.in_ok-ctx.ctx (db_of kept) c.args.space.now c.finds.space c.run_attachment-made.new.space want s
    (c.in_ok-ctx.ensures ∙ ap knowing c.deref.ensures.value) (c.finds.invariant.over want s kept has tables) g.met.S.PageSpace.goes_on c.finds.invariant.leads (c.finds.invariant.has want s has) (c.in_err-made.ensures.runs live).costs)

pub returns-in_err-keys-in-Find-clause-costs : goal.returns-in_err-keys-in-Find-clause-costs
returns-in_err-keys-in-Find-clause-costs g c = λ live want s kept has tables.
    let handed = subst (λ (m : Move). OnFind m (HandsUpIn g.S.PageSpace.has g.S.PageSpace.leads c.args.inst.now.owner c.finds.space c.run_attachment-made.new.space c.run_attachment-made.new.ctx c.in_ok-made.made)) c.in-Find.is (c.in_ok-made.ensures.runs c.requires.live).find in
    let there = g.met.S.PageSpace.goes_on 0 0 c.args.space.now c.finds.space c.run_attachment-made.new.space c.finds.invariant.leads handed.same in
    inl (g.met.S.PageSpace.goes_on 0 0 c.args.space.now c.run_attachment-made.new.space c.find_keys.new.space there c.in_err-keys-in-Find.ensures.looks.leads)

pub returns-in_err-add_answer-in-Find-clause-costs : goal.returns-in_err-add_answer-in-Find-clause-costs
returns-in_err-add_answer-in-Find-clause-costs g c = λ live want s kept has tables.
    let handed = subst (λ (m : Move). OnFind m (HandsUpIn g.S.PageSpace.has g.S.PageSpace.leads c.args.inst.now.owner c.finds.space c.run_attachment-made.new.space c.run_attachment-made.new.ctx c.in_ok-made.made)) c.in-Find.is (c.in_ok-made.ensures.runs c.requires.live).find in
    let there = g.met.S.PageSpace.goes_on 0 0 c.args.space.now c.finds.space c.run_attachment-made.new.space c.finds.invariant.leads handed.same in
    inl (g.met.S.PageSpace.goes_on 0 0 c.args.space.now c.run_attachment-made.new.space c.find_keys.new.space there c.in_ok-keys-in-Find.ensures.looks.leads)

pub returns-in_default-clause-costs : goal.returns-in_default-clause-costs
returns-in_default-clause-costs g c = λ live want s kept has tables.
    inr (costs_known g.S.PageSpace.has g.S.PageSpace.leads live.box c.args.inst.now c.args.call.now c.finds.answers.items c.in_ok-ctx.ctx (db_of kept) c.args.space.now c.finds.space c.run_attachment-made.new.space want s
    (c.in_ok-ctx.ensures ∙ ap knowing c.deref.ensures.value) (c.finds.invariant.over want s kept has tables) g.met.S.PageSpace.goes_on c.finds.invariant.leads (c.finds.invariant.has want s has) (c.in_ok-made.ensures.runs live).costs)
