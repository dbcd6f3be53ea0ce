use Rattle.std.proofs.Common.{◌≡◌, ◌<◌, ◌∙◌, true, inl, inr, Ok, Err, true≢false, refl, ap, sym, subst}
use Rattle.sb_ctx.proofs.ViewLaws.{HoldsPart-from_dropped}
use Rattle.sb_ctx.specs.declared.moves.Move.{Move}
use Rattle.sb_ctx.specs.declared.moves.Move.TheVariants.{Fresh}
use Rattle.sb_ctx.specs.View.{View, HoldsPart, IsClean, dropped, edits_of, stored}
use Rattle.sb_drive.specs.AttachCalls.{IsGivenMore}
use Rattle.sb_drive.specs.Promises.{MayAskFor}
use Rattle.sb_drive.specs.Slots.{Slots, owned}
use Rattle.sb_drive.specs.Spaces.{HoldsOf, IsFullFor, IsReadFault, Leaves, Wanted, WhereFull}
use Rattle.sb_drive.specs.Turns.{AsksNumbered, is_find}
use Rattle.sb_drive.specs.declared.turns.Turn.TheVariants.{Give}
use Rattle.sb_drive.proofs.AsksLemmas.{IsAsked-dropped, IsClean-IsGift, HoldsOf-IsGivenIn, found-IsGift, to_ask-IsGift}
use Rattle.sb_drive.proofs.GiftLemmas.{Given, Given-none, Given-IsGift, IsGivenMore-given, IsGivenMore-made}
use Rattle.sb_drive.proofs.MeasureLemmas.{to_ask}
use Rattle.sb_drive.proofs.PromiseLemmas.{Answers-end, CostsAsPromised-made, HasBoxCause-stop, Leaves-find, OnFind-handed}
use Rattle.sb_drive.proofs.SpacesLemmas.{LeadsWithin-none, LeadsWithin-on, LeadsWithin-zero, Leaves-so, IfErr-passed, IfOk-passed, UnlessDown-passed, UnlessDown-so, WhereFull-asked}
use Rattle.sb_drive.proofs.StoresLemmas.{edits_of-clean}
use Rattle.sb_drive.proofs.TurnsLemmas.{Fresh-asked, Need-asked, IsAsked-attachment, IsReadFault-asked, IsEnd-end, IsReadFault-stop, end-is}
use Rattle.sb_drive.proofs.driving.run_call.Goals as goal

pub loop-ask-init : goal.loop-ask-init
loop-ask-init g c = record {
  ready = c.requires.ready;
  clean = c.requires.clean;
  found = refl;
  leads = g.met.S.PageSpace.stays c.args.space.now;
  has = λ want s has. has;
  holds = c.requires.holds;
  given = λ want s has. Given-none c.args.ctx.now (MayAskFor (g.C.BoxCall.promise c.args.call.now c.args.ctx.now) (owned s c.args.owner));
}

pub loop-ask-smaller : goal.loop-ask-smaller
loop-ask-smaller g c =
    let ctx = c.make-made.new.ctx in
    let ask = c.in-Give.ask in
    let keeps = c.make-made.ensures.keeps c.args.ctx.now c.loop-ask.invariant.found in
    let asked = IsAsked-dropped ctx ask (IsAsked-attachment ctx c.make-made.result ask (sym c.turn_of.ensures.turn ∙ c.in-Give.is) keeps.asks) in
    subst (λ (v : View). to_ask c.answer.new.ctx < to_ask v) keeps.given
    (to_ask-IsGift (dropped ctx) c.answer.new.ctx ask (subst AsksNumbered c.in-Give.is c.turn_of.ensures.numbered) asked c.in_ok-answer-in-Give.ensures.gift)

pub loop-ask-preserved : goal.loop-ask-preserved
loop-ask-preserved g c =
    let owner = c.args.owner in
    let ctx = c.make-made.new.ctx in
    let before = c.loop-ask.invariant in
    let keeps = c.make-made.ensures.keeps c.args.ctx.now before.found in
    let answer = c.in_ok-answer-in-Give.ensures in
    record {
      ready = answer.ready;
      clean = IsClean-IsGift (dropped ctx) c.answer.new.ctx c.in-Give.ask answer.gift (subst IsClean (sym keeps.given) before.clean);
      found = found-IsGift (dropped ctx) c.answer.new.ctx c.in-Give.ask answer.gift ∙ ap (λ (v : View). v.found) keeps.given ∙ before.found;
      leads = g.met.S.PageSpace.goes_on 0 0 c.args.space.now c.loop-ask.space c.answer.new.self before.leads answer.leads;
      has = λ want s has. answer.pages want s (before.has want s has);
      holds = λ want s has. HoldsOf-IsGivenIn (g.S.PageSpace.total c.loop-ask.space) s owner (dropped ctx) c.answer.new.ctx c.in-Give.ask answer.gift (answer.given want s (before.has want s has))
          (subst (λ (v : View). HoldsOf s owner v) (sym keeps.given) (before.holds want s has));
      given = λ want s has.
          let p = g.C.BoxCall.promise c.args.call.now c.args.ctx.now in
          let P = owned s owner in
          let asks = sym c.turn_of.ensures.turn ∙ c.in-Give.is in
          Given-IsGift c.args.ctx.now (dropped ctx) c.answer.new.ctx c.in-Give.ask (MayAskFor p P) (IsAsked-dropped ctx c.in-Give.ask (IsAsked-attachment ctx c.make-made.result c.in-Give.ask asks keeps.asks))
          (λ n is. (ctx, subst (λ (move : Move). p.Spends P ctx move) (Need-asked c.make-made.result n (asks ∙ ap Give is)) (keeps.spends c.is_ctx.ensures P (before.holds want s has).part))) answer.gift
          (subst (λ (v : View). Given c.args.ctx.now v (MayAskFor p P)) (sym keeps.given) (before.given want s has));
    }

-- ---- a page is refused
pub returns-in_err-answer-in-Give-clause-found : goal.returns-in_err-answer-in-Give-clause-found
returns-in_err-answer-in-Give-clause-found g c =
    let keeps = c.make-made.ensures.keeps c.args.ctx.now c.loop-ask.invariant.found in
    ap (λ (v : View). v.found) (c.in_err-answer-in-Give.ensures.kept ∙ keeps.given) ∙ c.loop-ask.invariant.found

pub returns-in_err-answer-in-Give-clause-full : goal.returns-in_err-answer-in-Give-clause-full
returns-in_err-answer-in-Give-clause-full g c =
    let p = g.C.BoxCall.promise c.args.call.now c.args.ctx.now in
    let owner = c.args.owner in
    let ctx = c.make-made.new.ctx in
    let keeps = c.make-made.ensures.keeps c.args.ctx.now c.loop-ask.invariant.found in
    let fault = c.in_err-answer-in-Give.field-0.0 in
    let asked = sym c.turn_of.ensures.turn ∙ c.in-Give.is in
    IfErr-passed c.from_residual.result fault
    (λ e. (want : Wanted) (s : Slots) → g.S.PageSpace.has want s c.args.space.now
    → WhereFull e (IsFullFor g.S.PageSpace.leads g.S.PageSpace.durable g.S.PageSpace.total owner p.IsAsking (λ v. p.Spends (owned s owner) v Fresh) c.args.space.now s e))
    c.from_residual.ensures.1
    (λ want s has.
    let P = owned s owner in
    let holds = c.loop-ask.invariant.holds want s has in
    WhereFull-asked g.S.PageSpace.leads g.S.PageSpace.durable g.S.PageSpace.total owner p.IsAsking (λ v. p.Spends P v Fresh) c.args.space.now c.loop-ask.space s ctx c.in-Give.ask fault c.loop-ask.invariant.leads
    (subst (λ (v : View). HoldsOf s owner v) (sym keeps.given) holds)
    (λ fresh. keeps.fresh (Fresh-asked c.make-made.result (asked ∙ ap Give fresh)))
    (λ fresh. subst (λ (move : Move). p.Spends P ctx move) (Fresh-asked c.make-made.result (asked ∙ ap Give fresh)) (keeps.spends c.is_ctx.ensures P holds.part))
    (c.in_err-answer-in-Give.ensures.full want s (c.loop-ask.invariant.has want s has)))

pub returns-in_err-answer-in-Give-clause-leads : goal.returns-in_err-answer-in-Give-clause-leads
returns-in_err-answer-in-Give-clause-leads g c =
    (0, g.met.S.PageSpace.goes_on 0 0 c.args.space.now c.loop-ask.space c.answer.new.self c.loop-ask.invariant.leads c.in_err-answer-in-Give.ensures.leads)

pub returns-in_err-answer-in-Give-clause-costs : goal.returns-in_err-answer-in-Give-clause-costs
returns-in_err-answer-in-Give-clause-costs g c =
    let ctx = c.make-made.new.ctx in
    let leads = g.met.S.PageSpace.goes_on 0 0 c.args.space.now c.loop-ask.space c.answer.new.self c.loop-ask.invariant.leads c.in_err-answer-in-Give.ensures.leads in
    CostsAsPromised-made g.S.PageSpace.has g.S.PageSpace.leads c.args.owner (g.C.BoxCall.promise c.args.call.now c.args.ctx.now) c.args.space.now c.answer.new.self c.from_residual.result c.loop-ask.ctx ctx c.make-made.result c.is_ctx.ensures
    (c.make-made.ensures.keeps c.args.ctx.now c.loop-ask.invariant.found) c.loop-ask.invariant.holds (LeadsWithin-none g.S.PageSpace.leads (edits_of ctx) c.args.space.now c.answer.new.self leads)
    (IfOk-passed c.from_residual.result c.in_err-answer-in-Give.field-0.0 (λ end. c.make-made.result ≡ end) c.from_residual.ensures.1)
    (IfErr-passed c.from_residual.result c.in_err-answer-in-Give.field-0.0 _ c.from_residual.ensures.1 (inl leads))

pub returns-in_err-answer-in-Give-clause-reads : goal.returns-in_err-answer-in-Give-clause-reads
returns-in_err-answer-in-Give-clause-reads g c = λ reads.
    g.met.S.PageSpace.goes_on 0 0 c.args.space.now c.loop-ask.space c.answer.new.self c.loop-ask.invariant.leads c.in_err-answer-in-Give.ensures.leads

-- ---- the box stops
pub returns-in-Stop-clause-found : goal.returns-in-Stop-clause-found
returns-in-Stop-clause-found g c =
    let keeps = c.make-made.ensures.keeps c.args.ctx.now c.loop-ask.invariant.found in
    ap (λ (v : View). v.found) keeps.given ∙ c.loop-ask.invariant.found

pub returns-in-Stop-clause-damaged : goal.returns-in-Stop-clause-damaged
returns-in-Stop-clause-damaged g c = λ want s has.
    let keeps = c.make-made.ensures.keeps c.args.ctx.now c.loop-ask.invariant.found in
    let P = owned s c.args.owner in
    HasBoxCause-stop (g.C.BoxCall.promise c.args.call.now c.args.ctx.now) P c.make-made.result c.in-Stop.fault (sym c.turn_of.ensures.turn ∙ c.in-Stop.is)
    (λ n is. keeps.broken P n (c.loop-ask.invariant.holds want s has).part is)

pub returns-in-Stop-clause-costs : goal.returns-in-Stop-clause-costs
returns-in-Stop-clause-costs g c =
    let ctx = c.make-made.new.ctx in
    CostsAsPromised-made g.S.PageSpace.has g.S.PageSpace.leads c.args.owner (g.C.BoxCall.promise c.args.call.now c.args.ctx.now) c.args.space.now c.loop-ask.space (Err c.in-Stop.fault) c.loop-ask.ctx ctx c.make-made.result c.is_ctx.ensures
    (c.make-made.ensures.keeps c.args.ctx.now c.loop-ask.invariant.found) c.loop-ask.invariant.holds (LeadsWithin-none g.S.PageSpace.leads (edits_of ctx) c.args.space.now c.loop-ask.space c.loop-ask.invariant.leads)
    tt (inl c.loop-ask.invariant.leads)

-- ---- a find is handed up
pub returns-then-is_find-clause-answers : goal.returns-then-is_find-clause-answers
returns-then-is_find-clause-answers g c = λ want s has.
    let found : is_find c.in-End.end ≡ true = sym c.is_find.ensures ∙ c.if-is_find.true in
    Leaves-find g.S.PageSpace.has c.args.owner want s c.loop-ask.space (g.C.BoxCall.promise c.args.call.now c.args.ctx.now) c.loop-ask.ctx c.make-made.new.ctx c.make-made.result c.in-End.end
    (end-is c.make-made.result c.in-End.end (sym c.turn_of.ensures.turn ∙ c.in-End.is)) found (c.make-made.ensures.keeps c.args.ctx.now c.loop-ask.invariant.found) (c.loop-ask.invariant.has want s has)

pub returns-then-is_find-clause-find : goal.returns-then-is_find-clause-find
returns-then-is_find-clause-find g c =
    OnFind-handed g.S.PageSpace.has g.S.PageSpace.leads c.args.owner c.args.space.now c.loop-ask.space (g.C.BoxCall.promise c.args.call.now c.args.ctx.now) c.loop-ask.ctx c.make-made.new.ctx c.drop_edits.new.self c.make-made.result c.in-End.end
    (end-is c.make-made.result c.in-End.end (sym c.turn_of.ensures.turn ∙ c.in-End.is)) (c.make-made.ensures.keeps c.args.ctx.now c.loop-ask.invariant.found) c.drop_edits.ensures c.loop-ask.invariant.clean
    c.loop-ask.invariant.leads c.loop-ask.invariant.has c.loop-ask.invariant.holds

pub returns-then-is_find-clause-found : goal.returns-then-is_find-clause-found
returns-then-is_find-clause-found g c =
    let keeps = c.make-made.ensures.keeps c.args.ctx.now c.loop-ask.invariant.found in
    ap (λ (v : View). v.found) (c.drop_edits.ensures ∙ keeps.given) ∙ c.loop-ask.invariant.found

pub returns-then-is_find-clause-costs : goal.returns-then-is_find-clause-costs
returns-then-is_find-clause-costs g c =
    let ctx = c.make-made.new.ctx in
    CostsAsPromised-made g.S.PageSpace.has g.S.PageSpace.leads c.args.owner (g.C.BoxCall.promise c.args.call.now c.args.ctx.now) c.args.space.now c.loop-ask.space (Ok c.in-End.end) c.loop-ask.ctx ctx c.make-made.result c.is_ctx.ensures
    (c.make-made.ensures.keeps c.args.ctx.now c.loop-ask.invariant.found) c.loop-ask.invariant.holds (LeadsWithin-none g.S.PageSpace.leads (edits_of ctx) c.args.space.now c.loop-ask.space c.loop-ask.invariant.leads)
    (end-is c.make-made.result c.in-End.end (sym c.turn_of.ensures.turn ∙ c.in-End.is)) tt

-- ---- the edits are refused
pub returns-in_err-store_edits-in-End-clause-found : goal.returns-in_err-store_edits-in-End-clause-found
returns-in_err-store_edits-in-End-clause-found g c =
    let keeps = c.make-made.ensures.keeps c.args.ctx.now c.loop-ask.invariant.found in
    ap (λ (v : View). v.found) keeps.given ∙ c.loop-ask.invariant.found

pub returns-in_err-store_edits-in-End-clause-others : goal.returns-in_err-store_edits-in-End-clause-others
returns-in_err-store_edits-in-End-clause-others g c =
    let owner = c.args.owner in
    let ctx = c.make-made.new.ctx in
    let keeps = c.make-made.ensures.keeps c.args.ctx.now c.loop-ask.invariant.found in
    UnlessDown-passed (Unit {0}) Move c.from_residual-in_err-store_edits-in-End.result c.in_err-store_edits-in-End.field-0.0
    ((want : Wanted) (s : Slots) → g.S.PageSpace.has want s c.loop-ask.space → HoldsPart ctx (owned s owner) → Leaves g.S.PageSpace.has owner want s c.store_edits.new.space (λ after. Unit {0}))
    ((want : Wanted) (s : Slots) → g.S.PageSpace.has want s c.args.space.now → Leaves g.S.PageSpace.has owner want s c.store_edits.new.space (λ after. Unit {0}))
    c.from_residual-in_err-store_edits-in-End.ensures.1
    (λ left want s has. left want s (c.loop-ask.invariant.has want s has)
    (HoldsPart-from_dropped ctx c.loop-ask.ctx (owned s owner) keeps.given (c.loop-ask.invariant.holds want s has).part))
    c.in_err-store_edits-in-End.ensures.pages

pub returns-in_err-store_edits-in-End-clause-leads : goal.returns-in_err-store_edits-in-End-clause-leads
returns-in_err-store_edits-in-End-clause-leads g c =
    let within = LeadsWithin-on g.S.PageSpace.leads (edits_of c.make-made.new.ctx) c.args.space.now c.loop-ask.space c.store_edits.new.space g.met.S.PageSpace.goes_on c.loop-ask.invariant.leads c.in_err-store_edits-in-End.ensures.leads in
    (within.changes, within.leads)

pub returns-in_err-store_edits-in-End-clause-costs : goal.returns-in_err-store_edits-in-End-clause-costs
returns-in_err-store_edits-in-End-clause-costs g c =
    let keeps = c.make-made.ensures.keeps c.args.ctx.now c.loop-ask.invariant.found in
    let ctx = c.make-made.new.ctx in
    CostsAsPromised-made g.S.PageSpace.has g.S.PageSpace.leads c.args.owner (g.C.BoxCall.promise c.args.call.now c.args.ctx.now) c.args.space.now c.store_edits.new.space c.from_residual-in_err-store_edits-in-End.result c.loop-ask.ctx ctx c.make-made.result c.is_ctx.ensures
    (c.make-made.ensures.keeps c.args.ctx.now c.loop-ask.invariant.found) c.loop-ask.invariant.holds
    (LeadsWithin-on g.S.PageSpace.leads (edits_of ctx) c.args.space.now c.loop-ask.space c.store_edits.new.space g.met.S.PageSpace.goes_on c.loop-ask.invariant.leads c.in_err-store_edits-in-End.ensures.leads)
    (IfOk-passed c.from_residual-in_err-store_edits-in-End.result c.in_err-store_edits-in-End.field-0.0 (λ end. c.make-made.result ≡ end) c.from_residual-in_err-store_edits-in-End.ensures.1)
    (IfErr-passed c.from_residual-in_err-store_edits-in-End.result c.in_err-store_edits-in-End.field-0.0 _ c.from_residual-in_err-store_edits-in-End.ensures.1
    (inr (record { end = IsEnd-end c.make-made.result c.in-End.end (sym c.turn_of.ensures.turn ∙ c.in-End.is); answers = λ want s has. keeps.answers (owned s c.args.owner) (c.loop-ask.invariant.holds want s has).part })))

pub returns-in_err-store_edits-in-End-clause-reads : goal.returns-in_err-store_edits-in-End-clause-reads
returns-in_err-store_edits-in-End-clause-reads g c = λ reads.
    let ctx = c.make-made.new.ctx in
    let keeps = c.make-made.ensures.keeps c.args.ctx.now c.loop-ask.invariant.found in
    let none = edits_of-clean ctx c.is_ctx.ensures.sound (keeps.given ∙ sym (c.make-made.ensures.same reads)) in
    LeadsWithin-zero g.S.PageSpace.leads (edits_of ctx) c.args.space.now c.store_edits.new.space none
    (LeadsWithin-on g.S.PageSpace.leads (edits_of ctx) c.args.space.now c.loop-ask.space c.store_edits.new.space g.met.S.PageSpace.goes_on c.loop-ask.invariant.leads c.in_err-store_edits-in-End.ensures.leads)

-- ---- the end
pub returns-in-End-clause-found : goal.returns-in-End-clause-found
returns-in-End-clause-found g c =
    let keeps = c.make-made.ensures.keeps c.args.ctx.now c.loop-ask.invariant.found in
    ap (λ (v : View). v.found) keeps.given ∙ c.loop-ask.invariant.found

pub returns-in-End-clause-answers : goal.returns-in-End-clause-answers
returns-in-End-clause-answers g c = λ want s has.
    let p = g.C.BoxCall.promise c.args.call.now c.args.ctx.now in
    let P = owned s c.args.owner in
    let ctx = c.make-made.new.ctx in
    let keeps = c.make-made.ensures.keeps c.args.ctx.now c.loop-ask.invariant.found in
    let part = (c.loop-ask.invariant.holds want s has).part in
    Leaves-so g.S.PageSpace.has c.args.owner want s c.store_edits.new.space (λ after. after ≡ stored ctx P) (λ after. p.Answers P after c.in-End.end)
    (λ after same. Answers-end p P (stored ctx P) after c.make-made.result c.in-End.end (end-is c.make-made.result c.in-End.end (sym c.turn_of.ensures.turn ∙ c.in-End.is)) same (keeps.answers P part))
    (c.in_ok-store_edits-in-End.ensures.pages want s (c.loop-ask.invariant.has want s has) (HoldsPart-from_dropped ctx c.loop-ask.ctx P keeps.given part))

pub returns-in-End-clause-others : goal.returns-in-End-clause-others
returns-in-End-clause-others g c = λ want s has.
    let P = owned s c.args.owner in
    let ctx = c.make-made.new.ctx in
    let keeps = c.make-made.ensures.keeps c.args.ctx.now c.loop-ask.invariant.found in
    let part = HoldsPart-from_dropped ctx c.loop-ask.ctx P keeps.given (c.loop-ask.invariant.holds want s has).part in
    Leaves-so g.S.PageSpace.has c.args.owner want s c.store_edits.new.space (λ after. after ≡ stored ctx P) (λ after. Unit {0}) (λ after so. tt)
    (c.in_ok-store_edits-in-End.ensures.pages want s (c.loop-ask.invariant.has want s has) part)

pub returns-in-End-clause-leads : goal.returns-in-End-clause-leads
returns-in-End-clause-leads g c =
    let within = LeadsWithin-on g.S.PageSpace.leads (edits_of c.make-made.new.ctx) c.args.space.now c.loop-ask.space c.store_edits.new.space g.met.S.PageSpace.goes_on c.loop-ask.invariant.leads c.in_ok-store_edits-in-End.ensures.leads in
    (within.changes, within.leads)

pub returns-in-End-clause-costs : goal.returns-in-End-clause-costs
returns-in-End-clause-costs g c =
    let ctx = c.make-made.new.ctx in
    CostsAsPromised-made g.S.PageSpace.has g.S.PageSpace.leads c.args.owner (g.C.BoxCall.promise c.args.call.now c.args.ctx.now) c.args.space.now c.store_edits.new.space (Ok c.in-End.end) c.loop-ask.ctx ctx c.make-made.result c.is_ctx.ensures
    (c.make-made.ensures.keeps c.args.ctx.now c.loop-ask.invariant.found) c.loop-ask.invariant.holds
    (LeadsWithin-on g.S.PageSpace.leads (edits_of ctx) c.args.space.now c.loop-ask.space c.store_edits.new.space g.met.S.PageSpace.goes_on c.loop-ask.invariant.leads c.in_ok-store_edits-in-End.ensures.leads)
    (end-is c.make-made.result c.in-End.end (sym c.turn_of.ensures.turn ∙ c.in-End.is)) tt

pub returns-in-End-clause-reads : goal.returns-in-End-clause-reads
returns-in-End-clause-reads g c = λ reads.
    let ctx = c.make-made.new.ctx in
    let keeps = c.make-made.ensures.keeps c.args.ctx.now c.loop-ask.invariant.found in
    let none = edits_of-clean ctx c.is_ctx.ensures.sound (keeps.given ∙ sym (c.make-made.ensures.same reads)) in
    LeadsWithin-zero g.S.PageSpace.leads (edits_of ctx) c.args.space.now c.store_edits.new.space none
    (LeadsWithin-on g.S.PageSpace.leads (edits_of ctx) c.args.space.now c.loop-ask.space c.store_edits.new.space g.met.S.PageSpace.goes_on c.loop-ask.invariant.leads c.in_ok-store_edits-in-End.ensures.leads)

-- ---- a call that only reads
pub store_edits-requires-clause-clean : goal.store_edits-requires-clause-clean
store_edits-requires-clause-clean g c = λ is. (c.make-made.ensures.keeps c.args.ctx.now c.loop-ask.invariant.found).given ∙ sym (c.make-made.ensures.same (c.is_reading.ensures.0 is))

pub returns-in_err-answer-in-Give-clause-same : goal.returns-in_err-answer-in-Give-clause-same
returns-in_err-answer-in-Give-clause-same g c = λ reading.
    UnlessDown-passed (Unit {0}) Move c.from_residual.result c.in_err-answer-in-Give.field-0.0
    ((want : Wanted) (s : Slots) → g.S.PageSpace.has want s c.loop-ask.space → g.S.PageSpace.has want s c.answer.new.self)
    ((want : Wanted) (s : Slots) → g.S.PageSpace.has want s c.args.space.now → g.S.PageSpace.has want s c.answer.new.self)
    c.from_residual.ensures.1 (λ left want s has. left want s (c.loop-ask.invariant.has want s has)) c.in_err-answer-in-Give.ensures.pages

pub returns-in_err-answer-in-Give-clause-looks : goal.returns-in_err-answer-in-Give-clause-looks
returns-in_err-answer-in-Give-clause-looks g c = λ reading.
    let fault = c.in_err-answer-in-Give.field-0.0 in
    IfErr-passed c.from_residual.result fault IsReadFault c.from_residual.ensures.1
    (IsReadFault-asked c.make-made.result c.in-Give.ask fault (c.make-made.ensures.looks reading) (sym c.turn_of.ensures.turn ∙ c.in-Give.is) c.in_err-answer-in-Give.ensures.looks)

pub returns-in-Stop-clause-same : goal.returns-in-Stop-clause-same
returns-in-Stop-clause-same g c = λ reading. UnlessDown-so {T = Move} (Err c.in-Stop.fault) _ (λ want s has. c.loop-ask.invariant.has want s has)

pub returns-in-Stop-clause-looks : goal.returns-in-Stop-clause-looks
returns-in-Stop-clause-looks g c = λ reading. IsReadFault-stop c.make-made.result c.in-Stop.fault (sym c.turn_of.ensures.turn ∙ c.in-Stop.is)

pub returns-in_err-store_edits-in-End-clause-same : goal.returns-in_err-store_edits-in-End-clause-same
returns-in_err-store_edits-in-End-clause-same g c = λ reading. absurd (true≢false (sym (c.in_err-store_edits-in-End.ensures.never (c.is_reading.ensures.1 reading))))

pub returns-in_err-store_edits-in-End-clause-looks : goal.returns-in_err-store_edits-in-End-clause-looks
returns-in_err-store_edits-in-End-clause-looks g c = λ reading. absurd (true≢false (sym (c.in_err-store_edits-in-End.ensures.never (c.is_reading.ensures.1 reading))))

pub returns-in-End-clause-same : goal.returns-in-End-clause-same
returns-in-End-clause-same g c = λ reading want s has.
    let same = c.in_ok-store_edits-in-End.ensures.same (c.is_reading.ensures.1 reading) in
    subst (λ x. g.S.PageSpace.has want s x) (sym same) (c.loop-ask.invariant.has want s has)

-- ---- what the Ctx was given more
pub returns-in_err-answer-in-Give-clause-asks : goal.returns-in_err-answer-in-Give-clause-asks
returns-in_err-answer-in-Give-clause-asks g c = λ want s has.
    let old = c.args.ctx.now in
    let keeps = c.make-made.ensures.keeps old c.loop-ask.invariant.found in
    let IsOn = MayAskFor (g.C.BoxCall.promise c.args.call.now old) (owned s c.args.owner) in
    subst (λ (v : View). IsGivenMore old v IsOn) (sym (c.in_err-answer-in-Give.ensures.kept ∙ keeps.given)) (IsGivenMore-given old c.loop-ask.ctx IsOn (c.loop-ask.invariant.given want s has))

pub returns-in-Stop-clause-asks : goal.returns-in-Stop-clause-asks
returns-in-Stop-clause-asks g c = λ want s has.
    let old = c.args.ctx.now in
    let keeps = c.make-made.ensures.keeps old c.loop-ask.invariant.found in
    IsGivenMore-made old c.loop-ask.ctx c.make-made.new.ctx (MayAskFor (g.C.BoxCall.promise c.args.call.now old) (owned s c.args.owner)) keeps.given (c.loop-ask.invariant.given want s has)

pub returns-then-is_find-clause-asks : goal.returns-then-is_find-clause-asks
returns-then-is_find-clause-asks g c = λ want s has.
    let old = c.args.ctx.now in
    let keeps = c.make-made.ensures.keeps old c.loop-ask.invariant.found in
    let IsOn = MayAskFor (g.C.BoxCall.promise c.args.call.now old) (owned s c.args.owner) in
    subst (λ (v : View). IsGivenMore old v IsOn) (sym (c.drop_edits.ensures ∙ keeps.given)) (IsGivenMore-given old c.loop-ask.ctx IsOn (c.loop-ask.invariant.given want s has))

pub returns-in_err-store_edits-in-End-clause-asks : goal.returns-in_err-store_edits-in-End-clause-asks
returns-in_err-store_edits-in-End-clause-asks g c = λ want s has.
    let old = c.args.ctx.now in
    let keeps = c.make-made.ensures.keeps old c.loop-ask.invariant.found in
    IsGivenMore-made old c.loop-ask.ctx c.make-made.new.ctx (MayAskFor (g.C.BoxCall.promise c.args.call.now old) (owned s c.args.owner)) keeps.given (c.loop-ask.invariant.given want s has)

pub returns-in-End-clause-asks : goal.returns-in-End-clause-asks
returns-in-End-clause-asks g c = λ want s has.
    let old = c.args.ctx.now in
    let keeps = c.make-made.ensures.keeps old c.loop-ask.invariant.found in
    IsGivenMore-made old c.loop-ask.ctx c.make-made.new.ctx (MayAskFor (g.C.BoxCall.promise c.args.call.now old) (owned s c.args.owner)) keeps.given (c.loop-ask.invariant.given want s has)
