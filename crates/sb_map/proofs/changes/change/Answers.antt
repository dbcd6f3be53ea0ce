use Rattle.std.proofs.Common.{ℕ, true, true≢false, List, Bor, option_map, sym, ◌∙◌}
use Rattle.sb_drive.proofs.SpacesLemmas.{IfErr-passed}
use Rattle.sb_map.specs.Calls.{IsAsking}
use Rattle.sb_map.specs.Changes.{changed}
use Rattle.sb_map.specs.Maps.{OverPages}
use Rattle.sb_map.specs.Refusals.{HasCause}
use Rattle.sb_map.proofs.Stopping.{whole}
use Rattle.sb_map.proofs.Storing.{Becomes-same, Becomes-stored, Works-stored, Works-unstored}
use Rattle.sb_map.proofs.changes.change.Goals as goal

pub returns-in_err-ctx-clause-whole : goal.returns-in_err-ctx-clause-whole
returns-in_err-ctx-clause-whole g c =
    whole g.S.PageSpace.has c.args.place c.args.space.now c.from_residual.result
    (IfErr-passed c.from_residual.result c.in_err-ctx.field-0.0 (λ e. OverPages g.S.PageSpace.has c.args.place c.args.space.now (λ P. HasCause c.args.place.root P e)) c.from_residual.ensures.1 c.in_err-ctx.ensures.damaged)

-- ---- nothing is to be changed
pub returns-then-not-done-clause-change : goal.returns-then-not-done-clause-change
returns-then-not-done-clause-change g c = λ want s has es read. sym c.if-not-done.true ∙ (c.in_ok-ctx.ensures.made want s has es read).is

pub returns-then-not-done-clause-becomes : goal.returns-then-not-done-clause-becomes
returns-then-not-done-clause-becomes g c =
    let value = option_map (λ (value : Bor (List ℕ)). value.now) c.args.value in
    Becomes-same g.S.PageSpace.has c.args.place c.args.space.now c.make_change.new.space c.args.key.now value c.in_ok-ctx.ensures.looks.same
    (λ want s has es read. sym (c.in_ok-ctx.ensures.made want s has es read).is ∙ c.if-not-done.true)

pub returns-then-not-done-clause-none : goal.returns-then-not-done-clause-none
returns-then-not-done-clause-none g c = λ no. c.in_ok-ctx.ensures.looks.leads

-- ---- a change is stored, or refused
pub returns-in_err-store-clause-works : goal.returns-in_err-store-clause-works
returns-in_err-store-clause-works g c =
    let store = c.in_err-store.ensures in
    Works-unstored g.S.PageSpace.has g.S.PageSpace.leads g.S.PageSpace.fails g.S.PageSpace.durable g.S.PageSpace.total c.args.place (IsAsking c.args.place.root) c.args.space.now c.make_change.new.space c.store.new.self c.in_ok-ctx.ctx _ c.from_residual-in_err-store.result c.in_err-store.field-0.0
    g.met.S.PageSpace.goes_on g.met.S.PageSpace.fails_on c.from_residual-in_err-store.ensures.1 c.in_ok-ctx.ensures.looks c.in_ok-ctx.ensures.part (λ want s has es read. (c.in_ok-ctx.ensures.made want s has es read).edits)
    store.pages store.undamaged store.leads store.fails

pub returns-clause-change : goal.returns-clause-change
returns-clause-change g c = λ want s has es read. sym c.if-not-done.false ∙ (c.in_ok-ctx.ensures.made want s has es read).is

pub returns-clause-becomes : goal.returns-clause-becomes
returns-clause-becomes g c =
    let value = option_map (λ (value : Bor (List ℕ)). value.now) c.args.value in
    Becomes-stored g.S.PageSpace.has g.S.PageSpace.leads g.S.PageSpace.fails c.args.place c.args.space.now c.make_change.new.space c.store.new.self c.in_ok-ctx.ctx _ (changed c.args.key.now value)
    c.in_ok-ctx.ensures.looks c.in_ok-ctx.ensures.part (λ want s has es read. (c.in_ok-ctx.ensures.made want s has es read).tree c.if-not-done.false) c.in_ok-store.ensures.pages

pub returns-clause-works : goal.returns-clause-works
returns-clause-works g c =
    let store = c.in_ok-store.ensures in
    Works-stored g.S.PageSpace.has g.S.PageSpace.leads g.S.PageSpace.fails g.S.PageSpace.durable g.S.PageSpace.total c.args.place (IsAsking c.args.place.root) c.args.space.now c.make_change.new.space c.store.new.self c.in_ok-ctx.ctx _ true
    g.met.S.PageSpace.goes_on c.in_ok-ctx.ensures.looks c.in_ok-ctx.ensures.part (λ want s has es read. (c.in_ok-ctx.ensures.made want s has es read).edits) store.pages store.leads

pub returns-clause-none : goal.returns-clause-none
returns-clause-none g c = λ no. absurd (true≢false no)
