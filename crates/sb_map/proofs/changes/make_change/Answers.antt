use Rattle.std.proofs.Common.{ℕ, List, Bor, option_map, sym, subst}
use Rattle.sb_ctx.specs.View.{View}
use Rattle.sb_drive.specs.Slots.{owned}
use Rattle.sb_map.specs.Changes.{IsMade}
use Rattle.sb_map.proofs.Changing.{IsMade-ended}
use Rattle.sb_map.proofs.Stopping.{damaged, full}
use Rattle.sb_map.proofs.Walking.{HoldsPart-ended, Looks-refused, Turned-answered, Turned-ended, Walking-begins, Walking-on}
use Rattle.sb_map.proofs.changes.make_change.Goals as goal

pub loop-ctx-init : goal.loop-ctx-init
loop-ctx-init g c = record {
  ready = c.requires.ready;
  walking = Walking-begins g.S.PageSpace.has g.S.PageSpace.leads c.args.place.owner c.args.space.now c.new-ctx.result c.new-ctx.ensures (g.met.S.PageSpace.stays c.args.space.now) g.met.S.PageSpace.whole g.met.S.PageSpace.few;
}

pub loop-ctx-preserved : goal.loop-ctx-preserved
loop-ctx-preserved g c =
    let turn = c.in_ok-done.ensures in
    let answered = Turned-answered g.S.PageSpace.has c.args.place.owner c.loop-ctx.space c.turn.new.space c.change_walk-walk.new.ctx c.turn.new.ctx c.change_walk-walk.result c.in_ok-done.field-0 c.in_default.is turn.turned in
    record {
      ready = turn.ready;
      walking = Walking-on g.S.PageSpace.has g.S.PageSpace.leads c.args.place.owner c.args.space.now c.loop-ctx.space c.turn.new.space c.loop-ctx.ctx c.change_walk-walk.new.ctx c.turn.new.ctx
          g.met.S.PageSpace.goes_on c.loop-ctx.invariant.walking c.change_walk-walk.ensures.given answered turn.looks.same turn.looks.leads;
    }

pub returns-in_err-done-clause-damaged : goal.returns-in_err-done-clause-damaged
returns-in_err-done-clause-damaged g c =
    damaged g.S.PageSpace.has g.S.PageSpace.leads c.args.place c.args.space.now c.loop-ctx.space c.loop-ctx.ctx c.change_walk-walk.result c.from_residual.result c.in_err-done.field-0.0
    c.loop-ctx.invariant.walking c.change_walk-walk.ensures.broken c.from_residual.ensures.1 (λ want s has. c.in_err-done.ensures.stops)

pub returns-in_err-done-clause-looks : goal.returns-in_err-done-clause-looks
returns-in_err-done-clause-looks g c =
    Looks-refused g.S.PageSpace.has g.S.PageSpace.leads g.S.PageSpace.fails c.args.place.owner c.args.space.now c.loop-ctx.space c.turn.new.space c.loop-ctx.ctx c.from_residual.result c.in_err-done.field-0.0
    g.met.S.PageSpace.goes_on g.met.S.PageSpace.fails_on c.loop-ctx.invariant.walking c.from_residual.ensures.1 c.in_err-done.ensures.looks

pub returns-in-Some-clause-part : goal.returns-in-Some-clause-part
returns-in-Some-clause-part g c =
    let ended = Turned-ended g.S.PageSpace.has c.args.place.owner c.loop-ctx.space c.turn.new.space c.change_walk-walk.new.ctx c.turn.new.ctx c.change_walk-walk.result c.in_ok-done.field-0 c.in-Some.done c.in-Some.is c.in_ok-done.ensures.turned in
    HoldsPart-ended g.S.PageSpace.has g.S.PageSpace.leads c.args.place.owner c.args.space.now c.loop-ctx.space c.loop-ctx.ctx c.change_walk-walk.new.ctx c.turn.new.ctx c.loop-ctx.invariant.walking c.change_walk-walk.ensures.given ended.ctx

pub returns-in_err-done-clause-full : goal.returns-in_err-done-clause-full
returns-in_err-done-clause-full g c =
    let walk = c.change_walk-walk.ensures in
    full g.S.PageSpace.has g.S.PageSpace.leads g.S.PageSpace.durable g.S.PageSpace.total c.args.place c.args.space.now c.loop-ctx.space c.loop-ctx.ctx c.change_walk-walk.new.ctx c.change_walk-walk.result c.from_residual.result
    c.in_err-done.field-0.0 c.loop-ctx.invariant.walking c.is_ctx.ensures.sound walk.given walk.asks walk.edits walk.room c.from_residual.ensures.1 c.in_err-done.ensures.stops c.in_err-done.ensures.full

pub returns-in-Some-clause-made : goal.returns-in-Some-clause-made
returns-in-Some-clause-made g c = λ want s has es read.
    let ended = Turned-ended g.S.PageSpace.has c.args.place.owner c.loop-ctx.space c.turn.new.space c.change_walk-walk.new.ctx c.turn.new.ctx c.change_walk-walk.result c.in_ok-done.field-0 c.in-Some.done c.in-Some.is c.in_ok-done.ensures.turned in
    let walking = c.loop-ctx.invariant.walking in
    let walk = c.change_walk-walk.ensures in
    let P = owned s c.args.place.owner in
    let value = option_map (λ (value : Bor (List ℕ)). value.now) c.args.value in
    subst (λ (v : View). IsMade c.args.key.now value c.args.place.root P es v c.in-Some.done) (sym ended.ctx)
    (IsMade-ended c.args.key.now value c.args.place.root P es c.loop-ctx.ctx c.change_walk-walk.new.ctx c.change_walk-walk.result c.in-Some.done c.is_ctx.ensures.sound walking.clean.unchanged (walking.holds want s has).part walk.makes walk.edits ended.is read)
