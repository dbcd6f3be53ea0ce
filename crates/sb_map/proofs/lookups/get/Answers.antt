use Rattle.std.proofs.Common.{refl, ◌∙◌}
use Rattle.sb_drive.specs.Slots.{owned}
use Rattle.sb_map.proofs.Finding.{got}
use Rattle.sb_map.proofs.Stopping.{damaged, whole}
use Rattle.sb_map.proofs.Walking.{Looks-refused, Turned-answered, Turned-ended, Walking-begins, Walking-on}
use Rattle.sb_map.proofs.lookups.get.Goals as goal

pub loop-ctx-init : goal.loop-ctx-init
loop-ctx-init g c = record {
  ready = c.requires.ready;
  walking = Walking-begins g.S.PageSpace.has g.S.PageSpace.leads c.args.place.owner c.args.space.now c.new-ctx.result c.new-ctx.ensures (g.met.S.PageSpace.stays c.args.space.now) g.met.S.PageSpace.whole g.met.S.PageSpace.few;
}

pub loop-ctx-preserved : goal.loop-ctx-preserved
loop-ctx-preserved g c =
    let turn = c.in_ok-found.ensures in
    let answered = Turned-answered g.S.PageSpace.has c.args.place.owner c.loop-ctx.space c.turn.new.space c.loop-ctx.ctx c.turn.new.ctx c.find-walk.result c.in_ok-found.field-0 c.in_default.is turn.turned in
    record {
      ready = turn.ready;
      walking = Walking-on g.S.PageSpace.has g.S.PageSpace.leads c.args.place.owner c.args.space.now c.loop-ctx.space c.turn.new.space c.loop-ctx.ctx c.loop-ctx.ctx c.turn.new.ctx
          g.met.S.PageSpace.goes_on c.loop-ctx.invariant.walking refl answered turn.looks.same turn.looks.leads;
    }

pub returns-in_err-found-clause-damaged : goal.returns-in_err-found-clause-damaged
returns-in_err-found-clause-damaged g c =
    damaged g.S.PageSpace.has g.S.PageSpace.leads c.args.place c.args.space.now c.loop-ctx.space c.loop-ctx.ctx c.find-walk.result c.from_residual.result c.in_err-found.field-0.0
    c.loop-ctx.invariant.walking c.find-walk.ensures.broken c.from_residual.ensures.1 (λ want s has. c.in_err-found.ensures.stops)

pub returns-in_err-found-clause-whole : goal.returns-in_err-found-clause-whole
returns-in_err-found-clause-whole g c =
    whole g.S.PageSpace.has c.args.place c.args.space.now c.from_residual.result
    (damaged g.S.PageSpace.has g.S.PageSpace.leads c.args.place c.args.space.now c.loop-ctx.space c.loop-ctx.ctx c.find-walk.result c.from_residual.result c.in_err-found.field-0.0
    c.loop-ctx.invariant.walking c.find-walk.ensures.broken c.from_residual.ensures.1 (λ want s has. c.in_err-found.ensures.stops))

pub returns-in_err-found-clause-looks : goal.returns-in_err-found-clause-looks
returns-in_err-found-clause-looks g c =
    Looks-refused g.S.PageSpace.has g.S.PageSpace.leads g.S.PageSpace.fails c.args.place.owner c.args.space.now c.loop-ctx.space c.turn.new.space c.loop-ctx.ctx c.from_residual.result c.in_err-found.field-0.0
    g.met.S.PageSpace.goes_on g.met.S.PageSpace.fails_on c.loop-ctx.invariant.walking c.from_residual.ensures.1 c.in_err-found.ensures.looks

pub returns-in-Some-clause-value : goal.returns-in-Some-clause-value
returns-in-Some-clause-value g c = λ want s has es read.
    let ended = Turned-ended g.S.PageSpace.has c.args.place.owner c.loop-ctx.space c.turn.new.space c.loop-ctx.ctx c.turn.new.ctx c.find-walk.result c.in_ok-found.field-0 c.in-Some.found c.in-Some.is c.in_ok-found.ensures.turned in
    let walking = c.loop-ctx.invariant.walking in
    c.value_in.ensures ∙ got c.args.place.root (owned s c.args.place.owner) c.loop-ctx.ctx c.args.key.now es c.find-walk.result c.in-Some.found walking.clean.unchanged (walking.holds want s has).part c.find-walk.ensures.gives ended.is read
