use Rattle.std.proofs.Common.{◌≤◌, sym, subst, arith}
use Rattle.sb_ctx.specs.View.{View, edits_of}
use Rattle.sb_drive.specs.Slots.{owned}
use Rattle.sb_drive.proofs.StoresLemmas.{edits_of-clean}
use Rattle.sb_map.specs.Making.{MakesEmpty}
use Rattle.sb_map.proofs.Emptying.{MakesEmpty-ended, whole_new}
use Rattle.sb_drive.specs.Slots.{Slots}
use Rattle.sb_drive.specs.Spaces.{IsFullFor}
use Rattle.sb_drive.specs.declared.space.SpaceFault.{SpaceFault}
use Rattle.sb_map.specs.Calls.{IsWithin, NeverAsks}
use Rattle.sb_btree.specs.Prepared.{Prepares}
use Rattle.sb_map.proofs.Stopping.{damaged, never_full}
use Rattle.sb_map.proofs.Walking.{HoldsPart-ended, Looks-refused, Turned-answered, Turned-ended, Walking-begins, Walking-on}
use Rattle.sb_map.proofs.making.make_root.Goals as goal

pub loop-ctx-init : goal.loop-ctx-init
loop-ctx-init g c = record {
  ready = c.requires.ready;
  walking = Walking-begins g.S.PageSpace.has g.S.PageSpace.leads c.args.place.owner c.args.space.now c.new-ctx.result c.new-ctx.ensures (g.met.S.PageSpace.stays c.args.space.now) g.met.S.PageSpace.whole g.met.S.PageSpace.few;
}

pub loop-ctx-preserved : goal.loop-ctx-preserved
loop-ctx-preserved g c =
    let turn = c.in_ok-turn.ensures in
    let answered = Turned-answered g.S.PageSpace.has c.args.place.owner c.loop-ctx.space c.turn.new.space c.prepare-walk.new.ctx c.turn.new.ctx c.prepare-walk.result c.in_ok-turn.field-0 c.in_default.is turn.turned in
    record {
      ready = turn.ready;
      walking = Walking-on g.S.PageSpace.has g.S.PageSpace.leads c.args.place.owner c.args.space.now c.loop-ctx.space c.turn.new.space c.loop-ctx.ctx c.prepare-walk.new.ctx c.turn.new.ctx
          g.met.S.PageSpace.goes_on c.loop-ctx.invariant.walking c.prepare-walk.ensures.given answered turn.looks.same turn.looks.leads;
    }

pub returns-in_err-turn-clause-damaged : goal.returns-in_err-turn-clause-damaged
returns-in_err-turn-clause-damaged g c =
    damaged g.S.PageSpace.has g.S.PageSpace.leads c.args.place c.args.space.now c.loop-ctx.space c.loop-ctx.ctx c.prepare-walk.result c.from_residual.result c.in_err-turn.field-0.0
    c.loop-ctx.invariant.walking c.prepare-walk.ensures.broken c.from_residual.ensures.1 (λ want s has. c.in_err-turn.ensures.stops)

pub returns-in_err-turn-clause-full : goal.returns-in_err-turn-clause-full
returns-in_err-turn-clause-full g c =
    let place = c.args.place in
    let space = c.args.space.now in
    never_full g.S.PageSpace.has space (λ (s : Slots) (e : SpaceFault). IsFullFor g.S.PageSpace.leads g.S.PageSpace.durable g.S.PageSpace.total place.owner NeverAsks (IsWithin place.root (owned s place.owner)) space s e) c.prepare-walk.result c.from_residual.result
    c.in_err-turn.field-0.0 (λ fresh. subst (Prepares c.loop-ctx.ctx c.prepare-walk.new.ctx place.root) fresh c.prepare-walk.ensures.prepares) c.from_residual.ensures.1 c.in_err-turn.ensures.stops

pub returns-in_err-turn-clause-looks : goal.returns-in_err-turn-clause-looks
returns-in_err-turn-clause-looks g c =
    Looks-refused g.S.PageSpace.has g.S.PageSpace.leads g.S.PageSpace.fails c.args.place.owner c.args.space.now c.loop-ctx.space c.turn.new.space c.loop-ctx.ctx c.from_residual.result c.in_err-turn.field-0.0
    g.met.S.PageSpace.goes_on g.met.S.PageSpace.fails_on c.loop-ctx.invariant.walking c.from_residual.ensures.1 c.in_err-turn.ensures.looks

pub returns-in-Some-clause-part : goal.returns-in-Some-clause-part
returns-in-Some-clause-part g c =
    let ended = Turned-ended g.S.PageSpace.has c.args.place.owner c.loop-ctx.space c.turn.new.space c.prepare-walk.new.ctx c.turn.new.ctx c.prepare-walk.result c.in_ok-turn.field-0 _ c.in-Some.is c.in_ok-turn.ensures.turned in
    HoldsPart-ended g.S.PageSpace.has g.S.PageSpace.leads c.args.place.owner c.args.space.now c.loop-ctx.space c.loop-ctx.ctx c.prepare-walk.new.ctx c.turn.new.ctx c.loop-ctx.invariant.walking c.prepare-walk.ensures.given ended.ctx

pub returns-in_err-turn-clause-whole : goal.returns-in_err-turn-clause-whole
returns-in_err-turn-clause-whole g c =
    whole_new g.S.PageSpace.has g.S.PageSpace.leads c.args.place c.args.space.now c.loop-ctx.space c.loop-ctx.ctx c.prepare-walk.new.ctx c.prepare-walk.result c.from_residual.result c.in_err-turn.field-0.0
    c.loop-ctx.invariant.walking c.prepare-walk.ensures.given c.prepare-walk.ensures.prepares c.prepare-walk.ensures.asks c.from_residual.ensures.1 (λ want s has. c.in_err-turn.ensures.stops)

pub returns-in-Some-clause-empty : goal.returns-in-Some-clause-empty
returns-in-Some-clause-empty g c = λ want s has.
    let ended = Turned-ended g.S.PageSpace.has c.args.place.owner c.loop-ctx.space c.turn.new.space c.prepare-walk.new.ctx c.turn.new.ctx c.prepare-walk.result c.in_ok-turn.field-0 _ c.in-Some.is c.in_ok-turn.ensures.turned in
    subst (λ (v : View). MakesEmpty c.args.place.root v (owned s c.args.place.owner)) (sym ended.ctx)
    (MakesEmpty-ended c.args.place.root (owned s c.args.place.owner) c.loop-ctx.ctx c.prepare-walk.new.ctx c.prepare-walk.result _ c.loop-ctx.invariant.walking.clean.unchanged (c.loop-ctx.invariant.walking.holds want s has).part
    c.prepare-walk.ensures.prepares ended.is)

pub returns-in-Some-clause-edits : goal.returns-in-Some-clause-edits
returns-in-Some-clause-edits g c =
    let ended = Turned-ended g.S.PageSpace.has c.args.place.owner c.loop-ctx.space c.turn.new.space c.prepare-walk.new.ctx c.turn.new.ctx c.prepare-walk.result c.in_ok-turn.field-0 _ c.in-Some.is c.in_ok-turn.ensures.turned in
    let few : edits_of c.prepare-walk.new.ctx ≤ 1 = omega (arith, c.prepare-walk.ensures.edits, edits_of-clean c.loop-ctx.ctx c.is_ctx.ensures.sound c.loop-ctx.invariant.walking.clean.unchanged) in
    subst (λ (v : View). edits_of v ≤ 1) (sym ended.ctx) few
