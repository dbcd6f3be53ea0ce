use Rattle.sb_plain.specs.State.{view}
use Rattle.sb_refusals.proofs.Walks.{HasWalked-none, passes}
use Rattle.sb_refusals.proofs.uses.first_user.Goals as goal

pub loop-turn-init : goal.loop-turn-init
loop-turn-init g c = (g.met.C.Catalogue.stays c.args.catalogue.now, c.requires.ready, λ s sees. (sees, HasWalked-none c.args.command.now (view s)))

pub loop-turn-preserved : goal.loop-turn-preserved
loop-turn-preserved g c = (
  g.met.C.Catalogue.goes_on c.args.catalogue.now c.loop-turn.catalogue c.step_over-step.new.catalogue c.loop-turn.invariant.0 c.step_over-step.ensures.leads,
  c.step_over-step.ensures.ready,
  λ s sees.
      let so = c.loop-turn.invariant.2 s sees in
      let step = c.in_ok-relation.ensures.step s so.0 in (
        step.1,
        passes c.args.command.now (view s) c.loop-turn.after _ c.loop-turn._turn c.in_ok-relation.field-0 c.in-Unused.relation c.as_ref.ensures.value c.in-Unused.is
            (g.met.C.Catalogue.rising s c.loop-turn.catalogue so.0) so.1 step.0,
      ),
)
