use Rattle.sb_drive.specs.AttachAnswers.{Spends}
use Rattle.sb_drive.specs.Move.TheVariants.{Fresh}
use Rattle.sb_drive.specs.AttachCalls.{IsAsking}
use Rattle.sb_drive.specs.Slots.{owned}
use Rattle.sb_registry.proofs.RunsLemmas.{sound-Holds, sound-new, WasFull-each}
use Rattle.sb_registry.proofs.calls.call_attachment.Goals as goal

pub returns-clause-runs : goal.returns-clause-runs
returns-clause-runs g c =
    let a = (goal.Attachment-dyn g c.args.boxed.now).attachment c.args.boxed.now.1 in
    record {
      answers = c.run_attachment.ensures.answers;
      find = c.run_attachment.ensures.find;
      sound = sound-Holds g.S.PageSpace.has a c.args.inst.now c.args.call.now c.args.space.now c.run_attachment.result c.law_of_rule.ensures c.run_attachment.ensures.damaged;
      sound_new = sound-new g.S.PageSpace.has a c.args.inst.now c.args.call.now c.args.space.now c.run_attachment.result c.run_attachment.ensures.damaged;
      damaged = c.run_attachment.ensures.damaged;
      full = c.run_attachment.ensures.full;
      costs = c.run_attachment.ensures.costs;
    }

pub returns-clause-works : goal.returns-clause-works
returns-clause-works g c =
    let a = (goal.Attachment-dyn g c.args.boxed.now).attachment c.args.boxed.now.1 in
    let inst = c.args.inst.now in
    let made = c.run_attachment.ensures in
    record {
      others = made.others;
      leads = made.leads;
      full = WasFull-each g.S.PageSpace.has g.S.PageSpace.leads g.S.PageSpace.durable g.S.PageSpace.total inst.owner (IsAsking a inst c.args.call.now c.args.ctx.now) (λ s at. Spends a inst c.args.call.now c.args.ctx.now (owned s inst.owner) at Fresh) c.args.space.now
          c.run_attachment.result (g.met.S.PageSpace.stays c.args.space.now) made.full;
      refused = made.refused;
    }
