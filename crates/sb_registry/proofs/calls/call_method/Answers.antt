use Rattle.sb_drive.specs.MethodCalls.{HasRoomFor, IsAsking}
use Rattle.sb_drive.specs.Slots.{owned}
use Rattle.sb_registry.proofs.RunsLemmas.{sound-Before, WasFull-each}
use Rattle.sb_registry.proofs.calls.call_method.Goals as goal

pub returns-clause-runs : goal.returns-clause-runs
returns-clause-runs g c =
    let m = (goal.StorageMethod-dyn g c.args.boxed.now).method c.args.boxed.now.1 in
    record {
      answers = c.run_method.ensures.answers;
      sound = sound-Before g.S.PageSpace.has m c.args.inst.now c.args.call.now c.args.space.now c.run_method.result c.law_of.ensures c.run_method.ensures.damaged;
      damaged = c.run_method.ensures.damaged;
      full = c.run_method.ensures.full;
      costs = c.run_method.ensures.costs;
    }

pub returns-clause-works : goal.returns-clause-works
returns-clause-works g c =
    let m = (goal.StorageMethod-dyn g c.args.boxed.now).method c.args.boxed.now.1 in
    let inst = c.args.inst.now in
    let made = c.run_method.ensures in
    record {
      others = made.others;
      leads = made.leads;
      full = WasFull-each g.S.PageSpace.has g.S.PageSpace.leads g.S.PageSpace.durable g.S.PageSpace.total inst.owner (IsAsking m inst c.args.call.now) (λ s. HasRoomFor m inst c.args.call.now (owned s inst.owner)) c.args.space.now c.run_method.result
          (g.met.S.PageSpace.stays c.args.space.now) made.full;
      refused = made.refused;
    }
