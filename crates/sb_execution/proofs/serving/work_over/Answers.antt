use Rattle.std.proofs.Common.{sym, ◌∙◌}
use Rattle.sb_session.proofs.RunLemmas.{IsLent, parts-from, parts-to, works_between}
use Rattle.sb_engine.specs.Working.{Serves}
use Rattle.sb_execution.proofs.WorkLemmas.{fault-over, works-made, works-stopped}
use Rattle.sb_execution.proofs.serving.work_over.Goals as goal

pub returns : goal.returns
returns g c =
    let boxes = c.args.boxes.now in
    let place = c.args.place in
    let x = c.args.space.now in
    let v = c.args.work.now in
    let a = c.new-running.result in
    let b = c.work.new.running in
    let goes = c.work.ensures.goes in
    let lent : IsLent boxes place x v a =
    record { boxes_are = c.new-running.ensures.boxes; place_is = c.new-running.ensures.place; space_is = c.new-running.ensures.space; work_is = c.new-running.ensures.work } in
    let space = sym (c.space-1.given.1 (sym (goes.same_space ∙ c.new-running.ensures.same_space))) in
    let work = sym (c.work-1.given.1 (sym (goes.same_work ∙ c.new-running.ensures.same_work))) in
    record {
      made = works-made g.S.PageSpace.has g.S.PageSpace.spent g.S.PageSpace.leads g.S.PageSpace.fails g.S.PageSpace.table g.B.Boxes.meanings boxes place x _ v _ a b lent
          (record { boxes_are = goes.boxes ∙ lent.boxes_are; place_is = goes.place ∙ lent.place_is; space_is = space; work_is = work }) c.args.command.now c.work.result c.work.ensures.done;
      refused = works-stopped g.S.PageSpace.has g.S.PageSpace.spent g.S.PageSpace.leads g.S.PageSpace.fails g.S.PageSpace.table g.B.Boxes.meanings boxes place x _ v _ a b lent
          (record { boxes_are = goes.boxes ∙ lent.boxes_are; place_is = goes.place ∙ lent.place_is; space_is = space; work_is = work }) c.args.command.now c.work.result c.work.ensures.stopped;
      fault = fault-over g.S.PageSpace.fails b.space.now _ space c.work.result c.work.ensures.fault;
      works = works_between g.S.PageSpace.leads x _ a.space.now b.space.now v _ a.work.now b.work.now lent.space_is space lent.work_is work goes.leads goes.queue goes.gone;
      ready = parts-from g.B.Boxes.meanings boxes place _ _ b
          (record { boxes_are = goes.boxes ∙ lent.boxes_are; place_is = goes.place ∙ lent.place_is; space_is = space; work_is = work })
          (λ m q z u. Serves g.S.PageSpace.is_ready m q z u) c.work.ensures.ready;
    }

-- ---- it can be called
pub work-requires : goal.work-requires
work-requires g c =
    let lent : IsLent c.args.boxes.now c.args.place c.args.space.now c.args.work.now c.new-running.result =
    record { boxes_are = c.new-running.ensures.boxes; place_is = c.new-running.ensures.place; space_is = c.new-running.ensures.space; work_is = c.new-running.ensures.work } in
    record {
      ready = parts-to g.B.Boxes.meanings c.args.boxes.now c.args.place c.args.space.now c.args.work.now c.new-running.result lent
          (λ m q z u. Serves g.S.PageSpace.is_ready m q z u) c.requires.ready;
    }
