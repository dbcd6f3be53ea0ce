use Rattle.std.proofs.Common.{sym, subst, ◌∙◌, ◌+◌}
use Rattle.sb_deferred.specs.Waiting.{IsFront}
use Rattle.sb_fold.specs.Finish.{freed}
use Rattle.sb_fold.specs.Outcome.{Queue}
use Rattle.sb_tables.specs.Refusals.{HasFaultCause, HasRefusalCause, IsRefusedBy}
use Rattle.sb_tables.specs.Working.{IsPaid}
use Rattle.sb_tables.proofs.RefusedLemmas.{caused_fault}
use Rattle.sb_transactions.proofs.RunLemmas.{IsLent, finish-freed, finish-refused, finish-roomless, finish-stopped, freed-roomless, led_between, passed, works_between}
use Rattle.sb_transactions.proofs.finishing.finish_over.Goals as goal

pub returns-in_err-finish-clause-refused : goal.returns-in_err-finish-clause-refused
returns-in_err-finish-clause-refused g c =
    let lent : IsLent c.args.boxes.now c.args.place c.args.space.now c.args.work.now c.new-running.result =
    record { boxes_are = c.new-running.ensures.boxes; place_is = c.new-running.ensures.place; space_is = c.new-running.ensures.space; work_is = c.new-running.ensures.work } in
    let goes = c.finish.ensures.leads.goes in
    let end = c.in_err-finish.space-1-own.given.1 (sym (goes.same_space ∙ c.new-running.ensures.same_space)) in
    passed c.from_residual.result c.in_err-finish.field-0.0 _ c.from_residual.ensures.1
    (finish-stopped g.S.PageSpace.has g.S.PageSpace.spent g.S.PageSpace.fails g.B.Boxes.meanings c.args.boxes.now c.args.place c.args.space.now _ c.args.work.now c.args.work.now c.new-running.result c.finish.new.layer lent
    g.S.PageSpace.leads g.S.PageSpace.table c.in_err-finish.field-0.0 c.in_err-finish.ensures.refused (goes.boxes ∙ lent.boxes_are) (sym end))

pub returns-in_err-free_gone-clause-refused : goal.returns-in_err-free_gone-clause-refused
returns-in_err-free_gone-clause-refused g c =
    let lent : IsLent c.args.boxes.now c.args.place c.args.space.now c.args.work.now c.new-running.result =
    record { boxes_are = c.new-running.ensures.boxes; place_is = c.new-running.ensures.place; space_is = c.new-running.ensures.space; work_is = c.new-running.ensures.work } in
    let goes = c.finish.ensures.leads.goes in
    let frees = c.free_gone.ensures.frees in
    let end = c.space-2-1.given.1 (sym (frees.same_space ∙ (goes.same_space ∙ c.new-running.ensures.same_space))) in
    let r = c.in_err-free_gone.field-0.0 in
    passed c.from_residual-in_err-free_gone.result r _ c.from_residual-in_err-free_gone.ensures.1
    (finish-refused g.S.PageSpace.has g.S.PageSpace.spent g.S.PageSpace.fails g.B.Boxes.meanings c.args.boxes.now c.args.place c.args.space.now _ c.args.work.now c.args.work.now c.new-running.result c.finish.new.layer lent c.in_ok-finish.ensures.made
    g.S.PageSpace.leads g.S.PageSpace.table r
    (subst (λ z. IsRefusedBy g.S.PageSpace.fails r z) (sym end) c.in_err-free_gone.ensures.refused)
    (subst (λ z. HasRefusalCause g.S.PageSpace.fails r z) (sym end) c.in_err-free_gone.ensures.cause) c.in_err-free_gone.ensures.pages
    (λ h so. subst (λ z. IsPaid g.S.PageSpace.spent 0 (freed h).trail.spent z) (sym end) (c.in_err-free_gone.ensures.paid h so)))

pub returns-in_err-free_gone-clause-leads : goal.returns-in_err-free_gone-clause-leads
returns-in_err-free_gone-clause-leads g c =
    let goes = c.finish.ensures.leads.goes in
    let frees = c.free_gone.ensures.frees in
    let end = c.space-2-1.given.1 (sym (frees.same_space ∙ (goes.same_space ∙ c.new-running.ensures.same_space))) in
    let first = goes.leads in
    let later = frees.leads in
    led_between g.S.PageSpace.leads c.args.space.now _ c.new-running.result.space.now c.free_gone.new.running.space.now c.new-running.ensures.space (sym end)
    (first.0 + later.0, g.met.S.PageSpace.goes_on first.0 later.0 c.new-running.result.space.now c.finish.new.layer.space.now c.free_gone.new.running.space.now first.1 later.1)

pub returns-clause-made : goal.returns-clause-made
returns-clause-made g c =
    let lent : IsLent c.args.boxes.now c.args.place c.args.space.now c.args.work.now c.new-running.result =
    record { boxes_are = c.new-running.ensures.boxes; place_is = c.new-running.ensures.place; space_is = c.new-running.ensures.space; work_is = c.new-running.ensures.work } in
    let goes = c.finish.ensures.leads.goes in
    let frees = c.free_gone.ensures.frees in
    let end = c.space-2-1.given.1 (sym (frees.same_space ∙ (goes.same_space ∙ c.new-running.ensures.same_space))) in
    let work = c.work-2-1.given.1 (sym (frees.same_work ∙ (goes.same_work ∙ c.new-running.ensures.same_work))) in
    finish-freed g.S.PageSpace.has g.S.PageSpace.spent g.S.PageSpace.fails g.B.Boxes.meanings c.args.boxes.now c.args.place c.args.space.now _ c.args.work.now _ c.new-running.result c.finish.new.layer lent c.in_ok-finish.ensures.made c.free_gone.new.running c.in_ok-free_gone.ensures.freed
    (record { boxes_are = frees.boxes ∙ (goes.boxes ∙ lent.boxes_are); place_is = frees.place ∙ (goes.place ∙ lent.place_is); space_is = sym end; work_is = sym work })

pub returns-clause-leads : goal.returns-clause-leads
returns-clause-leads g c =
    let goes = c.finish.ensures.leads.goes in
    let frees = c.free_gone.ensures.frees in
    let end = c.space-2-1.given.1 (sym (frees.same_space ∙ (goes.same_space ∙ c.new-running.ensures.same_space))) in
    let first = goes.leads in
    let later = frees.leads in
    led_between g.S.PageSpace.leads c.args.space.now _ c.new-running.result.space.now c.free_gone.new.running.space.now c.new-running.ensures.space (sym end)
    (first.0 + later.0, g.met.S.PageSpace.goes_on first.0 later.0 c.new-running.result.space.now c.finish.new.layer.space.now c.free_gone.new.running.space.now first.1 later.1)

pub returns-in_err-finish-clause-works : goal.returns-in_err-finish-clause-works
returns-in_err-finish-clause-works g c =
    let goes = c.finish.ensures.leads.goes in
    let end = c.in_err-finish.space-1-own.given.1 (sym (goes.same_space ∙ c.new-running.ensures.same_space)) in
    let work = c.in_err-finish.work-1-own.given.1 (sym (goes.same_work ∙ c.new-running.ensures.same_work)) in
    passed c.from_residual.result c.in_err-finish.field-0.0 _ c.from_residual.ensures.1
    (works_between g.S.PageSpace.leads c.args.space.now _ c.new-running.result.space.now c.finish.new.layer.space.now c.args.work.now _ c.new-running.result.work.now c.finish.new.layer.work.now
    c.new-running.ensures.space (sym end) c.new-running.ensures.work (sym work) goes.leads goes.queue goes.gone)

pub returns-in_err-free_gone-clause-works : goal.returns-in_err-free_gone-clause-works
returns-in_err-free_gone-clause-works g c =
    let goes = c.finish.ensures.leads.goes in
    let frees = c.free_gone.ensures.frees in
    let end = c.space-2-1.given.1 (sym (frees.same_space ∙ (goes.same_space ∙ c.new-running.ensures.same_space))) in
    let work = c.work-2-1.given.1 (sym (frees.same_work ∙ (goes.same_work ∙ c.new-running.ensures.same_work))) in
    let first = goes.leads in
    let later = frees.leads in
    let a = c.new-running.result in
    let b = c.finish.new.layer in
    let d = c.free_gone.new.running in
    passed c.from_residual-in_err-free_gone.result c.in_err-free_gone.field-0.0 _ c.from_residual-in_err-free_gone.ensures.1
    (works_between g.S.PageSpace.leads c.args.space.now _ a.space.now d.space.now c.args.work.now _ a.work.now d.work.now
    c.new-running.ensures.space (sym end) c.new-running.ensures.work (sym work)
    (first.0 + later.0, g.met.S.PageSpace.goes_on first.0 later.0 a.space.now b.space.now d.space.now first.1 later.1)
    (subst (λ (q : Queue). IsFront a.work.now.queue q) (sym frees.queue) goes.queue)
    (goes.gone.0, (λ i. (c.in_err-free_gone.ensures.kept i).items) ∙ goes.gone.1))

pub returns-in_err-finish-clause-room : goal.returns-in_err-finish-clause-room
returns-in_err-finish-clause-room g c =
    let lent : IsLent c.args.boxes.now c.args.place c.args.space.now c.args.work.now c.new-running.result =
    record { boxes_are = c.new-running.ensures.boxes; place_is = c.new-running.ensures.place; space_is = c.new-running.ensures.space; work_is = c.new-running.ensures.work } in
    passed c.from_residual.result c.in_err-finish.field-0.0 _ c.from_residual.ensures.1
    (finish-roomless g.S.PageSpace.has g.S.PageSpace.spent g.S.PageSpace.fails g.B.Boxes.meanings c.args.boxes.now c.args.place c.args.space.now c.args.space.now c.args.work.now c.args.work.now c.new-running.result c.finish.new.layer lent
    c.in_err-finish.field-0.0 c.in_err-finish.ensures.room)

pub returns-in_err-free_gone-clause-room : goal.returns-in_err-free_gone-clause-room
returns-in_err-free_gone-clause-room g c =
    let lent : IsLent c.args.boxes.now c.args.place c.args.space.now c.args.work.now c.new-running.result =
    record { boxes_are = c.new-running.ensures.boxes; place_is = c.new-running.ensures.place; space_is = c.new-running.ensures.space; work_is = c.new-running.ensures.work } in
    passed c.from_residual-in_err-free_gone.result c.in_err-free_gone.field-0.0 _ c.from_residual-in_err-free_gone.ensures.1
    (freed-roomless g.S.PageSpace.has g.S.PageSpace.spent g.S.PageSpace.fails g.B.Boxes.meanings c.args.boxes.now c.args.place c.args.space.now c.args.space.now c.args.work.now c.args.work.now c.new-running.result c.finish.new.layer lent
    c.in_ok-finish.ensures.made c.in_err-free_gone.field-0.0 c.in_err-free_gone.ensures.idle)

pub returns-in_err-finish-clause-fault : goal.returns-in_err-finish-clause-fault
returns-in_err-finish-clause-fault g c =
    let goes = c.finish.ensures.leads.goes in
    let end = c.in_err-finish.space-1-own.given.1 (sym (goes.same_space ∙ c.new-running.ensures.same_space)) in
    let r = c.in_err-finish.field-0.0 in
    passed c.from_residual.result r _ c.from_residual.ensures.1 (subst (λ z. HasFaultCause g.S.PageSpace.fails r z) (sym end) c.in_err-finish.ensures.fault)

pub returns-in_err-free_gone-clause-fault : goal.returns-in_err-free_gone-clause-fault
returns-in_err-free_gone-clause-fault g c =
    let goes = c.finish.ensures.leads.goes in
    let frees = c.free_gone.ensures.frees in
    let end = c.space-2-1.given.1 (sym (frees.same_space ∙ (goes.same_space ∙ c.new-running.ensures.same_space))) in
    let r = c.in_err-free_gone.field-0.0 in
    passed c.from_residual-in_err-free_gone.result r _ c.from_residual-in_err-free_gone.ensures.1
    (caused_fault g.S.PageSpace.fails r _ (subst (λ z. HasRefusalCause g.S.PageSpace.fails r z) (sym end) c.in_err-free_gone.ensures.cause))
