use Rattle.sb_ctx.specs.MethodAnswers.{Answers}
use Rattle.sb_memory.specs.Contents.{pages_of, slots}
use Rattle.sb_memory.proofs.MemoryLemmas.{no_want, own-Leaves, Keeps-Leaves}
use Rattle.sb_memory.proofs.MethodLemmas.{HasCause-in_memory}
use Rattle.sb_memory.proofs.in_memory.drive_method.Goals as goal

pub returns-in_err-run_method-clause-damaged : goal.returns-in_err-run_method-clause-damaged
returns-in_err-run_method-clause-damaged g c =
    let m = (goal.StorageMethod-dyn g c.args.boxed.now).method c.args.boxed.now.1 in
    HasCause-in_memory m c.args.inst.now c.args.call.now (pages_of c.args.memory.now.now c.args.inst.now.owner) c.from_residual.result c.in_err-run_method.field-0.0
    c.from_residual.ensures.1 (c.in_err-run_method.ensures.damaged no_want (slots c.args.memory.now.now) c.are_pages.ensures.has)

pub returns-clause-answers : goal.returns-clause-answers
returns-clause-answers g c =
    let m = (goal.StorageMethod-dyn g c.args.boxed.now).method c.args.boxed.now.1 in
    let inst = c.args.inst.now in
    let s = slots c.args.memory.now.now in
    own-Leaves inst.owner s c.run_method.new.space (λ after. Answers m inst c.args.call.now (pages_of c.args.memory.now.now inst.owner) after c.in_ok-run_method.field-0)
    (c.in_ok-run_method.ensures.answers no_want s c.are_pages.ensures.has)

pub returns-clause-others : goal.returns-clause-others
returns-clause-others g c =
    Keeps-Leaves c.args.inst.now.owner c.args.memory.now c.run_method.new.space (λ after. Unit {0}) (c.in_ok-run_method.ensures.others no_want (slots c.args.memory.now.now) c.are_pages.ensures.has)
    c.in_ok-run_method.ensures.leads
