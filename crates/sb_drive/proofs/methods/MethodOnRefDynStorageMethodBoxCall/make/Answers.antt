use Rattle.sb_drive.proofs.MethodLemmas.{KeepsPromise-changes}
use Rattle.sb_drive.proofs.methods.MethodOnRefDynStorageMethodBoxCall.make.Goals as goal

pub returns-clause-keeps : goal.returns-clause-keeps
returns-clause-keeps g c = λ handed found.
    let turn = c.args.self.now in
    KeepsPromise-changes ((goal.StorageMethod-dyn g turn.boxed.now).method turn.boxed.now.1) turn.inst.now turn.call.now c.args.ctx.now c.make_call.new.ctx c.make_call.result c.make_call.ensures.changes
