use Rattle.std.proofs.lemmas.Result.{IfOk-weaker}
use Rattle.sb_vectors.proofs.MoveLemmas.{registers, registers_still}
use Rattle.sb_vectors.proofs.vectors.RegistryVectors.register.Goals as goal

pub returns-clause-ok : goal.returns-clause-ok
returns-clause-ok g c =
    IfOk-weaker c.register.result _ _
    (λ moved is. registers (λ i v. (goal.StorageMethod-dyn g (i, v)).method v) (λ j v. (goal.Attachment-dyn g (j, v)).attachment v) c.args.method c.args.code moved c.args.self.now.exts c.register.new.self.exts is)
    c.register.ensures.ok

pub returns-clause-unique : goal.returns-clause-unique
returns-clause-unique g c =
    IfOk-weaker c.register.result _ _
    (λ moved is. registers_still (λ i v. (goal.StorageMethod-dyn g (i, v)).method v) (λ j v. (goal.Attachment-dyn g (j, v)).attachment v) c.args.method c.args.code moved c.args.self.now.exts c.register.new.self.exts is c.requires.unique)
    c.register.ensures.ok
