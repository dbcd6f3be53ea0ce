use Rattle.std.proofs.lemmas.Result.{IfOk-weaker}
use Rattle.sb_vectors.proofs.MoveLemmas.{retires, retires_still}
use Rattle.sb_vectors.proofs.vectors.RegistryVectors.retire.Goals as goal

pub returns-clause-ok : goal.returns-clause-ok
returns-clause-ok g c =
    IfOk-weaker c.retire.result _ _
    (λ moved is. retires (λ i v. (goal.StorageMethod-dyn g (i, v)).method v) (λ j v. (goal.Attachment-dyn g (j, v)).attachment v) c.args.method c.args.code moved c.args.self.now.exts c.retire.new.self.exts is)
    c.retire.ensures.ok

pub returns-clause-unique : goal.returns-clause-unique
returns-clause-unique g c =
    IfOk-weaker c.retire.result _ _
    (λ moved is. retires_still (λ i v. (goal.StorageMethod-dyn g (i, v)).method v) (λ j v. (goal.Attachment-dyn g (j, v)).attachment v) c.args.method c.args.code moved c.args.self.now.exts c.retire.new.self.exts is c.requires.unique)
    c.retire.ensures.ok
