use Rattle.std.proofs.Common.{arith}
use Rattle.sb_log.proofs.FieldLemmas.{are_bytes}
use Rattle.sb_log.proofs.RecordLemmas.{Back-begins}
use Rattle.sb_log.proofs.reading.back_of.Goals as goal

pub returns : goal.returns
returns c =
    let rest = c.args.rest.now in
    Back-begins rest c.get_u32-tx.result c.get_u32-n.result (omega (arith, c.if-rest-lt8.false)) (are_bytes rest (λ i. omega (arith, c.type_inv.rest i))) (omega arith) (omega arith) c.get_u32-tx.ensures c.get_u32-n.ensures
