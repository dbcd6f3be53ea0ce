use Rattle.std.proofs.Common.{arith}
use Rattle.sb_log.proofs.FieldLemmas.{are_bytes}
use Rattle.sb_log.proofs.RecordLemmas.{Begin-begins}
use Rattle.sb_log.proofs.reading.begin_of.Goals as goal

pub returns : goal.returns
returns c =
    let rest = c.args.rest.now in
    Begin-begins rest c.get_u32-tx.result (omega (arith, c.if-rest-lt4.false)) (are_bytes rest (λ i. omega (arith, c.type_inv.rest i))) (omega arith) c.get_u32-tx.ensures
