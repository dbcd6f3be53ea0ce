use Rattle.std.proofs.Common.{refl, arith, drop, length-drop, length-take}
use Rattle.sb_log.proofs.FieldLemmas.{are_bytes}
use Rattle.sb_log.proofs.RecordLemmas.{Image-begins}
use Rattle.sb_log.proofs.reading.image_of.Goals as goal

pub returns : goal.returns
returns c =
    let rest = c.args.rest.now in
    Image-begins rest c.get_u32-page.result _ (omega (arith, c.if-rest-end.false)) (are_bytes rest (λ i. omega (arith, c.type_inv.rest i))) (omega arith) c.get_u32-page.ensures refl
    (omega (arith, c.if-rest-end.false, length-take 4096 (drop 4 rest), length-drop 4 rest))
