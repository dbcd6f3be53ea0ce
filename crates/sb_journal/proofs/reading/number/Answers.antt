use Rattle.std.proofs.Common.{rules, arith, ◌≡◌, ◌∙◌, ap}
use Rattle.std.specs.Int.{to_be_bytes, w32}
use Rattle.sb_bytes.specs.Field.{number_at}
use Rattle.sb_journal.proofs.FieldLemmas.{to_be_bytes-number_at}
use Rattle.sb_journal.proofs.reading.number.Goals as goal

pub returns : goal.returns
returns c =
    let read : c.get_u32.result ≡ number_at 4 c.args.bytes.now 0 = search rules in
    ap (to_be_bytes w32) read ∙ to_be_bytes-number_at c.args.bytes.now c.requires (λ i. let h = c.type_inv.bytes i in omega (arith, h))
