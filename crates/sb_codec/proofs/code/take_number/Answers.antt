use Rattle.std.proofs.Common.{arith}
use Rattle.std.proofs.lemmas.Grind.{get_or_default_zero}
use Rattle.sb_codec.proofs.Numbers.{number_and_rest}
use Rattle.sb_codec.proofs.code.take_number.Goals as goal

pub returns-clause-found : goal.returns-clause-found
returns-clause-found c =
    let bytes = c.args.bytes.now in (
      omega arith,
      number_and_rest bytes c.get_u64.result (omega arith)
          (λ k d within. rw (get_or_default_zero bytes k d within) (omega (arith, c.type_inv.bytes k))) c.get_u64.ensures,
    )
