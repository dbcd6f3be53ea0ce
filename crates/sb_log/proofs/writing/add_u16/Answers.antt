use Rattle.std.proofs.Common.{◌+◌, ℕ, List, take, ap, ◌∙◌, arith}
use Rattle.sb_log.proofs.FieldLemmas.{take-with_number}
use Rattle.sb_log.proofs.writing.add_u16.Goals as goal

pub returns-clause-front : goal.returns-clause-front
returns-clause-front c =
    ap (λ (l : List ℕ). take (c.args.at + 2) l) c.put_u16.ensures ∙ take-with_number 2 c.args.at c.args.number c.args.out.now (omega (arith, c.requires))
