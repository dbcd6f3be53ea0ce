use Rattle.sb_tokens.proofs.RowsLemmas.{one_row}
use Rattle.sb_tokens.proofs.scanner.has_one_row.Goals as goal

pub returns : goal.returns
returns c = λ line ts us end other x y. one_row 0 line ts us end other x y
