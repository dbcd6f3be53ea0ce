use Rattle.std.proofs.Common.{sym, subst}
use Rattle.sb_tokens.specs.Quoted.{IsValidFront}
use Rattle.sb_tokens.proofs.QuotedLemmas.{front_valid}
use Rattle.sb_tokens.proofs.quoted.valid_len.Goals as goal

pub returns-in-Err : goal.returns-in-Err
returns-in-Err c = subst (IsValidFront c.args.bytes.now) (sym c.valid_up_to.ensures) (front_valid c.args.bytes.now _ c.in-Err.ensures.cases.1)
