use Rattle.std.proofs.Common.{◌≡◌, ◌∙◌, ◌++◌, ◌-◌, refl, append_assoc, length, drop, take}
use Rattle.sb_pred.proofs.Found.{first_and_rest, no_second_term}
use Rattle.sb_pred.proofs.reading.comparison_of.Goals as goal
use Rattle.sb_pred.specs.Spelling.{term_spelling}

pub returns-in_default-3 : goal.returns-in_default-3
returns-in_default-3 c x rest fits e =
    let left = rw c.in-Some-2.is at c.in_ok-left.ensures in
    let right = rw c.in_default-3.is at c.in_ok-right.ensures in
    let first = first_and_rest c.args.bytes.now _ c.in-len1-up.len_at_least refl in
    let body : take (length c.args.bytes.now - 1) (drop 1 c.args.bytes.now) ≡ (term_spelling x.1 ++ term_spelling x.2) ++ rest = cc in
    no_second_term _ _ _ left.0 left.1 right x.1 x.2 rest fits.0 fits.1 (body ∙ append_assoc (term_spelling x.1) (term_spelling x.2) rest)
