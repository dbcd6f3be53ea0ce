use Rattle.std.proofs.Common.{◌∷◌, ◌∙◌, ap}
use Rattle.sb_pred.proofs.Found.{first_and_rest}
use Rattle.sb_rule.proofs.Actions.{no_insert, no_delete, no_set, no_add}
use Rattle.sb_rule.proofs.parts.action_of.Goals as goal

pub returns-in-None : goal.returns-in-None
returns-in-None c x rest fits e =
    let none = rw c.in-None.is at c.in_ok-parts-in-1.ensures in
    no_insert _ _ (first_and_rest _ 1 c.in-len1-up.len_at_least c.in-1.is) none x rest fits e

pub returns-in-None-2 : goal.returns-in-None-2
returns-in-None-2 c x rest fits e =
    let none = rw c.in-None-2.is at c.in_ok-parts-in-2.ensures in
    no_delete _ _ (first_and_rest _ 2 c.in-len1-up.len_at_least c.in-2.is) none x rest fits e

pub returns-in-Some-2 : goal.returns-in-Some-2
returns-in-Some-2 c =
    let found = rw c.in-Some-2.is at c.in_ok-parts-in-2.ensures in
    (found.0, first_and_rest _ 2 c.in-len1-up.len_at_least c.in-2.is ∙ ap (λ b. 2 ∷ b) found.1)

pub returns-in-None-3 : goal.returns-in-None-3
returns-in-None-3 c x rest fits e =
    let none = rw c.in-None-3.is at c.in_ok-parts-in-3.ensures in
    no_set _ _ (first_and_rest _ 3 c.in-len1-up.len_at_least c.in-3.is) none x rest fits e

pub returns-in-Some-3 : goal.returns-in-Some-3
returns-in-Some-3 c =
    let found = rw c.in-Some-3.is at c.in_ok-parts-in-3.ensures in
    rw c.sets.ensures (found.0, first_and_rest _ 3 c.in-len1-up.len_at_least c.in-3.is ∙ ap (λ b. 3 ∷ b) found.1)

pub returns-in-None-4 : goal.returns-in-None-4
returns-in-None-4 c x rest fits e =
    let none = rw c.in-None-4.is at c.in_ok-parts-in-4.ensures in
    no_add _ _ (first_and_rest _ 4 c.in-len1-up.len_at_least c.in-4.is) none x rest fits e

pub returns-in-Some-4 : goal.returns-in-Some-4
returns-in-Some-4 c =
    let found = rw c.in-Some-4.is at c.in_ok-parts-in-4.ensures in
    rw c.adds.ensures (found.0, first_and_rest _ 4 c.in-len1-up.len_at_least c.in-4.is ∙ ap (λ b. 4 ∷ b) found.1)
