use Rattle.std.proofs.Common.{sym, ap, ◌∙◌, option_copied}
use Rattle.sb_kinds.proofs.Tested.{stands_alone, stands_with}
use Rattle.sb_kinds.proofs.standing.may_stand.Goals as goal

pub returns-in-None : goal.returns-in-None
returns-in-None c box db knows says =
    stands_alone box db c.args.schema.now c.args.schema.now c.args.rule.now c.stands_beside.result
    (sym c.other_relation.ensures.named ∙ ap (λ o. option_copied o) c.in-None.is) (λ beside. c.stands_beside.ensures box db beside says)

pub returns-in-Some-other : goal.returns-in-Some-other
returns-in-Some-other c box db knows says =
    stands_with box db c.args.schema.now c.in-Some-other.other.now c.args.rule.now c.stands_beside-in-Some-other.result (rw c.in-Some-other.is at knows) (λ beside. c.stands_beside-in-Some-other.ensures box db beside says)
