use Rattle.sb_rule.proofs.BoundTerms.{term_closed, terms_closed, pairs_closed}
use Rattle.sb_rule.proofs.binding.bind.Goals as goal

pub returns-in_ok-bind_terms-in-Insert-clause-closed : goal.returns-in_ok-bind_terms-in-Insert-clause-closed
returns-in_ok-bind_terms-in-Insert-clause-closed c fits there =
    let terms = rw c.in-Insert.is at there in
    terms_closed c.args.schema.now c.args.change.now c.in-Insert.terms _ fits terms c.in_ok-bind_terms-in-Insert.ensures

pub returns-in_ok-bind_pairs-in-Delete-clause-closed : goal.returns-in_ok-bind_pairs-in-Delete-clause-closed
returns-in_ok-bind_pairs-in-Delete-clause-closed c fits there =
    let pairs = rw c.in-Delete.is at there in
    pairs_closed c.args.schema.now c.args.change.now c.in-Delete.pairs _ fits pairs c.in_ok-bind_pairs-in-Delete.ensures

pub returns-in_ok-bind_pairs-in-Set-clause-closed : goal.returns-in_ok-bind_pairs-in-Set-clause-closed
returns-in_ok-bind_pairs-in-Set-clause-closed c fits there =
    let parts = rw c.in-Set.is at there in (
      term_closed c.args.schema.now c.args.change.now c.in-Set.term _ fits parts.0 c.in_ok-bind_term-in-Set.ensures,
      pairs_closed c.args.schema.now c.args.change.now c.in-Set.pairs _ fits parts.1 c.in_ok-bind_pairs-in-Set.ensures,
    )

pub returns-in_ok-bind_pairs-in-Add-clause-closed : goal.returns-in_ok-bind_pairs-in-Add-clause-closed
returns-in_ok-bind_pairs-in-Add-clause-closed c fits there =
    let parts = rw c.in-Add.is at there in (
      term_closed c.args.schema.now c.args.change.now c.in-Add.term _ fits parts.0 c.in_ok-bind_term-in-Add.ensures,
      pairs_closed c.args.schema.now c.args.change.now c.in-Add.pairs _ fits parts.1 c.in_ok-bind_pairs-in-Add.ensures,
    )
