use Rattle.std.proofs.Common.{◌-◌, codes, ◌∙◌, ap}
use Rattle.std.proofs.lemmas.Result.{err_from_is_err_and}
use Rattle.sb_pred.specs.Tree.{Both, Either, Fails}
use Rattle.sb_tokens.specs.declared.token.Sign.TheVariants.{Close}
use Rattle.sb_tokens.specs.Rows.{tokens_of}
use Rattle.sb_grammar.specs.Grammar.{conjunction}
use Rattle.sb_language.specs.Reading.{paired, and_then, mapped}
use Rattle.sb_phrases.specs.Phrases.{is_word, mark_at, conjunction_at, disjunction_at, unit_at}
use Rattle.sb_phrases.proofs.Loops.{fails_mapped, fails_first, fails_second, falls, group_begins, group_goes_on, group_ends, group_fails, group_fails_first}
use Rattle.sb_phrases.proofs.PredicatesRead.{unit_of, part_unit, reads_conjunction, unit_zero, unit_not, unit_group, unit_plain}
use Rattle.sb_phrases.proofs.predicates.+reader.Goals as goal

-- ---- conjunctions
pub read_conjunction-returns-in_err-pred : goal.read_conjunction-returns-in_err-pred
unfolding conjunction_at
read_conjunction-returns-in_err-pred t c =
    let p = err_from_is_err_and c.from_residual.result c.from_residual.ensures.1 in
    rw (p.1, p.2) (group_fails_first c.in_err-pred.field-0.0 Both (is_word (codes "and")) (unit_at c.args.form c.args.depth) (tokens_of c.args.tokens.now) c.in_err-pred.ensures)

pub read_conjunction-loop-behind-init : goal.read_conjunction-loop-behind-init
unfolding conjunction_at
read_conjunction-loop-behind-init t c = group_begins Both (is_word (codes "and")) (unit_at c.args.form c.args.depth) (tokens_of c.args.tokens.now) (tokens_of c.in_ok-pred.rest.now) c.in_ok-pred.pred c.in_ok-pred.ensures

pub read_conjunction-returns-in_err-right : goal.read_conjunction-returns-in_err-right
read_conjunction-returns-in_err-right t c =
    let p = err_from_is_err_and c.from_residual-in_err-right.result c.from_residual-in_err-right.ensures.1 in
    rw (p.1, p.2)
    (group_fails c.in_err-right.field-0.0 Both (is_word (codes "and")) (unit_at c.args.form c.args.depth) _ c.loop-behind.pred (tokens_of c.loop-behind.rest.now) (tokens_of c.in-Some.behind.now) c.in-Some.ensures c.in_err-right.ensures c.loop-behind.invariant)

pub read_conjunction-loop-behind-smaller : goal.read_conjunction-loop-behind-smaller
read_conjunction-loop-behind-smaller t c =
    falls (unit_of c.args.form c.args.depth) (is_word (codes "and")) (unit_at c.args.form c.args.depth) (tokens_of c.loop-behind.rest.now) (tokens_of c.in-Some.behind.now) (tokens_of c.in_ok-right.after.now) c.in_ok-right.right (part_unit c.args.form c.args.depth).reads c.in-Some.ensures c.in_ok-right.ensures

pub read_conjunction-loop-behind-preserved : goal.read_conjunction-loop-behind-preserved
read_conjunction-loop-behind-preserved t c =
    rw c.in_ok-pred-2.ensures
    (group_goes_on (unit_of c.args.form c.args.depth) Both (is_word (codes "and")) (unit_at c.args.form c.args.depth) _ c.loop-behind.pred c.in_ok-right.right (tokens_of c.loop-behind.rest.now) (tokens_of c.in-Some.behind.now) (tokens_of c.in_ok-right.after.now) (part_unit c.args.form c.args.depth).reads
    c.in-Some.ensures c.in_ok-right.ensures c.loop-behind.invariant)

pub read_conjunction-returns : goal.read_conjunction-returns
read_conjunction-returns t c = group_ends Both (is_word (codes "and")) (unit_at c.args.form c.args.depth) _ c.loop-behind.pred (tokens_of c.loop-behind.rest.now) c.in_default.ensures c.loop-behind.invariant

-- ---- disjunctions
pub read_disjunction-returns-in_err-pred : goal.read_disjunction-returns-in_err-pred
unfolding disjunction_at
read_disjunction-returns-in_err-pred t c =
    let p = err_from_is_err_and c.from_residual.result c.from_residual.ensures.1 in
    rw (p.1, p.2) (group_fails_first c.in_err-pred.field-0.0 Either (is_word (codes "or")) (conjunction_at (unit_at c.args.form c.args.depth)) (tokens_of c.args.tokens.now) c.in_err-pred.ensures)

pub read_disjunction-loop-behind-init : goal.read_disjunction-loop-behind-init
unfolding disjunction_at
read_disjunction-loop-behind-init t c = group_begins Either (is_word (codes "or")) (conjunction_at (unit_at c.args.form c.args.depth)) (tokens_of c.args.tokens.now) (tokens_of c.in_ok-pred.rest.now) c.in_ok-pred.pred c.in_ok-pred.ensures

pub read_disjunction-returns-in_err-right : goal.read_disjunction-returns-in_err-right
read_disjunction-returns-in_err-right t c =
    let p = err_from_is_err_and c.from_residual-in_err-right.result c.from_residual-in_err-right.ensures.1 in
    rw (p.1, p.2)
    (group_fails c.in_err-right.field-0.0 Either (is_word (codes "or")) (conjunction_at (unit_at c.args.form c.args.depth)) _ c.loop-behind.pred (tokens_of c.loop-behind.rest.now) (tokens_of c.in-Some.behind.now)
    c.in-Some.ensures c.in_err-right.ensures c.loop-behind.invariant)

pub read_disjunction-loop-behind-smaller : goal.read_disjunction-loop-behind-smaller
read_disjunction-loop-behind-smaller t c =
    let reads = reads_conjunction (unit_of c.args.form c.args.depth) (unit_at c.args.form c.args.depth) (part_unit c.args.form c.args.depth) in
    falls (conjunction (unit_of c.args.form c.args.depth)) (is_word (codes "or")) (conjunction_at (unit_at c.args.form c.args.depth)) (tokens_of c.loop-behind.rest.now) (tokens_of c.in-Some.behind.now) (tokens_of c.in_ok-right.after.now) c.in_ok-right.right reads c.in-Some.ensures c.in_ok-right.ensures

pub read_disjunction-loop-behind-preserved : goal.read_disjunction-loop-behind-preserved
read_disjunction-loop-behind-preserved t c =
    let reads = reads_conjunction (unit_of c.args.form c.args.depth) (unit_at c.args.form c.args.depth) (part_unit c.args.form c.args.depth) in
    rw c.in_ok-pred-2.ensures
    (group_goes_on (conjunction (unit_of c.args.form c.args.depth)) Either (is_word (codes "or")) (conjunction_at (unit_at c.args.form c.args.depth)) _ c.loop-behind.pred c.in_ok-right.right (tokens_of c.loop-behind.rest.now) (tokens_of c.in-Some.behind.now) (tokens_of c.in_ok-right.after.now) reads
    c.in-Some.ensures c.in_ok-right.ensures c.loop-behind.invariant)

pub read_disjunction-returns : goal.read_disjunction-returns
read_disjunction-returns t c = group_ends Either (is_word (codes "or")) (conjunction_at (unit_at c.args.form c.args.depth)) _ c.loop-behind.pred (tokens_of c.loop-behind.rest.now) c.in_default.ensures c.loop-behind.invariant

-- ---- units
pub read_unit-returns-then-depth-eq0 : goal.read_unit-returns-then-depth-eq0
read_unit-returns-then-depth-eq0 t c = rw (unit_zero c.args.form c.args.depth (tokens_of c.args.tokens.now) c.if-depth-eq0.true) c.read_plain_unit.ensures

pub read_unit-returns-in_err-inner : goal.read_unit-returns-in_err-inner
read_unit-returns-in_err-inner t c =
    let p = err_from_is_err_and c.from_residual.result c.from_residual.ensures.1 in
    let u = unit_at c.args.form (c.args.depth - 1) (tokens_of c.in-Some.rest.now) in
    rw (p.1, p.2, unit_not c.args.form c.args.depth (tokens_of c.args.tokens.now) (tokens_of c.in-Some.rest.now) c.if-depth-eq0.false c.in-Some.ensures)
    (fails_mapped c.in_err-inner.field-0.0 (λ q. Fails q) u c.in_err-inner.ensures)

pub read_unit-returns-in-Some : goal.read_unit-returns-in-Some
read_unit-returns-in-Some t c =
    rw c.in_ok-not.ensures
    (unit_not c.args.form c.args.depth (tokens_of c.args.tokens.now) (tokens_of c.in-Some.rest.now) c.if-depth-eq0.false c.in-Some.ensures ∙ ap (mapped (λ q. Fails q)) c.in_ok-inner.ensures)

pub read_unit-returns-in_err-inner-2 : goal.read_unit-returns-in_err-inner-2
read_unit-returns-in_err-inner-2 t c =
    let p = err_from_is_err_and c.from_residual-in_err-inner-2.result c.from_residual-in_err-inner-2.ensures.1 in
    let u = disjunction_at (unit_at c.args.form (c.args.depth - 1)) (tokens_of c.in-Some-behind_mark.rest.now) in
    rw (p.1, p.2, unit_group c.args.form c.args.depth (tokens_of c.args.tokens.now) (tokens_of c.in-Some-behind_mark.rest.now) c.if-depth-eq0.false c.in_default.ensures c.in-Some-behind_mark.ensures)
    (fails_mapped c.in_err-inner-2.field-0.0 (λ x. x.0) (and_then u (mark_at Close)) (fails_first c.in_err-inner-2.field-0.0 u (mark_at Close) c.in_err-inner-2.ensures))

pub read_unit-returns-in_err-rest : goal.read_unit-returns-in_err-rest
read_unit-returns-in_err-rest t c =
    let p = err_from_is_err_and c.from_residual-in_err-rest.result c.from_residual-in_err-rest.ensures.1 in
    let u = disjunction_at (unit_at c.args.form (c.args.depth - 1)) (tokens_of c.in-Some-behind_mark.rest.now) in
    rw (p.1, p.2, unit_group c.args.form c.args.depth (tokens_of c.args.tokens.now) (tokens_of c.in-Some-behind_mark.rest.now) c.if-depth-eq0.false c.in_default.ensures c.in-Some-behind_mark.ensures)
    (fails_mapped c.in_err-rest.field-0.0 (λ x. x.0) (and_then u (mark_at Close))
    (fails_second c.in_err-rest.field-0.0 u (mark_at Close) c.in_ok-inner-2.inner (tokens_of c.in_ok-inner-2.rest.now) c.in_ok-inner-2.ensures c.in_err-rest.ensures))

pub read_unit-returns-in-Some-behind_mark : goal.read_unit-returns-in-Some-behind_mark
read_unit-returns-in-Some-behind_mark t c =
    unit_group c.args.form c.args.depth (tokens_of c.args.tokens.now) (tokens_of c.in-Some-behind_mark.rest.now) c.if-depth-eq0.false c.in_default.ensures c.in-Some-behind_mark.ensures
    ∙ ap (λ r. mapped (λ x. x.0) (and_then r (mark_at Close))) c.in_ok-inner-2.ensures
    ∙ ap (λ r. mapped (λ x. x.0) (paired c.in_ok-inner-2.inner r)) c.in_ok-rest.ensures

pub read_unit-returns : goal.read_unit-returns
read_unit-returns t c = rw (unit_plain c.args.form c.args.depth (tokens_of c.args.tokens.now) c.if-depth-eq0.false c.in_default.ensures c.in_default-behind_mark.ensures) c.read_plain_unit-2.ensures
