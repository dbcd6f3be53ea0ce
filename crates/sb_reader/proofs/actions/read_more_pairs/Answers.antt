use Rattle.std.proofs.Common.{◌-◌, codes}
use Rattle.std.proofs.lemmas.Result.{err_from_is_err_and}
use Rattle.sb_tokens.specs.Rows.{tokens_of}
use Rattle.sb_phrases.specs.Phrases.{is_word}
use Rattle.sb_reader.specs.Commands.{pair_at}
use Rattle.sb_phrases.proofs.Loops.{items_go_on, items_fail, items_stop, items_done}
use Rattle.sb_reader.proofs.actions.read_more_pairs.Goals as goal

pub loop-preserved : goal.loop-preserved
loop-preserved c =
    rw c.in_ok-push-2.ensures.items
    (items_go_on c.loop.pairs.items c.args.count c.loop.counter (is_word (codes "and")) (pair_at c.args.form) (tokens_of c.loop.rest.now) (tokens_of c.in-Some.behind.now) (tokens_of c.in_ok-pair.after.now) c.in_ok-pair.pair _
    c.loop-test.true c.in-Some.ensures c.in_ok-pair.ensures c.loop.invariant)

pub returns-in_default : goal.returns-in_default
returns-in_default c = items_stop c.loop.pairs.items (c.args.count - c.loop.counter) (is_word (codes "and")) (pair_at c.args.form) (tokens_of c.loop.rest.now) _ c.in_default.ensures c.loop.invariant

pub returns-in_err-pair : goal.returns-in_err-pair
returns-in_err-pair c =
    let p = err_from_is_err_and c.from_residual-in_err-pair.result c.from_residual-in_err-pair.ensures.1 in
    rw (p.1, p.2)
    (items_fail c.in_err-pair.field-0.0 c.loop.pairs.items c.args.count c.loop.counter (is_word (codes "and")) (pair_at c.args.form) (tokens_of c.loop.rest.now) (tokens_of c.in-Some.behind.now) _
    c.loop-test.true c.in-Some.ensures c.in_err-pair.ensures c.loop.invariant)

pub returns : goal.returns
returns c = items_done c.loop.pairs.items c.args.count c.loop.counter (is_word (codes "and")) (pair_at c.args.form) (tokens_of c.loop.rest.now) _ c.loop-test.false c.loop.invariant
