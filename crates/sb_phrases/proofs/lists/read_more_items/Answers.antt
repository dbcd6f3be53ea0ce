use Rattle.std.proofs.Common.{◌-◌}
use Rattle.std.proofs.lemmas.Result.{err_from_is_err_and}
use Rattle.sb_tokens.specs.declared.token.Sign.TheVariants.{Comma}
use Rattle.sb_tokens.specs.Rows.{tokens_of}
use Rattle.sb_phrases.specs.Phrases.{is_mark}
use Rattle.sb_phrases.proofs.Loops.{items_go_on, items_fail, items_stop, items_done}
use Rattle.sb_phrases.proofs.lists.read_more_items.Goals as goal

pub loop-preserved : goal.loop-preserved
loop-preserved g c =
    rw c.in_ok-push-2.ensures.items
    (items_go_on c.loop.items.items c.args.count c.loop.counter (is_mark Comma) g.T.Item.item_at (tokens_of c.loop.rest.now) (tokens_of c.in-Some.behind.now) (tokens_of c.in_ok-item.after.now) c.in_ok-item.item _
    c.loop-test.true c.in-Some.ensures c.in_ok-item.ensures c.loop.invariant)

pub returns-in_default : goal.returns-in_default
returns-in_default g c = items_stop c.loop.items.items (c.args.count - c.loop.counter) (is_mark Comma) g.T.Item.item_at (tokens_of c.loop.rest.now) _ c.in_default.ensures c.loop.invariant

pub returns-in_err-item : goal.returns-in_err-item
returns-in_err-item g c =
    let p = err_from_is_err_and c.from_residual-in_err-item.result c.from_residual-in_err-item.ensures.1 in
    rw (p.1, p.2)
    (items_fail c.in_err-item.field-0.0 c.loop.items.items c.args.count c.loop.counter (is_mark Comma) g.T.Item.item_at (tokens_of c.loop.rest.now) (tokens_of c.in-Some.behind.now) _
    c.loop-test.true c.in-Some.ensures c.in_err-item.ensures c.loop.invariant)

pub returns : goal.returns
returns g c = items_done c.loop.items.items c.args.count c.loop.counter (is_mark Comma) g.T.Item.item_at (tokens_of c.loop.rest.now) _ c.loop-test.false c.loop.invariant
