use Rattle.std.proofs.Common.{arith, sym, ap, ◌∙◌, option_map}
use Rattle.sb_node.specs.Page.{node_in}
use Rattle.sb_node.proofs.Runs.{count_short, head_count}
use Rattle.sb_btree.specs.Held.{passed}
use Rattle.sb_btree.proofs.Placing.{passed-ok, passed-err}
use Rattle.sb_btree.proofs.page.count_upto.Goals as goal

pub overflow_add-result : goal.overflow_add-result
overflow_add-result c =
    let p = passed-ok c.args.page.now c.in-Some.key.now c.in-Ok.i c.requires (sym c.place.ensures ∙ c.in-Ok.is) in
    omega (arith, p.1, count_short c.args.page.now c.requires, head_count c.args.page.now)

pub returns-in-Ok-clause-passed : goal.returns-in-Ok-clause-passed
returns-in-Ok-clause-passed c =
    (passed-ok c.args.page.now c.in-Some.key.now c.in-Ok.i c.requires (sym c.place.ensures ∙ c.in-Ok.is)).0
    ∙ sym (ap (λ key. passed (option_map (λ k. k.now) key) (node_in c.args.page.now).entries) c.in-Some.is)

pub returns-in-Ok-clause-within : goal.returns-in-Ok-clause-within
returns-in-Ok-clause-within c = (passed-ok c.args.page.now c.in-Some.key.now c.in-Ok.i c.requires (sym c.place.ensures ∙ c.in-Ok.is)).1

pub returns-in-Err-clause-passed : goal.returns-in-Err-clause-passed
returns-in-Err-clause-passed c =
    (passed-err c.args.page.now c.in-Some.key.now c.in-Err.i c.requires (sym c.place.ensures ∙ c.in-Err.is)).0
    ∙ sym (ap (λ key. passed (option_map (λ k. k.now) key) (node_in c.args.page.now).entries) c.in-Some.is)

pub returns-in-Err-clause-within : goal.returns-in-Err-clause-within
returns-in-Err-clause-within c = (passed-err c.args.page.now c.in-Some.key.now c.in-Err.i c.requires (sym c.place.ensures ∙ c.in-Err.is)).1
