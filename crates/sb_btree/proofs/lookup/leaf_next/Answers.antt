use Rattle.std.proofs.Common.{arith, ap, sym, ◌∙◌, ◌≡◌, Some, length, option_map}
use Rattle.sb_node.specs.Page.{node_in}
use Rattle.sb_btree.specs.Leaves.{in_leaf}
use Rattle.sb_btree.proofs.Placing.{page_count}
use Rattle.sb_btree.proofs.Passing.{next-none, next-some}
use Rattle.sb_btree.proofs.lookup.leaf_next.Goals as goal

pub returns-then-i-count : goal.returns-then-i-count
returns-then-i-count c =
    let all : length (node_in c.args.page.now).entries ≡ c.count_upto-i.result = omega (arith, page_count c.args.page.now) in
    sym (ap (option_map (in_leaf c.args.leaf)) (next-none (option_map (λ key. key.now) c.args.after) (node_in c.args.page.now).entries (all ∙ c.count_upto-i.ensures.passed)))

pub returns : goal.returns
returns c =
    let key = c.from_vec-key.ensures ∙ c.in_ok-copied.ensures in
    let value = c.from_vec-value.ensures ∙ c.in_ok-copied-2.ensures in
    (λ i. Some (in_leaf c.args.leaf (key i, value i)))
    ∙ sym (ap (option_map (in_leaf c.args.leaf)) (next-some (option_map (λ key. key.now) c.args.after) (node_in c.args.page.now).entries c.count_upto-i.result (c.entry.result.0.now, c.entry.result.1.now) c.count_upto-i.ensures.passed c.entry.ensures))
