use Rattle.std.proofs.Common.{arith, suc, ◌-◌, ◌≡◌, ◌∙◌}
use Rattle.sb_node.specs.Page.{node_in}
use Rattle.sb_btree.proofs.Placing.{nth_child-entry, no_child}
use Rattle.sb_btree.proofs.page.child_at.Goals as goal

pub returns-then-value-eq4 : goal.returns-then-value-eq4
returns-then-value-eq4 c =
    let next : c.args.i ≡ suc (c.args.i - 1) = omega arith in
    c.get_u32.ensures ∙ nth_child-entry c.args.first (node_in c.args.page.now).entries c.args.i (c.args.i - 1) (c.entry.result.0.now, c.entry.result.1.now) next c.entry.ensures

pub returns-else-value-eq4 : goal.returns-else-value-eq4
returns-else-value-eq4 c = no_child (node_in c.args.page.now).entries (c.args.i - 1) (c.entry.result.0.now, c.entry.result.1.now) c.entry.ensures c.if-value-eq4.false
