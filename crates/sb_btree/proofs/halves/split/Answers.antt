use Rattle.std.proofs.Common.{sym, ap, ◌∙◌, ◌-◌}
use Rattle.std.specs.FinMap.Entries.{find}
use Rattle.sb_node.specs.Entries.{key_cmp}
use Rattle.sb_node.specs.Page.{Node, node_in}
use Rattle.sb_btree.proofs.Halving.{find-drop, find-take, halves_greater, halves_lesser}
use Rattle.sb_btree.proofs.halves.split.Goals as goal

pub put_in-requires-clause-lacks : goal.put_in-requires-clause-lacks
put_in-requires-clause-lacks c =
    ap (λ (m : Node). find key_cmp c.args.key.now m.entries) c.move_tail.ensures.tail.node_is ∙ find-drop c.args.key.now c.half_of-half.result (node_in c.args.page.now).entries c.requires.lacks

pub put_in-requires-else-half-i-clause-lacks : goal.put_in-requires-else-half-i-clause-lacks
put_in-requires-else-half-i-clause-lacks c =
    ap (λ (m : Node). find key_cmp c.args.key.now m.entries) c.move_tail-else-half-i.ensures.front.node_is ∙ find-take c.args.key.now (c.half_of-half.result - 1) (node_in c.args.page.now).entries c.requires.lacks

pub returns-then-half-i : goal.returns-then-half-i
returns-then-half-i c =
    halves_greater c.args.page.now c.move_tail.new.page c.args.other.now c.move_tail.new.other c.put_in.new.page c.args.key.now c.args.value.now c.in-Err.i c.half_of-half.result c.put_in.result
    (record { place = sym c.place.ensures ∙ c.in-Err.is; none = c.requires.lacks; full = c.requires.full; small = c.requires.small })
    c.half_of-half.ensures.half c.if-half-i.true (record { form = c.requires.form; front = c.move_tail.ensures.front; tail = c.move_tail.ensures.tail })
    c.put_in.ensures.put (λ e. (c.put_in.ensures.full e).1)

pub returns-else-half-i : goal.returns-else-half-i
returns-else-half-i c =
    halves_lesser c.args.page.now c.move_tail-else-half-i.new.page c.put_in-else-half-i.new.page c.args.other.now c.move_tail-else-half-i.new.other c.args.key.now c.args.value.now c.in-Err.i c.half_of-half.result c.put_in-else-half-i.result
    (record { place = sym c.place.ensures ∙ c.in-Err.is; none = c.requires.lacks; full = c.requires.full; small = c.requires.small })
    c.half_of-half.ensures.half c.if-half-i.false (record { form = c.requires.form; front = c.move_tail-else-half-i.ensures.front; tail = c.move_tail-else-half-i.ensures.tail })
    c.put_in-else-half-i.ensures.put (λ e. (c.put_in-else-half-i.ensures.full e).1)
