use Rattle.std.proofs.Common.{refl, sym, ap, ◌∙◌, arith}
use Rattle.sb_node.specs.Page.{node_in, empty_node}
use Rattle.sb_node.proofs.Runs.{form_size}
use Rattle.sb_btree.proofs.Bounds.{kind_first, lacks_page, halves_put}
use Rattle.sb_btree.proofs.Edits.{level_of_head}
use Rattle.sb_btree.proofs.insertion.split_copy.Goals as goal

pub bounds-copy-0 : goal.bounds-copy-0
bounds-copy-0 c = omega (arith, form_size c.args.copy.now c.requires.form)

pub store_halves-requires-clause-page : goal.store_halves-requires-clause-page
store_halves-requires-clause-page c = c.requires.room

pub store_halves-requires-clause-left : goal.store_halves-requires-clause-left
store_halves-requires-clause-left c = form_size c.split.new.page c.split.ensures.stays.form

pub returns-in-None-clause-put : goal.returns-in-None-clause-put
returns-in-None-clause-put c =
    let lacks = rw c.in-None.is at c.in_ok-first_bound.ensures.bound in
    (refl, lacks_page c.args.level c.args.copy.now c.split.new.page c.clear.new.page c.split.new.other c.args.key.now c.args.value.now c.split.ensures c.requires.key c.requires.both c.requires.spelled lacks)

pub returns-in-Some-clause-put : goal.returns-in-Some-clause-put
returns-in-Some-clause-put c =
    let gives = rw c.in-Some.is at c.in_ok-first_bound.ensures.bound in
    halves_put c.args.ctx.now c.store_halves.new.ctx c.args.level c.args.page c.args.copy.now c.split.new.page c.clear.new.page c.split.new.other c.first_bound.new.right c.args.key.now c.args.value.now c.in-Some.bound c.store_halves.result c.requires.lacks
    c.split.ensures (c.clear.ensures.node_is ∙ ap (λ kind. empty_node kind c.args.level) (sym (kind_first c.args.copy.now))) (level_of_head c.args.level (node_in c.args.copy.now).head c.requires.level) gives c.store_halves.ensures.stored c.store_halves.ensures.stops
