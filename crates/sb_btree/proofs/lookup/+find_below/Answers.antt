use Rattle.std.proofs.Common.{arith, ap, suc, ◌-◌, ◌∙◌, ◌≡◌, Some, Option, option_map}
use Rattle.std.proofs.lemmas.Result.{err_from_is_err_and}
use Rattle.sb_ctx.specs.View.{page_of}
use Rattle.sb_node.specs.Page.{node_in}
use Rattle.sb_btree.specs.Held.{nth_child}
use Rattle.sb_btree.specs.Leaves.{entry_at, entry_in}
use Rattle.sb_btree.specs.declared.lookup.LeafEntry.{LeafEntry}
use Rattle.sb_forms.specs.Read.{has}
use Rattle.sb_forms.specs.Tree.{items}
use Rattle.sb_btree.specs.Ways.{way}
use Rattle.sb_btree.proofs.Descending.{stop_breaks, stop_leads, way_first, entries_lead, breaks_step, find_leads, leaf_finds}
use Rattle.sb_btree.proofs.Leaves.{entry_place, stands_leaf, stands_step}
use Rattle.sb_btree.proofs.lookup.+find_below.Goals as goal

pub returns-in_err-bytes-clause-broken : goal.returns-in_err-bytes-clause-broken
returns-in_err-bytes-clause-broken t c =
    let p = err_from_is_err_and c.from_residual.result c.from_residual.ensures.1 in
    rw (p.1, p.2) (stop_breaks (Option LeafEntry) c.args.level (page_of c.args.ctx.now) c.args.page c.in_err-bytes.field-0.0 c.in_err-bytes.ensures.stops)

pub returns-in_err-bytes-clause-leads : goal.returns-in_err-bytes-clause-leads
returns-in_err-bytes-clause-leads t c = λ N shows tree.
    let p = err_from_is_err_and c.from_residual.result c.from_residual.ensures.1 in
    rw (p.1, p.2)
    (stop_leads (λ (found : Option LeafEntry). option_map entry_in found ≡ entry_at c.args.key.now (items c.args.level N c.args.page)) (λ n. has n (way c.args.level N (Some c.args.key.now) c.args.page)) c.args.level c.args.ctx.now c.args.page
    c.in_err-bytes.field-0.0 c.in_err-bytes.ensures.stops (way_first c.args.level N (Some c.args.key.now) c.args.page) N shows tree)

pub returns-then-level-eq0-clause-leads : goal.returns-then-level-eq0-clause-leads
returns-then-level-eq0-clause-leads t c = λ N shows tree.
    (leaf_finds c.args.level c.args.ctx.now c.args.page c.args.key.now c.in_ok-bytes.bytes.now c.in_ok-bytes.head c.in_ok-leaf_value.field-0 c.if-level-eq0.true c.in_ok-bytes.ensures.ok N shows c.in_ok-leaf_value.ensures, tt)

pub returns-in-None-clause-leads : goal.returns-in-None-clause-leads
returns-in-None-clause-leads t c = λ N shows tree.
    let down : c.args.level ≡ suc (c.args.level - 1) = omega arith in
    (entries_lead c.args.level (c.args.level - 1) c.args.ctx.now c.args.page c.in_ok-bytes.bytes.now c.in_ok-bytes.head down c.in_ok-bytes.ensures.ok c.in-None.ensures N shows tree, tt)

pub returns-in-Some-clause-broken : goal.returns-in-Some-clause-broken
returns-in-Some-clause-broken t c =
    let down : c.args.level ≡ suc (c.args.level - 1) = omega arith in
    breaks_step c.args.level (c.args.level - 1) (page_of c.args.ctx.now) c.args.page c.in_ok-bytes.bytes.now c.in_ok-bytes.head c.count_upto.result c.in-Some.child _ down c.in_ok-bytes.ensures.ok c.in-Some.ensures c.find_below.ensures.broken

pub returns-in-Some-clause-leads : goal.returns-in-Some-clause-leads
returns-in-Some-clause-leads t c = λ N shows tree.
    let down : c.args.level ≡ suc (c.args.level - 1) = omega arith in
    let at = c.in-Some.ensures ∙ ap (nth_child c.in_ok-bytes.head.a (node_in c.in_ok-bytes.bytes.now).entries) c.count_upto.ensures.passed in
    find_leads c.args.level (c.args.level - 1) c.args.ctx.now c.args.page c.args.key.now c.in_ok-bytes.bytes.now c.in_ok-bytes.head c.in-Some.child _ down c.in_ok-bytes.ensures.ok at N shows tree (λ below. c.find_below.ensures.leads N shows below)

pub returns-then-level-eq0-clause-stands : goal.returns-then-level-eq0-clause-stands
returns-then-level-eq0-clause-stands t c =
    stands_leaf c.args.level (page_of c.args.ctx.now) c.args.page c.in_ok-bytes.bytes.now c.in_ok-bytes.head (entry_at c.args.key.now (node_in c.in_ok-bytes.bytes.now).entries) c.in_ok-leaf_value.field-0 c.if-level-eq0.true c.in_ok-bytes.ensures.ok
    (entry_place c.args.key.now (node_in c.in_ok-bytes.bytes.now).entries) c.in_ok-leaf_value.ensures

pub returns-in-Some-clause-stands : goal.returns-in-Some-clause-stands
returns-in-Some-clause-stands t c =
    let down : c.args.level ≡ suc (c.args.level - 1) = omega arith in
    stands_step c.args.level (c.args.level - 1) (page_of c.args.ctx.now) c.args.page c.in_ok-bytes.bytes.now c.in_ok-bytes.head c.count_upto.result c.in-Some.child _ down c.in_ok-bytes.ensures.ok c.in-Some.ensures c.find_below.ensures.stands
