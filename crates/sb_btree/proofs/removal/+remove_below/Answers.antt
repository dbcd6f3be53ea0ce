use Rattle.std.proofs.Common.{◌≡◌, ◌+◌, ◌-◌, ◌*◌, ◌≤◌, ◌∙◌, [], IsSome, suc, sym, ap, subst, arith, length}
use Rattle.std.specs.Prelude.{Ok, Err}
use Rattle.std.proofs.lemmas.Result.{err_from_is_err_and}
use Rattle.sb_ctx.proofs.ViewLaws.{dropped-with_page}
use Rattle.sb_ctx.specs.View.{View, dropped, edits_of, page_of, with_page}
use Rattle.sb_node.specs.Page.{node_in}
use Rattle.sb_btree.specs.Broken.{held_node}
use Rattle.sb_btree.specs.Held.{nth_child}
use Rattle.sb_forms.specs.Tree.{IsInner, entries_of}
use Rattle.sb_btree.specs.Inserts.{OverPlaces}
use Rattle.sb_btree.specs.Removes.{TakesAt, LeavesPage, DropsChild}
use Rattle.sb_btree.specs.declared.removal.Taken.{Taken}
use Rattle.sb_btree.specs.declared.removal.Taken.TheVariants.{Empty, Single, Split}
use Rattle.sb_btree.specs.declared.walk.Stop.TheVariants as stop
use Rattle.sb_btree.proofs.Descending.{stop_breaks, breaks_step}
use Rattle.sb_btree.proofs.Placing.{page_count}
use Rattle.sb_btree.proofs.Stepped.{entries_take, leaf_over, same_over, empty_over, merge_over, split_over, still}
use Rattle.sb_btree.proofs.Below.{leaf_keeps, needs_below, page_still, still_node, freed_node, apart_child, drop_asks, drop_breaks, drop_keeps, drop_leaves, merge_asks, merge_breaks, merge_keeps, merge_leaves, merge_way, raise_asks, raise_breaks, raise_keeps, raise_leaves}
use Rattle.sb_btree.proofs.Breaking.{drop_may, merge_may}
use Rattle.sb_btree.proofs.Giving.{has_room, like_node, node_some}
use Rattle.sb_btree.specs.Spending.{MergesWithin, RaisesAt, TakesWithin, spared}
use Rattle.sb_btree.proofs.Sparing.{emptied_taken, entry_spared, entry_within, merged_taken, raise_spared, raised_taken, same_taken, spared-few, still_within}
use Rattle.sb_btree.proofs.Weights.{edits-freed, written-few}
use Rattle.sb_btree.proofs.removal.+remove_below.Goals as goal

pub returns-in_err-bytes-clause-broken : goal.returns-in_err-bytes-clause-broken
returns-in_err-bytes-clause-broken t c =
    let p = err_from_is_err_and c.from_residual.result c.from_residual.ensures.1 in
    rw (p.1, p.2) (stop_breaks Taken c.args.level (page_of c.args.ctx.now) c.args.page c.in_err-bytes.field-0.0 c.in_err-bytes.ensures.stops)

pub returns-then-level-eq0-clause-higher : goal.returns-then-level-eq0-clause-higher
returns-then-level-eq0-clause-higher t c =
    leaf_keeps c.args.ctx.now c.take_entry.new.ctx c.args.level c.args.page c.args.key.now c.in_ok-bytes.bytes.now c.in_ok-bytes.head c.take_entry.result c.in_ok-bytes.ensures.ok c.take_entry.ensures.takes

pub returns-then-level-eq0-clause-takes : goal.returns-then-level-eq0-clause-takes
returns-then-level-eq0-clause-takes t c =
    leaf_over c.args.ctx.now c.take_entry.new.ctx c.args.level c.args.page c.args.key.now c.in_ok-bytes.bytes.now c.in_ok-bytes.head c.take_entry.result c.if-level-eq0.true c.in_ok-bytes.ensures.ok c.take_entry.ensures.takes

pub returns-in_default-clause-takes : goal.returns-in_default-clause-takes
returns-in_default-clause-takes t c =
    let down : c.args.level ≡ suc (c.args.level - 1) = omega arith in
    entries_take c.args.ctx.now c.args.level (c.args.level - 1) c.args.page c.args.key.now c.in_ok-bytes.bytes.now c.in_ok-bytes.head (stop.Broken c.args.page) down c.in_ok-bytes.ensures.ok c.in_default.ensures

pub returns-in_err-done-clause-broken : goal.returns-in_err-done-clause-broken
returns-in_err-done-clause-broken t c =
    let down : c.args.level ≡ suc (c.args.level - 1) = omega arith in
    let p = err_from_is_err_and c.from_residual-in_err-done.result c.from_residual-in_err-done.ensures.1 in
    rw (p.1, p.2)
    (breaks_step c.args.level (c.args.level - 1) (page_of c.args.ctx.now) c.args.page c.in_ok-bytes.bytes.now c.in_ok-bytes.head c.count_upto-i.result c.in-Some.child _ down c.in_ok-bytes.ensures.ok c.in-Some.ensures c.in_err-done.ensures.broken)

pub returns-in_err-done-clause-takes : goal.returns-in_err-done-clause-takes
returns-in_err-done-clause-takes t c =
    let down : c.args.level ≡ suc (c.args.level - 1) = omega arith in
    let p = err_from_is_err_and c.from_residual-in_err-done.result c.from_residual-in_err-done.ensures.1 in
    rw (p.1, p.2)
    (same_over c.args.ctx.now c.args.level (c.args.level - 1) c.args.page c.in-Some.child c.count_upto-i.result c.args.key.now c.in_ok-bytes.bytes.now c.in_ok-bytes.head down c.in_ok-bytes.ensures.ok c.in-Some.ensures c.count_upto-i.ensures.passed
    c.remove_below.new.ctx (Err c.in_err-done.field-0.0) tt c.in_err-done.ensures.takes)

pub returns-in_err-done-clause-way : goal.returns-in_err-done-clause-way
returns-in_err-done-clause-way t c =
    let down : c.args.level ≡ suc (c.args.level - 1) = omega arith in
    let p = err_from_is_err_and c.from_residual-in_err-done.result c.from_residual-in_err-done.ensures.1 in
    let at = c.in-Some.ensures ∙ ap (nth_child c.in_ok-bytes.head.a (node_in c.in_ok-bytes.bytes.now).entries) c.count_upto-i.ensures.passed in
    rw (p.1, p.2)
    (needs_below Taken c.args.ctx.now c.args.level (c.args.level - 1) c.args.page c.in-Some.child c.args.key.now c.in_ok-bytes.bytes.now c.in_ok-bytes.head _ down c.in_ok-bytes.ensures.ok at c.in_err-done.ensures.way)

-- ---- the child is empty
pub free-requires : goal.free-requires
free-requires t c =
    let left = subst (λ done. LeavesPage c.remove_below.new.ctx (c.args.level - 1) c.in-Some.child done) c.in-Empty.is c.in_ok-done.ensures.leaves in
    let room = has_room c.remove_below.new.ctx c.in-Some.child (like_node (c.args.level - 1) (held_node (page_of c.remove_below.new.ctx c.in-Some.child)) left) in
    (λ none. omega (arith, room, none))

pub drop_child-requires-clause-held : goal.drop_child-requires-clause-held
drop_child-requires-clause-held t c =
    let down : c.args.level ≡ suc (c.args.level - 1) = omega arith in
    let left = subst (λ done. LeavesPage c.remove_below.new.ctx (c.args.level - 1) c.in-Some.child done) c.in-Empty.is c.in_ok-done.ensures.leaves in
    subst (λ (v : View). IsSome (held_node (page_of v c.args.page))) (sym c.in_ok-free-in-Empty.ensures.ok) (node_some (held_node (page_of (with_page c.in-Some.child [] c.remove_below.new.ctx) c.args.page)) (node_in c.in_ok-bytes.bytes.now)
    (freed_node c.args.ctx.now c.remove_below.new.ctx c.args.level (c.args.level - 1) c.args.page c.in-Some.child c.in_ok-bytes.bytes.now c.in_ok-bytes.head down c.in_ok-bytes.ensures.ok
    c.in_ok-done.ensures.given c.in_ok-done.ensures.higher c.count_upto-i.result c.remove_below.new.ctx (Ok Empty) left))

pub drop_child-requires-clause-within : goal.drop_child-requires-clause-within
drop_child-requires-clause-within t c =
    let down : c.args.level ≡ suc (c.args.level - 1) = omega arith in
    let left = subst (λ done. LeavesPage c.remove_below.new.ctx (c.args.level - 1) c.in-Some.child done) c.in-Empty.is c.in_ok-done.ensures.leaves in
    let all : length (node_in c.in_ok-bytes.bytes.now).entries ≡ (node_in c.in_ok-bytes.bytes.now).head.count = sym (page_count c.in_ok-bytes.bytes.now) in
    let low : c.count_upto-i.result ≤ length (node_in c.in_ok-bytes.bytes.now).entries = omega (arith, all, c.count_upto-i.ensures.within) in
    subst (λ (v : View). c.count_upto-i.result ≤ length (entries_of (held_node (page_of v c.args.page)))) (sym c.in_ok-free-in-Empty.ensures.ok)
    (subst (λ o. c.count_upto-i.result ≤ length (entries_of o)) (sym (freed_node c.args.ctx.now c.remove_below.new.ctx c.args.level (c.args.level - 1) c.args.page c.in-Some.child c.in_ok-bytes.bytes.now c.in_ok-bytes.head down c.in_ok-bytes.ensures.ok
    c.in_ok-done.ensures.given c.in_ok-done.ensures.higher c.count_upto-i.result c.remove_below.new.ctx (Ok Empty) left)) low)

pub returns-in_ok-free-in-Empty-clause-given : goal.returns-in_ok-free-in-Empty-clause-given
returns-in_ok-free-in-Empty-clause-given t c = c.drop_child.ensures.given ∙ ap dropped c.in_ok-free-in-Empty.ensures.ok ∙ dropped-with_page c.remove_below.new.ctx c.in-Some.child [] ∙ c.in_ok-done.ensures.given

pub returns-in_ok-free-in-Empty-clause-asks : goal.returns-in_ok-free-in-Empty-clause-asks
returns-in_ok-free-in-Empty-clause-asks t c =
    let down : c.args.level ≡ suc (c.args.level - 1) = omega arith in
    let left = subst (λ done. LeavesPage c.remove_below.new.ctx (c.args.level - 1) c.in-Some.child done) c.in-Empty.is c.in_ok-done.ensures.leaves in
    let freed : c.free.new.self ≡ with_page c.in-Some.child [] c.remove_below.new.ctx = c.in_ok-free-in-Empty.ensures.ok in
    let drops = subst (λ (v : View). DropsChild v c.drop_child.new.ctx c.args.page (held_node (page_of v c.args.page)) c.count_upto-i.result c.drop_child.result) freed c.drop_child.ensures.drops in
    let given = c.drop_child.ensures.given ∙ ap dropped freed in
    drop_asks c.args.ctx.now c.remove_below.new.ctx c.args.level (c.args.level - 1) c.args.page c.in-Some.child c.in_ok-bytes.bytes.now c.in_ok-bytes.head down c.in_ok-bytes.ensures.ok
    c.in_ok-done.ensures.given c.in_ok-done.ensures.higher c.count_upto-i.result c.drop_child.new.ctx c.drop_child.result left drops given

pub returns-in_ok-free-in-Empty-clause-broken : goal.returns-in_ok-free-in-Empty-clause-broken
returns-in_ok-free-in-Empty-clause-broken t c =
    let down : c.args.level ≡ suc (c.args.level - 1) = omega arith in
    let left = subst (λ done. LeavesPage c.remove_below.new.ctx (c.args.level - 1) c.in-Some.child done) c.in-Empty.is c.in_ok-done.ensures.leaves in
    let freed : c.free.new.self ≡ with_page c.in-Some.child [] c.remove_below.new.ctx = c.in_ok-free-in-Empty.ensures.ok in
    let drops = subst (λ (v : View). DropsChild v c.drop_child.new.ctx c.args.page (held_node (page_of v c.args.page)) c.count_upto-i.result c.drop_child.result) freed c.drop_child.ensures.drops in
    let given = c.drop_child.ensures.given ∙ ap dropped freed in
    drop_breaks c.args.ctx.now c.remove_below.new.ctx c.args.level (c.args.level - 1) c.args.page c.in-Some.child c.in_ok-bytes.bytes.now c.in_ok-bytes.head down c.in_ok-bytes.ensures.ok
    c.in_ok-done.ensures.given c.in_ok-done.ensures.higher c.count_upto-i.result c.drop_child.new.ctx c.drop_child.result left drops given

pub returns-in_ok-free-in-Empty-clause-higher : goal.returns-in_ok-free-in-Empty-clause-higher
returns-in_ok-free-in-Empty-clause-higher t c =
    let down : c.args.level ≡ suc (c.args.level - 1) = omega arith in
    let left = subst (λ done. LeavesPage c.remove_below.new.ctx (c.args.level - 1) c.in-Some.child done) c.in-Empty.is c.in_ok-done.ensures.leaves in
    let freed : c.free.new.self ≡ with_page c.in-Some.child [] c.remove_below.new.ctx = c.in_ok-free-in-Empty.ensures.ok in
    let drops = subst (λ (v : View). DropsChild v c.drop_child.new.ctx c.args.page (held_node (page_of v c.args.page)) c.count_upto-i.result c.drop_child.result) freed c.drop_child.ensures.drops in
    let given = c.drop_child.ensures.given ∙ ap dropped freed in
    drop_keeps c.args.ctx.now c.remove_below.new.ctx c.args.level (c.args.level - 1) c.args.page c.in-Some.child c.in_ok-bytes.bytes.now c.in_ok-bytes.head down c.in_ok-bytes.ensures.ok
    c.in_ok-done.ensures.given c.in_ok-done.ensures.higher c.count_upto-i.result c.drop_child.new.ctx c.drop_child.result left drops given

pub returns-in_ok-free-in-Empty-clause-leaves : goal.returns-in_ok-free-in-Empty-clause-leaves
returns-in_ok-free-in-Empty-clause-leaves t c =
    let down : c.args.level ≡ suc (c.args.level - 1) = omega arith in
    let left = subst (λ done. LeavesPage c.remove_below.new.ctx (c.args.level - 1) c.in-Some.child done) c.in-Empty.is c.in_ok-done.ensures.leaves in
    let freed : c.free.new.self ≡ with_page c.in-Some.child [] c.remove_below.new.ctx = c.in_ok-free-in-Empty.ensures.ok in
    let drops = subst (λ (v : View). DropsChild v c.drop_child.new.ctx c.args.page (held_node (page_of v c.args.page)) c.count_upto-i.result c.drop_child.result) freed c.drop_child.ensures.drops in
    let given = c.drop_child.ensures.given ∙ ap dropped freed in
    let all : length (node_in c.in_ok-bytes.bytes.now).entries ≡ (node_in c.in_ok-bytes.bytes.now).head.count = sym (page_count c.in_ok-bytes.bytes.now) in
    let low : c.count_upto-i.result ≤ length (node_in c.in_ok-bytes.bytes.now).entries = omega (arith, all, c.count_upto-i.ensures.within) in
    drop_leaves c.args.ctx.now c.remove_below.new.ctx c.args.level (c.args.level - 1) c.args.page c.in-Some.child c.in_ok-bytes.bytes.now c.in_ok-bytes.head down c.in_ok-bytes.ensures.ok
    c.in_ok-done.ensures.given c.in_ok-done.ensures.higher c.count_upto-i.result c.drop_child.new.ctx c.drop_child.result left drops given low

pub returns-in_ok-free-in-Empty-clause-takes : goal.returns-in_ok-free-in-Empty-clause-takes
returns-in_ok-free-in-Empty-clause-takes t c =
    let down : c.args.level ≡ suc (c.args.level - 1) = omega arith in
    let left = subst (λ done. LeavesPage c.remove_below.new.ctx (c.args.level - 1) c.in-Some.child done) c.in-Empty.is c.in_ok-done.ensures.leaves in
    let freed : c.free.new.self ≡ with_page c.in-Some.child [] c.remove_below.new.ctx = c.in_ok-free-in-Empty.ensures.ok in
    let drops = subst (λ (v : View). DropsChild v c.drop_child.new.ctx c.args.page (held_node (page_of v c.args.page)) c.count_upto-i.result c.drop_child.result) freed c.drop_child.ensures.drops in
    let given = c.drop_child.ensures.given ∙ ap dropped freed in
    let below : OverPlaces c.args.ctx.now (c.args.level - 1) c.in-Some.child c.args.key.now (λ P low high. TakesAt c.args.ctx.now c.remove_below.new.ctx (c.args.level - 1) c.in-Some.child c.args.key.now P low high (Ok Empty)) =
    (λ P low high place. subst (λ done. TakesAt c.args.ctx.now c.remove_below.new.ctx (c.args.level - 1) c.in-Some.child c.args.key.now P low high (Ok done)) c.in-Empty.is (c.in_ok-done.ensures.takes P low high place)) in
    empty_over c.args.ctx.now c.args.level (c.args.level - 1) c.args.page c.in-Some.child c.count_upto-i.result c.args.key.now c.in_ok-bytes.bytes.now c.in_ok-bytes.head down c.in_ok-bytes.ensures.ok c.in-Some.ensures c.count_upto-i.ensures.passed c.remove_below.new.ctx
    c.drop_child.new.ctx c.drop_child.result (page_still c.args.ctx.now c.remove_below.new.ctx c.args.level (c.args.level - 1) c.args.page c.in-Some.child c.in_ok-bytes.bytes.now c.in_ok-bytes.head down c.in_ok-bytes.ensures.ok
    c.in_ok-done.ensures.given c.in_ok-done.ensures.higher) (apart_child c.args.ctx.now c.remove_below.new.ctx c.args.level (c.args.level - 1) c.args.page c.in-Some.child c.in_ok-bytes.bytes.now c.in_ok-bytes.head down c.in_ok-bytes.ensures.ok
    c.in_ok-done.ensures.given c.in_ok-done.ensures.higher c.count_upto-i.result c.drop_child.new.ctx c.drop_child.result left) below drops

-- ---- it has one child left
pub merge-requires-clause-within : goal.merge-requires-clause-within
merge-requires-clause-within t c =
    let down : c.args.level ≡ suc (c.args.level - 1) = omega arith in
    let all : length (node_in c.in_ok-bytes.bytes.now).entries ≡ (node_in c.in_ok-bytes.bytes.now).head.count = sym (page_count c.in_ok-bytes.bytes.now) in
    let low : c.count_upto-i.result ≤ length (node_in c.in_ok-bytes.bytes.now).entries = omega (arith, all, c.count_upto-i.ensures.within) in
    subst (λ o. c.count_upto-i.result ≤ length (entries_of o)) (sym (still_node c.args.ctx.now c.remove_below.new.ctx c.args.level (c.args.level - 1) c.args.page c.in-Some.child c.in_ok-bytes.bytes.now c.in_ok-bytes.head down c.in_ok-bytes.ensures.ok
    c.in_ok-done.ensures.given c.in_ok-done.ensures.higher)) low

pub returns-in-Single-clause-asks : goal.returns-in-Single-clause-asks
returns-in-Single-clause-asks t c =
    let down : c.args.level ≡ suc (c.args.level - 1) = omega arith in
    let left = subst (λ done. LeavesPage c.remove_below.new.ctx (c.args.level - 1) c.in-Some.child done) c.in-Single.is c.in_ok-done.ensures.leaves in
    merge_asks c.args.ctx.now c.remove_below.new.ctx c.args.level (c.args.level - 1) c.args.page c.in-Some.child c.in_ok-bytes.bytes.now c.in_ok-bytes.head down c.in_ok-bytes.ensures.ok
    c.in_ok-done.ensures.given c.in_ok-done.ensures.higher c.count_upto-i.result c.in-Single.left c.merge.new.ctx c.merge.result left c.merge.ensures.merges c.merge.ensures.given

pub returns-in-Single-clause-broken : goal.returns-in-Single-clause-broken
returns-in-Single-clause-broken t c =
    let down : c.args.level ≡ suc (c.args.level - 1) = omega arith in
    let left = subst (λ done. LeavesPage c.remove_below.new.ctx (c.args.level - 1) c.in-Some.child done) c.in-Single.is c.in_ok-done.ensures.leaves in
    merge_breaks c.args.ctx.now c.remove_below.new.ctx c.args.level (c.args.level - 1) c.args.page c.in-Some.child c.in_ok-bytes.bytes.now c.in_ok-bytes.head down c.in_ok-bytes.ensures.ok
    c.in_ok-done.ensures.given c.in_ok-done.ensures.higher c.count_upto-i.result c.in-Single.left c.merge.new.ctx c.merge.result left c.merge.ensures.merges c.merge.ensures.given

pub returns-in-Single-clause-higher : goal.returns-in-Single-clause-higher
returns-in-Single-clause-higher t c =
    let down : c.args.level ≡ suc (c.args.level - 1) = omega arith in
    let left = subst (λ done. LeavesPage c.remove_below.new.ctx (c.args.level - 1) c.in-Some.child done) c.in-Single.is c.in_ok-done.ensures.leaves in
    merge_keeps c.args.ctx.now c.remove_below.new.ctx c.args.level (c.args.level - 1) c.args.page c.in-Some.child c.in_ok-bytes.bytes.now c.in_ok-bytes.head down c.in_ok-bytes.ensures.ok
    c.in_ok-done.ensures.given c.in_ok-done.ensures.higher c.count_upto-i.result c.in-Single.left c.merge.new.ctx c.merge.result left c.merge.ensures.merges c.merge.ensures.given

pub returns-in-Single-clause-leaves : goal.returns-in-Single-clause-leaves
returns-in-Single-clause-leaves t c =
    let down : c.args.level ≡ suc (c.args.level - 1) = omega arith in
    let left = subst (λ done. LeavesPage c.remove_below.new.ctx (c.args.level - 1) c.in-Some.child done) c.in-Single.is c.in_ok-done.ensures.leaves in
    let all : length (node_in c.in_ok-bytes.bytes.now).entries ≡ (node_in c.in_ok-bytes.bytes.now).head.count = sym (page_count c.in_ok-bytes.bytes.now) in
    let low : c.count_upto-i.result ≤ length (node_in c.in_ok-bytes.bytes.now).entries = omega (arith, all, c.count_upto-i.ensures.within) in
    merge_leaves c.args.ctx.now c.remove_below.new.ctx c.args.level (c.args.level - 1) c.args.page c.in-Some.child c.in_ok-bytes.bytes.now c.in_ok-bytes.head down c.in_ok-bytes.ensures.ok
    c.in_ok-done.ensures.given c.in_ok-done.ensures.higher c.count_upto-i.result c.in-Single.left c.merge.new.ctx c.merge.result left c.merge.ensures.merges c.merge.ensures.given low

pub returns-in-Single-clause-way : goal.returns-in-Single-clause-way
returns-in-Single-clause-way t c =
    let down : c.args.level ≡ suc (c.args.level - 1) = omega arith in
    let left = subst (λ done. LeavesPage c.remove_below.new.ctx (c.args.level - 1) c.in-Some.child done) c.in-Single.is c.in_ok-done.ensures.leaves in
    merge_way c.args.ctx.now c.remove_below.new.ctx c.args.level (c.args.level - 1) c.args.page c.in-Some.child c.in_ok-bytes.bytes.now c.in_ok-bytes.head down c.in_ok-bytes.ensures.ok
    c.in_ok-done.ensures.given c.in_ok-done.ensures.higher c.count_upto-i.result c.in-Single.left c.merge.new.ctx c.merge.result left c.merge.ensures.merges c.merge.ensures.given c.args.key.now c.count_upto-i.ensures.passed

pub returns-in-Single-clause-takes : goal.returns-in-Single-clause-takes
returns-in-Single-clause-takes t c =
    let down : c.args.level ≡ suc (c.args.level - 1) = omega arith in
    let left = subst (λ done. LeavesPage c.remove_below.new.ctx (c.args.level - 1) c.in-Some.child done) c.in-Single.is c.in_ok-done.ensures.leaves in
    let below : OverPlaces c.args.ctx.now (c.args.level - 1) c.in-Some.child c.args.key.now (λ P low high. TakesAt c.args.ctx.now c.remove_below.new.ctx (c.args.level - 1) c.in-Some.child c.args.key.now P low high (Ok (Single c.in-Single.left))) =
    (λ P low high place. subst (λ done. TakesAt c.args.ctx.now c.remove_below.new.ctx (c.args.level - 1) c.in-Some.child c.args.key.now P low high (Ok done)) c.in-Single.is (c.in_ok-done.ensures.takes P low high place)) in
    merge_over c.args.ctx.now c.args.level (c.args.level - 1) c.args.page c.in-Some.child c.count_upto-i.result c.args.key.now c.in_ok-bytes.bytes.now c.in_ok-bytes.head down c.in_ok-bytes.ensures.ok c.in-Some.ensures c.count_upto-i.ensures.passed c.remove_below.new.ctx
    c.merge.new.ctx c.in-Single.left left.1 c.merge.result left.0 c.in_ok-done.ensures.given (page_still c.args.ctx.now c.remove_below.new.ctx c.args.level
    (c.args.level - 1) c.args.page c.in-Some.child c.in_ok-bytes.bytes.now c.in_ok-bytes.head down c.in_ok-bytes.ensures.ok c.in_ok-done.ensures.given c.in_ok-done.ensures.higher) below left.2 c.merge.ensures.merges

-- ---- it was split
pub returns-in-Split-clause-asks : goal.returns-in-Split-clause-asks
returns-in-Split-clause-asks t c =
    let down : c.args.level ≡ suc (c.args.level - 1) = omega arith in
    raise_asks c.args.ctx.now c.remove_below.new.ctx c.args.level (c.args.level - 1) c.args.page c.in-Some.child c.in_ok-bytes.bytes.now c.in_ok-bytes.head down c.in_ok-bytes.ensures.ok
    c.in_ok-done.ensures.given c.in_ok-done.ensures.higher c.in-Split.bound c.in-Split.next c.raise.new.ctx c.raise.result c.raise.ensures.raises c.raise.ensures.given

pub returns-in-Split-clause-broken : goal.returns-in-Split-clause-broken
returns-in-Split-clause-broken t c =
    let down : c.args.level ≡ suc (c.args.level - 1) = omega arith in
    raise_breaks c.args.ctx.now c.remove_below.new.ctx c.args.level (c.args.level - 1) c.args.page c.in-Some.child c.in_ok-bytes.bytes.now c.in_ok-bytes.head down c.in_ok-bytes.ensures.ok
    c.in_ok-done.ensures.given c.in_ok-done.ensures.higher c.in-Split.bound c.in-Split.next c.raise.new.ctx c.raise.result c.raise.ensures.raises c.raise.ensures.given

pub returns-in-Split-clause-higher : goal.returns-in-Split-clause-higher
returns-in-Split-clause-higher t c =
    let down : c.args.level ≡ suc (c.args.level - 1) = omega arith in
    raise_keeps c.args.ctx.now c.remove_below.new.ctx c.args.level (c.args.level - 1) c.args.page c.in-Some.child c.in_ok-bytes.bytes.now c.in_ok-bytes.head down c.in_ok-bytes.ensures.ok
    c.in_ok-done.ensures.given c.in_ok-done.ensures.higher c.in-Split.bound c.in-Split.next c.raise.new.ctx c.raise.result c.raise.ensures.raises c.raise.ensures.given

pub returns-in-Split-clause-leaves : goal.returns-in-Split-clause-leaves
returns-in-Split-clause-leaves t c =
    let down : c.args.level ≡ suc (c.args.level - 1) = omega arith in
    raise_leaves c.args.ctx.now c.remove_below.new.ctx c.args.level (c.args.level - 1) c.args.page c.in-Some.child c.in_ok-bytes.bytes.now c.in_ok-bytes.head down c.in_ok-bytes.ensures.ok
    c.in_ok-done.ensures.given c.in_ok-done.ensures.higher c.in-Split.bound c.in-Split.next c.raise.new.ctx c.raise.result c.raise.ensures.raises c.raise.ensures.given

pub returns-in-Split-clause-takes : goal.returns-in-Split-clause-takes
returns-in-Split-clause-takes t c =
    let down : c.args.level ≡ suc (c.args.level - 1) = omega arith in
    let below : OverPlaces c.args.ctx.now (c.args.level - 1) c.in-Some.child c.args.key.now (λ P low high. TakesAt c.args.ctx.now c.remove_below.new.ctx (c.args.level - 1) c.in-Some.child c.args.key.now P low high (Ok (Split c.in-Split.bound c.in-Split.next))) =
    (λ P low high place. subst (λ done. TakesAt c.args.ctx.now c.remove_below.new.ctx (c.args.level - 1) c.in-Some.child c.args.key.now P low high (Ok done)) c.in-Split.is (c.in_ok-done.ensures.takes P low high place)) in
    split_over c.args.ctx.now c.args.level (c.args.level - 1) c.args.page c.in-Some.child c.count_upto-i.result c.args.key.now c.in_ok-bytes.bytes.now c.in_ok-bytes.head down c.in_ok-bytes.ensures.ok c.in-Some.ensures c.count_upto-i.ensures.passed c.remove_below.new.ctx
    c.raise.new.ctx c.in-Split.bound c.in-Split.next c.raise.result c.in_ok-done.ensures.given (page_still c.args.ctx.now c.remove_below.new.ctx c.args.level
    (c.args.level - 1) c.args.page c.in-Some.child c.in_ok-bytes.bytes.now c.in_ok-bytes.head down c.in_ok-bytes.ensures.ok c.in_ok-done.ensures.given c.in_ok-done.ensures.higher) below c.raise.ensures.raises

-- ---- it stayed one page
pub returns-in_default-2-clause-takes : goal.returns-in_default-2-clause-takes
returns-in_default-2-clause-takes t c =
    let down : c.args.level ≡ suc (c.args.level - 1) = omega arith in
    same_over c.args.ctx.now c.args.level (c.args.level - 1) c.args.page c.in-Some.child c.count_upto-i.result c.args.key.now c.in_ok-bytes.bytes.now c.in_ok-bytes.head down c.in_ok-bytes.ensures.ok c.in-Some.ensures c.count_upto-i.ensures.passed c.remove_below.new.ctx
    (Ok c.in_ok-done.done) (still c.in_ok-done.done c.in_default-2.not-Empty c.in_default-2.not-Single c.in_default-2.not-Split) c.in_ok-done.ensures.takes

-- ---- the child that is left may be called broken
pub returns-in_ok-free-in-Empty-clause-single : goal.returns-in_ok-free-in-Empty-clause-single
returns-in_ok-free-in-Empty-clause-single t c =
    let down : c.args.level ≡ suc (c.args.level - 1) = omega arith in
    let left = subst (λ done. LeavesPage c.remove_below.new.ctx (c.args.level - 1) c.in-Some.child done) c.in-Empty.is c.in_ok-done.ensures.leaves in
    let freed : c.free.new.self ≡ with_page c.in-Some.child [] c.remove_below.new.ctx = c.in_ok-free-in-Empty.ensures.ok in
    let drops = subst (λ (v : View). DropsChild v c.drop_child.new.ctx c.args.page (held_node (page_of v c.args.page)) c.count_upto-i.result c.drop_child.result) freed c.drop_child.ensures.drops in
    let given = c.drop_child.ensures.given ∙ ap dropped freed ∙ dropped-with_page c.remove_below.new.ctx c.in-Some.child [] ∙ c.in_ok-done.ensures.given in
    drop_may c.args.ctx.now c.remove_below.new.ctx c.drop_child.new.ctx c.args.level (c.args.level - 1) c.args.page c.in-Some.child c.count_upto-i.result c.in_ok-bytes.bytes.now c.in_ok-bytes.head c.drop_child.result down c.in_ok-bytes.ensures.ok
    c.in_ok-done.ensures.given c.in_ok-done.ensures.higher left drops given c.drop_child.ensures.other

pub returns-in-Single-clause-single : goal.returns-in-Single-clause-single
returns-in-Single-clause-single t c =
    let down : c.args.level ≡ suc (c.args.level - 1) = omega arith in
    let all : length (node_in c.in_ok-bytes.bytes.now).entries ≡ (node_in c.in_ok-bytes.bytes.now).head.count = sym (page_count c.in_ok-bytes.bytes.now) in
    let low : c.count_upto-i.result ≤ length (node_in c.in_ok-bytes.bytes.now).entries = omega (arith, all, c.count_upto-i.ensures.within) in
    merge_may c.args.ctx.now c.remove_below.new.ctx c.merge.new.ctx c.args.level (c.args.level - 1) c.args.page c.in-Some.child c.count_upto-i.result c.in-Single.left c.in_ok-bytes.bytes.now c.in_ok-bytes.head c.merge.result down c.in_ok-bytes.ensures.ok
    c.in_ok-done.ensures.given c.in_ok-done.ensures.higher low c.merge.ensures.merges c.merge.ensures.other

-- ---- what it takes
pub returns-then-level-eq0-clause-edits : goal.returns-then-level-eq0-clause-edits
returns-then-level-eq0-clause-edits t c =
    omega (arith, c.take_entry.ensures.edits, entry_spared c.args.ctx.now c.take_entry.new.ctx c.args.page (held_node (page_of c.args.ctx.now c.args.page)) c.args.key.now c.take_entry.result c.take_entry.ensures.takes)

pub returns-then-level-eq0-clause-room : goal.returns-then-level-eq0-clause-room
returns-then-level-eq0-clause-room t c =
    λ N shows tree. entry_within c.args.ctx.now c.take_entry.new.ctx c.args.level N c.args.page (held_node (page_of c.args.ctx.now c.args.page)) c.args.key.now c.take_entry.result c.take_entry.ensures.takes

pub returns-in_err-done-clause-edits : goal.returns-in_err-done-clause-edits
returns-in_err-done-clause-edits t c =
    let p = err_from_is_err_and c.from_residual-in_err-done.result c.from_residual-in_err-done.ensures.1 in
    omega (arith, ap spared p.1, c.in_err-done.ensures.edits)

pub returns-in_err-done-clause-room : goal.returns-in_err-done-clause-room
returns-in_err-done-clause-room t c =
    let down : c.args.level ≡ suc (c.args.level - 1) = omega arith in
    let p = err_from_is_err_and c.from_residual-in_err-done.result c.from_residual-in_err-done.ensures.1 in
    let at = c.in-Some.ensures ∙ ap (nth_child c.in_ok-bytes.head.a (node_in c.in_ok-bytes.bytes.now).entries) c.count_upto-i.ensures.passed in
    rw (p.1, p.2)
    (same_taken c.args.ctx.now c.args.level (c.args.level - 1) c.args.page c.in-Some.child c.args.key.now c.in_ok-bytes.bytes.now c.in_ok-bytes.head down c.in_ok-bytes.ensures.ok at c.remove_below.new.ctx c.in_err-done.field-0.0 c.in_err-done.ensures.room)

pub returns-in_err-free-in-Empty-clause-edits : goal.returns-in_err-free-in-Empty-clause-edits
returns-in_err-free-in-Empty-clause-edits t c =
    let p = err_from_is_err_and c.from_residual-in_err-free-in-Empty.result c.from_residual-in_err-free-in-Empty.ensures.1 in
    omega (arith, ap spared p.1, c.in_ok-done.ensures.edits, ap edits_of c.in_err-free-in-Empty.ensures.err)

pub returns-in_ok-free-in-Empty-clause-edits : goal.returns-in_ok-free-in-Empty-clause-edits
returns-in_ok-free-in-Empty-clause-edits t c =
    omega (
      arith,
      c.in_ok-done.ensures.edits,
      ap edits_of c.in_ok-free-in-Empty.ensures.ok,
      edits-freed c.remove_below.new.ctx c.in-Some.child,
      c.drop_child.ensures.edits,
      written-few c.drop_child.new.ctx c.args.page,
      spared-few c.drop_child.result,
    )

pub returns-in_ok-free-in-Empty-clause-room : goal.returns-in_ok-free-in-Empty-clause-room
returns-in_ok-free-in-Empty-clause-room t c =
    let down : c.args.level ≡ suc (c.args.level - 1) = omega arith in
    let left = subst (λ done. LeavesPage c.remove_below.new.ctx (c.args.level - 1) c.in-Some.child done) c.in-Empty.is c.in_ok-done.ensures.leaves in
    let freed : c.free.new.self ≡ with_page c.in-Some.child [] c.remove_below.new.ctx = c.in_ok-free-in-Empty.ensures.ok in
    let node = freed_node c.args.ctx.now c.remove_below.new.ctx c.args.level (c.args.level - 1) c.args.page c.in-Some.child c.in_ok-bytes.bytes.now c.in_ok-bytes.head down c.in_ok-bytes.ensures.ok c.in_ok-done.ensures.given c.in_ok-done.ensures.higher c.count_upto-i.result c.remove_below.new.ctx (Ok Empty) left in
    let drops = subst (λ (v : View). DropsChild v c.drop_child.new.ctx c.args.page (held_node (page_of v c.args.page)) c.count_upto-i.result c.drop_child.result) freed c.drop_child.ensures.drops in
    let at = c.in-Some.ensures ∙ ap (nth_child c.in_ok-bytes.head.a (node_in c.in_ok-bytes.bytes.now).entries) c.count_upto-i.ensures.passed in
    emptied_taken c.args.ctx.now c.args.level (c.args.level - 1) c.args.page c.in-Some.child c.args.key.now c.in_ok-bytes.bytes.now c.in_ok-bytes.head down c.in_ok-bytes.ensures.ok at c.remove_below.new.ctx c.drop_child.new.ctx c.count_upto-i.result c.drop_child.result
    (λ N shows tree. subst (λ done. TakesWithin (c.args.level - 1) N c.in-Some.child c.args.ctx.now c.remove_below.new.ctx (Ok done)) c.in-Empty.is (c.in_ok-done.ensures.room N shows tree))
    (node_some (held_node (page_of (with_page c.in-Some.child [] c.remove_below.new.ctx) c.args.page)) (node_in c.in_ok-bytes.bytes.now) node)
    (subst (λ o. DropsChild (with_page c.in-Some.child [] c.remove_below.new.ctx) c.drop_child.new.ctx c.args.page o c.count_upto-i.result c.drop_child.result) node drops)

pub returns-in-Single-clause-edits : goal.returns-in-Single-clause-edits
returns-in-Single-clause-edits t c =
    let below = subst (λ done. edits_of c.remove_below.new.ctx + spared (Ok done) ≤ edits_of c.args.ctx.now + (5 * (c.args.level - 1) + 1)) c.in-Single.is c.in_ok-done.ensures.edits in
    omega (arith, below, c.merge.ensures.edits)

pub returns-in-Single-clause-room : goal.returns-in-Single-clause-room
returns-in-Single-clause-room t c =
    let down : c.args.level ≡ suc (c.args.level - 1) = omega arith in
    let still = still_node c.args.ctx.now c.remove_below.new.ctx c.args.level (c.args.level - 1) c.args.page c.in-Some.child c.in_ok-bytes.bytes.now c.in_ok-bytes.head down c.in_ok-bytes.ensures.ok c.in_ok-done.ensures.given c.in_ok-done.ensures.higher in
    let at = c.in-Some.ensures ∙ ap (nth_child c.in_ok-bytes.head.a (node_in c.in_ok-bytes.bytes.now).entries) c.count_upto-i.ensures.passed in
    merged_taken c.args.ctx.now c.args.level (c.args.level - 1) c.args.page c.in-Some.child c.args.key.now c.in_ok-bytes.bytes.now c.in_ok-bytes.head down c.in_ok-bytes.ensures.ok at c.remove_below.new.ctx c.merge.new.ctx c.in-Single.left c.merge.result
    (λ N shows tree. subst (λ done. TakesWithin (c.args.level - 1) N c.in-Some.child c.args.ctx.now c.remove_below.new.ctx (Ok done)) c.in-Single.is (c.in_ok-done.ensures.room N shows tree))
    (subst (λ o. IsInner c.args.level o → MergesWithin c.remove_below.new.ctx c.merge.new.ctx o c.merge.result) still c.merge.ensures.room)

pub returns-in-Split-clause-edits : goal.returns-in-Split-clause-edits
returns-in-Split-clause-edits t c =
    omega (arith, c.in_ok-done.ensures.edits, c.raise.ensures.edits, raise_spared c.remove_below.new.ctx c.raise.new.ctx (held_node (page_of c.remove_below.new.ctx c.args.page)) c.raise.result c.raise.ensures.room)

pub returns-in-Split-clause-room : goal.returns-in-Split-clause-room
returns-in-Split-clause-room t c =
    let down : c.args.level ≡ suc (c.args.level - 1) = omega arith in
    let still = still_node c.args.ctx.now c.remove_below.new.ctx c.args.level (c.args.level - 1) c.args.page c.in-Some.child c.in_ok-bytes.bytes.now c.in_ok-bytes.head down c.in_ok-bytes.ensures.ok c.in_ok-done.ensures.given c.in_ok-done.ensures.higher in
    let at = c.in-Some.ensures ∙ ap (nth_child c.in_ok-bytes.head.a (node_in c.in_ok-bytes.bytes.now).entries) c.count_upto-i.ensures.passed in
    raised_taken c.args.ctx.now c.args.level (c.args.level - 1) c.args.page c.in-Some.child c.args.key.now c.in_ok-bytes.bytes.now c.in_ok-bytes.head down c.in_ok-bytes.ensures.ok at c.remove_below.new.ctx c.raise.new.ctx c.in-Split.bound c.in-Split.next c.raise.result
    (λ N shows tree. subst (λ done. TakesWithin (c.args.level - 1) N c.in-Some.child c.args.ctx.now c.remove_below.new.ctx (Ok done)) c.in-Split.is (c.in_ok-done.ensures.room N shows tree))
    (subst (λ o. RaisesAt c.remove_below.new.ctx c.raise.new.ctx o c.raise.result) still c.raise.ensures.room)

pub returns-in_default-2-clause-room : goal.returns-in_default-2-clause-room
returns-in_default-2-clause-room t c =
    λ N shows tree. still_within c.args.level N c.args.page c.args.ctx.now c.remove_below.new.ctx c.in_ok-done.done c.in_default-2.not-Empty c.in_default-2.not-Single c.in_default-2.not-Split
