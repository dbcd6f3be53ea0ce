use Rattle.std.proofs.Common.{false, ◌≡◌, ◌-◌, suc, refl, sym, ap, ◌∙◌, subst, arith}
use Rattle.std.specs.Prelude.{Ok, Err}
use Rattle.std.proofs.lemmas.Result.{err_from_is_err_and}
use Rattle.sb_ctx.specs.View.{page_of}
use Rattle.sb_node.specs.Page.{node_in}
use Rattle.sb_btree.specs.Held.{nth_child}
use Rattle.sb_btree.specs.Broken.{held_node}
use Rattle.sb_btree.specs.Inserts.{PutChildAt, PutsAt, OverPlaces}
use Rattle.sb_btree.specs.declared.insertion.Put.{Put}
use Rattle.sb_btree.specs.declared.insertion.Put.TheVariants.{Split}
use Rattle.sb_btree.specs.declared.walk.Stop.TheVariants as stop
use Rattle.sb_btree.proofs.Descending.{stop_breaks, breaks_step}
use Rattle.sb_btree.proofs.Edits.{level_of_head, put_keeps, put_splits, put_asks, put_breaks, child_put, keeps_then}
use Rattle.sb_btree.proofs.Halved.{held_some}
use Rattle.sb_btree.proofs.Walked.{stop_puts, entries_puts, leaf_walk, same_walk, split_walk, needs_step, held_is, level_here, still_held, put_there, whole, whole_split}
use Rattle.sb_node.specs.Entries.{size_of}
use Rattle.sb_btree.specs.Spending.{TakesAt}
use Rattle.sb_btree.proofs.Room.{leaf_room, same_room, split_room}
use Rattle.sb_btree.proofs.insertion.+put_below.Goals as goal

pub returns-in_err-bytes-clause-broken : goal.returns-in_err-bytes-clause-broken
returns-in_err-bytes-clause-broken t c =
    let p = err_from_is_err_and c.from_residual.result c.from_residual.ensures.1 in
    rw (p.1, p.2) (stop_breaks Put c.args.level (page_of c.args.ctx.now) c.args.page c.in_err-bytes.field-0.0 c.in_err-bytes.ensures.stops)

pub returns-in_err-bytes-clause-puts : goal.returns-in_err-bytes-clause-puts
returns-in_err-bytes-clause-puts t c =
    let p = err_from_is_err_and c.from_residual.result c.from_residual.ensures.1 in
    rw (p.1, p.2) (stop_puts c.args.stands c.args.ctx.now c.args.level c.args.page c.args.key.now c.args.value.now c.in_err-bytes.field-0.0 c.in_err-bytes.ensures.stops)

pub returns-then-level-eq0-clause-asks : goal.returns-then-level-eq0-clause-asks
returns-then-level-eq0-clause-asks t c =
    let is = c.in_ok-bytes.ensures.ok in
    put_asks c.args.stands c.args.ctx.now c.put_in_leaf.new.ctx c.args.level c.args.page _ c.args.key.now c.args.value.now c.put_in_leaf.result c.put_in_leaf.ensures.given (held_some c.args.ctx.now c.args.page c.in_ok-bytes.bytes.now is.held_is) c.put_in_leaf.ensures.put

pub returns-then-level-eq0-clause-higher : goal.returns-then-level-eq0-clause-higher
returns-then-level-eq0-clause-higher t c =
    let is = c.in_ok-bytes.ensures.ok in
    put_keeps c.args.stands c.args.ctx.now c.put_in_leaf.new.ctx c.args.level c.args.page c.in_ok-bytes.bytes.now c.args.key.now c.args.value.now c.put_in_leaf.result is.held_is is.form (level_of_head c.args.level (node_in c.in_ok-bytes.bytes.now).head (level_here c.args.ctx.now c.args.level c.args.page c.in_ok-bytes.bytes.now c.in_ok-bytes.head is))
    (put_there c.args.stands c.args.ctx.now c.args.ctx.now c.put_in_leaf.new.ctx c.args.level c.args.page c.args.key.now c.args.value.now c.in_ok-bytes.bytes.now c.in_ok-bytes.head c.put_in_leaf.result is refl c.put_in_leaf.ensures.put)

pub returns-then-level-eq0-clause-splits : goal.returns-then-level-eq0-clause-splits
returns-then-level-eq0-clause-splits t c =
    let is = c.in_ok-bytes.ensures.ok in
    put_splits c.args.stands c.args.ctx.now c.put_in_leaf.new.ctx c.args.level c.args.page c.in_ok-bytes.bytes.now c.args.key.now c.args.value.now c.put_in_leaf.result is.held_is is.form (level_here c.args.ctx.now c.args.level c.args.page c.in_ok-bytes.bytes.now c.in_ok-bytes.head is)
    (put_there c.args.stands c.args.ctx.now c.args.ctx.now c.put_in_leaf.new.ctx c.args.level c.args.page c.args.key.now c.args.value.now c.in_ok-bytes.bytes.now c.in_ok-bytes.head c.put_in_leaf.result is refl c.put_in_leaf.ensures.put)

pub returns-then-level-eq0-clause-puts : goal.returns-then-level-eq0-clause-puts
returns-then-level-eq0-clause-puts t c =
    let is = c.in_ok-bytes.ensures.ok in
    leaf_walk c.args.stands c.args.ctx.now c.put_in_leaf.new.ctx c.args.level c.args.page c.args.key.now c.args.value.now c.in_ok-bytes.bytes.now c.in_ok-bytes.head c.put_in_leaf.result c.if-level-eq0.true is (c.requires.key, c.requires.both)
    (put_there c.args.stands c.args.ctx.now c.args.ctx.now c.put_in_leaf.new.ctx c.args.level c.args.page c.args.key.now c.args.value.now c.in_ok-bytes.bytes.now c.in_ok-bytes.head c.put_in_leaf.result is refl c.put_in_leaf.ensures.put)

pub returns-in_default-clause-puts : goal.returns-in_default-clause-puts
returns-in_default-clause-puts t c =
    let down : c.args.level ≡ suc (c.args.level - 1) = omega arith in
    entries_puts c.args.stands c.args.ctx.now c.args.level (c.args.level - 1) c.args.page c.args.key.now c.args.value.now c.in_ok-bytes.bytes.now c.in_ok-bytes.head (stop.Broken c.args.page) down c.in_ok-bytes.ensures.ok c.in_default.ensures

pub returns-in_err-done-clause-broken : goal.returns-in_err-done-clause-broken
returns-in_err-done-clause-broken t c =
    let down : c.args.level ≡ suc (c.args.level - 1) = omega arith in
    let p = err_from_is_err_and c.from_residual-in_err-done.result c.from_residual-in_err-done.ensures.1 in
    rw (p.1, p.2)
    (breaks_step c.args.level (c.args.level - 1) (page_of c.args.ctx.now) c.args.page c.in_ok-bytes.bytes.now c.in_ok-bytes.head c.count_upto.result c.in-Some.child _ down c.in_ok-bytes.ensures.ok c.in-Some.ensures c.in_err-done.ensures.broken)

pub returns-in_err-done-clause-puts : goal.returns-in_err-done-clause-puts
returns-in_err-done-clause-puts t c =
    let down : c.args.level ≡ suc (c.args.level - 1) = omega arith in
    let p = err_from_is_err_and c.from_residual-in_err-done.result c.from_residual-in_err-done.ensures.1 in
    let at = c.in-Some.ensures ∙ ap (nth_child c.in_ok-bytes.head.a (node_in c.in_ok-bytes.bytes.now).entries) c.count_upto.ensures.passed in
    rw (p.1, p.2)
    (same_walk c.args.stands c.args.ctx.now c.put_below.new.ctx c.args.level (c.args.level - 1) c.args.page c.in-Some.child c.args.key.now c.args.value.now c.in_ok-bytes.bytes.now c.in_ok-bytes.head (Err c.in_err-done.field-0.0) down c.in_ok-bytes.ensures.ok at tt c.in_err-done.ensures.puts)

pub returns-in_err-done-clause-way : goal.returns-in_err-done-clause-way
returns-in_err-done-clause-way t c =
    let down : c.args.level ≡ suc (c.args.level - 1) = omega arith in
    let p = err_from_is_err_and c.from_residual-in_err-done.result c.from_residual-in_err-done.ensures.1 in
    let at = c.in-Some.ensures ∙ ap (nth_child c.in_ok-bytes.head.a (node_in c.in_ok-bytes.bytes.now).entries) c.count_upto.ensures.passed in
    rw (p.1, p.2)
    (needs_step Put c.args.ctx.now c.args.level (c.args.level - 1) c.args.page c.in-Some.child c.args.key.now c.in_ok-bytes.bytes.now c.in_ok-bytes.head _ down c.in_ok-bytes.ensures.ok at c.in_err-done.ensures.way)

-- ---- the child was split
pub returns-in-Split-clause-asks : goal.returns-in-Split-clause-asks
returns-in-Split-clause-asks t c =
    let still = still_held c.args.ctx.now c.put_below.new.ctx c.args.level (c.args.level - 1) c.args.page c.in_ok-bytes.bytes.now c.in_ok-bytes.head (omega arith) c.in_ok-bytes.ensures.ok c.in_ok-done.ensures.higher in
    let put = child_put c.put_below.new.ctx c.put_child.new.ctx c.args.level c.args.page _ c.as_slice.result.now c.in-Split.next c.put_child.result c.put_child.ensures.put in
    put_asks false c.put_below.new.ctx c.put_child.new.ctx c.args.level c.args.page _ c.as_slice.result.now put.0 c.put_child.result c.put_child.ensures.given
    (held_some c.put_below.new.ctx c.args.page c.in_ok-bytes.bytes.now (still ∙ c.in_ok-bytes.ensures.ok.held_is)) put.1

pub returns-in-Split-clause-broken : goal.returns-in-Split-clause-broken
returns-in-Split-clause-broken t c =
    let is = c.in_ok-bytes.ensures.ok in
    let still = still_held c.args.ctx.now c.put_below.new.ctx c.args.level (c.args.level - 1) c.args.page c.in_ok-bytes.bytes.now c.in_ok-bytes.head (omega arith) is c.in_ok-done.ensures.higher in
    let child = child_put c.put_below.new.ctx c.put_child.new.ctx c.args.level c.args.page _ c.as_slice.result.now c.in-Split.next c.put_child.result c.put_child.ensures.put in
    let put = put_there false c.args.ctx.now c.put_below.new.ctx c.put_child.new.ctx c.args.level c.args.page c.as_slice.result.now child.0 c.in_ok-bytes.bytes.now c.in_ok-bytes.head c.put_child.result is still child.1 in
    put_breaks false (page_of c.args.ctx.now) c.put_below.new.ctx c.put_child.new.ctx c.args.level c.args.page c.in_ok-bytes.bytes.now c.as_slice.result.now child.0 c.put_child.result is.held_is is.form put

pub returns-in-Split-clause-higher : goal.returns-in-Split-clause-higher
returns-in-Split-clause-higher t c =
    let is = c.in_ok-bytes.ensures.ok in
    let still = still_held c.args.ctx.now c.put_below.new.ctx c.args.level (c.args.level - 1) c.args.page c.in_ok-bytes.bytes.now c.in_ok-bytes.head (omega arith) is c.in_ok-done.ensures.higher in
    let child = child_put c.put_below.new.ctx c.put_child.new.ctx c.args.level c.args.page _ c.as_slice.result.now c.in-Split.next c.put_child.result c.put_child.ensures.put in
    let put = put_there false c.args.ctx.now c.put_below.new.ctx c.put_child.new.ctx c.args.level c.args.page c.as_slice.result.now child.0 c.in_ok-bytes.bytes.now c.in_ok-bytes.head c.put_child.result is still child.1 in
    let after = put_keeps false c.put_below.new.ctx c.put_child.new.ctx c.args.level c.args.page c.in_ok-bytes.bytes.now c.as_slice.result.now child.0 c.put_child.result (still ∙ is.held_is) is.form
    (level_of_head c.args.level (node_in c.in_ok-bytes.bytes.now).head (level_here c.args.ctx.now c.args.level c.args.page c.in_ok-bytes.bytes.now c.in_ok-bytes.head is)) put in
    keeps_then c.args.ctx.now c.put_below.new.ctx c.put_child.new.ctx c.args.level (c.args.level - 1) c.put_child.result (omega arith) c.in_ok-done.ensures.higher after

pub returns-in-Split-clause-splits : goal.returns-in-Split-clause-splits
returns-in-Split-clause-splits t c =
    let is = c.in_ok-bytes.ensures.ok in
    let still = still_held c.args.ctx.now c.put_below.new.ctx c.args.level (c.args.level - 1) c.args.page c.in_ok-bytes.bytes.now c.in_ok-bytes.head (omega arith) is c.in_ok-done.ensures.higher in
    let child = child_put c.put_below.new.ctx c.put_child.new.ctx c.args.level c.args.page _ c.as_slice.result.now c.in-Split.next c.put_child.result c.put_child.ensures.put in
    let put = put_there false c.args.ctx.now c.put_below.new.ctx c.put_child.new.ctx c.args.level c.args.page c.as_slice.result.now child.0 c.in_ok-bytes.bytes.now c.in_ok-bytes.head c.put_child.result is still child.1 in
    put_splits false c.put_below.new.ctx c.put_child.new.ctx c.args.level c.args.page c.in_ok-bytes.bytes.now c.as_slice.result.now child.0 c.put_child.result (still ∙ is.held_is) is.form (level_here c.args.ctx.now c.args.level c.args.page c.in_ok-bytes.bytes.now c.in_ok-bytes.head is) put

pub returns-in-Split-clause-puts : goal.returns-in-Split-clause-puts
returns-in-Split-clause-puts t c =
    let is = c.in_ok-bytes.ensures.ok in
    let down : c.args.level ≡ suc (c.args.level - 1) = omega arith in
    let at = c.in-Some.ensures ∙ ap (nth_child c.in_ok-bytes.head.a (node_in c.in_ok-bytes.bytes.now).entries) c.count_upto.ensures.passed in
    let still = still_held c.args.ctx.now c.put_below.new.ctx c.args.level (c.args.level - 1) c.args.page c.in_ok-bytes.bytes.now c.in_ok-bytes.head (omega arith) is c.in_ok-done.ensures.higher in
    let here = ap held_node still ∙ held_is c.args.ctx.now c.args.level c.args.page c.in_ok-bytes.bytes.now c.in_ok-bytes.head is in
    let below : OverPlaces c.args.ctx.now (c.args.level - 1) c.in-Some.child c.args.key.now (λ P low high. PutsAt c.args.stands c.args.ctx.now c.put_below.new.ctx (c.args.level - 1) c.in-Some.child c.args.key.now c.args.value.now P low high (Ok (Split c.as_slice.result.now c.in-Split.next))) =
    (λ P low high place. subst (λ b. PutsAt c.args.stands c.args.ctx.now c.put_below.new.ctx (c.args.level - 1) c.in-Some.child c.args.key.now c.args.value.now P low high (Ok (Split b c.in-Split.next))) (sym c.as_slice.ensures)
    (subst (λ put. PutsAt c.args.stands c.args.ctx.now c.put_below.new.ctx (c.args.level - 1) c.in-Some.child c.args.key.now c.args.value.now P low high (Ok put)) c.in-Split.is (c.in_ok-done.ensures.puts P low high place))) in
    split_walk c.args.stands c.args.ctx.now c.put_below.new.ctx c.put_child.new.ctx c.args.level (c.args.level - 1) c.args.page c.in-Some.child c.args.key.now c.args.value.now c.in_ok-bytes.bytes.now c.in_ok-bytes.head c.as_slice.result.now c.in-Split.next c.put_child.result down is at
    c.in_ok-done.ensures.given still below (subst (λ o. PutChildAt c.put_below.new.ctx c.put_child.new.ctx c.args.level c.args.page o c.as_slice.result.now c.in-Split.next c.put_child.result) here c.put_child.ensures.put)

-- ---- the child stayed one page
pub returns-in_default-2-clause-higher : goal.returns-in_default-2-clause-higher
returns-in_default-2-clause-higher t c = λ n bytes at form up. c.in_ok-done.ensures.higher n bytes at form (omega arith)

pub returns-in_default-2-clause-splits : goal.returns-in_default-2-clause-splits
returns-in_default-2-clause-splits t c = whole_split c.put_below.new.ctx c.args.level c.args.page c.in_ok-done.done c.in_default-2.not-Split

pub returns-in_default-2-clause-puts : goal.returns-in_default-2-clause-puts
returns-in_default-2-clause-puts t c =
    let down : c.args.level ≡ suc (c.args.level - 1) = omega arith in
    let at = c.in-Some.ensures ∙ ap (nth_child c.in_ok-bytes.head.a (node_in c.in_ok-bytes.bytes.now).entries) c.count_upto.ensures.passed in
    same_walk c.args.stands c.args.ctx.now c.put_below.new.ctx c.args.level (c.args.level - 1) c.args.page c.in-Some.child c.args.key.now c.args.value.now c.in_ok-bytes.bytes.now c.in_ok-bytes.head (Ok c.in_ok-done.done) down c.in_ok-bytes.ensures.ok at
    (whole c.in_ok-done.done c.in_default-2.not-Split) c.in_ok-done.ensures.puts

-- ---- where a fresh page is asked for
pub returns-then-level-eq0-clause-room : goal.returns-then-level-eq0-clause-room
returns-then-level-eq0-clause-room t c =
    let is = c.in_ok-bytes.ensures.ok in
    leaf_room c.args.ctx.now c.put_in_leaf.new.ctx c.args.level c.args.page (size_of (c.args.key.now, c.args.value.now)) c.in_ok-bytes.bytes.now c.in_ok-bytes.head c.put_in_leaf.result c.if-level-eq0.true is (omega (arith, c.requires.both))
    (subst (λ o. TakesAt c.args.ctx.now c.put_in_leaf.new.ctx (size_of (c.args.key.now, c.args.value.now)) o c.put_in_leaf.result) (held_is c.args.ctx.now c.args.level c.args.page c.in_ok-bytes.bytes.now c.in_ok-bytes.head is) c.put_in_leaf.ensures.room)

pub returns-in_err-done-clause-room : goal.returns-in_err-done-clause-room
returns-in_err-done-clause-room t c =
    let down : c.args.level ≡ suc (c.args.level - 1) = omega arith in
    let p = err_from_is_err_and c.from_residual-in_err-done.result c.from_residual-in_err-done.ensures.1 in
    let at = c.in-Some.ensures ∙ ap (nth_child c.in_ok-bytes.head.a (node_in c.in_ok-bytes.bytes.now).entries) c.count_upto.ensures.passed in
    rw (p.1, p.2)
    (same_room c.args.ctx.now c.args.level (c.args.level - 1) c.args.page c.in-Some.child c.args.key.now c.in_ok-bytes.bytes.now c.in_ok-bytes.head down c.in_ok-bytes.ensures.ok at c.put_below.new.ctx c.in_err-done.field-0.0 c.in_err-done.ensures.room)

pub returns-in-Split-clause-room : goal.returns-in-Split-clause-room
returns-in-Split-clause-room t c =
    let is = c.in_ok-bytes.ensures.ok in
    let down : c.args.level ≡ suc (c.args.level - 1) = omega arith in
    let at = c.in-Some.ensures ∙ ap (nth_child c.in_ok-bytes.head.a (node_in c.in_ok-bytes.bytes.now).entries) c.count_upto.ensures.passed in
    let still = still_held c.args.ctx.now c.put_below.new.ctx c.args.level (c.args.level - 1) c.args.page c.in_ok-bytes.bytes.now c.in_ok-bytes.head (omega arith) is c.in_ok-done.ensures.higher in
    let here = ap held_node still ∙ held_is c.args.ctx.now c.args.level c.args.page c.in_ok-bytes.bytes.now c.in_ok-bytes.head is in
    split_room c.args.ctx.now c.args.level (c.args.level - 1) c.args.page c.in-Some.child c.args.key.now c.in_ok-bytes.bytes.now c.in_ok-bytes.head down is at c.put_below.new.ctx c.put_child.new.ctx c.in_ok-done.done c.in-Split.bound c.in-Split.next c.put_child.result
    c.in-Split.is c.in_ok-done.ensures.room (subst (λ o. TakesAt c.put_below.new.ctx c.put_child.new.ctx 610 o c.put_child.result) here c.put_child.ensures.room)
