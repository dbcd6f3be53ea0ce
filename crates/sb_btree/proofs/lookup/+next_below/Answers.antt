use Rattle.std.proofs.Common.{arith, ap, sym, suc, ◌-◌, ◌+◌, ◌<◌, ◌∙◌, ◌≡◌, ◌⊎◌, inl, inr, Option, option_map, is_some, true, length}
use Rattle.std.proofs.lemmas.Result.{err_from_is_err_and}
use Rattle.std.specs.List.{find as first}
use Rattle.sb_ctx.specs.View.{page_of}
use Rattle.sb_node.specs.Page.{node_in}
use Rattle.sb_btree.specs.Held.{passed, nth_child}
use Rattle.sb_btree.specs.Leaves.{entry_in}
use Rattle.sb_btree.specs.declared.lookup.LeafEntry.{LeafEntry}
use Rattle.sb_forms.specs.Read.{has}
use Rattle.sb_forms.specs.Tree.{items}
use Rattle.sb_btree.specs.Ways.{is_behind, next_ways}
use Rattle.sb_btree.specs.declared.walk.Walk.TheVariants.{Ready}
use Rattle.sb_btree.proofs.Descending.{stop_breaks, stop_leads, entries_lead, breaks_step}
use Rattle.sb_btree.proofs.Following.{next_leads, next_stops, next_goes_on, leaf_follows, next_way_first, page_length}
use Rattle.sb_btree.proofs.Leaves.{first_place, stands_leaf, stands_step}
use Rattle.sb_btree.proofs.Placing.{page_count}
use Rattle.sb_btree.proofs.lookup.+next_below.Goals as goal
use Rattle.sb_btree.proofs.lookup.+next_below.Goals.{then-is_some-via-then-is_some, then-is_some-via-else-is_some+then-i-head}

pub returns-in_err-bytes-clause-broken : goal.returns-in_err-bytes-clause-broken
returns-in_err-bytes-clause-broken t c =
    let p = err_from_is_err_and c.from_residual.result c.from_residual.ensures.1 in
    rw (p.1, p.2) (stop_breaks (Option LeafEntry) c.args.level (page_of c.args.ctx.now) c.args.page c.in_err-bytes.field-0.0 c.in_err-bytes.ensures.stops)

pub returns-in_err-bytes-clause-leads : goal.returns-in_err-bytes-clause-leads
returns-in_err-bytes-clause-leads t c = λ N shows tree.
    let p = err_from_is_err_and c.from_residual.result c.from_residual.ensures.1 in
    let after = option_map (λ key. key.now) c.args.after in
    rw (p.1, p.2)
    (stop_leads (λ (next : Option LeafEntry). option_map entry_in next ≡ first (is_behind after) (items c.args.level N c.args.page)) (λ n. has n (next_ways c.args.level N after c.args.page)) c.args.level c.args.ctx.now c.args.page
    c.in_err-bytes.field-0.0 c.in_err-bytes.ensures.stops (next_way_first c.args.level N after c.args.page) N shows tree)

pub returns-then-level-eq0-clause-leads : goal.returns-then-level-eq0-clause-leads
returns-then-level-eq0-clause-leads t c = λ N shows tree.
    (leaf_follows c.args.level c.args.ctx.now c.args.page (option_map (λ key. key.now) c.args.after) c.in_ok-bytes.bytes.now c.in_ok-bytes.head c.in_ok-leaf_next.field-0 c.if-level-eq0.true c.in_ok-bytes.ensures.ok N shows c.in_ok-leaf_next.ensures, tt)

pub returns-in_default-clause-leads : goal.returns-in_default-clause-leads
returns-in_default-clause-leads t c = λ N shows tree.
    let down : c.args.level ≡ suc (c.args.level - 1) = omega arith in
    (entries_lead c.args.level (c.args.level - 1) c.args.ctx.now c.args.page c.in_ok-bytes.bytes.now c.in_ok-bytes.head down c.in_ok-bytes.ensures.ok c.in_default.ensures N shows tree, tt)

pub returns-in_err-found-clause-broken : goal.returns-in_err-found-clause-broken
returns-in_err-found-clause-broken t c =
    let down : c.args.level ≡ suc (c.args.level - 1) = omega arith in
    let p = err_from_is_err_and c.from_residual-in_err-found.result c.from_residual-in_err-found.ensures.1 in
    rw (p.1, p.2)
    (breaks_step c.args.level (c.args.level - 1) (page_of c.args.ctx.now) c.args.page c.in_ok-bytes.bytes.now c.in_ok-bytes.head c.count_upto-i.result c.in-Some.child _ down c.in_ok-bytes.ensures.ok c.in-Some.ensures c.in_err-found.ensures.broken)

pub returns-in_err-found-clause-leads : goal.returns-in_err-found-clause-leads
returns-in_err-found-clause-leads t c = λ N shows tree.
    let down : c.args.level ≡ suc (c.args.level - 1) = omega arith in
    let p = err_from_is_err_and c.from_residual-in_err-found.result c.from_residual-in_err-found.ensures.1 in
    let at = c.in-Some.ensures ∙ ap (nth_child c.in_ok-bytes.head.a (node_in c.in_ok-bytes.bytes.now).entries) c.count_upto-i.ensures.passed in
    rw (p.1, p.2)
    (next_stops c.args.level (c.args.level - 1) c.args.ctx.now c.args.page (option_map (λ key. key.now) c.args.after) c.in_ok-bytes.bytes.now c.in_ok-bytes.head c.in-Some.child c.in_err-found.field-0.0 down c.in_ok-bytes.ensures.ok at
    N shows tree (λ below. c.in_err-found.ensures.leads N shows below))

pub returns-then-is_some-clause-leads : goal.returns-then-is_some-clause-leads
returns-then-is_some-clause-leads t c = λ N shows tree.
    let down : c.args.level ≡ suc (c.args.level - 1) = omega arith in
    let at = c.in-Some.ensures ∙ ap (nth_child c.in_ok-bytes.head.a (node_in c.in_ok-bytes.bytes.now).entries) c.count_upto-i.ensures.passed in
    let after = option_map (λ key. key.now) c.args.after in
    let ends : (is_some c.in_ok-found.found ≡ true) ⊎ (passed after (node_in c.in_ok-bytes.bytes.now).entries ≡ length (node_in c.in_ok-bytes.bytes.now).entries) =
    elim c.then-is_some.branch [
      | then-is_some-via-then-is_some w ↦ inl (sym w.if-is_some.ensures)
      | then-is_some-via-else-is_some+then-i-head w ↦ inr (sym c.count_upto-i.ensures.passed ∙ w.if-i-head.true ∙ page_length c.in_ok-bytes.bytes.now c.in_ok-bytes.head c.in_ok-bytes.ensures.ok.head_is)
    ] in
    next_leads c.args.level (c.args.level - 1) c.args.ctx.now c.args.page after c.in_ok-bytes.bytes.now c.in_ok-bytes.head c.in-Some.child (Ready c.in_ok-found.found) down c.in_ok-bytes.ensures.ok at ends
    N shows tree (λ below. c.in_ok-found.ensures.leads N shows below)

pub returns-in_default-child_at-clause-leads : goal.returns-in_default-child_at-clause-leads
returns-in_default-child_at-clause-leads t c = λ N shows tree.
    let down : c.args.level ≡ suc (c.args.level - 1) = omega arith in
    (entries_lead c.args.level (c.args.level - 1) c.args.ctx.now c.args.page c.in_ok-bytes.bytes.now c.in_ok-bytes.head down c.in_ok-bytes.ensures.ok c.in_default-child_at.ensures N shows tree, tt)

pub returns-clause-broken : goal.returns-clause-broken
returns-clause-broken t c =
    let down : c.args.level ≡ suc (c.args.level - 1) = omega arith in
    breaks_step c.args.level (c.args.level - 1) (page_of c.args.ctx.now) c.args.page c.in_ok-bytes.bytes.now c.in_ok-bytes.head (c.count_upto-i.result + 1) c.in-Some-child_at.child _ down c.in_ok-bytes.ensures.ok c.in-Some-child_at.ensures c.next_below-2.ensures.broken

pub returns-clause-leads : goal.returns-clause-leads
returns-clause-leads t c = λ N shows tree.
    let down : c.args.level ≡ suc (c.args.level - 1) = omega arith in
    let after = option_map (λ key. key.now) c.args.after in
    let at = c.in-Some.ensures ∙ ap (nth_child c.in_ok-bytes.head.a (node_in c.in_ok-bytes.bytes.now).entries) c.count_upto-i.ensures.passed in
    let more : c.count_upto-i.result + 1 ≡ suc (passed after (node_in c.in_ok-bytes.bytes.now).entries) = omega (arith, c.count_upto-i.ensures.passed) in
    let all = page_length c.in_ok-bytes.bytes.now c.in_ok-bytes.head c.in_ok-bytes.ensures.ok.head_is in
    let less : passed after (node_in c.in_ok-bytes.bytes.now).entries < length (node_in c.in_ok-bytes.bytes.now).entries =
    omega (arith, all, page_count c.in_ok-bytes.bytes.now, c.count_upto-i.ensures.passed, c.count_upto-i.ensures.within, c.if-i-head.false) in
    let at_next = c.in-Some-child_at.ensures ∙ ap (nth_child c.in_ok-bytes.head.a (node_in c.in_ok-bytes.bytes.now).entries) more in
    next_goes_on c.args.level (c.args.level - 1) c.args.ctx.now c.args.page after c.in_ok-bytes.bytes.now c.in_ok-bytes.head c.in-Some.child c.in-Some-child_at.child c.in_ok-found.found _ down c.in_ok-bytes.ensures.ok
    at (sym c.if-is_some.ensures) less at_next N shows tree (λ below. c.in_ok-found.ensures.leads N shows below) (λ below. c.next_below-2.ensures.leads N shows below)

pub returns-then-level-eq0-clause-stands : goal.returns-then-level-eq0-clause-stands
returns-then-level-eq0-clause-stands t c =
    let after = option_map (λ key. key.now) c.args.after in
    stands_leaf c.args.level (page_of c.args.ctx.now) c.args.page c.in_ok-bytes.bytes.now c.in_ok-bytes.head (first (is_behind after) (node_in c.in_ok-bytes.bytes.now).entries) c.in_ok-leaf_next.field-0 c.if-level-eq0.true c.in_ok-bytes.ensures.ok
    (first_place (is_behind after) (node_in c.in_ok-bytes.bytes.now).entries) c.in_ok-leaf_next.ensures

pub returns-then-is_some-clause-stands : goal.returns-then-is_some-clause-stands
returns-then-is_some-clause-stands t c =
    let down : c.args.level ≡ suc (c.args.level - 1) = omega arith in
    stands_step c.args.level (c.args.level - 1) (page_of c.args.ctx.now) c.args.page c.in_ok-bytes.bytes.now c.in_ok-bytes.head c.count_upto-i.result c.in-Some.child (Ready c.in_ok-found.found) down c.in_ok-bytes.ensures.ok c.in-Some.ensures
    c.in_ok-found.ensures.stands

pub returns-clause-stands : goal.returns-clause-stands
returns-clause-stands t c =
    let down : c.args.level ≡ suc (c.args.level - 1) = omega arith in
    stands_step c.args.level (c.args.level - 1) (page_of c.args.ctx.now) c.args.page c.in_ok-bytes.bytes.now c.in_ok-bytes.head (c.count_upto-i.result + 1) c.in-Some-child_at.child _ down c.in_ok-bytes.ensures.ok c.in-Some-child_at.ensures
    c.next_below-2.ensures.stands
