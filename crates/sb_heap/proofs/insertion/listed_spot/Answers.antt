use Rattle.std.proofs.Common.{◌≡◌, ◌-◌, ℕ, List, None, length, rules, sym, ap, ◌∙◌, subst, arith}
use Rattle.std.specs.FinMap.Entries.{find}
use Rattle.std.specs.Vec.{with_items}
use Rattle.std.proofs.lemmas.List.{take_at}
use Rattle.sb_node.specs.Entries.{key_cmp}
use Rattle.sb_node.proofs.Runs.{form_size}
use Rattle.sb_heap.specs.Spots.{with_row_in}
use Rattle.std.proofs.lemmas.Result.{err_from_is_err_and}
use Rattle.sb_node.specs.Page.{has_form, node_in}
use Rattle.sb_heap.proofs.Spotting.{listed_lacks, listed_spot_is}
use Rattle.sb_heap.proofs.insertion.listed_spot.Goals as goal

pub returns-in_err-bytes-clause-stops : goal.returns-in_err-bytes-clause-stops
returns-in_err-bytes-clause-stops c =
    let p = err_from_is_err_and c.from_residual.result c.from_residual.ensures.1 in
    rw (p.1, p.2) (listed_lacks c.args.ctx.now c.args.root c.args.page c.in_err-bytes.field-0.0 c.requires.held c.requires.root.1 c.requires.some c.in_err-bytes.ensures.stops)

pub returns-clause-spot : goal.returns-clause-spot
returns-clause-spot c =
    let was = c.in_ok-bytes.bytes.now in
    let now = c.add_row-slot.new.page in
    let is = c.in_ok-bytes.ensures.ok in
    let same : c.deref_mut.result.now ≡ was = search rules in
    let form = c.add_row-slot.ensures.added.form in
    let long : length now ≡ c.in_ok-bytes-2.bytes.len = omega (arith, form_size now form, form_size was is.form, ap length same, c.deref_mut.ensures.len) in
    let read : c.deref.result.now ≡ now = c.deref.ensures.value ∙ take_at now _ c.in_ok-bytes-2.bytes.len long in
    let items : (with_items c.in_ok-bytes-2.bytes now).items ≡ now = take_at now _ c.in_ok-bytes-2.bytes.len long in
    listed_spot_is c.args.ctx.now c.args.root c.args.row.now was c.in_ok-bytes.head c.room.result
    (record { page = c.args.page; bytes = with_items c.in_ok-bytes-2.bytes now; slot = c.add_row-slot.result; turn = c.in_ok-turn.turn }) c.requires.held c.requires.some is c.if-head-ne1.false (ap has_form items ∙ form)
    (subst (λ (b : List ℕ). find key_cmp c.add_row-slot.result (node_in b).entries ≡ None) same c.add_row-slot.ensures.free)
    (ap node_in items ∙ c.add_row-slot.ensures.added.node_is ∙ ap (λ (b : List ℕ). with_row_in c.add_row-slot.result c.args.row.now (node_in b)) same) c.add_row-slot.ensures.long
    (c.room.ensures.left ∙ ap (λ (b : List ℕ). 4072 - (node_in b).head.used) (read ∙ sym items)) c.in_ok-turn.ensures.turn c.in_ok-turn.ensures.ready
