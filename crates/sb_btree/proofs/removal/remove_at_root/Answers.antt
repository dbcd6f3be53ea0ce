use Rattle.std.proofs.Common.{◌≡◌, ◌-◌, ◌*◌, length, ◌∙◌, Bool, Some, suc, sym, ap, arith, subst}
use Rattle.std.specs.Prelude.{Ok}
use Rattle.std.proofs.lemmas.Result.{err_from_is_err_and}
use Rattle.sb_ctx.specs.View.{edits_of, page_of, stored}
use Rattle.sb_node.proofs.Runs.{form_size}
use Rattle.sb_node.proofs.Edited.{node_of-form}
use Rattle.sb_btree.specs.Broken.{held_node}
use Rattle.sb_btree.specs.Inserts.{OverPlaces}
use Rattle.sb_btree.specs.Removes.{TakesAt, LeavesPage}
use Rattle.sb_btree.specs.declared.removal.Taken.{Taken}
use Rattle.sb_btree.specs.declared.removal.Taken.TheVariants.{Single, Split}
use Rattle.sb_btree.proofs.Tops.{edit_given, room_held}
use Rattle.sb_btree.proofs.Edits.{edited}
use Rattle.sb_btree.proofs.Giving.{has_room, like_node, node_some}
use Rattle.sb_btree.proofs.Lowered.{removal_root_way, stop_removes, lacks_removes, done_removes, empty_removes, single_removes, single_way, content_removes, split_removes, content_asks}
use Rattle.sb_forms.specs.TreePages.{tree_met}
use Rattle.sb_btree.specs.Spending.{TakesWithin}
use Rattle.sb_btree.proofs.Sparing.{content_within, removal_asks, removal_grows}
use Rattle.sb_btree.proofs.Written.{edits-whole}
use Rattle.sb_btree.proofs.removal.remove_at_root.Goals as goal

pub returns-in_err-remove_below-clause-removes : goal.returns-in_err-remove_below-clause-removes
returns-in_err-remove_below-clause-removes c =
    let p = err_from_is_err_and c.from_residual.result c.from_residual.ensures.1 in
    rw (p.1, p.2) (stop_removes c.args.ctx.now c.args.root c.args.level c.args.key.now c.requires.root c.remove_below.new.ctx c.in_err-remove_below.field-0.0 c.in_err-remove_below.ensures.takes)

pub returns-in_err-remove_below-clause-way : goal.returns-in_err-remove_below-clause-way
returns-in_err-remove_below-clause-way c =
    let p = err_from_is_err_and c.from_residual.result c.from_residual.ensures.1 in
    rw (p.1, p.2) (removal_root_way Taken Bool c.args.ctx.now c.args.root c.args.level c.args.key.now c.in_err-remove_below.field-0.0 c.requires.root c.in_err-remove_below.ensures.way)

pub returns-in-Lacks-clause-removes : goal.returns-in-Lacks-clause-removes
returns-in-Lacks-clause-removes c = lacks_removes c.args.ctx.now c.args.root c.args.level c.args.key.now c.requires.root c.remove_below.new.ctx (λ P low high place. subst (λ taken. TakesAt c.args.ctx.now c.remove_below.new.ctx c.args.level c.args.root c.args.key.now P low high (Ok taken)) c.in-Lacks.is (c.in_ok-remove_below.ensures.takes P low high place))

pub returns-in-Done-clause-removes : goal.returns-in-Done-clause-removes
returns-in-Done-clause-removes c = done_removes c.args.ctx.now c.args.root c.args.level c.args.key.now c.requires.root c.remove_below.new.ctx (λ P low high place. subst (λ taken. TakesAt c.args.ctx.now c.remove_below.new.ctx c.args.level c.args.root c.args.key.now P low high (Ok taken)) c.in-Done.is (c.in_ok-remove_below.ensures.takes P low high place))

-- ---- the root is an empty leaf
pub edit-requires-clause-room : goal.edit-requires-clause-room
edit-requires-clause-room c =
    let left = subst (λ taken. LeavesPage c.remove_below.new.ctx c.args.level c.args.root taken) c.in-Empty.is c.in_ok-remove_below.ensures.leaves in
    let room = has_room c.remove_below.new.ctx c.args.root (like_node c.args.level (held_node (page_of c.remove_below.new.ctx c.args.root)) left) in
    omega (arith, room, form_size c.clear.new.page c.clear.ensures.form)

pub returns-in_ok-edit-in-Empty-clause-given : goal.returns-in_ok-edit-in-Empty-clause-given
returns-in_ok-edit-in-Empty-clause-given c =
    let left = subst (λ taken. LeavesPage c.remove_below.new.ctx c.args.level c.args.root taken) c.in-Empty.is c.in_ok-remove_below.ensures.leaves in
    let room = has_room c.remove_below.new.ctx c.args.root (like_node c.args.level (held_node (page_of c.remove_below.new.ctx c.args.root)) left) in
    edit_given c.remove_below.new.ctx c.edit.new.self c.args.root c.clear.new.page room (form_size c.clear.new.page c.clear.ensures.form) c.in_ok-edit-in-Empty.ensures.ok ∙ c.in_ok-remove_below.ensures.given

pub returns-in_ok-edit-in-Empty-clause-removes : goal.returns-in_ok-edit-in-Empty-clause-removes
returns-in_ok-edit-in-Empty-clause-removes c =
    let left = subst (λ taken. LeavesPage c.remove_below.new.ctx c.args.level c.args.root taken) c.in-Empty.is c.in_ok-remove_below.ensures.leaves in
    let room = has_room c.remove_below.new.ctx c.args.root (like_node c.args.level (held_node (page_of c.remove_below.new.ctx c.args.root)) left) in
    empty_removes c.args.ctx.now c.args.root c.args.level c.args.key.now c.requires.root c.remove_below.new.ctx c.edit.new.self (room_held c.remove_below.new.ctx c.args.root room) (λ P low high place. subst (λ taken. TakesAt c.args.ctx.now c.remove_below.new.ctx c.args.level c.args.root c.args.key.now P low high (Ok taken)) c.in-Empty.is (c.in_ok-remove_below.ensures.takes P low high place))
    (record {
      bytes = c.clear.new.page;
      changed = edited c.remove_below.new.ctx c.edit.new.self c.args.root c.clear.new.page room (form_size c.clear.new.page c.clear.ensures.form) c.in_ok-edit-in-Empty.ensures.ok;
      node_is = node_of-form c.clear.new.page c.clear.ensures.form ∙ ap Some c.clear.ensures.node_is;
    })

-- ---- it has one child left
pub take_content-requires : goal.take_content-requires
take_content-requires c =
    let left = subst (λ taken. LeavesPage c.remove_below.new.ctx c.args.level c.args.root taken) c.in-Single.is c.in_ok-remove_below.ensures.leaves in
    has_room c.remove_below.new.ctx c.args.root (node_some (held_node (page_of c.remove_below.new.ctx c.args.root)) left.1 left.2)

pub returns-in_err-take_content-in-Single-clause-asks : goal.returns-in_err-take_content-in-Single-clause-asks
returns-in_err-take_content-in-Single-clause-asks c =
    let p = err_from_is_err_and c.from_residual-in_err-take_content-in-Single.result c.from_residual-in_err-take_content-in-Single.ensures.1 in
    rw (p.1, p.2) (content_asks Bool c.remove_below.new.ctx c.take_content.new.ctx c.args.root c.in-Single.child (c.args.level - 1) c.in_err-take_content-in-Single.field-0.0 c.take_content.ensures.given c.in_err-take_content-in-Single.ensures.takes)

pub returns-in_err-take_content-in-Single-clause-way : goal.returns-in_err-take_content-in-Single-clause-way
returns-in_err-take_content-in-Single-clause-way c =
    let p = err_from_is_err_and c.from_residual-in_err-take_content-in-Single.result c.from_residual-in_err-take_content-in-Single.ensures.1 in
    let left = subst (λ taken. LeavesPage c.remove_below.new.ctx c.args.level c.args.root taken) c.in-Single.is c.in_ok-remove_below.ensures.leaves in
    let down : c.args.level ≡ suc (c.args.level - 1) = omega (arith, left.0) in
    let takes : OverPlaces c.args.ctx.now c.args.level c.args.root c.args.key.now (λ P low high. TakesAt c.args.ctx.now c.remove_below.new.ctx c.args.level c.args.root c.args.key.now P low high (Ok (Single c.in-Single.child))) =
    (λ P low high place. subst (λ taken. TakesAt c.args.ctx.now c.remove_below.new.ctx c.args.level c.args.root c.args.key.now P low high (Ok taken)) c.in-Single.is (c.in_ok-remove_below.ensures.takes P low high place)) in
    rw (p.1, p.2) (single_way c.args.ctx.now c.args.root c.args.level c.args.key.now c.requires.root (c.args.level - 1) down c.remove_below.new.ctx c.in-Single.child takes Bool c.take_content.new.ctx c.in_err-take_content-in-Single.field-0.0 c.in_err-take_content-in-Single.ensures.takes)

pub returns-in_err-take_content-in-Single-clause-removes : goal.returns-in_err-take_content-in-Single-clause-removes
returns-in_err-take_content-in-Single-clause-removes c =
    let p = err_from_is_err_and c.from_residual-in_err-take_content-in-Single.result c.from_residual-in_err-take_content-in-Single.ensures.1 in
    let left = subst (λ taken. LeavesPage c.remove_below.new.ctx c.args.level c.args.root taken) c.in-Single.is c.in_ok-remove_below.ensures.leaves in
    let down : c.args.level ≡ suc (c.args.level - 1) = omega (arith, left.0) in
    let takes : OverPlaces c.args.ctx.now c.args.level c.args.root c.args.key.now (λ P low high. TakesAt c.args.ctx.now c.remove_below.new.ctx c.args.level c.args.root c.args.key.now P low high (Ok (Single c.in-Single.child))) =
    (λ P low high place. subst (λ taken. TakesAt c.args.ctx.now c.remove_below.new.ctx c.args.level c.args.root c.args.key.now P low high (Ok taken)) c.in-Single.is (c.in_ok-remove_below.ensures.takes P low high place)) in
    let room = has_room c.remove_below.new.ctx c.args.root (node_some (held_node (page_of c.remove_below.new.ctx c.args.root)) left.1 left.2) in
    rw (p.1, p.2) (content_removes c.args.ctx.now c.args.root c.args.level c.args.key.now c.requires.root (c.args.level - 1) down c.remove_below.new.ctx c.in-Single.child takes c.take_content.new.ctx c.in_err-take_content-in-Single.field-0.0
    (room_held c.remove_below.new.ctx c.args.root room) c.in_err-take_content-in-Single.ensures.takes)

pub returns-in_ok-take_content-in-Single-clause-removes : goal.returns-in_ok-take_content-in-Single-clause-removes
returns-in_ok-take_content-in-Single-clause-removes c =
    let left = subst (λ taken. LeavesPage c.remove_below.new.ctx c.args.level c.args.root taken) c.in-Single.is c.in_ok-remove_below.ensures.leaves in
    let down : c.args.level ≡ suc (c.args.level - 1) = omega (arith, left.0) in
    let takes : OverPlaces c.args.ctx.now c.args.level c.args.root c.args.key.now (λ P low high. TakesAt c.args.ctx.now c.remove_below.new.ctx c.args.level c.args.root c.args.key.now P low high (Ok (Single c.in-Single.child))) =
    (λ P low high place. subst (λ taken. TakesAt c.args.ctx.now c.remove_below.new.ctx c.args.level c.args.root c.args.key.now P low high (Ok taken)) c.in-Single.is (c.in_ok-remove_below.ensures.takes P low high place)) in
    let room = has_room c.remove_below.new.ctx c.args.root (node_some (held_node (page_of c.remove_below.new.ctx c.args.root)) left.1 left.2) in
    single_removes c.args.ctx.now c.args.root c.args.level c.args.key.now c.requires.root (c.args.level - 1) down c.remove_below.new.ctx c.in-Single.child takes c.take_content.new.ctx (room_held c.remove_below.new.ctx c.args.root room) c.in_ok-take_content-in-Single.ensures.takes

-- ---- it was split
pub returns-in_ok-grow-in-Split-clause-removes : goal.returns-in_ok-grow-in-Split-clause-removes
returns-in_ok-grow-in-Split-clause-removes c =
    let takes : OverPlaces c.args.ctx.now c.args.level c.args.root c.args.key.now (λ P low high. TakesAt c.args.ctx.now c.remove_below.new.ctx c.args.level c.args.root c.args.key.now P low high (Ok (Split c.as_slice.result.now c.in-Split.next))) =
    (λ P low high place. subst (λ b. TakesAt c.args.ctx.now c.remove_below.new.ctx c.args.level c.args.root c.args.key.now P low high (Ok (Split b c.in-Split.next))) (sym c.as_slice.ensures)
    (subst (λ taken. TakesAt c.args.ctx.now c.remove_below.new.ctx c.args.level c.args.root c.args.key.now P low high (Ok taken)) c.in-Split.is (c.in_ok-remove_below.ensures.takes P low high place))) in
    split_removes c.args.ctx.now c.args.root c.args.level c.args.key.now c.requires.root c.remove_below.new.ctx c.grow.new.ctx c.as_slice.result.now c.in-Split.next c.in_ok-remove_below.ensures.given takes c.in_ok-grow-in-Split.ensures.grows.0 c.in_ok-grow-in-Split.ensures.grows.1

-- ---- what it takes
pub returns-in_err-remove_below-clause-edits : goal.returns-in_err-remove_below-clause-edits
returns-in_err-remove_below-clause-edits c = omega (arith, c.in_err-remove_below.ensures.edits)

pub returns-in_err-remove_below-clause-room : goal.returns-in_err-remove_below-clause-room
returns-in_err-remove_below-clause-room c =
    let p = err_from_is_err_and c.from_residual.result c.from_residual.ensures.1 in
    rw (p.1, p.2) (removal_asks c.args.ctx.now c.args.root c.args.level c.requires.root Bool c.remove_below.new.ctx c.in_err-remove_below.field-0.0 c.in_err-remove_below.ensures.room)

pub returns-in_ok-edit-in-Empty-clause-edits : goal.returns-in_ok-edit-in-Empty-clause-edits
returns-in_ok-edit-in-Empty-clause-edits c =
    let left = subst (λ taken. LeavesPage c.remove_below.new.ctx c.args.level c.args.root taken) c.in-Empty.is c.in_ok-remove_below.ensures.leaves in
    let room = has_room c.remove_below.new.ctx c.args.root (like_node c.args.level (held_node (page_of c.remove_below.new.ctx c.args.root)) left) in
    let long = form_size c.clear.new.page c.clear.ensures.form in
    omega (
      arith,
      c.in_ok-remove_below.ensures.edits,
      ap edits_of (edited c.remove_below.new.ctx c.edit.new.self c.args.root c.clear.new.page room long c.in_ok-edit-in-Empty.ensures.ok),
      edits-whole c.remove_below.new.ctx c.args.root c.clear.new.page room long,
    )

pub returns-in_err-take_content-in-Single-clause-edits : goal.returns-in_err-take_content-in-Single-clause-edits
returns-in_err-take_content-in-Single-clause-edits c = omega (arith, c.in_ok-remove_below.ensures.edits, c.in_err-take_content-in-Single.ensures.edits)

pub returns-in_err-take_content-in-Single-clause-room : goal.returns-in_err-take_content-in-Single-clause-room
returns-in_err-take_content-in-Single-clause-room c =
    let p = err_from_is_err_and c.from_residual-in_err-take_content-in-Single.result c.from_residual-in_err-take_content-in-Single.ensures.1 in
    rw (p.1, p.2) (λ P es read. content_within Bool c.args.ctx.now c.remove_below.new.ctx c.take_content.new.ctx c.args.root c.in-Single.child (c.args.level - 1) (2 * length es) (length (tree_met c.args.root (stored c.args.ctx.now P))) c.in_err-take_content-in-Single.field-0.0 c.in_err-take_content-in-Single.ensures.takes)

pub returns-in_err-grow-in-Split-clause-room : goal.returns-in_err-grow-in-Split-clause-room
returns-in_err-grow-in-Split-clause-room c =
    let p = err_from_is_err_and c.from_residual-in_err-grow-in-Split.result c.from_residual-in_err-grow-in-Split.ensures.1 in
    rw (p.1, p.2)
    (removal_grows c.args.ctx.now c.args.root c.args.level c.requires.root Bool c.remove_below.new.ctx c.grow.new.ctx c.in-Split.bound c.in-Split.next c.in_err-grow-in-Split.field-0.0
    (λ N shows tree. subst (λ taken. TakesWithin c.args.level N c.args.root c.args.ctx.now c.remove_below.new.ctx (Ok taken)) c.in-Split.is (c.in_ok-remove_below.ensures.room N shows tree)) c.in_err-grow-in-Split.ensures.takes)
