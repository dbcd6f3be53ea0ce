use Rattle.std.proofs.Common.{◌≡◌, ◌∙◌, [], sym, ap, arith, subst, length, true}
use Rattle.sb_ctx.proofs.ViewLaws.{dropped-with_page}
use Rattle.sb_ctx.specs.View.{dropped, edits_of, page_of, with_page}
use Rattle.sb_node.specs.Page.{has_form, node_in}
use Rattle.sb_node.proofs.Edited.{node_of-form}
use Rattle.sb_node.proofs.Runs.{form_size}
use Rattle.sb_btree.specs.Broken.{held_node}
use Rattle.sb_btree.proofs.Edits.{edited}
use Rattle.sb_btree.proofs.Tops.{edit_given}
use Rattle.sb_btree.proofs.Walked.{held_is}
use Rattle.sb_btree.proofs.Giving.{HasNode, has_room, has_with, node_some}
use Rattle.sb_btree.proofs.Weights.{edits-freed}
use Rattle.sb_btree.proofs.Written.{edits-whole}
use Rattle.sb_btree.proofs.removal.take_content.Goals as goal

pub edit-requires-clause-room : goal.edit-requires-clause-room
edit-requires-clause-room c =
    let same : c.deref.result.now ≡ c.in_ok-bytes.bytes.now = c.deref.ensures.value ∙ c.in_ok-content.ensures in
    omega (arith, ap length same, form_size c.in_ok-bytes.bytes.now c.in_ok-bytes.ensures.ok.form, c.requires)

pub free-requires : goal.free-requires
free-requires c =
    let same : c.deref.result.now ≡ c.in_ok-bytes.bytes.now = c.deref.ensures.value ∙ c.in_ok-content.ensures in
    let size = ap length same ∙ form_size c.in_ok-bytes.bytes.now c.in_ok-bytes.ensures.ok.form in
    let now = edited c.args.ctx.now c.edit.new.self c.args.root c.deref.result.now c.requires size c.in_ok-edit.ensures.ok in
    let has = has_with c.args.ctx.now c.args.root c.deref.result.now (node_in c.deref.result.now) (node_of-form c.deref.result.now (subst (λ b. has_form b ≡ true) (sym same) c.in_ok-bytes.ensures.ok.form)) c.args.only
    (node_some (held_node (page_of c.args.ctx.now c.args.only)) (node_in c.in_ok-bytes.bytes.now) (held_is c.args.ctx.now c.args.level c.args.only c.in_ok-bytes.bytes.now c.in_ok-bytes.field-0-1 c.in_ok-bytes.ensures.ok)) in
    let room = has_room c.edit.new.self c.args.only (subst (λ v. HasNode v c.args.only) (sym now) has) in
    (λ none. omega (arith, room, none))

pub returns-in_err-free-clause-given : goal.returns-in_err-free-clause-given
returns-in_err-free-clause-given c =
    let same : c.deref.result.now ≡ c.in_ok-bytes.bytes.now = c.deref.ensures.value ∙ c.in_ok-content.ensures in
    let size = ap length same ∙ form_size c.in_ok-bytes.bytes.now c.in_ok-bytes.ensures.ok.form in
    ap dropped c.in_err-free.ensures.err ∙ edit_given c.args.ctx.now c.edit.new.self c.args.root c.deref.result.now c.requires size c.in_ok-edit.ensures.ok

pub returns-clause-given : goal.returns-clause-given
returns-clause-given c =
    let same : c.deref.result.now ≡ c.in_ok-bytes.bytes.now = c.deref.ensures.value ∙ c.in_ok-content.ensures in
    let size = ap length same ∙ form_size c.in_ok-bytes.bytes.now c.in_ok-bytes.ensures.ok.form in
    ap dropped c.in_ok-free.ensures.ok ∙ dropped-with_page c.edit.new.self c.args.only [] ∙ edit_given c.args.ctx.now c.edit.new.self c.args.root c.deref.result.now c.requires size c.in_ok-edit.ensures.ok

pub returns-clause-takes : goal.returns-clause-takes
returns-clause-takes c =
    let same : c.deref.result.now ≡ c.in_ok-bytes.bytes.now = c.deref.ensures.value ∙ c.in_ok-content.ensures in
    let size = ap length same ∙ form_size c.in_ok-bytes.bytes.now c.in_ok-bytes.ensures.ok.form in
    let now = edited c.args.ctx.now c.edit.new.self c.args.root c.deref.result.now c.requires size c.in_ok-edit.ensures.ok in
    record {
      content = c.in_ok-bytes.bytes.now;
      was = c.in_ok-bytes.ensures.ok.held_is;
      form = c.in_ok-bytes.ensures.ok.form;
      changed = c.in_ok-free.ensures.ok ∙ ap (with_page c.args.only []) (now ∙ ap (λ b. with_page c.args.root b c.args.ctx.now) same);
    }

pub returns-in_err-free-clause-edits : goal.returns-in_err-free-clause-edits
returns-in_err-free-clause-edits c =
    let same : c.deref.result.now ≡ c.in_ok-bytes.bytes.now = c.deref.ensures.value ∙ c.in_ok-content.ensures in
    let size = ap length same ∙ form_size c.in_ok-bytes.bytes.now c.in_ok-bytes.ensures.ok.form in
    let now = edited c.args.ctx.now c.edit.new.self c.args.root c.deref.result.now c.requires size c.in_ok-edit.ensures.ok in
    omega (arith, ap edits_of c.in_err-free.ensures.err, ap edits_of now, edits-whole c.args.ctx.now c.args.root c.deref.result.now c.requires size)

pub returns-clause-edits : goal.returns-clause-edits
returns-clause-edits c =
    let same : c.deref.result.now ≡ c.in_ok-bytes.bytes.now = c.deref.ensures.value ∙ c.in_ok-content.ensures in
    let size = ap length same ∙ form_size c.in_ok-bytes.bytes.now c.in_ok-bytes.ensures.ok.form in
    let now = edited c.args.ctx.now c.edit.new.self c.args.root c.deref.result.now c.requires size c.in_ok-edit.ensures.ok in
    omega (arith, ap edits_of c.in_ok-free.ensures.ok, edits-freed c.edit.new.self c.args.only, ap edits_of now, edits-whole c.args.ctx.now c.args.root c.deref.result.now c.requires size)
