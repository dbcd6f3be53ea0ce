use Rattle.std.proofs.Common.{ap, refl, ◌∙◌}
use Rattle.sb_node.specs.Page.{has_form, node_in}
use Rattle.sb_heap.proofs.Spotting.{fresh_spot_is, taken_edits, taken_given}
use Rattle.sb_heap.proofs.insertion.fresh_spot.Goals as goal

pub returns-in-Some-eq0-clause-given : goal.returns-in-Some-eq0-clause-given
returns-in-Some-eq0-clause-given c = taken_given c.args.ctx.now c.fresh.new.self c.in-Some-eq0.field-0 c.in-Some-eq0.ensures.taken

pub returns-in-Some-eq0-clause-edits : goal.returns-in-Some-eq0-clause-edits
returns-in-Some-eq0-clause-edits c = taken_edits c.args.ctx.now c.fresh.new.self c.in-Some-eq0.field-0 c.in-Some-eq0.ensures.sound c.in-Some-eq0.ensures.number c.in-Some-eq0.ensures.taken

pub returns-in-Some-clause-given : goal.returns-in-Some-clause-given
returns-in-Some-clause-given c = taken_given c.args.ctx.now c.fresh.new.self c.in-Some.page c.in-Some.ensures.taken

pub returns-in-Some-clause-edits : goal.returns-in-Some-clause-edits
returns-in-Some-clause-edits c = taken_edits c.args.ctx.now c.fresh.new.self c.in-Some.page c.in-Some.ensures.sound c.in-Some.ensures.number c.in-Some.ensures.taken

pub returns-in-Some-clause-spot : goal.returns-in-Some-clause-spot
returns-in-Some-clause-spot c =
    fresh_spot_is c.args.ctx.now c.fresh.new.self c.args.root c.args.row.now _ c.requires.held c.in-Some.page-test.1 c.in-Some.ensures.sound c.in-Some.ensures.number c.in-Some.ensures.taken
    (ap has_form c.in_ok-bytes.ensures ∙ c.start_page.ensures.form) (ap node_in c.in_ok-bytes.ensures ∙ c.start_page.ensures.node) c.slot_bytes.ensures refl
