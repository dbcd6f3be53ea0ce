use Rattle.std.proofs.Common.{sym, ◌∙◌}
use Rattle.sb_node.proofs.Runs.{is_formed}
use Rattle.sb_node.proofs.head.form.Goals as goal

pub read_head-requires : goal.read_head-requires
read_head-requires c = (is_formed c.args.page.now (sym c.has_form_of.ensures ∙ c.if-has_form_of.true)).size
