use Rattle.std.proofs.Common.{ap, ◌∙◌}
use Rattle.sb_forms.specs.Pages.{zeros}
use Rattle.sb_ctx.specs.View.{dropped}
use Rattle.sb_ctx.proofs.ViewLaws.{dropped-with_page}
use Rattle.sb_drive_tests.proofs.drive.take.Goals as goal

pub returns-in-Some-clause-given : goal.returns-in-Some-clause-given
returns-in-Some-clause-given c = ap dropped c.in-Some.ensures.taken ∙ dropped-with_page c.args.ctx.now c.in-Some.field-0 zeros ∙ c.requires.unchanged
