use Rattle.std.proofs.Common.{IsSome, [], ◌∷◌, ap, ◌∙◌, rules}
use Rattle.sb_forms.specs.Pages.{zeros}
use Rattle.sb_bytes.specs.Bytes.{splice}
use Rattle.sb_ctx.specs.View.{page_of, dropped}
use Rattle.sb_ctx.proofs.ViewLaws.{dropped-with_page, given-edit}
use Rattle.sb_space_tests.proofs.scribe.take.Goals as goal

pub returns-in-None-clause-given : goal.returns-in-None-clause-given
returns-in-None-clause-given c = ap dropped c.in-Some.ensures.taken ∙ dropped-with_page c.args.ctx.now c.in-Some.n zeros ∙ c.requires.unchanged

pub returns-in-Ok-clause-given : goal.returns-in-Ok-clause-given
returns-in-Ok-clause-given c =
    let held : IsSome (page_of c.fresh.new.self c.in-Some.n) = search rules in
    given-edit c.fresh.new.self c.edit.new.self c.in-Some.n (splice 0 (c.args.byte ∷ [])) held c.in-Ok.ensures.ok ∙ ap dropped c.in-Some.ensures.taken
    ∙ dropped-with_page c.args.ctx.now c.in-Some.n zeros ∙ c.requires.unchanged

pub returns-in-Err-clause-given : goal.returns-in-Err-clause-given
returns-in-Err-clause-given c =
    ap dropped c.in-Err.ensures.err ∙ ap dropped c.in-Some.ensures.taken ∙ dropped-with_page c.args.ctx.now c.in-Some.n zeros ∙ c.requires.unchanged
