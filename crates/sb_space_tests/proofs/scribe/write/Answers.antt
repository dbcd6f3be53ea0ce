use Rattle.std.proofs.Common.{IsSome, [], ◌∷◌, ◌∙◌, rules}
use Rattle.sb_bytes.specs.Bytes.{splice}
use Rattle.sb_ctx.specs.View.{page_of}
use Rattle.sb_ctx.proofs.ViewLaws.{given-edit}
use Rattle.sb_space_tests.proofs.scribe.write.Goals as goal

pub returns-in-Ok-clause-given : goal.returns-in-Ok-clause-given
returns-in-Ok-clause-given c =
    let held : IsSome (page_of c.args.ctx.now c.args.n) = search rules in
    given-edit c.args.ctx.now c.edit.new.self c.args.n (splice 0 (c.args.byte ∷ [])) held c.in-Ok.ensures.ok ∙ c.requires.unchanged
