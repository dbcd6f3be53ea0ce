use Rattle.std.proofs.Common.{◌+◌, refl, ne_eqb, arith}
use Rattle.sb_ctx.proofs.BoundLaws.{Changes-memory_for}
use Rattle.sb_drive_tests.proofs.registry.PlainAttachment.prepare.Goals as goal

pub returns : goal.returns
returns c =
    Changes-memory_for _ _ _ _
    (record { bound = λ content. refl; cost = λ call before after. refl; path = λ inst P call n. refl; code = ne_eqb (1000 + c.args.self.now.number) 3 (λ e. omega (arith, e)) })
    c.requires.clean.unchanged
