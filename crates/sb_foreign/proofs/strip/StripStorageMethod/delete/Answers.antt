use Rattle.sb_ctx.proofs.BoundLaws.{Changes-memory}
use Rattle.sb_foreign.specs.Strips.{strip}
use Rattle.sb_foreign.proofs.StripLaws.{boundless_strip}
use Rattle.sb_foreign.proofs.strip.StripStorageMethod.delete.Goals as goal

pub returns : goal.returns
returns c = Changes-memory strip _ _ _ boundless_strip c.requires.clean.unchanged
