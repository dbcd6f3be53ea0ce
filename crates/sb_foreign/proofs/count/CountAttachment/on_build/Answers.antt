use Rattle.sb_foreign.proofs.CountLaws.{Changes-built}
use Rattle.sb_foreign.proofs.count.CountAttachment.on_build.Goals as goal

pub returns : goal.returns
returns c = Changes-built _ _ _ _ _ _ c.requires.clean.unchanged c.recount.ensures
