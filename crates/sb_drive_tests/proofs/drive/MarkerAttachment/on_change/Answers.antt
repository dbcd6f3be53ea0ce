use Rattle.std.proofs.Common.{refl}
use Rattle.sb_drive_tests.proofs.drive.MarkerAttachment.on_change.Goals as goal
use Rattle.sb_drive_tests.proofs.Boxes.{Changes-made_for}

pub returns : goal.returns
returns c =
    Changes-made_for _ _ _ _ _ _ (λ P. refl) (λ inst held n. refl) (record { bound = λ content. refl; cost = λ call before after. refl; path = λ inst P call n. refl; code = refl })
    c.write.ensures.given c.write.ensures.asks c.write.ensures.made
