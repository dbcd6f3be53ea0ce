use Rattle.sb_sound_rows.proofs.Folding.{changes-end, actions-end}
use Rattle.sb_sound_rows.proofs.laws.what_follows_is_sound.Goals as goal

pub returns-clause-changes : goal.returns-clause-changes
returns-clause-changes c = changes-end

pub returns-clause-actions : goal.returns-clause-actions
returns-clause-actions c = actions-end
