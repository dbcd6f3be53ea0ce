use Rattle.sb_plain.proofs.ChangeLemmas.{changes-lawful}
use Rattle.sb_plain.proofs.SoundChangeLemmas.{changes-sound}
use Rattle.sb_plain.proofs.laws.changes_keep_lawful.Goals as goal

pub returns-clause-lawful : goal.returns-clause-lawful
returns-clause-lawful c = changes-lawful

pub returns-clause-sound : goal.returns-clause-sound
returns-clause-sound c = changes-sound
