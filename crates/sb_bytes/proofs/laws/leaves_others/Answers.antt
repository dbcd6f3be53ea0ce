use Rattle.sb_bytes.proofs.FieldLaws.{leaves_others}
use Rattle.sb_bytes.proofs.laws.leaves_others.Goals as goal

pub returns : goal.returns
returns c = leaves_others
