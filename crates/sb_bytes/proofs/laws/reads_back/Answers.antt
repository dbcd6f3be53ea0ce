use Rattle.sb_bytes.proofs.FieldLaws.{reads_back}
use Rattle.sb_bytes.proofs.laws.reads_back.Goals as goal

pub returns : goal.returns
returns c = reads_back
