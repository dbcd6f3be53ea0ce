use Rattle.sb_bytes.proofs.FieldLaws.{writes_back}
use Rattle.sb_bytes.proofs.laws.writes_back.Goals as goal

pub returns : goal.returns
returns c = writes_back
