use Rattle.sb_lawful_rows.proofs.Changing.{finish-ends}
use Rattle.sb_lawful_rows.proofs.laws.what_waits_is_lawful.Goals as goal

pub returns : goal.returns
returns c = finish-ends
