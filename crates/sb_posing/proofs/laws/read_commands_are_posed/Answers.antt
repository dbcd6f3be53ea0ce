use Rattle.sb_posing.proofs.PosedLemmas.{read-posed}
use Rattle.sb_posing.proofs.laws.read_commands_are_posed.Goals as goal

pub returns : goal.returns
returns c = read-posed
