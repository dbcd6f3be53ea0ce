use Rattle.sb_weights.proofs.Meant.{lasting-are-meant}
use Rattle.sb_weights.proofs.laws.lasting_are_meant.Goals as goal

pub returns : goal.returns
returns c = record { meant = lasting-are-meant }
