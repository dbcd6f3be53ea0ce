use Rattle.sb_lawful_plays.proofs.Playing.{answers-written}
use Rattle.sb_lawful_plays.proofs.laws.answers_are_written.Goals as goal

pub returns : goal.returns
returns c = answers-written
