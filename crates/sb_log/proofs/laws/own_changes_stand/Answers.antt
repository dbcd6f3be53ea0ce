use Rattle.sb_log.proofs.StandingLemmas.{own_changes-standing}
use Rattle.sb_log.proofs.laws.own_changes_stand.Goals as goal

pub returns : goal.returns
returns c = own_changes-standing
