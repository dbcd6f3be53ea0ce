use Rattle.sb_standing.proofs.DetachLemmas.{Keeps-detached}
use Rattle.sb_standing.proofs.RuleLemmas.{Keeps-attached, IsKept-attached, db_of-attached, with_rule-alone}
use Rattle.sb_standing.proofs.laws.rules_come_and_go.Goals as goal

pub returns : goal.returns
returns c = record { attached = Keeps-attached; kept = IsKept-attached; attached_db = db_of-attached; alone = with_rule-alone; detached = Keeps-detached }
