use Rattle.sb_standing.proofs.FrameLemmas.{Keeps-over}
use Rattle.sb_standing.proofs.PutLemmas.{db_of-put, db_of-without}
use Rattle.sb_standing.proofs.RelationLemmas.{Keeps-created, Keeps-dropped, Keeps-freed, Keeps-new}
use Rattle.sb_standing.proofs.laws.relations_come_and_go.Goals as goal

pub returns : goal.returns
returns c = record { new = Keeps-new; created = Keeps-created; created_db = db_of-put; dropped = Keeps-dropped; dropped_db = db_of-without; freed = Keeps-freed; stays = Keeps-over }
