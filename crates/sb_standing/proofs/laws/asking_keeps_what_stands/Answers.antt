use Rattle.sb_standing.proofs.AskedLaws as laws
use Rattle.sb_standing.proofs.AskedLemmas.{Asks-length, Keeps-asked, Keeps-same, Asks-same}
use Rattle.sb_standing.proofs.KeptChangedLemmas.{db_of-changed}
use Rattle.sb_standing.proofs.laws.asking_keeps_what_stands.Goals as goal

pub returns : goal.returns
returns c = record {
  put = laws.Asks-put;
  as_many = Asks-length;
  next = laws.CanAsk-next;
  asked = laws.Asks-more;
  all_asked = Keeps-asked;
  database = db_of-changed;
  same = Keeps-same;
  same_asked = Asks-same;
}
