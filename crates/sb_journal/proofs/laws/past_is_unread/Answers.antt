use Rattle.sb_journal.proofs.OneReading.{past_is_unread}
use Rattle.sb_journal.proofs.laws.past_is_unread.Goals as goal

pub returns : goal.returns
returns c = past_is_unread
