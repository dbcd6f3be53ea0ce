use Rattle.sb_showing.proofs.PrintingLemmas.{command-utf8}
use Rattle.sb_showing.proofs.laws.storable_texts_are_utf8.Goals as goal

pub returns : goal.returns
returns c = command-utf8
