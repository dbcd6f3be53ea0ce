use Rattle.sb_language.specs.Words.{is_keyword}
use Rattle.sb_phrases.proofs.words.is_keyword.Goals as goal

pub returns : goal.returns
unfolding is_keyword
returns c = c.contains.ensures.value
