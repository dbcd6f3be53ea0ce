use Rattle.sb_standing.proofs.CatalogueLemmas.{IsEntry-found, HasNoEntry-missing, IsFirstEntry-found, IsFirst-none}
use Rattle.sb_standing.proofs.laws.entries_tell_relations.Goals as goal

pub returns : goal.returns
returns c = record { entry = IsEntry-found; missing = HasNoEntry-missing; first = IsFirstEntry-found; last = IsFirst-none }
