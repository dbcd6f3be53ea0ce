-- Columns that aren't there.
use Rattle.std.specs.Prelude.{Option, option_map}
use Rattle.sb_relation.specs.Db.{Name}
use Rattle.sb_relation.specs.Fits.{Places, first_unnamed}

-- the name of the first of these columns that isn't there
abbrev pub unnamed_in : Places → Option Name
unnamed_in places = option_map (λ p. p.1) (first_unnamed places)
