-- Which relations outlive the run.
use Rattle.std.specs.Prelude.{Bool, true, not, cond, Option, Some, None}
use Rattle.sb_relation.specs.Db.{Relation}
use Rattle.sb_fold.specs.Extensions.{Extensions, is_durable_method}

-- a relation outlives the run, or isn't there
abbrev pub outlives : Extensions → Option Relation → Bool
outlives ext r = elim r [ None ↦ true | Some r ↦ is_durable_method ext r.method ]

-- one does, and the other doesn't
abbrev pub differ : Extensions → Option Relation → Option Relation → Bool
differ ext a b = cond (outlives ext a) (not (outlives ext b)) (outlives ext b)
