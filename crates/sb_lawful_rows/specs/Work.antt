-- Work that goes over lawful databases alone.
use Rattle.std.specs.Prelude.{List, All}
use Rattle.sb_value.specs.declared.schema.Column.{Column}
use Rattle.sb_value.specs.Fits.{Fits}
use Rattle.sb_codec.specs.Tuples.{IsTuple}
use Rattle.sb_rule.specs.declared.action.Action.{Action}
use Rattle.sb_relation.specs.Db.{Db}
use Rattle.sb_cascade.specs.Fitting.{IsFitting}
use Rattle.sb_fold.specs.Extensions.{Extensions}
use Rattle.sb_fold.specs.Outcome.{Reached, Trail, Going, Outcome, Gives, Stopped, NoStep}
use Rattle.sb_fold.specs.Wishes.{Wish, Put, Remove, Replace, Raise}
use Rattle.sb_plain.specs.Lawful.{IsLawful}
use Rattle.sb_lawful_rows.specs.Storable.{PutsStorable, TriggersPutStorable}

-- ---- what is asked of work
-- the row that a wish brings has these columns, and values that can be stored
abbrev pub IsWishOf : List Column → Wish → Type 0
IsWishOf schema (Put row) = IsTuple row × Fits schema row
IsWishOf schema (Remove key) = Unit {0}
IsWishOf schema (Replace key row) = IsTuple row × Fits schema row
IsWishOf schema (Raise key column by) = Unit {0}

-- an action fits the database, and what it puts into rows can be stored
pub record MayAct (db : Db) (a : Action) : Type 0 where
  pub fits : IsFitting db a
  pub puts : PutsStorable a

-- ---- what stands
-- a lawful database whose triggers put into rows what can be stored, and over which these actions may wait
pub record IsLawfulWith (ext : Extensions) (db : Db) (actions : List Action) : Type 0 where
  pub lawful : IsLawful ext db
  pub triggers : TriggersPutStorable db
  pub waiting : All (MayAct db) actions

-- the databases of a point that work reaches
pub record IsLawfulPoint (ext : Extensions) (p : Reached) : Type 0 where
  pub before : IsLawful ext p.before
  pub after : IsLawful ext p.after

abbrev pub IsLawfulTrail : Extensions → Trail → Type 0
IsLawfulTrail ext trail = All (IsLawfulPoint ext) trail.points

-- ---- work
-- what stands, and all points that were reached
pub record IsLawfulWork (ext : Extensions) (g : Going) : Type 0 where
  pub stands : IsLawfulWith ext g.db g.queue.actions
  pub trail : IsLawfulTrail ext g.trail

-- what work gives is lawful; and where it is refused, so are the points that it reached
abbrev pub EndsLawful : {A : Type 0} → Extensions → Outcome A → Type 0
EndsLawful ext (Gives x g) = IsLawfulWork ext g
EndsLawful ext (Stopped r trail) = IsLawfulTrail ext trail
EndsLawful ext (NoStep trail) = IsLawfulTrail ext trail
