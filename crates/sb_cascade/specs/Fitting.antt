-- Which actions and wishes fit a database, and which rules may stand in it.
use Rattle.std.specs.Prelude.{◌≡◌, true, false, List, [], ◌∷◌, Option, Some, None, All}
use Rattle.sb_value.specs.declared.schema.Kind.TheVariants as kind
use Rattle.sb_value.specs.declared.schema.Column.{Column}
use Rattle.sb_value.specs.Fits.{Fits}
use Rattle.sb_pred.specs.Columns.{column_kind}
use Rattle.sb_pred.specs.Typing.{term_kind}
use Rattle.sb_rule.specs.declared.action.Action.{Action}
use Rattle.sb_rule.specs.declared.rule.Rule.{Rule}
use Rattle.sb_relation.specs.Db.{Name, Db, rows_at, schema_at}
use Rattle.sb_relation.specs.Fits.{MayStand, relation_of, first_missing, action_places, first_unnamed, action_fits}
use Rattle.sb_relation.specs.Foreign.{AttachRules}
use Rattle.sb_fold.specs.Fold.{attachments_at}
use Rattle.sb_fold.specs.Outcome.{Going}
use Rattle.sb_fold.specs.Wishes.{Wish, Put, Remove, Replace, Raise}

-- ---- actions
-- The action is of a relation that is there and names columns that are there, and its terms are values, each of its column's kind.
pub record IsFitting (db : Db) (a : Action) : Type 0 where
  pub there : first_missing db (relation_of a ∷ []) ≡ None
  pub named : first_unnamed (action_places (schema_at db (relation_of a)) [] a) ≡ None
  pub fits : action_fits (schema_at db (relation_of a)) (term_kind [] false false) a ≡ true

abbrev pub AllFit : Db → List Action → Type 0
AllFit db actions = All (IsFitting db) actions

-- ---- wishes
-- a row that is wished has these columns, and a number is added where they have numbers
abbrev pub WishFits : List Column → Wish → Type 0
WishFits schema (Put row) = Fits schema row
WishFits schema (Remove key) = Unit {0}
WishFits schema (Replace key row) = Fits schema row
WishFits schema (Raise key column by) = column_kind schema column ≡ Some kind.Int

-- the relation is there, and the wish is one for its columns
pub record IsFittingWish (db : Db) (name : Name) (wish : Wish) : Type 0 where
  pub there : first_missing db (name ∷ []) ≡ None
  pub fits : WishFits (schema_at db name) wish

-- ---- databases
-- every rule of every relation may stand there; the first argument gives the extension of a rule
abbrev pub AllMayStand : (Rule → Option AttachRules) → Db → Type 0
AllMayStand box db = (name : Name) → All (λ a. MayStand (box a.rule) db (schema_at db name) a.rule) (attachments_at db name)

-- every row of every relation has its columns
abbrev pub AllRowsFit : Db → Type 0
AllRowsFit db = (name : Name) → All (λ row. Fits (schema_at db name) row.1) (rows_at db name)

-- ---- work
-- So far every rule may stand, every row has its columns, and the actions that wait fit.
pub record IsFittingWork (box : Rule → Option AttachRules) (g : Going) : Type 0 where
  pub rules : AllMayStand box g.db
  pub rows : AllRowsFit g.db
  pub waits : AllFit g.db g.queue.actions
