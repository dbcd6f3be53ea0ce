-- What follows from a change that fits, fits.
use Rattle.std.specs.Prelude.{◌≡◌, ℕ, ◌↔◌, List, [], ◌∷◌, Option, None, IfSome}
use Rattle.std.specs.List.{flat_map}
use Rattle.sb_value.specs.Fits.{Fits}
use Rattle.sb_pred.specs.declared.predicate.Term.{Term}
use Rattle.sb_rule.specs.declared.action.Action.{Action}
use Rattle.sb_rule.specs.declared.action.Action.TheVariants as action
use Rattle.sb_rule.specs.declared.change.Change.{Change}
use Rattle.sb_rule.specs.declared.rule.Rule.{Rule}
use Rattle.sb_rule.specs.Bound.{EachTerm, FitsSchema, IsConstant}
use Rattle.sb_relation.specs.Build.{with_rule}
use Rattle.sb_relation.specs.Changes.{changed}
use Rattle.sb_relation.specs.Db.{Name, Key, Row, Attached, Relation, Db, relation_at, with_relation, schema_at}
use Rattle.sb_relation.specs.Fits.{MayStand, relation_of, first_missing}
use Rattle.sb_relation.specs.Foreign.{AttachRules}
use Rattle.sb_relation.specs.Rules.{follows, late_actions}
use Rattle.sb_fold.specs.Building.{without_rule}
use Rattle.sb_fold.specs.Extensions.{Extensions}
use Rattle.sb_fold.specs.Finish.{finish}
use Rattle.sb_fold.specs.Fold.{act, change_within, following, waiting_actions}
use Rattle.sb_fold.specs.Outcome.{Going, Outcome, Gives, Stopped, NoStep}
use Rattle.sb_fold.specs.Wishes.{Wish, Put, const_of, wish_of}
use Rattle.sb_cascade.specs.Fitting.{IsFitting, AllFit, IsFittingWish, AllMayStand, AllRowsFit, IsFittingWork}
use Rattle.sb_cascade.specs.Runs.{row_change}
use Rattle.sb_cascade.specs.Steps.{wish_there}

-- an action that fits names no column of a row
abbrev pub TermsAreValues : Type 0
TermsAreValues = (db : Db) (a : Action) → IsFitting db a → EachTerm IsConstant a

-- what a rule that may stand makes of a change whose rows fit: the actions that follow at once, and those that wait
abbrev pub FollowingFits : Type 0
FollowingFits =
    (box : Option AttachRules) (db : Db) (name : Name) (rule : Rule) (c : Change) → MayStand box db (schema_at db name) rule
    → FitsSchema (schema_at db name) c → AllFit db (follows db name rule c)

abbrev pub WaitingFits : Type 0
WaitingFits =
    (box : Option AttachRules) (db : Db) (name : Name) (rule : Rule) (c : Change) → MayStand box db (schema_at db name) rule
    → FitsSchema (schema_at db name) c → AllFit db (late_actions db name rule c)

-- what all rules of a relation make of it
abbrev pub AllFollowingFits : Type 0
AllFollowingFits =
    (box : Rule → Option AttachRules) (db : Db) (name : Name) (c : Change) → AllMayStand box db
    → FitsSchema (schema_at db name) c → AllFit db (following db name c)

abbrev pub AllWaitingFits : Type 0
AllWaitingFits =
    (box : Rule → Option AttachRules) (db : Db) (name : Name) (c : Change) → AllMayStand box db
    → FitsSchema (schema_at db name) c → AllFit db (waiting_actions db name c)

-- a change leaves which actions fit and which rules may stand
abbrev pub ActionsStay : Type 0
ActionsStay = (db : Db) (name : Name) (c : Change) (a : Action) → IsFitting (changed db name c) a ↔ IsFitting db a

abbrev pub RulesStay : Type 0
RulesStay = (box : Rule → Option AttachRules) (db : Db) (name : Name) (c : Change) → AllMayStand box (changed db name c) ↔ AllMayStand box db

-- an insert wishes a row that fits
abbrev pub InsertsFit : Type 0
InsertsFit = (db : Db) (relation : Name) (terms : List Term) → IsFitting db (action.Insert relation terms)
    → IsFittingWish db relation (Put (flat_map const_of terms))

-- what any other action wishes of a row that fits, fits
abbrev pub WishesFit : Type 0
WishesFit = (db : Db) (a : Action) (key : Key) (row : Row) → IsFitting db a → Fits (schema_at db (relation_of a)) row
    → IfSome (wish_of (schema_at db (relation_of a)) a key row) (IsFittingWish db (relation_of a))

-- over rows that fit, so does what it wishes of the row of a key
abbrev pub WishesThereFit : Type 0
WishesThereFit = (db : Db) (a : Action) (key : Key) → AllRowsFit db → IsFitting db a → IfSome (wish_there db a key) (IsFittingWish db (relation_of a))

-- ---- whole work
-- a fact of what work gives, and of what stands then
abbrev pub OfGiven : {A : Type 0} → (A → Going → Type 0) → Outcome A → Type 0
OfGiven P (Gives x g) = P x g
OfGiven P (Stopped r trail) = Unit {0}
OfGiven P (NoStep trail) = Unit {0}

-- the change that such a wish makes has rows that fit, and leaves rows that fit
abbrev pub ChangesFit : Type 0
ChangesFit = (ext : Extensions) (name : Name) (wish : Wish) (g : Going) → AllRowsFit g.db → IsFittingWish g.db name wish
    → OfGiven (λ c new. FitsSchema (schema_at new.db name) c × AllRowsFit new.db) (row_change ext name wish g)

abbrev pub RowsStay : Type 0
RowsStay = (db : Db) (name : Name) (c : Change) → AllRowsFit db → FitsSchema (schema_at db name) c → AllRowsFit (changed db name c)

-- where all fits, it does after a change and all that follows from it, with so many levels left
abbrev pub ChangesGoOn : Type 0
ChangesGoOn = (box : Rule → Option AttachRules) (ext : Extensions) (levels : ℕ) (name : Name) (wish : Wish) (g : Going) → IsFittingWork box g
    → IsFittingWish g.db name wish → OfGiven (λ key new. IsFittingWork box new) (change_within ext levels name wish g)

abbrev pub ActionsGoOn : Type 0
ActionsGoOn = (box : Rule → Option AttachRules) (ext : Extensions) (levels : ℕ) (a : Action) (g : Going) → IsFittingWork box g
    → IsFitting g.db a → OfGiven (λ count new. IsFittingWork box new) (act (change_within ext levels) a g)

-- and after what is done before a commit
abbrev pub FinishGoesOn : Type 0
FinishGoesOn = (box : Rule → Option AttachRules) (ext : Extensions) (g : Going) → IsFittingWork box g
    → OfGiven (λ _ new. IsFittingWork box new) (finish ext g)

-- ---- commands that leave all rows
-- attaching and detaching leave which actions fit, and a new relation leaves those that fit
abbrev pub AttachingStays : Type 0
AttachingStays = (db : Db) (relation label : Name) (rule : Rule) (a : Action)
    → IsFitting (with_rule db relation label rule) a ↔ IsFitting db a

abbrev pub DetachingStays : Type 0
DetachingStays = (db : Db) (relation : Name) (gone : Attached) (a : Action) → IsFitting (without_rule db relation gone) a ↔ IsFitting db a

abbrev pub CreatingStays : Type 0
CreatingStays = (db : Db) (name : Name) (r : Relation) (a : Action) → relation_at db name ≡ None → IsFitting db a
    → IsFitting (with_relation db name r) a

-- all rules may stand with one more that may, and its mirror; with one less; and with a new relation
abbrev pub AttachedMayStand : Type 0
AttachedMayStand = (box : Rule → Option AttachRules) (db : Db) (relation label : Name) (rule : Rule) → AllMayStand box db
    → first_missing db (relation ∷ []) ≡ None → MayStand (box rule) db (schema_at db relation) rule → AllMayStand box (with_rule db relation label rule)

abbrev pub DetachedMayStand : Type 0
DetachedMayStand = (box : Rule → Option AttachRules) (db : Db) (relation : Name) (gone : Attached) → AllMayStand box db
    → AllMayStand box (without_rule db relation gone)

abbrev pub CreatedMayStand : Type 0
CreatedMayStand = (box : Rule → Option AttachRules) (db : Db) (name : Name) (r : Relation) → AllMayStand box db → relation_at db name ≡ None
    → r.attachments ≡ [] → AllMayStand box (with_relation db name r)
