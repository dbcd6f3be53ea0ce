-- Worked examples of what follows from a change: a department counts its people, and takes them along when it goes.
use Rattle.std.proofs.Common.{◌≡◌, ℕ, Bool, true, false, cond, codes, List, [], ◌∷◌, Option, Some, None, refl, pos}
use Rattle.std.specs.Prelude.{All}
use Rattle.std.specs.Ordering.{is_eq}
use Rattle.std.proofs.lemmas.List.Elements.{All-nil, All-cons}
use Rattle.sb_value.specs.declared.schema.Column.{Column}
use Rattle.sb_value.specs.declared.schema.Kind.TheVariants as kind
use Rattle.sb_value.specs.declared.value.Value.{Value}
use Rattle.sb_value.specs.declared.value.Value.TheVariants as value
use Rattle.sb_value.specs.Order.{bytes_cmp}
use Rattle.sb_pred.specs.declared.predicate.Term.TheVariants.{Const, New}
use Rattle.sb_pred.specs.Tree.{Always}
use Rattle.sb_rule.specs.declared.action.Action.{Action}
use Rattle.sb_rule.specs.declared.action.Action.TheVariants as action
use Rattle.sb_rule.specs.declared.change.Change.{Change}
use Rattle.sb_rule.specs.declared.change.Change.TheVariants as change
use Rattle.sb_rule.specs.declared.rule.Event.TheVariants as event
use Rattle.sb_rule.specs.declared.rule.Mode.TheVariants.{Cascade}
use Rattle.sb_rule.specs.declared.rule.Rule.{Rule}
use Rattle.sb_rule.specs.declared.rule.Rule.TheVariants.{Refers, Trigger}
use Rattle.sb_rule.specs.declared.rule.Side.TheVariants.{Mirror}
use Rattle.sb_relation.specs.Db.{Row, Rows, Attached, Relation, Db, int_column}
use Rattle.sb_relation.specs.Fits.{MayStand}
use Rattle.sb_relation.specs.Foreign.{AttachRules}
use Rattle.sb_relation.specs.Rules.{follows}
use Rattle.sb_fold.specs.Fold.{following, waiting_actions}
use Rattle.sb_fold.specs.Wishes.{Raise, wish_of}
use Rattle.sb_cascade.specs.Fitting.{IsFitting, IsFittingWish, AllMayStand}

-- ---- dept (no int, name text, staff int) and emp (id int, dept int)
abbrev int : ℕ → Value
int n = value.Int (pos n)

abbrev relation : List Column → Rule → Rows → Relation
relation schema rule rows = record { method = 1; schema = schema; key = []; rows = rows; attachments = record { name = codes "r"; rule = rule; buckets = 0 } ∷ [] }

abbrev dept_columns : List Column
dept_columns = int_column (codes "no") ∷ record { name = codes "name"; kind = kind.Text; limit = 20 } ∷ int_column (codes "staff") ∷ []

abbrev emp_columns : List Column
emp_columns = int_column (codes "id") ∷ int_column (codes "dept") ∷ []

-- a new person is one more in the department, now or at the commit
abbrev counts : Bool → Rule
counts deferred = Trigger event.Insert Always (action.Add (codes "dept") (codes "staff") (Const (int 1)) ((codes "no", New (codes "dept")) ∷ [])) deferred

-- the people of a department go with it
abbrev takes_along : Rule
takes_along = Refers Mirror (codes "no" ∷ []) (codes "emp") (codes "dept" ∷ []) Cascade false

abbrev firm : Bool → Db
firm deferred = (codes "dept", relation dept_columns takes_along []) ∷ (codes "emp", relation emp_columns (counts deferred) []) ∷ []

abbrev no_boxes : Rule → Option AttachRules
no_boxes rule = None

-- both rules may stand
one_stands : (db : Db) (schema : List Column) (a : Attached) → MayStand None db schema a.rule → All (λ x. MayStand None db schema x.rule) (a ∷ [])
one_stands db schema a may = All-cons (λ (x : Attached). MayStand None db schema x.rule) a [] may (All-nil _)

abbrev StandIn : Db → Option Relation → Type 0
StandIn db o = All (λ x. MayStand None db (elim o [ None ↦ [] | Some r ↦ r.schema ]) x.rule) (elim o [ None ↦ [] | Some r ↦ r.attachments ])

they_stand : (deferred : Bool) → AllMayStand no_boxes (firm deferred)
they_stand deferred name = of_tests (is_eq (bytes_cmp name (codes "dept"))) (is_eq (bytes_cmp name (codes "emp")))
  where
    of_tests : (b c : Bool)
        → StandIn (firm deferred) (cond b (Some (relation dept_columns takes_along [])) (cond c (Some (relation emp_columns (counts deferred) [])) None))
    of_tests true c = one_stands (firm deferred) dept_columns _ (record { there = refl; named = refl; fits = refl })
    of_tests false true = one_stands (firm deferred) emp_columns _ (record { there = refl; named = refl; fits = refl })
    of_tests false false = All-nil _

-- ---- a person comes to department 3
abbrev comes : Change
comes = change.Insert (1 ∷ []) (int 7 ∷ int 3 ∷ [])

abbrev one_more : Action
one_more = action.Add (codes "dept") (codes "staff") (Const (int 1)) ((codes "no", Const (int 3)) ∷ [])

one_more_at_once : following (firm false) (codes "emp") comes ≡ one_more ∷ []
one_more_at_once = refl

one_more_late : waiting_actions (firm true) (codes "emp") comes ≡ one_more ∷ []
one_more_late = refl

one_more_fits : IsFitting (firm false) one_more
one_more_fits = record { there = refl; named = refl; fits = refl }

abbrev third : Row
third = int 3 ∷ value.Text (codes "toys") ∷ int 8 ∷ []

it_is_raised : wish_of dept_columns one_more (4 ∷ []) third ≡ Some (Raise (4 ∷ []) (codes "staff") (pos 1))
it_is_raised = refl

the_raise_fits : IsFittingWish (firm false) (codes "dept") (Raise (4 ∷ []) (codes "staff") (pos 1))
the_raise_fits = record { there = refl; fits = refl }

-- ---- department 3 goes
abbrev goes : Change
goes = change.Delete (4 ∷ []) third

its_people : following (firm false) (codes "dept") goes ≡ action.Delete (codes "emp") ((codes "dept", Const (int 3)) ∷ []) ∷ []
its_people = refl

its_people_fit : IsFitting (firm false) (action.Delete (codes "emp") ((codes "dept", Const (int 3)) ∷ []))
its_people_fit = record { there = refl; named = refl; fits = refl }

-- ---- a rule that may not stand makes what doesn't fit: departments whose name is the number of one
abbrev names_by_number : Rule
names_by_number = Refers Mirror (codes "no" ∷ []) (codes "dept") (codes "name" ∷ []) Cascade false

by_its_name : follows (firm false) (codes "dept") names_by_number goes ≡ action.Delete (codes "dept") ((codes "name", Const (int 3)) ∷ []) ∷ []
by_its_name = refl

no_such_name : IsFitting (firm false) (action.Delete (codes "dept") ((codes "name", Const (int 3)) ∷ [])) → ⊥
no_such_name fits = let wrong : false ≡ true = fits.fits in cc
