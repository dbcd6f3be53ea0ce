-- The rules of the tests: the check `k >= 0` on a relation of one number, and a trigger that adds the salaries of who comes to their departments.
use Rattle.std.specs.Prelude.{codes, Bool, List, [], ◌∷◌, pos}
use Rattle.sb_value.specs.declared.value.Value.TheVariants.{Int}
use Rattle.sb_value.specs.declared.schema.Column.{Column}
use Rattle.sb_pred.specs.declared.predicate.Op.TheVariants.{Gt, Ge}
use Rattle.sb_pred.specs.declared.predicate.Term.TheVariants.{Const, New}
use Rattle.sb_pred.specs.Tree.{Tree, Compare}
use Rattle.sb_rule.specs.declared.action.Action.{Action}
use Rattle.sb_rule.specs.declared.action.Action.TheVariants.{Add}
use Rattle.sb_rule.specs.declared.rule.Event.TheVariants.{Insert}
use Rattle.sb_rule.specs.declared.rule.Rule.{Rule}
use Rattle.sb_rule.specs.declared.rule.Rule.TheVariants.{Trigger}
use Rattle.sb_relation.specs.Db.{int_column}

-- the column `k`
abbrev pub numbers : List Column
numbers = int_column (codes "k") ∷ []

-- `k >= 0`
abbrev pub not_negative : Tree
not_negative = Compare Ge (New (codes "k")) (Const (Int (pos 0)))

-- the columns `salary` and `dept`
abbrev pub staff : List Column
staff = int_column (codes "salary") ∷ int_column (codes "dept") ∷ []

-- the columns `id` and `total`
abbrev pub depts : List Column
depts = int_column (codes "id") ∷ int_column (codes "total") ∷ []

-- `new.salary > 100`
abbrev pub well_paid : Tree
well_paid = Compare Gt (New (codes "salary")) (Const (Int (pos 100)))

-- `add d total by new.salary where id = new.dept`
abbrev pub adds_salary : Action
adds_salary = Add (codes "d") (codes "total") (New (codes "salary")) ((codes "id", New (codes "dept")) ∷ [])

-- `after insert when new.salary > 100 do add ..`
abbrev pub hires : Bool → Rule
hires deferred = Trigger Insert well_paid adds_salary deferred
