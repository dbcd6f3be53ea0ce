-- Small relations for worked examples: people and the departments that they refer to.
use Rattle.std.specs.Prelude.{ℕ, codes, List, [], ◌∷◌, pos}
use Rattle.sb_value.specs.declared.value.Value.{Value}
use Rattle.sb_value.specs.declared.value.Value.TheVariants as value
use Rattle.sb_rule.specs.declared.rule.Side.TheVariants.{Main, Mirror}
use Rattle.sb_rule.specs.declared.rule.Mode.{Mode}
use Rattle.sb_rule.specs.declared.rule.Rule.{Rule}
use Rattle.sb_rule.specs.declared.rule.Rule.TheVariants.{Refers}
use Rattle.sb_relation.specs.Db.{Key, Row, Rows, Attached, Relation, Db, int_column}
use Rattle.std.specs.Prelude.{Bool}

abbrev pub int : ℕ → Value
int n = value.Int (pos n)

-- a record key that a heap picks
abbrev pub slot : ℕ → Key
slot n = 0 ∷ 0 ∷ 0 ∷ 2 ∷ 0 ∷ n ∷ []

abbrev pub two : ℕ → ℕ → Row
two a b = int a ∷ int b ∷ []

-- rows of two numbers in slots
abbrev pub people : List Attached → Rows → Relation
people attachments rows =
    record { method = 1; schema = int_column (codes "id") ∷ int_column (codes "dept") ∷ []; key = []; rows = rows; attachments = attachments }

abbrev pub departments : List Attached → Rows → Relation
departments attachments rows =
    record { method = 1; schema = int_column (codes "no") ∷ int_column (codes "floor") ∷ []; key = []; rows = rows; attachments = attachments }

-- departments, and the people in them
abbrev pub company : Rows → Rows → Db
company parents children = (codes "dept", departments [] parents) ∷ (codes "emp", people [] children) ∷ []

-- refers works on emp (dept) to dept (no), and its mirror
abbrev pub works : Mode → Bool → Rule
works mode deferred = Refers Main (codes "dept" ∷ []) (codes "dept") (codes "no" ∷ []) mode deferred

abbrev pub has_people : Mode → Bool → Rule
has_people mode deferred = Refers Mirror (codes "no" ∷ []) (codes "emp") (codes "dept" ∷ []) mode deferred
