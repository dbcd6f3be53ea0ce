-- Small relations of numbers and texts.
use Rattle.std.specs.Prelude.{ℕ, codes, List, [], ◌∷◌, map, replicate, pos}
use Rattle.std.specs.List.{range_with_len}
use Rattle.sb_value.specs.declared.value.Value.{Value}
use Rattle.sb_value.specs.declared.value.Value.TheVariants.{Int, Text}
use Rattle.sb_value.specs.declared.schema.Kind.TheVariants as kind
use Rattle.sb_value.specs.declared.schema.Column.{Column}
use Rattle.sb_rule.specs.declared.rule.Rule.{Rule}
use Rattle.sb_relation.specs.Db.{Name, Key, Row, Rows, Attached, Relation, int_column}

-- ---- values and rows
abbrev pub int : ℕ → Value
int n = Int (pos n)

-- a text of so many letters
abbrev pub letters : ℕ → Value
letters n = Text (replicate n 120)

abbrev pub one : ℕ → Row
one a = int a ∷ []

abbrev pub two : ℕ → ℕ → Row
two a b = int a ∷ int b ∷ []

-- ---- record keys: one that a heap picks, the number that a temp relation counts, the code of a number
abbrev pub slot : ℕ → Key
slot n = 0 ∷ 0 ∷ 0 ∷ 2 ∷ 0 ∷ n ∷ []

abbrev pub number : ℕ → Key
number n = 0 ∷ 0 ∷ 0 ∷ 0 ∷ 0 ∷ 0 ∷ 0 ∷ n ∷ []

abbrev pub key : ℕ → Key
key n = 128 ∷ 0 ∷ 0 ∷ 0 ∷ 0 ∷ 0 ∷ 0 ∷ n ∷ []

-- ---- names of columns and of relations
abbrev pub a : Name
a = codes "a"

abbrev pub b : Name
b = codes "b"

abbrev pub l : Name
l = codes "l"

abbrev pub r : Name
r = codes "r"

abbrev pub t : Name
t = codes "t"

-- one that is nowhere
abbrev pub z : Name
z = codes "z"

-- ---- columns
abbrev pub text_column : Name → ℕ → Column
text_column name limit = record { name = name; kind = kind.Text; limit = limit }

abbrev pub numbers : List Column
numbers = int_column a ∷ int_column b ∷ []

-- ---- attachments and relations
abbrev pub named : Name → Rule → Attached
named name rule = record { name = name; rule = rule; buckets = 0 }

abbrev pub relation : ℕ → List Column → List Name → List Attached → Rows → Relation
relation method schema key attachments rows = record { method = method; schema = schema; key = key; rows = rows; attachments = attachments }

-- of two numbers a and b
abbrev pub heap : List Attached → Rows → Relation
heap attachments rows = relation 1 numbers [] attachments rows

-- whose key is a
abbrev pub tree : List Attached → Rows → Relation
tree attachments rows = relation 2 numbers (a ∷ []) attachments rows

-- that ends with the run
abbrev pub temp : List Attached → Rows → Relation
temp attachments rows = relation 3 numbers [] attachments rows

-- so many rows of a heap
abbrev pub many : ℕ → Rows
many n = map (λ i. (slot i, two i i)) (range_with_len 0 n)
