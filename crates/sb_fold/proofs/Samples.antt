-- Small relations and extensions for worked examples.
use Rattle.std.specs.Prelude.{ℕ, ◌+◌, ◌*◌, true, false, codes, List, [], ◌∷◌, length, map, pos}
use Rattle.std.specs.List.{range_with_len}
use Rattle.sb_value.specs.declared.value.Value.{Value}
use Rattle.sb_value.specs.declared.value.Value.TheVariants as value
use Rattle.sb_rule.specs.declared.rule.Side.TheVariants.{Main, Mirror}
use Rattle.sb_rule.specs.declared.rule.Rule.{Rule}
use Rattle.sb_rule.specs.declared.rule.Rule.TheVariants.{TreeIndex, JoinIndex}
use Rattle.sb_rule.specs.declared.change.Change.{Change}
use Rattle.sb_rule.specs.declared.change.Change.TheVariants as change
use Rattle.sb_relation.specs.Db.{Row, Rows, Attached, Relation, Db, int_column}
use Rattle.sb_fold.specs.Extensions.{Extensions}

-- ---- rows
abbrev pub int : ℕ → Value
int n = value.Int (pos n)

abbrev pub two : ℕ → ℕ → Row
two a b = int a ∷ int b ∷ []

-- so many rows under the keys 0, 1, ..: the second column counts them
abbrev pub rows : ℕ → Rows
rows n = map (λ i. (i ∷ [], two 0 i)) (range_with_len 0 n)

-- ---- relations
abbrev pub named : Rule → ℕ → Attached
named rule buckets = record { name = codes "i"; rule = rule; buckets = buckets }

-- r (a int, b int) with a method, attachments and rows; its key is a
abbrev pub relation : ℕ → List Attached → Rows → Relation
relation method attachments rows =
    record { method = method; schema = int_column (codes "a") ∷ int_column (codes "b") ∷ []; key = codes "a" ∷ []; rows = rows; attachments = attachments }

-- r alone, with so many rows
abbrev pub alone : ℕ → List Attached → ℕ → Db
alone method attachments n = (codes "r", relation method attachments (rows n)) ∷ []

abbrev pub index : Rule
index = TreeIndex (codes "b" ∷ []) false

-- ---- two relations that are joined: l (a, b) has 7 and 8 in b, s (c, d) has 7 three times and 8 once in c
abbrev pub pairs : Rule
pairs = JoinIndex Main (codes "b" ∷ []) (codes "s") (codes "c" ∷ [])

abbrev pub pairs_mirror : Rule
pairs_mirror = JoinIndex Mirror (codes "c" ∷ []) (codes "l") (codes "b" ∷ [])

abbrev pub left : Rows → Relation
left rows = relation 2 (named index 0 ∷ named pairs 0 ∷ []) rows

abbrev pub right : Rows → Relation
right rows =
    record { method = 2; schema = int_column (codes "c") ∷ int_column (codes "d") ∷ []; key = codes "d" ∷ []; rows = rows; attachments = named pairs_mirror 0 ∷ [] }

abbrev pub left_rows : Rows
left_rows = (1 ∷ [], two 1 7) ∷ (2 ∷ [], two 2 8) ∷ []

abbrev pub right_rows : Rows
right_rows = (1 ∷ [], two 7 1) ∷ (2 ∷ [], two 7 2) ∷ (3 ∷ [], two 7 3) ∷ (4 ∷ [], two 8 4) ∷ []

-- and t, which ends with the run, has a row
abbrev pub joined : Rows → Rows → Db
joined ls ss = (codes "l", left ls) ∷ (codes "s", right ss) ∷ (codes "t", relation 3 (named index 0 ∷ []) (rows 1)) ∷ []

abbrev pub both : Db
both = joined left_rows right_rows

-- ---- extensions
abbrev pub none : Extensions
none = record { boxes = record { methods = []; attachments = [] }; methods = []; attachments = [] }

-- 1 of an insert, 2 of a delete, 3 of an update
abbrev pub kind_of : Change → ℕ
kind_of (change.Insert key new) = 1
kind_of (change.Delete key old) = 2
kind_of (change.Update from old to new) = 3

-- two storage methods, of which 1001 ends with the run, and an attachment
abbrev pub guests : Extensions
guests = record {
  boxes = record {
    methods = record { code = 1000; durable = true; fits = λ schema key. true } ∷ record { code = 1001; durable = false; fits = λ schema key. true } ∷ [];
    attachments = [];
  };
  methods =
      record { code = 1001; bound = λ n. n + 2; prepare = 4; cost = λ rows c. length rows + 50 }
      ∷ record { code = 1000; bound = λ n. 4 * n + 1; prepare = 3; cost = λ rows c. 100 * length rows + kind_of c }
      ∷ [];
  attachments =
      record { code = 1001; bound = λ desc schema rows buckets. 6; prepare = λ desc schema. 1; cost = λ desc schema rows buckets c. 5 }
      ∷ record {
        code = 1000;
        bound = λ desc schema rows buckets. 1000 * buckets + 100 * length desc + 10 * length schema + length rows;
        prepare = λ desc schema. 7 + 10 * length desc + length schema;
        cost = λ desc schema rows buckets c. 10000 * buckets + 1000 * length desc + 100 * length schema + 10 * length rows + kind_of c;
      }
      ∷ [];
}
