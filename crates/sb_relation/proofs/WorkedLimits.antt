-- Worked examples of mirrors, of call order, and of limits.
use Rattle.std.specs.Prelude.{◌≡◌, refl, ℕ, ◌+◌, zero, suc, true, false, codes, List, [], ◌∷◌, replicate, map, Some, None}
use Rattle.sb_value.specs.declared.value.Value.TheVariants as value
use Rattle.sb_value.specs.declared.schema.Kind.TheVariants as kind
use Rattle.sb_pred.specs.declared.predicate.Op.TheVariants.{Eq}
use Rattle.sb_pred.specs.declared.predicate.Term.TheVariants.{Const, New}
use Rattle.sb_pred.specs.Tree.{Tree, Always, Compare, Fails}
use Rattle.sb_rule.specs.declared.rule.Side.TheVariants.{Main, Mirror}
use Rattle.sb_rule.specs.declared.rule.Mode.TheVariants.{Restrict, Cascade}
use Rattle.sb_rule.specs.declared.rule.Event.TheVariants as event
use Rattle.sb_rule.specs.declared.action.Action.TheVariants as action
use Rattle.sb_rule.specs.declared.rule.Rule.{Rule}
use Rattle.sb_rule.specs.declared.rule.Rule.TheVariants.{TreeIndex, HashIndex, JoinIndex, Check, Refers, Trigger}
use Rattle.sb_relation.specs.Build.{mirror_of, with_rule, with_instance}
use Rattle.sb_relation.specs.Db.{Name, Row, Attached, Relation, Db, int_column}
use Rattle.sb_relation.specs.Lawful.{is_too_long}
use Rattle.sb_relation.specs.Limits.{descriptor_len, is_large_rule, is_crowded}
use Rattle.sb_relation.proofs.Samples.{int, people, departments, works, has_people}

-- ---- mirrors
the_mirror_of_a_refers : mirror_of (codes "emp") (works Cascade true) ≡ Some (codes "dept", has_people Cascade true)
the_mirror_of_a_refers = refl

the_mirror_of_a_join_index : mirror_of (codes "emp") (JoinIndex Main (codes "dept" ∷ []) (codes "dept") (codes "no" ∷ []))
    ≡ Some (codes "dept", JoinIndex Mirror (codes "no" ∷ []) (codes "emp") (codes "dept" ∷ []))
the_mirror_of_a_join_index = refl

an_index_has_none : mirror_of (codes "emp") (HashIndex (codes "dept" ∷ [])) ≡ None
an_index_has_none = refl

abbrev named : Name → Rule → Attached
named name rule = record { name = name; rule = rule; buckets = 0 }

both_come_together : with_rule ((codes "dept", departments [] []) ∷ (codes "emp", people [] []) ∷ []) (codes "emp") (codes "w") (works Restrict false)
    ≡ (codes "dept", departments (named (codes "emp.w") (has_people Restrict false) ∷ []) []) ∷ (codes "emp", people (named (codes "w") (works Restrict false) ∷ []) []) ∷ []
both_come_together = refl

-- ---- call order
abbrev index : Rule
index = TreeIndex (codes "id" ∷ []) false

abbrev check : Rule
check = Check Always false

by_code_and_then_as_they_came : with_instance (named (codes "b") index) (named (codes "a") index ∷ named (codes "c") check ∷ [])
    ≡ named (codes "a") index ∷ named (codes "b") index ∷ named (codes "c") check ∷ []
by_code_and_then_as_they_came = refl

-- ---- numbers of attachments
abbrev crowd : ℕ → List Attached
crowd n = replicate n (named (codes "c") check)

abbrev crowded : ℕ → ℕ → Db
crowded parents children = (codes "dept", departments (crowd parents) []) ∷ (codes "emp", people (crowd children) []) ∷ []

the_16th : is_crowded (crowded 16 15) (codes "emp") check ≡ false
the_16th = refl

the_17th : is_crowded (crowded 0 16) (codes "emp") check ≡ true
the_17th = refl

the_17th_mirror : is_crowded (crowded 16 0) (codes "emp") (works Restrict false) ≡ true
the_17th_mirror = refl

the_16th_mirror : is_crowded (crowded 15 15) (codes "emp") (works Restrict false) ≡ false
the_16th_mirror = refl

the_17th_of_a_join : is_crowded (crowded 16 0) (codes "emp") (JoinIndex Main (codes "dept" ∷ []) (codes "dept") (codes "no" ∷ [])) ≡ true
the_17th_of_a_join = refl

abbrev to_itself : Rule
to_itself = Refers Main (codes "dept" ∷ []) (codes "emp") (codes "id" ∷ []) Cascade false

a_tie_to_itself_adds_two : is_crowded (crowded 0 15) (codes "emp") to_itself ≡ true
a_tie_to_itself_adds_two = refl

and_no_more : is_crowded (crowded 0 14) (codes "emp") to_itself ≡ false
and_no_more = refl

-- ---- sizes of rules
abbrev nested : ℕ → Tree
nested zero = Always
nested (suc n) = Fails (nested n)

abbrev long_text : ℕ → Tree
long_text n = Compare Eq (New (codes "a")) (Const (value.Text (replicate n 120)))

nodes_32 : is_large_rule (Check (nested 31) false) ≡ false
nodes_32 = refl

nodes_33 : is_large_rule (Check (nested 32) false) ≡ true
nodes_33 = refl

nodes_of_a_trigger : is_large_rule (Trigger event.Insert (nested 32) (action.Delete (codes "r") []) false) ≡ true
nodes_of_a_trigger = refl

a_text_of_255 : is_large_rule (Check (long_text 255) false) ≡ false
a_text_of_255 = refl

a_text_of_256 : is_large_rule (Check (Fails (long_text 256)) false) ≡ true
a_text_of_256 = refl

a_long_text_in_an_action : is_large_rule (Trigger event.Insert Always (action.Set (codes "r") (codes "a") (Const (int 1)) ((codes "b", Const (value.Text (replicate 256 120))) ∷ [])) false) ≡ true
a_long_text_in_an_action = refl

-- ---- sizes of descriptors: 8 for the numbers, 2 for the counts, a column's name and 3 more, and so on
a_small_descriptor : descriptor_len (people [] []) ≡ 10 + (1 + 2 + 2) + (1 + 4 + 2) + 1
a_small_descriptor = refl

with_an_index : descriptor_len (people (named (codes "i") index ∷ []) []) ≡ 23 + 10 + 2 + 5
with_an_index = refl

-- ---- rows that are too long
abbrev short : List Attached → Relation
short attachments = record {
  method = 1;
  schema = record { name = codes "a"; kind = kind.Text; limit = 255 } ∷ record { name = codes "b"; kind = kind.Text; limit = 2 } ∷ [];
  key = [];
  rows = [];
  attachments = attachments;
}

abbrev texts : ℕ → ℕ → Row
texts m n = value.Text (replicate m 120) ∷ value.Text (replicate n 120) ∷ []

-- five values of which the first is a number, with a count of one byte, and the last text so long
abbrev five : ℕ → Row
five n = int 1 ∷ value.Text (replicate 255 120) ∷ value.Text (replicate 255 120) ∷ value.Text (replicate 255 120) ∷ value.Text (replicate n 121) ∷ []

abbrev wide : Relation
wide = record (short []) {
  schema = int_column (codes "k") ∷ map (λ name. record { name = name; kind = kind.Text; limit = 255 }) (codes "a" ∷ codes "b" ∷ codes "c" ∷ codes "d" ∷ []);
}

a_row_of_1000_bytes : is_too_long wide (five 217) ≡ false
a_row_of_1000_bytes = refl

a_row_of_1001_bytes : is_too_long wide (five 218) ≡ true
a_row_of_1001_bytes = refl

within_its_columns : is_too_long (short []) (texts 255 2) ≡ false
within_its_columns = refl

over_a_column : is_too_long (short []) (texts 255 3) ≡ true
over_a_column = refl

-- a code has two bytes behind a text
a_code_of_200 : is_too_long (short (named (codes "i") (TreeIndex (codes "a" ∷ []) false) ∷ [])) (texts 198 1) ≡ false
a_code_of_200 = refl

a_code_of_201 : is_too_long (short (named (codes "i") (HashIndex (codes "a" ∷ [])) ∷ [])) (texts 199 1) ≡ true
a_code_of_201 = refl

a_check_has_no_code : is_too_long (short (named (codes "i") check ∷ [])) (texts 199 1) ≡ false
a_check_has_no_code = refl

a_key_of_201 : is_too_long (record (short []) { method = 2; key = codes "a" ∷ [] }) (texts 199 1) ≡ true
a_key_of_201 = refl

a_picked_key_has_no_code : is_too_long (record (short []) { method = 1000; key = codes "a" ∷ [] }) (texts 199 1) ≡ false
a_picked_key_has_no_code = refl
