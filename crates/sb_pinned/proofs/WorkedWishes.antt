-- Sums at the end of 64 bits, which refusal of a row comes first, and which rows match.
use Rattle.std.specs.Prelude.{◌≡◌, refl, ◌-◌, ◌^◌, true, false, List, [], ◌∷◌, map, None, pos, negsuc, ℤ}
use Rattle.sb_value.specs.declared.value.Value.TheVariants.{Int}
use Rattle.sb_value.specs.declared.schema.Column.{Column}
use Rattle.sb_pred.specs.declared.predicate.Term.TheVariants.{Const}
use Rattle.sb_rule.specs.declared.action.Action.{Action}
use Rattle.sb_rule.specs.declared.action.Action.TheVariants as action
use Rattle.sb_relation.specs.Db.{Key, Row, Db, int_column}
use Rattle.sb_fold.specs.declared.refusal.Refusal.TheVariants.{TooLong, NoRecord, Duplicate, Range}
use Rattle.sb_fold.specs.Fold.{matching}
use Rattle.sb_fold.specs.Wishes.{is_i64}
use Rattle.sb_plain.specs.declared.command.Command.TheVariants as command
use Rattle.sb_pinned.proofs.Samples.{int, letters, two, slot, key, a, b, l, r, t, text_column, relation, heap, tree}
use Rattle.sb_pinned.proofs.Scripts.{Asked, ask, answers, replies_of, over, counts, no, rows}

-- ---- sums
-- the greatest number of 64 bits and the one above it, the least and the one below it
numbers_of_64_bits : map is_i64 (pos (2 ^ 63 - 1) ∷ pos (2 ^ 63) ∷ negsuc (2 ^ 63 - 1) ∷ negsuc (2 ^ 63) ∷ []) ≡ true ∷ false ∷ true ∷ false ∷ []
numbers_of_64_bits = refl

abbrev with_b : ℤ → Row
with_b n = int 1 ∷ Int n ∷ []

-- each row is one away from the end
abbrev ends : Db
ends = (l, tree [] ((key 1, with_b (negsuc (2 ^ 63 - 2))) ∷ [])) ∷ (r, tree [] ((key 1, with_b (pos (2 ^ 63 - 2))) ∷ [])) ∷ []

abbrev raising : List Asked
raising =
    ask (command.Act (action.Add r b (Const (int 1)) [])) [] (counts 1)
    ∷ ask (command.Scan r None None) [] (rows ((key 1, with_b (pos (2 ^ 63 - 1))) ∷ []))
    ∷ ask (command.Act (action.Add r b (Const (int 1)) [])) [] (no (Range r))
    ∷ ask (command.Act (action.Add l b (Const (Int (negsuc 0))) [])) [] (counts 1)
    ∷ ask (command.Scan l None None) [] (rows ((key 1, with_b (negsuc (2 ^ 63 - 1))) ∷ []))
    ∷ ask (command.Act (action.Add l b (Const (Int (negsuc 0))) [])) [] (no (Range l))
    ∷ []

a_sum_may_come_to_each_end : answers (over ends) raising ≡ replies_of raising
a_sum_may_come_to_each_end = refl

-- ---- which refusal comes first
-- the key a, and a text of at most two letters
abbrev short : List Column
short = int_column a ∷ text_column b 2 ∷ []

abbrev row : ℤ → Row → Row
row n text = Int n ∷ text

-- t is a tree of 1 and 2; l is a heap whose one row has the greatest number and too long a text
abbrev refusing : Db
refusing =
    (l, relation 1 short [] [] ((slot 0, row (pos (2 ^ 63 - 1)) (letters 3 ∷ [])) ∷ []))
    ∷ (t, relation 2 short (a ∷ []) [] ((key 1, row (pos 1) (letters 1 ∷ [])) ∷ (key 2, row (pos 2) (letters 1 ∷ [])) ∷ []))
    ∷ []

-- no such row, a sum, a row that is too long, a key that another row has
abbrev refusals : List Asked
refusals =
    ask (command.Insert t (row (pos 1) (letters 3 ∷ []))) [] (no (TooLong t))
    ∷ ask (command.Insert t (row (pos 1) (letters 2 ∷ []))) [] (no (Duplicate t))
    ∷ ask (command.Update t (key 1) (row (pos 2) (letters 3 ∷ []))) [] (no (TooLong t))
    ∷ ask (command.Update t (key 1) (row (pos 2) (letters 2 ∷ []))) [] (no (Duplicate t))
    ∷ ask (command.Update t (key 3) (row (pos 2) (letters 3 ∷ []))) [] (no (NoRecord t))
    ∷ ask (command.Act (action.Add l a (Const (int 1)) [])) [] (no (Range l))
    ∷ ask (command.Act (action.Add l a (Const (int 0)) [])) [] (no (TooLong l))
    ∷ []

refusals_of_a_row_come_in_order : answers (over refusing) refusals ≡ replies_of refusals
refusals_of_a_row_come_in_order = refl

-- ---- rows that match
abbrev three : Db
three = (t, heap [] ((slot 0, two 1 1) ∷ (slot 1, two 1 2) ∷ (slot 2, two 2 2) ∷ [])) ∷ []

abbrev keys_of : Action → List Key
keys_of act = matching three act

-- each pair is to hold
both_pairs_are_to_hold :
    map keys_of
    (action.Delete t ((a, Const (int 1)) ∷ (b, Const (int 2)) ∷ [])
    ∷ action.Set t a (Const (int 5)) ((b, Const (int 2)) ∷ (a, Const (int 1)) ∷ [])
    ∷ action.Add t a (Const (int 5)) ((a, Const (int 2)) ∷ (b, Const (int 1)) ∷ [])
    ∷ [])
    ≡ (slot 1 ∷ []) ∷ (slot 1 ∷ []) ∷ [] ∷ []
both_pairs_are_to_hold = refl

without_pairs_all_rows_match : map keys_of (action.Delete t [] ∷ action.Delete t ((a, Const (int 1)) ∷ []) ∷ []) ≡ (slot 0 ∷ slot 1 ∷ slot 2 ∷ []) ∷ (slot 0 ∷ slot 1 ∷ []) ∷ []
without_pairs_all_rows_match = refl

abbrev deleting : List Asked
deleting =
    ask (command.Act (action.Delete t ((a, Const (int 1)) ∷ (b, Const (int 2)) ∷ []))) [] (counts 1)
    ∷ ask (command.Scan t None None) [] (rows ((slot 0, two 1 1) ∷ (slot 2, two 2 2) ∷ []))
    ∷ []

rows_of_one_pair_stay : answers (over three) deleting ≡ replies_of deleting
rows_of_one_pair_stay = refl
