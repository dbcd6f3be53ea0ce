-- The numbers that a relation counts as record keys.
use Rattle.std.specs.Prelude.{◌≡◌, refl, List, [], ◌∷◌, None}
use Rattle.sb_relation.specs.Keys.{Just, Counted, new_keys}
use Rattle.sb_plain.specs.declared.command.Command.TheVariants as command
use Rattle.sb_pinned.proofs.Samples.{two, number, numbers, t}
use Rattle.sb_pinned.proofs.Scripts.{Asked, ask, answers, replies_of, over, ok, keyed, rows}

-- ---- of a new row
-- where none stands it is 1
the_first_number_is_1 : new_keys Counted [] None [] ≡ Just (number 1)
the_first_number_is_1 = refl

-- 3 and 7 stand: it is neither behind the first one nor how many there are
the_number_behind_the_last_of_two : new_keys Counted ((number 3, two 1 1) ∷ (number 7, two 2 2) ∷ []) None [] ≡ Just (number 8)
the_number_behind_the_last_of_two = refl

the_number_behind_the_last_of_three : new_keys Counted ((number 1, two 1 1) ∷ (number 5, two 2 2) ∷ (number 9, two 3 3) ∷ []) None [] ≡ Just (number 10)
the_number_behind_the_last_of_three = refl

-- ---- a relation that counts: a number within isn't given again
abbrev script : List Asked
script =
    ask (command.Create t 3 numbers []) [] ok
    ∷ ask (command.Insert t (two 1 1)) [] (keyed (number 1))
    ∷ ask (command.Insert t (two 2 2)) [] (keyed (number 2))
    ∷ ask (command.Insert t (two 3 3)) [] (keyed (number 3))
    ∷ ask (command.Delete t (number 2)) [] ok
    ∷ ask (command.Insert t (two 4 4)) [] (keyed (number 4))
    ∷ ask (command.Scan t None None) [] (rows ((number 1, two 1 1) ∷ (number 3, two 3 3) ∷ (number 4, two 4 4) ∷ []))
    ∷ []

rows_are_counted_behind_each_other : answers (over []) script ≡ replies_of script
rows_are_counted_behind_each_other = refl
