-- Rows between two values of a tree index.
use Rattle.std.specs.Prelude.{◌≡◌, refl, ℕ, false, codes, List, [], ◌∷◌, map}
use Rattle.sb_rule.specs.declared.rule.Rule.TheVariants.{TreeIndex}
use Rattle.sb_relation.specs.Db.{Rows, Db}
use Rattle.sb_plain.specs.Reading.{rows_between}
use Rattle.sb_plain.specs.declared.command.Command.TheVariants as command
use Rattle.sb_pinned.proofs.Samples.{one, two, slot, a, b, t, named, heap}
use Rattle.sb_pinned.proofs.Scripts.{Asked, ask, answers, replies_of, over, rows}

-- an index over b, and one over b and a
abbrev db : Db
db = (
  t,
  heap (named (codes "i") (TreeIndex (b ∷ []) false) ∷ named (codes "j") (TreeIndex (b ∷ a ∷ []) false) ∷ [])
      ((slot 0, two 1 3) ∷ (slot 1, two 2 1) ∷ (slot 2, two 3 2) ∷ (slot 3, two 4 4) ∷ (slot 4, two 5 2) ∷ []),
)
    ∷ []

abbrev between : ℕ → ℕ → Rows
between low high = rows_between db t (b ∷ []) (one low) (one high)

-- the rows at both ends are among them, in the order of b and then of their record keys
both_ends_belong_to_a_range : between 2 3 ≡ (slot 2, two 3 2) ∷ (slot 4, two 5 2) ∷ (slot 0, two 1 3) ∷ []
both_ends_belong_to_a_range = refl

-- from below the least row, to above the greatest one
a_range_has_two_ends : map (λ x. x.0) (between 3 9) ≡ slot 0 ∷ slot 3 ∷ []
a_range_has_two_ends = refl

a_range_has_a_low_end : map (λ x. x.0) (between 0 2) ≡ slot 1 ∷ slot 2 ∷ slot 4 ∷ []
a_range_has_a_low_end = refl

one_value_is_a_range : map (λ x. x.0) (between 4 4) ≡ slot 3 ∷ []
one_value_is_a_range = refl

no_range_goes_down : between 3 2 ≡ []
no_range_goes_down = refl

-- of two columns the first counts before the second
two_columns_are_compared_in_their_order : rows_between db t (b ∷ a ∷ []) (two 2 4) (two 3 0) ≡ (slot 4, two 5 2) ∷ []
two_columns_are_compared_in_their_order = refl

abbrev script : List Asked
script =
    ask (command.Range t (codes "i") (one 2) (one 3)) [] (rows ((slot 2, two 3 2) ∷ (slot 4, two 5 2) ∷ (slot 0, two 1 3) ∷ []))
    ∷ ask (command.Range t (codes "j") (two 1 2) (two 2 3)) [] (rows ((slot 1, two 2 1) ∷ (slot 2, two 3 2) ∷ []))
    ∷ ask (command.Range t (codes "i") (one 5) (one 9)) [] (rows [])
    ∷ []

ranges_are_answered : answers (over db) script ≡ replies_of script
ranges_are_answered = refl
