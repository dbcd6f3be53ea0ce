-- Which relations, rules and rows may be, as facts with a field each; and what pages hold.
use Rattle.std.proofs.Common.{◌≡◌, ℕ, true, false, List, [], ◌∷◌, map, refl, arith, None}
use Rattle.std.specs.Prelude.{replicate}
use Rattle.std.specs.List.{range_with_len}
use Rattle.sb_value.specs.declared.schema.Column.{Column}
use Rattle.sb_pred.specs.declared.predicate.Op.TheVariants.{Lt}
use Rattle.sb_pred.specs.declared.predicate.Term.TheVariants.{Const, New}
use Rattle.sb_pred.specs.Tree.{Compare}
use Rattle.sb_rule.specs.declared.rule.Side.TheVariants.{Main, Mirror}
use Rattle.sb_rule.specs.declared.rule.Rule.{Rule}
use Rattle.sb_rule.specs.declared.rule.Rule.TheVariants.{HashIndex, JoinIndex, Check}
use Rattle.sb_relation.specs.Content.{page_content, are_rising}
use Rattle.sb_relation.specs.Db.{Row, Db, int_column}
use Rattle.sb_relation.specs.Fits.{MayKeep, MayStand}
use Rattle.sb_relation.specs.Images.{Entry}
use Rattle.sb_relation.specs.Lawful.{IsRow, AreRows}
use Rattle.sb_pinned.proofs.Samples.{int, letters, one, two, slot, a, b, l, r, t, z, text_column, numbers, heap}
use Rattle.sb_pinned.proofs.WorkedLawful.{untrue, unfalse, some_is_not_none}

-- ---- what a method keeps
a_tree_may_be_kept : MayKeep None 2 numbers (a ∷ [])
a_tree_may_be_kept = record { named = refl; fits = refl }

not_by_a_key_that_is_not_there : MayKeep None 2 numbers (z ∷ []) → ⊥
not_by_a_key_that_is_not_there may = some_is_not_none (numbers, z) may.named

not_a_heap_with_a_key : MayKeep None 1 numbers (a ∷ []) → ⊥
not_a_heap_with_a_key may = untrue may.fits

-- ---- what may stand on t, beside r
abbrev db : Db
db = (r, heap [] []) ∷ (t, heap [] []) ∷ []

abbrev May : Rule → Type 0
May rule = MayStand None db numbers rule

a_join_may_stand : May (JoinIndex Main (a ∷ []) r (b ∷ []))
a_join_may_stand = record { there = refl; named = refl; fits = refl }

not_with_a_relation_that_is_not_there : May (JoinIndex Main (a ∷ []) z (b ∷ [])) → ⊥
not_with_a_relation_that_is_not_there may = some_is_not_none z may.there

not_with_a_column_that_is_not_there : May (JoinIndex Main (a ∷ []) r (z ∷ [])) → ⊥
not_with_a_column_that_is_not_there may = some_is_not_none (numbers, z) may.named

not_of_two_kinds : May (Check (Compare Lt (New a) (Const (letters 1))) false) → ⊥
not_of_two_kinds may = untrue may.fits

-- ---- rows
abbrev wide : ℕ → List Column
wide n = map (λ i. int_column (i ∷ [])) (range_with_len 0 n)

abbrev zeros : ℕ → Row
zeros n = replicate n (int 0)

no_row_has_no_value : IsRow [] [] → ⊥
no_row_has_no_value is = omega (arith, is.tuple.some)

no_row_has_17_values : IsRow (wide 17) (zeros 17) → ⊥
no_row_has_17_values is = omega (arith, is.tuple.few)

no_row_lacks_a_value : IsRow numbers (one 1) → ⊥
no_row_lacks_a_value is = some_is_not_none 1 is.fits

no_row_has_one_too_many : IsRow numbers (int 1 ∷ int 2 ∷ int 3 ∷ []) → ⊥
no_row_has_one_too_many is = some_is_not_none 2 is.fits

no_row_has_another_kind : IsRow numbers (letters 1 ∷ int 2 ∷ []) → ⊥
no_row_has_another_kind is = some_is_not_none 0 is.fits

no_text_is_over_its_limit : IsRow (text_column a 2 ∷ []) (letters 3 ∷ []) → ⊥
no_text_is_over_its_limit is = unfalse is.short

-- ---- all rows of a relation
keys_rise : AreRows numbers ((slot 1, two 1 1) ∷ (slot 0, two 2 2) ∷ []) → ⊥
keys_rise are = are.rising

no_key_stands_twice : AreRows numbers ((slot 1, two 1 1) ∷ (slot 1, two 2 2) ∷ []) → ⊥
no_key_stands_twice are = are.rising

-- ---- entries in order: by the first key, and then by the second
abbrev entry : ℕ → ℕ → Entry
entry m n = (m ∷ [], n ∷ [])

which_entries_rise :
    map are_rising
    ([]
    ∷ (entry 5 5 ∷ [])
    ∷ (entry 1 9 ∷ entry 2 3 ∷ entry 2 4 ∷ [])
    ∷ (entry 1 1 ∷ entry 1 1 ∷ [])
    ∷ (entry 2 3 ∷ entry 1 9 ∷ [])
    ∷ (entry 1 2 ∷ entry 1 1 ∷ [])
    ∷ (entry 1 1 ∷ entry 2 2 ∷ entry 1 3 ∷ [])
    ∷ [])
    ≡ true ∷ true ∷ true ∷ false ∷ false ∷ false ∷ false ∷ []
which_entries_rise = refl

-- ---- what pages hold
-- l (a, b) is joined with r (a, b) by b
abbrev joined : Db
joined = (l, heap [] ((slot 1, two 1 7) ∷ (slot 2, two 2 8) ∷ [])) ∷ (r, heap [] ((slot 3, two 3 7) ∷ (slot 4, two 4 9) ∷ [])) ∷ []

abbrev code : ℕ → List ℕ
code n = 128 ∷ 0 ∷ 0 ∷ 0 ∷ 0 ∷ 0 ∷ 0 ∷ n ∷ []

a_hash_index_holds_its_entries_in_its_buckets :
    page_content None joined l (HashIndex (b ∷ [])) 5 ≡ record { entries = (code 7, slot 1) ∷ (code 8, slot 2) ∷ []; sums = []; counts = []; buckets = 5 }
a_hash_index_holds_its_entries_in_its_buckets = refl

a_join_holds_its_pairs : page_content None joined l (JoinIndex Main (b ∷ []) r (b ∷ [])) 0 ≡ record { entries = (slot 1, slot 3) ∷ []; sums = []; counts = []; buckets = 0 }
a_join_holds_its_pairs = refl

-- a mirror works on the pages of its main instance: the key of l comes first
a_mirror_holds_those_of_its_main_instance :
    page_content None joined r (JoinIndex Mirror (b ∷ []) l (b ∷ [])) 0 ≡ record { entries = (slot 1, slot 3) ∷ []; sums = []; counts = []; buckets = 0 }
a_mirror_holds_those_of_its_main_instance = refl
