-- Worked examples of the pages that instances take, and of those that a database needs at a point.
use Rattle.std.specs.Prelude.{◌≡◌, refl, ℕ, ◌+◌, codes, List, [], ◌∷◌, ◌++◌, true, false, map, pos, Option, Some, None}
use Rattle.sb_pred.specs.Tree.{Always}
use Rattle.sb_rule.specs.declared.action.Action.TheVariants as action
use Rattle.sb_rule.specs.declared.change.Change.{Change}
use Rattle.sb_rule.specs.declared.change.Change.TheVariants.{Insert, Delete}
use Rattle.sb_rule.specs.declared.rule.Event.TheVariants as event
use Rattle.sb_rule.specs.declared.rule.Mode.TheVariants.{Restrict, Cascade}
use Rattle.sb_rule.specs.declared.rule.Side.TheVariants.{Main, Mirror}
use Rattle.sb_rule.specs.declared.rule.Rule.{Rule}
use Rattle.sb_rule.specs.declared.rule.Rule.TheVariants.{HashIndex, JoinIndex, Stats, Check, Refers, Trigger, Foreign}
use Rattle.sb_relation.specs.Db.{Name, Rows, Db}
use Rattle.sb_fold.specs.Bounds.{plain_bound, method_bound, rule_bound, attached_bound}
use Rattle.sb_fold.specs.Extensions.{Extensions}
use Rattle.sb_fold.specs.Need.{pairs_cost, rule_weight, bound_before, relation_weight, need, at_rest}
use Rattle.sb_fold.specs.Outcome.{Gone, Reached}
use Rattle.sb_fold.proofs.Samples.{two, rows, named, relation, alone, index, pairs, pairs_mirror, left, left_rows, right_rows, joined, both, none, guests}

-- ---- bounds
of_so_many : map plain_bound (0 ∷ 1 ∷ 5 ∷ []) ≡ 3 ∷ 5 ∷ 13 ∷ []
of_so_many = refl

abbrev method_bounds : Extensions → List ℕ → List ℕ
method_bounds ext methods = map (λ method. method_bound ext (relation method [] (rows 4))) methods

of_methods : method_bounds none (1 ∷ 2 ∷ 3 ∷ 1000 ∷ []) ≡ 11 ∷ 11 ∷ 11 ∷ 11 ∷ []
of_methods = refl

of_guests : method_bounds guests (1 ∷ 2 ∷ 3 ∷ 1000 ∷ 1001 ∷ 1002 ∷ []) ≡ 11 ∷ 11 ∷ 11 ∷ 17 ∷ 6 ∷ 11 ∷ []
of_guests = refl

-- two pages for each bucket of a hash index besides
abbrev rules : List Rule
rules =
    index
    ∷ HashIndex (codes "b" ∷ [])
    ∷ pairs
    ∷ JoinIndex Mirror (codes "b" ∷ []) (codes "s") (codes "c" ∷ [])
    ∷ Stats (codes "b") (pos 0) (pos 1)
    ∷ Check Always false
    ∷ Refers Main (codes "b" ∷ []) (codes "s") (codes "c" ∷ []) Cascade false
    ∷ Refers Mirror (codes "b" ∷ []) (codes "s") (codes "c" ∷ []) Restrict true
    ∷ Trigger event.Insert Always (action.Delete (codes "s") []) false
    ∷ Foreign 1000 (5 ∷ 5 ∷ [])
    ∷ Foreign 1001 []
    ∷ Foreign 1002 []
    ∷ []

-- over the two rows of l, which make four pairs with s, with five buckets
of_rules : map (λ rule. rule_bound guests both (codes "l") rule 5) rules ≡ 7 ∷ 17 ∷ 11 ∷ 0 ∷ 3 ∷ 0 ∷ 0 ∷ 0 ∷ 0 ∷ 5222 ∷ 6 ∷ 0 ∷ []
of_rules = refl

of_attachments : map (attached_bound none both (codes "l")) (named (HashIndex (codes "b" ∷ [])) 4 ∷ named (HashIndex (codes "b" ∷ [])) 6 ∷ []) ≡ 15 ∷ 19 ∷ []
of_attachments = refl

-- ---- what a change edits of the pairs of l and s: one side, the other, neither
abbrev pairs_in : Option (Name × Change) → ℕ
pairs_in = pairs_cost none both (codes "l") (codes "b" ∷ []) (codes "s") (codes "c" ∷ [])

edited_pairs :
    map pairs_in (None ∷ Some (codes "l", Insert (3 ∷ []) (two 3 7)) ∷ Some (codes "s", Insert (9 ∷ []) (two 7 9)) ∷ Some (codes "t", Insert (9 ∷ []) (two 7 7)) ∷ []) ≡ 0 ∷ 72 ∷ 19 ∷ 0 ∷ []
edited_pairs = refl

-- ---- points
abbrev nothing_aside : Gone
nothing_aside = record { durable = []; others = [] }

abbrev between : Db → Db → Name → Change → Reached
between before after name c = record { before = before; after = after; change = Some (name, c); aside = nothing_aside; spent = 0 }

-- a row comes in l, and makes three pairs; it goes again
abbrev more_rows : Rows
more_rows = left_rows ++ (3 ∷ [], two 3 7) ∷ []

abbrev grown : Db
grown = joined more_rows right_rows

abbrev growing : Reached
growing = between both grown (codes "l") (Insert (3 ∷ []) (two 3 7))

abbrev shrinking : Reached
shrinking = between grown both (codes "l") (Delete (3 ∷ []) (two 3 7))

abbrev weights : Reached → List ℕ
weights at = map (λ rule. rule_weight none at (codes "l") (named rule 0) rule) (index ∷ pairs ∷ pairs_mirror ∷ [])

-- an index has the greater of its pages before and after; the pairs have those before, 4 of them or 7, with what is edited: 3 times 24, or 3 times 24
of_growing : weights growing ≡ 9 ∷ 83 ∷ 0 ∷ []
of_growing = refl

of_shrinking : weights shrinking ≡ 9 ∷ 89 ∷ 0 ∷ []
of_shrinking = refl

-- the buckets after the change count
of_buckets : map (λ buckets. rule_weight none growing (codes "l") (named (HashIndex (codes "b" ∷ [])) buckets) (HashIndex (codes "b" ∷ []))) (4 ∷ 5 ∷ []) ≡ 17 ∷ 19 ∷ []
of_buckets = refl

before_it_was_there : bound_before none None ≡ 0
before_it_was_there = refl

-- two for the catalogue, then the greater bound of the rows, an index and the pairs
of_relations : map (λ at. relation_weight none at (codes "l") (left (rows 3))) (growing ∷ shrinking ∷ []) ≡ (2 + 9 + (9 + 83)) ∷ (2 + 9 + (9 + 89)) ∷ []
of_relations = refl

of_a_smaller_one : relation_weight none shrinking (codes "l") (left left_rows) ≡ 2 + 9 + (9 + 89)
of_a_smaller_one = refl

of_a_new_one : relation_weight none (at_rest []) (codes "l") (relation 1 [] (rows 3)) ≡ 2 + 9
of_a_new_one = refl

-- ---- needs
-- 3; of l 2, its rows 7, an index 7 and four pairs 11; of s 2 and its rows 11
a_database_at_rest : need none true (at_rest both) ≡ 3 + (2 + 7 + 7 + 11) + (2 + 11)
a_database_at_rest = refl

-- 3; of t 2, its row 5 and an index 5
the_others : need none false (at_rest both) ≡ 3 + (2 + 5 + 5)
the_others = refl

an_empty_one : map (λ durable. need none durable (at_rest [])) (true ∷ false ∷ []) ≡ 3 ∷ 3 ∷ []
an_empty_one = refl

of_guests' : map (λ durable. need guests durable (at_rest (alone 1001 [] 4))) (true ∷ false ∷ []) ≡ 3 ∷ (3 + 2 + 6) ∷ []
of_guests' = refl

-- a row comes, while pages are held aside
abbrev with_aside : Reached
with_aside = record growing { aside = record { durable = 5 ∷ 7 ∷ []; others = 100 ∷ 30 ∷ [] } }

while_it_grows : map (λ durable. need none durable with_aside) (true ∷ false ∷ []) ≡ (3 + (2 + 9 + 9 + 83) + (2 + 11) + 12) ∷ (3 + (2 + 5 + 5) + 130) ∷ []
while_it_grows = refl

-- of a row of s that goes the pairs of l are edited
while_s_shrinks :
    need none true (between both (joined left_rows ((2 ∷ [], two 7 2) ∷ (3 ∷ [], two 7 3) ∷ (4 ∷ [], two 8 4) ∷ [])) (codes "s") (Delete (1 ∷ []) (two 7 1))) ≡ 3 + (2 + 7 + 7 + (11 + 19)) + (2 + 11)
while_s_shrinks = refl
