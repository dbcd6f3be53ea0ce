-- What is too much for a relation and for a rule.
use Rattle.std.specs.Prelude.{◌≡◌, refl, ℕ, zero, suc, true, false, codes, List, [], ◌∷◌, map, replicate, Some, None, Option, Bool}
use Rattle.sb_pred.specs.declared.predicate.Op.TheVariants.{Eq}
use Rattle.sb_pred.specs.declared.predicate.Term.{Term}
use Rattle.sb_pred.specs.declared.predicate.Term.TheVariants.{Const, New}
use Rattle.sb_pred.specs.Tree.{Tree, Always, Compare, Both, Either, Fails}
use Rattle.sb_rule.specs.declared.action.Action.TheVariants as action
use Rattle.sb_rule.specs.declared.rule.Event.TheVariants as event
use Rattle.sb_rule.specs.declared.rule.Mode.TheVariants.{Restrict}
use Rattle.sb_rule.specs.declared.rule.Side.TheVariants.{Main}
use Rattle.sb_rule.specs.declared.rule.Rule.{Rule}
use Rattle.sb_rule.specs.declared.rule.Rule.TheVariants.{TreeIndex, JoinIndex, Check, Refers, Trigger, Foreign}
use Rattle.sb_relation.specs.Db.{Relation, Db}
use Rattle.sb_relation.specs.Limits.{descriptor_len, is_large_rule, is_crowded, is_large_at, has_large_descriptor}
use Rattle.sb_fold.specs.declared.refusal.Refusal.{Refusal}
use Rattle.sb_fold.specs.declared.refusal.Refusal.TheVariants.{Limit}
use Rattle.sb_plain.specs.declared.command.Command.TheVariants as command
use Rattle.sb_plain.specs.Refusing.{refused}
use Rattle.sb_pinned.proofs.Samples.{int, letters, a, b, r, t, z, named, heap}
use Rattle.sb_pinned.proofs.Scripts.{none, over}

abbrev index : Rule
index = TreeIndex (a ∷ []) false

abbrev joins : Rule
joins = JoinIndex Main (a ∷ []) r (a ∷ [])

abbrev refers : Rule
refers = Refers Main (a ∷ []) r (a ∷ []) Restrict false

-- ---- numbers of attachments
-- so many on t, and so many on r
abbrev crowded : ℕ → ℕ → Db
crowded own others = (r, heap (replicate others (named (codes "c") (Check Always false))) []) ∷ (t, heap (replicate own (named (codes "c") (Check Always false))) []) ∷ []

abbrev no_room_on : ℕ → ℕ → List Bool
no_room_on own others = map (is_crowded (crowded own others) t) (index ∷ joins ∷ refers ∷ [])

a_17th_on_the_own_relation : no_room_on 16 0 ≡ true ∷ true ∷ true ∷ []
a_17th_on_the_own_relation = refl

-- an index stands on its own relation alone
a_17th_on_the_other_relation : no_room_on 0 16 ≡ false ∷ true ∷ true ∷ []
a_17th_on_the_other_relation = refl

a_16th_on_both : no_room_on 15 15 ≡ false ∷ false ∷ false ∷ []
a_16th_on_both = refl

-- ---- sizes of descriptors
-- 10 for the numbers and counts, 4 for each column, 1 for the key; for an attachment of one letter 12 and its bytes
abbrev with_bytes : ℕ → Relation
with_bytes n = heap (named (codes "f") (Foreign 1000 (replicate n 0)) ∷ []) []

a_descriptor_has : map (λ n. descriptor_len (with_bytes n)) (0 ∷ 1869 ∷ []) ≡ 31 ∷ 1900 ∷ []
a_descriptor_has = refl

-- so many bytes on t and on r
abbrev sized : ℕ → ℕ → Db
sized own others = (r, with_bytes others) ∷ (t, with_bytes own) ∷ []

up_to_1900_bytes : map (λ n. is_large_at (sized n 0) t) (1869 ∷ 1870 ∷ []) ≡ false ∷ true ∷ []
up_to_1900_bytes = refl

nothing_is_large_that_isn't_there : is_large_at (sized 1870 1870) z ≡ false
nothing_is_large_that_isn't_there = refl

abbrev large_of : ℕ → ℕ → List Bool
large_of own others = map (λ rule. has_large_descriptor t rule (sized own others)) (index ∷ joins ∷ refers ∷ [])

a_large_one_of_the_own_relation : large_of 1870 0 ≡ true ∷ true ∷ true ∷ []
a_large_one_of_the_own_relation = refl

a_large_one_of_the_other_relation : large_of 0 1870 ≡ false ∷ true ∷ true ∷ []
a_large_one_of_the_other_relation = refl

none_is_large : large_of 1869 1869 ≡ false ∷ false ∷ false ∷ []
none_is_large = refl

-- ---- texts in rules: each place where one may stand
abbrev is : ℕ → Tree
is n = Compare Eq (New a) (Const (letters n))

abbrev text : ℕ → Term
text n = Const (letters n)

abbrev with_text : ℕ → List Rule
with_text n =
    Check (is n) false
    ∷ Check (Compare Eq (text n) (New a)) false
    ∷ Check (Both (is n) Always) false
    ∷ Check (Both Always (is n)) false
    ∷ Check (Either (is n) Always) false
    ∷ Check (Either Always (is n)) false
    ∷ Check (Fails (is n)) true
    ∷ Trigger event.Insert (is n) (action.Delete r []) false
    ∷ Trigger event.Insert Always (action.Insert r (New a ∷ text n ∷ [])) false
    ∷ Trigger event.Insert Always (action.Delete r ((a, New a) ∷ (b, text n) ∷ [])) false
    ∷ Trigger event.Insert Always (action.Set r a (text n) []) false
    ∷ Trigger event.Insert Always (action.Set r a (New a) ((b, text n) ∷ [])) false
    ∷ Trigger event.Insert Always (action.Add r a (text n) []) true
    ∷ Trigger event.Insert Always (action.Add r a (Const (int 1)) ((b, text n) ∷ [])) true
    ∷ []

a_text_of_256_bytes_anywhere_is_too_large : map is_large_rule (with_text 256) ≡ replicate 14 true
a_text_of_256_bytes_anywhere_is_too_large = refl

one_of_255_bytes_is_not : map is_large_rule (with_text 255) ≡ replicate 14 false
one_of_255_bytes_is_not = refl

-- ---- an attach is refused for each of them
abbrev nested : ℕ → Tree
nested zero = Always
nested (suc n) = Fails (nested n)

abbrev attaching : Db → Rule → Option Refusal
attaching db rule = refused none (over db) (command.Attach t (codes "i") rule)

an_attach_of_33_nodes_is_refused : map (λ n. attaching (crowded 0 0) (Check (nested n) false)) (31 ∷ 32 ∷ []) ≡ None ∷ Some Limit ∷ []
an_attach_of_33_nodes_is_refused = refl

a_17th_attachment_is_refused : map (λ n. attaching (crowded n 0) index) (15 ∷ 16 ∷ []) ≡ None ∷ Some Limit ∷ []
a_17th_attachment_is_refused = refl

a_17th_mirror_is_refused : map (λ n. attaching (crowded 0 n) joins) (15 ∷ 16 ∷ []) ≡ None ∷ Some Limit ∷ []
a_17th_mirror_is_refused = refl

-- the index adds 16 bytes
a_large_descriptor_is_refused : map (λ n. attaching (sized n 0) index) (1853 ∷ 1854 ∷ []) ≡ None ∷ Some Limit ∷ []
a_large_descriptor_is_refused = refl

-- the mirror, under the name t.i, adds 23 bytes
a_large_descriptor_of_the_other_relation_is_refused : map (λ n. attaching (sized 0 n) joins) (1846 ∷ 1847 ∷ []) ≡ None ∷ Some Limit ∷ []
a_large_descriptor_of_the_other_relation_is_refused = refl
