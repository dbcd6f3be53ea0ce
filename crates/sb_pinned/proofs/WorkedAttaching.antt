-- What an attach tests and builds, and what goes with a relation or a rule.
use Rattle.std.specs.Prelude.{◌≡◌, refl, ℕ, true, false, codes, List, [], ◌∷◌, map, pos}
use Rattle.sb_pred.specs.declared.predicate.Op.TheVariants.{Lt}
use Rattle.sb_pred.specs.declared.predicate.Term.TheVariants.{Const, New}
use Rattle.sb_pred.specs.Tree.{Compare}
use Rattle.sb_rule.specs.declared.rule.Mode.TheVariants.{Restrict, Cascade}
use Rattle.sb_rule.specs.declared.rule.Side.TheVariants.{Main, Mirror}
use Rattle.sb_rule.specs.declared.rule.Rule.{Rule}
use Rattle.sb_rule.specs.declared.rule.Rule.TheVariants.{TreeIndex, HashIndex, JoinIndex, Stats, Check, Refers}
use Rattle.sb_relation.specs.Build.{with_rule}
use Rattle.sb_relation.specs.Db.{Attached, Db}
use Rattle.sb_fold.specs.declared.refusal.Refusal.TheVariants.{TooLong, Veto, InUse}
use Rattle.sb_fold.specs.Building.{without_rule, without_relation}
use Rattle.sb_fold.specs.Fold.{attachments_at}
use Rattle.sb_plain.specs.declared.command.Command.TheVariants as command
use Rattle.sb_pinned.proofs.Samples.{int, letters, two, slot, a, b, l, r, t, text_column, named, relation, heap, many}
use Rattle.sb_pinned.proofs.Scripts.{Asked, ask, answers, replies_of, over, ok, no}

-- ---- buckets over rows that stand
abbrev buckets_over : Rule → ℕ → List ℕ
buckets_over rule n = map (λ x. x.buckets) (attachments_at (with_rule ((t, heap [] (many n)) ∷ []) t (codes "h") rule) t)

-- 4 for 32 rows, and one more for each 8 rows more
a_hash_index_has_the_buckets_of_its_rows : map (buckets_over (HashIndex (a ∷ []))) (0 ∷ 32 ∷ 33 ∷ 41 ∷ []) ≡ (4 ∷ []) ∷ (4 ∷ []) ∷ (5 ∷ []) ∷ (6 ∷ []) ∷ []
a_hash_index_has_the_buckets_of_its_rows = refl

other_rules_have_no_buckets : map (λ rule. buckets_over rule 33) (TreeIndex (a ∷ []) false ∷ Stats a (pos 0) (pos 1) ∷ []) ≡ (0 ∷ []) ∷ (0 ∷ []) ∷ []
other_rules_have_no_buckets = refl

-- ---- what an attach tests
-- two rows with one text of 199 letters, whose code has 201 bytes; two with one number
abbrev filled : Db
filled =
    (l, relation 1 (text_column a 255 ∷ []) [] [] ((slot 0, letters 199 ∷ []) ∷ (slot 1, letters 199 ∷ []) ∷ []))
    ∷ (r, heap [] ((slot 0, two 1 9) ∷ (slot 1, two 2 9) ∷ []))
    ∷ (t, heap [] ((slot 0, two 1 1) ∷ []))
    ∷ []

abbrev small : Rule
small = Check (Compare Lt (New b) (Const (int 9))) true

abbrev refers : Rule
refers = Refers Main (b ∷ []) t (a ∷ []) Restrict true

-- a row that is too long comes before two rows that agree; what is deferred is tested over the rows that stand too, and at once: no commit comes
abbrev attaching : List Asked
attaching =
    ask command.Begin [] ok
    ∷ ask (command.Attach l (codes "i") (TreeIndex (a ∷ []) true)) [] (no (TooLong l))
    ∷ ask (command.Attach l (codes "i") (HashIndex (a ∷ []))) [] (no (TooLong l))
    ∷ ask (command.Attach r (codes "i") (TreeIndex (b ∷ []) true)) [] (no (Veto r (codes "i")))
    ∷ ask (command.Attach r (codes "c") small) [] (no (Veto r (codes "c")))
    ∷ ask (command.Attach r (codes "f") refers) [] (no (Veto r (codes "f")))
    ∷ ask (command.Attach t (codes "c") small) [] ok
    ∷ ask (command.Attach t (codes "f") refers) [] ok
    ∷ []

an_attach_tests_lengths_and_then_its_rule : answers (over filled) attaching ≡ replies_of attaching
an_attach_tests_lengths_and_then_its_rule = refl

-- ---- mirrors go with their main instances
abbrev joins : Rule
joins = JoinIndex Main (b ∷ []) r (a ∷ [])

abbrev falls : Rule
falls = Refers Main (b ∷ []) t (a ∷ []) Cascade false

abbrev index : Attached
index = named (codes "i") (TreeIndex (a ∷ []) false)

-- l is joined with r and refers to t; r has an index of its own
abbrev tied : Db
tied =
    (l, heap (index ∷ named (codes "j") joins ∷ named (codes "f") falls ∷ []) [])
    ∷ (r, heap (index ∷ named (codes "l.j") (JoinIndex Mirror (a ∷ []) l (b ∷ [])) ∷ []) [])
    ∷ (t, heap (named (codes "l.f") (Refers Mirror (a ∷ []) l (b ∷ []) Cascade false) ∷ []) [])
    ∷ []

both_mirrors_go_with_a_relation : without_relation tied l ≡ (r, heap (index ∷ []) []) ∷ (t, heap [] []) ∷ []
both_mirrors_go_with_a_relation = refl

a_mirror_goes_with_its_rule :
    without_rule tied l (named (codes "j") joins)
    ≡ (l, heap (index ∷ named (codes "f") falls ∷ []) [])
    ∷ (r, heap (index ∷ []) [])
    ∷ (t, heap (named (codes "l.f") (Refers Mirror (a ∷ []) l (b ∷ []) Cascade false) ∷ []) [])
    ∷ []
a_mirror_goes_with_its_rule = refl

-- no instance of a join or a reference is left
abbrev dropping : List Asked
dropping =
    ask (command.Retire false 3) [] (no (InUse l (codes "j")))
    ∷ ask (command.Drop l) [] ok
    ∷ ask (command.Retire false 3) [] ok
    ∷ ask (command.Retire false 6) [] ok
    ∷ ask (command.Retire false 1) [] (no (InUse r (codes "i")))
    ∷ []

a_drop_leaves_no_mirror : answers (over tied) dropping ≡ replies_of dropping
a_drop_leaves_no_mirror = refl
