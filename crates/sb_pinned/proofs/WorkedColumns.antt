-- Indexes over two columns, in which both count.
use Rattle.std.specs.Prelude.{◌≡◌, refl, true, false, codes, List, [], ◌∷◌, map, None}
use Rattle.sb_rule.specs.declared.change.Change.TheVariants.{Insert}
use Rattle.sb_rule.specs.declared.rule.Rule.{Rule}
use Rattle.sb_rule.specs.declared.rule.Rule.TheVariants.{TreeIndex, JoinIndex}
use Rattle.sb_rule.specs.declared.rule.Side.TheVariants.{Main, Mirror}
use Rattle.sb_relation.specs.Db.{Name, Row, Db}
use Rattle.sb_relation.specs.Images.{Entry, image, page_image, entries_only}
use Rattle.sb_relation.specs.Rules.{admits, holds}
use Rattle.sb_fold.specs.declared.refusal.Refusal.TheVariants.{Veto}
use Rattle.sb_plain.specs.declared.command.Command.TheVariants as command
use Rattle.sb_plain.specs.declared.reply.Reply.{Reply}
use Rattle.sb_plain.specs.declared.reply.Reply.TheVariants.{Entries}
use Rattle.sb_pinned.proofs.Samples.{two, number, a, b, l, r, t, temp}
use Rattle.sb_pinned.proofs.Scripts.{Asked, ask, answers, replies_of, over, ok, keyed, no}

-- ---- unique indexes: no two rows agree in both columns
abbrev unique : List Name → Rule
unique columns = TreeIndex columns true

-- (1, 1), and beside it a row that agrees in the first column, in the second, and in both
abbrev beside : Row → Db
beside row = (t, temp [] ((number 1, two 1 1) ∷ (number 2, row) ∷ [])) ∷ []

abbrev others : List Row
others = two 1 2 ∷ two 2 1 ∷ two 1 1 ∷ []

a_new_row_may_agree_in_one_of_two_columns : map (λ row. admits None (beside row) t (unique (a ∷ b ∷ [])) (Insert (number 2) row)) others ≡ true ∷ true ∷ false ∷ []
a_new_row_may_agree_in_one_of_two_columns = refl

two_rows_may_agree_in_one_of_two_columns : map (λ row. holds None (beside row) t (unique (a ∷ b ∷ []))) others ≡ true ∷ true ∷ false ∷ []
two_rows_may_agree_in_one_of_two_columns = refl

-- the rows of r agree in both, those of t in a
abbrev standing : Db
standing =
    (r, temp [] ((number 1, two 5 5) ∷ (number 2, two 5 5) ∷ []))
    ∷ (t, temp [] ((number 1, two 1 1) ∷ (number 2, two 1 2) ∷ []))
    ∷ []

abbrev i : Name
i = codes "i"

abbrev indexing : List Asked
indexing =
    ask (command.Attach r i (unique (a ∷ b ∷ []))) [] (no (Veto r i))
    ∷ ask (command.Attach t i (unique (a ∷ []))) [] (no (Veto t i))
    ∷ ask (command.Attach t i (unique (a ∷ b ∷ []))) [] ok
    ∷ ask (command.Insert t (two 1 2)) [] (no (Veto t i))
    ∷ ask (command.Insert t (two 1 3)) [] (keyed (number 3))
    ∷ ask (command.Update t (number 3) (two 1 1)) [] (no (Veto t i))
    ∷ ask (command.Update t (number 3) (two 2 1)) [] (keyed (number 3))
    ∷ []

a_unique_index_has_two_columns : answers (over standing) indexing ≡ replies_of indexing
a_unique_index_has_two_columns = refl

-- ---- joins: l (b, a) with r (a, b)
-- both rows of l have 7 in b, as three rows of r have in a; 1 stands in b of two rows of r
abbrev paired : Db
paired =
    (l, temp [] ((number 1, two 1 7) ∷ (number 2, two 2 7) ∷ []))
    ∷ (r, temp [] ((number 1, two 7 1) ∷ (number 2, two 7 2) ∷ (number 3, two 7 3) ∷ (number 4, two 8 1) ∷ []))
    ∷ []

abbrev joins : Rule
joins = JoinIndex Main (b ∷ a ∷ []) r (a ∷ b ∷ [])

two_rows_join_that_agree_in_both_columns : image None paired l joins ≡ entries_only ((number 1, number 1) ∷ (number 2, number 2) ∷ [])
two_rows_join_that_agree_in_both_columns = refl

its_mirror_works_on_these : page_image None paired r (JoinIndex Mirror (a ∷ b ∷ []) l (b ∷ a ∷ [])) ≡ entries_only ((number 1, number 1) ∷ (number 2, number 2) ∷ [])
its_mirror_works_on_these = refl

abbrev pairs : List Entry → Reply
pairs entries = Entries (entries_only entries)

abbrev j : Name
j = codes "j"

abbrev joining : List Asked
joining =
    ask (command.Attach l j joins) [] ok
    ∷ ask (command.Entries l j) [] (pairs ((number 1, number 1) ∷ (number 2, number 2) ∷ []))
    ∷ ask (command.Insert r (two 7 2)) [] (keyed (number 5))
    ∷ ask (command.Entries l j) [] (pairs ((number 1, number 1) ∷ (number 2, number 2) ∷ (number 2, number 5) ∷ []))
    ∷ ask (command.Update l (number 1) (two 3 7)) [] (keyed (number 1))
    ∷ ask (command.Entries l j) [] (pairs ((number 1, number 3) ∷ (number 2, number 2) ∷ (number 2, number 5) ∷ []))
    ∷ []

a_join_has_two_columns : answers (over paired) joining ≡ replies_of joining
a_join_has_two_columns = refl
