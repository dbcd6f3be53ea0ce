-- An update that picks another record key: each index follows.
use Rattle.std.specs.Prelude.{◌≡◌, refl, codes, List, [], ◌∷◌, ◌++◌, false}
use Rattle.std.specs.Fmt.{digits}
use Rattle.hex.specs.Hex.{encode_with}
use Rattle.sb_value.specs.declared.value.Value.TheVariants.{Text}
use Rattle.sb_rule.specs.declared.rule.Rule.TheVariants.{TreeIndex}
use Rattle.sb_rule.specs.Spelling.{number_spelling}
use Rattle.sb_relation.specs.Db.{int_column}
use Rattle.sb_plain.specs.declared.command.Command.TheVariants as command
use Rattle.sb_plain.proofs.Scripts.{Asked, ask, answers, replies_of, printed, lines_of, start, int, text_column, slot, letters}

abbrev script : List Asked
script =
    ask (command.Create (codes "t") 1 (int_column (codes "k") ∷ text_column (codes "a") 255 ∷ text_column (codes "b") 255 ∷ text_column (codes "c") 255 ∷ text_column (codes "d") 255 ∷ []) []) (codes "create t using heap (k int, a text, b text, c text, d text)") [] (codes "ok")
    ∷ ask (command.Attach (codes "t") (codes "ix") (TreeIndex ((codes "k") ∷ []) false)) (codes "attach treeindex ix on t (k)") [] (codes "ok")
    ∷ ask (command.Insert (codes "t") ((int 1) ∷ (Text (letters 255 120)) ∷ (Text (letters 255 120)) ∷ (Text (letters 255 120)) ∷ (Text (letters 217 121)) ∷ [])) (codes "insert t values (1, '" ++ letters 255 120 ++ codes "', '" ++ letters 255 120 ++ codes "', '" ++ letters 255 120 ++ codes "', '" ++ letters 217 121 ++ codes "')") ((slot 2 0) ∷ []) (codes "ok @000000020000")
    ∷ ask (command.Insert (codes "t") ((int 2) ∷ (Text (letters 255 120)) ∷ (Text (letters 255 120)) ∷ (Text (letters 255 120)) ∷ (Text (letters 217 121)) ∷ [])) (codes "insert t values (2, '" ++ letters 255 120 ++ codes "', '" ++ letters 255 120 ++ codes "', '" ++ letters 255 120 ++ codes "', '" ++ letters 217 121 ++ codes "')") ((slot 2 1) ∷ []) (codes "ok @000000020001")
    ∷ ask (command.Insert (codes "t") ((int 3) ∷ (Text (letters 255 120)) ∷ (Text (letters 255 120)) ∷ (Text (letters 255 120)) ∷ (Text (letters 217 121)) ∷ [])) (codes "insert t values (3, '" ++ letters 255 120 ++ codes "', '" ++ letters 255 120 ++ codes "', '" ++ letters 255 120 ++ codes "', '" ++ letters 217 121 ++ codes "')") ((slot 2 2) ∷ []) (codes "ok @000000020002")
    ∷ ask (command.Insert (codes "t") ((int 4) ∷ (Text (codes "")) ∷ (Text (codes "")) ∷ (Text (codes "")) ∷ (Text (codes "")) ∷ [])) (codes "insert t values (4, '', '', '', '')") ((slot 2 3) ∷ []) (codes "ok @000000020003")
    ∷ ask (command.Insert (codes "t") ((int 5) ∷ (Text (letters 255 120)) ∷ (Text (letters 255 120)) ∷ (Text (letters 255 120)) ∷ (Text (letters 217 121)) ∷ [])) (codes "insert t values (5, '" ++ letters 255 120 ++ codes "', '" ++ letters 255 120 ++ codes "', '" ++ letters 255 120 ++ codes "', '" ++ letters 217 121 ++ codes "')") ((slot 2 4) ∷ []) (codes "ok @000000020004")
    ∷ ask (command.Update (codes "t") (slot 2 3) ((int 4) ∷ (Text (letters 255 120)) ∷ (Text (letters 255 120)) ∷ (Text (letters 255 120)) ∷ (Text (letters 217 121)) ∷ [])) (codes "update t @000000020003 values (4, '" ++ letters 255 120 ++ codes "', '" ++ letters 255 120 ++ codes "', '" ++ letters 255 120 ++ codes "', '" ++ letters 217 121 ++ codes "')") ((slot 4 0) ∷ []) (codes "ok @000000040000")
    ∷ ask (command.Entries (codes "t") (codes "ix")) (codes "entries ix on t") [] (codes "@8000000000000001 @000000020000\n@8000000000000002 @000000020001\n@8000000000000003 @000000020002\n@8000000000000004 @000000040000\n@8000000000000005 @000000020004\nok 5")
    ∷ []

plays : answers start script ≡ replies_of script
unfolding digits encode_with number_spelling
plays = refl

prints : printed script ≡ lines_of script
unfolding digits encode_with
prints = refl
