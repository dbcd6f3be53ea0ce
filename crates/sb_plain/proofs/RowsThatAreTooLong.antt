-- A row of 1,000 bytes is stored, one of 1,001 is not, nor is a text over its limit; a byte 0 in a key.
use Rattle.std.specs.Prelude.{◌≡◌, refl, codes, List, [], ◌∷◌, ◌++◌, false}
use Rattle.std.specs.Fmt.{digits}
use Rattle.hex.specs.Hex.{encode_with}
use Rattle.sb_value.specs.declared.value.Value.TheVariants.{Text}
use Rattle.sb_rule.specs.declared.rule.Rule.TheVariants.{TreeIndex}
use Rattle.sb_rule.specs.Spelling.{number_spelling}
use Rattle.sb_relation.specs.Db.{int_column}
use Rattle.sb_plain.specs.declared.command.Command.TheVariants as command
use Rattle.sb_plain.proofs.Scripts.{Asked, ask, answers, replies_of, printed, lines_of, start, spare, int, text_column, slot, letters}

abbrev script : List Asked
script =
    ask (command.Create (codes "t") 1 (int_column (codes "k") ∷ text_column (codes "a") 255 ∷ text_column (codes "b") 255 ∷ text_column (codes "c") 255 ∷ text_column (codes "d") 255 ∷ []) []) (codes "create t using heap (k int, a text, b text, c text, d text)") [] (codes "ok")
    ∷ ask (command.Attach (codes "t") (codes "ix") (TreeIndex ((codes "k") ∷ []) false)) (codes "attach treeindex ix on t (k)") [] (codes "ok")
    ∷ ask (command.Insert (codes "t") ((int 1) ∷ (Text (letters 255 120)) ∷ (Text (letters 255 120)) ∷ (Text (letters 255 120)) ∷ (Text (letters 217 121)) ∷ [])) (codes "insert t values (1, '" ++ letters 255 120 ++ codes "', '" ++ letters 255 120 ++ codes "', '" ++ letters 255 120 ++ codes "', '" ++ letters 217 121 ++ codes "')") ((slot 2 0) ∷ []) (codes "ok @000000020000")
    ∷ ask (command.Insert (codes "t") ((int 1) ∷ (Text (letters 255 120)) ∷ (Text (letters 255 120)) ∷ (Text (letters 255 120)) ∷ (Text (letters 218 121)) ∷ [])) (codes "insert t values (1, '" ++ letters 255 120 ++ codes "', '" ++ letters 255 120 ++ codes "', '" ++ letters 255 120 ++ codes "', '" ++ letters 218 121 ++ codes "')") spare (codes "! toolong t")
    ∷ ask (command.Insert (codes "t") ((int 1) ∷ (Text (letters 256 120)) ∷ (Text (letters 255 120)) ∷ (Text (letters 255 120)) ∷ (Text (letters 217 121)) ∷ [])) (codes "insert t values (1, '" ++ letters 256 120 ++ codes "', '" ++ letters 255 120 ++ codes "', '" ++ letters 255 120 ++ codes "', '" ++ letters 217 121 ++ codes "')") spare (codes "! toolong t")
    ∷ ask (command.Create (codes "z") 2 (text_column (codes "a") 255 ∷ []) ((codes "a") ∷ [])) (codes "create z using tree (a text) key (a)") [] (codes "ok")
    ∷ ask (command.Insert (codes "z") ((Text (codes "a")) ∷ [])) (codes "insert z values ('a')") [] (codes "ok @610000")
    ∷ ask (command.Insert (codes "z") ((Text (97 ∷ 0 ∷ [])) ∷ [])) (codes "insert z values ('a" ++ 0 ∷ codes "')") [] (codes "ok @6100ff0000")
    ∷ []

plays : answers start script ≡ replies_of script
unfolding digits encode_with number_spelling
plays = refl

prints : printed script ≡ lines_of script
unfolding digits encode_with
prints = refl
