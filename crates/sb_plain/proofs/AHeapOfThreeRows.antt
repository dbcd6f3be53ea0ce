-- A heap picks its record keys, and a scan gives its rows in their order.
use Rattle.std.specs.Prelude.{◌≡◌, refl, codes, List, [], ◌∷◌, None}
use Rattle.std.specs.Fmt.{digits}
use Rattle.hex.specs.Hex.{encode_with}
use Rattle.sb_value.specs.declared.value.Value.TheVariants.{Text}
use Rattle.sb_rule.specs.Spelling.{number_spelling}
use Rattle.sb_relation.specs.Db.{int_column}
use Rattle.sb_plain.specs.declared.command.Command.TheVariants as command
use Rattle.sb_plain.proofs.Scripts.{Asked, ask, answers, replies_of, printed, lines_of, start, int, text_column, slot}

abbrev script : List Asked
script =
    ask (command.Create (codes "t") 1 (int_column (codes "a") ∷ text_column (codes "b") 255 ∷ []) []) (codes "create t using heap (a int, b text)") [] (codes "ok")
    ∷ ask (command.Insert (codes "t") ((int 3) ∷ (Text (codes "c")) ∷ [])) (codes "insert t values (3, 'c')") ((slot 2 0) ∷ []) (codes "ok @000000020000")
    ∷ ask (command.Insert (codes "t") ((int 1) ∷ (Text (codes "it's")) ∷ [])) (codes "insert t values (1, 'it''s')") ((slot 2 1) ∷ []) (codes "ok @000000020001")
    ∷ ask (command.Insert (codes "t") ((int 2) ∷ (Text (codes "")) ∷ [])) (codes "insert t values (2, '')") ((slot 2 2) ∷ []) (codes "ok @000000020002")
    ∷ ask (command.Scan (codes "t") None None) (codes "scan t") [] (codes "@000000020000 (3, 'c')\n@000000020001 (1, 'it''s')\n@000000020002 (2, '')\nok 3")
    ∷ []

plays : answers start script ≡ replies_of script
unfolding digits encode_with number_spelling
plays = refl

prints : printed script ≡ lines_of script
unfolding digits encode_with
prints = refl
