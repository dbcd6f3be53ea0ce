-- A tree has its rows in the order of the key, with the least and the greatest number; a key that stands, and one that does not.
use Rattle.std.specs.Prelude.{◌≡◌, refl, codes, List, [], ◌∷◌, negsuc, Some, None}
use Rattle.std.specs.Fmt.{digits}
use Rattle.hex.specs.Hex.{encode_with}
use Rattle.sb_value.specs.declared.value.Value.TheVariants.{Int}
use Rattle.sb_rule.specs.Spelling.{number_spelling}
use Rattle.sb_relation.specs.Db.{int_column}
use Rattle.sb_plain.specs.declared.command.Command.TheVariants as command
use Rattle.sb_plain.proofs.Scripts.{Asked, ask, answers, replies_of, printed, lines_of, start, spare, int, key}

abbrev script : List Asked
script =
    ask (command.Create (codes "n") 2 (int_column (codes "k") ∷ []) ((codes "k") ∷ [])) (codes "create n using tree (k int) key (k)") [] (codes "ok")
    ∷ ask (command.Insert (codes "n") ((int 0) ∷ [])) (codes "insert n values (0)") [] (codes "ok @8000000000000000")
    ∷ ask (command.Insert (codes "n") ((Int (negsuc 0)) ∷ [])) (codes "insert n values (-1)") [] (codes "ok @7fffffffffffffff")
    ∷ ask (command.Insert (codes "n") ((int 9223372036854775807) ∷ [])) (codes "insert n values (9223372036854775807)") [] (codes "ok @ffffffffffffffff")
    ∷ ask (command.Insert (codes "n") ((Int (negsuc 9223372036854775807)) ∷ [])) (codes "insert n values (-9223372036854775808)") [] (codes "ok @0000000000000000")
    ∷ ask (command.Scan (codes "n") None None) (codes "scan n") [] (codes "@0000000000000000 (-9223372036854775808)\n@7fffffffffffffff (-1)\n@8000000000000000 (0)\n@ffffffffffffffff (9223372036854775807)\nok 4")
    ∷ ask (command.Insert (codes "n") ((int 0) ∷ [])) (codes "insert n values (0)") spare (codes "! duplicate n")
    ∷ ask (command.Scan (codes "n") None (Some 1)) (codes "scan n limit 1") [] (codes "@0000000000000000 (-9223372036854775808)\nok 1")
    ∷ ask (command.Get (codes "n") (key 1)) (codes "get n @8000000000000001") spare (codes "! norecord n")
    ∷ []

plays : answers start script ≡ replies_of script
unfolding digits encode_with number_spelling
plays = refl

prints : printed script ≡ lines_of script
unfolding digits encode_with
prints = refl
