-- A join index has each pair of rows that join, and holds the other relation in use.
use Rattle.std.specs.Prelude.{◌≡◌, refl, codes, List, [], ◌∷◌}
use Rattle.std.specs.Fmt.{digits}
use Rattle.hex.specs.Hex.{encode_with}
use Rattle.sb_rule.specs.declared.rule.Side.TheVariants.{Main}
use Rattle.sb_rule.specs.declared.rule.Rule.TheVariants.{JoinIndex}
use Rattle.sb_rule.specs.Spelling.{number_spelling}
use Rattle.sb_relation.specs.Db.{int_column}
use Rattle.sb_plain.specs.declared.command.Command.TheVariants as command
use Rattle.sb_plain.proofs.Scripts.{Asked, ask, answers, replies_of, printed, lines_of, start, spare, int, key}

abbrev script : List Asked
script =
    ask (command.Create (codes "l") 2 (int_column (codes "k") ∷ int_column (codes "v") ∷ []) ((codes "k") ∷ [])) (codes "create l using tree (k int, v int) key (k)") [] (codes "ok")
    ∷ ask (command.Create (codes "r") 2 (int_column (codes "k") ∷ int_column (codes "v") ∷ []) ((codes "k") ∷ [])) (codes "create r using tree (k int, v int) key (k)") [] (codes "ok")
    ∷ ask (command.Attach (codes "l") (codes "j") (JoinIndex Main ((codes "v") ∷ []) (codes "r") ((codes "v") ∷ []))) (codes "attach joinindex j on l (v) with r (v)") [] (codes "ok")
    ∷ ask (command.Insert (codes "r") ((int 1) ∷ (int 5) ∷ [])) (codes "insert r values (1, 5)") [] (codes "ok @8000000000000001")
    ∷ ask (command.Insert (codes "l") ((int 1) ∷ (int 5) ∷ [])) (codes "insert l values (1, 5)") [] (codes "ok @8000000000000001")
    ∷ ask (command.Insert (codes "l") ((int 2) ∷ (int 5) ∷ [])) (codes "insert l values (2, 5)") [] (codes "ok @8000000000000002")
    ∷ ask (command.Insert (codes "r") ((int 2) ∷ (int 5) ∷ [])) (codes "insert r values (2, 5)") [] (codes "ok @8000000000000002")
    ∷ ask (command.Insert (codes "r") ((int 3) ∷ (int 6) ∷ [])) (codes "insert r values (3, 6)") [] (codes "ok @8000000000000003")
    ∷ ask (command.Entries (codes "l") (codes "j")) (codes "entries j on l") [] (codes "@8000000000000001 @8000000000000001\n@8000000000000001 @8000000000000002\n@8000000000000002 @8000000000000001\n@8000000000000002 @8000000000000002\nok 4")
    ∷ ask (command.Delete (codes "r") (key 1)) (codes "delete r @8000000000000001") [] (codes "ok")
    ∷ ask (command.Entries (codes "l") (codes "j")) (codes "entries j on l") [] (codes "@8000000000000001 @8000000000000002\n@8000000000000002 @8000000000000002\nok 2")
    ∷ ask (command.Drop (codes "r")) (codes "drop r") spare (codes "! inuse l j")
    ∷ []

plays : answers start script ≡ replies_of script
unfolding digits encode_with number_spelling
plays = refl

prints : printed script ≡ lines_of script
unfolding digits encode_with
prints = refl
