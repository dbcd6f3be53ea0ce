-- A cascade of 17 levels is refused and leaves all; one of 16 is not.
use Rattle.std.specs.Prelude.{◌≡◌, refl, codes, List, [], ◌∷◌, false, None}
use Rattle.std.specs.Fmt.{digits}
use Rattle.hex.specs.Hex.{encode_with}
use Rattle.sb_rule.specs.declared.rule.Side.TheVariants.{Main}
use Rattle.sb_rule.specs.declared.rule.Mode.TheVariants.{Cascade}
use Rattle.sb_rule.specs.declared.rule.Rule.TheVariants.{Refers}
use Rattle.sb_rule.specs.Spelling.{number_spelling}
use Rattle.sb_relation.specs.Db.{int_column}
use Rattle.sb_plain.specs.declared.command.Command.TheVariants as command
use Rattle.sb_plain.proofs.Scripts.{Asked, ask, answers, replies_of, printed, lines_of, start, spare, int, key}

abbrev script : List Asked
script =
    ask (command.Create (codes "node") 2 (int_column (codes "id") ∷ int_column (codes "up") ∷ []) ((codes "id") ∷ [])) (codes "create node using tree (id int, up int) key (id)") [] (codes "ok")
    ∷ ask (command.Attach (codes "node") (codes "f") (Refers Main ((codes "up") ∷ []) (codes "node") ((codes "id") ∷ []) Cascade false)) (codes "attach refers f on node (up) to node (id) cascade") [] (codes "ok")
    ∷ ask (command.Insert (codes "node") ((int 0) ∷ (int 0) ∷ [])) (codes "insert node values (0, 0)") [] (codes "ok @8000000000000000")
    ∷ ask (command.Insert (codes "node") ((int 1) ∷ (int 0) ∷ [])) (codes "insert node values (1, 0)") [] (codes "ok @8000000000000001")
    ∷ ask (command.Insert (codes "node") ((int 2) ∷ (int 1) ∷ [])) (codes "insert node values (2, 1)") [] (codes "ok @8000000000000002")
    ∷ ask (command.Insert (codes "node") ((int 3) ∷ (int 2) ∷ [])) (codes "insert node values (3, 2)") [] (codes "ok @8000000000000003")
    ∷ ask (command.Insert (codes "node") ((int 4) ∷ (int 3) ∷ [])) (codes "insert node values (4, 3)") [] (codes "ok @8000000000000004")
    ∷ ask (command.Insert (codes "node") ((int 5) ∷ (int 4) ∷ [])) (codes "insert node values (5, 4)") [] (codes "ok @8000000000000005")
    ∷ ask (command.Insert (codes "node") ((int 6) ∷ (int 5) ∷ [])) (codes "insert node values (6, 5)") [] (codes "ok @8000000000000006")
    ∷ ask (command.Insert (codes "node") ((int 7) ∷ (int 6) ∷ [])) (codes "insert node values (7, 6)") [] (codes "ok @8000000000000007")
    ∷ ask (command.Insert (codes "node") ((int 8) ∷ (int 7) ∷ [])) (codes "insert node values (8, 7)") [] (codes "ok @8000000000000008")
    ∷ ask (command.Insert (codes "node") ((int 9) ∷ (int 8) ∷ [])) (codes "insert node values (9, 8)") [] (codes "ok @8000000000000009")
    ∷ ask (command.Insert (codes "node") ((int 10) ∷ (int 9) ∷ [])) (codes "insert node values (10, 9)") [] (codes "ok @800000000000000a")
    ∷ ask (command.Insert (codes "node") ((int 11) ∷ (int 10) ∷ [])) (codes "insert node values (11, 10)") [] (codes "ok @800000000000000b")
    ∷ ask (command.Insert (codes "node") ((int 12) ∷ (int 11) ∷ [])) (codes "insert node values (12, 11)") [] (codes "ok @800000000000000c")
    ∷ ask (command.Insert (codes "node") ((int 13) ∷ (int 12) ∷ [])) (codes "insert node values (13, 12)") [] (codes "ok @800000000000000d")
    ∷ ask (command.Insert (codes "node") ((int 14) ∷ (int 13) ∷ [])) (codes "insert node values (14, 13)") [] (codes "ok @800000000000000e")
    ∷ ask (command.Insert (codes "node") ((int 15) ∷ (int 14) ∷ [])) (codes "insert node values (15, 14)") [] (codes "ok @800000000000000f")
    ∷ ask (command.Insert (codes "node") ((int 16) ∷ (int 15) ∷ [])) (codes "insert node values (16, 15)") [] (codes "ok @8000000000000010")
    ∷ ask (command.Delete (codes "node") (key 0)) (codes "delete node @8000000000000000") spare (codes "! depth")
    ∷ ask (command.Scan (codes "node") None None) (codes "scan node") [] (codes "@8000000000000000 (0, 0)\n@8000000000000001 (1, 0)\n@8000000000000002 (2, 1)\n@8000000000000003 (3, 2)\n@8000000000000004 (4, 3)\n@8000000000000005 (5, 4)\n@8000000000000006 (6, 5)\n@8000000000000007 (7, 6)\n@8000000000000008 (8, 7)\n@8000000000000009 (9, 8)\n@800000000000000a (10, 9)\n@800000000000000b (11, 10)\n@800000000000000c (12, 11)\n@800000000000000d (13, 12)\n@800000000000000e (14, 13)\n@800000000000000f (15, 14)\n@8000000000000010 (16, 15)\nok 17")
    ∷ ask (command.Delete (codes "node") (key 16)) (codes "delete node @8000000000000010") [] (codes "ok")
    ∷ ask (command.Delete (codes "node") (key 0)) (codes "delete node @8000000000000000") [] (codes "ok")
    ∷ ask (command.Scan (codes "node") None None) (codes "scan node") [] (codes "ok 0")
    ∷ []

plays : answers start script ≡ replies_of script
unfolding digits encode_with number_spelling
plays = refl

prints : printed script ≡ lines_of script
unfolding digits encode_with
prints = refl
