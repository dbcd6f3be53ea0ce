-- A hash index grows with its 33rd row, and has its entries in order.
use Rattle.std.specs.Prelude.{◌≡◌, refl, codes, List, [], ◌∷◌}
use Rattle.std.specs.Fmt.{digits}
use Rattle.hex.specs.Hex.{encode_with}
use Rattle.sb_rule.specs.declared.action.Action.TheVariants as action
use Rattle.sb_rule.specs.declared.rule.Rule.TheVariants.{HashIndex}
use Rattle.sb_rule.specs.Spelling.{number_spelling}
use Rattle.sb_relation.specs.Db.{int_column}
use Rattle.sb_plain.specs.declared.command.Command.TheVariants as command
use Rattle.sb_plain.proofs.Scripts.{Asked, ask, answers, replies_of, printed, lines_of, start, int}

abbrev script : List Asked
script =
    ask (command.Create (codes "h") 2 (int_column (codes "k") ∷ []) ((codes "k") ∷ [])) (codes "create h using tree (k int) key (k)") [] (codes "ok")
    ∷ ask (command.Attach (codes "h") (codes "x") (HashIndex ((codes "k") ∷ []))) (codes "attach hashindex x on h (k)") [] (codes "ok")
    ∷ ask (command.Insert (codes "h") ((int 0) ∷ [])) (codes "insert h values (0)") [] (codes "ok @8000000000000000")
    ∷ ask (command.Insert (codes "h") ((int 1) ∷ [])) (codes "insert h values (1)") [] (codes "ok @8000000000000001")
    ∷ ask (command.Insert (codes "h") ((int 2) ∷ [])) (codes "insert h values (2)") [] (codes "ok @8000000000000002")
    ∷ ask (command.Insert (codes "h") ((int 3) ∷ [])) (codes "insert h values (3)") [] (codes "ok @8000000000000003")
    ∷ ask (command.Insert (codes "h") ((int 4) ∷ [])) (codes "insert h values (4)") [] (codes "ok @8000000000000004")
    ∷ ask (command.Insert (codes "h") ((int 5) ∷ [])) (codes "insert h values (5)") [] (codes "ok @8000000000000005")
    ∷ ask (command.Insert (codes "h") ((int 6) ∷ [])) (codes "insert h values (6)") [] (codes "ok @8000000000000006")
    ∷ ask (command.Insert (codes "h") ((int 7) ∷ [])) (codes "insert h values (7)") [] (codes "ok @8000000000000007")
    ∷ ask (command.Insert (codes "h") ((int 8) ∷ [])) (codes "insert h values (8)") [] (codes "ok @8000000000000008")
    ∷ ask (command.Insert (codes "h") ((int 9) ∷ [])) (codes "insert h values (9)") [] (codes "ok @8000000000000009")
    ∷ ask (command.Insert (codes "h") ((int 10) ∷ [])) (codes "insert h values (10)") [] (codes "ok @800000000000000a")
    ∷ ask (command.Insert (codes "h") ((int 11) ∷ [])) (codes "insert h values (11)") [] (codes "ok @800000000000000b")
    ∷ ask (command.Insert (codes "h") ((int 12) ∷ [])) (codes "insert h values (12)") [] (codes "ok @800000000000000c")
    ∷ ask (command.Insert (codes "h") ((int 13) ∷ [])) (codes "insert h values (13)") [] (codes "ok @800000000000000d")
    ∷ ask (command.Insert (codes "h") ((int 14) ∷ [])) (codes "insert h values (14)") [] (codes "ok @800000000000000e")
    ∷ ask (command.Insert (codes "h") ((int 15) ∷ [])) (codes "insert h values (15)") [] (codes "ok @800000000000000f")
    ∷ ask (command.Insert (codes "h") ((int 16) ∷ [])) (codes "insert h values (16)") [] (codes "ok @8000000000000010")
    ∷ ask (command.Insert (codes "h") ((int 17) ∷ [])) (codes "insert h values (17)") [] (codes "ok @8000000000000011")
    ∷ ask (command.Insert (codes "h") ((int 18) ∷ [])) (codes "insert h values (18)") [] (codes "ok @8000000000000012")
    ∷ ask (command.Insert (codes "h") ((int 19) ∷ [])) (codes "insert h values (19)") [] (codes "ok @8000000000000013")
    ∷ ask (command.Insert (codes "h") ((int 20) ∷ [])) (codes "insert h values (20)") [] (codes "ok @8000000000000014")
    ∷ ask (command.Insert (codes "h") ((int 21) ∷ [])) (codes "insert h values (21)") [] (codes "ok @8000000000000015")
    ∷ ask (command.Insert (codes "h") ((int 22) ∷ [])) (codes "insert h values (22)") [] (codes "ok @8000000000000016")
    ∷ ask (command.Insert (codes "h") ((int 23) ∷ [])) (codes "insert h values (23)") [] (codes "ok @8000000000000017")
    ∷ ask (command.Insert (codes "h") ((int 24) ∷ [])) (codes "insert h values (24)") [] (codes "ok @8000000000000018")
    ∷ ask (command.Insert (codes "h") ((int 25) ∷ [])) (codes "insert h values (25)") [] (codes "ok @8000000000000019")
    ∷ ask (command.Insert (codes "h") ((int 26) ∷ [])) (codes "insert h values (26)") [] (codes "ok @800000000000001a")
    ∷ ask (command.Insert (codes "h") ((int 27) ∷ [])) (codes "insert h values (27)") [] (codes "ok @800000000000001b")
    ∷ ask (command.Insert (codes "h") ((int 28) ∷ [])) (codes "insert h values (28)") [] (codes "ok @800000000000001c")
    ∷ ask (command.Insert (codes "h") ((int 29) ∷ [])) (codes "insert h values (29)") [] (codes "ok @800000000000001d")
    ∷ ask (command.Insert (codes "h") ((int 30) ∷ [])) (codes "insert h values (30)") [] (codes "ok @800000000000001e")
    ∷ ask (command.Insert (codes "h") ((int 31) ∷ [])) (codes "insert h values (31)") [] (codes "ok @800000000000001f")
    ∷ ask (command.Insert (codes "h") ((int 32) ∷ [])) (codes "insert h values (32)") [] (codes "ok @8000000000000020")
    ∷ ask (command.Entries (codes "h") (codes "x")) (codes "entries x on h") [] (codes "@8000000000000000 @8000000000000000\n@8000000000000001 @8000000000000001\n@8000000000000002 @8000000000000002\n@8000000000000003 @8000000000000003\n@8000000000000004 @8000000000000004\n@8000000000000005 @8000000000000005\n@8000000000000006 @8000000000000006\n@8000000000000007 @8000000000000007\n@8000000000000008 @8000000000000008\n@8000000000000009 @8000000000000009\n@800000000000000a @800000000000000a\n@800000000000000b @800000000000000b\n@800000000000000c @800000000000000c\n@800000000000000d @800000000000000d\n@800000000000000e @800000000000000e\n@800000000000000f @800000000000000f\n@8000000000000010 @8000000000000010\n@8000000000000011 @8000000000000011\n@8000000000000012 @8000000000000012\n@8000000000000013 @8000000000000013\n@8000000000000014 @8000000000000014\n@8000000000000015 @8000000000000015\n@8000000000000016 @8000000000000016\n@8000000000000017 @8000000000000017\n@8000000000000018 @8000000000000018\n@8000000000000019 @8000000000000019\n@800000000000001a @800000000000001a\n@800000000000001b @800000000000001b\n@800000000000001c @800000000000001c\n@800000000000001d @800000000000001d\n@800000000000001e @800000000000001e\n@800000000000001f @800000000000001f\n@8000000000000020 @8000000000000020\nok 33")
    ∷ ask (command.Lookup (codes "h") (codes "x") ((int 32) ∷ [])) (codes "lookup x on h (32)") [] (codes "@8000000000000020 (32)\nok 1")
    ∷ ask (command.Act (action.Delete (codes "h") [])) (codes "delete h") [] (codes "ok 33")
    ∷ ask (command.Entries (codes "h") (codes "x")) (codes "entries x on h") [] (codes "ok 0")
    ∷ []

plays : answers start script ≡ replies_of script
unfolding digits encode_with number_spelling
plays = refl

prints : printed script ≡ lines_of script
unfolding digits encode_with
prints = refl
