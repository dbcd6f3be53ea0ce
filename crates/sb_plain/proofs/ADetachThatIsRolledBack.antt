-- A detach is rolled back; codes in use are not retired; a code that is spare is not live.
use Rattle.std.specs.Prelude.{◌≡◌, refl, codes, List, [], ◌∷◌, true, false}
use Rattle.std.specs.Fmt.{digits}
use Rattle.hex.specs.Hex.{encode_with}
use Rattle.sb_rule.specs.declared.rule.Rule.TheVariants.{TreeIndex, HashIndex}
use Rattle.sb_rule.specs.Spelling.{number_spelling}
use Rattle.sb_relation.specs.Db.{int_column}
use Rattle.sb_plain.specs.declared.command.Command.TheVariants as command
use Rattle.sb_plain.proofs.Scripts.{Asked, ask, answers, replies_of, printed, lines_of, start, spare, int, slot}

abbrev script : List Asked
script =
    ask (command.Create (codes "t") 1 (int_column (codes "a") ∷ []) []) (codes "create t using heap (a int)") [] (codes "ok")
    ∷ ask (command.Insert (codes "t") ((int 1) ∷ [])) (codes "insert t values (1)") ((slot 2 0) ∷ []) (codes "ok @000000020000")
    ∷ ask (command.Insert (codes "t") ((int 1) ∷ [])) (codes "insert t values (1)") ((slot 2 1) ∷ []) (codes "ok @000000020001")
    ∷ ask (command.Attach (codes "t") (codes "u") (TreeIndex ((codes "a") ∷ []) true)) (codes "attach treeindex u on t (a) unique") spare (codes "! veto t u")
    ∷ ask (command.Show (codes "t")) (codes "show t") [] (codes "create t using heap (a int)\nok 1")
    ∷ ask (command.Attach (codes "t") (codes "u") (TreeIndex ((codes "a") ∷ []) false)) (codes "attach treeindex u on t (a)") [] (codes "ok")
    ∷ ask (command.Lookup (codes "t") (codes "u") ((int 1) ∷ [])) (codes "lookup u on t (1)") [] (codes "@000000020000 (1)\n@000000020001 (1)\nok 2")
    ∷ ask command.Begin (codes "begin") [] (codes "ok")
    ∷ ask (command.Savepoint (codes "s")) (codes "savepoint s") [] (codes "ok")
    ∷ ask (command.Detach (codes "t") (codes "u")) (codes "detach u on t") [] (codes "ok")
    ∷ ask (command.Lookup (codes "t") (codes "u") ((int 1) ∷ [])) (codes "lookup u on t (1)") spare (codes "! noname u")
    ∷ ask (command.Rollback (codes "s")) (codes "rollback s") [] (codes "ok")
    ∷ ask (command.Range (codes "t") (codes "u") ((int 0) ∷ []) ((int 1) ∷ [])) (codes "range u on t from (0) to (1)") [] (codes "@000000020000 (1)\n@000000020001 (1)\nok 2")
    ∷ ask command.Commit (codes "commit") [] (codes "ok")
    ∷ ask (command.Retire false 1) (codes "retire attachment 1") spare (codes "! inuse t u")
    ∷ ask (command.Retire false 2) (codes "retire attachment 2") [] (codes "ok")
    ∷ ask (command.Attach (codes "t") (codes "h") (HashIndex ((codes "a") ∷ []))) (codes "attach hashindex h on t (a)") spare (codes "! noextension 2")
    ∷ ask (command.Register false 2) (codes "register attachment 2") [] (codes "ok")
    ∷ ask command.Tables (codes "tables") [] (codes "t\nok 1")
    ∷ []

plays : answers start script ≡ replies_of script
unfolding digits encode_with number_spelling
plays = refl

prints : printed script ≡ lines_of script
unfolding digits encode_with
prints = refl
