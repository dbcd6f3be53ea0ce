-- A unique index is vetoed over two equal rows; one that is not unique finds both.
use Rattle.std.specs.Prelude.{◌≡◌, refl, codes, List, [], ◌∷◌, true, false}
use Rattle.std.specs.Fmt.{digits}
use Rattle.hex.specs.Hex.{encode_with}
use Rattle.sb_rule.specs.declared.rule.Rule.TheVariants.{TreeIndex}
use Rattle.sb_rule.specs.Spelling.{number_spelling}
use Rattle.sb_relation.specs.Db.{int_column}
use Rattle.sb_plain.specs.declared.command.Command.TheVariants as command
use Rattle.sb_plain.proofs.Scripts.{Asked, ask, answers, replies_of, printed, lines_of, start, spare, int, slot}

abbrev script : List Asked
script =
    ask (command.Create (codes "t") 1 (int_column (codes "a") ∷ []) []) (codes "create t using heap (a int)") [] (codes "ok")
    ∷ ask (command.Insert (codes "t") ((int 1) ∷ [])) (codes "insert t values (1)") ((slot 2 0) ∷ []) (codes "ok @000000020000")
    ∷ ask (command.Insert (codes "t") ((int 1) ∷ [])) (codes "insert t values (1)") ((slot 2 1) ∷ []) (codes "ok @000000020001")
    ∷ ask (command.Attach (codes "t") (codes "u") (TreeIndex ((codes "a") ∷ []) true)) (codes "attach treeindex u on t (a) unique") spare (codes "! veto t u")
    ∷ ask (command.Show (codes "t")) (codes "show t") [] (codes "create t using heap (a int)\nok 1")
    ∷ ask (command.Attach (codes "t") (codes "u") (TreeIndex ((codes "a") ∷ []) false)) (codes "attach treeindex u on t (a)") [] (codes "ok")
    ∷ ask (command.Lookup (codes "t") (codes "u") ((int 1) ∷ [])) (codes "lookup u on t (1)") [] (codes "@000000020000 (1)\n@000000020001 (1)\nok 2")
    ∷ []

plays : answers start script ≡ replies_of script
unfolding digits encode_with number_spelling
plays = refl

prints : printed script ≡ lines_of script
unfolding digits encode_with
prints = refl
