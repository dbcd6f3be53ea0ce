-- A deferred refers is tested at the commit, which ends the transaction where it fails.
use Rattle.std.specs.Prelude.{◌≡◌, refl, codes, List, [], ◌∷◌, true, None}
use Rattle.std.specs.Fmt.{digits}
use Rattle.hex.specs.Hex.{encode_with}
use Rattle.sb_rule.specs.declared.rule.Side.TheVariants.{Main}
use Rattle.sb_rule.specs.declared.rule.Mode.TheVariants.{Restrict}
use Rattle.sb_rule.specs.declared.rule.Rule.TheVariants.{Refers}
use Rattle.sb_rule.specs.Spelling.{number_spelling}
use Rattle.sb_relation.specs.Db.{int_column}
use Rattle.sb_plain.specs.declared.command.Command.TheVariants as command
use Rattle.sb_plain.proofs.Scripts.{Asked, ask, answers, replies_of, printed, lines_of, start, spare, int, key, slot}

abbrev script : List Asked
script =
    ask (command.Create (codes "dept") 2 (int_column (codes "id") ∷ []) ((codes "id") ∷ [])) (codes "create dept using tree (id int) key (id)") [] (codes "ok")
    ∷ ask (command.Create (codes "emp") 1 (int_column (codes "id") ∷ int_column (codes "dept") ∷ []) []) (codes "create emp using heap (id int, dept int)") [] (codes "ok")
    ∷ ask (command.Attach (codes "emp") (codes "w") (Refers Main ((codes "dept") ∷ []) (codes "dept") ((codes "id") ∷ []) Restrict true)) (codes "attach refers w on emp (dept) to dept (id) restrict deferred") [] (codes "ok")
    ∷ ask command.Begin (codes "begin") [] (codes "ok")
    ∷ ask (command.Insert (codes "emp") ((int 1) ∷ (int 7) ∷ [])) (codes "insert emp values (1, 7)") ((slot 3 0) ∷ []) (codes "ok @000000030000")
    ∷ ask (command.Insert (codes "dept") ((int 7) ∷ [])) (codes "insert dept values (7)") [] (codes "ok @8000000000000007")
    ∷ ask command.Commit (codes "commit") [] (codes "ok")
    ∷ ask command.Begin (codes "begin") [] (codes "ok")
    ∷ ask (command.Insert (codes "emp") ((int 2) ∷ (int 8) ∷ [])) (codes "insert emp values (2, 8)") ((slot 3 1) ∷ []) (codes "ok @000000030001")
    ∷ ask command.Commit (codes "commit") spare (codes "! veto emp w")
    ∷ ask (command.Scan (codes "emp") None None) (codes "scan emp") [] (codes "@000000030000 (1, 7)\nok 1")
    ∷ ask command.Commit (codes "commit") spare (codes "! state")
    ∷ ask (command.Delete (codes "dept") (key 7)) (codes "delete dept @8000000000000007") spare (codes "! veto emp w")
    ∷ []

plays : answers start script ≡ replies_of script
unfolding digits encode_with number_spelling
plays = refl

prints : printed script ≡ lines_of script
unfolding digits encode_with
prints = refl
