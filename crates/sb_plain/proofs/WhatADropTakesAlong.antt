-- A drop and a detach take the mirrors along; what a mirror refuses bears its name.
use Rattle.std.specs.Prelude.{◌≡◌, refl, codes, List, [], ◌∷◌, ◌++◌, true, false, None}
use Rattle.std.specs.Fmt.{digits}
use Rattle.hex.specs.Hex.{encode_with}
use Rattle.sb_value.specs.declared.value.Value.TheVariants.{Text}
use Rattle.sb_pred.specs.declared.predicate.Op.TheVariants.{Lt, Gt}
use Rattle.sb_pred.specs.declared.predicate.Term.TheVariants.{Const, New}
use Rattle.sb_pred.specs.Tree.{Compare}
use Rattle.sb_rule.specs.declared.rule.Side.TheVariants.{Main}
use Rattle.sb_rule.specs.declared.rule.Mode.TheVariants.{Restrict}
use Rattle.sb_rule.specs.declared.action.Action.TheVariants as action
use Rattle.sb_rule.specs.declared.rule.Rule.TheVariants.{TreeIndex, JoinIndex, Check, Refers}
use Rattle.sb_rule.specs.Spelling.{number_spelling}
use Rattle.sb_relation.specs.Db.{int_column}
use Rattle.sb_plain.specs.declared.command.Command.TheVariants as command
use Rattle.sb_plain.proofs.Scripts.{Asked, ask, answers, replies_of, printed, lines_of, start, spare, int, text_column, key, slot, letters}

abbrev script : List Asked
script =
    ask (command.Create (codes "dept") 2 (int_column (codes "id") ∷ []) ((codes "id") ∷ [])) (codes "create dept using tree (id int) key (id)") [] (codes "ok")
    ∷ ask (command.Create (codes "emp") 1 (int_column (codes "id") ∷ int_column (codes "dept") ∷ []) []) (codes "create emp using heap (id int, dept int)") [] (codes "ok")
    ∷ ask (command.Attach (codes "emp") (codes "w") (Refers Main ((codes "dept") ∷ []) (codes "dept") ((codes "id") ∷ []) Restrict false)) (codes "attach refers w on emp (dept) to dept (id) restrict") [] (codes "ok")
    ∷ ask (command.Insert (codes "dept") ((int 1) ∷ [])) (codes "insert dept values (1)") [] (codes "ok @8000000000000001")
    ∷ ask (command.Insert (codes "emp") ((int 1) ∷ (int 1) ∷ [])) (codes "insert emp values (1, 1)") ((slot 3 0) ∷ []) (codes "ok @000000030000")
    ∷ ask (command.Delete (codes "dept") (key 1)) (codes "delete dept @8000000000000001") spare (codes "! veto dept emp.w")
    ∷ ask (command.Drop (codes "dept")) (codes "drop dept") spare (codes "! inuse emp w")
    ∷ ask (command.Detach (codes "emp") (codes "w")) (codes "detach w on emp") [] (codes "ok")
    ∷ ask (command.Delete (codes "dept") (key 1)) (codes "delete dept @8000000000000001") [] (codes "ok")
    ∷ ask (command.Attach (codes "emp") (codes "w") (Refers Main ((codes "dept") ∷ []) (codes "dept") ((codes "id") ∷ []) Restrict false)) (codes "attach refers w on emp (dept) to dept (id) restrict") spare (codes "! veto emp w")
    ∷ ask (command.Attach (codes "emp") (codes "j") (JoinIndex Main ((codes "dept") ∷ []) (codes "dept") ((codes "id") ∷ []))) (codes "attach joinindex j on emp (dept) with dept (id)") [] (codes "ok")
    ∷ ask (command.Insert (codes "dept") ((int 1) ∷ [])) (codes "insert dept values (1)") [] (codes "ok @8000000000000001")
    ∷ ask (command.Entries (codes "emp") (codes "j")) (codes "entries j on emp") [] (codes "@000000030000 @8000000000000001\nok 1")
    ∷ ask (command.Drop (codes "emp")) (codes "drop emp") [] (codes "ok")
    ∷ ask (command.Attach (codes "dept") (codes "i") (TreeIndex ((codes "id") ∷ []) false)) (codes "attach treeindex i on dept (id)") [] (codes "ok")
    ∷ ask (command.Attach (codes "dept") (codes "c") (Check (Compare Gt (New (codes "id")) (Const (int 1))) false)) (codes "attach check c on dept id > 1") spare (codes "! veto dept c")
    ∷ ask (command.Drop (codes "dept")) (codes "drop dept") [] (codes "ok")
    ∷ ask command.Tables (codes "tables") [] (codes "ok 0")
    ∷ ask (command.Create (codes "b") 1 (text_column (codes "x") 255 ∷ []) []) (codes "create b using heap (x text)") [] (codes "ok")
    ∷ ask (command.Insert (codes "b") ((Text (letters 217 121)) ∷ [])) (codes "insert b values ('" ++ letters 217 121 ++ codes "')") ((slot 2 0) ∷ []) (codes "ok @000000020000")
    ∷ ask (command.Attach (codes "b") (codes "i") (TreeIndex ((codes "x") ∷ []) false)) (codes "attach treeindex i on b (x)") spare (codes "! toolong b")
    ∷ ask (command.Create (codes "t") 3 (int_column (codes "a") ∷ []) []) (codes "create t using temp (a int)") [] (codes "ok")
    ∷ ask (command.Attach (codes "t") (codes "c") (Check (Compare Lt (New (codes "a")) (Const (int 9))) true)) (codes "attach check c on t a < 9 deferred") [] (codes "ok")
    ∷ ask (command.Insert (codes "t") ((int 10) ∷ [])) (codes "insert t values (10)") spare (codes "! veto t c")
    ∷ ask command.Begin (codes "begin") [] (codes "ok")
    ∷ ask (command.Insert (codes "t") ((int 10) ∷ [])) (codes "insert t values (10)") [] (codes "ok @0000000000000001")
    ∷ ask (command.Act (action.Set (codes "t") (codes "a") (Const (int 1)) (((codes "a"), (Const (int 10))) ∷ []))) (codes "set t a = 1 where a = 10") [] (codes "ok 1")
    ∷ ask command.Commit (codes "commit") [] (codes "ok")
    ∷ ask command.Begin (codes "begin") [] (codes "ok")
    ∷ ask (command.Insert (codes "t") ((int 11) ∷ [])) (codes "insert t values (11)") [] (codes "ok @0000000000000002")
    ∷ ask command.Commit (codes "commit") spare (codes "! veto t c")
    ∷ ask (command.Scan (codes "t") None None) (codes "scan t") [] (codes "@0000000000000001 (1)\nok 1")
    ∷ []

plays : answers start script ≡ replies_of script
unfolding digits encode_with number_spelling
plays = refl

prints : printed script ≡ lines_of script
unfolding digits encode_with
prints = refl
