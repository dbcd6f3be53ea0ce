-- The commands of the generator for one row.
use Rattle.std.specs.Prelude.{◌≡◌, refl, codes, List, [], ◌∷◌, true, false, pos}
use Rattle.std.specs.Fmt.{digits}
use Rattle.hex.specs.Hex.{encode_with}
use Rattle.sb_value.specs.declared.value.Value.TheVariants.{Text}
use Rattle.sb_pred.specs.declared.predicate.Op.TheVariants.{Ge}
use Rattle.sb_pred.specs.declared.predicate.Term.TheVariants.{Const, New}
use Rattle.sb_pred.specs.Tree.{Compare}
use Rattle.sb_rule.specs.declared.rule.Side.TheVariants.{Main}
use Rattle.sb_rule.specs.declared.rule.Mode.TheVariants.{Cascade}
use Rattle.sb_rule.specs.declared.action.Action.TheVariants as action
use Rattle.sb_rule.specs.declared.rule.Rule.TheVariants.{TreeIndex, HashIndex, Stats, Check, Refers}
use Rattle.sb_rule.specs.Spelling.{number_spelling}
use Rattle.sb_relation.specs.Db.{int_column}
use Rattle.sb_plain.specs.declared.command.Command.TheVariants as command
use Rattle.sb_plain.proofs.Scripts.{Asked, ask, answers, replies_of, printed, lines_of, start, int, text_column, slot}

abbrev script : List Asked
script =
    ask (command.Create (codes "dept") 2 (int_column (codes "id") ∷ text_column (codes "name") 20 ∷ []) ((codes "id") ∷ [])) (codes "create dept using tree (id int, name text(20)) key (id)") [] (codes "ok")
    ∷ ask (command.Create (codes "emp") 1 (int_column (codes "id") ∷ int_column (codes "dept") ∷ int_column (codes "salary") ∷ []) []) (codes "create emp using heap (id int, dept int, salary int)") [] (codes "ok")
    ∷ ask (command.Attach (codes "emp") (codes "by_id") (TreeIndex ((codes "id") ∷ []) true)) (codes "attach treeindex by_id on emp (id) unique") [] (codes "ok")
    ∷ ask (command.Attach (codes "emp") (codes "by_dept") (HashIndex ((codes "dept") ∷ []))) (codes "attach hashindex by_dept on emp (dept)") [] (codes "ok")
    ∷ ask (command.Attach (codes "emp") (codes "pay") (Stats (codes "salary") (pos 0) (pos 1000))) (codes "attach stats pay on emp (salary) low 0 width 1000") [] (codes "ok")
    ∷ ask (command.Attach (codes "emp") (codes "pos") (Check (Compare Ge (New (codes "salary")) (Const (int 0))) false)) (codes "attach check pos on emp salary >= 0") [] (codes "ok")
    ∷ ask (command.Attach (codes "emp") (codes "works") (Refers Main ((codes "dept") ∷ []) (codes "dept") ((codes "id") ∷ []) Cascade false)) (codes "attach refers works on emp (dept) to dept (id) cascade") [] (codes "ok")
    ∷ ask (command.Insert (codes "dept") ((int 0) ∷ (Text (codes "d")) ∷ [])) (codes "insert dept values (0, 'd')") [] (codes "ok @8000000000000000")
    ∷ ask (command.Insert (codes "dept") ((int 1) ∷ (Text (codes "d")) ∷ [])) (codes "insert dept values (1, 'd')") [] (codes "ok @8000000000000001")
    ∷ ask (command.Insert (codes "dept") ((int 2) ∷ (Text (codes "d")) ∷ [])) (codes "insert dept values (2, 'd')") [] (codes "ok @8000000000000002")
    ∷ ask (command.Insert (codes "dept") ((int 3) ∷ (Text (codes "d")) ∷ [])) (codes "insert dept values (3, 'd')") [] (codes "ok @8000000000000003")
    ∷ ask (command.Insert (codes "dept") ((int 4) ∷ (Text (codes "d")) ∷ [])) (codes "insert dept values (4, 'd')") [] (codes "ok @8000000000000004")
    ∷ ask (command.Insert (codes "dept") ((int 5) ∷ (Text (codes "d")) ∷ [])) (codes "insert dept values (5, 'd')") [] (codes "ok @8000000000000005")
    ∷ ask (command.Insert (codes "dept") ((int 6) ∷ (Text (codes "d")) ∷ [])) (codes "insert dept values (6, 'd')") [] (codes "ok @8000000000000006")
    ∷ ask (command.Insert (codes "dept") ((int 7) ∷ (Text (codes "d")) ∷ [])) (codes "insert dept values (7, 'd')") [] (codes "ok @8000000000000007")
    ∷ ask (command.Insert (codes "dept") ((int 8) ∷ (Text (codes "d")) ∷ [])) (codes "insert dept values (8, 'd')") [] (codes "ok @8000000000000008")
    ∷ ask (command.Insert (codes "dept") ((int 9) ∷ (Text (codes "d")) ∷ [])) (codes "insert dept values (9, 'd')") [] (codes "ok @8000000000000009")
    ∷ ask command.Begin (codes "begin") [] (codes "ok")
    ∷ ask (command.Insert (codes "emp") ((int 0) ∷ (int 4) ∷ (int 3477) ∷ [])) (codes "insert emp values (0, 4, 3477)") ((slot 3 0) ∷ []) (codes "ok @000000030000")
    ∷ ask (command.Act (action.Add (codes "emp") (codes "salary") (Const (int 1)) (((codes "id"), (Const (int 0))) ∷ []))) (codes "add emp salary by 1 where id = 0") ((slot 3 0) ∷ []) (codes "ok 1 +@000000030000")
    ∷ ask command.Commit (codes "commit") [] (codes "ok")
    ∷ ask (command.Entries (codes "emp") (codes "pay")) (codes "entries pay on emp") [] (codes "sum 1 3478 0 0 0 1 0 0 0 0 0 0 0 0 0 0 0 0\nok 0")
    ∷ []

plays : answers start script ≡ replies_of script
unfolding digits encode_with number_spelling
plays = refl

prints : printed script ≡ lines_of script
unfolding digits encode_with
prints = refl
