-- What show prints.
use Rattle.std.specs.Prelude.{◌≡◌, refl, codes, List, [], ◌∷◌, true, false, pos, negsuc}
use Rattle.std.specs.Fmt.{digits}
use Rattle.hex.specs.Hex.{encode_with}
use Rattle.sb_value.specs.declared.value.Value.TheVariants.{Int, Text}
use Rattle.sb_pred.specs.declared.predicate.Op.TheVariants.{Eq, Ne, Lt, Le, Ge}
use Rattle.sb_pred.specs.declared.predicate.Term.TheVariants.{Const, New, Old}
use Rattle.sb_pred.specs.Tree.{Compare, Both, Either, Fails}
use Rattle.sb_rule.specs.declared.rule.Side.TheVariants.{Main}
use Rattle.sb_rule.specs.declared.rule.Mode.TheVariants.{Cascade}
use Rattle.sb_rule.specs.declared.rule.Event.TheVariants as event
use Rattle.sb_rule.specs.declared.action.Action.TheVariants as action
use Rattle.sb_rule.specs.declared.rule.Rule.TheVariants.{TreeIndex, HashIndex, Stats, Check, Refers, Trigger}
use Rattle.sb_rule.specs.Spelling.{number_spelling}
use Rattle.sb_relation.specs.Db.{int_column}
use Rattle.sb_plain.specs.declared.command.Command.TheVariants as command
use Rattle.sb_plain.proofs.Scripts.{Asked, ask, answers, replies_of, printed, lines_of, start, int, text_column}

abbrev script : List Asked
script =
    ask (command.Create (codes "dept") 2 (int_column (codes "id") ∷ text_column (codes "name") 30 ∷ []) ((codes "id") ∷ [])) (codes "create dept using tree (id int, name text(30)) key (id)") [] (codes "ok")
    ∷ ask (command.Create (codes "emp") 1 (int_column (codes "id") ∷ int_column (codes "dept") ∷ text_column (codes "name") 30 ∷ int_column (codes "salary") ∷ []) []) (codes "create emp using heap (id int, dept int, name text(30), salary int)") [] (codes "ok")
    ∷ ask (command.Create (codes "audit") 1 (int_column (codes "emp") ∷ int_column (codes "was") ∷ int_column (codes "now") ∷ []) []) (codes "create audit using heap (emp int, was int, now int)") [] (codes "ok")
    ∷ ask (command.Attach (codes "emp") (codes "emp_id") (TreeIndex ((codes "id") ∷ []) true)) (codes "attach treeindex emp_id on emp (id) unique") [] (codes "ok")
    ∷ ask (command.Attach (codes "emp") (codes "emp_dept") (HashIndex ((codes "dept") ∷ []))) (codes "attach hashindex emp_dept on emp (dept)") [] (codes "ok")
    ∷ ask (command.Attach (codes "emp") (codes "pay") (Stats (codes "salary") (pos 0) (pos 1000))) (codes "attach stats pay on emp (salary) low 0 width 1000") [] (codes "ok")
    ∷ ask (command.Attach (codes "emp") (codes "pay_ok") (Check (Both (Compare Ge (New (codes "salary")) (Const (int 0))) (Compare Le (New (codes "salary")) (Const (int 20000)))) false)) (codes "attach check pay_ok on emp salary >= 0 and salary <= 20000") [] (codes "ok")
    ∷ ask (command.Attach (codes "emp") (codes "works_in") (Refers Main ((codes "dept") ∷ []) (codes "dept") ((codes "id") ∷ []) Cascade false)) (codes "attach refers works_in on emp (dept) to dept (id) cascade") [] (codes "ok")
    ∷ ask (command.Attach (codes "emp") (codes "raise") (Trigger event.Update (Compare Ne (New (codes "salary")) (Old (codes "salary"))) (action.Insert (codes "audit") ((New (codes "id")) ∷ (Old (codes "salary")) ∷ (New (codes "salary")) ∷ [])) false)) (codes "attach trigger raise on emp after update when new.salary <> old.salary do insert audit values (new.id, old.salary, new.salary)") [] (codes "ok")
    ∷ ask (command.Attach (codes "emp") (codes "odd") (Check (Both (Fails (Either (Compare Lt (New (codes "salary")) (Const (int 1))) (Compare Eq (New (codes "id")) (Const (int 2))))) (Either (Compare Ne (New (codes "name")) (Const (Text (codes "it's")))) (Compare Ge (New (codes "dept")) (Const (Int (negsuc 2)))))) false)) (codes "attach check odd on emp not (salary < 1 or id = 2) and (name <> 'it''s' or dept >= -3)") [] (codes "ok")
    ∷ ask (command.Show (codes "dept")) (codes "show dept") [] (codes "create dept using tree (id int, name text(30)) key (id)\nok 1")
    ∷ ask (command.Show (codes "emp")) (codes "show emp") [] (codes "create emp using heap (id int, dept int, name text(30), salary int)\nattach treeindex emp_id on emp (id) unique\nattach hashindex emp_dept on emp (dept)\nattach stats pay on emp (salary) low 0 width 1000\nattach check pay_ok on emp salary >= 0 and salary <= 20000\nattach check odd on emp not (salary < 1 or id = 2) and (name <> 'it''s' or dept >= -3)\nattach refers works_in on emp (dept) to dept (id) cascade\nattach trigger raise on emp after update when new.salary <> old.salary do insert audit values (new.id, old.salary, new.salary)\nok 8")
    ∷ []

plays : answers start script ≡ replies_of script
unfolding digits encode_with number_spelling
plays = refl

prints : printed script ≡ lines_of script
unfolding digits encode_with
prints = refl
