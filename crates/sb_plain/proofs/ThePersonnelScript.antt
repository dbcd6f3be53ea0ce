-- A personnel script: a unique index, a hash index, stats, a check, a refers and a trigger.
use Rattle.std.specs.Prelude.{◌≡◌, refl, codes, List, [], ◌∷◌, true, false, pos, None}
use Rattle.std.specs.Fmt.{digits}
use Rattle.hex.specs.Hex.{encode_with}
use Rattle.sb_value.specs.declared.value.Value.TheVariants.{Text}
use Rattle.sb_pred.specs.declared.predicate.Op.TheVariants.{Ne, Le, Ge}
use Rattle.sb_pred.specs.declared.predicate.Term.TheVariants.{Const, New, Old}
use Rattle.sb_pred.specs.Tree.{Compare, Both}
use Rattle.sb_rule.specs.declared.rule.Side.TheVariants.{Main}
use Rattle.sb_rule.specs.declared.rule.Mode.TheVariants.{Cascade}
use Rattle.sb_rule.specs.declared.rule.Event.TheVariants as event
use Rattle.sb_rule.specs.declared.action.Action.TheVariants as action
use Rattle.sb_rule.specs.declared.rule.Rule.TheVariants.{TreeIndex, HashIndex, Stats, Check, Refers, Trigger}
use Rattle.sb_rule.specs.Spelling.{number_spelling}
use Rattle.sb_relation.specs.Db.{int_column}
use Rattle.sb_plain.specs.declared.command.Command.TheVariants as command
use Rattle.sb_plain.proofs.Scripts.{Asked, ask, answers, replies_of, printed, lines_of, start, spare, int, text_column, key, slot}

abbrev script : List Asked
script =
    ask (command.Create (codes "dept") 2 (int_column (codes "id") ∷ text_column (codes "name") 30 ∷ []) ((codes "id") ∷ [])) (codes "create dept using tree (id int, name text(30)) key (id)") [] (codes "ok")
    ∷ ask (command.Create (codes "emp") 1 (int_column (codes "id") ∷ int_column (codes "dept") ∷ text_column (codes "name") 30 ∷ int_column (codes "salary") ∷ []) []) (codes "create emp using heap (id int, dept int, name text(30), salary int)") [] (codes "ok")
    ∷ ask (command.Create (codes "audit") 1 (int_column (codes "emp") ∷ int_column (codes "was") ∷ int_column (codes "now") ∷ []) []) (codes "create audit using heap (emp int, was int, now int)") [] (codes "ok")
    ∷ ask (command.Attach (codes "emp") (codes "emp_id") (TreeIndex ((codes "id") ∷ []) true)) (codes "attach treeindex emp_id on emp (id) unique") [] (codes "ok")
    ∷ ask (command.Attach (codes "emp") (codes "emp_dept") (HashIndex ((codes "dept") ∷ []))) (codes "attach hashindex emp_dept on emp (dept)") [] (codes "ok")
    ∷ ask (command.Attach (codes "emp") (codes "pay") (Stats (codes "salary") (pos 0) (pos 1000))) (codes "attach stats pay on emp (salary) low 0 width 1000") [] (codes "ok")
    ∷ ask (command.Attach (codes "emp") (codes "pay_ok") (Check (Both (Compare Ge (New (codes "salary")) (Const (int 0))) (Compare Le (New (codes "salary")) (Const (int 20000)))) false)) (codes "attach check pay_ok on emp salary >= 0 and salary <= 20000") [] (codes "ok")
    ∷ ask (command.Attach (codes "emp") (codes "works_in") (Refers Main ((codes "dept") ∷ []) (codes "dept") ((codes "id") ∷ []) Cascade false)) (codes "attach refers works_in on emp (dept) to dept (id) cascade") [] (codes "ok")
    ∷ ask (command.Attach (codes "emp") (codes "raise") (Trigger event.Update (Compare Ne (New (codes "salary")) (Old (codes "salary"))) (action.Insert (codes "audit") ((New (codes "id")) ∷ (Old (codes "salary")) ∷ (New (codes "salary")) ∷ [])) false)) (codes "attach trigger raise on emp after update when new.salary <> old.salary do insert audit values (new.id, old.salary, new.salary)") [] (codes "ok")
    ∷ ask (command.Insert (codes "dept") ((int 1) ∷ (Text (codes "Toys")) ∷ [])) (codes "insert dept values (1, 'Toys')") [] (codes "ok @8000000000000001")
    ∷ ask (command.Insert (codes "dept") ((int 2) ∷ (Text (codes "Shoes")) ∷ [])) (codes "insert dept values (2, 'Shoes')") [] (codes "ok @8000000000000002")
    ∷ ask (command.Insert (codes "emp") ((int 10) ∷ (int 1) ∷ (Text (codes "Ann")) ∷ (int 3000) ∷ [])) (codes "insert emp values (10, 1, 'Ann', 3000)") ((slot 3 0) ∷ []) (codes "ok @000000030000")
    ∷ ask (command.Insert (codes "emp") ((int 11) ∷ (int 1) ∷ (Text (codes "Bob")) ∷ (int 2500) ∷ [])) (codes "insert emp values (11, 1, 'Bob', 2500)") ((slot 3 1) ∷ []) (codes "ok @000000030001")
    ∷ ask (command.Insert (codes "emp") ((int 12) ∷ (int 2) ∷ (Text (codes "Cy")) ∷ (int 4100) ∷ [])) (codes "insert emp values (12, 2, 'Cy', 4100)") ((slot 3 2) ∷ []) (codes "ok @000000030002")
    ∷ ask (command.Insert (codes "emp") ((int 13) ∷ (int 9) ∷ (Text (codes "Di")) ∷ (int 100) ∷ [])) (codes "insert emp values (13, 9, 'Di', 100)") spare (codes "! veto emp works_in")
    ∷ ask (command.Act (action.Add (codes "emp") (codes "salary") (Const (int 500)) (((codes "dept"), (Const (int 1))) ∷ []))) (codes "add emp salary by 500 where dept = 1") ((slot 3 0) ∷ (slot 4 0) ∷ (slot 3 1) ∷ (slot 4 1) ∷ []) (codes "ok 2 +@000000030000 +@000000040000 +@000000030001 +@000000040001")
    ∷ ask (command.Update (codes "emp") (slot 3 2) ((int 12) ∷ (int 2) ∷ (Text (codes "Cy")) ∷ (int 20001) ∷ [])) (codes "update emp @000000030002 values (12, 2, 'Cy', 20001)") spare (codes "! veto emp pay_ok")
    ∷ ask (command.Entries (codes "emp") (codes "pay")) (codes "entries pay on emp") [] (codes "sum 3 10600 0 0 0 2 1 0 0 0 0 0 0 0 0 0 0 0\nok 0")
    ∷ ask (command.Delete (codes "dept") (key 1)) (codes "delete dept @8000000000000001") [] (codes "ok")
    ∷ ask (command.Scan (codes "emp") None None) (codes "scan emp") [] (codes "@000000030002 (12, 2, 'Cy', 4100)\nok 1")
    ∷ ask (command.Lookup (codes "emp") (codes "emp_dept") ((int 1) ∷ [])) (codes "lookup emp_dept on emp (1)") [] (codes "ok 0")
    ∷ ask (command.Scan (codes "audit") None None) (codes "scan audit") [] (codes "@000000040000 (10, 3000, 3500)\n@000000040001 (11, 2500, 3000)\nok 2")
    ∷ []

plays : answers start script ≡ replies_of script
unfolding digits encode_with number_spelling
plays = refl

prints : printed script ≡ lines_of script
unfolding digits encode_with
prints = refl
