-- An action passes over a row that went or matches no more when its turn comes; what it changed itself is counted.
use Rattle.std.specs.Prelude.{◌≡◌, refl, codes, List, [], ◌∷◌, false, None}
use Rattle.std.specs.Fmt.{digits}
use Rattle.hex.specs.Hex.{encode_with}
use Rattle.sb_pred.specs.declared.predicate.Op.TheVariants.{Eq}
use Rattle.sb_pred.specs.declared.predicate.Term.TheVariants.{Const, Old}
use Rattle.sb_pred.specs.Tree.{Compare}
use Rattle.sb_rule.specs.declared.rule.Event.TheVariants as event
use Rattle.sb_rule.specs.declared.action.Action.TheVariants as action
use Rattle.sb_rule.specs.declared.rule.Rule.TheVariants.{Trigger}
use Rattle.sb_rule.specs.Spelling.{number_spelling}
use Rattle.sb_relation.specs.Db.{int_column}
use Rattle.sb_plain.specs.declared.command.Command.TheVariants as command
use Rattle.sb_plain.proofs.Scripts.{Asked, ask, answers, replies_of, printed, lines_of, start, spare, int, key}

abbrev script : List Asked
script =
    ask (command.Create (codes "p") 2 (int_column (codes "id") ∷ int_column (codes "x") ∷ []) ((codes "id") ∷ [])) (codes "create p using tree (id int, x int) key (id)") [] (codes "ok")
    ∷ ask (command.Attach (codes "p") (codes "t") (Trigger event.Update (Compare Eq (Old (codes "id")) (Const (int 1))) (action.Set (codes "p") (codes "x") (Const (int 9)) (((codes "id"), (Const (int 2))) ∷ [])) false)) (codes "attach trigger t on p after update when old.id = 1 do set p x = 9 where id = 2") [] (codes "ok")
    ∷ ask (command.Insert (codes "p") ((int 1) ∷ (int 5) ∷ [])) (codes "insert p values (1, 5)") [] (codes "ok @8000000000000001")
    ∷ ask (command.Insert (codes "p") ((int 2) ∷ (int 5) ∷ [])) (codes "insert p values (2, 5)") [] (codes "ok @8000000000000002")
    ∷ ask (command.Insert (codes "p") ((int 3) ∷ (int 5) ∷ [])) (codes "insert p values (3, 5)") [] (codes "ok @8000000000000003")
    ∷ ask (command.Act (action.Add (codes "p") (codes "x") (Const (int 1)) (((codes "x"), (Const (int 5))) ∷ []))) (codes "add p x by 1 where x = 5") [] (codes "ok 2")
    ∷ ask (command.Scan (codes "p") None None) (codes "scan p") [] (codes "@8000000000000001 (1, 6)\n@8000000000000002 (2, 9)\n@8000000000000003 (3, 6)\nok 3")
    ∷ ask (command.Attach (codes "p") (codes "g") (Trigger event.Delete (Compare Eq (Old (codes "id")) (Const (int 1))) (action.Delete (codes "p") (((codes "id"), (Const (int 2))) ∷ [])) false)) (codes "attach trigger g on p after delete when old.id = 1 do delete p where id = 2") [] (codes "ok")
    ∷ ask (command.Act (action.Delete (codes "p") [])) (codes "delete p") [] (codes "ok 2")
    ∷ ask (command.Scan (codes "p") None None) (codes "scan p") [] (codes "ok 0")
    ∷ ask (command.Insert (codes "p") ((int 1) ∷ (int 5) ∷ [])) (codes "insert p values (1, 5)") [] (codes "ok @8000000000000001")
    ∷ ask (command.Update (codes "p") (key 1) ((int 4) ∷ (int 5) ∷ [])) (codes "update p @8000000000000001 values (4, 5)") [] (codes "ok @8000000000000004")
    ∷ ask (command.Get (codes "p") (key 4)) (codes "get p @8000000000000004") [] (codes "@8000000000000004 (4, 5)\nok 1")
    ∷ ask (command.Insert (codes "p") ((int 5) ∷ (int 5) ∷ [])) (codes "insert p values (5, 5)") [] (codes "ok @8000000000000005")
    ∷ ask (command.Update (codes "p") (key 5) ((int 4) ∷ (int 6) ∷ [])) (codes "update p @8000000000000005 values (4, 6)") spare (codes "! duplicate p")
    ∷ []

plays : answers start script ≡ replies_of script
unfolding digits encode_with number_spelling
plays = refl

prints : printed script ≡ lines_of script
unfolding digits encode_with
prints = refl
