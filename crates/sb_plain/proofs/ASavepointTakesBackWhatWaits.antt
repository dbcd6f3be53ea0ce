-- A deferred trigger runs at the commit; what waited for a row that was rolled back does not run.
use Rattle.std.specs.Prelude.{◌≡◌, refl, codes, List, [], ◌∷◌, true, false, None}
use Rattle.std.specs.Fmt.{digits}
use Rattle.hex.specs.Hex.{encode_with}
use Rattle.sb_pred.specs.declared.predicate.Op.TheVariants.{Lt}
use Rattle.sb_pred.specs.declared.predicate.Term.TheVariants.{Const, New}
use Rattle.sb_pred.specs.Tree.{Always, Compare}
use Rattle.sb_rule.specs.declared.rule.Event.TheVariants as event
use Rattle.sb_rule.specs.declared.action.Action.TheVariants as action
use Rattle.sb_rule.specs.declared.rule.Rule.TheVariants.{TreeIndex, Check, Trigger}
use Rattle.sb_rule.specs.Spelling.{number_spelling}
use Rattle.sb_relation.specs.Db.{int_column}
use Rattle.sb_plain.specs.declared.command.Command.TheVariants as command
use Rattle.sb_plain.proofs.Scripts.{Asked, ask, answers, replies_of, printed, lines_of, start, int, slot}

abbrev script : List Asked
script =
    ask (command.Create (codes "a") 1 (int_column (codes "x") ∷ []) []) (codes "create a using heap (x int)") [] (codes "ok")
    ∷ ask (command.Create (codes "b") 1 (int_column (codes "y") ∷ []) []) (codes "create b using heap (y int)") [] (codes "ok")
    ∷ ask (command.Attach (codes "a") (codes "ix") (TreeIndex ((codes "x") ∷ []) false)) (codes "attach treeindex ix on a (x)") [] (codes "ok")
    ∷ ask (command.Attach (codes "b") (codes "small") (Check (Compare Lt (New (codes "y")) (Const (int 10))) false)) (codes "attach check small on b y < 10") [] (codes "ok")
    ∷ ask (command.Attach (codes "a") (codes "late") (Trigger event.Insert Always (action.Insert (codes "b") ((New (codes "x")) ∷ [])) true)) (codes "attach trigger late on a after insert when always do insert b values (new.x) deferred") [] (codes "ok")
    ∷ ask command.Begin (codes "begin") [] (codes "ok")
    ∷ ask (command.Insert (codes "a") ((int 1) ∷ [])) (codes "insert a values (1)") ((slot 2 0) ∷ []) (codes "ok @000000020000")
    ∷ ask (command.Savepoint (codes "s")) (codes "savepoint s") [] (codes "ok")
    ∷ ask (command.Insert (codes "a") ((int 2) ∷ [])) (codes "insert a values (2)") ((slot 2 1) ∷ []) (codes "ok @000000020001")
    ∷ ask (command.Rollback (codes "s")) (codes "rollback s") [] (codes "ok")
    ∷ ask command.Commit (codes "commit") ((slot 3 0) ∷ []) (codes "ok +@000000030000")
    ∷ ask (command.Scan (codes "b") None None) (codes "scan b") [] (codes "@000000030000 (1)\nok 1")
    ∷ []

plays : answers start script ≡ replies_of script
unfolding digits encode_with number_spelling
plays = refl

prints : printed script ≡ lines_of script
unfolding digits encode_with
prints = refl
