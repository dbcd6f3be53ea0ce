-- Actions that wait run in the order in which they came, those that they make behind the others.
use Rattle.std.specs.Prelude.{◌≡◌, refl, codes, List, [], ◌∷◌, true, Some, None}
use Rattle.std.specs.Fmt.{digits}
use Rattle.hex.specs.Hex.{encode_with}
use Rattle.sb_pred.specs.declared.predicate.Op.TheVariants.{Lt}
use Rattle.sb_pred.specs.declared.predicate.Term.TheVariants.{Const, New}
use Rattle.sb_pred.specs.Tree.{Always, Compare}
use Rattle.sb_rule.specs.declared.rule.Event.TheVariants as event
use Rattle.sb_rule.specs.declared.action.Action.TheVariants as action
use Rattle.sb_rule.specs.declared.rule.Rule.TheVariants.{Trigger}
use Rattle.sb_rule.specs.Spelling.{number_spelling}
use Rattle.sb_relation.specs.Db.{int_column}
use Rattle.sb_plain.specs.declared.command.Command.TheVariants as command
use Rattle.sb_plain.proofs.Scripts.{Asked, ask, answers, replies_of, printed, lines_of, start, int, slot}

abbrev script : List Asked
script =
    ask (command.Create (codes "a") 2 (int_column (codes "n") ∷ []) ((codes "n") ∷ [])) (codes "create a using tree (n int) key (n)") [] (codes "ok")
    ∷ ask (command.Create (codes "log") 3 (int_column (codes "what") ∷ []) []) (codes "create log using temp (what int)") [] (codes "ok")
    ∷ ask (command.Create (codes "b") 1 (int_column (codes "n") ∷ []) []) (codes "create b using heap (n int)") [] (codes "ok")
    ∷ ask (command.Attach (codes "a") (codes "one") (Trigger event.Insert (Compare Lt (New (codes "n")) (Const (int 3))) (action.Insert (codes "a") ((Const (int 7)) ∷ [])) true)) (codes "attach trigger one on a after insert when new.n < 3 do insert a values (7) deferred") [] (codes "ok")
    ∷ ask (command.Attach (codes "a") (codes "two") (Trigger event.Insert Always (action.Insert (codes "b") ((New (codes "n")) ∷ [])) true)) (codes "attach trigger two on a after insert when always do insert b values (new.n) deferred") [] (codes "ok")
    ∷ ask command.Begin (codes "begin") [] (codes "ok")
    ∷ ask (command.Insert (codes "a") ((int 1) ∷ [])) (codes "insert a values (1)") [] (codes "ok @8000000000000001")
    ∷ ask command.Commit (codes "commit") ((slot 3 0) ∷ (slot 3 1) ∷ []) (codes "ok +@000000030000 +@000000030001")
    ∷ ask (command.Scan (codes "b") None None) (codes "scan b") [] (codes "@000000030000 (1)\n@000000030001 (7)\nok 2")
    ∷ ask (command.Act (action.Delete (codes "a") [])) (codes "delete a") [] (codes "ok 2")
    ∷ ask (command.Insert (codes "a") ((int 5) ∷ [])) (codes "insert a values (5)") ((slot 3 2) ∷ []) (codes "ok @8000000000000005 +@000000030002")
    ∷ ask (command.Insert (codes "a") ((int 2) ∷ [])) (codes "insert a values (2)") ((slot 3 3) ∷ (slot 3 4) ∷ []) (codes "ok @8000000000000002 +@000000030003 +@000000030004")
    ∷ ask (command.Scan (codes "b") (Some (slot 3 1)) None) (codes "scan b after @000000030001") [] (codes "@000000030002 (5)\n@000000030003 (2)\n@000000030004 (7)\nok 3")
    ∷ []

plays : answers start script ≡ replies_of script
unfolding digits encode_with number_spelling
plays = refl

prints : printed script ≡ lines_of script
unfolding digits encode_with
prints = refl
