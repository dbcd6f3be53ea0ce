-- A cascade of a deferred refers runs at once, and so do its triggers; drops and ties; a temp relation counts its keys.
use Rattle.std.specs.Prelude.{◌≡◌, refl, codes, List, [], ◌∷◌, true, false, Some, None}
use Rattle.std.specs.Fmt.{digits}
use Rattle.hex.specs.Hex.{encode_with}
use Rattle.sb_value.specs.declared.value.Value.TheVariants.{Text}
use Rattle.sb_pred.specs.declared.predicate.Op.TheVariants.{Eq}
use Rattle.sb_pred.specs.declared.predicate.Term.TheVariants.{Const, New, Old}
use Rattle.sb_pred.specs.Tree.{Always, Compare}
use Rattle.sb_rule.specs.declared.rule.Side.TheVariants.{Main}
use Rattle.sb_rule.specs.declared.rule.Mode.TheVariants.{Cascade}
use Rattle.sb_rule.specs.declared.rule.Event.TheVariants as event
use Rattle.sb_rule.specs.declared.action.Action.TheVariants as action
use Rattle.sb_rule.specs.declared.rule.Rule.TheVariants.{TreeIndex, Check, Refers, Trigger}
use Rattle.sb_rule.specs.Spelling.{number_spelling}
use Rattle.sb_relation.specs.Db.{int_column}
use Rattle.sb_plain.specs.declared.command.Command.TheVariants as command
use Rattle.sb_plain.proofs.Scripts.{Asked, ask, answers, replies_of, printed, lines_of, start, spare, int, key, number}

abbrev script : List Asked
script =
    ask (command.Create (codes "p") 2 (int_column (codes "id") ∷ []) ((codes "id") ∷ [])) (codes "create p using tree (id int) key (id)") [] (codes "ok")
    ∷ ask (command.Create (codes "c") 2 (int_column (codes "k") ∷ int_column (codes "p") ∷ []) ((codes "k") ∷ [])) (codes "create c using tree (k int, p int) key (k)") [] (codes "ok")
    ∷ ask (command.Create (codes "d") 2 (int_column (codes "k") ∷ []) ((codes "k") ∷ [])) (codes "create d using tree (k int) key (k)") [] (codes "ok")
    ∷ ask (command.Attach (codes "c") (codes "f") (Refers Main ((codes "p") ∷ []) (codes "p") ((codes "id") ∷ []) Cascade true)) (codes "attach refers f on c (p) to p (id) cascade deferred") [] (codes "ok")
    ∷ ask (command.Attach (codes "c") (codes "gone") (Trigger event.Delete Always (action.Insert (codes "d") ((Old (codes "k")) ∷ [])) false)) (codes "attach trigger gone on c after delete when always do insert d values (old.k)") [] (codes "ok")
    ∷ ask (command.Insert (codes "p") ((int 1) ∷ [])) (codes "insert p values (1)") [] (codes "ok @8000000000000001")
    ∷ ask (command.Insert (codes "c") ((int 10) ∷ (int 1) ∷ [])) (codes "insert c values (10, 1)") [] (codes "ok @800000000000000a")
    ∷ ask (command.Insert (codes "c") ((int 11) ∷ (int 1) ∷ [])) (codes "insert c values (11, 1)") [] (codes "ok @800000000000000b")
    ∷ ask (command.Update (codes "p") (key 1) ((int 2) ∷ [])) (codes "update p @8000000000000001 values (2)") [] (codes "ok @8000000000000002")
    ∷ ask (command.Scan (codes "c") None None) (codes "scan c") [] (codes "ok 0")
    ∷ ask (command.Scan (codes "d") None None) (codes "scan d") [] (codes "@800000000000000a (10)\n@800000000000000b (11)\nok 2")
    ∷ ask (command.Insert (codes "c") ((int 12) ∷ (int 9) ∷ [])) (codes "insert c values (12, 9)") spare (codes "! veto c f")
    ∷ ask command.Begin (codes "begin") [] (codes "ok")
    ∷ ask (command.Insert (codes "c") ((int 12) ∷ (int 9) ∷ [])) (codes "insert c values (12, 9)") [] (codes "ok @800000000000000c")
    ∷ ask (command.Insert (codes "p") ((int 9) ∷ [])) (codes "insert p values (9)") [] (codes "ok @8000000000000009")
    ∷ ask command.Commit (codes "commit") [] (codes "ok")
    ∷ ask command.Begin (codes "begin") [] (codes "ok")
    ∷ ask (command.Act (action.Delete (codes "p") [])) (codes "delete p") [] (codes "ok 2")
    ∷ ask (command.Scan (codes "c") None None) (codes "scan c") [] (codes "ok 0")
    ∷ ask command.Abort (codes "abort") [] (codes "ok")
    ∷ ask (command.Scan (codes "c") None None) (codes "scan c") [] (codes "@800000000000000c (12, 9)\nok 1")
    ∷ ask (command.Drop (codes "p")) (codes "drop p") spare (codes "! inuse c f")
    ∷ ask (command.Drop (codes "d")) (codes "drop d") spare (codes "! inuse c gone")
    ∷ ask (command.Drop (codes "c")) (codes "drop c") [] (codes "ok")
    ∷ ask (command.Drop (codes "p")) (codes "drop p") [] (codes "ok")
    ∷ ask (command.Drop (codes "d")) (codes "drop d") [] (codes "ok")
    ∷ ask command.Tables (codes "tables") [] (codes "ok 0")
    ∷ ask (command.Create (codes "t") 3 (int_column (codes "a") ∷ []) []) (codes "create t using temp (a int)") [] (codes "ok")
    ∷ ask (command.Insert (codes "t") ((int 7) ∷ [])) (codes "insert t values (7)") [] (codes "ok @0000000000000001")
    ∷ ask (command.Insert (codes "t") ((int 8) ∷ [])) (codes "insert t values (8)") [] (codes "ok @0000000000000002")
    ∷ ask (command.Delete (codes "t") (number 2)) (codes "delete t @0000000000000002") [] (codes "ok")
    ∷ ask (command.Insert (codes "t") ((int 9) ∷ [])) (codes "insert t values (9)") [] (codes "ok @0000000000000002")
    ∷ ask (command.Update (codes "t") (number 1) ((int 70) ∷ [])) (codes "update t @0000000000000001 values (70)") [] (codes "ok @0000000000000001")
    ∷ ask (command.Act (action.Set (codes "t") (codes "a") (Const (int 5)) (((codes "a"), (Const (int 70))) ∷ []))) (codes "set t a = 5 where a = 70") [] (codes "ok 1")
    ∷ ask (command.Scan (codes "t") (Some (number 1)) None) (codes "scan t after @0000000000000001") [] (codes "@0000000000000002 (9)\nok 1")
    ∷ ask (command.Act (action.Delete (codes "t") [])) (codes "delete t") [] (codes "ok 2")
    ∷ ask (command.Insert (codes "t") ((int 1) ∷ [])) (codes "insert t values (1)") [] (codes "ok @0000000000000001")
    ∷ ask (command.Attach (codes "t") (codes "i") (TreeIndex ((codes "a") ∷ (codes "a") ∷ []) false)) (codes "attach treeindex i on t (a, a)") spare (codes "! exists a")
    ∷ ask (command.Attach (codes "t") (codes "i") (TreeIndex ((codes "b") ∷ []) false)) (codes "attach treeindex i on t (b)") spare (codes "! noname b")
    ∷ ask (command.Lookup (codes "t") (codes "i") ((int 1) ∷ [])) (codes "lookup i on t (1)") spare (codes "! noname i")
    ∷ ask (command.Attach (codes "t") (codes "i") (Check (Compare Eq (New (codes "a")) (Const (Text (codes "x")))) false)) (codes "attach check i on t a = 'x'") spare (codes "! type")
    ∷ ask (command.Attach (codes "t") (codes "i") (Trigger event.Delete (Compare Eq (New (codes "a")) (Const (int 1))) (action.Delete (codes "t") []) false)) (codes "attach trigger i on t after delete when new.a = 1 do delete t") spare (codes "! type")
    ∷ ask (command.Attach (codes "t") (codes "i") (Trigger event.Insert Always (action.Insert (codes "q") ((Const (int 1)) ∷ [])) false)) (codes "attach trigger i on t after insert when always do insert q values (1)") spare (codes "! norelation q")
    ∷ []

plays : answers start script ≡ replies_of script
unfolding digits encode_with number_spelling
plays = refl

prints : printed script ≡ lines_of script
unfolding digits encode_with
prints = refl
