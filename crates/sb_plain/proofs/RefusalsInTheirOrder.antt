-- Commands that are refused for their place, for names, codes, ties, kinds and records.
use Rattle.std.specs.Prelude.{◌≡◌, refl, codes, List, [], ◌∷◌, true, false, pos, Some, None}
use Rattle.std.specs.Fmt.{digits}
use Rattle.hex.specs.Hex.{encode_with}
use Rattle.sb_value.specs.declared.value.Value.TheVariants.{Text}
use Rattle.sb_pred.specs.declared.predicate.Op.TheVariants.{Eq}
use Rattle.sb_pred.specs.declared.predicate.Term.TheVariants.{Const, New}
use Rattle.sb_pred.specs.Tree.{Always, Compare, Both}
use Rattle.sb_rule.specs.declared.rule.Side.TheVariants.{Main}
use Rattle.sb_rule.specs.declared.rule.Mode.TheVariants.{Restrict, Cascade}
use Rattle.sb_rule.specs.declared.rule.Event.TheVariants as event
use Rattle.sb_rule.specs.declared.action.Action.TheVariants as action
use Rattle.sb_rule.specs.declared.rule.Rule.TheVariants.{TreeIndex, HashIndex, JoinIndex, Stats, Check, Refers, Trigger}
use Rattle.sb_rule.specs.Spelling.{number_spelling}
use Rattle.sb_relation.specs.Db.{int_column}
use Rattle.sb_plain.specs.declared.command.Command.TheVariants as command
use Rattle.sb_plain.proofs.Scripts.{Asked, ask, answers, replies_of, printed, lines_of, start, spare, int, text_column, slot}

abbrev script : List Asked
script =
    ask (command.Create (codes "t") 1 (int_column (codes "a") ∷ text_column (codes "b") 255 ∷ []) []) (codes "create t using heap (a int, b text)") [] (codes "ok")
    ∷ ask (command.Create (codes "w") 3 (int_column (codes "a") ∷ []) []) (codes "create w using temp (a int)") [] (codes "ok")
    ∷ ask (command.Create (codes "n") 2 (int_column (codes "id") ∷ int_column (codes "up") ∷ []) ((codes "id") ∷ [])) (codes "create n using tree (id int, up int) key (id)") [] (codes "ok")
    ∷ ask (command.Attach (codes "n") (codes "f") (Refers Main ((codes "up") ∷ []) (codes "n") ((codes "id") ∷ []) Cascade false)) (codes "attach refers f on n (up) to n (id) cascade") [] (codes "ok")
    ∷ ask (command.Show (codes "n")) (codes "show n") [] (codes "create n using tree (id int, up int) key (id)\nattach refers f on n (up) to n (id) cascade\nok 2")
    ∷ ask (command.Drop (codes "n")) (codes "drop n") [] (codes "ok")
    ∷ ask (command.Create (codes "n") 2 (int_column (codes "id") ∷ int_column (codes "up") ∷ []) ((codes "id") ∷ [])) (codes "create n using tree (id int, up int) key (id)") [] (codes "ok")
    ∷ ask (command.Attach (codes "t") (codes "j") (JoinIndex Main ((codes "a") ∷ []) (codes "t") ((codes "a") ∷ []))) (codes "attach joinindex j on t (a) with t (a)") spare (codes "! mixed")
    ∷ ask (command.Attach (codes "t") (codes "g") (Trigger event.Insert Always (action.Insert (codes "w") ((New (codes "a")) ∷ [])) false)) (codes "attach trigger g on t after insert when always do insert w values (new.a)") spare (codes "! mixed")
    ∷ ask (command.Attach (codes "w") (codes "f") (Refers Main ((codes "a") ∷ []) (codes "t") ((codes "a") ∷ []) Restrict false)) (codes "attach refers f on w (a) to t (a) restrict") spare (codes "! mixed")
    ∷ ask (command.Attach (codes "t") (codes "h") (HashIndex ((codes "a") ∷ []))) (codes "attach hashindex h on t (a)") [] (codes "ok")
    ∷ ask (command.Range (codes "t") (codes "h") ((int 1) ∷ []) ((int 2) ∷ [])) (codes "range h on t from (1) to (2)") spare (codes "! type")
    ∷ ask (command.Lookup (codes "t") (codes "h") ((Text (codes "x")) ∷ [])) (codes "lookup h on t ('x')") spare (codes "! type")
    ∷ ask (command.Lookup (codes "t") (codes "h") ((int 1) ∷ (int 2) ∷ [])) (codes "lookup h on t (1, 2)") spare (codes "! type")
    ∷ ask (command.Attach (codes "t") (codes "late") (Trigger event.Insert Always (action.Delete (codes "n") []) true)) (codes "attach trigger late on t after insert when always do delete n deferred") [] (codes "ok")
    ∷ ask (command.Drop (codes "n")) (codes "drop n") spare (codes "! inuse t late")
    ∷ ask command.Begin (codes "begin") [] (codes "ok")
    ∷ ask (command.Insert (codes "t") ((int 1) ∷ (Text (codes "x")) ∷ [])) (codes "insert t values (1, 'x')") ((slot 2 0) ∷ []) (codes "ok @000000020000")
    ∷ ask (command.Drop (codes "t")) (codes "drop t") spare (codes "! state")
    ∷ ask (command.Drop (codes "q")) (codes "drop q") spare (codes "! state")
    ∷ ask command.Begin (codes "begin") spare (codes "! state")
    ∷ ask command.Checkpoint (codes "checkpoint") spare (codes "! state")
    ∷ ask (command.Register true 1) (codes "register method 1") spare (codes "! state")
    ∷ ask (command.Retire true 1) (codes "retire method 1") spare (codes "! state")
    ∷ ask (command.Detach (codes "t") (codes "late")) (codes "detach late on t") [] (codes "ok")
    ∷ ask (command.Savepoint (codes "s")) (codes "savepoint s") [] (codes "ok")
    ∷ ask (command.Detach (codes "t") (codes "h")) (codes "detach h on t") [] (codes "ok")
    ∷ ask (command.Lookup (codes "t") (codes "h") ((int 1) ∷ [])) (codes "lookup h on t (1)") spare (codes "! noname h")
    ∷ ask (command.Rollback (codes "s")) (codes "rollback s") [] (codes "ok")
    ∷ ask (command.Lookup (codes "t") (codes "h") ((int 1) ∷ [])) (codes "lookup h on t (1)") [] (codes "@000000020000 (1, 'x')\nok 1")
    ∷ ask command.Commit (codes "commit") [] (codes "ok")
    ∷ ask command.Commit (codes "commit") spare (codes "! state")
    ∷ ask (command.Savepoint (codes "s")) (codes "savepoint s") spare (codes "! state")
    ∷ ask (command.Rollback (codes "s")) (codes "rollback s") spare (codes "! state")
    ∷ ask command.Checkpoint (codes "checkpoint") [] (codes "ok")
    ∷ ask (command.Create (codes "z") 1 (int_column (codes "a") ∷ []) ((codes "a") ∷ [])) (codes "create z using heap (a int) key (a)") spare (codes "! type")
    ∷ ask (command.Create (codes "z") 2 (int_column (codes "a") ∷ []) []) (codes "create z using tree (a int)") spare (codes "! type")
    ∷ ask (command.Create (codes "z") 2 (int_column (codes "a") ∷ int_column (codes "b") ∷ int_column (codes "b") ∷ int_column (codes "a") ∷ []) ((codes "a") ∷ [])) (codes "create z using tree (a int, b int, b int, a int) key (a)") spare (codes "! exists b")
    ∷ ask (command.Create (codes "z") 2 (int_column (codes "a") ∷ []) ((codes "b") ∷ [])) (codes "create z using tree (a int) key (b)") spare (codes "! noname b")
    ∷ ask (command.Create (codes "z") 1000 (int_column (codes "a") ∷ []) []) (codes "create z using method 1000 (a int)") spare (codes "! noextension 1000")
    ∷ ask (command.Register false 1) (codes "register attachment 1") spare (codes "! noextension 1")
    ∷ ask (command.Retire true 1) (codes "retire method 1") spare (codes "! inuse t -")
    ∷ ask (command.Detach (codes "t") (codes "x")) (codes "detach x on t") spare (codes "! noname x")
    ∷ ask (command.Entries (codes "t") (codes "x")) (codes "entries x on t") spare (codes "! noname x")
    ∷ ask (command.Insert (codes "q") ((int 1) ∷ [])) (codes "insert q values (1)") spare (codes "! norelation q")
    ∷ ask (command.Act (action.Set (codes "t") (codes "a") (Const (Text (codes "x"))) [])) (codes "set t a = 'x'") spare (codes "! type")
    ∷ ask (command.Act (action.Set (codes "t") (codes "c") (Const (int 1)) [])) (codes "set t c = 1") spare (codes "! noname c")
    ∷ ask (command.Act (action.Add (codes "t") (codes "b") (Const (int 1)) [])) (codes "add t b by 1") spare (codes "! type")
    ∷ ask (command.Act (action.Delete (codes "t") (((codes "c"), (Const (int 1))) ∷ []))) (codes "delete t where c = 1") spare (codes "! noname c")
    ∷ ask (command.Get (codes "t") (0 ∷ [])) (codes "get t @00") spare (codes "! norecord t")
    ∷ ask (command.Update (codes "t") (0 ∷ []) ((int 1) ∷ (Text (codes "x")) ∷ [])) (codes "update t @00 values (1, 'x')") spare (codes "! norecord t")
    ∷ ask (command.Delete (codes "t") (0 ∷ [])) (codes "delete t @00") spare (codes "! norecord t")
    ∷ ask (command.Attach (codes "t") (codes "s") (Stats (codes "b") (pos 0) (pos 1))) (codes "attach stats s on t (b) low 0 width 1") spare (codes "! type")
    ∷ ask (command.Attach (codes "t") (codes "c") (Check (Both (Compare Eq (New (codes "a")) (Const (int 1))) (Compare Eq (New (codes "c")) (Const (int 2)))) false)) (codes "attach check c on t a = 1 and c = 2") spare (codes "! noname c")
    ∷ ask (command.Attach (codes "t") (codes "h") (TreeIndex ((codes "b") ∷ []) false)) (codes "attach treeindex h on t (b)") spare (codes "! exists h")
    ∷ ask (command.Scan (codes "t") None (Some 0)) (codes "scan t limit 0") [] (codes "ok 0")
    ∷ ask (command.Act (action.Set (codes "t") (codes "a") (Const (int 7)) (((codes "a"), (Const (int 1))) ∷ ((codes "b"), (Const (Text (codes "x")))) ∷ []))) (codes "set t a = 7 where a = 1 and b = 'x'") ((slot 2 0) ∷ []) (codes "ok 1 +@000000020000")
    ∷ ask (command.Act (action.Delete (codes "t") (((codes "a"), (Const (int 1))) ∷ []))) (codes "delete t where a = 1") [] (codes "ok 0")
    ∷ ask (command.Delete (codes "t") (slot 2 0)) (codes "delete t @000000020000") [] (codes "ok")
    ∷ ask command.Tables (codes "tables") [] (codes "n\nt\nw\nok 3")
    ∷ []

plays : answers start script ≡ replies_of script
unfolding digits encode_with number_spelling
plays = refl

prints : printed script ≡ lines_of script
unfolding digits encode_with
prints = refl
