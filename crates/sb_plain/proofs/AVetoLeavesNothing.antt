-- A check and a unique index: the first that does not admit a row is named, and nothing of the row stays.
use Rattle.std.specs.Prelude.{◌≡◌, refl, codes, List, [], ◌∷◌, true, false, negsuc}
use Rattle.std.specs.Fmt.{digits}
use Rattle.hex.specs.Hex.{encode_with}
use Rattle.sb_value.specs.declared.value.Value.TheVariants.{Int}
use Rattle.sb_pred.specs.declared.predicate.Op.TheVariants.{Ge}
use Rattle.sb_pred.specs.declared.predicate.Term.TheVariants.{Const, New}
use Rattle.sb_pred.specs.Tree.{Compare}
use Rattle.sb_rule.specs.declared.rule.Rule.TheVariants.{TreeIndex, Check}
use Rattle.sb_rule.specs.Spelling.{number_spelling}
use Rattle.sb_relation.specs.Db.{int_column}
use Rattle.sb_plain.specs.declared.command.Command.TheVariants as command
use Rattle.sb_plain.proofs.Scripts.{Asked, ask, answers, replies_of, printed, lines_of, start, spare, int, slot}

abbrev script : List Asked
script =
    ask (command.Create (codes "p") 1 (int_column (codes "id") ∷ int_column (codes "pay") ∷ []) []) (codes "create p using heap (id int, pay int)") [] (codes "ok")
    ∷ ask (command.Attach (codes "p") (codes "pos") (Check (Compare Ge (New (codes "pay")) (Const (int 0))) false)) (codes "attach check pos on p pay >= 0") [] (codes "ok")
    ∷ ask (command.Attach (codes "p") (codes "by_id") (TreeIndex ((codes "id") ∷ []) true)) (codes "attach treeindex by_id on p (id) unique") [] (codes "ok")
    ∷ ask (command.Insert (codes "p") ((int 1) ∷ (int 5) ∷ [])) (codes "insert p values (1, 5)") ((slot 2 0) ∷ []) (codes "ok @000000020000")
    ∷ ask (command.Insert (codes "p") ((int 1) ∷ (Int (negsuc 4)) ∷ [])) (codes "insert p values (1, -5)") spare (codes "! veto p by_id")
    ∷ ask (command.Insert (codes "p") ((int 2) ∷ (Int (negsuc 4)) ∷ [])) (codes "insert p values (2, -5)") spare (codes "! veto p pos")
    ∷ ask (command.Entries (codes "p") (codes "by_id")) (codes "entries by_id on p") [] (codes "@8000000000000001 @000000020000\nok 1")
    ∷ []

plays : answers start script ≡ replies_of script
unfolding digits encode_with number_spelling
plays = refl

prints : printed script ≡ lines_of script
unfolding digits encode_with
prints = refl
