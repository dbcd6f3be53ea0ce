-- A sum outside 64 bits is refused.
use Rattle.std.specs.Prelude.{◌≡◌, refl, codes, List, [], ◌∷◌}
use Rattle.std.specs.Fmt.{digits}
use Rattle.hex.specs.Hex.{encode_with}
use Rattle.sb_pred.specs.declared.predicate.Term.TheVariants.{Const}
use Rattle.sb_rule.specs.declared.action.Action.TheVariants as action
use Rattle.sb_rule.specs.Spelling.{number_spelling}
use Rattle.sb_relation.specs.Db.{int_column}
use Rattle.sb_plain.specs.declared.command.Command.TheVariants as command
use Rattle.sb_plain.proofs.Scripts.{Asked, ask, answers, replies_of, printed, lines_of, start, spare, int}

abbrev script : List Asked
script =
    ask (command.Create (codes "q") 2 (int_column (codes "x") ∷ []) ((codes "x") ∷ [])) (codes "create q using tree (x int) key (x)") [] (codes "ok")
    ∷ ask (command.Insert (codes "q") ((int 9223372036854775807) ∷ [])) (codes "insert q values (9223372036854775807)") [] (codes "ok @ffffffffffffffff")
    ∷ ask (command.Act (action.Add (codes "q") (codes "x") (Const (int 1)) [])) (codes "add q x by 1") spare (codes "! range q")
    ∷ []

plays : answers start script ≡ replies_of script
unfolding digits encode_with number_spelling
plays = refl

prints : printed script ≡ lines_of script
unfolding digits encode_with
prints = refl
