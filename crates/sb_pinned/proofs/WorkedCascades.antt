-- What goes with a row that others refer to by several columns.
use Rattle.std.specs.Prelude.{◌≡◌, refl, false, codes, List, [], ◌∷◌, None}
use Rattle.sb_pred.specs.declared.predicate.Term.TheVariants.{Const}
use Rattle.sb_rule.specs.declared.action.Action.TheVariants as action
use Rattle.sb_rule.specs.declared.change.Change.TheVariants.{Delete}
use Rattle.sb_rule.specs.declared.rule.Mode.TheVariants.{Cascade}
use Rattle.sb_rule.specs.declared.rule.Side.TheVariants.{Main, Mirror}
use Rattle.sb_rule.specs.declared.rule.Rule.{Rule}
use Rattle.sb_rule.specs.declared.rule.Rule.TheVariants.{Refers}
use Rattle.sb_relation.specs.Db.{Db}
use Rattle.sb_relation.specs.Rules.{delete_those, follows}
use Rattle.sb_plain.specs.declared.command.Command.TheVariants as command
use Rattle.sb_pinned.proofs.Samples.{int, two, slot, a, b, l, r, named, heap}
use Rattle.sb_pinned.proofs.Scripts.{Asked, ask, answers, replies_of, over, ok, rows}

-- l (b, a) refers to r (a, b): both columns count, and each has its own value
abbrev main : Rule
main = Refers Main (b ∷ a ∷ []) r (a ∷ b ∷ []) Cascade false

abbrev mirror : Rule
mirror = Refers Mirror (a ∷ b ∷ []) l (b ∷ a ∷ []) Cascade false

-- r has (7, 1) and (7, 2); l has a row for each, and both have 7 in b
abbrev tied : Db
tied =
    (l, heap (named (codes "f") main ∷ []) ((slot 0, two 1 7) ∷ (slot 1, two 2 7) ∷ []))
    ∷ (r, heap (named (codes "l.f") mirror ∷ []) ((slot 0, two 7 1) ∷ (slot 1, two 7 2) ∷ []))
    ∷ []

-- over the rows that are left in r
abbrev without_the_first : Db
without_the_first =
    (l, heap (named (codes "f") main ∷ []) ((slot 0, two 1 7) ∷ (slot 1, two 2 7) ∷ []))
    ∷ (r, heap (named (codes "l.f") mirror ∷ []) ((slot 1, two 7 2) ∷ []))
    ∷ []

each_column_has_its_value : delete_those l (b ∷ a ∷ []) (two 7 1) ≡ action.Delete l ((b, Const (int 7)) ∷ (a, Const (int 1)) ∷ [])
each_column_has_its_value = refl

both_columns_of_the_old_row_follow : follows without_the_first r mirror (Delete (slot 0) (two 7 1)) ≡ action.Delete l ((b, Const (int 7)) ∷ (a, Const (int 1)) ∷ []) ∷ []
both_columns_of_the_old_row_follow = refl

-- the row that shares one column with the one that goes, and not the other, stays
abbrev script : List Asked
script =
    ask (command.Delete r (slot 0)) [] ok
    ∷ ask (command.Scan l None None) [] (rows ((slot 1, two 2 7) ∷ []))
    ∷ ask (command.Delete r (slot 1)) [] ok
    ∷ ask (command.Scan l None None) [] (rows [])
    ∷ []

rows_that_agree_in_one_column_stay : answers (over tied) script ≡ replies_of script
rows_that_agree_in_one_column_stay = refl
