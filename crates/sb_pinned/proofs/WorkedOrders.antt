-- Commands that could be refused for two causes: the lesser number comes first. And a kernel that is down.
use Rattle.std.specs.Prelude.{◌≡◌, refl, true, false, codes, List, [], ◌∷◌, map, replicate, Some, None, pos}
use Rattle.sb_pred.specs.Tree.{Always}
use Rattle.sb_rule.specs.declared.action.Action.TheVariants as action
use Rattle.sb_rule.specs.declared.rule.Mode.TheVariants.{Restrict}
use Rattle.sb_rule.specs.declared.rule.Side.TheVariants.{Main}
use Rattle.sb_rule.specs.declared.rule.Rule.TheVariants.{TreeIndex, HashIndex, JoinIndex, Stats, Check, Refers}
use Rattle.sb_relation.specs.Db.{Db}
use Rattle.sb_fold.specs.declared.refusal.Refusal.TheVariants as refusal
use Rattle.sb_plain.specs.declared.command.Command.{Command}
use Rattle.sb_plain.specs.declared.command.Command.TheVariants as command
use Rattle.sb_plain.specs.Refusing.{refused}
use Rattle.sb_plain.specs.State.{State, none_gone}
use Rattle.sb_plain.specs.Step.{step}
use Rattle.sb_pinned.proofs.Samples.{letters, two, slot, a, b, r, t, z, numbers, text_column, named, relation, heap, temp}
use Rattle.sb_pinned.proofs.Scripts.{none, over, no}

-- t is a heap with 16 attachments, of which s is the first; r has a text; w ends with the run and has a text, u ends with it too
abbrev db : Db
db =
    (r, relation 1 (text_column a 9 ∷ []) [] [] [])
    ∷ (t, heap (named (codes "s") (Stats a (pos 0) (pos 1)) ∷ replicate 15 (named (codes "k") (Check Always false))) [])
    ∷ (codes "u", temp [] [])
    ∷ (codes "w", relation 3 (text_column a 9 ∷ []) [] [] [])
    ∷ []

-- some codes aren't live
abbrev few : State
few = record (over db) { live = record { methods = 1 ∷ []; attachments = 1 ∷ 3 ∷ 5 ∷ 6 ∷ [] } }

abbrev inside : State
inside = record (over db) {
  transaction = Some (record { db = db; queue = record { actions = action.Delete t [] ∷ []; entries = [] }; points = []; gone = none_gone; spent = 7 });
}

abbrev down : State
down = record inside { down = true }

-- ---- down, and all others
abbrev commands : List Command
commands =
    command.Begin ∷ command.Commit ∷ command.Abort ∷ command.Checkpoint ∷ command.Tables ∷ command.Drop z ∷ command.Scan t None None ∷ command.Insert t (two 1 1)
    ∷ command.Register true 99 ∷ command.Rollback z ∷ []

all_commands_are_refused_by_a_kernel_that_is_down : map (refused none down) commands ≡ replicate 10 (Some refusal.Down)
all_commands_are_refused_by_a_kernel_that_is_down = refl

-- nothing is paid and nothing changes
a_kernel_that_is_down_stays_as_it_is :
    map (λ c. step none down c []) commands ≡ replicate 10 (record { reply = Some (no refusal.Down); state = down; points = []; spent = 7 })
a_kernel_that_is_down_stays_as_it_is = refl

-- ---- a place, and what isn't there or is in use: actions wait
a_place_comes_before_a_relation : refused none inside (command.Drop z) ≡ Some refusal.State
a_place_comes_before_a_relation = refl

a_place_comes_before_a_code : refused none inside (command.Retire true 99) ≡ Some refusal.State
a_place_comes_before_a_code = refl

a_place_comes_before_a_name : refused none (over db) (command.Rollback z) ≡ Some refusal.State
a_place_comes_before_a_name = refl

-- ---- a relation, a name that is there, one that isn't, a code
a_relation_comes_before_a_name_that_is_there : refused none few (command.Attach z (codes "s") (HashIndex (b ∷ b ∷ []))) ≡ Some (refusal.NoRelation z)
a_relation_comes_before_a_name_that_is_there = refl

a_name_that_is_there_comes_before_one_that_is_not :
    map (refused none few) (command.Attach t (codes "s") (HashIndex (z ∷ [])) ∷ command.Attach t (codes "x") (HashIndex (z ∷ z ∷ [])) ∷ command.Create t 2 numbers (z ∷ []) ∷ [])
    ≡ Some (refusal.Exists (codes "s")) ∷ Some (refusal.Exists z) ∷ Some (refusal.Exists t) ∷ []
a_name_that_is_there_comes_before_one_that_is_not = refl

a_name_that_is_not_there_comes_before_a_code :
    map (refused none few) (command.Attach t (codes "x") (HashIndex (z ∷ [])) ∷ command.Create (codes "v") 2 numbers (z ∷ []) ∷ [])
    ≡ Some (refusal.NoName z) ∷ Some (refusal.NoName z) ∷ []
a_name_that_is_not_there_comes_before_a_code = refl

-- 4 isn't live here, though t has an instance of it
a_code_comes_before_what_is_in_use : refused none few (command.Retire false 4) ≡ Some (refusal.NoExtension 4)
a_code_comes_before_what_is_in_use = refl

-- ---- a code, kinds, ties, limits
-- a tree without a key; stats of a text
a_code_comes_before_a_kind :
    map (refused none few) (command.Create (codes "v") 2 numbers [] ∷ command.Attach r (codes "x") (Stats a (pos 0) (pos 1)) ∷ [])
    ≡ Some (refusal.NoExtension 2) ∷ Some (refusal.NoExtension 4) ∷ []
a_code_comes_before_a_kind = refl

-- a number and a text of a relation that ends with the run
a_kind_comes_before_a_tie :
    map (refused none few) (command.Attach t (codes "x") (JoinIndex Main (a ∷ []) (codes "w") (a ∷ [])) ∷ command.Attach t (codes "x") (Refers Main (a ∷ []) (codes "w") (a ∷ []) Restrict false) ∷ [])
    ≡ Some refusal.Mistyped ∷ Some refusal.Mistyped ∷ []
a_kind_comes_before_a_tie = refl

-- a 17th attachment of t
a_tie_comes_before_a_limit :
    map (refused none few) (command.Attach t (codes "x") (JoinIndex Main (a ∷ []) (codes "u") (a ∷ [])) ∷ command.Attach t (codes "x") (JoinIndex Main (a ∷ []) t (b ∷ [])) ∷ [])
    ≡ Some refusal.Mixed ∷ Some refusal.Mixed ∷ []
a_tie_comes_before_a_limit = refl

a_limit_comes_last : refused none few (command.Attach t (codes "x") (TreeIndex (a ∷ []) false)) ≡ Some refusal.Limit
a_limit_comes_last = refl

-- a kind comes before a limit
a_kind_comes_before_a_limit : refused none few (command.Attach t (codes "x") (Refers Main (a ∷ []) r (a ∷ []) Restrict false)) ≡ Some refusal.Mistyped
a_kind_comes_before_a_limit = refl

-- ---- limits, and what the rows make of a rule
-- r has two rows that agree in a text of 199 letters; its 17th attachment, its length and its veto
abbrev filled : Db
filled = (r, relation 1 (text_column a 255 ∷ []) [] (replicate 16 (named (codes "k") (Check Always false))) ((slot 0, letters 199 ∷ []) ∷ (slot 1, letters 199 ∷ []) ∷ [])) ∷ []

a_limit_comes_before_a_long_row : (step none (over filled) (command.Attach r (codes "x") (TreeIndex (a ∷ []) true)) []).reply ≡ Some (no refusal.Limit)
a_limit_comes_before_a_long_row = refl
