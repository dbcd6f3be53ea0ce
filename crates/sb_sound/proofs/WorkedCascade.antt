-- A play in which a row goes to which another refers: each state is sound, and a database on the way is not.
use Rattle.std.proofs.Common.{◌≡◌, codes, List, [], ◌∷◌, ◌++◌, map, None, refl, arith, rules}
use Rattle.std.specs.Prelude.{All, pos, false}
use Rattle.std.specs.Int.{to_be_bytes, w64}
use Rattle.std.proofs.lemmas.List.Elements.{All-from_recursion}
use Rattle.sb_value.specs.declared.value.Value.TheVariants.{Int}
use Rattle.sb_codec.specs.Tuples.{IsTuple}
use Rattle.sb_pred.specs.declared.predicate.Term.TheVariants.{Const}
use Rattle.sb_rule.specs.declared.action.Action.TheVariants as action
use Rattle.sb_rule.specs.declared.rule.Mode.TheVariants.{Cascade}
use Rattle.sb_rule.specs.declared.rule.Rule.{Rule}
use Rattle.sb_rule.specs.declared.rule.Rule.TheVariants.{Refers}
use Rattle.sb_rule.specs.declared.rule.Side.TheVariants.{Main, Mirror}
use Rattle.sb_relation.specs.Db.{Name, Rows, Attached, Relation, Db, int_column}
use Rattle.sb_relation.specs.Rules.{holds}
use Rattle.sb_fold.specs.Extensions.{Extensions}
use Rattle.sb_fold.specs.Outcome.{Reached}
use Rattle.sb_plain.specs.declared.command.Command.{Command}
use Rattle.sb_plain.specs.declared.command.Command.TheVariants as command
use Rattle.sb_plain.specs.State.{Codes, State, view}
use Rattle.sb_plain.specs.Step.{step}
use Rattle.sb_lawful_steps.specs.Laws.{IsSaid, Said, passed, beginning}
use Rattle.sb_sound.specs.Laws.{IsSoundAlong}
use Rattle.sb_sound.proofs.Stepping.{plays-from-nothing}

abbrev no_extensions : Extensions
no_extensions = record { boxes = record { methods = []; attachments = [] }; methods = []; attachments = [] }

abbrev live : Codes
live = record { methods = 1 ∷ 2 ∷ 3 ∷ []; attachments = 1 ∷ 2 ∷ 3 ∷ 4 ∷ 5 ∷ 6 ∷ 7 ∷ [] }

abbrev spare : Codes
spare = record { methods = []; attachments = [] }

-- ---- two relations of a column v, whose records are counted: a refers to b
abbrev tie : Rule
tie = Refers Main (codes "v" ∷ []) (codes "b") (codes "v" ∷ []) Cascade false

abbrev mirror : Rule
mirror = Refers Mirror (codes "v" ∷ []) (codes "a") (codes "v" ∷ []) Cascade false

abbrev named : Name → Rule → Attached
named name rule = record { name = name; rule = rule; buckets = 0 }

abbrev counted : Rows → List Attached → Relation
counted rows items = record { method = 3; schema = int_column (codes "v") ∷ []; key = []; rows = rows; attachments = items }

abbrev tied : Rows → Rows → Db
tied children parents = (codes "a", counted children (named (codes "x") tie ∷ [])) ∷ (codes "b", counted parents (named (codes "a.x") mirror ∷ [])) ∷ []

abbrev row : Rows
row = (to_be_bytes w64 1, Int (pos 7) ∷ []) ∷ []

-- ---- a play
abbrev creates : Name → Command
creates name = command.Create name 3 (int_column (codes "v") ∷ []) []

abbrev inserts : Name → Command
inserts name = command.Insert name (Int (pos 7) ∷ [])

abbrev joined : List Said
joined =
    (creates (codes "a"), []) ∷ (creates (codes "b"), []) ∷ (command.Attach (codes "a") (codes "x") tie, []) ∷ (inserts (codes "b"), []) ∷ (inserts (codes "a"), []) ∷ []

abbrev deletes : Command
deletes = command.Act (action.Delete (codes "b") ((codes "v", Const (Int (pos 7))) ∷ []))

abbrev play : List Said
play = joined ++ (deletes, []) ∷ []

seven : IsTuple (Int (pos 7) ∷ [])
seven = record { some = omega arith; few = omega arith; storable = search rules }

it_is_said : All (λ said. IsSaid said.0) play
it_is_said = All-from_recursion (λ (said : Said). IsSaid said.0) play (refl, (refl, ((refl, refl, tt), (seven, (seven, (tt, tt))))))

it_is_sound : All (IsSoundAlong no_extensions) (passed no_extensions (beginning live spare) play)
it_is_sound = plays-from-nothing no_extensions live spare play it_is_said

abbrev one : Db
one = (codes "a", counted [] []) ∷ []

abbrev two : Db
two = (codes "a", counted [] []) ∷ (codes "b", counted [] []) ∷ []

it_leads_through : map view (passed no_extensions (beginning live spare) play) ≡ [] ∷ one ∷ two ∷ tied [] [] ∷ tied [] row ∷ tied row row ∷ tied [] [] ∷ []
it_leads_through = refl

-- ---- on the way
abbrev reached : State → List Said → State
reached s [] = s
reached s (said ∷ others) = reached (step no_extensions s said.0 said.1).state others

abbrev after : Reached → Db
after p = p.after

-- first the parent goes, and then the child
its_points : map after (step no_extensions (reached (beginning live spare) joined) deletes []).points ≡ tied row [] ∷ tied [] [] ∷ []
its_points = refl

-- between both the reference fails
it_fails_there : holds None (tied row []) (codes "a") tie ≡ false
it_fails_there = refl
