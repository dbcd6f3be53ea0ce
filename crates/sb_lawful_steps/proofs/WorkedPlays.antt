-- A play of the language, and commands that the language can't say, each of which leads from a lawful state to one that isn't.
use Rattle.std.proofs.Common.{◌≡◌, ℕ, codes, ◌^◌, List, [], ◌∷◌, ◌++◌, map, Option, Some, None, refl, arith, rules}
use Rattle.std.specs.Prelude.{All, pos, false}
use Rattle.std.specs.Int.{to_be_bytes, w64}
use Rattle.std.proofs.lemmas.Bool.{true≢false}
use Rattle.std.proofs.lemmas.List.Elements.{All-from_recursion, All-nil, All-head, All-tail}
use Rattle.sb_value.specs.declared.value.Value.TheVariants.{Int}
use Rattle.sb_codec.specs.Tuples.{IsTuple}
use Rattle.sb_rule.specs.declared.rule.Mode.TheVariants.{Restrict}
use Rattle.sb_rule.specs.declared.rule.Rule.{Rule}
use Rattle.sb_rule.specs.declared.rule.Rule.TheVariants.{Refers}
use Rattle.sb_rule.specs.declared.rule.Side.TheVariants.{Main, Mirror}
use Rattle.sb_relation.specs.Db.{Name, Rows, Attached, Relation, Db, int_column}
use Rattle.sb_fold.specs.Extensions.{Extensions}
use Rattle.sb_plain.specs.declared.command.Command.{Command}
use Rattle.sb_plain.specs.declared.command.Command.TheVariants as command
use Rattle.sb_plain.specs.State.{Codes, State, view}
use Rattle.sb_plain.specs.Step.{step}
use Rattle.sb_lawful.proofs.Naming.{dotless-no-mirror}
use Rattle.sb_lawful_steps.specs.Laws.{IsSaid, IsLawfulAlong, Said, passed, beginning}
use Rattle.sb_lawful_steps.proofs.Stepping.{steps-leave, beginning-along}

abbrev no_extensions : Extensions
no_extensions = record { boxes = record { methods = []; attachments = [] }; methods = []; attachments = [] }

abbrev live : Codes
live = record { methods = 1 ∷ 2 ∷ 3 ∷ []; attachments = 1 ∷ 2 ∷ 3 ∷ 4 ∷ 5 ∷ 6 ∷ 7 ∷ [] }

abbrev spare : Codes
spare = record { methods = []; attachments = [] }

-- ---- two relations of a column v, whose records are counted
abbrev counted : Rows → List Attached → Relation
counted rows items = record { method = 3; schema = int_column (codes "v") ∷ []; key = []; rows = rows; attachments = items }

abbrev two : List Attached → List Attached → Rows → Db
two first second rows = (codes "a", counted [] first) ∷ (codes "b", counted rows second) ∷ []

-- x on a refers to b
abbrev tie : Rule
tie = Refers Main (codes "v" ∷ []) (codes "b") (codes "v" ∷ []) Restrict false

abbrev mirror : Rule
mirror = Refers Mirror (codes "v" ∷ []) (codes "a") (codes "v" ∷ []) Restrict false

abbrev named : Name → Rule → Attached
named name rule = record { name = name; rule = rule; buckets = 0 }

-- with their mirror
abbrev tied : Rows → Db
tied rows = two (named (codes "x") tie ∷ []) (named (codes "a.x") mirror ∷ []) rows

abbrev creates : Name → Command
creates name = command.Create name 3 (int_column (codes "v") ∷ []) []

abbrev inserts : ℕ → Command
inserts n = command.Insert (codes "b") (Int (pos n) ∷ [])

-- ---- a play
abbrev made : List Said
made = (creates (codes "a"), []) ∷ (creates (codes "b"), []) ∷ []

abbrev joined : List Said
joined = made ++ (command.Attach (codes "a") (codes "x") tie, []) ∷ []

abbrev play : List Said
play = joined ++ (inserts 7, []) ∷ (command.Detach (codes "a") (codes "x"), []) ∷ []

seven : IsTuple (Int (pos 7) ∷ [])
seven = record { some = omega arith; few = omega arith; storable = search rules }

abbrev AreSaid : List Said → Type 0
AreSaid commands = All (λ said. IsSaid said.0) commands

it_is_said : AreSaid play
it_is_said = All-from_recursion (λ (said : Said). IsSaid said.0) play (refl, (refl, ((refl, refl, tt), (seven, (refl, tt)))))

abbrev row : Rows
row = (to_be_bytes w64 1, Int (pos 7) ∷ []) ∷ []

abbrev one : Db
one = (codes "a", counted [] []) ∷ []

it_leads_through : map view (passed no_extensions (beginning live spare) play) ≡ [] ∷ one ∷ two [] [] [] ∷ tied [] ∷ tied row ∷ two [] [] row ∷ []
it_leads_through = refl

-- ---- what isn't said
-- the state that commands lead to
abbrev reached : State → List Said → State
reached s [] = s
reached s (said ∷ others) = reached (step no_extensions s said.0 said.1).state others

reaches_lawful : (s : State) (commands : List Said) → AreSaid commands → IsLawfulAlong no_extensions s → IsLawfulAlong no_extensions (reached s commands)
reaches_lawful s [] all along = along
reaches_lawful s (said ∷ others) all along =
    reaches_lawful (step no_extensions s said.0 said.1).state others (All-tail (λ (x : Said). IsSaid x.0) said others all)
    (steps-leave no_extensions s said.0 said.1 (All-head (λ (x : Said). IsSaid x.0) said others all) along)

-- behind such commands the state is lawful, and one command more leaves one that isn't
record Breaks (commands : List Said) (c : Command) : Type 0 where
  lawful : IsLawfulAlong no_extensions (reached (beginning live spare) commands)
  broken : IsLawfulAlong no_extensions (step no_extensions (reached (beginning live spare) commands) c []).state → ⊥

behind : (commands : List Said) → AreSaid commands → IsLawfulAlong no_extensions (reached (beginning live spare) commands)
behind commands all = reaches_lawful (beginning live spare) commands all (beginning-along no_extensions live spare)

made_said : AreSaid made
made_said = All-from_recursion (λ (said : Said). IsSaid said.0) made (refl, (refl, tt))

joined_said : AreSaid joined
joined_said = All-from_recursion (λ (said : Said). IsSaid said.0) joined (refl, (refl, ((refl, refl, tt), tt)))

abbrev over : List Db → State
over commits = record { live = live; spare = spare; commits = commits; transaction = None; down = false }

-- a relation with a dot in its name
not_dotted : IsLawfulAlong no_extensions (over ([] ∷ ((codes "a.b", counted [] []) ∷ []) ∷ [])) → ⊥
not_dotted along = true≢false ((along.names 1 [] (omega arith)).relations (codes "a.b") refl)

a_dotted_name : Breaks [] (creates (codes "a.b"))
a_dotted_name = record { lawful = behind [] (All-nil _); broken = not_dotted }

-- a mirror that is attached by itself
abbrev alone : Db
alone = two [] (named (codes "m") mirror ∷ []) []

not_alone : IsLawfulAlong no_extensions (over ([] ∷ one ∷ two [] [] [] ∷ alone ∷ [])) → ⊥
not_alone along = true≢false (dotless-no-mirror no_extensions alone (codes "b") (codes "m") refl (along.lawful.commits 3 [] (omega arith)).lawful (named (codes "m") mirror) refl)

a_mirror_alone : Breaks made (command.Attach (codes "b") (codes "m") mirror)
a_mirror_alone = record { lawful = behind made made_said; broken = not_alone }

-- a mirror that is detached by itself
abbrev untied : Db
untied = two (named (codes "x") tie ∷ []) [] []

not_untied : IsLawfulAlong no_extensions (over ([] ∷ one ∷ two [] [] [] ∷ tied [] ∷ untied ∷ [])) → ⊥
not_untied along =
    let is = (along.lawful.commits 4 [] (omega arith)).lawful in
    let has = (is.relations 0 (codes "a", counted [] []) (omega arith)).mirrored 0 (named [] tie) (omega arith) in
    let none : ◌≡◌ {A = Option Attached} None (Some has.0) = has.1 in
    absurd (cc)

a_mirror_detached : Breaks joined (command.Detach (codes "b") (codes "a.x"))
a_mirror_detached = record { lawful = behind joined joined_said; broken = not_untied }

-- a number of more than 64 bits
abbrev much : Rows
much = (to_be_bytes w64 1, Int (pos (2 ^ 63)) ∷ []) ∷ []

not_stored : IsLawfulAlong no_extensions (over ([] ∷ one ∷ two [] [] [] ∷ two [] [] much ∷ [])) → ⊥
not_stored along =
    let is = (along.lawful.commits 3 [] (omega arith)).lawful in
    let of_row = (is.relations 1 (codes "a", counted [] []) (omega arith)).rows 0 (codes "a", []) (omega arith) in
    let fits = of_row.stored.tuple.storable 0 (Int (pos 0)) (omega arith) in
    absurd (omega (arith, fits.sfits))

a_large_number : Breaks made (inserts (2 ^ 63))
a_large_number = record { lawful = behind made made_said; broken = not_stored }
