-- Each step of a lawful state leaves a lawful state.
use Rattle.std.specs.Prelude.{◌≡◌, ℕ, ◌==◌, Bool, true, false, List, [], ◌∷◌, All, None}
use Rattle.std.specs.List.{list_any}
use Rattle.sb_codec.specs.Tuples.{IsTuple}
use Rattle.sb_rule.specs.Spelling.{rule_code}
use Rattle.sb_relation.specs.Db.{Key, Db}
use Rattle.sb_relation.specs.Foreign.{attach_rules}
use Rattle.sb_fold.specs.Extensions.{Extensions, method_of}
use Rattle.sb_plain.specs.declared.command.Command.{Command}
use Rattle.sb_plain.specs.declared.command.Command.TheVariants as command
use Rattle.sb_plain.specs.Printing.{is_mirror}
use Rattle.sb_plain.specs.State.{Codes, State, downed}
use Rattle.sb_plain.specs.Step.{step}
use Rattle.sb_lawful.specs.Laws.{databases, IsDotless, HasDotlessNames, IsWellNamed}
use Rattle.sb_lawful_rows.specs.States.{HasLawfulDatabases}
use Rattle.sb_lawful_rows.specs.Storable.{PutsStorable, RulePutsStorable}

-- ---- commands
-- A command as the language can say it: the name of what it makes or detaches has no dot, a rule that it attaches is no mirror, and what it puts into
-- rows, or lets a trigger put there, can be stored, 1 to 16 values a row. Of all other commands nothing is asked.
abbrev pub IsSaid : Command → Type 0
IsSaid (command.Create relation method schema key) = IsDotless relation
IsSaid (command.Attach relation name rule) = IsDotless name × (is_mirror rule ≡ false) × RulePutsStorable rule
IsSaid (command.Detach relation name) = IsDotless name
IsSaid (command.Insert relation values) = IsTuple values
IsSaid (command.Update relation at values) = IsTuple values
IsSaid (command.Act act) = PutsStorable act
IsSaid _ = Unit {0}

-- ---- states
-- Each database of the state is lawful, its triggers and what waits there put into rows what can be stored, and its names have no dot.
pub record IsLawfulAlong (ext : Extensions) (s : State) : Type 0 where
  pub lawful : HasLawfulDatabases ext s
  pub names : All HasDotlessNames (databases s)

-- each step of a lawful state leaves a lawful state
abbrev pub StepsLeaveLawful : Type 0
StepsLeaveLawful =
    (ext : Extensions) (s : State) (c : Command) (picks : List Key) → IsSaid c → IsLawfulAlong ext s → IsLawfulAlong ext (step ext s c picks).state

-- all databases of such a state are lawful and well named
abbrev pub DatabasesAreLawful : Type 0
DatabasesAreLawful = (ext : Extensions) (s : State) → IsLawfulAlong ext s → All (IsWellNamed ext) (databases s)

-- ---- plays
-- a command with its picks
abbrev pub Said : Type 0
Said = Command × List Key

-- a state, and those that such commands lead through from it
abbrev pub passed : Extensions → State → List Said → List State
passed ext s [] = s ∷ []
passed ext s (said ∷ others) = s ∷ passed ext (step ext s said.0 said.1).state others

-- the empty database is the only commit, and no transaction is open
abbrev pub beginning : Codes → Codes → State
beginning live spare = record { live = live; spare = spare; commits = [] ∷ []; transaction = None; down = false }

-- commands of the language lead from a lawful state through lawful states alone
abbrev pub PlaysStayLawful : Type 0
PlaysStayLawful =
    (ext : Extensions) (s : State) (play : List Said) → All (λ said. IsSaid said.0) play → IsLawfulAlong ext s
    → All (IsLawfulAlong ext) (passed ext s play)

-- so they do from the empty database, with any codes
abbrev pub PlaysFromNothing : Type 0
PlaysFromNothing =
    (ext : Extensions) (live spare : Codes) (play : List Said) → All (λ said. IsSaid said.0) play
    → All (IsLawfulAlong ext) (passed ext (beginning live spare) play)

-- ---- what doesn't matter
-- a relation of the database has this storage method
abbrev pub names_method : ℕ → Db → Bool
names_method code db = list_any (λ e. e.1.method == code) db

-- an attachment of one of its relations has this code
abbrev pub names_rule : ℕ → Db → Bool
names_rule code db = list_any (λ e. list_any (λ a. rule_code a.rule == code) e.1.attachments) db

-- each code that one of the databases names has the same extension, in whichever order they stand, and whichever others stand beside
pub record AreAlikeOn (dbs : List Db) (ext other : Extensions) : Type 0 where
  pub methods : (code : ℕ) → list_any (names_method code) dbs ≡ true → method_of ext code ≡ method_of other code
  pub attachments : (code : ℕ) → list_any (names_rule code) dbs ≡ true
      → attach_rules code ext.boxes.attachments ≡ attach_rules code other.boxes.attachments

-- a state that is lawful with the ones is so with the others
abbrev pub AlikeAreLawful : Type 0
AlikeAreLawful = (ext other : Extensions) (s : State) → AreAlikeOn (databases s) ext other → IsLawfulAlong ext s → IsLawfulAlong other s

-- a lawful state is so when a fault or damage has ended the kernel
abbrev pub DownIsLawful : Type 0
DownIsLawful = (ext : Extensions) (s : State) → IsLawfulAlong ext s → IsLawfulAlong ext (downed s)
