-- What commands that build relations and rules leave lawful.
use Rattle.std.specs.Prelude.{◌≡◌, ℕ, ◌==◌, false, List, [], ◌∷◌, ◌++◌, map, All, Option, Some, None, is_none}
use Rattle.std.specs.List.{list_any}
use Rattle.sb_value.specs.declared.schema.Column.{Column}
use Rattle.sb_rule.specs.declared.rule.Rule.{Rule}
use Rattle.sb_relation.specs.Build.{mirror_name, mirror_of, with_rule}
use Rattle.sb_relation.specs.Db.{Name, Key, Attached, Db, relation_at, with_relation}
use Rattle.sb_fold.specs.Building.{rule_at, has_long_row, without_rule, without_relation}
use Rattle.sb_fold.specs.Extensions.{Extensions}
use Rattle.sb_plain.specs.declared.command.Command.{Command}
use Rattle.sb_plain.specs.declared.command.Command.TheVariants as command
use Rattle.sb_plain.specs.Lawful.{MayBe, IsLawful}
use Rattle.sb_plain.specs.Printing.{is_mirror}
use Rattle.sb_plain.specs.Refusing.{first_use}
use Rattle.sb_plain.specs.State.{Transaction, State, view}
use Rattle.sb_plain.specs.Step.{step}

-- ---- states
abbrev pub open_ones : Option Transaction → List Db
open_ones None = []
open_ones (Some t) = t.db ∷ map (λ p. p.db) t.points

-- all databases of a state: those of its commits, the open one, and those of the savepoints
abbrev pub databases : State → List Db
databases s = s.commits ++ open_ones s.transaction

-- what holds of the database that a command sees holds of it afterwards; and what holds of all databases of the state
pub record Leaves (P : Db → Type 0) (s t : State) : Type 0 where
  pub now : P (view s) → P (view t)
  pub all : All P (databases s) → All P (databases t)

-- whatever the picks, and whether the command is refused or not
abbrev pub LeavesLawful : Extensions → State → Command → Type 0
LeavesLawful ext s c = (picks : List Key) → Leaves (IsLawful ext) s (step ext s c picks).state

-- ---- a new relation
abbrev pub CreatedIsLawful : Type 0
CreatedIsLawful =
    (ext : Extensions) (db : Db) (relation : Name) (method : ℕ) (schema : List Column) (key : List Name)
    → MayBe ext db (command.Create relation method schema key) → IsLawful ext db
    → IsLawful ext (with_relation db relation (record { method = method; schema = schema; key = key; rows = []; attachments = [] }))

abbrev pub CreateLeavesLawful : Type 0
CreateLeavesLawful =
    (ext : Extensions) (s : State) (relation : Name) (method : ℕ) (schema : List Column) (key : List Name)
    → LeavesLawful ext s (command.Create relation method schema key)

-- ---- an attachment that goes, and its mirror
-- the name is that of no mirror
abbrev pub IsNoMirror : Db → Name → Name → Type 0
IsNoMirror db relation name = (a : Attached) → rule_at db relation name ≡ Some a → is_mirror a.rule ≡ false

abbrev pub DetachedIsLawful : Type 0
DetachedIsLawful =
    (ext : Extensions) (db : Db) (relation name : Name) (a : Attached) → rule_at db relation name ≡ Some a → is_mirror a.rule ≡ false
    → IsLawful ext db → IsLawful ext (without_rule db relation a)

abbrev pub DetachLeavesLawful : Type 0
DetachLeavesLawful =
    (ext : Extensions) (s : State) (relation name : Name) → IsNoMirror (view s) relation name → LeavesLawful ext s (command.Detach relation name)

-- ---- a relation that goes, and the mirrors of its attachments
abbrev pub DroppedIsLawful : Type 0
DroppedIsLawful =
    (ext : Extensions) (db : Db) (relation : Name) → first_use db (command.Drop relation) ≡ None
    → IsLawful ext db → IsLawful ext (without_relation db relation)

abbrev pub DropLeavesLawful : Type 0
DropLeavesLawful = (ext : Extensions) (s : State) (relation : Name) → LeavesLawful ext s (command.Drop relation)

-- ---- a new attachment, and its mirror
-- no attachment of the mirror's relation has the mirror's name
abbrev pub IsFreeFor : Db → Name → Option (Name × Rule) → Type 0
IsFreeFor db label None = Unit {0}
IsFreeFor db label (Some (other, rule)) = rule_at db other label ≡ None

abbrev pub IsMirrorFree : Db → Name → Name → Rule → Type 0
IsMirrorFree db relation name rule = IsFreeFor db (mirror_name relation name) (mirror_of relation rule)

abbrev pub AttachedIsLawful : Type 0
AttachedIsLawful =
    (ext : Extensions) (db : Db) (relation name : Name) (rule : Rule) → MayBe ext db (command.Attach relation name rule) → is_mirror rule ≡ false
    → IsMirrorFree db relation name rule → has_long_row db relation rule ≡ false → IsLawful ext db → IsLawful ext (with_rule db relation name rule)

abbrev pub AttachLeavesLawful : Type 0
AttachLeavesLawful =
    (ext : Extensions) (s : State) (relation name : Name) (rule : Rule) → is_mirror rule ≡ false → IsMirrorFree (view s) relation name rule
    → LeavesLawful ext s (command.Attach relation name rule)

-- ---- names of the language
-- a dot stands in a name of a mirror alone
abbrev pub IsDotless : Name → Type 0
IsDotless name = list_any (λ b. b == 46) name ≡ false

-- the names of relations have no dot, nor have those of attachments, but for mirrors
pub record HasDotlessNames (db : Db) : Type 0 where
  pub relations : (relation : Name) → is_none (relation_at db relation) ≡ false → IsDotless relation
  pub mains : (relation name : Name) (a : Attached) → rule_at db relation name ≡ Some a → is_mirror a.rule ≡ false → IsDotless name

pub record IsWellNamed (ext : Extensions) (db : Db) : Type 0 where
  pub lawful : IsLawful ext db
  pub names : HasDotlessNames db

-- a name without a dot is that of no mirror
abbrev pub DotlessIsNoMirror : Type 0
DotlessIsNoMirror = (ext : Extensions) (db : Db) (relation name : Name) → IsDotless name → IsLawful ext db → IsNoMirror db relation name

-- where a main instance's name is new, that of its mirror is
abbrev pub DotlessIsMirrorFree : Type 0
DotlessIsMirrorFree =
    (ext : Extensions) (db : Db) (relation name : Name) (rule : Rule) → IsDotless relation → IsDotless name → rule_at db relation name ≡ None
    → IsWellNamed ext db → IsMirrorFree db relation name rule

-- a command that builds, with names of the language, and no mirror
abbrev pub IsBuilding : Command → Type 0
IsBuilding (command.Create relation method schema key) = IsDotless relation
IsBuilding (command.Drop relation) = Unit {0}
IsBuilding (command.Attach relation name rule) = IsDotless name × (is_mirror rule ≡ false)
IsBuilding (command.Detach relation name) = IsDotless name
IsBuilding _ = ⊥

abbrev pub BuildingLeavesWellNamed : Type 0
BuildingLeavesWellNamed =
    (ext : Extensions) (s : State) (c : Command) (picks : List Key) → IsBuilding c → Leaves (IsWellNamed ext) s (step ext s c picks).state
