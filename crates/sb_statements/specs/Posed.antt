-- Which commands are posed: as the grammar gives their parts, and as far as relations and rules are kept for now.
use Rattle.std.specs.Prelude.{◌≡◌, ℕ, ◌≤◌, true, false, List, [], length, Some, None, IsUtf8}
use Rattle.sb_value.specs.declared.schema.Column.{Column}
use Rattle.sb_pred.specs.Spelling.{IsStorableName}
use Rattle.sb_rule.specs.declared.rule.Rule.{Rule}
use Rattle.sb_rule.specs.Spelling.{IsShortList, rule_code}
use Rattle.sb_relation.specs.Build.{main_of, mirror_name, mirror_of}
use Rattle.sb_relation.specs.Db.{Name}
use Rattle.sb_relation.specs.Keys.{Counted, keying_of}
use Rattle.sb_relation.specs.Limits.{descriptor_len}
use Rattle.sb_fold.specs.Outcome.{Going}
use Rattle.sb_plain.specs.declared.command.Command.{Command}
use Rattle.sb_plain.specs.declared.command.Command.TheVariants as command
use Rattle.sb_plain.specs.Refusing.{refused}
use Rattle.sb_plain.specs.State.{State, has_waiting, view}
use Rattle.sb_ctx.specs.Method.{Method}
use Rattle.sb_registry.specs.Boxes.{Meanings, method_of}
use Rattle.sb_catalog.specs.Descriptors.{IsCountedRule, IsStorableColumn}
use Rattle.sb_building.specs.Standing.{is_join}
use Rattle.sb_building.specs.Tables.{IsWide}
use Rattle.sb_vectors.specs.Vectors.{live_codes, spare_codes}
use Rattle.sb_building.specs.Working.{ArePaired, extensions_of}
use Rattle.sb_building.specs.Creation.{new_relation}
use Rattle.sb_statements.specs.Statements.{MayWork}

-- a relation that is to be made can be stored, and outlives the run
pub record IsPosedRelation (m : Meanings) (name : Name) (method : ℕ) (schema : List Column) (key : List Name) : Type 0 where
  pub outlives : (box : Method) → method_of method m.methods ≡ Some box → box.rules.durable ≡ true
  pub lasting : keying_of method ≡ Counted → ⊥
  pub wide : IsWide schema
  pub named : IsUtf8 name
  pub columns : IsShortList IsStorableColumn schema
  pub names : IsShortList IsStorableName key
  pub short : length name ≤ 100
  pub small : descriptor_len (new_relation method schema key) ≤ 1900

-- a rule that is to be attached can be stored, is no join and no mirror, and makes none
pub record IsPosedRule (relation name : Name) (rule : Rule) : Type 0 where
  pub joinless : is_join rule ≡ false
  pub main : main_of relation rule ≡ None
  pub single : mirror_of relation rule ≡ None
  pub storable : IsCountedRule (rule_code rule) rule
  pub named : IsStorableName name
  pub label : length name ≤ 64
  pub short : length relation ≤ 100

-- no mirror has the name
abbrev pub IsOfNoMirror : Name → Type 0
IsOfNoMirror name = (other label : Name) → name ≡ mirror_name other label → ⊥

-- a relation and a rule as they can be kept for now, and no mirror's name where one is taken off
abbrev pub IsPosed : Meanings → Command → Type 0
IsPosed m (command.Create relation method schema key) = IsPosedRelation m relation method schema key
IsPosed m (command.Attach relation name rule) = IsPosedRule relation name rule
IsPosed m (command.Detach relation name) = IsOfNoMirror name
IsPosed m c = Unit {0}

-- the codes of a state are those of boxes
pub record HasCodes (m : Meanings) (s : State) : Type 0 where
  pub live : s.live ≡ live_codes m
  pub spare : s.spare ≡ spare_codes m

-- a state is where work has come: it has the work's database, in which mirrors stand in pairs, and no action waits for the work where none does there
pub record IsWhere (m : Meanings) (s : State) (g : Going) : Type 0 where
  pub db : view s ≡ g.db
  pub codes : HasCodes m s
  pub waits : has_waiting s ≡ false → g.queue.actions ≡ []
  pub paired : ArePaired g.db

-- a posed command that no test refuses may be carried out
abbrev pub TestedMayWork : Type 0
TestedMayWork = (m : Meanings) (s : State) (g : Going) (c : Command) → IsWhere m s g → IsPosed m c → refused (extensions_of m) s c ≡ None → MayWork m g c
