-- The lines that make a relation, by its descriptor.
use Rattle.std.specs.Prelude.{ℕ, ◌^◌, ◌<◌, List, [], ◌∷◌, cond, IsUtf8}
use Rattle.std.specs.List.{flat_map}
use Rattle.sb_pred.specs.Spelling.{IsStorableName}
use Rattle.sb_rule.specs.Spelling.{IsShortList, IsStorableRule, rule_code}
use Rattle.sb_relation.specs.Db.{Name}
use Rattle.sb_catalog.specs.declared.descriptor.Attached.{Attached}
use Rattle.sb_catalog.specs.declared.descriptor.Descriptor.{Descriptor}
use Rattle.sb_catalog.specs.Descriptors.{IsStorableColumn}
use Rattle.sb_plain.specs.declared.command.Command.{Command}
use Rattle.sb_plain.specs.declared.command.Command.TheVariants as command
use Rattle.sb_plain.specs.Printing.{command_text, is_mirror}

-- a command that creates a relation or puts an attachment on it, whose names, codes, columns and rule can be stored
abbrev pub IsStorableCommand : Command → Type 0
IsStorableCommand (command.Create relation method schema key) =
    IsUtf8 relation × (method < 2 ^ 16) × IsShortList IsStorableColumn schema × IsShortList IsStorableName key
IsStorableCommand (command.Attach relation name rule) = IsUtf8 relation × IsStorableName name × (rule_code rule < 2 ^ 16) × IsStorableRule rule
IsStorableCommand _ = ⊥

-- the command that creates the relation of a descriptor
abbrev pub creation : Name → Descriptor → Command
creation relation d = command.Create relation d.method d.schema d.key

-- the command that puts an attachment on it
abbrev pub attachment : Name → Attached → Command
attachment relation a = command.Attach relation a.name a.rule

-- its line; a mirror has none
unfoldable pub attachment_lines : Name → Attached → List (List ℕ)
attachment_lines relation a = cond (is_mirror a.rule) [] (command_text (attachment relation a) ∷ [])

-- the lines of a relation
unfoldable pub descriptor_lines : Name → Descriptor → List (List ℕ)
descriptor_lines relation d = command_text (creation relation d) ∷ flat_map (attachment_lines relation) d.attachments
