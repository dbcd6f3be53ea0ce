-- What the writers of descriptors know of what they have written.
use Rattle.std.specs.Prelude.{◌<◌}
use Rattle.sb_value.specs.declared.schema.Column.{Column}
use Rattle.sb_pred.specs.Spelling.{IsStorableName}
use Rattle.sb_rule.specs.Spelling.{IsStorableRule}
use Rattle.sb_catalog.specs.declared.descriptor.Attached.{Attached}
use Rattle.sb_catalog.specs.Descriptors.{attached_instance, IsInstance}

-- a column whose name can be stored and whose limit is in one byte
abbrev pub IsNarrowColumn : Column → Type 0
IsNarrowColumn c = IsStorableName c.name × (c.limit < 256)

-- an attachment of whatever code whose numbers, name and rule can be stored
abbrev pub IsNarrowAttached : Attached → Type 0
IsNarrowAttached a = IsInstance (attached_instance a) × IsStorableName a.name × IsStorableRule a.rule
