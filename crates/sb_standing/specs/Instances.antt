-- Instances of boxes, as a relation's descriptor has them.
use Rattle.std.specs.Prelude.{ℕ, Bool, List, [], ◌∷◌, map}
use Rattle.sb_rule.specs.Spelling.{rule_spelling}
use Rattle.sb_relation.specs.Db.{Name}
use Rattle.sb_rows.specs.Instance.{Instance}
use Rattle.sb_catalog.specs.declared.descriptor.Attached.{Attached}
use Rattle.sb_catalog.specs.declared.descriptor.Descriptor.{Descriptor}

-- that of the storage method, whose pages outlive the run or don't
abbrev pub table_instance : Bool → Name → Descriptor → Instance
table_instance durable name d =
    record { relation = name; owner = d.owner; root = d.root; durable = durable; code = d.method; desc = []; schema = d.schema; key = d.key }

-- that of an attachment
abbrev pub rule_instance : Bool → Name → Descriptor → Attached → Instance
rule_instance durable name d a =
    record { relation = name; owner = a.owner; root = a.root; durable = durable; code = a.code; desc = rule_spelling a.rule; schema = d.schema; key = [] }

-- the owners of all of them, 0 among them for those without pages
abbrev pub owners_of : Descriptor → List ℕ
owners_of d = d.owner ∷ map (λ a. a.owner) d.attachments
