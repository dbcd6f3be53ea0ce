-- The spelling of a relation's descriptor in stored bytes, and which descriptors have one.
use Rattle.std.specs.Prelude.{◌≡◌, ℕ, ◌^◌, ◌<◌, ◌≤◌, List, [], ◌∷◌, ◌++◌, length, All, map}
use Rattle.std.specs.Int.{to_be_bytes, w16, w32}
use Rattle.sb_value.specs.declared.schema.Kind.{Kind}
use Rattle.sb_value.specs.declared.schema.Kind.TheVariants.{Int, Text}
use Rattle.sb_value.specs.declared.schema.Column.{Column}
use Rattle.sb_pred.specs.Spelling.{name_spelling, IsStorableName}
use Rattle.sb_rule.specs.declared.rule.Rule.{Rule}
use Rattle.sb_rule.specs.Rows.{Name}
use Rattle.sb_rule.specs.Spelling.{list_spelling, names_spelling, rule_code, rule_spelling, IsShortList, IsShortName, IsShortRule, IsStorableRule, IsWithinLimits}
use Rattle.sb_relation.specs.Db.{Relation}
use Rattle.sb_relation.specs.Db
use Rattle.sb_catalog.specs.declared.descriptor.Attached.{Attached}
use Rattle.sb_catalog.specs.declared.descriptor.Descriptor.{Descriptor}

-- a number in 2 bytes and one in 4, the highest byte first
unfoldable pub short_spelling : ℕ → List ℕ
short_spelling n = to_be_bytes w16 n

unfoldable pub long_spelling : ℕ → List ℕ
long_spelling n = to_be_bytes w32 n

-- a code, the owner of the pages and their root
abbrev pub Instance : Type 0
Instance = ℕ × ℕ × ℕ

abbrev pub instance_spelling : Instance → List ℕ
instance_spelling (code, owner, root) = short_spelling code ++ (short_spelling owner ++ long_spelling root)

-- a column: its name, its kind and its limit
abbrev pub kind_byte : Kind → ℕ
kind_byte Int = 1
kind_byte Text = 2

abbrev pub column_spelling : Column → List ℕ
column_spelling c = name_spelling c.name ++ (kind_byte c.kind ∷ c.limit ∷ [])

abbrev pub columns_spelling : List Column → List ℕ
columns_spelling = list_spelling column_spelling

-- a rule behind the number of its bytes
abbrev pub counted_spelling : Rule → List ℕ
counted_spelling rule = short_spelling (length (rule_spelling rule)) ++ rule_spelling rule

-- an attachment: its instance, its name and its rule
abbrev pub attached_instance : Attached → Instance
attached_instance a = (a.code, a.owner, a.root)

abbrev pub attached_spelling : Attached → List ℕ
attached_spelling a = instance_spelling (attached_instance a) ++ (name_spelling a.name ++ counted_spelling a.rule)

abbrev pub attachments_spelling : List Attached → List ℕ
attachments_spelling = list_spelling attached_spelling

-- a descriptor: the instance of its storage method, its columns, its key and its attachments
abbrev pub method_instance : Descriptor → Instance
method_instance d = (d.method, d.owner, d.root)

abbrev pub descriptor_spelling : Descriptor → List ℕ
descriptor_spelling d = instance_spelling (method_instance d) ++ (columns_spelling d.schema ++ (names_spelling d.key ++ attachments_spelling d.attachments))

-- ---- what can be written
-- a rule that can be spelled, in at most 65,535 bytes
abbrev pub IsShortCounted : Rule → Type 0
IsShortCounted rule = IsShortRule rule × (length (rule_spelling rule) ≤ 65535)

abbrev pub IsShortAttached : Attached → Type 0
IsShortAttached a = IsShortName a.name × IsShortCounted a.rule

-- names of at most 255 bytes, lists of at most 255 items, and short rules
pub record IsShortDescriptor (d : Descriptor) : Type 0 where
  pub columns : IsShortList (λ c. IsShortName c.name) d.schema
  pub key : IsShortList IsShortName d.key
  pub attachments : IsShortList IsShortAttached d.attachments

-- ---- what can be stored
-- numbers in their widths
abbrev pub IsInstance : Instance → Type 0
IsInstance (code, owner, root) = (code < 2 ^ 16) × (owner < 2 ^ 16) × (root < 2 ^ 32)

-- the limit of an int column is 0, that of a text column is in one byte
abbrev pub IsLimit : Kind → ℕ → Type 0
IsLimit Int limit = limit ≡ 0
IsLimit Text limit = limit < 256

abbrev pub IsStorableColumn : Column → Type 0
IsStorableColumn c = IsStorableName c.name × IsLimit c.kind c.limit

-- a rule of this code that can be stored, in at most 65,535 bytes
pub record IsCountedRule (code : ℕ) (rule : Rule) : Type 0 where
  pub coded : code ≡ rule_code rule
  pub storable : IsStorableRule rule
  pub limited : IsWithinLimits rule
  pub counted : length (rule_spelling rule) ≤ 65535

abbrev pub IsStorableAttached : Attached → Type 0
IsStorableAttached a = IsInstance (attached_instance a) × IsStorableName a.name × IsCountedRule a.code a.rule

-- a descriptor that can be stored: each number, name, list and rule can, and each rule is of its attachment's code
pub record IsStorableDescriptor (d : Descriptor) : Type 0 where
  pub instance : IsInstance (method_instance d)
  pub columns : IsShortList IsStorableColumn d.schema
  pub key : IsShortList IsStorableName d.key
  pub attachments : IsShortList IsStorableAttached d.attachments

-- each int column has the limit 0, and each rule is of its attachment's code and within the limits of its kind
pub record IsConsistent (d : Descriptor) : Type 0 where
  pub limits : All (λ c. c.kind ≡ Int → c.limit ≡ 0) d.schema
  pub codes : All (λ a. (a.code ≡ rule_code a.rule) × IsWithinLimits a.rule) d.attachments

-- ---- the relation that is described
-- an attachment of a descriptor, and one of a relation, by code, name and rule
abbrev pub described : Attached → ℕ × Name × Rule
described a = (a.code, a.name, a.rule)

abbrev pub standing : Db.Attached → ℕ × Name × Rule
standing a = (rule_code a.rule, a.name, a.rule)

-- The descriptor is the relation's: they have the same method, columns and key, and one by one attachments of one code, name and rule.
pub record IsDescriptorOf (r : Relation) (d : Descriptor) : Type 0 where
  pub method : d.method ≡ r.method
  pub schema : d.schema ≡ r.schema
  pub key : d.key ≡ r.key
  pub attachments : map described d.attachments ≡ map standing r.attachments
