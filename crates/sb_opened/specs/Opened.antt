-- What is so of a relation that is open, whatever the pages hold.
use Rattle.std.specs.Prelude.{◌≡◌, ◌≢◌, ℕ, Bool, true, false, List, map, All}
use Rattle.sb_ctx.specs.Attachment.{JoinsAnother, keeps_pages}
use Rattle.sb_relation.specs.Db
use Rattle.sb_relation.specs.Db.{Name}
use Rattle.sb_ctx.specs.declared.instance.Instance.{Instance}
use Rattle.sb_drive.specs.declared.space.SpaceFault.{SpaceFault}
use Rattle.sb_drive.specs.declared.space.SpaceFault.TheVariants.{Damaged, NoMemory}
use Rattle.sb_drive.specs.Slots.{Slots}
use Rattle.sb_drive.specs.Spaces.{Wanted}
use Rattle.sb_registry.specs.Boxes.{Meanings}
use Rattle.sb_registry.specs.Live.{IsLive, IsLiveRule}
use Rattle.sb_catalog.specs.declared.descriptor.Attached.{Attached}
use Rattle.sb_catalog.specs.declared.descriptor.Descriptor.{Descriptor}
use Rattle.sb_catalog.specs.Descriptors.{IsStorableDescriptor}
use Rattle.sb_standing.specs.Instances.{table_instance, rule_instance}
use Rattle.sb_standing.specs.Standing.{EachRule, StandsRule}
use Rattle.sb_standing.specs.Tables.{Kept, Tables, IsWide}
use Rattle.sb_opened.specs.declared.relation.OpenRelation.{OpenRelation}

-- the relations of a store outlive the run, whatever their method
abbrev pub IsDurable : ℕ → Bool
IsDurable method = true

-- Live boxes keep its rows and its rules, and the instances are those of its descriptor, which can be stored.
pub record IsOpen (m : Meanings) (o : OpenRelation) : Type 0 where
  pub table : o.table ≡ table_instance true o.name o.descriptor
  pub rules : o.rules.items ≡ map (rule_instance true o.name o.descriptor) o.descriptor.attachments
  pub storable : IsStorableDescriptor o.descriptor
  pub wide : IsWide o.descriptor.schema
  pub live : IsLive m o.table
  pub live_rules : All (IsLiveRule m) o.rules.items

-- its name and its descriptor, and those of a kept relation
abbrev pub header_of : OpenRelation → Name × Descriptor
header_of o = (o.name, o.descriptor)

abbrev pub kept_header : Kept → Name × Descriptor
kept_header k = (k.name, k.descriptor)

-- ---- while it is opened
-- what is so of the relations that the catalogue has
abbrev pub OverTables : {S : Type 0} → (Wanted → Slots → S → Type 0) → Meanings → ℕ → S → (List Kept → Type 0) → Type 0
OverTables Has m root space IsSo = (want : Wanted) (s : Slots) (kept : List Kept) → Has want s space → Tables m IsDurable root s kept → IsSo kept

-- the refusals of one who reads what a call on the space has answered
abbrev pub IsOwnFault : SpaceFault → Type 0
IsOwnFault (Damaged page) = Unit {0}
IsOwnFault NoMemory = Unit {0}
IsOwnFault e = ⊥

-- the instance of an attachment of a durable relation
abbrev pub rule_of : Name → Descriptor → Attached → Instance
rule_of name d a = rule_instance true name d a

-- live boxes keep a relation of this descriptor and its rules on the database
pub record MayOpen (m : Meanings) (db : Db.Db) (name : Name) (d : Descriptor) : Type 0 where
  pub wide : IsWide d.schema
  pub live : IsLive m (table_instance true name d)
  pub attachments : List Db.Attached
  pub rules : EachRule (λ a other. StandsRule m (rule_of name d a) other db) d.attachments attachments

-- an attachment has an owner where its code keeps pages, and none where it doesn't
abbrev pub OwnsPages : Bool → ℕ → Type 0
OwnsPages true owner = owner ≢ 0
OwnsPages false owner = owner ≡ 0

-- it has pages of its own or none, as its code wants, and is no join of the relation with itself
pub record HasPlace (name : Name) (a : Attached) : Type 0 where
  pub owned : OwnsPages (keeps_pages a.code) a.owner
  pub joins : JoinsAnother name a.rule
