-- Rules that come.
use Rattle.std.specs.Prelude.{◌≡◌, ℕ, ◌<◌, ◌≤◌, true, false, [], Some, None, length, map}
use Rattle.sb_pred.specs.Spelling.{IsStorableName}
use Rattle.sb_rule.specs.declared.rule.Rule.{Rule}
use Rattle.sb_rule.specs.Spelling.{rule_code}
use Rattle.sb_relation.specs.Build.{main_of, mirror_of, with_attached, with_instance, with_rule}
use Rattle.sb_relation.specs.Buckets.{standing_buckets}
use Rattle.sb_relation.specs.Db.{Name, Attached, Relation, Db, relation_at}
use Rattle.sb_relation.specs.Fits.{MayStand}
use Rattle.sb_relation.specs.Foreign.{AttachRules}
use Rattle.sb_relation.specs.Limits.{descriptor_len, has_large_descriptor, is_crowded}
use Rattle.sb_relation.specs.Rules.{holds}
use Rattle.sb_fold.specs.Building.{has_long_row, rule_at}
use Rattle.sb_ctx.specs.declared.instance.Instance.{Instance}
use Rattle.sb_ctx.specs.Attachment.{Attachment, keeps_pages}
use Rattle.sb_ctx.specs.AttachAnswers.{Holds}
use Rattle.sb_registry.specs.Boxes.{Meanings, attachment_of}
use Rattle.sb_drive.specs.Slots.{Slots, owned}
use Rattle.sb_drive.specs.Spaces.{Wanted}
use Rattle.sb_catalog.specs.declared.descriptor.Attached.{Attached as Described}
use Rattle.sb_catalog.specs.declared.descriptor.Descriptor.{Descriptor}
use Rattle.sb_catalog.specs.Descriptors.{descriptor_spelling, IsCountedRule, IsStorableAttached}
use Rattle.sb_standing.specs.Tables.{KeepsOthers, Tables, db_of, kept_at}
use Rattle.sb_standing.specs.Standing.{IsOwner, Keeps, StandRules, is_join, with_described}
use Rattle.sb_tables.specs.Opened.{IsDurable, OwnsPages}
use Rattle.sb_forms.specs.Pages.{page_count}
use Rattle.sb_tables.specs.Working.{AreLasting}
use Rattle.sb_tables.specs.Keeping.{KeepsDb}
use Rattle.sb_building.specs.declared.attaching.Attaching.{Attaching}
use Rattle.sb_building.specs.declared.attaching.Attaching.TheVariants.{TooLarge, TooLong, Vetoed, Attached as Done}
use Rattle.sb_building.specs.Building.{content_built}
use Rattle.sb_building.specs.Instances.{IsPlaced, IsSite, Site}

-- ---- what a command may ask for
-- A rule can be attached: the relation is there and has no attachment of the name, a live box keeps the rule, it may stand there and is neither a join nor a mirror; it and its name can be stored, within the limits of attachments and descriptors.
pub record MayAttach (m : Meanings) (db : Db) (relation name : Name) (rule : Rule) : Type 0 where
  pub own : Relation
  pub there : relation_at db relation ≡ Some own
  pub new : rule_at db relation name ≡ None
  pub box : Attachment
  pub live : attachment_of (rule_code rule) m.attachments ≡ Some box
  pub stands : MayStand (Some box.rules) db own.schema rule
  pub joinless : is_join rule ≡ false
  pub main : main_of relation rule ≡ None
  pub single : mirror_of relation rule ≡ None
  pub storable : IsCountedRule (rule_code rule) rule
  pub named : IsStorableName name
  pub label : length name ≤ 64
  pub short : length relation ≤ 100
  pub few : is_crowded db relation rule ≡ false
  pub small : has_large_descriptor relation rule (with_rule db relation name rule) ≡ false

-- ---- one attachment more, main instance or mirror
-- an attachment of a relation over its rows
abbrev pub new_attached : Name → Rule → Relation → Attached
new_attached name rule r = record { name = name; rule = rule; buckets = standing_buckets rule r.rows }

-- A live box keeps the rule, which may stand and is no join, and the relation has room for one attachment more.
pub record MayAdd (m : Meanings) (db : Db) (relation name : Name) (rule : Rule) : Type 0 where
  pub own : Relation
  pub there : relation_at db relation ≡ Some own
  pub box : Attachment
  pub live : attachment_of (rule_code rule) m.attachments ≡ Some box
  pub stands : MayStand (Some box.rules) db own.schema rule
  pub joinless : is_join rule ≡ false
  pub short : length relation ≤ 100
  pub label : length name ≤ 255
  pub few : length own.attachments < 16
  pub small : descriptor_len (record own { attachments = with_instance (new_attached name rule own) own.attachments }) ≤ 1900

-- a descriptor has room for one attachment more under the name of its relation
pub record IsRoomy (relation : Name) (d : Descriptor) (new : Described) : Type 0 where
  pub few : length d.attachments < 16
  pub small : length (descriptor_spelling (record d { attachments = with_described new d.attachments })) ≤ 1900
  pub short : length relation ≤ 100

-- ---- a new instance
-- the space keeps relations, one of them of this name
pub record IsStore {S : Type 0} (Has : Wanted → Slots → S → Type 0) (m : Meanings) (root : ℕ) (x : Site) (name : Name) (space : S) : Type 0 where
  pub has : Has x.want x.slots space
  pub tables : Tables m IsDurable root x.slots x.kept
  pub stand : StandRules m IsDurable (db_of x.kept) x.kept
  pub there : kept_at x.kept name ≡ Some x.one

-- an attachment of this name and rule, that can be stored
pub record IsEntryOf (name : Name) (rule : Rule) (d : Described) : Type 0 where
  pub code : d.code ≡ rule_code rule
  pub name_is : d.name ≡ name
  pub rule_is : d.rule ≡ rule
  pub storable : IsStorableAttached d

-- The entry has a place of its own: an owner that had no page, with a root of zeros, where its code keeps pages, and else none.
pub record IsEntered {S : Type 0} (Has : Wanted → Slots → S → Type 0) (label : Name) (rule : Rule) (d : Described) (old new : S) : Type 0 where
  pub entry : IsEntryOf label rule d
  pub owns : OwnsPages (keeps_pages (rule_code rule)) d.owner
  pub placed : (want : Wanted) (s : Slots) → Has want s old → IsPlaced Has (keeps_pages (rule_code rule)) want s d.owner d.root new

-- It has an owner that had no page, or none, and its pages hold the content over no rows; those of all others stay.
pub record HasBegun {S : Type 0} (Has : Wanted → Slots → S → Type 0) (m : Meanings) (root : ℕ) (x : Site) (inst : Instance) (rule : Rule)
    (box : Attachment) (new : S) : Type 0 where
  pub slots : Slots
  pub is : IsOwner inst.owner
  pub none : (n : ℕ) → owned x.slots inst.owner n ≡ []
  pub others : KeepsOthers inst.owner x.slots slots
  pub site : IsSite Has m root (record x { slots = slots }) inst rule box new
  pub content : Holds box inst (owned slots inst.owner) (content_built box inst rule (db_of x.kept) [])

-- ---- what is left
-- such pages keep a database beside the owners that are to go, in which a relation has this name
pub record Stores (m : Meanings) (root : ℕ) (x : Site) (name : Name) : Type 0 where
  pub keeps : Keeps m IsDurable root x.slots x.gone x.kept
  pub lasting : AreLasting x.kept
  pub there : kept_at x.kept name ≡ Some x.one

-- a rule that can be stored isn't too large; some row is too long for it; or else the rule doesn't hold; or else the space keeps the database with it,
-- and the owners that are to go have no more pages than they had
unfoldable pub HasEnded : {S : Type 0} → (Wanted → Slots → S → Type 0) → Meanings → ℕ → Site → Name → Name → Rule → AttachRules → S → Attaching → Type 0
HasEnded Has m root x relation name rule box new TooLarge = ⊥
HasEnded Has m root x relation name rule box new TooLong = has_long_row (db_of x.kept) relation rule ≡ true
HasEnded Has m root x relation name rule box new Vetoed =
    (has_long_row (db_of x.kept) relation rule ≡ false) × (holds (Some box) (db_of x.kept) relation rule ≡ false)
HasEnded Has m root x relation name rule box new Done =
    (has_long_row (db_of x.kept) relation rule ≡ false) × (holds (Some box) (db_of x.kept) relation rule ≡ true)
    × KeepsDb Has m root x.gone (map (λ o. page_count (owned x.slots o)) x.gone) (with_attached (db_of x.kept) relation name rule) new
