-- What the pages of a store stand for.
use Rattle.std.specs.Prelude.{◌≡◌, ◌≢◌, ◌⊎◌, ℕ, ◌<◌, nat_le, Bool, true, false, cond, not, List, [], ◌∷◌, ◌++◌, map, filter, All, Some, bytes_eq}
use Rattle.std.specs.List.{flat_map, list_all}
use Rattle.sb_rule.specs.declared.rule.Rule.{Rule}
use Rattle.sb_rule.specs.declared.rule.Rule.TheVariants.{JoinIndex}
use Rattle.sb_relation.specs.Build.{with_instance}
use Rattle.sb_relation.specs.Db
use Rattle.sb_relation.specs.Db.{Name}
use Rattle.sb_relation.specs.Fits.{other_relations}
use Rattle.sb_rows.specs.Instance.{Instance}
use Rattle.sb_rows.specs.Attachment.{Attachment, IsOwned, StandsOn, keeps_pages}
use Rattle.sb_rows.specs.AttachAnswers.{Holds, content_over}
use Rattle.sb_rows.specs.Laws.{IsAttachment}
use Rattle.sb_rows.specs.Boxes.{Meanings, attachment_of}
use Rattle.sb_rows.specs.Slots.{Slots, owned}
use Rattle.sb_catalog.specs.declared.descriptor.Attached.{Attached}
use Rattle.sb_catalog.specs.declared.descriptor.Descriptor.{Descriptor}
use Rattle.sb_standing.specs.Instances.{rule_instance, owners_of}
use Rattle.sb_standing.specs.Tables.{Kept, db_of, Tables}

-- ---- rules
-- a live box keeps the rule of an attachment on the database
pub record StandsRule (m : Meanings) (inst : Instance) (a : Db.Attached) (db : Db.Db) : Type 0 where
  pub box : Attachment
  pub live : attachment_of inst.code m.attachments ≡ Some box
  pub law : IsAttachment box
  pub code : inst.code ≡ box.rules.code
  pub owner : IsOwned (keeps_pages box.rules.code) inst
  pub stands : StandsOn box inst a.rule db

-- the same, and its pages hold the content that the rule has over it
pub record KeepsRule (m : Meanings) (s : Slots) (inst : Instance) (a : Db.Attached) (db : Db.Db) : Type 0 where
  pub box : Attachment
  pub live : attachment_of inst.code m.attachments ≡ Some box
  pub law : IsAttachment box
  pub code : inst.code ≡ box.rules.code
  pub owner : IsOwned (keeps_pages box.rules.code) inst
  pub stands : StandsOn box inst a.rule db
  pub holds : Holds box inst (owned s inst.owner) (content_over box inst a.rule db a.buckets)

-- each attachment of a relation, with the one that its descriptor has in its place
abbrev pub EachRule : (Attached → Db.Attached → Type 0) → List Attached → List Db.Attached → Type 0
EachRule IsSo [] [] = Unit {0}
EachRule IsSo (d ∷ ds) [] = ⊥
EachRule IsSo [] (a ∷ others) = ⊥
EachRule IsSo (d ∷ ds) (a ∷ others) = IsSo d a × EachRule IsSo ds others

-- an attachment of a relation is kept on the database
abbrev pub IsKept : Meanings → (ℕ → Bool) → Slots → Db.Db → Kept → Attached → Db.Attached → Type 0
IsKept m durable s db k d a = KeepsRule m s (rule_instance (durable k.descriptor.method) k.name k.descriptor d) a db

-- live boxes keep the rules of all relations, whatever their pages hold
abbrev pub StandRules : Meanings → (ℕ → Bool) → Db.Db → List Kept → Type 0
StandRules m durable db kept =
    All (λ k. EachRule (λ d a. StandsRule m (rule_instance (durable k.descriptor.method) k.name k.descriptor d) a db) k.descriptor.attachments k.relation.attachments) kept

abbrev pub KeepsRules : Meanings → (ℕ → Bool) → Slots → Db.Db → Kept → Type 0
KeepsRules m durable s db k = EachRule (IsKept m durable s db k) k.descriptor.attachments k.relation.attachments

-- ---- joins, whose content is of two relations
abbrev pub is_join : Rule → Bool
is_join (JoinIndex side columns other others) = true
is_join _ = false

abbrev pub has_no_join : Kept → Bool
has_no_join k = list_all (λ a. not (is_join a.rule)) k.relation.attachments

-- ---- rules that name other relations
-- no attachment of it names the relation
abbrev pub IsApartFrom : Name → Kept → Type 0
IsApartFrom name k = All (λ a. All (λ other. bytes_eq other name ≡ false) (other_relations a.rule)) k.relation.attachments

-- no rule of another relation names this one
abbrev pub IsUnnamed : Name → List Kept → Type 0
IsUnnamed name kept = All (λ k. bytes_eq k.name name ≡ false → IsApartFrom name k) kept

-- ---- attachments that come and go
-- an attachment of a descriptor behind those of its code and of lesser ones
abbrev pub with_described : Attached → List Attached → List Attached
with_described new [] = new ∷ []
with_described new (d ∷ others) = cond (nat_le d.code new.code) (d ∷ with_described new others) (new ∷ d ∷ others)

-- a relation with an attachment more
abbrev pub attached_kept : Attached → Db.Attached → Kept → Kept
attached_kept d a k = record {
  name = k.name;
  descriptor = record k.descriptor { attachments = with_described d k.descriptor.attachments };
  relation = record k.relation { attachments = with_instance a k.relation.attachments };
}

-- the attachments of other names: those of a descriptor, and those of a relation
abbrev pub without_described : Name → List Attached → List Attached
without_described label ds = filter (λ d. not (bytes_eq d.name label)) ds

abbrev pub without_named : Name → List Db.Attached → List Db.Attached
without_named label others = filter (λ a. not (bytes_eq a.name label)) others

-- a relation without the attachments of a name
abbrev pub detached_kept : Name → Kept → Kept
detached_kept label k = record {
  name = k.name;
  descriptor = record k.descriptor { attachments = without_described label k.descriptor.attachments };
  relation = record k.relation { attachments = without_named label k.relation.attachments };
}

-- the owners of the attachments of a name
abbrev pub owners_named : Name → Descriptor → List ℕ
owners_named label d = map (λ a. a.owner) (filter (λ a. bytes_eq a.name label) d.attachments)

-- ---- owners
-- no two instances have one owner, but for those that have none
abbrev pub AreApart : List ℕ → Type 0
AreApart [] = Unit {0}
AreApart (owner ∷ owners) = All (λ o. (o ≡ owner) → (o ≡ 0)) owners × AreApart owners

-- none, or one behind those of nobody, the table and the catalogue
abbrev pub IsOwner : ℕ → Type 0
IsOwner o = (o ≡ 0) ⊎ (2 < o)

abbrev pub owners_in : List Kept → List ℕ
owners_in kept = flat_map (λ k. owners_of k.descriptor) kept

abbrev pub IsAmong : ℕ → List ℕ → Type 0
IsAmong n [] = ⊥
IsAmong n (x ∷ xs) = (n ≡ x) ⊎ IsAmong n xs

-- no other owner of instances has a page
abbrev pub AreKnown : Slots → List ℕ → Type 0
AreKnown s owners = (o : ℕ) → 2 < o → (IsAmong o owners → ⊥) → (n : ℕ) → owned s o n ≡ []

-- it has a page, if it is an owner
abbrev pub HasPage : Slots → ℕ → Type 0
HasPage s o = (o ≡ 0) ⊎ ((n : ℕ) × (owned s o n ≢ []))

-- Instances don't share pages; those of what is to go have pages still; and no other owner has any.
pub record Own (s : Slots) (owners gone : List ℕ) : Type 0 where
  pub apart : AreApart (owners ++ gone)
  pub each : All IsOwner (owners ++ gone)
  pub left : All (HasPage s) gone
  pub known : AreKnown s (owners ++ gone)

-- ---- the whole
-- The catalogue has the relations of the database with their descriptors, and the pages of their instances hold rows and contents. Instances don't share pages, and pages of no instance are those of what is to go.
pub record Keeps (m : Meanings) (durable : ℕ → Bool) (root : ℕ) (s : Slots) (gone : List ℕ) (kept : List Kept) : Type 0 where
  pub tables : Tables m durable root s kept
  pub rules : All (KeepsRules m durable s (db_of kept)) kept
  pub joinless : All (λ k. has_no_join k ≡ true) kept
  pub own : Own s (owners_in kept) gone
