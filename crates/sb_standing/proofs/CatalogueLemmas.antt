-- What the catalogue's entries say of the database.
use Rattle.std.proofs.Common.{◌≡◌, ℕ, Bool, true, false, cond, List, [], ◌∷◌, map, All, Option, Some, None, option_map, refl, sym, ap, subst, ◌∙◌}
use Rattle.std.specs.List.{find as first}
use Rattle.std.specs.FinMap.Entries.{find}
use Rattle.std.proofs.lemmas.List.Elements.{All-head, All-tail, All-weaker}
use Rattle.std.proofs.lemmas.Option.{same_Some}
use Rattle.sb_node.specs.Entries.{Entry, key_cmp, is_below}
use Rattle.sb_relation.specs.Db.{Name, Relation, relation_at}
use Rattle.sb_catalog.specs.declared.descriptor.Descriptor.{Descriptor}
use Rattle.sb_catalog.specs.Descriptors.{descriptor_spelling, IsDescriptorOf, IsStorableDescriptor}
use Rattle.sb_catalog.proofs.Described.{one_descriptor}
use Rattle.sb_rows.specs.Boxes.{Meanings}
use Rattle.sb_rows.specs.Slots.{Slots}
use Rattle.sb_standing.specs.Tables.{Kept, entry_of, db_of, kept_at, is_above, is_behind, first_above, above, IsFirst, Describes, KeepsTable, Tables}
use Rattle.sb_standing.specs.CatalogueLaws.{IsEntry, HasNoEntry, IsFirstEntry}
use Rattle.sb_standing.proofs.KeptLemmas.{entry_at-kept, relation_at-there, relation_at-none, kept_at-all}

-- ---- the entry of a name
-- a descriptor that can be stored and has the spelling of that of a relation is that
pub same-spelled : (m : Meanings) (durable : ℕ → Bool) (s : Slots) (k : Kept) (d : Descriptor) → KeepsTable m durable s k → IsStorableDescriptor d → descriptor_spelling k.descriptor ≡ descriptor_spelling d → d ≡ k.descriptor
same-spelled m durable s k d keeps storable same = one_descriptor d k.descriptor storable keeps.storable (sym same)

pub Describes-there : (kept : List Kept) (name : Name) (k : Kept) → kept_at kept name ≡ Some k → IsDescriptorOf k.relation k.descriptor → Describes (relation_at (db_of kept) name) (Some k.descriptor)
Describes-there kept name k at is = subst (λ (o : Option Relation). Describes o (Some k.descriptor)) (sym (relation_at-there kept name k at)) is

pub IsEntry-found : (m : Meanings) (durable : ℕ → Bool) (root : ℕ) (s : Slots) (kept : List Kept) (name : Name) (bytes : List ℕ) → Tables m durable root s kept →
    find key_cmp name (map entry_of kept) ≡ Some bytes → IsEntry kept name bytes
IsEntry-found m durable root s kept name bytes tables is = by (kept_at kept name) refl (sym (entry_at-kept kept name) ∙ is)
  where
    by : (o : Option Kept) → kept_at kept name ≡ o → option_map (λ (k : Kept). descriptor_spelling k.descriptor) o ≡ Some bytes → IsEntry kept name bytes
    by None at is = absurd (cc)
    by (Some k) at is =
        let keeps = kept_at-all (KeepsTable m durable s) kept name k tables.each at in
        let same = same_Some (descriptor_spelling k.descriptor) bytes is in
        record {
          one = k;
          at = at;
          storable = keeps.storable;
          spelled = sym same;
          only = λ d storable spelled. same-spelled m durable s k d keeps storable (same ∙ spelled);
          describes = Describes-there kept name k at keeps.is;
        }

-- where the catalogue has nothing under a name, no relation is kept under it
pub kept_at-no_entry : (kept : List Kept) (name : Name) → find key_cmp name (map entry_of kept) ≡ None → kept_at kept name ≡ None
kept_at-no_entry kept name is = by (kept_at kept name) (sym (entry_at-kept kept name) ∙ is)
  where
    by : (o : Option Kept) → option_map (λ (k : Kept). descriptor_spelling k.descriptor) o ≡ None → o ≡ None
    by None is = refl
    by (Some k) is = absurd (cc)

pub HasNoEntry-missing : (kept : List Kept) (name : Name) → find key_cmp name (map entry_of kept) ≡ None → HasNoEntry kept name
HasNoEntry-missing kept name is =
    let none = kept_at-no_entry kept name is in
    record { none = none; describes = subst (λ (o : Option Relation). Describes o None) (sym (relation_at-none kept name none)) tt }

-- ---- the first entry behind a name
pub first-entry : (low : Option Name) (kept : List Kept) → first (is_behind low) (map entry_of kept) ≡ option_map entry_of (first_above low kept)
unfolding is_below
first-entry low [] = refl
first-entry None (k ∷ kept) = refl
first-entry (Some key) (k ∷ kept) =
    elim (is_above (Some key) k.name)
    as (λ b. cond b (Some (entry_of k)) (first (is_behind (Some key)) (map entry_of kept)) ≡ option_map entry_of (cond b (Some k) (first_above (Some key) kept))) [
      | true ↦ refl
      | false ↦ first-entry (Some key) kept
    ]

pub first_above-all : (P : Kept → Type 0) (low : Option Name) (kept : List Kept) (k : Kept) → All P kept → first_above low kept ≡ Some k → P k
first_above-all P low [] k all is = absurd (cc)
first_above-all P low (o ∷ kept) k all is = by (is_above low o.name) is (first_above-all P low kept k (All-tail P o kept all))
  where
    by : (b : Bool) → cond b (Some o) (first_above low kept) ≡ Some k → (first_above low kept ≡ Some k → P k) → P k
    by true is rest = subst P (same_Some o k is) (All-head P o kept all)
    by false is rest = rest is

-- it is that of the first relation behind the name
pub first-relation : (low : Option Name) (kept : List Kept) → All (λ k. IsDescriptorOf k.relation k.descriptor) kept → IsFirst (above low (db_of kept)) (option_map (λ k. (k.name, k.descriptor)) (first_above low kept))
first-relation low [] all = tt
first-relation low (o ∷ kept) all =
    by (is_above low o.name) (All-head (λ (k : Kept). IsDescriptorOf k.relation k.descriptor) o kept all) (first-relation low kept (All-tail (λ (k : Kept). IsDescriptorOf k.relation k.descriptor) o kept all))
  where
    by : (b : Bool) → IsDescriptorOf o.relation o.descriptor → IsFirst (above low (db_of kept)) (option_map (λ k. (k.name, k.descriptor)) (first_above low kept))
        → IsFirst (cond b ((o.name, o.relation) ∷ above low (db_of kept)) (above low (db_of kept))) (option_map (λ (k : Kept). (k.name, k.descriptor)) (cond b (Some o) (first_above low kept)))
    by true is rest = (refl, is)
    by false is rest = rest

pub IsFirstEntry-found : (m : Meanings) (durable : ℕ → Bool) (root : ℕ) (s : Slots) (kept : List Kept) (low : Option Name) (e : Entry) → Tables m durable root s kept →
    first (is_behind low) (map entry_of kept) ≡ Some e → IsFirstEntry low kept e
IsFirstEntry-found m durable root s kept low e tables is = by (first_above low kept) refl (sym (first-entry low kept) ∙ is)
  where
    by : (o : Option Kept) → first_above low kept ≡ o → option_map entry_of o ≡ Some e → IsFirstEntry low kept e
    by None at is = absurd (cc)
    by (Some k) at is =
        let keeps = first_above-all (KeepsTable m durable s) low kept k tables.each at in
        let entry : entry_of k ≡ e = same_Some (entry_of k) e is in
        let name : k.name ≡ e.0 = ap (λ (x : Entry). x.0) entry in
        let same : descriptor_spelling k.descriptor ≡ e.1 = ap (λ (x : Entry). x.1) entry in
        let whole = first-relation low kept (All-weaker (KeepsTable m durable s) (λ (k : Kept). IsDescriptorOf k.relation k.descriptor) (λ k keeps. keeps.is) kept tables.each) in
        record {
          one = k;
          at = at;
          name = sym name;
          storable = keeps.storable;
          spelled = sym same;
          only = λ d storable spelled. same-spelled m durable s k d keeps storable (same ∙ spelled);
          is_first = subst (λ (o : Option (Name × Descriptor)). IsFirst (above low (db_of kept)) o) (ap (option_map (λ (k : Kept). (k.name, k.descriptor))) at ∙ (λ i. Some (name i, k.descriptor))) whole;
        }

pub IsFirst-none : (m : Meanings) (durable : ℕ → Bool) (root : ℕ) (s : Slots) (kept : List Kept) (low : Option Name) → Tables m durable root s kept →
    first (is_behind low) (map entry_of kept) ≡ None → IsFirst (above low (db_of kept)) None
IsFirst-none m durable root s kept low tables is = by (first_above low kept) refl (sym (first-entry low kept) ∙ is)
  where
    by : (o : Option Kept) → first_above low kept ≡ o → option_map entry_of o ≡ None → IsFirst (above low (db_of kept)) None
    by None at is =
        let whole = first-relation low kept (All-weaker (KeepsTable m durable s) (λ (k : Kept). IsDescriptorOf k.relation k.descriptor) (λ k keeps. keeps.is) kept tables.each) in
        subst (λ (o : Option (Name × Descriptor)). IsFirst (above low (db_of kept)) o) (ap (option_map (λ (k : Kept). (k.name, k.descriptor))) at) whole
    by (Some k) at is = absurd (cc)
