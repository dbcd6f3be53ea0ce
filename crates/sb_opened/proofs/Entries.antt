-- What the entries of the catalogue say of the relations, whose descriptors are read from them.
use Rattle.std.proofs.Common.{◌≡◌, ℕ, List, map, All, Option, Some, None, IsUtf8, option_map, refl, sym, ap, subst, ◌∙◌}
use Rattle.std.specs.List.{find as first}
use Rattle.std.specs.FinMap.Entries.{find}
use Rattle.sb_node.specs.Entries.{Entry, key_cmp}
use Rattle.sb_map.specs.Ways as ways
use Rattle.sb_relation.specs.Db.{Name, Db, relation_at}
use Rattle.sb_catalog.specs.declared.descriptor.Descriptor.{Descriptor}
use Rattle.sb_catalog.specs.Descriptors.{descriptor_spelling, IsStorableDescriptor}
use Rattle.sb_drive.specs.declared.space.SpaceFault.{SpaceFault}
use Rattle.sb_drive.specs.Slots.{Slots}
use Rattle.sb_registry.specs.Boxes.{Meanings}
use Rattle.sb_registry.specs.Runs.{IsSound}
use Rattle.sb_standing.specs.Standing.{EachRule, StandsRule, StandRules}
use Rattle.sb_standing.specs.Tables.{Kept, KeepsTable, Tables, db_of, entry_of, first_above, is_behind, kept_at}
use Rattle.sb_standing.proofs.CatalogueLemmas.{IsEntry-found, IsFirstEntry-found, first-entry, first_above-all, kept_at-no_entry}
use Rattle.sb_standing.proofs.KeptLemmas.{kept_at-all, kept_at-name, relation_at-kept}
use Rattle.sb_opened.specs.Opened.{IsDurable, MayOpen, kept_header, rule_of}

-- ---- the entry of a name
pub at-found : (m : Meanings) (root : ℕ) (s : Slots) (kept : List Kept) (name : Name) (bytes : List ℕ) (d : Descriptor) → Tables m IsDurable root s kept → Some bytes ≡ find key_cmp name (map entry_of kept)
    → IsStorableDescriptor d → bytes ≡ descriptor_spelling d → Some d ≡ option_map (λ k. k.descriptor) (kept_at kept name)
at-found m root s kept name bytes d tables is storable spelled =
    let entry = IsEntry-found m IsDurable root s kept name bytes tables (sym is) in
    ap Some (entry.only d storable spelled) ∙ sym (ap (option_map (λ (k : Kept). k.descriptor)) entry.at)

pub at-none : (kept : List Kept) (name : Name) → None ≡ find key_cmp name (map entry_of kept) → None ≡ option_map (λ k. k.descriptor) (kept_at kept name)
at-none kept name is = sym (ap (option_map (λ (k : Kept). k.descriptor)) (kept_at-no_entry kept name (sym is)))

-- what is refused of no descriptor that can be stored isn't refused of an entry
pub at-sound : (m : Meanings) (root : ℕ) (s : Slots) (kept : List Kept) (name : Name) (bytes : List ℕ) (e : SpaceFault) → Tables m IsDurable root s kept → Some bytes ≡ find key_cmp name (map entry_of kept)
    → ((d : Descriptor) → IsStorableDescriptor d → bytes ≡ descriptor_spelling d → IsSound e) → IsSound e
at-sound m root s kept name bytes e tables is sound =
    let entry = IsEntry-found m IsDurable root s kept name bytes tables (sym is) in sound entry.one.descriptor entry.storable entry.spelled

-- ---- the first entry behind a name
behind-same : (low : Option Name) (es : List Entry) → first (ways.is_behind low) es ≡ first (is_behind low) es
behind-same None es = refl
behind-same (Some key) es = refl

pub first-found : (m : Meanings) (root : ℕ) (s : Slots) (kept : List Kept) (low : Option Name) (e : Entry) (name : Name) (d : Descriptor) → Tables m IsDurable root s kept
    → Some e ≡ first (ways.is_behind low) (map entry_of kept) → name ≡ e.0 → IsStorableDescriptor d → e.1 ≡ descriptor_spelling d → Some (name, d) ≡ option_map kept_header (first_above low kept)
first-found m root s kept low e name d tables is named storable spelled =
    let entry = IsFirstEntry-found m IsDurable root s kept low e tables (sym (is ∙ behind-same low (map entry_of kept))) in
    let same_name : name ≡ entry.one.name = named ∙ entry.name in
    let same : d ≡ entry.one.descriptor = entry.only d storable spelled in
    (λ i. Some (same_name i, same i)) ∙ sym (ap (option_map kept_header) entry.at)

pub first-none : (kept : List Kept) (low : Option Name) → None ≡ first (ways.is_behind low) (map entry_of kept) → None ≡ option_map kept_header (first_above low kept)
first-none kept low is = by (first_above low kept) (is ∙ behind-same low (map entry_of kept) ∙ first-entry low kept)
  where
    by : (o : Option Kept) → None ≡ option_map entry_of o → None ≡ option_map kept_header o
    by None none = refl
    by (Some k) none = absurd (cc)

pub first-sound : (m : Meanings) (root : ℕ) (s : Slots) (kept : List Kept) (low : Option Name) (entry : Entry) (e : SpaceFault) → Tables m IsDurable root s kept
    → Some entry ≡ first (ways.is_behind low) (map entry_of kept) → ((d : Descriptor) → IsUtf8 entry.0 → IsStorableDescriptor d → entry.1 ≡ descriptor_spelling d → IsSound e) → IsSound e
first-sound m root s kept low entry e tables is sound =
    let first = IsFirstEntry-found m IsDurable root s kept low entry tables (sym (is ∙ behind-same low (map entry_of kept))) in
    let keeps = first_above-all (KeepsTable m IsDurable s) low kept first.one tables.each first.at in
    sound first.one.descriptor (subst IsUtf8 (sym first.name) keeps.named) first.storable first.spelled

-- ---- relations that the catalogue has may be opened
abbrev pub Stands : Meanings → Db → Kept → Type 0
Stands m db k = EachRule (λ d a. StandsRule m (rule_of k.name k.descriptor d) a db) k.descriptor.attachments k.relation.attachments

MayOpen-kept : (m : Meanings) (s : Slots) (db : Db) (k : Kept) → KeepsTable m IsDurable s k → Stands m db k → MayOpen m db k.name k.descriptor
MayOpen-kept m s db k keeps stands = record { wide = keeps.wide; live = keeps.rows.live; attachments = k.relation.attachments; rules = stands }

pub MayOpen-at : (m : Meanings) (root : ℕ) (s : Slots) (kept : List Kept) (name : Name) (d : Descriptor) → Tables m IsDurable root s kept → StandRules m IsDurable (db_of kept) kept
    → Some d ≡ option_map (λ k. k.descriptor) (kept_at kept name) → MayOpen m (db_of kept) name d
MayOpen-at m root s kept name d tables stand is = by (kept_at kept name) refl is
  where
    by : (o : Option Kept) → kept_at kept name ≡ o → Some d ≡ option_map (λ k. k.descriptor) o → MayOpen m (db_of kept) name d
    by None at none = absurd (cc)
    by (Some k) at same =
        let may = MayOpen-kept m s (db_of kept) k (kept_at-all (KeepsTable m IsDurable s) kept name k tables.each at) (kept_at-all (Stands m (db_of kept)) kept name k stand at) in
        let same_name : k.name ≡ name = kept_at-name kept name k at in
        let same_d : k.descriptor ≡ d = cc in
        subst (λ (n : Name). MayOpen m (db_of kept) n d) same_name (subst (λ (x : Descriptor). MayOpen m (db_of kept) k.name x) same_d may)

pub MayOpen-first : (m : Meanings) (root : ℕ) (s : Slots) (kept : List Kept) (low : Option Name) (name : Name) (d : Descriptor) → Tables m IsDurable root s kept → StandRules m IsDurable (db_of kept) kept
    → Some (name, d) ≡ option_map kept_header (first_above low kept) → MayOpen m (db_of kept) name d
MayOpen-first m root s kept low name d tables stand is = by (first_above low kept) refl is
  where
    by : (o : Option Kept) → first_above low kept ≡ o → Some (name, d) ≡ option_map kept_header o → MayOpen m (db_of kept) name d
    by None at none = absurd (cc)
    by (Some k) at same =
        let may = MayOpen-kept m s (db_of kept) k (first_above-all (KeepsTable m IsDurable s) low kept k tables.each at) (first_above-all (Stands m (db_of kept)) low kept k stand at) in
        let pair : (k.name, k.descriptor) ≡ (name, d) = cc in
        subst (λ (x : Name × Descriptor). MayOpen m (db_of kept) x.0 x.1) pair may

-- ---- the columns of a relation are those of its descriptor
pub columns-kept : (m : Meanings) (s : Slots) (kept : List Kept) (name : Name) → All (KeepsTable m IsDurable s) kept
    → option_map (λ r. r.schema) (relation_at (db_of kept) name) ≡ option_map (λ d. d.schema) (option_map (λ k. k.descriptor) (kept_at kept name))
columns-kept m s kept name each = ap (option_map (λ r. r.schema)) (relation_at-kept kept name) ∙ by (kept_at kept name) refl
  where
    by : (o : Option Kept) → kept_at kept name ≡ o → option_map (λ r. r.schema) (option_map (λ (k : Kept). k.relation) o) ≡ option_map (λ d. d.schema) (option_map (λ (k : Kept). k.descriptor) o)
    by None at = refl
    by (Some k) at = ap Some (sym (kept_at-all (KeepsTable m IsDurable s) kept name k each at).is.schema)
