-- Attaching to a relation that is open.
use Rattle.std.proofs.Common.{◌≡◌, ℕ, ◌*◌, ◌≤◌, Bool, true, false, List, length, map, Option, Some, None, option_map, refl, sym, ap, subst, ◌∙◌}
use Rattle.std.specs.FinMap.Entries.{put}
use Rattle.std.specs.List.{list_any}
use Rattle.std.proofs.lemmas.Option.{same_Some}
use Rattle.sb_node.specs.Entries.{key_cmp}
use Rattle.sb_rule.specs.declared.rule.Rule.{Rule}
use Rattle.sb_relation.specs.Build.{main_of}
use Rattle.sb_relation.specs.Db.{Name, Rows}
use Rattle.sb_relation.specs.Lawful.{is_long_for}
use Rattle.sb_relation.specs.Rules.{holds}
use Rattle.sb_fold.specs.Building.{has_long_row}
use Rattle.sb_forms.specs.Maps.{map_in}
use Rattle.sb_ctx.specs.declared.instance.Instance.{Instance}
use Rattle.sb_ctx.specs.Attachment.{Attachment}
use Rattle.sb_registry.specs.Boxes.{Meanings, attachment_of}
use Rattle.sb_registry.specs.Live.{IsLiveRule}
use Rattle.sb_registry.specs.Runs.{IsSound}
use Rattle.sb_drive.specs.declared.space.SpaceFault.{SpaceFault}
use Rattle.sb_drive.specs.Slots.{AreWhole, Slots, owned}
use Rattle.sb_drive.specs.Spaces.{Leaves, LeadsOn, Wanted}
use Rattle.sb_drive.proofs.SpacesLemmas.{ArePages-few}
use Rattle.sb_rows.specs.Live.{HasRows}
use Rattle.sb_catalog.specs.declared.descriptor.Attached.{Attached}
use Rattle.sb_catalog.specs.declared.descriptor.Descriptor.{Descriptor}
use Rattle.sb_catalog.specs.Descriptors.{descriptor_spelling, IsStorableAttached, IsStorableDescriptor}
use Rattle.sb_standing.specs.Lacking.{IsShort, WhereShort}
use Rattle.sb_standing.specs.Standing.{with_described}
use Rattle.sb_standing.specs.Tables.{Kept, db_of, entry_of, kept_at, table_of}
use Rattle.sb_tables.specs.OpenRelation.{OpenRelation}
use Rattle.sb_tables.specs.Opened.{IsDurable, IsOpen, rule_of}
use Rattle.sb_tables.specs.Working.{extensions_of}
use Rattle.sb_building.specs.declared.attaching.Attaching.{Attaching}
use Rattle.sb_building.specs.declared.attaching.Attaching.TheVariants.{TooLong, Vetoed, Attached as Done}
use Rattle.sb_building.specs.Attaching.{HasBegun, HasEnded, IsEntryOf, IsRoomy, MayAdd, Stores}
use Rattle.sb_building.specs.Building.{HasNoLong, IsBuiltOver}
use Rattle.sb_building.specs.Held.{holds_of}
use Rattle.sb_building.specs.Instances.{Site}
use Rattle.sb_building.specs.Lacking.{IsShortBuilding, bound_over}
use Rattle.sb_building.proofs.BoundLemmas.{pages-built}
use Rattle.sb_building.proofs.EndedLemmas.{IsRoomy-may, KeepsDb-attached, has_long_row-is, holds-is, rows_opened, table_opened, whole_content}
use Rattle.sb_building.proofs.LackingLemmas.{short_entry, within-all}
use Rattle.sb_building.proofs.SiteLemmas.{Tables-apart, rows_there}

-- ---- rows that are too long
module _ {S : Type 0} (Has : Wanted → Slots → S → Type 0) (m : Meanings) (root : ℕ) (x : Site) (o : OpenRelation) (stores : Stores m root x o.name) (same : x.one.descriptor ≡ o.descriptor) (open_it : IsOpen m o)
    (old : S) (has : Has x.want x.slots old) where
  columns_are : o.table.schema ≡ x.one.descriptor.schema
  columns_are = ap (λ (i : Instance). i.schema) open_it.table ∙ sym (ap (λ (d : Descriptor). d.schema) same)

  pub rows_are_there : HasRows m x.slots o.table x.one.relation.rows
  rows_are_there = rows_opened Has m root x o.name stores o refl same open_it

  -- they are looked for among the rows that stand
  pub long_found : (rule : Rule) (long : Bool)
      → ((want : Wanted) (s : Slots) (rows : Rows) → Has want s old → HasRows m s o.table rows → long ≡ list_any (λ row. is_long_for o.table.schema row.1 rule) rows)
      → has_long_row (db_of x.kept) o.name rule ≡ long
  long_found rule long found = sym (found x.want x.slots x.one.relation.rows has rows_are_there ∙ has_long_row-is Has m root x o.name stores rule o.table.schema columns_are)

  pub ended_long : (rule : Rule) (label : Name) (long : Bool) (may : MayAdd m (db_of x.kept) o.name label rule) (new : S)
      → ((want : Wanted) (s : Slots) (rows : Rows) → Has want s old → HasRows m s o.table rows → long ≡ list_any (λ row. is_long_for o.table.schema row.1 rule) rows) → long ≡ true
      → HasEnded Has m root x o.name label rule may.box.rules new TooLong
  unfolding HasEnded
  ended_long rule label long may new found is = long_found rule long found ∙ is

  pub long_sound : (e : SpaceFault) → ((want : Wanted) (s : Slots) (rows : Rows) → Has want s old → HasRows m s o.table rows → IsSound e) → IsSound e
  long_sound e sound = sound x.want x.slots x.one.relation.rows has rows_are_there

-- ---- a relation that was opened
-- it has the descriptor that is kept
pub opened_descriptor : (kept : List Kept) (name : Name) (k : Kept) (d : Descriptor) → Some d ≡ option_map (λ (q : Kept). q.descriptor) (kept_at kept name) → kept_at kept name ≡ Some k → k.descriptor ≡ d
opened_descriptor kept name k d found there = sym (same_Some d k.descriptor (found ∙ ap (λ (o : Option Kept). option_map (λ (q : Kept). q.descriptor) o) there))

-- and is there where it is kept
pub opened_none : (kept : List Kept) (name : Name) (k : Kept) → ◌≡◌ {A = Option Descriptor} None (option_map (λ (q : Kept). q.descriptor) (kept_at kept name)) → kept_at kept name ≡ Some k → ⊥
opened_none kept name k found there =
    let e : ◌≡◌ {A = Option Descriptor} None (Some k.descriptor) = found ∙ ap (λ (o : Option Kept). option_map (λ (q : Kept). q.descriptor) o) there in cc

-- ---- by one name, and by one rule
module _ {S : Type 0} (Has : Wanted → Slots → S → Type 0) (m : Meanings) (root : ℕ) (x : Site) (label : Name) (new : S) (end : Attaching) where
  pub ended_named : (rule : Rule) (n name : Name) → n ≡ name
      → (Stores m root x n → (may : MayAdd m (db_of x.kept) n label rule) → main_of n rule ≡ None → HasEnded Has m root x n label rule may.box.rules new end)
      → Stores m root x name → (may : MayAdd m (db_of x.kept) name label rule) → main_of name rule ≡ None → HasEnded Has m root x name label rule may.box.rules new end
  ended_named rule n name is ended =
      subst (λ (l : Name). Stores m root x l → (may : MayAdd m (db_of x.kept) l label rule) → main_of l rule ≡ None → HasEnded Has m root x l label rule may.box.rules new end) is ended

  pub ended_copy : (name : Name) (r rule : Rule) → r ≡ rule
      → ((may : MayAdd m (db_of x.kept) name label r) → main_of name r ≡ None → HasEnded Has m root x name label r may.box.rules new end)
      → (may : MayAdd m (db_of x.kept) name label rule) → main_of name rule ≡ None → HasEnded Has m root x name label rule may.box.rules new end
  ended_copy name r rule is ended =
      subst (λ (q : Rule). (may : MayAdd m (db_of x.kept) name label q) → main_of name q ≡ None → HasEnded Has m root x name label q may.box.rules new end) is ended

pub caused_named : (m : Meanings) (root : ℕ) (x : Site) (label : Name) (rule : Rule) (Cause : Type 0) (n name : Name) → n ≡ name → (Stores m root x n → MayAdd m (db_of x.kept) n label rule → Cause)
    → Stores m root x name → MayAdd m (db_of x.kept) name label rule → Cause
caused_named m root x label rule Cause n name is caused = subst (λ (l : Name). Stores m root x l → MayAdd m (db_of x.kept) l label rule → Cause) is caused

pub MayAdd-copy : (m : Meanings) (x : Site) (name label : Name) (r rule : Rule) → r ≡ rule → MayAdd m (db_of x.kept) name label rule → MayAdd m (db_of x.kept) name label r
MayAdd-copy m x name label r rule is may = subst (λ (q : Rule). MayAdd m (db_of x.kept) name label q) (sym is) may

-- ---- one by its entry
-- what is so of the name and the rule of an entry is so of those that it was made of
module _ {S : Type 0} (Has : Wanted → Slots → S → Type 0) (m : Meanings) (root : ℕ) (x : Site) (name label : Name) (rule : Rule) (d : Attached) (entry : IsEntryOf label rule d) (inst : Instance) (box : Attachment) (mid new : S) where
  pub ended_entry : (end : Attaching)
      → ((may : MayAdd m (db_of x.kept) name d.name d.rule) → main_of name d.rule ≡ None → HasBegun Has m root x inst d.rule box mid → has_long_row (db_of x.kept) name d.rule ≡ false
      → HasEnded Has m root x name d.name d.rule may.box.rules new end)
      → (may : MayAdd m (db_of x.kept) name label rule) → main_of name rule ≡ None → HasBegun Has m root x inst rule box mid → has_long_row (db_of x.kept) name rule ≡ false
      → HasEnded Has m root x name label rule may.box.rules new end
  ended_entry end ended =
      let P : Name → Rule → Type 0 = λ l r.
      (may : MayAdd m (db_of x.kept) name l r) → main_of name r ≡ None → HasBegun Has m root x inst r box mid → has_long_row (db_of x.kept) name r ≡ false → HasEnded Has m root x name l r may.box.rules new end in
      subst (λ (r : Rule). P label r) entry.rule_is (subst (λ (l : Name). P l d.rule) entry.name_is ended)

  pub caused_entry : (Cause : Type 0)
      → (MayAdd m (db_of x.kept) name d.name d.rule → HasBegun Has m root x inst d.rule box mid → has_long_row (db_of x.kept) name d.rule ≡ false → Cause)
      → MayAdd m (db_of x.kept) name label rule → HasBegun Has m root x inst rule box mid → has_long_row (db_of x.kept) name rule ≡ false → Cause
  caused_entry Cause caused =
      let P : Name → Rule → Type 0 = λ l r. MayAdd m (db_of x.kept) name l r → HasBegun Has m root x inst r box mid → has_long_row (db_of x.kept) name r ≡ false → Cause in
      subst (λ (r : Rule). P label r) entry.rule_is (subst (λ (l : Name). P l d.rule) entry.name_is caused)

-- ---- once it has begun
-- an attachment of a descriptor that can be stored, over an open relation
module _ {S : Type 0} (Has : Wanted → Slots → S → Type 0) (m : Meanings) (root : ℕ) (x : Site) (o : OpenRelation) (stores : Stores m root x o.name) (same : x.one.descriptor ≡ o.descriptor) (open_it : IsOpen m o)
    (d : Attached) (storable : IsStorableAttached d) (inst : Instance) (is : inst ≡ rule_of o.name o.descriptor d) (live : IsLiveRule m inst) (may : MayAdd m (db_of x.kept) o.name d.name d.rule)
    (mid : S) (begun : HasBegun Has m root x inst d.rule live.box mid) (short : has_long_row (db_of x.kept) o.name d.rule ≡ false) where
  inst_is : inst ≡ rule_of o.name x.one.descriptor d
  inst_is = is ∙ ap (λ (q : Descriptor). rule_of o.name q d) (sym same)

  own_entry : IsEntryOf d.name d.rule d
  own_entry = record { code = storable.2.coded; name_is = refl; rule_is = refl; storable = storable }

  -- the site where it works
  abbrev pub here : Site
  here = record x { slots = begun.slots }

  pub table_here : o.table ≡ table_of IsDurable here.one
  table_here = table_opened Has m root x o.name stores o refl same open_it

  pub none_long : HasNoLong here d.rule
  none_long = has_long_row-is Has m root x o.name stores d.rule x.one.descriptor.schema refl ∙ short

  box_is : may.box ≡ live.box
  box_is = same_Some may.box live.box (sym may.live ∙ ap (λ (k : ℕ). attachment_of k m.attachments) (sym (ap (λ (i : Instance). i.code) is ∙ storable.2.coded)) ∙ live.live)

  -- whether it holds is what the rows say
  holds_as : (held : Bool) → main_of o.name d.rule ≡ None → held ≡ holds_of (Some live.box.rules) (db_of x.kept) inst.relation d.rule x.one.relation.rows
      → holds (Some may.box.rules) (db_of x.kept) o.name d.rule ≡ held
  holds_as held main says =
      holds-is Has m root x o.name stores may.box d.rule main
      ∙ (λ i. holds_of (Some (box_is i).rules) (db_of x.kept) (ap (λ (n : Instance). n.relation) (sym is) i) d.rule x.one.relation.rows) ∙ sym says

  -- it doesn't
  pub ended_vetoed : (new : S) (held : Bool) → held ≡ false → main_of o.name d.rule ≡ None
      → Leaves Has inst.owner x.want begun.slots new (IsBuiltOver live.box inst d.rule (db_of x.kept) x.one.relation.rows held) → HasEnded Has m root x o.name d.name d.rule may.box.rules new Vetoed
  unfolding HasEnded
  ended_vetoed new held fails main left = (short, holds_as held main left.own.says ∙ fails)

  -- it does, and comes into the descriptor
  module _ (built new : S) (held : Bool) (passes : held ≡ true) (left : Leaves Has inst.owner x.want begun.slots built (IsBuiltOver live.box inst d.rule (db_of x.kept) x.one.relation.rows held)) where
    abbrev there : Site
    there = record x { slots = left.slots }

    catalogue_there : map_in root (owned left.slots 2) ≡ Some (map entry_of x.kept)
    catalogue_there = (Tables-apart m root inst.owner begun.slots left.slots x.kept begun.site.apart left.others begun.site.tables).catalogue

    pub ended_placed : main_of o.name d.rule ≡ None
        → ((y : Site) → Has y.want y.slots built → map_in root (owned y.slots 2) ≡ Some (map entry_of y.kept)
        → Leaves Has 2 y.want y.slots new
        (λ after. map_in root after ≡ Some (put key_cmp o.name (descriptor_spelling (record o.descriptor { attachments = with_described d o.descriptor.attachments })) (map entry_of y.kept))))
        → IsStorableDescriptor (record o.descriptor { attachments = with_described d o.descriptor.attachments }) → HasEnded Has m root x o.name d.name d.rule may.box.rules new Done
    unfolding HasEnded
    ended_placed main placed storable_with =
        let Spelled : Descriptor → Type 0 = λ q.
        Leaves Has 2 x.want left.slots new (λ after. map_in root after ≡ Some (put key_cmp o.name (descriptor_spelling (record q { attachments = with_described d q.attachments })) (map entry_of x.kept))) in (
          short,
          holds_as held main left.own.says ∙ passes,
          KeepsDb-attached Has m root x o.name stores d.name d.rule may d own_entry inst inst_is live mid begun left.slots new left.others
              (whole_content Has m root x o.name stores d.name d.rule may d own_entry inst inst_is live mid begun (owned left.slots inst.owner) (left.own.keeps passes))
              (subst (λ (q : Descriptor). IsStorableDescriptor (record q { attachments = with_described d q.attachments })) (sym same) storable_with)
              (subst Spelled (sym same) (placed there left.has catalogue_there)),
        )

    pub placed_refused : (Cause : Type 0) → ((y : Site) → Has y.want y.slots built → map_in root (owned y.slots 2) ≡ Some (map entry_of y.kept) → IsRoomy o.name o.descriptor d → Cause) → Cause
    placed_refused Cause refused =
        refused there left.has catalogue_there (subst (λ (q : Descriptor). IsRoomy o.name q d) same (IsRoomy-may Has m root x o.name stores d.name d.rule may d own_entry))

    -- where no page is left for its descriptor, none is left beside its owner
    pub placed_short : (Leads : ℕ → S → S → Type 0) (e : SpaceFault) → ((want : Wanted) (s : Slots) (a : S) → Has want s a → AreWhole s)
        → ((want : Wanted) (s : Slots) (a : S) → Has want s a → (n : ℕ) → 65536 ≤ n → (s n).0 ≡ 0)
        → ((y : Site) → Has y.want y.slots built → map_in root (owned y.slots 2) ≡ Some (map entry_of y.kept) → WhereShort e (IsShort y.slots 2 (2 * length (map entry_of y.kept))))
        → LeadsOn Leads built new → WhereShort e (IsShortBuilding Has Leads (extensions_of m) x o.name d.rule new)
    placed_short Leads e whole few full leads =
        let rows = x.one.relation.rows in
        let pages = ArePages-few left.slots inst.owner (whole x.want left.slots built left.has) (few x.want left.slots built left.has) in
        subst (λ (n : Name). WhereShort e (IsShortBuilding Has Leads (extensions_of m) x n d.rule new)) (ap (λ (i : Instance). i.relation) is)
        (short_entry Has Leads m root x inst.relation d.rule inst.owner (bound_over (extensions_of m) (db_of x.kept) inst.relation d.rule rows) built new left.slots left.has
        (record { is = begun.is; none = begun.none; others = λ q other two. left.others q other ∙ begun.others q other })
        leads (within-all (extensions_of m) (db_of x.kept) inst.relation d.rule rows (rows_there Has m root here inst d.rule live.box mid begun.site)) e
        (pages-built m inst live d.rule (db_of x.kept) begun.site.stands may.joinless left.slots rows pages (left.own.keeps passes))
        (full there left.has catalogue_there))
