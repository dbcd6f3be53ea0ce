-- New instances, over the relations that a space keeps.
use Rattle.std.proofs.Common.{◌≡◌, ◌≢◌, inl, inr, ℕ, ◌<◌, ◌==◌, Bool, true, false, cond, List, [], ◌∷◌, Some, get_or, arith, eqb-true, refl, sym, ap, subst, ◌∙◌}
use Rattle.std.proofs.lemmas.Option.{same_Some}
use Rattle.sb_value.specs.declared.schema.Column.{Column}
use Rattle.sb_rule.specs.declared.rule.Rule.{Rule}
use Rattle.sb_rule.specs.declared.rule.Rule.TheVariants.{TreeIndex, HashIndex, JoinIndex, Stats, Check, Refers, Trigger, Foreign}
use Rattle.sb_rule.specs.Spelling.{rule_code, rule_spelling}
use Rattle.sb_relation.specs.Content.{Content}
use Rattle.sb_relation.specs.Db
use Rattle.sb_relation.specs.Db.{Name, Relation, Db, schema_at}
use Rattle.sb_relation.specs.Fits.{MayStand}
use Rattle.sb_fold.specs.Costs.{prepare_cost}
use Rattle.sb_forms.specs.Pages.{Pages, new_pages}
use Rattle.sb_ctx.specs.declared.instance.Instance.{Instance}
use Rattle.sb_ctx.specs.Attachment.{Attachment, IsOwned, JoinsAnother, StandsOn, keeps_pages}
use Rattle.sb_ctx.specs.AttachAnswers.{Holds, first_content}
use Rattle.sb_ctx.specs.declared.calls.AttachCall.TheVariants.{Prepare}
use Rattle.sb_ctx.specs.Laws.{IsAttachment}
use Rattle.sb_registry.specs.Boxes.{Meanings, attachment_of}
use Rattle.sb_registry.specs.Live.{IsLiveRule}
use Rattle.sb_registry.specs.Runs.{IsSound}
use Rattle.sb_drive.specs.declared.space.SpaceFault.{SpaceFault}
use Rattle.sb_drive.specs.Slots.{Slots, owned}
use Rattle.sb_drive.specs.Spaces.{Leaves, LeadsOn, LeadsWithin, Wanted}
use Rattle.sb_drive.proofs.SpacesLemmas.{GoesOn, LeadsWithin-on}
use Rattle.sb_catalog.specs.declared.descriptor.Attached.{Attached}
use Rattle.sb_catalog.specs.declared.descriptor.Descriptor.{Descriptor}
use Rattle.sb_catalog.specs.Descriptors.{IsCountedRule}
use Rattle.sb_owners.specs.Instances.{HasCome}
use Rattle.sb_standing.specs.Lacking.{IsShort, WhereShort}
use Rattle.sb_standing.specs.Standing.{IsOwner, StandsRule, is_join}
use Rattle.sb_standing.specs.Tables.{Kept, KeepsTable, Tables, db_of, kept_at}
use Rattle.sb_standing.proofs.KeptLemmas.{kept_at-all, relation_at-there}
use Rattle.sb_standing.proofs.LawfulLemmas.{AreLawful-tables, roots-tables}
use Rattle.sb_tables.specs.Opened.{IsDurable, OwnsPages, rule_of}
use Rattle.sb_tables.specs.Refusals.{HasRefusalCause, refusal_of}
use Rattle.sb_tables.specs.Working.{extensions_of}
use Rattle.sb_building.specs.Attaching.{HasBegun, IsEntered, IsEntryOf, IsStore, MayAdd}
use Rattle.sb_building.specs.Instances.{HasNewPages, HoldsFirst, IsApart, IsPlaced, IsSite, Site}
use Rattle.sb_building.specs.Lacking.{IsShortBuilding, bound_over}
use Rattle.sb_tables.proofs.SpendingLemmas.{within_then}
use Rattle.sb_building.proofs.ChargeLemmas.{first-is-charged, live-by-rule, schema-own}
use Rattle.sb_building.proofs.ContentLemmas.{content-first}
use Rattle.sb_building.proofs.LackingLemmas.{short_own}
use Rattle.sb_building.proofs.SiteLemmas.{Tables-apart}

-- ---- its owner is none of the others
pub IsApart-placed : (m : Meanings) (root : ℕ) (s : Slots) (kept : List Kept) (owner : ℕ) → Tables m IsDurable root s kept → IsOwner owner → ((n : ℕ) → owned s owner n ≡ []) → IsApart owner kept
IsApart-placed m root s kept owner tables is none = record {
  catalogue = by is;
  tables = λ n d in' same. roots-tables m IsDurable root s kept tables n d in' (subst (λ (o : ℕ). owned s o (get_or kept n d).descriptor.root ≡ []) (sym same) (none (get_or kept n d).descriptor.root));
}
  where
    by : IsOwner owner → 2 ≡ owner → ⊥
    by (inl nobody) two = absurd (omega (arith, nobody, two))
    by (inr some) two = absurd (omega (arith, some, two))

-- ---- the place of a new one
-- it is none's, or an owner that had no page
pub IsPlaced-nowhere : {S : Type 0} (Has : Wanted → Slots → S → Type 0) (want : Wanted) (s : Slots) (new : S) → Has want s new → (keeps : Bool) → keeps ≡ false → IsPlaced Has keeps want s 0 0 new
IsPlaced-nowhere Has want s new has keeps is = record {
  slots = s;
  has = has;
  is = inl refl;
  none = λ n. refl;
  others = λ o other. refl;
  pages = λ n. sym (ap (λ (k : Bool). cond k (new_pages 0 n) []) is);
}

pub IsPlaced-come : {S : Type 0} (Has : Wanted → Slots → S → Type 0) (want : Wanted) (s : Slots) (owner root : ℕ) (new : S) → HasCome Has want s owner root new → (keeps : Bool) → keeps ≡ true
    → IsPlaced Has keeps want s owner root new
IsPlaced-come Has want s owner root new come keeps is = record {
  slots = come.slots;
  has = come.has;
  is = inr come.from;
  none = come.none;
  others = come.others;
  pages = λ n. ap (λ (P : Pages). P n) come.pages ∙ sym (ap (λ (k : Bool). cond k (new_pages root n) []) is);
}

pub OwnsPages-nowhere : (keeps : Bool) → keeps ≡ false → OwnsPages keeps 0
OwnsPages-nowhere keeps is = subst (λ (k : Bool). OwnsPages k 0) (sym is) refl

pub OwnsPages-come : (keeps : Bool) (owner : ℕ) → keeps ≡ true → 2 < owner → OwnsPages keeps owner
OwnsPages-come keeps owner is high = subst (λ (k : Bool). OwnsPages k owner) (sym is) some
  where
    some : owner ≢ 0
    some none = absurd (omega (arith, high, none))

-- ---- the live box of its code
pub attachment_of-code : (code : ℕ) (attachments : List Attachment) (box : Attachment) → attachment_of code attachments ≡ Some box → box.rules.code ≡ code
attachment_of-code code [] box is = absurd (cc)
attachment_of-code code (x ∷ attachments) box is =
    elim (x.rules.code == code) as (λ t. x.rules.code == code ≡ t → cond t (Some x) (attachment_of code attachments) ≡ Some box → box.rules.code ≡ code) [
      | true ↦ λ same there. ap (λ (a : Attachment). a.rules.code) (sym (same_Some x box there)) ∙ eqb-true x.rules.code code same
      | false ↦ λ other there. attachment_of-code code attachments box there
    ]
    refl is

IsOwned-owns : (keeps : Bool) (inst : Instance) → OwnsPages keeps inst.owner → IsOwned keeps inst
IsOwned-owns true inst owns = owns
IsOwned-owns false inst owns = owns

joins_none : (name : Name) (rule : Rule) → is_join rule ≡ false → JoinsAnother name rule
joins_none name (TreeIndex columns unique) none = tt
joins_none name (HashIndex columns) none = tt
joins_none name (JoinIndex side columns other others) none = absurd (cc)
joins_none name (Stats column low width) none = tt
joins_none name (Check pred deferred) none = tt
joins_none name (Refers side columns other others mode deferred) none = tt
joins_none name (Trigger on pred act deferred) none = tt
joins_none name (Foreign code desc) none = tt

-- ---- a new entry
-- what is known of it beside the relations that are kept
pub record IsNewEntry (m : Meanings) (label : Name) (rule : Rule) (d : Attached) : Type 0 where
  pub entry : IsEntryOf label rule d
  pub counted : IsCountedRule (rule_code rule) rule
  pub owns : OwnsPages (keeps_pages (rule_code rule)) d.owner
  pub law : (box : Attachment) → attachment_of (rule_code rule) m.attachments ≡ Some box → IsAttachment box

module _ (m : Meanings) (root : ℕ) (s : Slots) (kept : List Kept) (k : Kept) (name label : Name) (rule : Rule) (d : Attached) (tables : Tables m IsDurable root s kept) (there : kept_at kept name ≡ Some k)
    (may : MayAdd m (db_of kept) name label rule) (new : IsNewEntry m label rule d) where
  -- the relation is the one that is kept
  pub own_is : k.relation ≡ may.own
  own_is = same_Some k.relation may.own (sym (relation_at-there kept name k there) ∙ may.there)

  pub table_of_it : KeepsTable m IsDurable s k
  table_of_it = kept_at-all (KeepsTable m IsDurable s) kept name k tables.each there

  schema_is : may.own.schema ≡ k.descriptor.schema
  schema_is = sym (ap (λ (r : Relation). r.schema) own_is) ∙ sym table_of_it.is.schema

  code_is : may.box.rules.code ≡ rule_code rule
  code_is = attachment_of-code (rule_code rule) m.attachments may.box may.live

  pub StandsOn-may : StandsOn may.box (rule_of name k.descriptor d) rule (db_of kept)
  StandsOn-may = record {
    spelled = record { coded = code_is; spelled = ap rule_spelling new.entry.rule_is; storable = new.counted.storable; limited = new.counted.limited };
    relation = may.own;
    there = may.there;
    schema = schema_is;
    lawful = AreLawful-tables m IsDurable root s kept tables;
    joins = joins_none name rule may.joinless;
    may = subst (λ (c : List Column). MayStand (Some may.box.rules) (db_of kept) c rule) schema_is may.stands;
  }

  pub StandsRule-may : (buckets : ℕ) → StandsRule m (rule_of name k.descriptor d) (record { name = label; rule = rule; buckets = buckets }) (db_of kept)
  StandsRule-may buckets = record {
    box = may.box;
    live = ap (λ (c : ℕ). attachment_of c m.attachments) new.entry.code ∙ may.live;
    law = new.law may.box may.live;
    code = new.entry.code ∙ sym code_is;
    owner = IsOwned-owns (keeps_pages may.box.rules.code) (rule_of name k.descriptor d) (subst (λ (c : ℕ). OwnsPages (keeps_pages c) d.owner) (sym code_is) new.owns);
    stands = StandsOn-may;
  }

  -- its live box is that one
  pub box_is : (live : IsLiveRule m (rule_of name k.descriptor d)) → may.box ≡ live.box
  box_is live = same_Some may.box live.box (sym (ap (λ (c : ℕ). attachment_of c m.attachments) new.entry.code ∙ may.live) ∙ live.live)

-- ---- where it works
pub IsSite-placed : {S : Type 0} (Has : Wanted → Slots → S → Type 0) (m : Meanings) (root : ℕ) (x : Site) (name label : Name) (rule : Rule) (d : Attached) (old mid : S) → IsStore Has m root x name old
    → (may : MayAdd m (db_of x.kept) name label rule) → IsNewEntry m label rule d → (keeps : Bool) (at : ℕ) → (placed : IsPlaced Has keeps x.want x.slots d.owner at mid)
    → (live : IsLiveRule m (rule_of name x.one.descriptor d)) → IsSite Has m root (record x { slots = placed.slots }) (rule_of name x.one.descriptor d) rule live.box mid
IsSite-placed Has m root x name label rule d old mid store may new keeps at placed live =
    let apart = IsApart-placed m root x.slots x.kept d.owner store.tables placed.is placed.none in
    record {
      has = placed.has;
      tables = Tables-apart m root d.owner x.slots placed.slots x.kept apart placed.others store.tables;
      stand = store.stand;
      there = store.there;
      stands = subst (λ (b : Attachment). StandsOn b (rule_of name x.one.descriptor d) rule (db_of x.kept)) (box_is m root x.slots x.kept x.one name label rule d store.tables store.there may new live)
          (StandsOn-may m root x.slots x.kept x.one name label rule d store.tables store.there may new);
      apart = apart;
    }

pub HasNewPages-placed : {S : Type 0} (Has : Wanted → Slots → S → Type 0) (m : Meanings) (x : Site) (inst : Instance) (code at : ℕ) (mid : S) → (placed : IsPlaced Has (keeps_pages code) x.want x.slots inst.owner at mid)
    → inst.code ≡ code → inst.root ≡ at → (live : IsLiveRule m inst) → HasNewPages (record x { slots = placed.slots }) live.box inst
HasNewPages-placed Has m x inst code at mid placed is root live = λ n.
    placed.pages n ∙ (λ i. cond (keeps_pages ((sym is ∙ live.may.code) i)) (new_pages (sym root i) n) [])

pub HasBegun-prepared : {S : Type 0} (Has : Wanted → Slots → S → Type 0) (m : Meanings) (root : ℕ) (x : Site) (inst : Instance) (rule : Rule) (box : Attachment) (keeps : Bool) (at : ℕ) (mid later new : S)
    → (placed : IsPlaced Has keeps x.want x.slots inst.owner at mid) → IsSite Has m root (record x { slots = placed.slots }) inst rule box later → is_join rule ≡ false
    → Leaves Has inst.owner x.want placed.slots new (HoldsFirst box inst rule (db_of x.kept)) → HasBegun Has m root x inst rule box new
unfolding HoldsFirst
HasBegun-prepared Has m root x inst rule box keeps at mid later new placed site joinless left = record {
  slots = left.slots;
  is = placed.is;
  none = placed.none;
  others = λ o other. left.others o other ∙ placed.others o other;
  site = record {
    has = left.has;
    tables = Tables-apart m root inst.owner placed.slots left.slots x.kept site.apart left.others site.tables;
    stand = site.stand;
    there = site.there;
    stands = site.stands;
    apart = site.apart;
  };
  content = subst (λ (c : Content). Holds box inst (owned left.slots inst.owner) c) (content-first box inst rule (db_of x.kept) joinless) left.own;
}

-- ---- all of it
module _ {S : Type 0} (Has : Wanted → Slots → S → Type 0) (m : Meanings) (root : ℕ) (x : Site) (name label : Name) (rule : Rule) (d : Attached) (old mid later : S) (store : IsStore Has m root x name old)
    (may : MayAdd m (db_of x.kept) name label rule) (new : IsNewEntry m label rule d) (placed : IsPlaced Has (keeps_pages (rule_code rule)) x.want x.slots d.owner d.root mid)
    (looks : (want : Wanted) (s : Slots) → Has want s mid → Has want s later) where
  -- the relations are kept with its pages
  pub tables-begun : Tables m IsDurable root placed.slots x.kept
  tables-begun = Tables-apart m root d.owner x.slots placed.slots x.kept (IsApart-placed m root x.slots x.kept d.owner store.tables placed.is placed.none) placed.others store.tables

  pub stands-begun : StandsRule m (rule_of name x.one.descriptor d) (record { name = label; rule = rule; buckets = 0 }) (db_of x.kept)
  stands-begun = StandsRule-may m root x.slots x.kept x.one name label rule d store.tables store.there may new 0

  site-own : (live : IsLiveRule m (rule_of name x.one.descriptor d)) → IsSite Has m root (record x { slots = placed.slots }) (rule_of name x.one.descriptor d) rule live.box later
  site-own live =
      let site = IsSite-placed Has m root x name label rule d old mid store may new (keeps_pages (rule_code rule)) d.root placed live in
      record { has = looks x.want placed.slots site.has; tables = site.tables; stand = site.stand; there = site.there; stands = site.stands; apart = site.apart }

  pages-own : (live : IsLiveRule m (rule_of name x.one.descriptor d)) → HasNewPages (record x { slots = placed.slots }) live.box (rule_of name x.one.descriptor d)
  pages-own live = HasNewPages-placed Has m x (rule_of name x.one.descriptor d) (rule_code rule) d.root mid placed new.entry.code refl live

  pub site-begun : (inst : Instance) → inst ≡ rule_of name x.one.descriptor d → (live : IsLiveRule m inst) → IsSite Has m root (record x { slots = placed.slots }) inst rule live.box later
  site-begun inst is live = subst (λ (i : Instance). (own : IsLiveRule m i) → IsSite Has m root (record x { slots = placed.slots }) i rule own.box later) (sym is) site-own live

  pub pages-begun : (inst : Instance) → inst ≡ rule_of name x.one.descriptor d → (live : IsLiveRule m inst) → HasNewPages (record x { slots = placed.slots }) live.box inst
  pages-begun inst is live = subst (λ (i : Instance). (own : IsLiveRule m i) → HasNewPages (record x { slots = placed.slots }) own.box i) (sym is) pages-own live

  begun-own : (live : IsLiveRule m (rule_of name x.one.descriptor d)) (box : Attachment) (after : S) → box ≡ live.box
      → Leaves Has d.owner x.want placed.slots after (HoldsFirst live.box (rule_of name x.one.descriptor d) rule (db_of x.kept))
      → HasBegun Has m root x (rule_of name x.one.descriptor d) rule live.box after
  begun-own live box after same left = HasBegun-prepared Has m root x (rule_of name x.one.descriptor d) rule live.box (keeps_pages (rule_code rule)) d.root mid later after placed (site-own live) may.joinless left

  pub begun-all : (inst : Instance) → inst ≡ rule_of name x.one.descriptor d → (live : IsLiveRule m inst) (after : S)
      → Leaves Has inst.owner x.want placed.slots after (HoldsFirst live.box inst rule (db_of x.kept)) → HasBegun Has m root x inst rule live.box after
  begun-all inst is live after =
      subst (λ (i : Instance). (own : IsLiveRule m i) → Leaves Has i.owner x.want placed.slots after (HoldsFirst own.box i rule (db_of x.kept)) → HasBegun Has m root x i rule own.box after) (sym is)
      (λ own left. begun-own own own.box after refl left) live

-- ---- by the calls that make it
-- an entry of a code, at a place
pub IsEntered-made : {S : Type 0} (Has : Wanted → Slots → S → Type 0) (label : Name) (rule : Rule) (code owner at : ℕ) (d : Attached) (old new : S) → code ≡ rule_code rule → IsEntryOf label rule d → d.owner ≡ owner
    → d.root ≡ at → OwnsPages (keeps_pages code) owner → ((want : Wanted) (s : Slots) → Has want s old → IsPlaced Has (keeps_pages code) want s owner at new) → IsEntered Has label rule d old new
IsEntered-made Has label rule code owner at d old new code_is entry owner_is root_is owns placed = record {
  entry = entry;
  owns = subst (λ (o : ℕ). OwnsPages (keeps_pages (rule_code rule)) o) (sym owner_is) (subst (λ (k : ℕ). OwnsPages (keeps_pages k) owner) code_is owns);
  placed = λ want s has.
      subst (λ (o : ℕ). IsPlaced Has (keeps_pages (rule_code rule)) want s o d.root new) (sym owner_is)
      (subst (λ (r : ℕ). IsPlaced Has (keeps_pages (rule_code rule)) want s owner r new) (sym root_is)
      (subst (λ (k : ℕ). IsPlaced Has (keeps_pages k) want s owner at new) code_is (placed want s has)));
}

pub law_of-code : (m : Meanings) (rule : Rule) (code : ℕ) → code ≡ rule_code rule → ((box : Attachment) → attachment_of code m.attachments ≡ Some box → IsAttachment box)
    → (box : Attachment) → attachment_of (rule_code rule) m.attachments ≡ Some box → IsAttachment box
law_of-code m rule code is law box live = law box (ap (λ (k : ℕ). attachment_of k m.attachments) is ∙ live)

module _ {S : Type 0} (Has : Wanted → Slots → S → Type 0) (m : Meanings) (root : ℕ) (x : Site) (name label : Name) (rule : Rule) (d : Attached) (old mid : S)
    (store : IsStore Has m root x name old) (may : MayAdd m (db_of x.kept) name label rule) (entered : IsEntered Has label rule d old mid) (counted : IsCountedRule (rule_code rule) rule)
    (law : (box : Attachment) → attachment_of (rule_code rule) m.attachments ≡ Some box → IsAttachment box) where
  new_entry : IsNewEntry m label rule d
  new_entry = record { entry = entered.entry; counted = counted; owns = entered.owns; law = law }

  placed_own : IsPlaced Has (keeps_pages (rule_code rule)) x.want x.slots d.owner d.root mid
  placed_own = entered.placed x.want x.slots store.has

  module _ (desc : Descriptor) (same : x.one.descriptor ≡ desc) where
    -- where it is tested, no page is called damaged
    pub test_sound : (e : SpaceFault)
        → ((want : Wanted) (s : Slots) (kept : List Kept) → Has want s mid → Tables m IsDurable root s kept → (a : Db.Attached) → StandsRule m (rule_of name desc d) a (db_of kept) → IsSound e) → IsSound e
    test_sound e sound =
        sound x.want placed_own.slots x.kept placed_own.has (tables-begun Has m root x name label rule d old mid mid store may new_entry placed_own (λ want s has. has)) (record { name = label; rule = rule; buckets = 0 })
        (subst (λ (q : Descriptor). StandsRule m (rule_of name q d) (record { name = label; rule = rule; buckets = 0 }) (db_of x.kept)) same
        (stands-begun Has m root x name label rule d old mid mid store may new_entry placed_own (λ want s has. has)))

    module _ (later after : S) (looks : (want : Wanted) (s : Slots) → Has want s mid → Has want s later) (inst : Instance) (is : inst ≡ rule_of name desc d) (live : IsLiveRule m inst) where
      inst_is : inst ≡ rule_of name x.one.descriptor d
      inst_is = is ∙ ap (λ (q : Descriptor). rule_of name q d) (sym same)

      -- its content is made
      pub prepared_begun : ((own : IsLiveRule m inst) (y : Site) (r : Rule) → IsSite Has m root y inst r own.box later → HasNewPages y own.box inst
          → Leaves Has inst.owner y.want y.slots after (HoldsFirst own.box inst r (db_of y.kept))) → HasBegun Has m root x inst rule live.box after
      prepared_begun prepared =
          begun-all Has m root x name label rule d old mid later store may new_entry placed_own looks inst inst_is live after
          (prepared live (record x { slots = placed_own.slots }) rule (site-begun Has m root x name label rule d old mid later store may new_entry placed_own looks inst inst_is live)
          (pages-begun Has m root x name label rule d old mid later store may new_entry placed_own looks inst inst_is live))

      -- or refused
      pub prepared_refused : (Fails : SpaceFault → S → S → Type 0) (e : SpaceFault)
          → ((own : IsLiveRule m inst) (y : Site) (r : Rule) → IsSite Has m root y inst r own.box later → HasNewPages y own.box inst → HasRefusalCause Fails (refusal_of e) after) → HasRefusalCause Fails (refusal_of e) after
      prepared_refused Fails e refused =
          refused live (record x { slots = placed_own.slots }) rule (site-begun Has m root x name label rule d old mid later store may new_entry placed_own looks inst inst_is live)
          (pages-begun Has m root x name label rule d old mid later store may new_entry placed_own looks inst inst_is live)

      -- where no page is left for it, none is left beside its owner
      pub prepared_short : (Leads : ℕ → S → S → Type 0) (e : SpaceFault)
          → ((own : IsLiveRule m inst) (y : Site) (r : Rule) → IsSite Has m root y inst r own.box later → HasNewPages y own.box inst → is_join r ≡ false
          → WhereShort e (IsShort y.slots inst.owner (bound_over (extensions_of m) (db_of y.kept) inst.relation r [])))
          → LeadsOn Leads later after → WhereShort e (IsShortBuilding Has Leads (extensions_of m) x name rule after)
      prepared_short Leads e full leads =
          let owner_is : inst.owner ≡ d.owner = ap (λ (i : Instance). i.owner) is in
          subst (λ (n : Name). WhereShort e (IsShortBuilding Has Leads (extensions_of m) x n rule after)) (ap (λ (i : Instance). i.relation) is)
          (short_own Has Leads m root x inst.relation rule inst.owner (bound_over (extensions_of m) (db_of x.kept) inst.relation rule []) later after placed_own.slots (looks x.want placed_own.slots placed_own.has)
          (record {
            is = subst IsOwner (sym owner_is) placed_own.is;
            none = λ n. ap (λ (o : ℕ). owned x.slots o n) owner_is ∙ placed_own.none n;
            others = λ o other two. placed_own.others o (λ same_owner. other (same_owner ∙ sym owner_is));
          })
          leads (inl (omega arith)) e
          (tables-begun Has m root x name label rule d old mid later store may new_entry placed_own looks)
          (full live (record x { slots = placed_own.slots }) rule (site-begun Has m root x name label rule d old mid later store may new_entry placed_own looks inst inst_is live)
          (pages-begun Has m root x name label rule d old mid later store may new_entry placed_own looks inst inst_is live) may.joinless))

      -- its owner and its content cost no more than the definitions charge for them
      pub prepared_charged : (Leads : ℕ → S → S → Type 0) → GoesOn Leads → LeadsWithin Leads (cond (keeps_pages (rule_code rule)) 2 0) old mid → Leads 0 mid later
          → ((own : IsLiveRule m inst) (y : Site) (r : Rule) → IsSite Has m root y inst r own.box later → HasNewPages y own.box inst
          → LeadsWithin Leads (own.box.cost Prepare (first_content own.box inst r (db_of y.kept)) (first_content own.box inst r (db_of y.kept))) later after)
          → LeadsWithin Leads (prepare_cost (extensions_of m) (schema_at (db_of x.kept) name) rule) old after
      prepared_charged Leads goes_on owner none costs =
          let db = db_of x.kept in
          let first = first_content live.box inst rule db in
          let site = site-begun Has m root x name label rule d old mid later store may new_entry placed_own looks inst inst_is live in
          let stands = site.stands in
          let columns : schema_at db name ≡ inst.schema =
          ap (λ (n : Name). schema_at db n) (sym (ap (λ (i : Instance). i.relation) is)) ∙ schema-own live.box inst rule db stands in
          let charged = first-is-charged m live.box inst db rule (live-by-rule m inst live rule db stands) live.law stands may.joinless in
          within_then Leads goes_on (cond (keeps_pages (rule_code rule)) 2 0) (live.box.cost Prepare first first) _ old mid after
          (omega (arith, charged, ap (λ (c : List Column). prepare_cost (extensions_of m) c rule) columns)) owner
          (LeadsWithin-on Leads (live.box.cost Prepare first first) mid later after goes_on none
          (costs live (record x { slots = placed_own.slots }) rule site (pages-begun Has m root x name label rule d old mid later store may new_entry placed_own looks inst inst_is live)))
