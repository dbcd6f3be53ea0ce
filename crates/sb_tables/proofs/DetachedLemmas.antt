-- What the pages keep once attachments or a relation have gone.
use Rattle.std.proofs.Common.{◌≡◌, ℕ, ◌+◌, Bool, true, false, not, cond, List, [], ◌∷◌, ◌++◌, map, Option, Some, None, option_map, All, refl, sym, ap, ◌∙◌, subst, bytes_eq}
use Rattle.std.specs.FinMap.Entries.{put}
use Rattle.std.proofs.lemmas.List.Elements.{All-map, All-weaker}
use Rattle.std.proofs.lemmas.Option.{same_Some}
use Rattle.sb_node.specs.Entries.{key_cmp}
use Rattle.sb_relation.specs.Db.{Attached, Name, Relation, Db, relation_at}
use Rattle.sb_rule.specs.declared.rule.Rule.{Rule}
use Rattle.sb_relation.specs.Build.{mirror_of}
use Rattle.sb_relation.specs.Fits.{other_relations}
use Rattle.sb_forms.specs.Maps.{map_in}
use Rattle.sb_forms.specs.Pages.{ArePages}
use Rattle.sb_fold.specs.Building.{bounds_at, without_attached, without_mirror, without_mirror_of, without_mirrors}
use Rattle.sb_fold.specs.Costs.{descriptor_cost}
use Rattle.sb_fold.specs.Extensions.{Extensions}
use Rattle.sb_fold.specs.Fold.{attachments_at}
use Rattle.sb_drive.specs.Slots.{Slots, owned}
use Rattle.sb_drive.specs.declared.space.SpaceFault.{SpaceFault}
use Rattle.sb_drive.specs.Spaces.{IsRefused, LeadsWithin, Leaves, Wanted}
use Rattle.sb_engine.specs.Place.{Place}
use Rattle.sb_engine.specs.Maps.{Becomes}
use Rattle.sb_standing.specs.Removes.{entries_without}
use Rattle.sb_registry.specs.Boxes.{Meanings}
use Rattle.sb_registry.specs.Runs.{IsSound}
use Rattle.sb_catalog.specs.declared.descriptor.Attached as code
use Rattle.sb_catalog.specs.declared.descriptor.Descriptor.{Descriptor}
use Rattle.sb_catalog.specs.Descriptors.{descriptor_spelling, described, standing}
use Rattle.sb_standing.specs.Instances.{owners_of}
use Rattle.sb_standing.specs.Standing.{IsApartFrom, IsOwner, StandRules, detached_kept, owners_in, owners_named, without_described}
use Rattle.sb_standing.specs.Tables.{Kept, KeepsTable, Tables, db_of, entry_of, kept_at, put_kept, without_kept}
use Rattle.sb_standing.proofs.DetachLemmas.{Keeps-detached}
use Rattle.sb_standing.proofs.FrameLemmas.{All-right, All-unmap}
use Rattle.sb_standing.proofs.KeptLemmas.{kept_at-name, kept_at-all, relation_at-none, relation_at-there}
use Rattle.sb_standing.proofs.PutLemmas.{All-own, All-put, All-without, db_of-put, db_of-without}
use Rattle.sb_standing.proofs.RelationLemmas.{Keeps-dropped}
use Rattle.sb_deferred.proofs.RelationLemmas.{attachments_of}
use Rattle.sb_engine.specs.Opened.{IsDurable}
use Rattle.sb_engine.specs.Refusals.{HasRefusalCause, refusal_of}
use Rattle.sb_engine.specs.Working.{IsLasting, extensions_of}
use Rattle.sb_engine.proofs.RefusedLemmas.{refused_cause}
use Rattle.sb_standing.proofs.StandLemmas.{StandRules-keeps}
use Rattle.sb_engine.specs.Beside.{AreWithin}
use Rattle.sb_engine.specs.Measures.{AreHeld, IsWithin}
use Rattle.sb_engine.proofs.Measuring.{held-alike, held-append, held_within}
use Rattle.sb_tables.specs.Keeping.{KeepsDb, KeepsWithin}
use Rattle.sb_tables.specs.Removal.{IsUnnamedIn, mirror_bounds, mirrors_bounds, mirrors_bounds_of, mirrors_cost, taken_bounds, without_mirrors_of, without_name}
use Rattle.sb_tables.proofs.TakenLemmas.{dropped-pages, gone-stay, taken-pages}
use Rattle.sb_tables.proofs.WithinLemmas.{within-detached}
use Rattle.sb_tables.proofs.WithoutLemmas.{without_in}

-- ---- a relation that was opened, or that isn't there
-- it is kept with this descriptor
pub record HasKept (kept : List Kept) (name : Name) (d : Descriptor) : Type 0 where
  pub one : Kept
  pub at : kept_at kept name ≡ Some one
  pub same : one.descriptor ≡ d

pub has_kept : (kept : List Kept) (name : Name) (d : Descriptor) → Some d ≡ option_map (λ (k : Kept). k.descriptor) (kept_at kept name) → HasKept kept name d
has_kept kept name d is = of_kept (kept_at kept name) refl is
  where
    of_kept : (o : Option Kept) → kept_at kept name ≡ o → Some d ≡ option_map (λ (k : Kept). k.descriptor) o → HasKept kept name d
    of_kept None at is = absurd (cc)
    of_kept (Some k) at is = record { one = k; at = at; same = sym (same_Some d k.descriptor is) }

pub not_kept : (kept : List Kept) (name : Name) → ◌≡◌ {A = Option Descriptor} None (option_map (λ (k : Kept). k.descriptor) (kept_at kept name)) → kept_at kept name ≡ None
not_kept kept name is = of_kept (kept_at kept name) refl is
  where
    of_kept : (o : Option Kept) → kept_at kept name ≡ o → ◌≡◌ {A = Option Descriptor} None (option_map (λ (k : Kept). k.descriptor) o) → kept_at kept name ≡ None
    of_kept None at is = at
    of_kept (Some k) at is = absurd (cc)

-- more pages may be held aside
pub keeps-more : {S : Type 0} (Has : Wanted → Slots → S → Type 0) (m : Meanings) (root : ℕ) (gone aside more : List ℕ) (db : Db) (space : S) → IsWithin aside more
    → KeepsDb Has m root gone aside db space → KeepsDb Has m root gone more db space
keeps-more Has m root gone aside more db space less keeps = record {
  want = keeps.want;
  slots = keeps.slots;
  kept = keeps.kept;
  has = keeps.has;
  is = keeps.is;
  keeps = keeps.keeps;
  lasting = keeps.lasting;
  held = held_within keeps.slots gone aside more less keeps.held;
}

pub within-more : {S : Type 0} (Has : Wanted → Slots → S → Type 0) (m : Meanings) (root : ℕ) (gone aside more : List ℕ) (most : ℕ) (db : Db) (space : S) → IsWithin aside more
    → KeepsWithin Has m root gone aside most db space → KeepsWithin Has m root gone more most db space
unfolding keeps-more
within-more Has m root gone aside more most db space less holds = record { keeps = keeps-more Has m root gone aside more db space less holds.keeps; within = holds.within }

-- a call that looks leaves it
pub within-later : {S : Type 0} (Has : Wanted → Slots → S → Type 0) (m : Meanings) (root : ℕ) (gone aside : List ℕ) (most : ℕ) (db : Db) (old mid : S)
    → (holds : KeepsWithin Has m root gone aside most db old) → Has holds.keeps.want holds.keeps.slots mid → KeepsWithin Has m root gone aside most db mid
within-later Has m root gone aside most db old mid holds later = record {
  keeps = record {
    want = holds.keeps.want;
    slots = holds.keeps.slots;
    kept = holds.keeps.kept;
    has = later;
    is = holds.keeps.is;
    keeps = holds.keeps.keeps;
    lasting = holds.keeps.lasting;
    held = holds.keeps.held;
  };
  within = holds.within;
}

module _ {S : Type 0} (Has : Wanted → Slots → S → Type 0) (m : Meanings) (root : ℕ) (gone aside : List ℕ) (db : Db) (old mid new : S) (keeps : KeepsDb Has m root gone aside db old) where
  -- so it is of the database alone
  pub keeps-later : ((want : Wanted) (s : Slots) → Has want s old → Has want s mid) → KeepsDb Has m root gone aside db mid
  keeps-later later =
      record { want = keeps.want; slots = keeps.slots; kept = keeps.kept; has = later keeps.want keeps.slots keeps.has; is = keeps.is; keeps = keeps.keeps; lasting = keeps.lasting; held = keeps.held }

  -- ---- attachments of a name
  pub is_detached : (relation label : Name) (k : Kept) → kept_at keeps.kept relation ≡ Some k → without_attached db relation label ≡ db_of (put_kept (detached_kept label k) keeps.kept)
  is_detached relation label k at =
      ap (λ (x : Db). without_attached x relation label) keeps.is
      ∙ ap (λ (o : Option Relation). without_in (db_of keeps.kept) relation label o) (relation_at-there keeps.kept relation k at)
      ∙ ap (λ (n : Name). without_in (db_of keeps.kept) n label (Some k.relation)) (sym (kept_at-name keeps.kept relation k at))
      ∙ sym (db_of-put (detached_kept label k) keeps.kept)

  pub detached : (relation label : Name) (d : Descriptor) (most : ℕ) → AreWithin keeps.slots keeps.kept gone most → HasKept keeps.kept relation d
      → Leaves Has 2 keeps.want keeps.slots new
      (λ after. map_in root after ≡ Some (put key_cmp relation (descriptor_spelling (record d { attachments = without_described label d.attachments })) (map entry_of keeps.kept)))
      → ((o : ℕ) → ArePages (owned keeps.slots o))
      → KeepsWithin Has m root (gone ++ owners_named label d) (aside ++ taken_bounds (extensions_of m) db relation label) most (without_attached db relation label) new
  detached relation label d most within it left pages =
      let k = it.one in
      let named = kept_at-name keeps.kept relation k it.at in
      let there : kept_at keeps.kept k.name ≡ Some k = ap (λ (n : Name). kept_at keeps.kept n) named ∙ it.at in
      let Tree : Name → Descriptor → Type 0 = λ n x.
      map_in root (owned left.slots 2) ≡ Some (put key_cmp n (descriptor_spelling (record x { attachments = without_described label x.attachments })) (map entry_of keeps.kept)) in
      let is = is_detached relation label k it.at in
      let own = Keeps-detached m IsDurable root keeps.slots left.slots gone keeps.kept k label keeps.keeps (record {
        there = there;
        others = left.others;
        catalogue = subst (λ (n : Name). Tree n k.descriptor) (sym named) (subst (λ (x : Descriptor). Tree relation x) (sym it.same) left.own);
      }) in
      subst (λ (x : Descriptor). KeepsWithin Has m root (gone ++ owners_named label x) (aside ++ taken_bounds (extensions_of m) db relation label) most (without_attached db relation label) new) it.same (record {
        keeps = record {
          want = keeps.want;
          slots = left.slots;
          kept = put_kept (detached_kept label k) keeps.kept;
          has = left.has;
          is = is;
          keeps = own;
          held = held-alike keeps.slots left.slots (gone ++ owners_named label k.descriptor) (aside ++ taken_bounds (extensions_of m) db relation label)
              (λ f. gone-stay f keeps.slots left.slots (gone ++ owners_named label k.descriptor)
              (All-right IsOwner (owners_in (put_kept (detached_kept label k) keeps.kept)) (gone ++ owners_named label k.descriptor) own.own.each) left.others)
              (held-append keeps.slots gone (owners_named label k.descriptor) aside (taken_bounds (extensions_of m) db relation label) keeps.held
              (subst (λ (x : Db). AreHeld keeps.slots (owners_named label k.descriptor) (taken_bounds (extensions_of m) x relation label)) (sym keeps.is)
              (taken-pages m root keeps.slots gone keeps.kept keeps.keeps pages relation k it.at label)));
          lasting = All-map IsLasting (λ (x : Kept). x.descriptor) (put_kept (detached_kept label k) keeps.kept)
              (All-put (λ (x : Kept). IsLasting x.descriptor) (detached_kept label k) keeps.kept
              (kept_at-all (λ (x : Kept). IsLasting x.descriptor) keeps.kept relation k (All-unmap IsLasting (λ (x : Kept). x.descriptor) keeps.kept keeps.lasting) it.at)
              (All-unmap IsLasting (λ (x : Kept). x.descriptor) keeps.kept keeps.lasting));
        };
        within = within-detached keeps.slots left.slots gone keeps.kept k label most keeps.keeps.tables.rising there own.own.each left.others within;
      })

  -- of a relation that isn't there
  pub none_detached : (relation label : Name) → kept_at keeps.kept relation ≡ None → without_attached db relation label ≡ db
  none_detached relation label none =
      ap (λ (x : Db). without_attached x relation label) keeps.is
      ∙ ap (λ (o : Option Relation). without_in (db_of keeps.kept) relation label o) (relation_at-none keeps.kept relation none) ∙ sym keeps.is

  pub none_mirrored : (name : Name) → kept_at keeps.kept name ≡ None → without_mirrors name (attachments_at db name) db ≡ db
  none_mirrored name none =
      ap (λ (items : List Attached). without_mirrors name items db) (ap attachments_of (ap (λ (x : Db). relation_at x name) keeps.is ∙ relation_at-none keeps.kept name none))

  -- ---- mirrors, as a descriptor has the attachments
  pub mirrors-kept : (name : Name) (d : Descriptor) → HasKept keeps.kept name d → without_mirrors_of name d.attachments db ≡ without_mirrors name (attachments_at db name) db
  mirrors-kept name d it =
      let is = kept_at-all (KeepsTable m IsDurable keeps.slots) keeps.kept name it.one keeps.keeps.tables.each it.at in
      ap (λ (x : Descriptor). without_mirrors_of name x.attachments db) (sym it.same) ∙ same it.one.descriptor.attachments it.one.relation.attachments db is.is.attachments
      ∙ ap (λ (items : List Attached). without_mirrors name items db)
      (sym (ap attachments_of (ap (λ (x : Db). relation_at x name) keeps.is ∙ relation_at-there keeps.kept name it.one it.at)))
    where
      same : (ds : List code.Attached) (items : List Attached) (x : Db) → map described ds ≡ map standing items → without_mirrors_of name ds x ≡ without_mirrors name items x
      same [] [] x is = refl
      same [] (a ∷ items) x is = absurd (cc)
      same (d ∷ ds) [] x is = absurd (cc)
      same (d ∷ ds) (a ∷ items) x is =
          let one : described d ≡ standing a = cc in
          let rest : map described ds ≡ map standing items = cc in
          ap (λ t. without_mirrors_of name ds (without_mirror name t.1 (mirror_of name t.2) x)) one ∙ same ds items _ rest

  -- so is what is held aside for them
  pub mirrors-held : (name : Name) (d : Descriptor) → HasKept keeps.kept name d
      → mirrors_bounds_of (extensions_of m) name d.attachments db ≡ mirrors_bounds (extensions_of m) name (attachments_at db name) db
  mirrors-held name d it =
      let is = kept_at-all (KeepsTable m IsDurable keeps.slots) keeps.kept name it.one keeps.keeps.tables.each it.at in
      ap (λ (x : Descriptor). mirrors_bounds_of ext name x.attachments db) (sym it.same) ∙ same it.one.descriptor.attachments it.one.relation.attachments db is.is.attachments
      ∙ ap (λ (items : List Attached). mirrors_bounds ext name items db)
      (sym (ap attachments_of (ap (λ (x : Db). relation_at x name) keeps.is ∙ relation_at-there keeps.kept name it.one it.at)))
    where
      ext : Extensions
      ext = extensions_of m

      same : (ds : List code.Attached) (items : List Attached) (x : Db) → map described ds ≡ map standing items → mirrors_bounds_of ext name ds x ≡ mirrors_bounds ext name items x
      same [] [] x is = refl
      same [] (a ∷ items) x is = absurd (cc)
      same (d ∷ ds) [] x is = absurd (cc)
      same (d ∷ ds) (a ∷ items) x is =
          let one : described d ≡ standing a = cc in
          let rest : map described ds ≡ map standing items = cc in
          ap (λ t. mirror_bounds ext name t.1 (mirror_of name t.2) x ++ mirrors_bounds_of ext name ds (without_mirror name t.1 (mirror_of name t.2) x)) one
          ∙ ap (λ (l : List ℕ). mirror_bounds ext name a.name (mirror_of name a.rule) x ++ l) (same ds items (without_mirror_of name a x) rest)

  -- ---- the relation
  pub dropped : (place : Place) (name : Name) (d : Descriptor) → place.owner ≡ 2 → place.root ≡ root → HasKept keeps.kept name d → IsUnnamedIn db name
      → Has keeps.want keeps.slots mid → Becomes Has place mid new (entries_without name) → ((o : ℕ) → ArePages (owned keeps.slots o))
      → KeepsDb Has m root (gone ++ owners_of d) (aside ++ bounds_at (extensions_of m) db name) (without_name db name) new
  dropped place name d owner top it unnamed has becomes pages =
      let k = it.one in
      let read : map_in place.root (owned keeps.slots place.owner) ≡ Some (map entry_of keeps.kept) =
      ap (λ (o : ℕ). map_in place.root (owned keeps.slots o)) owner ∙ ap (λ (r : ℕ). map_in r (owned keeps.slots 2)) top ∙ keeps.keeps.tables.catalogue in
      let left = becomes keeps.want keeps.slots (map entry_of keeps.kept) has read in
      let own = Keeps-dropped m IsDurable root keeps.slots left.slots gone keeps.kept name k keeps.keeps (record {
        there = it.at;
        unnamed = All-weaker (λ (x : Kept). kept_at keeps.kept x.name ≡ Some x) (λ (x : Kept). bytes_eq x.name name ≡ false → IsApartFrom name x)
            (λ x at other. subst (λ (items : List Attached). All (λ a. All (λ n. bytes_eq n name ≡ false) (other_relations a.rule)) items)
            (ap attachments_of (ap (λ (y : Db). relation_at y x.name) keeps.is ∙ relation_at-there keeps.kept x.name x at)) (unnamed x.name other)) keeps.kept
            (All-own keeps.kept keeps.keeps.tables.rising);
        others = λ o two. left.others o (λ same. two (same ∙ owner));
        catalogue = ap (λ (r : ℕ). map_in r (owned left.slots 2)) (sym top) ∙ ap (λ (o : ℕ). map_in place.root (owned left.slots o)) (sym owner) ∙ left.own;
      }) in
      subst (λ (x : Descriptor). KeepsDb Has m root (gone ++ owners_of x) (aside ++ bounds_at (extensions_of m) db name) (without_name db name) new) it.same (record {
        want = keeps.want;
        slots = left.slots;
        kept = without_kept name keeps.kept;
        has = left.has;
        is = ap (λ (x : Db). without_name x name) keeps.is ∙ sym (db_of-without name keeps.kept);
        keeps = own;
        held = held-alike keeps.slots left.slots (gone ++ owners_of k.descriptor) (aside ++ bounds_at (extensions_of m) db name)
            (λ f. gone-stay f keeps.slots left.slots (gone ++ owners_of k.descriptor)
            (All-right IsOwner (owners_in (without_kept name keeps.kept)) (gone ++ owners_of k.descriptor) own.own.each)
            (λ o two. left.others o (λ same. two (same ∙ owner))))
            (held-append keeps.slots gone (owners_of k.descriptor) aside (bounds_at (extensions_of m) db name) keeps.held
            (subst (λ (x : Db). AreHeld keeps.slots (owners_of k.descriptor) (bounds_at (extensions_of m) x name)) (sym keeps.is)
            (dropped-pages m root keeps.slots gone keeps.kept keeps.keeps pages name k it.at)));
        lasting = All-map IsLasting (λ (x : Kept). x.descriptor) (without_kept name keeps.kept)
            (All-weaker (λ (x : Kept). (bytes_eq x.name name ≡ false) × IsLasting x.descriptor) (λ (x : Kept). IsLasting x.descriptor) (λ x both. both.1) (without_kept name keeps.kept)
            (All-without (λ (x : Kept). IsLasting x.descriptor) name keeps.kept (All-unmap IsLasting (λ (x : Kept). x.descriptor) keeps.kept keeps.lasting)));
      })

  -- without a relation that isn't there it is the same
  pub none_dropped : (name : Name) → kept_at keeps.kept name ≡ None → without_name db name ≡ db
  none_dropped name none =
      ap (λ (x : Db). without_name x name) keeps.is ∙ sym (db_of-without name keeps.kept) ∙ ap db_of (all_left keeps.kept none) ∙ sym keeps.is
    where
      all_left : (kept : List Kept) → kept_at kept name ≡ None → without_kept name kept ≡ kept
      all_left [] none = refl
      all_left (k ∷ kept) none = of_test (bytes_eq k.name name) none (all_left kept)
        where
          of_test : (b : Bool) → cond b (Some k) (kept_at kept name) ≡ None → (kept_at kept name ≡ None → without_kept name kept ≡ kept)
              → cond (not b) (k ∷ without_kept name kept) (without_kept name kept) ≡ k ∷ kept
          of_test true is rest = absurd (cc)
          of_test false is rest = ap (λ (l : List Kept). k ∷ l) (rest is)

-- ---- the mirror of a rule, by the relation that has it
pub mirrored-none : (o : Option (Name × Rule)) → None ≡ option_map (λ (m : Name × Rule). m.0) o → o ≡ None
mirrored-none None is = refl
mirrored-none (Some m) is = absurd (cc)

pub mirrored-some : (o : Option (Name × Rule)) (other : Name) → Some other ≡ option_map (λ (m : Name × Rule). m.0) o → (rule : Rule) × (o ≡ Some (other, rule))
mirrored-some None other is = absurd (cc)
mirrored-some (Some (n, rule)) other is = (rule, ap (λ (x : Name). Some (x, rule)) (sym (same_Some other n is)))

-- ---- a relation that is opened
pub open_refused : {S : Type 0} (Has : Wanted → Slots → S → Type 0) (Fails : SpaceFault → S → S → Type 0) (Same : Type 0) (m : Meanings) (root : ℕ) (gone aside : List ℕ) (db : Db) (old new : S) (e : SpaceFault)
    → IsRefused Same (Fails e old new) e
    → ((want : Wanted) (s : Slots) (kept : List Kept) → Has want s old → Tables m IsDurable root s kept → StandRules m IsDurable (db_of kept) kept → IsSound e)
    → KeepsDb Has m root gone aside db old → HasRefusalCause Fails (refusal_of e) new
open_refused Has Fails Same m root gone aside db old new e refused sound keeps =
    refused_cause Fails Same old new e refused
    (sound keeps.want keeps.slots keeps.kept keeps.has keeps.keeps.tables (StandRules-keeps m IsDurable root keeps.slots gone keeps.kept keeps.keeps))

-- ---- while mirrors go
-- the mirrors of these attachments are to go still, and what they need is to be held aside; no more was changed than those cost that have gone
pub record KeepsRest {S : Type 0} (Has : Wanted → Slots → S → Type 0) (Leads : ℕ → S → S → Type 0) (m : Meanings) (root : ℕ) (gone aside : List ℕ) (most : ℕ) (name : Name)
    (ds : List code.Attached) (end : Db) (entry total : ℕ) (first space : S) : Type 0 where
  pub held : List ℕ
  pub now : Db
  pub keeps : KeepsWithin Has m root gone held most now space
  pub is : without_mirrors_of name ds now ≡ end
  pub all : held ++ mirrors_bounds_of (extensions_of m) name ds now ≡ aside
  pub cost : descriptor_cost (extensions_of m) now ≡ entry
  pub done : ℕ
  pub leads : LeadsWithin Leads done first space
  pub left : done + mirrors_cost entry name ds ≡ total
