-- What stands with a new relation.
use Rattle.std.proofs.Common.{◌≡◌, ℕ, ◌+◌, ◌<◌, ◌≤◌, ◌==◌, Bool, true, false, cond, nat_lt, List, [], length, map, Option, Some, None, All, inr, refl, sym, ap, ◌∙◌, subst, arith, eqb-true, bytes_eq}
use Rattle.std.specs.List.{find}
use Rattle.std.specs.FinMap.Entries.{put}
use Rattle.std.proofs.lemmas.List.Elements.{All-nil, All-same, All-map, All-weaker}
use Rattle.sb_value.specs.declared.schema.Kind.{Kind}
use Rattle.sb_value.specs.declared.schema.Kind.TheVariants.{Int, Text}
use Rattle.sb_value.specs.declared.schema.Column.{Column}
use Rattle.sb_value.specs.Equal.{bytes_same}
use Rattle.sb_pred.specs.Spelling.{IsStorableName}
use Rattle.sb_rule.specs.declared.rule.Rule.{Rule}
use Rattle.sb_rule.specs.Spelling.{IsShortName}
use Rattle.sb_node.specs.Entries.{Entry, key_cmp}
use Rattle.sb_relation.specs.Build.{main_of, mirror_name, mirror_of}
use Rattle.sb_relation.specs.Db.{Name, Attached, Relation, Db, relation_at, with_relation}
use Rattle.sb_relation.specs.Fits.{MayKeep}
use Rattle.sb_forms.specs.Pages.{Pages}
use Rattle.sb_forms.specs.Maps.{map_in}
use Rattle.sb_ctx.specs.Laws.{IsMethod}
use Rattle.sb_ctx.specs.Method.{Method}
use Rattle.sb_fold.specs.Building.{rule_at, HasMirror}
use Rattle.sb_ctx.specs.declared.calls.MethodCall.TheVariants.{Prepare}
use Rattle.sb_fold.specs.Costs.{create_cost, descriptor_cost, foreign_method_prepare, tree_cost}
use Rattle.sb_fold.specs.Extensions.{method_room}
use Rattle.sb_fold.specs.Fold.{attachments_at}
use Rattle.sb_drive.specs.declared.space.SpaceFault.{SpaceFault}
use Rattle.sb_drive.specs.Slots.{Slots, owned}
use Rattle.sb_drive.specs.Spaces.{LeadsWithin, Leaves, Wanted}
use Rattle.sb_drive.proofs.SpacesLemmas.{LeadsWithin-more}
use Rattle.sb_registry.specs.Boxes.{Meanings, method_of}
use Rattle.sb_registry.specs.Live.{IsLive}
use Rattle.sb_owners.specs.Instances.{HasCome}
use Rattle.sb_standing.specs.Live.{IsNewIn, LeavesRows}
use Rattle.sb_catalog.specs.declared.descriptor.Descriptor.{Descriptor}
use Rattle.sb_catalog.specs.Descriptors.{IsConsistent, IsLimit, IsShortDescriptor, IsStorableColumn, IsStorableDescriptor, descriptor_spelling}
use Rattle.sb_catalog.proofs.Described.{is_as_long}
use Rattle.sb_engine.specs.Changes.{IsSmall}
use Rattle.sb_standing.specs.Instances.{table_instance}
use Rattle.sb_standing.specs.Standing.{owners_in}
use Rattle.sb_standing.specs.Tables.{Kept, entry_of, put_kept}
use Rattle.sb_standing.proofs.FrameLemmas.{All-unmap}
use Rattle.sb_standing.proofs.KeptLemmas.{kept_at-no_relation}
use Rattle.sb_standing.proofs.PagesLemmas.{HasRows-pages}
use Rattle.sb_standing.proofs.PutLemmas.{All-put, db_of-put}
use Rattle.sb_standing.proofs.RelationLemmas.{Keeps-created}
use Rattle.sb_deferred.specs.Complete.{AreMirrored}
use Rattle.sb_deferred.proofs.RelationLemmas.{all_found, attachments_of, relation_other, relation_same}
use Rattle.sb_engine.specs.Opened.{IsDurable}
use Rattle.sb_engine.specs.Refusals.{HasRefusalCause, refusal_of}
use Rattle.sb_engine.specs.Working.{ArePaired, HasMainOf, IsLasting, extensions_of}
use Rattle.sb_engine.proofs.Charged.{prepare-is-charged}
use Rattle.sb_engine.proofs.Meant.{outlives}
use Rattle.sb_tables.specs.Creation.{AreShort, MayCreate, new_descriptor, new_kept, new_relation}
use Rattle.sb_tables.specs.Keeping.{KeepsDb}
use Rattle.sb_engine.proofs.Measuring.{held-alike}
use Rattle.sb_tables.proofs.SpendingLemmas.{entry_enough}
use Rattle.sb_tables.proofs.TakenLemmas.{gone-beside}

-- ---- pairs
module _ (db : Db) (name : Name) (r : Relation) (new : relation_at db name ≡ None) (bare : r.attachments ≡ []) where
  not_there : (o l : Name) (b : Attached) → bytes_eq o name ≡ true → rule_at db o l ≡ Some b → ⊥
  not_there o l b is at = none_some (sym none ∙ at)
    where
      none : rule_at db o l ≡ None
      none =
          ap (λ (x : Option Relation). find (λ (a : Attached). bytes_eq a.name l) (attachments_of x)) (ap (λ (n : Name). relation_at db n) ((bytes_same o name).0 is) ∙ new)

      none_some : ◌≡◌ {A = Option Attached} None (Some b) → ⊥
      none_some e = cc

  -- an attachment is found as before
  still : (o l : Name) (b : Attached) → rule_at db o l ≡ Some b → rule_at (with_relation db name r) o l ≡ Some b
  still o l b at = of_name (bytes_eq o name) refl
    where
      of_name : (t : Bool) → bytes_eq o name ≡ t → rule_at (with_relation db name r) o l ≡ Some b
      of_name true is = absurd (not_there o l b is at)
      of_name false other = ap (λ (x : Option Relation). find (λ (a : Attached). bytes_eq a.name l) (attachments_of x)) (relation_other db name r o other) ∙ at

  none_in : (n : Name) → bytes_eq n name ≡ true → attachments_at (with_relation db name r) n ≡ []
  none_in n is = ap (λ (x : Name). attachments_at (with_relation db name r) x) ((bytes_same n name).0 is) ∙ ap attachments_of (relation_same db name r) ∙ bare

  as_before : (n : Name) → bytes_eq n name ≡ false → attachments_at (with_relation db name r) n ≡ attachments_at db n
  as_before n other = ap attachments_of (relation_other db name r n other)

  -- what each attachment keeps with it, all keep
  all_still : (Had Has : Name → Attached → Type 0) → ((n : Name) (a : Attached) → Had n a → Has n a) → ((n : Name) → All (Had n) (attachments_at db n))
      → (n : Name) → All (Has n) (attachments_at (with_relation db name r) n)
  all_still Had Has keeps all n = of_name (bytes_eq n name) refl
    where
      of_name : (t : Bool) → bytes_eq n name ≡ t → All (Has n) (attachments_at (with_relation db name r) n)
      of_name true is = All-same (Has n) (attachments_at (with_relation db name r) n) [] (none_in n is) (All-nil (Has n))
      of_name false other =
          All-same (Has n) (attachments_at (with_relation db name r) n) (attachments_at db n) (as_before n other) (All-weaker (Had n) (Has n) (keeps n) (attachments_at db n) (all n))

  pub mirrored-with : AreMirrored db → AreMirrored (with_relation db name r)
  mirrored-with mirrored =
      all_still (λ n a. HasMirror db (mirror_name n a.name) (mirror_of n a.rule)) (λ n a. HasMirror (with_relation db name r) (mirror_name n a.name) (mirror_of n a.rule))
      (λ n a had. of_mirror (mirror_name n a.name) (mirror_of n a.rule) had) mirrored
    where
      of_mirror : (label : Name) (x : Option (Name × Rule)) → HasMirror db label x → HasMirror (with_relation db name r) label x
      of_mirror label None had = tt
      of_mirror label (Some (o, mirror)) had = (had.0, still o label had.0 had.1, had.2)

  pub paired-with : ArePaired db → ArePaired (with_relation db name r)
  paired-with paired =
      all_still (λ n a. HasMainOf db a (main_of n a.rule)) (λ n a. HasMainOf (with_relation db name r) a (main_of n a.rule)) (λ n a had. of_main a (main_of n a.rule) had) paired
    where
      of_main : (a : Attached) (x : Option (Name × Rule)) → HasMainOf db a x → HasMainOf (with_relation db name r) a x
      of_main a None had = tt
      of_main a (Some (o, main)) had = record { main = had.main; at = still o had.main.name had.main had.at; is = had.is; named = had.named }

-- ---- its parts
of_limit : (kind : Kind) (limit : ℕ) → IsLimit kind limit → kind ≡ Int → limit ≡ 0
of_limit Int limit is same = is
of_limit Text limit is same = absurd (cc)

module _ (m : Meanings) (db : Db) (name : Name) (method owner top : ℕ) (schema : List Column) (key : List Name) (may : MayCreate m db name method schema key) where
  pub are-short : AreShort schema key
  are-short = record {
    columns = (may.columns.0, All-weaker IsStorableColumn (λ c. IsShortName c.name) (λ c storable. storable.0.1) schema may.columns.1);
    names = (may.names.0, All-weaker IsStorableName IsShortName (λ n storable. storable.1) key may.names.1);
  }

  pub consistent-new : IsConsistent (new_descriptor method owner top schema key)
  consistent-new = record {
    limits = All-weaker IsStorableColumn (λ c. c.kind ≡ Int → c.limit ≡ 0) (λ c storable. of_limit c.kind c.limit storable.1) schema may.columns.1;
    codes = All-nil _;
  }

  pub small-new : IsSmall name (descriptor_spelling (new_descriptor method owner top schema key))
  small-new =
      let long = is_as_long (new_relation method schema key) (new_descriptor method owner top schema key) (record { method = refl; schema = refl; key = refl; attachments = refl }) in
      let small : length (descriptor_spelling (new_descriptor method owner top schema key)) ≤ 1900 = subst (λ (n : ℕ). n ≤ 1900) (sym long) may.small in
      let short : length name ≤ 100 = may.short in
      record { short = omega arith; both = omega arith }

  pub is_live-new : 2 < owner → ((box : Method) → method_of method m.methods ≡ Some box → IsMethod box) → IsLive m (table_instance true name (new_descriptor method owner top schema key))
  is_live-new high law = record {
    box = may.box;
    live = may.live;
    may = record {
      code = sym code;
      durable = sym may.durable;
      desc = refl;
      owned = λ none. absurd (omega (arith, high, none));
      may = subst (λ (c : ℕ). MayKeep (Some may.box.rules) c schema key) (sym code) may.keeps;
    };
    law = law may.box may.live;
  }
    where
      code : may.box.rules.code ≡ method
      code =
          eqb-true may.box.rules.code method (all_found {A = Method} (λ x. Unit {0}) (λ x. x.rules.code == method) m.methods may.box (λ k d below. tt) may.live).1

-- the descriptor of short lists is short
pub short-new : (method owner top : ℕ) (schema : List Column) (key : List Name) → AreShort schema key → IsShortDescriptor (new_descriptor method owner top schema key)
short-new method owner top schema key short = record { columns = short.columns; key = short.names; attachments = (lit_le, All-nil _) }
  where
    lit_le : 0 ≤ 255
    lit_le = omega arith

-- ---- its pages and its entry
module _ {S : Type 0} (Has : Wanted → Slots → S → Type 0) (m : Meanings) (root : ℕ) (gone aside : List ℕ) (db : Db) (name : Name) (method owner top : ℕ) (schema : List Column) (key : List Name)
    (old mid late new : S) (keeps : KeepsDb Has m root gone aside db old) (may : MayCreate m db name method schema key) (high : 2 < owner)
    (come : HasCome Has keeps.want keeps.slots owner top mid) where
  two : ◌≡◌ {A = ℕ} 2 owner → ⊥
  two is = omega (arith, high, is)

  two-back : owner ≡ 2 → ⊥
  two-back is = omega (arith, high, is)

  pub new-in : IsNewIn come.slots (table_instance true name (new_descriptor method owner top schema key))
  new-in n = ap (λ (P : Pages). P n) come.pages

  module _ (rows : LeavesRows Has m (table_instance true name (new_descriptor method owner top schema key)) keeps.want come.slots late []) where
    pub entries-late : map_in root (owned rows.slots 2) ≡ Some (map entry_of keeps.kept)
    entries-late = ap (λ (P : Pages). map_in root P) (rows.others 2 two ∙ come.others 2 two) ∙ keeps.keeps.tables.catalogue

    pub created : IsStorableDescriptor (new_descriptor method owner top schema key)
        → Leaves Has 2 keeps.want rows.slots new
        (λ after. map_in root after ≡ Some (put key_cmp name (descriptor_spelling (new_descriptor method owner top schema key)) (map entry_of keeps.kept)))
        → KeepsDb Has m root gone aside (with_relation db name (new_relation method schema key)) new
    created storable left =
        let k = new_kept name method owner top schema key in
        record {
          want = keeps.want;
          slots = left.slots;
          kept = put_kept k keeps.kept;
          has = left.has;
          is = ap (λ (d : Db). with_relation d name (new_relation method schema key)) keeps.is ∙ sym (db_of-put k keeps.kept);
          keeps = Keeps-created m IsDurable root keeps.slots left.slots gone keeps.kept k keeps.keeps (record {
            new = kept_at-no_relation keeps.kept name (ap (λ (d : Db). relation_at d name) (sym keeps.is) ∙ may.new);
            rows = refl;
            attachments = refl;
            is = record { method = refl; schema = refl; key = refl; attachments = refl };
            storable = storable;
            named = may.named;
            wide = may.wide;
            comes = record { is = inr high; none = come.none; others = λ o apart second. left.others o second ∙ rows.others o apart ∙ come.others o apart };
            has = HasRows-pages m rows.slots left.slots (table_instance true name (new_descriptor method owner top schema key)) [] (left.others owner two-back) rows.own;
            catalogue = left.own;
          });
          held = held-alike keeps.slots left.slots gone aside
              (λ f. gone-beside f keeps.slots left.slots (owners_in keeps.kept) gone owner come.none keeps.keeps.own
              (λ o apart second. left.others o second ∙ rows.others o apart ∙ come.others o apart)) keeps.held;
          lasting = All-map IsLasting (λ (x : Kept). x.descriptor) (put_kept k keeps.kept)
              (All-put (λ (x : Kept). IsLasting x.descriptor) k keeps.kept may.lasting (All-unmap IsLasting (λ (x : Kept). x.descriptor) keeps.kept keeps.lasting));
        }

-- ---- what it costs
pub create_charged : (m : Meanings) (db : Db) (name : Name) (method : ℕ) (schema : List Column) (key : List Name) → MayCreate m db name method schema key
    → create_cost (extensions_of m) db method
    ≡ 2 + cond (nat_lt method 1000) 1 (foreign_method_prepare (method_room (extensions_of m) method)) + descriptor_cost (extensions_of m) db
create_charged m db name method schema key may =
    ap (λ (b : Bool). cond b (2 + cond (nat_lt method 1000) 1 (foreign_method_prepare (method_room (extensions_of m) method)) + descriptor_cost (extensions_of m) db) 0)
    (outlives m method may.box may.live may.durable may.lasting)

-- ---- by the calls that make them
module _ {S : Type 0} (Has : Wanted → Slots → S → Type 0) (Fails : SpaceFault → S → S → Type 0) (m : Meanings) (root : ℕ) (gone aside : List ℕ) (db : Db) (name : Name) (method owner top : ℕ) (schema : List Column) (key : List Name)
    (old mid late new : S) (keeps : KeepsDb Has m root gone aside db old) (may : MayCreate m db name method schema key) (high : 2 < owner)
    (come : HasCome Has keeps.want keeps.slots owner top mid) (d : Descriptor) (is : d ≡ new_descriptor method owner top schema key) where
  in_new : IsNewIn come.slots (table_instance true name (new_descriptor method owner top schema key))
  in_new = new-in Has m root gone aside db name method owner top schema key old mid late new keeps may high come

  pub prepare_refused : (e : SpaceFault)
      → ((want : Wanted) (s : Slots) → Has want s mid → IsNewIn s (table_instance true name d) → IsLive m (table_instance true name d) → HasRefusalCause Fails (refusal_of e) late)
      → ((box : Method) → method_of method m.methods ≡ Some box → IsMethod box) → HasRefusalCause Fails (refusal_of e) late
  prepare_refused e refused law =
      subst (λ (x : Descriptor). (want : Wanted) (s : Slots) → Has want s mid → IsNewIn s (table_instance true name x) → IsLive m (table_instance true name x) → HasRefusalCause Fails (refusal_of e) late) is refused
      keeps.want come.slots come.has in_new (is_live-new m db name method owner top schema key may high law)

  -- what its pages cost
  pub rows_charged : (Leads : ℕ → S → S → Type 0)
      → ((want : Wanted) (s : Slots) → Has want s mid → IsNewIn s (table_instance true name d) → (live : IsLive m (table_instance true name d)) → LeadsWithin Leads (live.box.cost Prepare []) mid late)
      → ((box : Method) → method_of method m.methods ≡ Some box → IsMethod box)
      → LeadsWithin Leads (cond (nat_lt method 1000) 1 (foreign_method_prepare (method_room (extensions_of m) method))) mid late
  rows_charged Leads costs law =
      let live = is_live-new m db name method owner top schema key may high law in
      LeadsWithin-more Leads (live.box.cost Prepare []) _ mid late (prepare-is-charged m live.box method live.live live.law)
      (subst (λ (x : Descriptor). (want : Wanted) (s : Slots) → Has want s mid → IsNewIn s (table_instance true name x) → (live : IsLive m (table_instance true name x))
      → LeadsWithin Leads (live.box.cost Prepare []) mid late) is costs keeps.want come.slots come.has in_new live)

  module _ (prepared : (want : Wanted) (s : Slots) → Has want s mid → IsNewIn s (table_instance true name d) → LeavesRows Has m (table_instance true name d) want s late []) where
    in_rows : LeavesRows Has m (table_instance true name (new_descriptor method owner top schema key)) keeps.want come.slots late []
    in_rows =
        subst (λ (x : Descriptor). (want : Wanted) (s : Slots) → Has want s mid → IsNewIn s (table_instance true name x) → LeavesRows Has m (table_instance true name x) want s late []) is prepared
        keeps.want come.slots come.has in_new

    in_entries : (rows : LeavesRows Has m (table_instance true name (new_descriptor method owner top schema key)) keeps.want come.slots late [])
        → map_in root (owned rows.slots 2) ≡ Some (map entry_of keeps.kept)
    in_entries rows = entries-late Has m root gone aside db name method owner top schema key old mid late new keeps may high come rows

    pub create_refused : (e : SpaceFault)
        → ((want : Wanted) (s : Slots) (es : List Entry) → Has want s late → map_in root (owned s 2) ≡ Some es → IsSmall name (descriptor_spelling d) → HasRefusalCause Fails (refusal_of e) new)
        → HasRefusalCause Fails (refusal_of e) new
    create_refused e refused = of_rows in_rows
      where
        of_rows : LeavesRows Has m (table_instance true name (new_descriptor method owner top schema key)) keeps.want come.slots late [] → HasRefusalCause Fails (refusal_of e) new
        of_rows rows =
            refused keeps.want rows.slots (map entry_of keeps.kept) rows.has (in_entries rows)
            (subst (λ (x : Descriptor). IsSmall name (descriptor_spelling x)) (sym is) (small-new m db name method owner top schema key may))

    -- what its entry costs
    pub entry_charged : (Leads : ℕ → S → S → Type 0)
        → ((want : Wanted) (s : Slots) (es : List Entry) → Has want s late → map_in root (owned s 2) ≡ Some es → LeadsWithin Leads (tree_cost (length es)) late new)
        → LeadsWithin Leads (descriptor_cost (extensions_of m) db) late new
    entry_charged Leads costs = of_rows in_rows
      where
        of_rows : LeavesRows Has m (table_instance true name (new_descriptor method owner top schema key)) keeps.want come.slots late [] → LeadsWithin Leads (descriptor_cost (extensions_of m) db) late new
        of_rows rows =
            LeadsWithin-more Leads (tree_cost (length (map entry_of keeps.kept))) (descriptor_cost (extensions_of m) db) late new (entry_enough Has m root gone aside db old keeps)
            (costs keeps.want rows.slots (map entry_of keeps.kept) rows.has (in_entries rows))

    pub create_entered : ((want : Wanted) (s : Slots) (es : List Entry) → Has want s late → map_in root (owned s 2) ≡ Some es
        → Leaves Has 2 want s new (λ after. map_in root after ≡ Some (put key_cmp name (descriptor_spelling d) es)))
        → (IsConsistent d → IsStorableDescriptor d) → KeepsDb Has m root gone aside (with_relation db name (new_relation method schema key)) new
    create_entered entered storable = of_rows in_rows
      where
        of_rows : LeavesRows Has m (table_instance true name (new_descriptor method owner top schema key)) keeps.want come.slots late []
            → KeepsDb Has m root gone aside (with_relation db name (new_relation method schema key)) new
        of_rows rows =
            created Has m root gone aside db name method owner top schema key old mid late new keeps may high come rows
            (subst (λ (x : Descriptor). IsConsistent x → IsStorableDescriptor x) is storable (consistent-new m db name method owner top schema key may))
            (subst (λ (x : Descriptor). (want : Wanted) (s : Slots) (es : List Entry) → Has want s late → map_in root (owned s 2) ≡ Some es
            → Leaves Has 2 want s new (λ after. map_in root after ≡ Some (put key_cmp name (descriptor_spelling x) es))) is entered
            keeps.want rows.slots (map entry_of keeps.kept) rows.has (in_entries rows))
