-- What is left once a rule is attached.
use Rattle.std.proofs.Common.{◌≡◌, ℕ, suc, ◌≤◌, true, List, [], ◌∷◌, length, map, sum_by, Option, Some, None, arith, refl, sym, ap, subst, ◌∙◌}
use Rattle.std.specs.List.{list_any}
use Rattle.std.specs.FinMap.Entries.{put}
use Rattle.std.proofs.lemmas.List.Elements.{All-map}
use Rattle.std.proofs.lemmas.List.Sums.{sum_by-cons}
use Rattle.std.proofs.lemmas.Option.{same_Some}
use Rattle.sb_value.specs.declared.schema.Column.{Column}
use Rattle.sb_node.specs.Entries.{key_cmp}
use Rattle.sb_rule.specs.declared.rule.Rule.{Rule}
use Rattle.sb_relation.specs.Build.{main_of, with_attached, with_instance}
use Rattle.sb_relation.specs.Buckets.{standing_buckets}
use Rattle.sb_relation.specs.Content.{Content}
use Rattle.sb_relation.specs.Db
use Rattle.sb_relation.specs.Db.{Name, Rows, Relation, Db, relation_at}
use Rattle.sb_relation.specs.Lawful.{is_long_for}
use Rattle.sb_relation.specs.Limits.{descriptor_len}
use Rattle.sb_relation.specs.Rules.{holds}
use Rattle.sb_fold.specs.Building.{has_long_row}
use Rattle.sb_forms.specs.Pages.{Pages, page_count}
use Rattle.sb_forms.specs.Maps.{map_in}
use Rattle.sb_ctx.specs.declared.instance.Instance.{Instance}
use Rattle.sb_ctx.specs.Attachment.{Attachment}
use Rattle.sb_ctx.specs.AttachAnswers.{Holds, content_over}
use Rattle.sb_registry.specs.Boxes.{Meanings}
use Rattle.sb_registry.specs.Live.{IsLiveRule}
use Rattle.sb_drive.specs.Slots.{Slots, owned}
use Rattle.sb_drive.specs.Spaces.{Leaves, Wanted}
use Rattle.sb_catalog.specs.declared.descriptor.Attached.{Attached}
use Rattle.sb_catalog.specs.Descriptors.{described, descriptor_spelling, standing, IsDescriptorOf, IsStorableDescriptor}
use Rattle.sb_catalog.proofs.Described.{is_as_long}
use Rattle.sb_standing.specs.Standing.{IsKept, IsOwner, KeepsRule, attached_kept, owners_in, with_described}
use Rattle.sb_standing.specs.Instances.{table_instance}
use Rattle.sb_standing.specs.TableLaws.{Attaches}
use Rattle.sb_standing.specs.Tables.{Kept, KeepsOthers, KeepsTable, db_of, entry_of, kept_at, put_kept, table_of}
use Rattle.sb_standing.proofs.FrameLemmas.{All-unmap}
use Rattle.sb_standing.proofs.KeptLemmas.{kept_at-all, kept_at-name, relation_at-there}
use Rattle.sb_standing.proofs.PutLemmas.{All-put}
use Rattle.sb_standing.proofs.RuleLemmas.{IsKept-attached, Keeps-attached, db_of-attached, described-with}
use Rattle.sb_standing.proofs.StandLemmas.{StandRules-keeps}
use Rattle.sb_rows.specs.Live.{HasRows}
use Rattle.sb_tables.specs.OpenRelation.{OpenRelation}
use Rattle.sb_tables.specs.Opened.{IsDurable, IsOpen, rule_of}
use Rattle.sb_tables.specs.Working.{IsLasting}
use Rattle.sb_tables.specs.Keeping.{KeepsDb}
use Rattle.sb_tables.specs.Measures.{AreHeld, IsWithin}
use Rattle.sb_tables.proofs.Measuring.{held-alike}
use Rattle.sb_tables.proofs.TakenLemmas.{gone-beside}
use Rattle.sb_building.specs.Attaching.{HasBegun, IsEntryOf, IsRoomy, IsStore, MayAdd, Stores, new_attached}
use Rattle.sb_building.specs.Building.{content_built}
use Rattle.sb_building.specs.Held.{holds_of}
use Rattle.sb_building.specs.Instances.{Site}
use Rattle.sb_building.proofs.ContentLemmas.{content-all}
use Rattle.sb_building.proofs.HeldLemmas.{holds-all}

-- ---- owners with the pages that they have
sum-mapped : (f h : ℕ → ℕ) (xs : List ℕ) → sum_by f (map h xs) ≡ sum_by (λ x. f (h x)) xs
sum-mapped f h [] = refl
sum-mapped f h (x ∷ xs) = omega (arith, sum-mapped f h xs, sum_by-cons f (h x) (map h xs), sum_by-cons (λ y. f (h y)) x xs)

-- they are held by these
held-own : (s : Slots) (owners : List ℕ) → AreHeld s owners (map (λ o. page_count (owned s o)) owners)
held-own s owners f is = omega (arith, sum-mapped f (λ o. page_count (owned s o)) owners)

-- which are within any bounds that hold them
pub within-own : (s : Slots) (owners bounds : List ℕ) → AreHeld s owners bounds → IsWithin (map (λ o. page_count (owned s o)) owners) bounds
within-own s owners bounds held f is = omega (arith, sum-mapped f (λ o. page_count (owned s o)) owners, held f is)

-- ---- the relation that is open
module _ {S : Type 0} (Has : Wanted → Slots → S → Type 0) (m : Meanings) (root : ℕ) (x : Site) (name : Name) (stores : Stores m root x name) where
  pub store_of : (old : S) → Has x.want x.slots old → IsStore Has m root x name old
  store_of old has = record { has = has; tables = stores.keeps.tables; stand = StandRules-keeps m IsDurable root x.slots x.gone x.kept stores.keeps; there = stores.there }

  pub table_stored : KeepsTable m IsDurable x.slots x.one
  table_stored = kept_at-all (KeepsTable m IsDurable x.slots) x.kept name x.one stores.keeps.tables.each stores.there

  pub one_named : x.one.name ≡ name
  one_named = kept_at-name x.kept name x.one stores.there

  there_by_name : kept_at x.kept x.one.name ≡ Some x.one
  there_by_name = ap (kept_at x.kept) one_named ∙ stores.there

  pub there_stored : relation_at (db_of x.kept) name ≡ Some x.one.relation
  there_stored = relation_at-there x.kept name x.one stores.there

  -- the instance of the open relation's storage method is that of its rows
  pub table_opened : (o : OpenRelation) → o.name ≡ name → x.one.descriptor ≡ o.descriptor → IsOpen m o → o.table ≡ table_of IsDurable x.one
  table_opened o named same opened = opened.table ∙ (λ i. table_instance true ((named ∙ sym one_named) i) (sym same i))

  pub rows_opened : (o : OpenRelation) → o.name ≡ name → x.one.descriptor ≡ o.descriptor → IsOpen m o → HasRows m x.slots o.table x.one.relation.rows
  rows_opened o named same opened = subst (λ (i : Instance). HasRows m x.slots i x.one.relation.rows) (sym (table_opened o named same opened)) table_stored.rows

  -- ---- rows that are too long
  pub has_long_row-is : (rule : Rule) (schema : List Column) → schema ≡ x.one.descriptor.schema
      → list_any (λ row. is_long_for schema row.1 rule) x.one.relation.rows ≡ has_long_row (db_of x.kept) name rule
  has_long_row-is rule schema same =
      (λ i. list_any (λ row. is_long_for ((same ∙ table_stored.is.schema) i) row.1 rule) x.one.relation.rows)
      ∙ sym (ap (λ (o : Option Relation). list_any (λ row. is_long_for (elim o as (λ _. List Column) [ None ↦ [] | Some r ↦ r.schema ]) row.1 rule) (elim o as (λ _. Rows) [ None ↦ [] | Some r ↦ r.rows ])) there_stored)

  -- ---- whether it holds
  pub holds-is : (box : Attachment) (rule : Rule) → main_of name rule ≡ None → holds (Some box.rules) (db_of x.kept) name rule ≡ holds_of (Some box.rules) (db_of x.kept) name rule x.one.relation.rows
  holds-is box rule main =
      holds-all (Some box.rules) (db_of x.kept) name rule main
      ∙ ap (holds_of (Some box.rules) (db_of x.kept) name rule) (ap (λ (o : Option Relation). elim o as (λ _. Rows) [ None ↦ [] | Some r ↦ r.rows ]) there_stored)

  module _ (label : Name) (rule : Rule) (may : MayAdd m (db_of x.kept) name label rule) (d : Attached) (entry : IsEntryOf label rule d) where
    own_same : x.one.relation ≡ may.own
    own_same = same_Some x.one.relation may.own (sym there_stored ∙ may.there)

    abbrev new : Db.Attached
    new = new_attached label rule x.one.relation

    named_alike : described d ≡ standing new
    named_alike = λ i. (entry.code i, entry.name_is i, entry.rule_is i)

    -- there is room for it
    pub IsRoomy-may : IsRoomy name x.one.descriptor d
    IsRoomy-may = record {
      few = omega (arith, same_length, may.few, ap (λ (r : Relation). length r.attachments) own_same);
      small = subst (λ (n : ℕ). n ≤ 1900) (sym long) (subst (λ (r : Relation). descriptor_len (record r { attachments = with_instance (new_attached label rule r) r.attachments }) ≤ 1900) (sym own_same) may.small);
      short = may.short;
    }
      where
        length-map : {A B : Type 0} (f : A → B) (xs : List A) → length (map f xs) ≡ length xs
        length-map f [] = refl
        length-map f (y ∷ xs) = ap suc (length-map f xs)

        same_length : length x.one.descriptor.attachments ≡ length x.one.relation.attachments
        same_length = sym (length-map described x.one.descriptor.attachments) ∙ ap length table_stored.is.attachments ∙ length-map standing x.one.relation.attachments

        is : IsDescriptorOf (attached_kept d new x.one).relation (attached_kept d new x.one).descriptor
        is = record {
          method = table_stored.is.method;
          schema = table_stored.is.schema;
          key = table_stored.is.key;
          attachments = described-with d new x.one.descriptor.attachments x.one.relation.attachments named_alike table_stored.is.attachments;
        }

        long : length (descriptor_spelling (attached_kept d new x.one).descriptor) ≡ descriptor_len (attached_kept d new x.one).relation
        long = is_as_long (attached_kept d new x.one).relation (attached_kept d new x.one).descriptor is

    module _ (inst : Instance) (is : inst ≡ rule_of name x.one.descriptor d) (live : IsLiveRule m inst) (mid : S) (begun : HasBegun Has m root x inst rule live.box mid) where
      owner_is : inst.owner ≡ d.owner
      owner_is = ap (λ (i : Instance). i.owner) is

      inst_is : inst ≡ rule_of x.one.name x.one.descriptor d
      inst_is = is ∙ ap (λ (n : Name). rule_of n x.one.descriptor d) (sym one_named)

      -- it is kept over the database before, in pages that hold the whole content
      kept_before : (t : Slots) → Holds live.box inst (owned t inst.owner) (content_over live.box inst rule (db_of x.kept) (standing_buckets rule x.one.relation.rows)) → IsKept m IsDurable t (db_of x.kept) x.one d new
      kept_before t holds = subst (λ (i : Instance). KeepsRule m t i new (db_of x.kept)) inst_is (record {
        box = live.box;
        live = live.live;
        law = live.law;
        code = live.may.code;
        owner = live.may.owned;
        stands = begun.site.stands;
        holds = holds;
      })

      -- with the new descriptor in the catalogue
      pub KeepsDb-attached : (pages : Slots) (new_space : S) → KeepsOthers inst.owner begun.slots pages
          → Holds live.box inst (owned pages inst.owner) (content_over live.box inst rule (db_of x.kept) (standing_buckets rule x.one.relation.rows))
          → IsStorableDescriptor (record x.one.descriptor { attachments = with_described d x.one.descriptor.attachments })
          → Leaves Has 2 x.want pages new_space
          (λ after. map_in root after ≡ Some (put key_cmp name (descriptor_spelling (record x.one.descriptor { attachments = with_described d x.one.descriptor.attachments })) (map entry_of x.kept)))
          → KeepsDb Has m root x.gone (map (λ o. page_count (owned x.slots o)) x.gone) (with_attached (db_of x.kept) name label rule) new_space
      KeepsDb-attached pages new_space others holds storable left =
          let one = attached_kept d new x.one in
          let kept = put_kept one x.kept in
          let two : (inst.owner ≡ 2 → ⊥) = λ same. begun.site.apart.catalogue (sym same) in
          let own_pages : owned left.slots inst.owner ≡ owned pages inst.owner = left.others inst.owner two in
          let held = subst (λ (P : Pages). Holds live.box inst P (content_over live.box inst rule (db_of x.kept) (standing_buckets rule x.one.relation.rows))) (sym own_pages) holds in
          let attaches : Attaches m IsDurable root x.slots left.slots x.kept x.one d new = record {
            there = there_by_name;
            joinless = may.joinless;
            is = named_alike;
            storable = storable;
            comes = record {
              is = subst IsOwner owner_is begun.is;
              none = λ n. ap (λ (o : ℕ). owned x.slots o n) (sym owner_is) ∙ begun.none n;
              others = λ o other catalogue. left.others o catalogue ∙ others o (λ e. other (e ∙ owner_is)) ∙ begun.others o (λ e. other (e ∙ owner_is));
            };
            keeps = IsKept-attached m IsDurable left.slots x.kept x.one d new there_by_name (kept_before left.slots held);
            catalogue = subst (λ (n : Name). map_in root (owned left.slots 2) ≡ Some (put key_cmp n (descriptor_spelling one.descriptor) (map entry_of x.kept))) (sym one_named) left.own;
          } in
          record {
            want = x.want;
            slots = left.slots;
            kept = kept;
            has = left.has;
            is = sym (db_of-attached x.kept x.one d new there_by_name refl ∙ ap (λ (n : Name). with_attached (db_of x.kept) n label rule) one_named);
            held = held-alike x.slots left.slots x.gone (map (λ o. page_count (owned x.slots o)) x.gone)
                (λ f. gone-beside f x.slots left.slots (owners_in x.kept) x.gone inst.owner begun.none stores.keeps.own
                (λ o other catalogue. left.others o catalogue ∙ others o other ∙ begun.others o other)) (held-own x.slots x.gone);
            keeps = Keeps-attached m IsDurable root x.slots left.slots x.gone x.kept x.one d new stores.keeps attaches;
            lasting =
                let IsOf : Kept → Type 0 = λ k. IsLasting k.descriptor in
                All-map IsLasting (λ (k : Kept). k.descriptor) kept
                (All-put IsOf one x.kept (kept_at-all IsOf x.kept name x.one (All-unmap IsLasting (λ (k : Kept). k.descriptor) x.kept stores.lasting) stores.there)
                (All-unmap IsLasting (λ (k : Kept). k.descriptor) x.kept stores.lasting));
          }

      -- the content over all rows is the whole one
      pub whole_content : (P : Pages) → Holds live.box inst P (content_built live.box inst rule (db_of x.kept) x.one.relation.rows)
          → Holds live.box inst P (content_over live.box inst rule (db_of x.kept) (standing_buckets rule x.one.relation.rows))
      whole_content P holds =
          let there : relation_at (db_of x.kept) inst.relation ≡ Some x.one.relation = ap (λ (i : Instance). relation_at (db_of x.kept) i.relation) is ∙ there_stored in
          subst (λ (c : Content). Holds live.box inst P c) (content-all live.box inst rule (db_of x.kept) x.one.relation there) holds
