-- A change of one relation: what its storage method may take, and what its attachments may while they are asked.
use Rattle.std.proofs.Common.{◌≡◌, ℕ, ◌+◌, ◌*◌, ◌≤◌, max, Bool, true, false, cond, T, List, ◌∷◌, ◌++◌, length, get_or, sum, All}
use Rattle.std.proofs.Common.{bytes_eq, sym, ap, ◌∙◌, subst, arith}
use Rattle.std.specs.FinMap.Entries.{is_sorted}
use Rattle.std.specs.List.{sum_by}
use Rattle.std.proofs.lemmas.List.{length-map}
use Rattle.std.proofs.lemmas.List.Elements.{All-map, All-weaker}
use Rattle.std.proofs.lemmas.Option.{same_Some}
use Rattle.sb_value.specs.Equal.{bytes_same}
use Rattle.sb_value.specs.Order.{bytes_cmp}
use Rattle.sb_rule.specs.declared.change.Change.{Change}
use Rattle.sb_relation.specs.Buckets.{grown, next_buckets}
use Rattle.sb_relation.specs.Changes.{changed_rows}
use Rattle.sb_relation.specs.Db
use Rattle.sb_relation.specs.Db.{Name, relation_at}
use Rattle.sb_fold.specs.Bounds.{method_bound}
use Rattle.sb_fold.specs.Extensions.{Extensions, is_durable_method}
use Rattle.sb_fold.specs.Need.{bound_before, need}
use Rattle.sb_fold.specs.Outcome.{Gone, Reached}
use Rattle.sb_forms.specs.Pages.{ArePages, page_count}
use Rattle.sb_ctx.specs.Laws.{IsMethod}
use Rattle.sb_registry.specs.Boxes.{Meanings}
use Rattle.sb_drive.specs.Slots.{Slots, owned}
use Rattle.sb_room.specs.Owned.{pages_of}
use Rattle.sb_standing.specs.Asked.{change_kept, changed_kept}
use Rattle.sb_standing.specs.Standing.{EachRule, KeepsRules, has_no_join, owners_in}
use Rattle.sb_standing.specs.Tables.{Kept, KeepsTable, db_of}
use Rattle.sb_standing.proofs.KeptLemmas.{kept_at-all, kept_at-name, relation_at-there}
use Rattle.sb_standing.proofs.KeptChangedLemmas.{All-but, db_of-changed, kept_at-with_changed, owners_in-changed, with_changed}
use Rattle.sb_standing.proofs.SplitLemmas.{EachRule-map}
use Rattle.sb_weights.specs.Rooms.{extensions_of}
use Rattle.sb_weights.specs.Weights.{ChangeIsWithin, changing, owners_with}
use Rattle.sb_weights.proofs.Bounded.{AreBounded, are-bounded}
use Rattle.sb_weights.proofs.Catalogue.{catalogue_small}
use Rattle.sb_weights.proofs.Lightness.{light_table, rules_before}
use Rattle.sb_weights.proofs.Summing.{more_sum, weighed_within}
use Rattle.sb_weights.proofs.Weighing.{IsLight, IsLightRule, Weighs, buckets_grow, grows_none, light_weighs, weight}

-- ---- the whole
-- with what the changed relations weigh, the pages are within the need of the change
pub changed_within : (ext : Extensions) (name : Name) (c : Change) (aside : Gone) (spent : ℕ) (s : Slots) (more : ℕ) (gone : List ℕ)
    (kept : List Kept) → T (is_sorted bytes_cmp (db_of kept)) → page_count (owned s 2) ≤ 2 * length kept + 3 → pages_of s gone ≤ sum aside.durable
    → pages_of s (owners_in (changed_kept name c kept)) + more + 2 * length (changed_kept name c kept)
    ≤ sum_by (weight ext (changing (db_of kept) name c aside spent)) (db_of (changed_kept name c kept))
    → pages_of s (owners_with kept gone) + more ≤ need ext true (changing (db_of kept) name c aside spent)
changed_within ext name c aside spent s more gone kept rising catalogue few each =
    let at = changing (db_of kept) name c aside spent in
    let after = changed_kept name c kept in
    let pages = pages_of s (owners_in after) + more + 2 * length after in
    let sum = subst (λ (db : Db.Db). pages ≤ sum_by (weight ext at) db) (db_of-changed name c kept rising) each in
    let as_many = length-map {B = Kept} kept (change_kept name c) in
    let within = weighed_within ext at s more gone after (record { catalogue = omega (arith, catalogue, as_many); each = sum; aside = few }) in
    subst (λ (owners : List ℕ). pages_of s (2 ∷ owners ++ gone) + more ≤ need ext true at) (owners_in-changed name c kept) within

-- ---- a call of the storage method
-- one of another name is as it was
light_other : (m : Meanings) (ext : Extensions) (durable : ℕ → Bool) (at : Reached) (s : Slots) (k : Kept) → AreBounded m ext
    → ((o : ℕ) → ArePages (owned s o)) → is_durable_method ext k.relation.method ≡ true → has_no_join k ≡ true → KeepsTable m durable s k
    → KeepsRules m durable s at.before k → IsLight ext at s 0 k
light_other m ext durable at s k bounded are meant joinless table rules =
    light_table m ext durable at s k bounded are meant table
    (rules_before m ext durable at s k (λ a. a.buckets) bounded are (λ a. grows_none a.rule a.buckets) joinless rules)

-- the changed one has its attachments as they were
grown_rules : (m : Meanings) (ext : Extensions) (durable : ℕ → Bool) (at : Reached) (s : Slots) (c : Change) (k : Kept) → AreBounded m ext
    → ((o : ℕ) → ArePages (owned s o)) → has_no_join k ≡ true → KeepsRules m durable s at.before k
    → EachRule (IsLightRule ext at s k.name) k.descriptor.attachments (with_changed c k).relation.attachments
grown_rules m ext durable at s c k bounded are joinless rules =
    let rows = changed_rows k.relation.rows c in
    EachRule-map (IsLightRule ext at s k.name) (grown c rows) k.descriptor.attachments k.relation.attachments
    (rules_before m ext durable at s k (λ a. next_buckets a.rule c rows a.buckets) bounded are
    (λ a. buckets_grow a.rule c rows a.buckets) joinless rules)

light_less : (ext : Extensions) (at : Reached) (s : Slots) (more : ℕ) (k : Kept) → IsLight ext at s more k → IsLight ext at s 0 k
light_less ext at s more k light = record { meant = light.meant; rows = omega (arith, light.rows); rules = light.rules }

pub change-is-within : ChangeIsWithin
change-is-within m durable root s gone kept aside spent name k c box fresh meant are keeps few there live room =
    let catalogue = catalogue_small m durable root s kept keeps.tables in
    let weighs = All-weaker (IsLight ext at s 0) (Weighs ext at s 0) (light_weighs ext at s 0) (changed_kept name c kept) each in
    let sum = more_sum ext at s fresh name (with_changed c k) (changed_kept name c kept) (kept_at-with_changed name c kept k there)
    (light_weighs ext at s fresh (with_changed c k) named) weighs in
    changed_within ext name c aside spent s fresh gone kept keeps.tables.rising catalogue few sum
  where
    ext : Extensions
    ext = extensions_of m

    bounded : AreBounded m ext
    bounded = are-bounded m

    at : Reached
    at = changing (db_of kept) name c aside spent

    table : KeepsTable m durable s k
    table = kept_at-all (KeepsTable m durable s) kept name k keeps.tables.each there

    before : bound_before ext (relation_at (db_of kept) k.name) ≡ method_bound ext k.relation
    before = ap (bound_before ext) (ap (relation_at (db_of kept)) (kept_at-name kept name k there) ∙ relation_at-there kept name k there)

    rows : page_count (owned s k.descriptor.owner) + fresh
        ≤ max (bound_before ext (relation_at (db_of kept) k.name)) (method_bound ext (with_changed c k).relation)
    rows =
        let law = subst IsMethod (same_Some table.rows.live.box box (sym table.rows.live.live ∙ live)) table.rows.live.law in
        let old = bounded.methods k.descriptor.method box live law k.relation (sym table.is.method) in
        let new = bounded.methods k.descriptor.method box live law (with_changed c k).relation (sym table.is.method) in
        omega (arith, room, before, old, new)

    named : IsLight ext at s fresh (with_changed c k)
    named = record {
      meant = kept_at-all (λ x. is_durable_method ext x.relation.method ≡ true) kept name k meant there;
      rows = rows;
      rules = grown_rules m ext durable at s c k bounded are (kept_at-all (λ x. has_no_join x ≡ true) kept name k keeps.joinless there)
          (kept_at-all (KeepsRules m durable s (db_of kept)) kept name k keeps.rules there);
    }

    here : IsLight ext at s 0 (change_kept name c k)
    here = subst (λ b. IsLight ext at s 0 (cond b (with_changed c k) k)) (sym ((bytes_same k.name name).1 (kept_at-name kept name k there)))
        (light_less ext at s fresh (with_changed c k) named)

    elsewhere : (x : Kept) → bytes_eq x.name name ≡ false → IsLight ext at s 0 x → IsLight ext at s 0 (change_kept name c x)
    elsewhere x other light = subst (λ b. IsLight ext at s 0 (cond b (with_changed c x) x)) (sym other) light

    each : All (IsLight ext at s 0) (changed_kept name c kept)
    each = All-map (IsLight ext at s 0) (change_kept name c) kept
        (All-but (λ x. IsLight ext at s 0 (change_kept name c x)) kept name k keeps.tables.rising there here
        (λ i d in' other. elsewhere (get_or kept i d) other
        (light_other m ext durable at s (get_or kept i d) bounded are (meant i d in') (keeps.joinless i d in') (keeps.tables.each i d in')
        (keeps.rules i d in'))))
