-- How many changes relations and attachments cost that come or go.
use Rattle.std.proofs.Common.{◌≡◌, ◌≢◌, inl, inr, ℕ, zero, suc, ◌+◌, ◌*◌, ◌<◌, ◌≤◌, Bool, true, false, not, cond, nat_lt, sum_by, List, [], ◌∷◌, length, map, Option, Some, None, All, refl, sym, ap, ◌∙◌, subst, arith}
use Rattle.std.proofs.lemmas.Bool.{lt-ltb, ltb-false, ltb-true}
use Rattle.std.specs.Prelude.{filter}
use Rattle.std.specs.List.{range_with_len}
use Rattle.std.proofs.lemmas.List.Elements.{All-head, All-tail}
use Rattle.std.proofs.lemmas.List.{length-map}
use Rattle.std.proofs.lemmas.List.Sums.{sum_by-cons}
use Rattle.sb_node.specs.Entries.{Entry}
use Rattle.sb_relation.specs.Db.{Attached, Name, Relation, Db, relation_at}
use Rattle.sb_relation.specs.Fits.{is_empty}
use Rattle.sb_forms.specs.Pages.{ArePages, Pages, page_count, page_numbers}
use Rattle.sb_rule.specs.declared.rule.Rule.{Rule}
use Rattle.sb_relation.specs.Build.{mirror_name, mirror_of}
use Rattle.sb_catalog.specs.declared.descriptor.Attached as code
use Rattle.sb_catalog.specs.Descriptors.{described, standing}
use Rattle.sb_fold.specs.Building.{mirrored_in, without_attached, without_mirror}
use Rattle.sb_fold.specs.Costs.{descriptor_cost, free_cost, tree_cost}
use Rattle.sb_fold.specs.Fold.{attachments_at}
use Rattle.sb_deferred.proofs.RelationLemmas.{attachments_of}
use Rattle.sb_catalog.specs.declared.descriptor.Descriptor.{Descriptor}
use Rattle.sb_fold.specs.Extensions.{Extensions, is_durable_method}
use Rattle.sb_drive.specs.Slots.{Slots, owned}
use Rattle.sb_drive.specs.Spaces.{LeadsWithin, Wanted}
use Rattle.sb_drive.proofs.SpacesLemmas.{GoesOn}
use Rattle.sb_registry.specs.Boxes.{Meanings}
use Rattle.sb_standing.specs.Standing.{HasPage, detached_kept}
use Rattle.sb_standing.specs.Tables.{Kept, KeepsTable, db_of, entry_of, kept_at, put_kept}
use Rattle.sb_standing.proofs.KeptLemmas.{kept_at-all, kept_at-name, relation_at-there}
use Rattle.sb_standing.proofs.PutLemmas.{All-put}
use Rattle.sb_engine.specs.Measures.{AreHeld, IsMeasure, measured}
use Rattle.sb_engine.specs.Opened.{IsDurable}
use Rattle.sb_engine.specs.Weights.{AreMeant}
use Rattle.sb_engine.specs.Working.{extensions_of}
use Rattle.sb_engine.proofs.LackingLemmas.{all_meant}
use Rattle.sb_tables.specs.Freeing.{free_most}
use Rattle.sb_tables.specs.Keeping.{KeepsDb}
use Rattle.sb_tables.specs.Removal.{mirror_cost, mirrors_cost}
use Rattle.sb_tables.proofs.DetachedLemmas.{HasKept, is_detached, none_detached}
use Rattle.sb_tables.proofs.WithinLemmas.{as_many}

-- ---- one call behind another
pub within_then : {S : Type 0} (Leads : ℕ → S → S → Type 0) → GoesOn Leads → (first later most : ℕ) (a b c : S) → first + later ≤ most → LeadsWithin Leads first a b → LeadsWithin Leads later b c
    → LeadsWithin Leads most a c
within_then Leads goes_on first later most a b c enough one other = record {
  changes = one.changes + other.changes;
  within = omega (arith, one.within, other.within, enough);
  leads = goes_on one.changes other.changes a b c one.leads other.leads;
}

-- ---- descriptors
-- relations that outlive the run are all counted
lasting_counted : (ext : Extensions) (kept : List Kept) → AreMeant ext kept → length (filter (λ e. is_durable_method ext e.1.method) (db_of kept)) ≡ length kept
lasting_counted ext [] all = refl
lasting_counted ext (k ∷ kept) all =
    of_test (is_durable_method ext k.relation.method) (All-head (λ x. is_durable_method ext x.relation.method ≡ true) k kept all)
    (lasting_counted ext kept (All-tail (λ x. is_durable_method ext x.relation.method ≡ true) k kept all))
  where
    left : List (Name × Relation)
    left = filter (λ e. is_durable_method ext e.1.method) (db_of kept)

    of_test : (b : Bool) → b ≡ true → length left ≡ length kept → length (cond b ((k.name, k.relation) ∷ left) left) ≡ suc (length kept)
    of_test true is rest = ap suc rest
    of_test false is rest = absurd (cc)

-- so a descriptor costs this
pub entry_cost : (ext : Extensions) (kept : List Kept) (db : Db) → db ≡ db_of kept → AreMeant ext kept → descriptor_cost ext db ≡ 2 * tree_cost (length kept)
entry_cost ext kept db is all = ap (descriptor_cost ext) is ∙ ap (λ (n : ℕ). 2 * tree_cost n) (lasting_counted ext kept all)

module _ {S : Type 0} (Has : Wanted → Slots → S → Type 0) (m : Meanings) (root : ℕ) (gone aside : List ℕ) (db : Db) (space : S) (keeps : KeepsDb Has m root gone aside db space) where
  meant : AreMeant (extensions_of m) keeps.kept
  meant = all_meant m root keeps.slots keeps.kept keeps.lasting keeps.keeps.tables

  pub entry_kept : descriptor_cost (extensions_of m) db ≡ 2 * tree_cost (length keeps.kept)
  entry_kept = entry_cost (extensions_of m) keeps.kept db keeps.is meant

  -- one that is written or removed
  pub entry_enough : tree_cost (length (map entry_of keeps.kept)) ≤ descriptor_cost (extensions_of m) db
  entry_enough = omega (arith, entry_kept, ap tree_cost (length-map {B = Entry} keeps.kept entry_of))

  -- without attachments there are as many descriptors
  pub entry_detached : (relation label : Name) → descriptor_cost (extensions_of m) (without_attached db relation label) ≡ descriptor_cost (extensions_of m) db
  entry_detached relation label = of_kept (kept_at keeps.kept relation) refl
    where
      of_kept : (o : Option Kept) → kept_at keeps.kept relation ≡ o → descriptor_cost (extensions_of m) (without_attached db relation label) ≡ descriptor_cost (extensions_of m) db
      of_kept None at = ap (descriptor_cost (extensions_of m)) (none_detached Has m root gone aside db space space space keeps relation label at)
      of_kept (Some k) at =
          let new = detached_kept label k in
          let there : kept_at keeps.kept k.name ≡ Some k = ap (λ (n : Name). kept_at keeps.kept n) (kept_at-name keeps.kept relation k at) ∙ at in
          let all : AreMeant (extensions_of m) (put_kept new keeps.kept) =
          All-put (λ x. is_durable_method (extensions_of m) x.relation.method ≡ true) new keeps.kept
          (kept_at-all (λ x. is_durable_method (extensions_of m) x.relation.method ≡ true) keeps.kept relation k meant at) meant in
          entry_cost (extensions_of m) (put_kept new keeps.kept) (without_attached db relation label) (is_detached Has m root gone aside db space space space keeps relation label k at) all
          ∙ ap (λ (n : ℕ). 2 * tree_cost n) (as_many keeps.kept new k keeps.keeps.tables.rising there)
          ∙ sym entry_kept

  pub entry_mirrored : (relation name : Name) (o : Option (Name × Rule)) → descriptor_cost (extensions_of m) (without_mirror relation name o db) ≡ descriptor_cost (extensions_of m) db
  entry_mirrored relation name None = refl
  entry_mirrored relation name (Some (other, rule)) = entry_detached other (mirror_name relation name)

-- as many as relations have a mirror
pub mirrors-cost : (entry : ℕ) (name : Name) (ds : List code.Attached) (items : List Attached) → map described ds ≡ map standing items
    → mirrors_cost entry name ds ≡ length (mirrored_in name items) * entry
mirrors-cost entry name [] [] same = omega arith
mirrors-cost entry name [] (a ∷ items) same = absurd (cc)
mirrors-cost entry name (d ∷ ds) [] same = absurd (cc)
mirrors-cost entry name (d ∷ ds) (a ∷ items) same =
    let one : described d ≡ standing a = cc in
    let rest : map described ds ≡ map standing items = cc in
    ap (λ t. mirror_cost entry (mirror_of name t.2) + mirrors_cost entry name ds) one ∙ ap (λ (n : ℕ). mirror_cost entry (mirror_of name a.rule) + n) (mirrors-cost entry name ds items rest)
    ∙ of_mirror (mirror_of name a.rule)
  where
    of_mirror : (o : Option (Name × Rule)) → mirror_cost entry o + length (mirrored_in name items) * entry
        ≡ length (elim o as (λ _. List Name) [ None ↦ mirrored_in name items | Some mirror ↦ mirror.0 ∷ mirrored_in name items ]) * entry
    of_mirror None = omega arith
    of_mirror (Some mirror) = one_more (length (mirrored_in name items)) entry
      where
        one_more : (n e : ℕ) → e + n * e ≡ suc n * e
        one_more n e = omega arith

pub mirrors-charged : {S : Type 0} (Has : Wanted → Slots → S → Type 0) (m : Meanings) (root : ℕ) (gone aside : List ℕ) (db : Db) (space : S) (keeps : KeepsDb Has m root gone aside db space)
    (name : Name) (d : Descriptor) → HasKept keeps.kept name d
    → mirrors_cost (descriptor_cost (extensions_of m) db) name d.attachments ≡ length (mirrored_in name (attachments_at db name)) * descriptor_cost (extensions_of m) db
mirrors-charged Has m root gone aside db space keeps name d it =
    let is = kept_at-all (KeepsTable m IsDurable keeps.slots) keeps.kept name it.one keeps.keeps.tables.each it.at in
    let entry : ℕ = descriptor_cost (extensions_of m) db in
    ap (λ (x : Descriptor). mirrors_cost entry name x.attachments) (sym it.same)
    ∙ mirrors-cost entry name it.one.descriptor.attachments it.one.relation.attachments is.is.attachments
    ∙ ap (λ (items : List Attached). length (mirrored_in name items) * entry)
    (sym (ap attachments_of (ap (λ (x : Db). relation_at x name) keeps.is ∙ relation_at-there keeps.kept name it.one it.at)))

-- ---- pages that go
-- an owner that has pages
abbrev pub free_of : ℕ → ℕ
free_of zero = 0
free_of (suc n) = 33

free_is_measure : IsMeasure free_of
free_is_measure = record { none = refl; rises = rises }
  where
    rises : (a b : ℕ) → a ≤ b → free_of a ≤ free_of b
    rises zero b less = omega arith
    rises (suc a) zero less = absurd (omega (arith, less))
    rises (suc a) (suc b) less = omega arith

free_bounds : (bounds : List ℕ) → sum_by free_of bounds ≡ free_cost bounds
free_bounds [] = refl
free_bounds (zero ∷ bounds) = omega (arith, sum_by-cons free_of zero bounds, free_bounds bounds)
free_bounds (suc n ∷ bounds) = omega (arith, sum_by-cons free_of (suc n) bounds, free_bounds bounds)

-- a page is counted
some_within : (P : Pages) (a k n : ℕ) → a ≤ n → n < a + k → is_empty (P n) ≡ false → 1 ≤ length (filter (λ i. not (is_empty (P i))) (range_with_len a k))
some_within P a zero n from below some = absurd (omega (arith, from, below))
some_within P a (suc k) n from below some = of_test (is_empty (P a)) refl (λ next. some_within P (a + 1) k n next (omega (arith, below)) some)
  where
    left : List ℕ
    left = filter (λ i. not (is_empty (P i))) (range_with_len (a + 1) k)

    later : is_empty (P a) ≡ true → (a ≡ n → ⊥)
    later none same = true_false (sym none ∙ ap (λ (i : ℕ). is_empty (P i)) same ∙ some)
      where
        true_false : true ≡ false → ⊥
        true_false is = cc

    next : (a n : ℕ) → a ≤ n → (a ≡ n → ⊥) → a + 1 ≤ n
    next a n from apart = omega (arith, from, apart)

    of_test : (b : Bool) → is_empty (P a) ≡ b → (a + 1 ≤ n → 1 ≤ length left) → 1 ≤ length (cond (not b) (a ∷ left) left)
    of_test true none rest = rest (next a n from (later none))
    of_test false none rest = omega arith

pub page_counted : (P : Pages) (n : ℕ) → ArePages P → P n ≢ [] → 1 ≤ page_count P
unfolding page_numbers
page_counted P n pages some = by_place (nat_lt n 65536) refl
  where
    full : (bytes : List ℕ) → bytes ≢ [] → is_empty bytes ≡ false
    full [] some = absurd (some refl)
    full (b ∷ bytes) some = refl

    by_place : (b : Bool) → nat_lt n 65536 ≡ b → 1 ≤ length (filter (λ i. not (is_empty (P i))) (range_with_len 0 65536))
    by_place true is = some_within P 0 65536 n (omega arith) (ltb-true n 65536 is) (full (P n) some)
    by_place false is = absurd (some (pages.below n (ltb-false n 65536 is)))

-- what is to go costs no more than is charged for what is held aside
pub free_held : (s : Slots) (gone bounds : List ℕ) → ((o : ℕ) → ArePages (owned s o)) → All (HasPage s) gone → AreHeld s gone bounds → free_most gone ≤ free_cost bounds
free_held s gone bounds pages has held = omega (arith, each gone has, held free_of free_is_measure, free_bounds bounds)
  where
    one : (o : ℕ) → HasPage s o → cond (nat_lt 2 o) 33 0 ≤ free_of (page_count (owned s o))
    one o (inl nobody) = subst (λ (x : ℕ). cond (nat_lt 2 x) 33 0 ≤ free_of (page_count (owned s x))) (sym nobody) (omega arith)
    one o (inr page) = of_count (nat_lt 2 o) (page_count (owned s o)) (page_counted (owned s o) page.0 (pages o) page.1)
      where
        of_count : (b : Bool) (n : ℕ) → 1 ≤ n → cond b 33 0 ≤ free_of n
        of_count b zero some = absurd (omega (arith, some))
        of_count true (suc n) some = omega arith
        of_count false (suc n) some = omega arith

    each : (owners : List ℕ) → All (HasPage s) owners → free_most owners ≤ measured free_of s owners
    each [] all = omega arith
    each (o ∷ owners) all =
        omega (
          arith,
          one o (All-head (HasPage s) o owners all),
          each owners (All-tail (HasPage s) o owners all),
          sum_by-cons (λ x. cond (nat_lt 2 x) 33 0) o owners,
          sum_by-cons (λ x. free_of (page_count (owned s x))) o owners,
        )

-- one owner more
pub free_cons : (owner : ℕ) (owners : List ℕ) → free_most (owner ∷ owners) ≡ free_most (owner ∷ []) + free_most owners
free_cons owner owners =
    omega (arith, sum_by-cons (λ x. cond (nat_lt 2 x) 33 0) owner owners, sum_by-cons (λ x. cond (nat_lt 2 x) 33 0) owner [])

pub free_one : (owner : ℕ) → 2 < owner → 33 ≤ free_most (owner ∷ [])
free_one owner high =
    let one : ◌≡◌ {A = ℕ} (cond (nat_lt 2 owner) 33 0) 33 = ap {B = ℕ} (λ (b : Bool). cond b 33 0) (lt-ltb 2 owner high) in
    omega (arith, sum_by-cons (λ x. cond (nat_lt 2 x) 33 0) owner [], one)
