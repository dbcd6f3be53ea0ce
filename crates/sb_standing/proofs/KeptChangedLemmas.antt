-- The relations that are kept, after a change of one of them.
use Rattle.std.proofs.Common.{◌≡◌, Bool, true, false, true≢false, cond, ◌&&◌, T, List, [], ◌∷◌, ◌++◌, not, map, All, get_or, Option, Some, None, option_map, bytes_eq, Ordering, Less, Equal, Greater, is_eq, refl, sym, ap, subst, ◌∙◌}
use Rattle.std.specs.FinMap.Entries.{is_sorted, below_all, is_sorted-put, same_entries}
use Rattle.std.specs.Ordering.{is_lt}
use Rattle.std.proofs.lemmas.Cmp.{nat_list_cmp_total}
use Rattle.std.proofs.lemmas.List.Elements.{All-nil, All-cons, All-weaker, All-map}
use Rattle.std.proofs.lemmas.List.Folds.{list_all-map}
use Rattle.std.proofs.lemmas.Map.Text.{is_eq-slice_cmp}
use Rattle.std.proofs.lemmas.Option.{same_Some}
use Rattle.sb_value.specs.Equal.{bytes_same}
use Rattle.sb_value.specs.Order.{bytes_cmp}
use Rattle.sb_value.proofs.Truths.{T-parts}
use Rattle.sb_rule.specs.declared.change.Change.{Change}
use Rattle.sb_relation.specs.Buckets.{grown}
use Rattle.sb_relation.specs.Changes.{changed, changed_rows, with_change}
use Rattle.sb_relation.specs.Db
use Rattle.sb_relation.specs.Db.{Name, Relation, relation_at, with_relation}
use Rattle.sb_standing.specs.Instances.{owners_of}
use Rattle.sb_standing.specs.Asked.{change_kept, changed_kept}
use Rattle.sb_standing.specs.Standing.{has_no_join, is_join, owners_in}
use Rattle.sb_standing.specs.Tables.{Kept, db_of, entry_of, kept_at}
use Rattle.sb_standing.proofs.ChangedLemmas.{after_change, relation_at-changed}
use Rattle.sb_standing.proofs.KeptLemmas.{tied_name, kept_at-name, relation_at-kept}

-- ---- one relation of a name
below_apart : (o : Ordering) → T (is_lt o) → is_eq o ≡ true → ⊥
below_apart Less is tied = true≢false (sym tied)
below_apart Equal is tied = is
below_apart Greater is tied = is

none_below : (name : Name) (kept : List Kept) → T (below_all bytes_cmp name (db_of kept)) → All (λ k. bytes_eq k.name name ≡ true → ⊥) kept
none_below name [] below = All-nil (λ (k : Kept). bytes_eq k.name name ≡ true → ⊥)
none_below name (k ∷ kept) below =
    let parts = T-parts (is_lt (bytes_cmp name k.name)) (below_all bytes_cmp name (db_of kept)) below in
    All-cons (λ (x : Kept). bytes_eq x.name name ≡ true → ⊥) k kept (λ same. below_apart (bytes_cmp name k.name) parts.0 (tied_name name k.name ∙ same)) (none_below name kept parts.1)

pub kept_at-only : (kept : List Kept) (name : Name) (k : Kept) → T (is_sorted bytes_cmp (db_of kept)) → kept_at kept name ≡ Some k → All (λ x. bytes_eq x.name name ≡ true → x ≡ k) kept
kept_at-only [] name k rising at = absurd (cc)
kept_at-only (x ∷ kept) name k rising at = by (bytes_eq x.name name) refl (kept_at-only kept name k parts.1) at
  where
    parts : T (below_all bytes_cmp x.name (db_of kept)) × T (is_sorted bytes_cmp (db_of kept))
    parts = T-parts (below_all bytes_cmp x.name (db_of kept)) (is_sorted bytes_cmp (db_of kept)) rising

    by : (b : Bool) → bytes_eq x.name name ≡ b → (kept_at kept name ≡ Some k → All (λ y. bytes_eq y.name name ≡ true → y ≡ k) kept) → cond b (Some x) (kept_at kept name) ≡ Some k →
        All (λ y. bytes_eq y.name name ≡ true → y ≡ k) (x ∷ kept)
    by true same rest at =
        let on = (bytes_same x.name name).0 same in
        All-cons (λ (y : Kept). bytes_eq y.name name ≡ true → y ≡ k) x kept (λ _. same_Some x k at)
        (All-weaker (λ (y : Kept). bytes_eq y.name x.name ≡ true → ⊥) (λ (y : Kept). bytes_eq y.name name ≡ true → y ≡ k)
        (λ y apart is. absurd (apart (ap (bytes_eq y.name) on ∙ is))) kept (none_below x.name kept parts.0))
    by false other rest at = All-cons (λ (y : Kept). bytes_eq y.name name ≡ true → y ≡ k) x kept (λ is. absurd (true≢false (sym is ∙ other))) (rest at)

-- what is so of it, and of those of other names
pub All-but : (P : Kept → Type 0) (kept : List Kept) (name : Name) (k : Kept) → T (is_sorted bytes_cmp (db_of kept)) → kept_at kept name ≡ Some k → P k → All (λ x. bytes_eq x.name name ≡ false → P x) kept → All P kept
All-but P kept name k rising at here others = λ i d in'. by (get_or kept i d) (bytes_eq (get_or kept i d).name name) refl (kept_at-only kept name k rising at i d in') (others i d in')
  where
    by : (x : Kept) (b : Bool) → bytes_eq x.name name ≡ b → (bytes_eq x.name name ≡ true → x ≡ k) → (bytes_eq x.name name ≡ false → P x) → P x
    by x true same only other = subst P (sym (only same)) here
    by x false same only other = other same

-- ---- what stays
-- its relation is changed
abbrev pub with_changed : Change → Kept → Kept
with_changed c k = record k { relation = with_change k.relation c (changed_rows k.relation.rows c) }

pub change_kept-same : {X : Type 0} (of : Kept → X) (name : Name) (c : Change) → ((k : Kept) → of (with_changed c k) ≡ of k) → (k : Kept) → of (change_kept name c k) ≡ of k
change_kept-same of name c same k = elim (bytes_eq k.name name) as (λ b. of (cond b (with_changed c k) k) ≡ of k) [ true ↦ same k | false ↦ refl ]

pub changed_kept-same : {X : Type 0} (of : Kept → X) (name : Name) (c : Change) → ((k : Kept) → of (with_changed c k) ≡ of k) → (kept : List Kept) → map of (changed_kept name c kept) ≡ map of kept
changed_kept-same of name c same [] = refl
changed_kept-same of name c same (k ∷ kept) = λ i. change_kept-same of name c same k i ∷ changed_kept-same of name c same kept i

-- names, descriptors, the catalogue's entries and owners
pub names-changed : (name : Name) (c : Change) (kept : List Kept) → map (λ k. k.name) (changed_kept name c kept) ≡ map (λ k. k.name) kept
names-changed name c = changed_kept-same (λ k. k.name) name c (λ k. refl)

pub descriptors-changed : (name : Name) (c : Change) (kept : List Kept) → map (λ k. k.descriptor) (changed_kept name c kept) ≡ map (λ k. k.descriptor) kept
descriptors-changed name c = changed_kept-same (λ k. k.descriptor) name c (λ k. refl)

pub entries-changed : (name : Name) (c : Change) (kept : List Kept) → map entry_of (changed_kept name c kept) ≡ map entry_of kept
entries-changed name c = changed_kept-same entry_of name c (λ k. refl)

pub owners_in-changed : (name : Name) (c : Change) (kept : List Kept) → owners_in (changed_kept name c kept) ≡ owners_in kept
owners_in-changed name c [] = refl
owners_in-changed name c (k ∷ kept) = λ i. owners_of_it k i ++ owners_in-changed name c kept i
  where
    owners_of_it : (k : Kept) → owners_of (change_kept name c k).descriptor ≡ owners_of k.descriptor
    owners_of_it = change_kept-same (λ k. owners_of k.descriptor) name c (λ k. refl)

pub has_no_join-changed : (name : Name) (c : Change) (k : Kept) → has_no_join (change_kept name c k) ≡ has_no_join k
has_no_join-changed name c =
    change_kept-same has_no_join name c (λ k. list_all-map (λ (a : Db.Attached). not (is_join a.rule)) (grown c (changed_rows k.relation.rows c)) k.relation.attachments)

pub joinless-changed : (name : Name) (c : Change) (kept : List Kept) → All (λ k. has_no_join k ≡ true) kept → All (λ k. has_no_join k ≡ true) (changed_kept name c kept)
joinless-changed name c kept joinless =
    All-map (λ (k : Kept). has_no_join k ≡ true) (change_kept name c) kept
    (All-weaker (λ (k : Kept). has_no_join k ≡ true) (λ (k : Kept). has_no_join (change_kept name c k) ≡ true) (λ k is. has_no_join-changed name c k ∙ is) kept joinless)

-- ---- the database
name-changed : (name : Name) (c : Change) (k : Kept) → (change_kept name c k).name ≡ k.name
name-changed name c = change_kept-same (λ k. k.name) name c (λ k. refl)

below-changed : (x name : Name) (c : Change) (kept : List Kept) → below_all bytes_cmp x (db_of (changed_kept name c kept)) ≡ below_all bytes_cmp x (db_of kept)
below-changed x name c [] = refl
below-changed x name c (k ∷ kept) = λ i. is_lt (bytes_cmp x (name-changed name c k i)) && below-changed x name c kept i

is_sorted-changed : (name : Name) (c : Change) (kept : List Kept) → is_sorted bytes_cmp (db_of (changed_kept name c kept)) ≡ is_sorted bytes_cmp (db_of kept)
is_sorted-changed name c [] = refl
is_sorted-changed name c (k ∷ kept) =
    (λ i. below_all bytes_cmp (name-changed name c k i) (db_of (changed_kept name c kept)) && is_sorted-changed name c kept i)
    ∙ ap (λ b. b && is_sorted bytes_cmp (db_of kept)) (below-changed k.name name c kept)

pub rising-changed : (name : Name) (c : Change) (kept : List Kept) → T (is_sorted bytes_cmp (db_of kept)) → T (is_sorted bytes_cmp (db_of (changed_kept name c kept)))
rising-changed name c kept rising = subst T (sym (is_sorted-changed name c kept)) rising

pub rising-before : (name : Name) (c : Change) (kept : List Kept) → T (is_sorted bytes_cmp (db_of (changed_kept name c kept))) → T (is_sorted bytes_cmp (db_of kept))
rising-before name c kept rising = subst T (is_sorted-changed name c kept) rising

pub kept_at-changed : (name : Name) (c : Change) (kept : List Kept) (other : Name) → kept_at (changed_kept name c kept) other ≡ option_map (change_kept name c) (kept_at kept other)
kept_at-changed name c [] other = refl
kept_at-changed name c (k ∷ kept) other =
    ap (λ (n : Name). cond (bytes_eq n other) (Some (change_kept name c k)) (kept_at (changed_kept name c kept) other)) (name-changed name c k)
    ∙ elim (bytes_eq k.name other) as (λ b. cond b (Some (change_kept name c k)) (kept_at (changed_kept name c kept) other) ≡ option_map (change_kept name c) (cond b (Some k) (kept_at kept other))) [
      | true ↦ refl
      | false ↦ kept_at-changed name c kept other
    ]

-- the changed one
pub kept_at-with_changed : (name : Name) (c : Change) (kept : List Kept) (k : Kept) → kept_at kept name ≡ Some k → kept_at (changed_kept name c kept) name ≡ Some (with_changed c k)
kept_at-with_changed name c kept k at =
    kept_at-changed name c kept name ∙ ap (option_map (change_kept name c)) at
    ∙ ap (λ b. Some (cond b (with_changed c k) k)) ((bytes_same k.name name).1 (kept_at-name kept name k at))

relation-changed : (name : Name) (c : Change) (k : Kept) → (change_kept name c k).relation ≡ after_change k.name name c k.relation
relation-changed name c k = elim (bytes_eq k.name name) as (λ b. (cond b (with_changed c k) k).relation ≡ cond b (with_change k.relation c (changed_rows k.relation.rows c)) k.relation) [ true ↦ refl | false ↦ refl ]

found-changed : (name : Name) (c : Change) (kept : List Kept) (other : Name) → relation_at (db_of (changed_kept name c kept)) other ≡ relation_at (changed (db_of kept) name c) other
found-changed name c kept other =
    relation_at-kept (changed_kept name c kept) other ∙ ap (option_map (λ (k : Kept). k.relation)) (kept_at-changed name c kept other)
    ∙ by (kept_at kept other) refl
    ∙ sym (relation_at-changed (db_of kept) name c other ∙ ap (option_map (after_change other name c)) (relation_at-kept kept other))
  where
    by : (o : Option Kept) → kept_at kept other ≡ o → option_map (λ (k : Kept). k.relation) (option_map (change_kept name c) o) ≡ option_map (after_change other name c) (option_map (λ (k : Kept). k.relation) o)
    by None at = refl
    by (Some k) at = ap Some (relation-changed name c k ∙ ap (λ (n : Name). after_change n name c k.relation) (kept_at-name kept other k at))

pub rising-put : (name : Name) (c : Change) (db : Db.Db) → T (is_sorted bytes_cmp db) → T (is_sorted bytes_cmp (changed db name c))
rising-put name c db rising =
    elim (relation_at db name) as (λ (o : Option Relation). T (is_sorted bytes_cmp (elim o [ None ↦ db | Some r ↦ with_relation db name (with_change r c (changed_rows r.rows c)) ]))) [
      | None ↦ rising
      | Some r ↦ is_sorted-put bytes_cmp nat_list_cmp_total name (with_change r c (changed_rows r.rows c)) db rising
    ]

tied : (x y : Name) → bytes_cmp x y ≡ Equal → x ≡ y
tied x y tie = (bytes_same x y).0 (sym (is_eq-slice_cmp x y) ∙ ap is_eq tie)

pub db_of-changed : (name : Name) (c : Change) (kept : List Kept) → T (is_sorted bytes_cmp (db_of kept)) → db_of (changed_kept name c kept) ≡ changed (db_of kept) name c
db_of-changed name c kept rising =
    same_entries bytes_cmp nat_list_cmp_total tied (db_of (changed_kept name c kept)) (changed (db_of kept) name c) (rising-changed name c kept rising) (rising-put name c (db_of kept) rising) (found-changed name c kept)
