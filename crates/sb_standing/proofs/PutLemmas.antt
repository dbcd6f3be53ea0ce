-- Relations that are put among those that are kept, and others that are taken from them.
use Rattle.std.proofs.Common.{◌≡◌, Bool, true, false, cond, not, ◌&&◌, T, List, [], ◌∷◌, map, All, Option, Some, None, Ordering, Less, Equal, Greater, bytes_eq, refl, sym, ap, subst, ◌∙◌, true≢false}
use Rattle.std.specs.FinMap.Entries.{by_order, put, where_key, below_all, is_sorted, is_sorted-put, is_sorted-where_key}
use Rattle.std.specs.Ordering.{is_eq, is_lt}
use Rattle.std.proofs.lemmas.Bool.{and_parts, not-true}
use Rattle.std.proofs.lemmas.Cmp.{nat_list_cmp_total}
use Rattle.std.proofs.lemmas.List.Elements.{All-head, All-tail, All-cons, All-nil, All-weaker, All-filter, filter_passes}
use Rattle.std.proofs.lemmas.Map.Text.{is_eq-slice_cmp}
use Rattle.sb_value.specs.Equal.{bytes_same}
use Rattle.sb_value.specs.Order.{bytes_cmp}
use Rattle.sb_value.proofs.Truths.{T-true, true-T}
use Rattle.sb_node.specs.Entries.{key_cmp}
use Rattle.sb_relation.specs.Db.{Name, with_relation}
use Rattle.sb_catalog.specs.Descriptors.{descriptor_spelling}
use Rattle.sb_standing.specs.Tables.{Kept, entry_of, db_of, kept_at, put_kept, without_kept, entries_without}
use Rattle.sb_standing.proofs.KeptLemmas.{itself_name}

-- names that tie are one
pub one_name : (a b : Name) → bytes_cmp a b ≡ Equal → a ≡ b
one_name a b is = (bytes_same a b).0 (sym (is_eq-slice_cmp a b) ∙ ap is_eq is)

-- a name that is below another is another
pub other_name : (a b : Name) (o : Ordering) → is_eq o ≡ false → bytes_cmp a b ≡ o → bytes_eq a b ≡ false
other_name a b o apart is = sym (is_eq-slice_cmp a b) ∙ ap is_eq is ∙ apart

pub turned_name : (a b : Name) → bytes_eq a b ≡ false → bytes_eq b a ≡ false
turned_name a b is = by (bytes_eq b a) refl
  where
    by : (t : Bool) → bytes_eq b a ≡ t → t ≡ false
    by true e = absurd (true≢false (sym ((bytes_same a b).1 (sym ((bytes_same b a).0 e))) ∙ is))
    by false e = refl

-- ---- one is put
pub map-put : {X : Type 0} (of : Kept → X) (k : Kept) (kept : List Kept) → map (λ o. (o.name, of o)) (put_kept k kept) ≡ put bytes_cmp k.name (of k) (map (λ o. (o.name, of o)) kept)
map-put of k [] = refl
map-put of k (o ∷ kept) = by (bytes_cmp k.name o.name) refl (map-put of k kept)
  where
    by : (r : Ordering) → bytes_cmp k.name o.name ≡ r → map (λ o. (o.name, of o)) (put_kept k kept) ≡ put bytes_cmp k.name (of k) (map (λ o. (o.name, of o)) kept)
        → map (λ o. (o.name, of o)) (by_order r (k ∷ o ∷ kept) (k ∷ kept) (o ∷ put_kept k kept))
        ≡ by_order r ((k.name, of k) ∷ (o.name, of o) ∷ map (λ o. (o.name, of o)) kept) ((o.name, of k) ∷ map (λ o. (o.name, of o)) kept) ((o.name, of o) ∷ put bytes_cmp k.name (of k) (map (λ o. (o.name, of o)) kept))
    by Less is rest = refl
    by Equal is rest = ap (λ (n : Name). (n, of k) ∷ map (λ o. (o.name, of o)) kept) (one_name k.name o.name is)
    by Greater is rest = ap (λ l. (o.name, of o) ∷ l) rest

pub db_of-put : (k : Kept) (kept : List Kept) → db_of (put_kept k kept) ≡ with_relation (db_of kept) k.name k.relation
db_of-put k kept = map-put (λ o. o.relation) k kept

pub entries-put : (k : Kept) (kept : List Kept) → map entry_of (put_kept k kept) ≡ put key_cmp k.name (descriptor_spelling k.descriptor) (map entry_of kept)
entries-put k kept = map-put (λ o. descriptor_spelling o.descriptor) k kept

pub rising-put : (k : Kept) (kept : List Kept) → T (is_sorted bytes_cmp (db_of kept)) → T (is_sorted bytes_cmp (db_of (put_kept k kept)))
rising-put k kept rising = subst (λ db. T (is_sorted bytes_cmp db)) (sym (db_of-put k kept)) (is_sorted-put bytes_cmp nat_list_cmp_total k.name k.relation (db_of kept) rising)

pub All-put : (P : Kept → Type 0) (k : Kept) (kept : List Kept) → P k → All P kept → All P (put_kept k kept)
All-put P k [] is all = All-cons P k [] is all
All-put P k (o ∷ kept) is all =
    elim (bytes_cmp k.name o.name) as (λ r. All P (by_order r (k ∷ o ∷ kept) (k ∷ kept) (o ∷ put_kept k kept))) [
      | Less ↦ All-cons P k (o ∷ kept) is all
      | Equal ↦ All-cons P k kept is (All-tail P o kept all)
      | Greater ↦ All-cons P o (put_kept k kept) (All-head P o kept all) (All-put P k kept is (All-tail P o kept all))
    ]

pub kept_at-put : (k : Kept) (kept : List Kept) (name : Name) → kept_at (put_kept k kept) name ≡ cond (bytes_eq k.name name) (Some k) (kept_at kept name)
kept_at-put k [] name = refl
kept_at-put k (o ∷ kept) name = by (bytes_cmp k.name o.name) refl (kept_at-put k kept name)
  where
    same : (a b : Bool) → a ≡ b → (x y : Option Kept) → cond a x y ≡ cond a x (cond b (Some o) y)
    same true b is x y = refl
    same false b is x y = ap (λ t. cond t (Some o) y) is

    apart : (a b : Bool) → (a ≡ true → b ≡ true → ⊥) → (x y z : Option Kept) → cond b y (cond a x z) ≡ cond a x (cond b y z)
    apart true true never x y z = absurd (never refl refl)
    apart true false never x y z = refl
    apart false b never x y z = refl

    by : (r : Ordering) → bytes_cmp k.name o.name ≡ r → kept_at (put_kept k kept) name ≡ cond (bytes_eq k.name name) (Some k) (kept_at kept name)
        → kept_at (by_order r (k ∷ o ∷ kept) (k ∷ kept) (o ∷ put_kept k kept)) name ≡ cond (bytes_eq k.name name) (Some k) (cond (bytes_eq o.name name) (Some o) (kept_at kept name))
    by Less is rest = refl
    by Equal is rest = same (bytes_eq k.name name) (bytes_eq o.name name) (ap (λ n. bytes_eq n name) (one_name k.name o.name is)) (Some k) (kept_at kept name)
    by Greater is rest =
        ap (λ x. cond (bytes_eq o.name name) (Some o) x) rest
        ∙ apart (bytes_eq k.name name) (bytes_eq o.name name)
        (λ a b. true≢false (sym ((bytes_same k.name o.name).1 ((bytes_same k.name name).0 a ∙ sym ((bytes_same o.name name).0 b))) ∙ other_name k.name o.name Greater refl is))
        (Some k) (Some o) (kept_at kept name)

-- ---- one is taken
pub map-without : {X : Type 0} (of : Kept → X) (name : Name) (kept : List Kept) → map (λ o. (o.name, of o)) (without_kept name kept) ≡ where_key bytes_cmp (λ n. not (bytes_eq n name)) (map (λ o. (o.name, of o)) kept)
map-without of name [] = refl
map-without of name (o ∷ kept) =
    elim (not (bytes_eq o.name name))
    as (λ b. map (λ o. (o.name, of o)) (cond b (o ∷ without_kept name kept) (without_kept name kept))
    ≡ cond b ((o.name, of o) ∷ where_key bytes_cmp (λ n. not (bytes_eq n name)) (map (λ o. (o.name, of o)) kept)) (where_key bytes_cmp (λ n. not (bytes_eq n name)) (map (λ o. (o.name, of o)) kept))) [
      | true ↦ ap (λ l. (o.name, of o) ∷ l) (map-without of name kept)
      | false ↦ map-without of name kept
    ]

pub db_of-without : (name : Name) (kept : List Kept) → db_of (without_kept name kept) ≡ where_key bytes_cmp (λ n. not (bytes_eq n name)) (db_of kept)
db_of-without name kept = map-without (λ o. o.relation) name kept

pub entries-without : (name : Name) (kept : List Kept) → map entry_of (without_kept name kept) ≡ entries_without name (map entry_of kept)
entries-without name kept = map-without (λ o. descriptor_spelling o.descriptor) name kept

pub rising-without : (name : Name) (kept : List Kept) → T (is_sorted bytes_cmp (db_of kept)) → T (is_sorted bytes_cmp (db_of (without_kept name kept)))
rising-without name kept rising = subst (λ db. T (is_sorted bytes_cmp db)) (sym (db_of-without name kept)) (is_sorted-where_key bytes_cmp (λ n. not (bytes_eq n name)) (db_of kept) rising)

-- what is so of all is so of those of other names
pub All-without : (P : Kept → Type 0) (name : Name) (kept : List Kept) → All P kept → All (λ k. (bytes_eq k.name name ≡ false) × P k) (without_kept name kept)
All-without P name kept all n d h =
    let test : Kept → Bool = λ k. not (bytes_eq k.name name) in
    (not-true _ (filter_passes test kept n d h), All-filter test P kept all n d h)

pub kept_at-without : (name : Name) (kept : List Kept) (n : Name) → bytes_eq n name ≡ false → kept_at (without_kept name kept) n ≡ kept_at kept n
kept_at-without name [] n apart = refl
kept_at-without name (o ∷ kept) n apart = by (bytes_eq o.name name) refl (kept_at-without name kept n apart)
  where
    by : (b : Bool) → bytes_eq o.name name ≡ b → kept_at (without_kept name kept) n ≡ kept_at kept n
        → kept_at (cond (not b) (o ∷ without_kept name kept) (without_kept name kept)) n ≡ cond (bytes_eq o.name n) (Some o) (kept_at kept n)
    by true same rest =
        rest ∙ sym (ap (λ t. cond t (Some o) (kept_at kept n)) (ap (λ x. bytes_eq x n) ((bytes_same o.name name).0 same) ∙ turned_name n name apart))
    by false other rest = ap (λ x. cond (bytes_eq o.name n) (Some o) x) rest

-- ---- in the order of names no two have one name
-- the first is below all others, and those rise
pub rising_parts : (k : Kept) (kept : List Kept) → T (is_sorted bytes_cmp (db_of (k ∷ kept))) → T (below_all bytes_cmp k.name (db_of kept)) × T (is_sorted bytes_cmp (db_of kept))
rising_parts k kept rising =
    let parts = and_parts (below_all bytes_cmp k.name (db_of kept)) (is_sorted bytes_cmp (db_of kept)) (T-true _ rising) in
    (true-T _ parts.0, true-T _ parts.1)

below_other : (a b : Name) → is_lt (bytes_cmp a b) ≡ true → bytes_eq b a ≡ false
below_other a b less = turned_name a b (by (bytes_cmp a b) refl less)
  where
    by : (r : Ordering) → bytes_cmp a b ≡ r → is_lt r ≡ true → bytes_eq a b ≡ false
    by Less is less = other_name a b Less refl is
    by Equal is less = absurd (true≢false (sym less))
    by Greater is less = absurd (true≢false (sym less))

below_parts : (name : Name) (o : Kept) (kept : List Kept) → T (below_all bytes_cmp name (db_of (o ∷ kept))) → (bytes_eq o.name name ≡ false) × T (below_all bytes_cmp name (db_of kept))
below_parts name o kept below =
    let parts = and_parts (is_lt (bytes_cmp name o.name)) (below_all bytes_cmp name (db_of kept)) (T-true _ below) in
    (below_other name o.name parts.0, true-T _ parts.1)

pub below_less : (a b : Name) (kept : List Kept) → bytes_cmp a b ≡ Less → T (below_all bytes_cmp b (db_of kept)) → T (below_all bytes_cmp a (db_of kept))
below_less a b [] is below = tt
below_less a b (o ∷ kept) is below =
    let parts = and_parts (is_lt (bytes_cmp b o.name)) (below_all bytes_cmp b (db_of kept)) (T-true _ below) in
    true-T _ (λ i. ap is_lt (nat_list_cmp_total.trans a b o.name is (less (bytes_cmp b o.name) parts.0)) i && T-true _ (below_less a b kept is (true-T _ parts.1)) i)
  where
    less : (r : Ordering) → is_lt r ≡ true → r ≡ Less
    less Less e = refl
    less Equal e = absurd (true≢false (sym e))
    less Greater e = absurd (true≢false (sym e))

-- a name that is below all isn't among them
pub none_below : (name : Name) (kept : List Kept) → T (below_all bytes_cmp name (db_of kept)) → kept_at kept name ≡ None
none_below name [] below = refl
none_below name (o ∷ kept) below =
    let parts = below_parts name o kept below in
    ap (λ t. cond t (Some o) (kept_at kept name)) parts.0 ∙ none_below name kept parts.1

pub without_below : (name : Name) (kept : List Kept) → T (below_all bytes_cmp name (db_of kept)) → without_kept name kept ≡ kept
without_below name [] below = refl
without_below name (o ∷ kept) below =
    let parts = below_parts name o kept below in
    ap (λ t. cond (not t) (o ∷ without_kept name kept) (without_kept name kept)) parts.0 ∙ ap (λ l. o ∷ l) (without_below name kept parts.1)

-- each is what is kept under its name
pub All-own : (kept : List Kept) → T (is_sorted bytes_cmp (db_of kept)) → All (λ k. kept_at kept k.name ≡ Some k) kept
All-own [] rising = All-nil (λ (k : Kept). kept_at [] k.name ≡ Some k)
All-own (o ∷ kept) rising =
    let parts = rising_parts o kept rising in
    All-cons (λ (k : Kept). kept_at (o ∷ kept) k.name ≡ Some k) o kept (ap (λ t. cond t (Some o) (kept_at kept o.name)) (itself_name o.name))
    (All-weaker (λ (k : Kept). kept_at kept k.name ≡ Some k) (λ (k : Kept). kept_at (o ∷ kept) k.name ≡ Some k) (λ k own. by k own (bytes_eq o.name k.name) refl (none_below o.name kept parts.0)) kept (All-own kept parts.1))
  where
    not_None : (k : Kept) → Some k ≡ None → ⊥
    not_None k is = absurd (cc)

    by : (k : Kept) → kept_at kept k.name ≡ Some k → (b : Bool) → bytes_eq o.name k.name ≡ b → kept_at kept o.name ≡ None → kept_at (o ∷ kept) k.name ≡ Some k
    by k own true same none = let e : o.name ≡ k.name = (bytes_same o.name k.name).0 same in absurd (not_None k (sym own ∙ ap (kept_at kept) (sym e) ∙ none))
    by k own false other none = ap (λ t. cond t (Some o) (kept_at kept k.name)) other ∙ own
