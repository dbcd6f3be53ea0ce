-- Relations one after the other, in the order of their names.
use Rattle.std.proofs.Common.{◌≡◌, ℕ, ◌+◌, ◌^◌, ◌<◌, ◌≤◌, nat_lt, Bool, true, false, cond, List, [], ◌∷◌, map, length, Option, Some, None, option_map, T, refl, sym, ap, ◌∙◌, subst, arith, is_lt, Ordering, Less, Equal, Greater}
use Rattle.std.specs.List.{find}
use Rattle.std.specs.Ordering.{ordering_reverse}
use Rattle.std.specs.FinMap.Entries.{is_sorted, below_all}
use Rattle.std.proofs.lemmas.Bool.{ltb-true, ltb-false}
use Rattle.std.proofs.lemmas.Cmp.{nat_list_cmp_total, tied_itself}
use Rattle.std.proofs.lemmas.List.{length-map}
use Rattle.std.proofs.lemmas.Option.{same_Some}
use Rattle.sb_value.specs.Order.{bytes_cmp}
use Rattle.sb_value.proofs.Truths.{T-parts, is_lt-less, T-less}
use Rattle.sb_node.specs.Entries.{Entry}
use Rattle.sb_node.specs.Page.{has_form, node_of}
use Rattle.sb_forms.specs.Pages.{Pages}
use Rattle.sb_forms.specs.Read.{has, read_tree}
use Rattle.sb_forms.proofs.Maps.{map_tree}
use Rattle.sb_forms.specs.Tree.{level_of, nodes}
use Rattle.sb_forms.specs.TreePages.{tree_met}
use Rattle.sb_relation.specs.Db
use Rattle.sb_relation.specs.Db.{Name, Relation, Db as Database}
use Rattle.sb_fold.specs.Extensions.{Extensions}
use Rattle.sb_fold.specs.Finish.{fails_late, first_failing}
use Rattle.sb_standing.proofs.Frames.{met_node}
use Rattle.sb_standing.proofs.Reading.{has_says, read_root}
use Rattle.sb_standing.proofs.Few.{apart_few, items_few}
use Rattle.sb_registry.specs.Boxes.{Meanings}
use Rattle.sb_drive.specs.Slots.{Slots, owned}
use Rattle.sb_drive.proofs.OwnedLemmas.{bytes_for-free}
use Rattle.sb_standing.specs.Tables.{Kept, Tables, above, db_of, entry_of, first_above, is_above, kept_at}
use Rattle.sb_standing.proofs.CatalogueLemmas.{first_above-all}
use Rattle.sb_standing.proofs.PutLemmas.{All-own}
use Rattle.sb_catalog.specs.declared.descriptor.Descriptor.{Descriptor}
use Rattle.sb_asking.specs.OpenRelation.{OpenRelation}
use Rattle.sb_asking.specs.Opened.{IsDurable, IsOpen, header_of, kept_header}
use Rattle.sb_engine.specs.Failing.{first_late}
use Rattle.sb_engine.specs.Working.{IsOpened}

-- ---- relations behind a name
above-all : (db : Database) → above None db ≡ db
above-all [] = refl
above-all (e ∷ db) = ap (λ (l : Database). e ∷ l) (above-all db)

-- all of those that stand behind a name that is behind the low one
above-low : (low : Option Name) (name : Name) (db : Database) → is_above low name ≡ true → T (below_all bytes_cmp name db) → above low db ≡ db
above-low None name db up below = above-all db
above-low (Some low) name [] up below = refl
above-low (Some low) name (e ∷ db) up below =
    let both = T-parts (is_lt (bytes_cmp name e.0)) (below_all bytes_cmp name db) below in
    let over = nat_list_cmp_total.trans low name e.0 (is_lt-less (bytes_cmp low name) up) (T-less (bytes_cmp name e.0) both.0) in
    ap (λ (o : Ordering). cond (is_lt o) (e ∷ above (Some low) db) (above (Some low) db)) over ∙ ap (λ (l : Database). e ∷ l) (above-low (Some low) name db up both.1)

above-behind : (name : Name) (db : Database) → T (below_all bytes_cmp name db) → above (Some name) db ≡ db
above-behind name [] below = refl
above-behind name (e ∷ db) below =
    let both = T-parts (is_lt (bytes_cmp name e.0)) (below_all bytes_cmp name db) below in
    ap (λ (o : Ordering). cond (is_lt o) (e ∷ above (Some name) db) (above (Some name) db)) (T-less (bytes_cmp name e.0) both.0) ∙ ap (λ (l : Database). e ∷ l) (above-behind name db both.1)

above-not : (name : Name) (e : Name × Relation) (db : Database) (o : Ordering) → bytes_cmp name e.0 ≡ o → is_lt o ≡ false → above (Some name) (e ∷ db) ≡ above (Some name) db
above-not name e db o is lt = ap (λ (b : Bool). cond b (e ∷ above (Some name) db) (above (Some name) db)) (ap is_lt is ∙ lt)

-- a name below all relations is below the one that is found
below-found : (name : Name) (low : Option Name) (kept : List Kept) (k : Kept) → T (below_all bytes_cmp name (db_of kept)) → first_above low kept ≡ Some k → bytes_cmp name k.name ≡ Less
below-found name low [] k below is = absurd (cc)
below-found name low (x ∷ kept) k below is =
    let both = T-parts (is_lt (bytes_cmp name x.name)) (below_all bytes_cmp name (db_of kept)) below in
    by (is_above low x.name) is (T-less (bytes_cmp name x.name) both.0) (below-found name low kept k both.1)
  where
    by : (b : Bool) → cond b (Some x) (first_above low kept) ≡ Some k → bytes_cmp name x.name ≡ Less → (first_above low kept ≡ Some k → bytes_cmp name k.name ≡ Less) → bytes_cmp name k.name ≡ Less
    by true is first rest = subst (λ (y : Kept). bytes_cmp name y.name ≡ Less) (same_Some x k is) first
    by false is first rest = rest is

-- those behind a name are the first one and those behind that one
pub above-next : (low : Option Name) (kept : List Kept) (k : Kept) → T (is_sorted bytes_cmp (db_of kept)) → first_above low kept ≡ Some k → above low (db_of kept) ≡ (k.name, k.relation) ∷ above (Some k.name) (db_of kept)
above-next low [] k rises is = absurd (cc)
above-next low (x ∷ kept) k rises is =
    let both = T-parts (below_all bytes_cmp x.name (db_of kept)) (is_sorted bytes_cmp (db_of kept)) rises in
    by (is_above low x.name) refl is both.0 (above-next low kept k both.1)
  where
    e : Name × Relation
    e = (x.name, x.relation)

    by : (b : Bool) → is_above low x.name ≡ b → cond b (Some x) (first_above low kept) ≡ Some k → T (below_all bytes_cmp x.name (db_of kept))
        → (first_above low kept ≡ Some k → above low (db_of kept) ≡ (k.name, k.relation) ∷ above (Some k.name) (db_of kept))
        → cond b (e ∷ above low (db_of kept)) (above low (db_of kept)) ≡ (k.name, k.relation) ∷ above (Some k.name) (e ∷ db_of kept)
    by true up is below rest =
        subst (λ (y : Kept). e ∷ above low (db_of kept) ≡ (y.name, y.relation) ∷ above (Some y.name) (e ∷ db_of kept)) (same_Some x k is)
        (ap (λ (l : Database). e ∷ l) (above-low low x.name (db_of kept) up below ∙ sym (above-behind x.name (db_of kept) below)
        ∙ sym (above-not x.name e (db_of kept) Equal (tied_itself nat_list_cmp_total x.name) refl)))
    by false up is below rest =
        rest is
        ∙ ap (λ (l : Database). (k.name, k.relation) ∷ l) (sym (above-not k.name e (db_of kept) Greater (nat_list_cmp_total.antisymm k.name x.name ∙ ap ordering_reverse (below-found x.name low kept k below is)) refl))

pub above-none : (low : Option Name) (kept : List Kept) → first_above low kept ≡ None → above low (db_of kept) ≡ []
above-none low [] is = refl
above-none low (x ∷ kept) is = by (is_above low x.name) is (above-none low kept)
  where
    by : (b : Bool) → cond b (Some x) (first_above low kept) ≡ None → (first_above low kept ≡ None → above low (db_of kept) ≡ []) → cond b ((x.name, x.relation) ∷ above low (db_of kept)) (above low (db_of kept)) ≡ []
    by true is rest = absurd (cc)
    by false is rest = rest is

-- ---- the relation that comes next is open
pub opened_next : (m : Meanings) (kept : List Kept) (low : Option Name) (one : OpenRelation) → T (is_sorted bytes_cmp (db_of kept)) → IsOpen m one → Some (header_of one) ≡ option_map kept_header (first_above low kept)
    → (k : Kept) × (first_above low kept ≡ Some k) × (one.name ≡ k.name) × (is : IsOpened m kept one) × (is.one ≡ k)
opened_next m kept low one rising is_open found = by (first_above low kept) refl found
  where
    by : (o : Option Kept) → first_above low kept ≡ o → Some (header_of one) ≡ option_map kept_header o
        → (k : Kept) × (first_above low kept ≡ Some k) × (one.name ≡ k.name) × (is : IsOpened m kept one) × (is.one ≡ k)
    by None at is = absurd (cc)
    by (Some k) at is =
        let same : header_of one ≡ kept_header k = same_Some (header_of one) (kept_header k) is in
        let named : one.name ≡ k.name = ap (λ (x : Name × Descriptor). x.0) same in
        let own : kept_at kept k.name ≡ Some k = first_above-all (λ (x : Kept). kept_at kept x.name ≡ Some x) low kept k (All-own kept rising) at in
        (k, at, named, record { is = is_open; one = k; at = ap (λ (n : Name). kept_at kept n) named ∙ own; same = sym (ap (λ (x : Name × Descriptor). x.1) same) }, refl)

-- ---- a walk
abbrev failing_or : Option (Name × Name) → Name → Option Db.Attached → Option (Name × Name)
failing_or rest name None = rest
failing_or rest name (Some a) = Some (name, a.name)

-- what the rest finds is what the whole finds, and so many relations were passed
pub record IsWalked (ext : Extensions) (kept : List Kept) (last : Option Name) (count : ℕ) : Type 0 where
  pub rest : first_failing ext (db_of kept) (above last (db_of kept)) ≡ first_failing ext (db_of kept) (db_of kept)
  pub few : count + length (above last (db_of kept)) ≤ length (db_of kept)

pub walked-none : (ext : Extensions) (kept : List Kept) → IsWalked ext kept None 0
walked-none ext kept = record {
  rest = ap (λ (l : Database). first_failing ext (db_of kept) l) (above-all (db_of kept));
  few = omega (arith, ap (λ (l : Database). length l) (above-all (db_of kept)));
}

-- the next relation with what is found in it
abbrev pub next_of : Extensions → List Kept → Option Name → Option (Name × Option Name)
next_of ext kept last = option_map (λ k. (k.name, first_late ext (db_of kept) k)) (first_above last kept)

pub none_next : {X : Type 0} (o : Option Kept) (f : Kept → X) → None ≡ option_map f o → o ≡ None
none_next None f is = refl
none_next (Some k) f is = absurd (cc)

-- it is this one
pub next_open : (ext : Extensions) (kept : List Kept) (last : Option Name) (k : Kept) (name : Name) (failing : Option Name) → first_above last kept ≡ Some k → name ≡ k.name → failing ≡ first_late ext (db_of kept) k
    → Some (name, failing) ≡ next_of ext kept last
next_open ext kept last k name failing at named is =
    ap (λ (n : Name). Some (n, failing)) named ∙ ap (λ (o : Option Name). Some (k.name, o)) is ∙ sym (ap (λ (o : Option Kept). option_map (λ (x : Kept). (x.name, first_late ext (db_of kept) x)) o) at)

some_next : (o : Option Kept) (f : Kept → Name × Option Name) (x : Name × Option Name) → Some x ≡ option_map f o → (k : Kept) × (o ≡ Some k) × (x ≡ f k)
some_next None f x is = absurd (cc)
some_next (Some k) f x is = (k, refl, same_Some x (f k) is)

none_found : (o : Option Db.Attached) → None ≡ option_map (λ (a : Db.Attached). a.name) o → o ≡ None
none_found None is = refl
none_found (Some a) is = absurd (cc)

some_found : (o : Option Db.Attached) (label : Name) → Some label ≡ option_map (λ (a : Db.Attached). a.name) o → (a : Db.Attached) × (o ≡ Some a) × (label ≡ a.name)
some_found None label is = absurd (cc)
some_found (Some a) label is = (a, refl, same_Some label a.name is)

pub walked-end : (ext : Extensions) (kept : List Kept) (last : Option Name) (count : ℕ) → IsWalked ext kept last count → None ≡ next_of ext kept last → None ≡ first_failing ext (db_of kept) (db_of kept)
walked-end ext kept last count walked is =
    sym (ap (λ (l : Database). first_failing ext (db_of kept) l) (above-none last kept (none_next (first_above last kept) _ is))) ∙ walked.rest

pub walked-found : (ext : Extensions) (kept : List Kept) (last : Option Name) (count : ℕ) (name label : Name) → T (is_sorted bytes_cmp (db_of kept)) → IsWalked ext kept last count → Some (name, Some label) ≡ next_of ext kept last
    → Some (name, label) ≡ first_failing ext (db_of kept) (db_of kept)
walked-found ext kept last count name label rising walked is =
    let next = some_next (first_above last kept) (λ k. (k.name, first_late ext (db_of kept) k)) (name, Some label) is in
    let k = next.0 in
    let found = some_found (find (fails_late ext (db_of kept) k.name) k.relation.attachments) label (ap (λ (x : Name × Option Name). x.1) next.2) in
    let named : name ≡ k.name = ap (λ (x : Name × Option Name). x.0) next.2 in
    ap (λ (n : Name). Some (n, label)) named ∙ ap (λ (l : Name). Some (k.name, l)) found.2
    ∙ sym (ap (failing_or (first_failing ext (db_of kept) (above (Some k.name) (db_of kept))) k.name) found.1)
    ∙ sym (ap (λ (l : Database). first_failing ext (db_of kept) l) (above-next last kept k rising next.1)) ∙ walked.rest

pub walked-next : (ext : Extensions) (kept : List Kept) (last : Option Name) (count : ℕ) (name : Name) → T (is_sorted bytes_cmp (db_of kept)) → IsWalked ext kept last count → Some (name, None) ≡ next_of ext kept last
    → IsWalked ext kept (Some name) (count + 1)
walked-next ext kept last count name rising walked is =
    let next = some_next (first_above last kept) (λ k. (k.name, first_late ext (db_of kept) k)) (name, None) is in
    let k = next.0 in
    let none = none_found (find (fails_late ext (db_of kept) k.name) k.relation.attachments) (ap (λ (x : Name × Option Name). x.1) next.2) in
    let named : name ≡ k.name = ap (λ (x : Name × Option Name). x.0) next.2 in
    let more = above-next last kept k rising next.1 in
    subst (λ (n : Name). IsWalked ext kept (Some n) (count + 1)) (sym named) (record {
      rest = sym (ap (failing_or (first_failing ext (db_of kept) (above (Some k.name) (db_of kept))) k.name) none) ∙ sym (ap (λ (l : Database). first_failing ext (db_of kept) l) more) ∙ walked.rest;
      few = omega (arith, walked.few, ap (λ (l : Database). length l) more);
    })

-- ---- a catalogue has fewer than 2 to the 48th relations
no_form : node_of [] ≡ None
unfolding has_form
no_form = refl

met_low : (P : Pages) (root : ℕ) (es : List Entry) → read_tree root P ≡ Some es → ((n : ℕ) → 65536 ≤ n → P n ≡ []) → (n : ℕ) → has n (tree_met root P) ≡ true → n < 65536
met_low P root es is few n met = by (nat_lt n 65536) refl
  where
    by : (b : Bool) → nat_lt n 65536 ≡ b → n < 65536
    by true below = ltb-true n 65536 below
    by false far = absurd (met_node (level_of (nodes P root)) (nodes P) root n (read_root P root es is).0.tree ((has_says n (tree_met root P)).0 met) (ap node_of (few n (ltb-false n 65536 far)) ∙ no_form))

entries_few : (P : Pages) (root : ℕ) (es : List Entry) → read_tree root P ≡ Some es → ((n : ℕ) → 65536 ≤ n → P n ≡ []) → length es < 2 ^ 48
entries_few P root es is few =
    let root_is = read_root P root es is in
    omega (arith, ap length root_is.1, items_few P (level_of (nodes P root)) root, apart_few (tree_met root P) 65536 root_is.0.apart (met_low P root es is few))

pub kept_few : (m : Meanings) (root : ℕ) (s : Slots) (kept : List Kept) → Tables m IsDurable root s kept → ((n : ℕ) → 65536 ≤ n → (s n).0 ≡ 0) → length (db_of kept) < 2 ^ 48
kept_few m root s kept tables few =
    let entries = entries_few (owned s 2) root (map entry_of kept) (map_tree root (owned s 2) (map entry_of kept) tables.catalogue) (λ n far. bytes_for-free 2 (s n) (few n far)) in
    omega (arith, entries, length-map {B = Entry} kept (λ k. entry_of k), length-map {B = Name × Relation} kept (λ k. (k.name, k.relation)))

-- a walk doesn't pass as many
pub walked-over : (ext : Extensions) (kept : List Kept) (last : Option Name) (count : ℕ) → IsWalked ext kept last count → 2 ^ 48 ≤ count → length (db_of kept) < 2 ^ 48 → ⊥
walked-over ext kept last count walked many few = omega (arith, walked.few, many, few)
