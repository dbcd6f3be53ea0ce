-- The law of the box: formed pages hold rising rows, within the bound, and none of them may be called broken.
use Rattle.std.proofs.Common.{◌≡◌, ◌≢◌, ℕ, zero, suc, ◌+◌, ◌*◌, ◌<◌, ◌≤◌, nat_lt, nat_le, Bool, true, false, true≢false, cond, not, ◌&&◌, List, [], ◌∷◌, ◌++◌, length, Option, Some, None, IsSome, is_some, refl, ap, sym, ◌∙◌, subst, arith, inl, inr, ◌⊎◌}
use Rattle.std.specs.Prelude.{nat_eq, ◌||◌}
use Rattle.std.specs.List.{AllByRecursion, list_all, list_any, range_with_len}
use Rattle.std.specs.FinMap.Entries.{is_sorted}
use Rattle.std.proofs.lemmas.Bool.{and_parts, ltb-true, eqb-true, eq-eqb, not-true, or_cases}
use Rattle.std.proofs.lemmas.List.Elements.{All-from_recursion}
use Rattle.std.proofs.lemmas.List.Sums.{sum_by-cons}
use Rattle.sb_value.specs.declared.schema.Column.{Column}
use Rattle.sb_relation.specs.Db.{Key, Row, Rows}
use Rattle.sb_relation.specs.Fits.{is_empty}
use Rattle.sb_relation.specs.Keys.{is_record_key}
use Rattle.sb_relation.specs.Lawful.{IsRow, AreRows}
use Rattle.sb_node.specs.Entries.{Entry, key_cmp, size_of, sizes}
use Rattle.sb_node.specs.Page.{Node, has_form, node_in, node_of}
use Rattle.sb_node.proofs.Sizes.{used_is, head_counts, T_from}
use Rattle.sb_node.proofs.Runs.{form_room}
use Rattle.sb_forms.specs.Pages.{Pages, page_numbers, page_count}
use Rattle.sb_forms.specs.Tree.{nodes, entries_of, level_of}
use Rattle.sb_forms.specs.Read.{has}
use Rattle.sb_forms.specs.HeapPages.{is_record, is_heap_page, has_room, first_of, after_of, before_of, first_page, are_linked, rows_on, record_key}
use Rattle.sb_forms.specs.Stored.{is_row_in}
use Rattle.sb_forms.proofs.RowBytes.{row_of_bytes}
use Rattle.sb_ctx.specs.View.{HeldPages, AreSomeOf}
use Rattle.sb_ctx.specs.declared.calls.MethodCall.{MethodCall}
use Rattle.sb_ctx.specs.declared.calls.MethodCall.TheVariants.{Prepare, Insert, Delete, Update, Get, Next}
use Rattle.sb_ctx.specs.Laws.{IsMethod}
use Rattle.sb_heap.specs.Broken.{held_node, is_amiss, has_bytes, names, is_named, is_linked, breaks}
use Rattle.sb_heap.specs.Heap.{heap_method, heap_cost}
use Rattle.sb_heap.proofs.Lists.{has_front, has_back, has_here, has_later, within_list, linked_at, last_of, last_in}
use Rattle.sb_heap.proofs.Standing.{room_at}
use Rattle.sb_heap.proofs.Rows.{rows_in, rows_of, rows_rising, rows_few, rows_each, pages_but}
use Rattle.sb_heap.proofs.Formed.{Core, Formed, IsPage, core, formed, page_had, had_page, some_bytes}

-- ---- pages have few entries, in order
sizes_more : (es : List Entry) → 4 * length es ≤ sizes es
sizes_more [] = omega arith
sizes_more (e ∷ es) =
    let all : sizes (e ∷ es) ≡ size_of e + sizes es = sum_by-cons size_of e es in
    omega (arith, all, sizes_more es)

page_few : (P : Pages) (p : ℕ) → length (entries_of (nodes P p)) ≤ 1018
page_few P p = elim (has_form (P p)) as (λ t. has_form (P p) ≡ t → length (entries_of (cond t (Some (node_in (P p))) None)) ≤ 1018) [
  | true ↦ λ is. omega (arith, sizes_more (node_in (P p)).entries, used_is (P p) is, form_room (P p) is)
  | false ↦ λ is. omega arith
] refl

page_sorted : (P : Pages) (p : ℕ) → is_sorted key_cmp (entries_of (nodes P p)) ≡ true
page_sorted P p = elim (has_form (P p)) as (λ t. has_form (P p) ≡ t → is_sorted key_cmp (entries_of (cond t (Some (node_in (P p))) None)) ≡ true) [
  | true ↦ λ is. (head_counts (P p) is).rising
  | false ↦ λ is. refl
] refl

-- ---- rows of the relation
abbrev pub IsGood : List Column → Key × Row → Type 0
IsGood schema r = (is_record_key r.0 ≡ true) × IsRow schema r.1 × (length r.0 ≡ 6)

pub key_short : (n : ℕ) (slot : List ℕ) → length slot ≡ 2 → is_record_key (record_key n slot) ≡ true
key_short n slot two = ap (λ l. nat_le (suc (suc (suc (suc l)))) 200) two

key_six : (n : ℕ) (slot : List ℕ) → length slot ≡ 2 → length (record_key n slot) ≡ 6
key_six n slot two = ap (λ l. suc (suc (suc (suc l)))) two

good_rows : (schema : List Column) (n : ℕ) (es : List Entry) → list_all (is_record schema) es ≡ true → AllByRecursion (IsGood schema) (rows_of n es)
good_rows schema n [] all = tt
good_rows schema n (e ∷ es) all =
    let parts = and_parts (is_record schema e) (list_all (is_record schema) es) all in
    let both = and_parts (nat_eq (length e.0) 2) (is_row_in schema e.1) parts.0 in
    ((key_short n e.0 (eqb-true (length e.0) 2 both.0), (row_of_bytes schema e.1 both.1).is_row, key_six n e.0 (eqb-true (length e.0) 2 both.0)), good_rows schema n es parts.1)

pub core_rows : (root : ℕ) (schema : List Column) (P : Pages) (rows : Rows) → Core root schema P rows → (n : ℕ) → n < 65536 → AllByRecursion (IsGood schema) (rows_on (nodes P) n)
core_rows root schema P rows c n low = by (nodes P n) refl
  where
    by : (o : Option Node) → nodes P n ≡ o → AllByRecursion (IsGood schema) (rows_of n (entries_of o))
    by None is = tt
    by (Some x) is = good_rows schema n x.entries (ap (λ (o : Option Node). list_all (is_record schema) (entries_of o)) (sym is) ∙ (c.page n (had_page P n low (some_bytes P n (ap is_some is)))).records)

all_keys : (schema : List Column) (rows : Rows) → AllByRecursion (IsGood schema) rows → AllByRecursion (λ r. is_record_key r.0 ≡ true) rows
all_keys schema [] good = tt
all_keys schema (r ∷ rows) good = (good.0.0, all_keys schema rows good.1)

all_rows : (schema : List Column) (rows : Rows) → AllByRecursion (IsGood schema) rows → AllByRecursion (λ r. IsRow schema r.1) rows
all_rows schema [] good = tt
all_rows schema (r ∷ rows) good = (good.0.1, all_rows schema rows good.1)

all_six : (schema : List Column) (rows : Rows) → AllByRecursion (IsGood schema) rows → AllByRecursion (λ r. length r.0 ≡ 6) rows
all_six schema [] good = tt
all_six schema (r ∷ rows) good = (good.0.2, all_six schema rows good.1)

pub core_six : (root : ℕ) (schema : List Column) (P : Pages) (rows : Rows) → Core root schema P rows → AllByRecursion (λ r. length r.0 ≡ 6) rows
core_six root schema P rows c =
    subst (λ (l : Rows). AllByRecursion (λ r. length r.0 ≡ 6) l) (sym c.same) (all_six schema (rows_in (nodes P) 0 65536) (rows_each (nodes P) 0 65536 (IsGood schema) (λ n from to. core_rows root schema P rows c n (omega (arith, to)))))

are_rows : (root : ℕ) (schema : List Column) (P : Pages) (rows : Rows) → Core root schema P rows → AreRows schema rows
are_rows root schema P rows c =
    let R = rows_in (nodes P) 0 65536 in
    let good = rows_each (nodes P) 0 65536 (IsGood schema) (λ n from to. core_rows root schema P rows c n (omega (arith, to))) in
    subst (AreRows schema) (sym c.same) (record {
      rising = T_from _ (rows_rising (nodes P) 0 65536 (omega arith) (page_sorted P));
      keys = All-from_recursion (λ r. is_record_key r.0 ≡ true) R (all_keys schema R good);
      each = All-from_recursion (λ r. IsRow schema r.1) R (all_rows schema R good);
      few = omega (arith, rows_few (nodes P) 0 65536 (page_few P));
    })

-- ---- how many pages there are
pub formed_few : (root : ℕ) (schema : List Column) (P : Pages) (rows : Rows) → Formed root schema P rows → page_count P ≤ length rows + 1
unfolding page_numbers
formed_few root schema P rows f =
    subst (λ (l : Rows). page_count P ≤ length l + 1) (sym f.same) (pages_but (nodes P) root (λ n. not (is_empty (P n))) 0 65536 (λ n other is. some n other (not-true (is_empty (P n)) is)))
  where
    there : (n : ℕ) → is_empty (P n) ≡ false → IsSome (nodes P n)
    there n some = by (nodes P n) refl
      where
        by : (o : Option Node) → nodes P n ≡ o → IsSome o
        by None e = absurd (true≢false (sym (ap is_empty (f.bare n e)) ∙ some))
        by (Some x) e = refl

    long : (es : List Entry) → es ≢ [] → 0 < length es
    long [] some = absurd (some refl)
    long (e ∷ es) some = omega arith

    some : (n : ℕ) → n ≢ root → is_empty (P n) ≡ false → 0 < length (entries_of (nodes P n))
    some n other is = long (entries_of (nodes P n)) (f.heap.stands.some n (there n is) other)

-- ---- no page of a heap may be called broken
any_of : (t : ℕ → Bool) (low len : ℕ) → list_any t (range_with_len low len) ≡ true → (m : ℕ) × (low ≤ m) × (m < low + len) × (t m ≡ true)
any_of t low zero is = absurd (true≢false (sym is))
any_of t low (suc len) is = elim (t low) as (λ b. t low ≡ b → (b || list_any t (range_with_len (low + 1) len)) ≡ true → (m : ℕ) × (low ≤ m) × (m < low + suc len) × (t m ≡ true)) [
  | true ↦ λ here e. (low, omega arith, omega arith, here)
  | false ↦ λ other e. let r = any_of t (low + 1) len e in (r.0, omega (arith, r.1), omega (arith, r.2), r.3)
] refl is

pub any_from : (t : ℕ → Bool) (low len m : ℕ) → low ≤ m → m < low + len → t m ≡ true → list_any t (range_with_len low len) ≡ true
any_from t low zero m from to is = absurd (omega (arith, from, to))
any_from t low (suc len) m from to is = elim (t low) as (λ b. t low ≡ b → (b || list_any t (range_with_len (low + 1) len)) ≡ true) [
  | true ↦ λ here. refl
  | false ↦ λ other. any_from t (low + 1) len m (let apart : low ≢ m = λ e. true≢false (sym is ∙ ap t (sym e) ∙ other) in omega (arith, from, apart)) (omega (arith, to)) is
] refl

heap_page : (root : ℕ) (schema : List Column) (n : ℕ) (o : Option Node) → IsPage root schema n o → is_heap_page schema o ≡ true
heap_page root schema n None p = absurd (true≢false (sym p.there))
heap_page root schema n (Some x) p = λ i. eq-eqb x.head.kind 1 p.kind i && eq-eqb x.head.level (cond (has_room x) 1 0) p.level i && p.records i

module _ (root : ℕ) (schema : List Column) (P : Pages) (rows : Rows) (c : Core root schema P rows) where
  first_in : (list : List ℕ) (n : ℕ) → first_page list ≡ n → n ≢ 0 → has n list ≡ true
  first_in [] n is some = absurd (some (sym is))
  first_in (x ∷ xs) n is some = ap (λ m. has m (x ∷ xs)) (sym is) ∙ has_here x xs

  last_front : (m n : ℕ) (xs ys : List ℕ) → last_of 0 xs ≡ n → n ≢ 0 → has n (xs ++ ys) ≡ true
  last_front m n [] ys is some = absurd (some (sym is))
  last_front m n (x ∷ xs) ys is some = has_front n (x ∷ xs) ys (ap (λ k. has k (x ∷ xs)) (sym is) ∙ last_in x xs)

  beside_in : (m n : ℕ) → has m c.list ≡ true → n ≢ 0 → (after_of (nodes P m) ≡ n) ⊎ (before_of (nodes P m) ≡ n) → has n c.list ≡ true
  beside_in m n had some named =
      let w = within_list m c.list had in
      let l = linked_at (nodes P) 0 m w.front w.back (subst (λ list. are_linked (nodes P) 0 list ≡ true) w.is c.linked) in
      ap (has n) w.is ∙ elim named [
        | inl after ↦ has_back n w.front (m ∷ w.back) (has_later n m w.back (first_in w.back n (sym l.1 ∙ after) some))
        | inr before ↦ last_front m n w.front (m ∷ w.back) (sym l.0 ∙ before) some
      ]

  room_true : (b : Bool) (level : ℕ) → level ≡ cond b 1 0 → level ≡ 1 → b ≡ true
  room_true true level is one = refl
  room_true false level is one = absurd (omega (arith, is, one))

  names_in : (m n : ℕ) (o : Option Node) → nodes P m ≡ o → n ≢ 0 → m < 65536 → names root m o n ≡ true → has n c.list ≡ true
  names_in m n None there other low is = absurd (true≢false (sym is))
  names_in m n (Some x) there other low is = elim (or_cases (nat_eq m root && nat_eq x.head.c n) (nat_eq x.head.level 1 && (nat_eq x.head.a n || nat_eq x.head.b n)) is) [
    | inl first ↦
        let parts = and_parts (nat_eq m root) (nat_eq x.head.c n) first in
        let root_is : nodes P root ≡ Some x = ap (nodes P) (sym (eqb-true m root parts.0)) ∙ there in
        first_in c.list n (sym c.first ∙ ap first_of root_is ∙ eqb-true x.head.c n parts.1) other
    | inr beside ↦
        let parts = and_parts (nat_eq x.head.level 1) (nat_eq x.head.a n || nat_eq x.head.b n) beside in
        let had = had_page P m low (some_bytes P m (ap is_some there)) in
        let room = room_true (room_at (nodes P m)) (level_of (nodes P m)) (c.page m had).level (ap level_of there ∙ eqb-true x.head.level 1 parts.0) in
        beside_in m n (c.rooms m had ∙ room) other (elim (or_cases (nat_eq x.head.a n) (nat_eq x.head.b n) parts.1) [
          | inl a ↦ inl (ap after_of there ∙ eqb-true x.head.a n a)
          | inr b ↦ inr (ap before_of there ∙ eqb-true x.head.b n b)
        ])
  ]

  held_names : (m n : ℕ) (o : Option (List ℕ)) → ((bytes : List ℕ) → o ≡ Some bytes → P m ≡ bytes) → n ≢ 0 → m < 65536 → names root m (held_node o) n ≡ true → has n c.list ≡ true
  held_names m n None part other low is = absurd (true≢false (sym is))
  held_names m n (Some bytes) part other low is = names_in m n (node_of bytes) (ap node_of (part bytes refl)) other low is

  named_in : (n : ℕ) (held : HeldPages) → AreSomeOf held P → n ≢ 0 → is_named root held n ≡ true → has n c.list ≡ true
  unfolding is_named
  named_in n held some other is =
      let r = any_of (λ m. names root m (held_node (held m)) n) 0 65536 is in
      held_names r.0 n (held r.0) (some r.0) other (omega (arith, r.2)) r.3

  -- a page of the heap isn't amiss
  not_amiss : (n : ℕ) (o : Option (List ℕ)) → ((bytes : List ℕ) → o ≡ Some bytes → P n ≡ bytes) → has n (page_numbers P) ≡ true → is_amiss schema o ≡ true → ⊥
  not_amiss n None part had is = true≢false (sym is)
  not_amiss n (Some bytes) part had is =
      true≢false (sym (heap_page root schema n (nodes P n) (c.page n had)) ∙ ap (λ (b : List ℕ). is_heap_page schema (node_of b)) (part bytes refl) ∙ not-true (is_heap_page schema (node_of bytes)) is)

  bytes_had : (n : ℕ) (o : Option (List ℕ)) → ((bytes : List ℕ) → o ≡ Some bytes → P n ≡ bytes) → n < 65536 → has_bytes o ≡ true → has n (page_numbers P) ≡ true
  bytes_had n None part low is = absurd (true≢false (sym is))
  bytes_had n (Some bytes) part low is = had_page P n low (ap is_empty (part bytes refl) ∙ not-true (is_empty bytes) is)

  pub whole : (held : HeldPages) (n : ℕ) → AreSomeOf held P → breaks schema root held n ≡ false
  whole held n some = by (breaks schema root held n) refl
    where
      had : n ≢ 0 → (has_bytes (held n) && nat_lt n 65536 || is_linked root held n) ≡ true → has n (page_numbers P) ≡ true
      had other is = elim (or_cases (has_bytes (held n) && nat_lt n 65536) (is_linked root held n) is) [
        | inl here ↦ let parts = and_parts (has_bytes (held n)) (nat_lt n 65536) here in bytes_had n (held n) (some n) (ltb-true n 65536 parts.1) parts.0
        | inr linked ↦ elim (or_cases (nat_eq n root) (is_named root held n) linked) [
          | inl same ↦ ap (λ m. has m (page_numbers P)) (eqb-true n root same) ∙ c.rooted
          | inr named ↦ c.within n (named_in n held some other named)
        ]
      ]

      by : (b : Bool) → breaks schema root held n ≡ b → b ≡ false
      by false is = refl
      by true is =
          let two = and_parts (not (nat_eq n 0) && is_amiss schema (held n)) (has_bytes (held n) && nat_lt n 65536 || is_linked root held n) is in
          let one = and_parts (not (nat_eq n 0)) (is_amiss schema (held n)) two.0 in
          absurd (not_amiss n (held n) (some n) (had (λ e. true≢false (sym (eq-eqb n 0 e) ∙ not-true (nat_eq n 0) one.0)) two.1) one.1)

heap_cost-most : (c : MethodCall) (rows : Rows) → heap_cost c ≤ 10
heap_cost-most Prepare rows = omega arith
heap_cost-most (Insert row) rows = omega arith
heap_cost-most (Delete key) rows = omega arith
heap_cost-most (Update key row) rows = omega arith
heap_cost-most (Get key) rows = omega arith
heap_cost-most (Next low) rows = omega arith

pub IsMethod-heap_method : IsMethod heap_method
IsMethod-heap_method = record {
  heap = λ is. record { durable = refl; rows = λ inst P. refl; cost = heap_cost-most };
  tree = λ is. cc;
  standard = λ ours. record { bound = λ rows. omega arith; prepares = λ rows. omega arith };
  formed = λ inst P rows holds.
      let c = core inst.root inst.schema P rows holds in
      record {
        lawful = are_rows inst.root inst.schema P rows c;
        root = λ none. true≢false (sym (ap is_empty none) ∙ (page_had P inst.root c.rooted).1);
        bound = λ pages. omega (arith, formed_few inst.root inst.schema P rows (formed inst.root inst.schema P rows pages holds));
        whole = λ held n some. whole inst.root inst.schema P rows c held n some;
      };
}
