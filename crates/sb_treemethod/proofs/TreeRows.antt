-- Pages that are a tree of rows.
use Rattle.std.proofs.Common.{◌≡◌, ◌≢◌, ℕ, zero, suc, ◌+◌, ◌^◌, ◌<◌, ◌≤◌, ◌==◌, nat_lt, Bool, true, false, cond, not, ◌&&◌, List, [], ◌∷◌, length, filter, All, Option, Some, None, T, refl, ap, sym, ◌∙◌, subst, arith, eqb-true, true≢false, inl, inr}
use Rattle.std.specs.List.{list_all, range_with_len}
use Rattle.std.specs.FinMap.Entries.{is_sorted}
use Rattle.std.proofs.lemmas.Bool.{and_parts, and_from, ltb-true, lt-ltb, ltb-false, not-true, eqb-false}
use Rattle.std.proofs.lemmas.Option.{cond_some}
use Rattle.std.proofs.lemmas.List.{length-map}
use Rattle.std.proofs.lemmas.List.Elements.{All-nil, All-cons}
use Rattle.sb_value.specs.declared.schema.Column.{Column}
use Rattle.sb_relation.specs.Db.{Name, Key, Row, Rows}
use Rattle.sb_relation.specs.Fits.{is_empty}
use Rattle.sb_relation.specs.Keys.{is_record_key}
use Rattle.sb_relation.specs.Lawful.{IsRow, AreRows}
use Rattle.sb_node.specs.Entries.{Entry, key_cmp}
use Rattle.sb_node.specs.Page.{has_form, node_in, node_of}
use Rattle.sb_forms.specs.Pages.{Pages, ArePages, page_numbers}
use Rattle.sb_forms.specs.Tree.{nodes, level_of, IsTree, IsLeaf}
use Rattle.sb_forms.specs.Read.{has, read_tree}
use Rattle.sb_forms.specs.TreePages.{is_row_entry, rows_of, tree_met, is_all, if_rows, tree_rows}
use Rattle.sb_btree.proofs.Reading.{read_root, tree_sorted, has_says}
use Rattle.sb_treemethod.proofs.Entries.{row_entry}
use Rattle.sb_treemethod.proofs.RowsOf.{as_row, is_sorted-rows_of}
use Rattle.sb_treemethod.proofs.Few.{items_few, apart_few}

-- ---- numbers in lists
has_here : (n : ℕ) (x : ℕ) (xs : List ℕ) → has n xs ≡ true → has n (x ∷ xs) ≡ true
has_here n x xs is = (has_says n (x ∷ xs)).1 (inr ((has_says n xs).0 is))

has_first : (x : ℕ) (xs : List ℕ) → has x (x ∷ xs) ≡ true
has_first x xs = (has_says x (x ∷ xs)).1 (inl refl)

-- what is so of each number of a list
each_passes : (q : ℕ → Bool) (xs : List ℕ) (n : ℕ) → list_all q xs ≡ true → has n xs ≡ true → q n ≡ true
each_passes q [] n all is = cc
each_passes q (x ∷ xs) n all is =
    let parts = and_parts (q x) (list_all q xs) all in
    elim ((has_says n (x ∷ xs)).0 is) [ inl e ↦ subst (λ m. q m ≡ true) (sym e) parts.0 | inr h ↦ each_passes q xs n parts.1 ((has_says n xs).1 h) ]

all_pass : (q : ℕ → Bool) (xs : List ℕ) → ((n : ℕ) → has n xs ≡ true → q n ≡ true) → list_all q xs ≡ true
all_pass q [] gives = refl
all_pass q (x ∷ xs) gives = and_from (q x) (list_all q xs) (gives x (has_first x xs)) (all_pass q xs (λ n is. gives n (has_here n x xs is)))

-- what is so of all numbers in a range that pass, is so of one
one_in : (p q : ℕ → Bool) (low len n : ℕ) → low ≤ n → n < low + len → p n ≡ true → list_all q (filter p (range_with_len low len)) ≡ true → q n ≡ true
one_in p q low zero n from to passes all = absurd (omega arith)
one_in p q low (suc len) n from to passes all =
    by (low == n) refl (p low) refl all (λ more rest. one_in p q (low + 1) len n more (omega arith) passes rest)
  where
    F : List ℕ
    F = filter p (range_with_len (low + 1) len)

    rest_of : (b : Bool) → list_all q (cond b (low ∷ F) F) ≡ true → list_all q F ≡ true
    rest_of true all = (and_parts (q low) (list_all q F) all).1
    rest_of false all = all

    by : (t : Bool) → low == n ≡ t → (b : Bool) → p low ≡ b → list_all q (cond b (low ∷ F) F) ≡ true → (low + 1 ≤ n → list_all q F ≡ true → q n ≡ true) → q n ≡ true
    by true same true is all more = subst (λ m. q m ≡ true) (eqb-true low n same) (and_parts (q low) (list_all q F) all).0
    by true same false is all more = absurd (true≢false (sym passes ∙ ap p (sym (eqb-true low n same)) ∙ is))
    by false other b is all more = more (omega (arith, from, eqb-false low n other)) (rest_of b all)

all_kept : (p q : ℕ → Bool) (xs : List ℕ) → ((x : ℕ) → p x ≡ true → q x ≡ true) → list_all q (filter p xs) ≡ true
all_kept p q [] gives = refl
all_kept p q (x ∷ xs) gives = elim (p x) as (λ t. p x ≡ t → list_all q (cond t (x ∷ filter p xs) (filter p xs)) ≡ true) [
  | true ↦ λ passes. ap (λ t. t && list_all q (filter p xs)) (gives x passes) ∙ all_kept p q xs gives
  | false ↦ λ fails. all_kept p q xs gives
] refl

one_page : (P : Pages) (q : ℕ → Bool) (n : ℕ) → list_all q (page_numbers P) ≡ true → n < 65536 → is_empty (P n) ≡ false → q n ≡ true
unfolding page_numbers
one_page P q n all less some = one_in (λ m. not (is_empty (P m))) q 0 65536 n (omega arith) (omega (arith, less)) (ap not some) all

all_pages : (P : Pages) (q : ℕ → Bool) → ((n : ℕ) → is_empty (P n) ≡ false → q n ≡ true) → list_all q (page_numbers P) ≡ true
unfolding page_numbers
all_pages P q gives = all_kept (λ m. not (is_empty (P m))) q (range_with_len 0 65536) (λ n some. gives n (not-true (is_empty (P n)) some))

-- ---- the parts of formed pages
pub record Formed (root : ℕ) (schema : List Column) (key : List Name) (P : Pages) (rows : Rows) : Type 0 where
  pub es : List Entry
  pub tree : read_tree root P ≡ Some es
  pub entries : list_all (is_row_entry schema key) es ≡ true
  pub all : list_all (λ n. has n (tree_met root P)) (page_numbers P) ≡ true
  pub low : (n : ℕ) → has n (tree_met root P) ≡ true → n < 65536
  pub same : rows ≡ rows_of es

pub formed : (root : ℕ) (schema : List Column) (key : List Name) (P : Pages) (rows : Rows) → tree_rows root schema key P ≡ Some rows → Formed root schema key P rows
formed root schema key P rows is = by (read_tree root P) refl is
  where
    by : (o : Option (List Entry)) → read_tree root P ≡ o → if_rows schema key (is_all root P) o ≡ Some rows → Formed root schema key P rows
    by None none e = absurd (cc)
    by (Some es) there e =
        let some = cond_some (is_all root P && list_all (is_row_entry schema key) es) (rows_of es) rows e in
        let parts = and_parts (is_all root P) (list_all (is_row_entry schema key) es) some.0 in
        let pages = and_parts (list_all (λ n. has n (tree_met root P)) (page_numbers P)) (list_all (λ n. nat_lt n 65536) (tree_met root P)) parts.0 in
        record {
          es = es;
          tree = there;
          entries = parts.1;
          all = pages.0;
          low = λ n met. ltb-true n 65536 (each_passes (λ m. nat_lt m 65536) (tree_met root P) n pages.1 met);
          same = sym some.1;
        }

-- ---- a tree of these entries, each of them a row, that meets each page
pub record TreeOf (root : ℕ) (schema : List Column) (key : List Name) (P : Pages) (es : List Entry) : Type 0 where
  pub tree : read_tree root P ≡ Some es
  pub entries : list_all (is_row_entry schema key) es ≡ true
  pub all : (n : ℕ) → is_empty (P n) ≡ false → has n (tree_met root P) ≡ true
  pub low : (n : ℕ) → has n (tree_met root P) ≡ true → n < 65536

below : (P : Pages) (n : ℕ) → ArePages P → is_empty (P n) ≡ false → n < 65536
below P n are some = by (nat_lt n 65536) refl
  where
    by : (b : Bool) → nat_lt n 65536 ≡ b → n < 65536
    by true e = ltb-true n 65536 e
    by false e = absurd (true≢false (sym (ap is_empty (are.below n (ltb-false n 65536 e))) ∙ some))

pub tree_of : (root : ℕ) (schema : List Column) (key : List Name) (P : Pages) (rows : Rows) → ArePages P → (f : Formed root schema key P rows) → TreeOf root schema key P f.es
tree_of root schema key P rows are f = record {
  tree = f.tree;
  entries = f.entries;
  all = λ n some. one_page P (λ m. has m (tree_met root P)) n f.all (below P n are some) some;
  low = f.low;
}

pub rows_from : (root : ℕ) (schema : List Column) (key : List Name) (P : Pages) (es : List Entry) → TreeOf root schema key P es → tree_rows root schema key P ≡ Some (rows_of es)
rows_from root schema key P es t =
    ap (if_rows schema key (is_all root P)) t.tree
    ∙ ap (λ b. cond b (Some (rows_of es)) None)
    (and_from (is_all root P) (list_all (is_row_entry schema key) es)
    (and_from (list_all (λ n. has n (tree_met root P)) (page_numbers P)) (list_all (λ n. nat_lt n 65536) (tree_met root P)) (all_pages P (λ n. has n (tree_met root P)) t.all)
    (all_pass (λ n. nat_lt n 65536) (tree_met root P) (λ n is. lt-ltb n 65536 (t.low n is))))
    t.entries)

-- ---- its rows are rows of the relation
each_row : (schema : List Column) (key : List Name) (es : List Entry) → list_all (is_row_entry schema key) es ≡ true → All (λ row. IsRow schema row.1) (rows_of es)
each_row schema key [] all = All-nil (λ row. IsRow schema row.1)
each_row schema key (e ∷ es) all =
    let parts = and_parts (is_row_entry schema key e) (list_all (is_row_entry schema key) es) all in
    All-cons (λ row. IsRow schema row.1) (as_row e) (rows_of es) (row_entry schema key e parts.0).is_row (each_row schema key es parts.1)

each_key : (schema : List Column) (key : List Name) (es : List Entry) → list_all (is_row_entry schema key) es ≡ true → All (λ row. is_record_key row.0 ≡ true) (rows_of es)
each_key schema key [] all = All-nil (λ row. is_record_key row.0 ≡ true)
each_key schema key (e ∷ es) all =
    let parts = and_parts (is_row_entry schema key e) (list_all (is_row_entry schema key) es) all in
    All-cons (λ row. is_record_key row.0 ≡ true) (as_row e) (rows_of es) (row_entry schema key e parts.0).is_key (each_key schema key es parts.1)

pub rising : (root : ℕ) (P : Pages) (es : List Entry) → read_tree root P ≡ Some es → T (is_sorted key_cmp es)
rising root P es is =
    let root_is = read_root P root es is in
    subst (λ (l : List Entry). T (is_sorted key_cmp l)) (sym root_is.1) (tree_sorted P (level_of (nodes P root)) root root_is.0.tree)

few : (root : ℕ) (P : Pages) (es : List Entry) → read_tree root P ≡ Some es → ((n : ℕ) → has n (tree_met root P) ≡ true → n < 65536) → length es < 2 ^ 48
few root P es is low =
    let root_is = read_root P root es is in
    omega (arith, ap length root_is.1, items_few P (level_of (nodes P root)) root, apart_few (tree_met root P) 65536 root_is.0.apart low)

pub are_rows : (root : ℕ) (schema : List Column) (key : List Name) (P : Pages) (rows : Rows) → Formed root schema key P rows → AreRows schema rows
are_rows root schema key P rows f = subst (AreRows schema) (sym f.same) (record {
  rising = subst T (sym (is_sorted-rows_of f.es)) (rising root P f.es f.tree);
  keys = each_key schema key f.es f.entries;
  each = each_row schema key f.es f.entries;
  few = omega (arith, length-map {B = Key × Row} f.es (λ e. as_row e), few root P f.es f.tree f.low);
})

-- ---- its root is a page
no_form : has_form [] ≡ false
unfolding has_form
no_form = refl

pub rooted : (root : ℕ) (P : Pages) (es : List Entry) → read_tree root P ≡ Some es → P root ≢ []
rooted root P es is none =
    let node : nodes P root ≡ None = ap node_of none ∙ ap (λ t. cond t (Some (node_in [])) None) no_form in
    let tree = (read_root P root es is).0.tree in
    subst IsLeaf node (subst (λ l. IsTree l (nodes P) root) (ap level_of node) tree)
