-- The pages of a new store, with their owners.
use Rattle.std.proofs.Common.{◌≡◌, ◌≢◌, ⊎_elim, ℕ, zero, suc, ◌+◌, ◌*◌, ◌<◌, ◌≤◌, ◌==◌, nat_lt, Bool, cond, true, false, ◌&&◌, Option, Some, None, List, [], ◌∷◌, replicate, refl, sym, ap, subst, ◌∙◌, arith}
use Rattle.std.proofs.lemmas.Bool.{cases_lt, lt-ltb, le-ltb, eq-eqb}
use Rattle.std.proofs.lemmas.List.Elements.{All-cons, All-replicate, All-append, All-nil}
use Rattle.std.specs.Int.{to_be_bytes, w16}
use Rattle.std.specs.List.{All}
use Rattle.sb_bytes.specs.Field.{number_at}
use Rattle.sb_forms.specs.Pages.{Pages}
use Rattle.sb_forms.specs.Read.{is_leaf, is_tree, is_upto, is_apart, is_root, read_tree}
use Rattle.sb_forms.specs.Maps.{map_in}
use Rattle.sb_forms.specs.TreePages.{tree_met}
use Rattle.sb_forms.proofs.Maps.{MeetsAll-one, is_all-met, map_from}
use Rattle.sb_forms.specs.Tree.{Nodes, nodes, met, items, entries_of, level_of, tree_items}
use Rattle.sb_node.specs.Page.{Node, node_of, has_form, head_in, empty_node}
use Rattle.sb_drive.specs.Slots.{nobodys, owned, bytes_for}
use Rattle.sb_recover.specs.FirstPages.{first_owner, first_page, empty_leaf, free_page, owner_entries}
use Rattle.sb_recover.specs.FirstPages as first
use Rattle.sb_recover.proofs.FirstPageLemmas.{first_page-table, first_page-leaf, first_page-free, owner_entries-none, owner_entries-more, owner_entries-entry, owners_stand, length-first_page}
use Rattle.sb_space.specs.Table.{IsTable, owner_at, shown, slots_in, table_len}
use Rattle.sb_space.specs.Opening.{NewStores}
use Rattle.sb_space.proofs.Looking.{not_eq}
use Rattle.sb_space.proofs.TablePages.{table_len-ceil, tables_by_pages}

-- ---- bytes
abbrev IsByte : ℕ → Type 0
IsByte b = b < 256

two_bytes : (a b : ℕ) → a < 256 → b < 256 → All IsByte (a ∷ b ∷ [])
two_bytes a b first second = All-cons IsByte a (b ∷ []) first (All-cons IsByte b [] second (All-nil IsByte))

small_entry : (pages q : ℕ) → All IsByte (to_be_bytes w16 (first_owner pages q))
small_entry pages q = by (nat_lt q (first.table_len pages)) (q == first.table_len pages)
  where
    by : (b c : Bool) → All IsByte (to_be_bytes w16 (cond b 1 (cond c 2 0)))
    by true c = two_bytes 0 1 (omega arith) (omega arith)
    by false true = two_bytes 0 2 (omega arith) (omega arith)
    by false false = two_bytes 0 0 (omega arith) (omega arith)

small_entries : (pages from count : ℕ) → All IsByte (owner_entries pages from count)
small_entries pages from zero = subst (All IsByte) (sym (owner_entries-none pages from)) (All-nil IsByte)
small_entries pages from (suc n) =
    let next : n + 1 ≡ suc n = omega arith in
    subst (λ (k : ℕ). All IsByte (owner_entries pages from k)) next
    (subst (All IsByte) (sym (owner_entries-more pages from n)) (All-append IsByte (owner_entries pages from n) (to_be_bytes w16 (first_owner pages (from + n))) (small_entries pages from n) (small_entry pages (from + n))))

small_leaf : All IsByte empty_leaf
unfolding empty_leaf
small_leaf = All-cons IsByte 2 (replicate 4095 0) (omega arith) (All-replicate IsByte 4095 0 (omega arith))

small_free : All IsByte free_page
unfolding free_page
small_free = All-replicate IsByte 4096 0 (omega arith)

-- ---- owners
module _ (pages : ℕ) where
  ceil : first.table_len pages ≡ table_len pages
  ceil = table_len-ceil pages

  owner-own : (n : ℕ) → n < table_len pages → first_owner pages n ≡ 1
  owner-own n low = ap (λ (b : Bool). cond b 1 (cond (n == first.table_len pages) 2 0)) (lt-ltb n (first.table_len pages) (omega (arith, ceil, low)))

  owner-root : first_owner pages (table_len pages) ≡ 2
  owner-root =
      let at : table_len pages ≡ first.table_len pages = sym ceil in
      λ i. cond (le-ltb (table_len pages) (first.table_len pages) (omega (arith, at)) i) 1 (cond (eq-eqb (table_len pages) (first.table_len pages) at i) 2 0)

  owner-rest : (n : ℕ) → table_len pages < n → first_owner pages n ≡ 0
  owner-rest n high =
      λ i. cond (le-ltb n (first.table_len pages) (omega (arith, ceil, high)) i) 1 (cond (not_eq n (first.table_len pages) (λ is. omega (arith, ceil, high, is)) i) 2 0)

  -- the owner that the table gives
  owner-given : (p k : ℕ) → p < table_len pages → k < 2048 → number_at 2 (first_page pages p) (2 * k) ≡ first_owner pages (2048 * p + k)
  owner-given p k within less =
      ap (λ (bytes : List ℕ). number_at 2 bytes (2 * k)) (first_page-table pages p (omega (arith, ceil, within))) ∙ owner_entries-entry pages (2048 * p) 2048 k less

  -- ---- each page is whole
  small_page : (p : ℕ) → All IsByte (first_page pages p)
  small_page p = ⊎_elim
      (λ (low : p < first.table_len pages). subst (All IsByte) (sym (first_page-table pages p low)) (small_entries pages (2048 * p) 2048))
      (λ (from : first.table_len pages ≤ p). ⊎_elim
      (λ (high : first.table_len pages < p). subst (All IsByte) (sym (first_page-free pages p high)) small_free)
      (λ (last : p ≤ first.table_len pages). subst (All IsByte) (sym (first_page-leaf pages p (omega (arith, from, last)))) small_leaf)
      (cases_lt (first.table_len pages) p))
      (cases_lt p (first.table_len pages))

  module _ (least : 64 ≤ pages) where
    behind : table_len pages < pages
    behind = omega (arith, least)

    new_table : IsTable pages (first_page pages)
    new_table = (tables_by_pages pages (first_page pages)).1 (λ p within k less.
        let n = 2048 * p + k in
        let given = owner-given p k within less in
        record {
          own = λ low. given ∙ owner-own n low;
          other = λ from under one. other n from (sym given ∙ one);
          none = λ beyond. given ∙ owner-rest n (omega (arith, behind, beyond));
        })
      where
        other : (n : ℕ) → table_len pages ≤ n → first_owner pages n ≡ 1 → ⊥
        other n from one = ⊎_elim
            (λ (high : table_len pages < n). let none = owner-rest n high in omega (arith, none, one))
            (λ (last : n ≤ table_len pages).
            let at : table_len pages ≡ n = omega (arith, from, last) in
            let two = ap (first_owner pages) (sym at) ∙ owner-root in
            omega (arith, two, one))
            (cases_lt (table_len pages) n)

    -- ---- slots
    slot : (n owner : ℕ) → n < pages → first_owner pages n ≡ owner → slots_in pages (first_page pages) n ≡ shown owner (first_page pages n)
    slot n owner less is =
        ap (λ (b : Bool). cond b (shown (owner_at (first_page pages) n) (first_page pages n)) nobodys) (lt-ltb n pages less)
        ∙ ap (λ (o : ℕ). shown o (first_page pages n)) (owners_stand pages n less ∙ is)

    slot-root : slots_in pages (first_page pages) (table_len pages) ≡ (2, empty_leaf)
    slot-root =
        slot (table_len pages) 2 behind owner-root ∙ ap (λ (bytes : List ℕ). shown 2 bytes) (first_page-leaf pages (table_len pages) (sym ceil))

    slot-rest : (n : ℕ) → table_len pages < n → slots_in pages (first_page pages) n ≡ nobodys
    slot-rest n high = ⊎_elim
        (λ (less : n < pages). slot n 0 less (owner-rest n high))
        (λ (beyond : pages ≤ n). ap (λ (b : Bool). cond b (shown (owner_at (first_page pages) n) (first_page pages n)) nobodys) (le-ltb n pages beyond))
        (cases_lt n pages)

-- ---- the root
node-leaf : node_of empty_leaf ≡ Some (empty_node 2 0)
unfolding empty_leaf has_form head_in number_at
node-leaf = refl

module _ (N : Nodes) (r : ℕ) (is : N r ≡ Some (empty_node 2 0)) where
  level : level_of (N r) ≡ 0
  level = ap level_of is

  root-leaf : is_root N r ≡ true
  root-leaf = ap (λ (l : ℕ). is_tree l N r && (is_upto l 16 && is_apart (met l N r))) level ∙ ap (λ (n : Option Node). is_leaf n && true) is

  items-leaf : tree_items N r ≡ []
  items-leaf = ap (λ (l : ℕ). items l N r) level ∙ ap entries_of is

read-leaf : (P : Pages) (r : ℕ) → P r ≡ empty_leaf → read_tree r P ≡ Some []
unfolding read_tree
read-leaf P r is =
    let node = ap node_of is ∙ node-leaf in
    ap (λ (b : Bool). cond b (Some (tree_items (nodes P) r)) None) (root-leaf (nodes P) r node) ∙ ap Some (items-leaf (nodes P) r node)

-- owner 2 has the root alone
module _ (pages : ℕ) (least : 64 ≤ pages) (most : pages ≤ 65536) where
  abbrev P : Pages
  P = owned (slots_in pages (first_page pages)) 2

  root-is : P (table_len pages) ≡ empty_leaf
  root-is = ap (bytes_for 2) (slot-root pages least)

  met-root : tree_met (table_len pages) P ≡ table_len pages ∷ []
  met-root = ap (λ (l : ℕ). met l (nodes P) (table_len pages)) (level (nodes P) (table_len pages) (ap node_of root-is ∙ node-leaf))

  none-other : (n : ℕ) → n ≢ table_len pages → P n ≡ []
  none-other n other = ⊎_elim
      (λ (low : n < table_len pages). ap (bytes_for 2) (slot pages least n 1 (omega (arith, low, behind pages least)) (owner-own pages n low)))
      (λ (high : table_len pages ≤ n). ap (bytes_for 2) (slot-rest pages least n (rise high)))
      (cases_lt n (table_len pages))
    where
      rise : table_len pages ≤ n → table_len pages < n
      rise high = ⊎_elim
          (λ (above : table_len pages < n). above)
          (λ (last : n ≤ table_len pages). absurd (other (omega (arith, high, last))))
          (cases_lt (table_len pages) n)

  empty-map : map_in (table_len pages) P ≡ Some []
  empty-map =
      map_from (table_len pages) P [] (read-leaf P (table_len pages) root-is)
      (is_all-met (table_len pages) P (MeetsAll-one (table_len pages) P met-root (omega (arith, behind pages least, most)) none-other))

pub new_stores : NewStores
new_stores g sizes =
    let pages = g.pages in
    let least = sizes.pages.0 in
    let root = slot-root pages least in
    record {
      whole = λ p less. record { long = length-first_page pages p; small = small_page pages p };
      table = new_table pages least;
      own = λ n low. slot pages least n 1 (omega (arith, low, behind pages least)) (owner-own pages n low);
      root = root;
      rest = slot-rest pages least;
      empty = empty-map pages least sizes.pages.1;
    }
