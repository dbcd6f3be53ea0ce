-- A heap with a row more on a page, one less, or another one.
use Rattle.std.proofs.Common.{◌≡◌, ◌≢◌, ℕ, ◌+◌, ◌-◌, ◌<◌, ◌≤◌, true, true≢false, List, [], ◌∷◌, ◌++◌, length, Option, Some, None, IsSome, is_some, option_map, refl, ap, sym, ◌∙◌, subst, arith}
use Rattle.std.specs.Prelude.{nat_eq, nat_le}
use Rattle.std.specs.List.{list_all}
use Rattle.std.specs.FinMap.Entries.{put, find}
use Rattle.std.proofs.lemmas.Bool.{and_from, ltb-false, eq-eqb, or_parts, le-leb}
use Rattle.std.proofs.lemmas.List.Sums.{sum_by-cons}
use Rattle.sb_value.specs.declared.schema.Column.{Column}
use Rattle.sb_relation.specs.Db.{with_row, without_row, row_at}
use Rattle.sb_codec.specs.Tuples.{tuple_spelling}
use Rattle.sb_node.specs.Entries.{Entry, key_cmp, size_of, sizes}
use Rattle.sb_node.specs.Page.{Node, with_entries, empty_node}
use Rattle.sb_forms.specs.Tree.{Nodes, level_of, entries_of}
use Rattle.sb_forms.specs.Read.{has}
use Rattle.sb_forms.specs.Stored.{row_in, is_row_in}
use Rattle.sb_forms.specs.HeapPages.{is_record, record_key, first_of, after_of, before_of}
use Rattle.sb_forms.proofs.RowBytes.{row_of_bytes}
use Rattle.sb_heap.specs.Links.{put_node, turned, left, IsTurn}
use Rattle.sb_heap.specs.Spots.{with_row_in}
use Rattle.sb_heap.specs.declared.list.Turn.{Turn}
use Rattle.sb_heap.specs.declared.list.Turn.TheVariants.{Joins, Leaves}
use Rattle.sb_heap.proofs.Lists.{has_others, within_list, linked_at, apart_without}
use Rattle.sb_heap.proofs.Slots.{same_key, all_put, entries_without}
use Rattle.sb_heap.proofs.Standing.{Heap, Listed, kind_of, room_at, turns, Stands-put, Listed-put, Listed-fresh, Stands-alike, Heap-without, Alike-turned, put_same, put_other, by_page, Listed-left, level_says}
use Rattle.sb_heap.proofs.Rows.{rows_in, rows_put, rows_without, rows_find}

-- ---- what becomes of the page's rows
-- the heap is one still, and but for this page it has the rows that it had
pub record Becomes (root : ℕ) (schema : List Column) (N M : Nodes) (page : ℕ) (es : List Entry) : Type 0 where
  pub list : List ℕ
  pub heap : Heap root schema M list
  pub here : entries_of (M page) ≡ es
  pub others : (n : ℕ) → n ≢ page → entries_of (M n) ≡ entries_of (N n)

-- a page of a heap with other entries, and its turn
pub record Changed (root : ℕ) (schema : List Column) (N : Nodes) (page : ℕ) (x : Node) (es : List Entry) (turn : Turn) : Type 0 where
  pub there : N page ≡ Some x
  pub records : list_all (is_record schema) es ≡ true
  pub some : page ≢ root → es ≢ []
  pub first : Option Node
  pub first_is : first_of first ≡ first_of (N root)
  pub turn_is : IsTurn first x.head (4072 - sizes es) turn

some_there : (o : Option Node) (x : Node) → o ≡ Some x → IsSome o
some_there o x is = ap is_some is

pub changes : (root : ℕ) (schema : List Column) (N : Nodes) (list : List ℕ) (page : ℕ) (x : Node) (es : List Entry) (turn : Turn) → Heap root schema N list → Changed root schema N page x es turn
    → Becomes root schema N (turned root page turn (put_node page (Some (with_entries es x)) N)) page es
changes root schema N list page x es turn h c =
    let y = with_entries es x in
    let N1 = put_node page (Some y) N in
    let there = some_there (N page) x c.there in
    let here : N1 page ≡ Some y = put_same page page (Some y) N refl in
    let t = turns root schema page turn N1 list (record {
      stands = Stands-put root schema page y N (record { low = h.stands.low page there; kind = sym (ap kind_of c.there) ∙ h.stands.kind page there; records = c.records; some = c.some }) h.stands;
      there = ap is_some here;
      listed = Listed-put root page y N list there (record { level = ap level_of (sym c.there); after = ap after_of (sym c.there); before = ap before_of (sym c.there); first = ap first_of (sym c.there) }) h.listed;
      rooms = by_page (λ n o. IsSome o → n ≢ page → room_at o ≡ has n list) page (Some y) N (λ is other. absurd (other refl)) (λ n apart is other. h.rooms n is);
    }) (record {
      first = c.first;
      head = x.head;
      room = 4072 - sizes es;
      turn_is = c.turn_is;
      first_is = c.first_is ∙ sym (by_page (λ n o. n ≡ root → first_of o ≡ first_of (N root)) page (Some y) N (λ e. ap first_of (sym c.there) ∙ ap (λ m. first_of (N m)) e) (λ n apart e. ap (λ m. first_of (N m)) e) root refl);
      level_is = ap level_of (sym here);
      after_is = ap after_of (sym here);
      before_is = ap before_of (sym here);
      room_is = ap room_at (sym here);
    }) in
    let alike = Alike-turned root page turn N1 in
    record {
      list = t.list;
      heap = t.heap;
      here = alike.entries page ∙ ap entries_of here;
      others = λ n other. alike.entries n ∙ ap entries_of (put_other page n (Some y) N (λ e. other (sym e)));
    }

-- ---- rows are short
pub short_row : (schema : List Column) (bytes : List ℕ) → is_row_in schema bytes ≡ true → length bytes ≤ 1000
short_row schema bytes is =
    let r = row_of_bytes schema bytes is in
    omega (arith, ap length r.value_is, ltb-false 1000 (length (tuple_spelling (row_in bytes))) (or_parts _ _ r.is_row.short).1)

pub is_record_from : (schema : List Column) (slot row : List ℕ) → length slot ≡ 2 → is_row_in schema row ≡ true → is_record schema (slot, row) ≡ true
is_record_from schema slot row two is = and_from (nat_eq (length slot) 2) (is_row_in schema row) (eq-eqb (length slot) 2 two) is

pub put_records : (schema : List Column) (slot row : List ℕ) (es : List Entry) → length slot ≡ 2 → is_row_in schema row ≡ true → list_all (is_record schema) es ≡ true → list_all (is_record schema) (put key_cmp slot row es) ≡ true
put_records schema slot row es two is all =
    all_put (is_record schema) slot row es (λ k tied. subst (λ (s : List ℕ). is_record schema (s, row) ≡ true) (same_key slot k tied) (is_record_from schema slot row two is)) (is_record_from schema slot row two is) all

-- ---- a fresh page with a row alone
pub fresh_page : (root : ℕ) (schema : List Column) (N : Nodes) (list : List ℕ) (page : ℕ) (slot row : List ℕ) → Heap root schema N list → N page ≡ None → (page ≢ 0) × (page < 65536) → first_of (N root) ≡ 0 → length slot ≡ 2 → is_row_in schema row ≡ true
    → Becomes root schema N (turned root page (Joins 0) (put_node page (Some (with_row_in slot row (empty_node 1 0))) N)) page ((slot, row) ∷ [])
fresh_page root schema N list page slot row h none low first two is =
    let y = with_row_in slot row (empty_node 1 0) in
    let N1 = put_node page (Some y) N in
    let here : N1 page ≡ Some y = put_same page page (Some y) N refl in
    let root_other : page ≢ root = λ e. true≢false (sym h.stands.root_some ∙ ap (λ m. is_some (N m)) (sym e) ∙ ap is_some none) in
    let t = turns root schema page (Joins 0) N1 list (record {
      stands = Stands-put root schema page y N (record { low = low; kind = refl; records = and_from (is_record schema (slot, row)) true (is_record_from schema slot row two is) refl; some = λ other e. cc }) h.stands;
      there = ap is_some here;
      listed = Listed-fresh root page y N list none h.stands.root_some refl h.listed;
      rooms = by_page (λ n o. IsSome o → n ≢ page → room_at o ≡ has n list) page (Some y) N (λ is other. absurd (other refl)) (λ n apart is other. h.rooms n is);
    }) (record {
      first = N root;
      head = y.head;
      room = 4072 - y.head.used;
      turn_is = (refl, roomy, sym first, h.stands.root_some);
      first_is = sym (ap first_of (put_other page root (Some y) N root_other));
      level_is = ap level_of (sym here);
      after_is = ap after_of (sym here);
      before_is = ap before_of (sym here);
      room_is = ap room_at (sym here);
    }) in
    let alike = Alike-turned root page (Joins 0) N1 in
    record {
      list = t.list;
      heap = t.heap;
      here = alike.entries page ∙ ap entries_of here;
      others = λ n other. alike.entries n ∙ ap entries_of (put_other page n (Some y) N (λ e. other (sym e)));
    }
  where
    size : sizes ((slot, row) ∷ []) ≡ size_of (slot, row) + sizes []
    size = sum_by-cons size_of (slot, row) []

    small : sizes ((slot, row) ∷ []) ≤ 1006
    small = omega (arith, size, two, short_row schema row is)

    roomy : nat_le 1006 (4072 - sizes ((slot, row) ∷ [])) ≡ true
    roomy = le-leb 1006 (4072 - sizes ((slot, row) ∷ [])) (omega (arith, small))

-- ---- a page that goes with its only row
pub dropped_page : (root : ℕ) (schema : List Column) (N : Nodes) (list : List ℕ) (page : ℕ) (x : Node) → Heap root schema N list → N page ≡ Some x → page ≢ root → x.head.level ≡ 1
    → Becomes root schema N (put_node page None (turned root page (Leaves x.head.b x.head.a) N)) page []
dropped_page root schema N list page x h there other level =
    let some = some_there (N page) x there in
    let had : has page list ≡ true = sym (level_says (has page list) (level_of (N page)) (h.listed.level page some)) ∙ ap (λ l. nat_eq l 1) (ap level_of there) ∙ eq-eqb x.head.level 1 level in
    let w = within_list page list had in
    let l : Listed root N (w.front ++ page ∷ w.back) = subst (Listed root N) w.is h.listed in
    let links = linked_at N 0 page w.front w.back l.linked in
    let before_is = ap before_of (sym there) ∙ links.0 in
    let after_is = ap after_of (sym there) ∙ links.1 in
    let alike = Alike-turned root page (Leaves x.head.b x.head.a) N in
    let M = left root page x.head.b x.head.a N in
    record {
      list = w.front ++ w.back;
      heap = Heap-without root schema page M (w.front ++ w.back) other (apart_without page w.front w.back l.apart).1 (Stands-alike root schema N M alike h.stands)
          (Listed-left root page x.head.b x.head.a N w.front w.back h.stands.root_some some before_is after_is l)
          (λ n is apart. alike.room n ∙ h.rooms n (sym (alike.some n) ∙ is) ∙ ap (has n) w.is ∙ has_others n page w.front w.back apart);
      here = ap entries_of (put_same page page None M refl);
      others = λ n apart. ap entries_of (put_other page n None M (λ e. apart (sym e))) ∙ alike.entries n;
    }

-- ---- the rows then
pub rows_put_in : (root : ℕ) (schema : List Column) (N M : Nodes) (page : ℕ) (slot row : List ℕ) → page < 65536 → Becomes root schema N M page (put key_cmp slot row (entries_of (N page)))
    → rows_in M 0 65536 ≡ with_row (rows_in N 0 65536) (record_key page slot) (row_in row)
rows_put_in root schema N M page slot row low b = rows_put N M 0 65536 page slot row (omega arith) (omega (arith, low)) (omega arith) b.others b.here

pub rows_taken_out : (root : ℕ) (schema : List Column) (N M : Nodes) (page : ℕ) (slot : List ℕ) → page < 65536 → Becomes root schema N M page (entries_without slot (entries_of (N page)))
    → rows_in M 0 65536 ≡ without_row (rows_in N 0 65536) (record_key page slot)
rows_taken_out root schema N M page slot low b = rows_without N M 0 65536 page slot (omega arith) (omega (arith, low)) (omega arith) b.others b.here

pub row_found : (N : Nodes) (page : ℕ) (slot : List ℕ) → page < 65536 → row_at (rows_in N 0 65536) (record_key page slot) ≡ option_map row_in (find key_cmp slot (entries_of (N page)))
row_found N page slot low = rows_find N 0 65536 page slot (omega arith) (omega (arith, low)) (omega arith)
