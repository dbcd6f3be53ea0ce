-- What a delete and an insert leave.
use Rattle.std.proofs.Common.{◌≡◌, ◌≢◌, ℕ, ◌+◌, ◌-◌, ◌<◌, ◌≤◌, ◌==◌, Bool, true, false, true≢false, cond, not, List, [], ◌∷◌, length, Option, Some, None, IsSome, is_some, is_none, option_map, refl, ap, sym, ◌∙◌, subst, arith, inl, inr, ◌⊎◌, eq-eqb}
use Rattle.std.specs.Prelude.{nat_eq, Ok}
use Rattle.std.specs.List.{list_all}
use Rattle.std.specs.Ordering.{is_eq}
use Rattle.std.specs.FinMap.Entries.{put, find}
use Rattle.std.proofs.lemmas.Bool.{and_parts, and_from, eqb-true, le-leb}
use Rattle.std.proofs.lemmas.List.Sums.{sum_by-cons}
use Rattle.sb_value.specs.declared.schema.Column.{Column}
use Rattle.sb_codec.specs.Tuples.{tuple_spelling}
use Rattle.sb_relation.specs.Db.{Key, Row, Rows, row_at, with_row, without_row}
use Rattle.sb_relation.specs.Keys.{is_record_key}
use Rattle.sb_node.specs.declared.head.Head.{Head}
use Rattle.sb_node.specs.Entries.{Entry, key_cmp, place_of, size_of, sizes, without}
use Rattle.sb_node.specs.Page.{Node, node_in, node_of, with_entries, empty_node}
use Rattle.sb_node.proofs.Edited.{node_of-form}
use Rattle.sb_node.proofs.Sizes.{head_counts}
use Rattle.sb_forms.specs.Pages.{Pages, zeros}
use Rattle.sb_forms.specs.Tree.{Nodes, nodes, entries_of, level_of}
use Rattle.sb_forms.specs.Stored.{row_in, is_row_in}
use Rattle.sb_forms.specs.HeapPages.{heap_rows, has_room, record_key, is_record, first_of}
use Rattle.sb_forms.proofs.Spelled.{row_in-spelling}
use Rattle.sb_forms.proofs.RowBytes.{bytes_of_row}
use Rattle.sb_ctx.specs.declared.instance.Instance.{Instance}
use Rattle.sb_ctx.specs.declared.calls.MethodCall.TheVariants as call
use Rattle.sb_ctx.specs.declared.moves.Move.TheVariants as move
use Rattle.sb_ctx.specs.View.{View, page_of, dropped, HoldsPart, stored}
use Rattle.sb_ctx.specs.Method.{MayHold}
use Rattle.sb_ctx.specs.MethodAnswers.{Changes, Deleted}
use Rattle.sb_ctx.proofs.ViewLaws.{IsFree, IsFree-free_page, free_page-unused, stored-clean, stored-other}
use Rattle.sb_heap.specs.Broken.{held_node}
use Rattle.sb_heap.specs.Heap.{heap_method}
use Rattle.sb_heap.specs.Held.{IsHeapPage}
use Rattle.sb_heap.specs.Links.{Made, IsTurn, put_node, turned}
use Rattle.sb_heap.specs.Spots.{IsDropped, IsRewritten, IsSpot, with_row_in}
use Rattle.sb_heap.specs.Answered.{IsPartedInto}
use Rattle.sb_heap.specs.declared.insertion.Spot.{Spot}
use Rattle.sb_heap.specs.declared.list.Turn.{Turn}
use Rattle.sb_heap.specs.declared.list.Turn.TheVariants.{Joins, Leaves}
use Rattle.sb_heap.proofs.Slots.{cut_entries, entry_within, length-without, entries_without, all_without, found_at, put_some, tie}
use Rattle.sb_heap.proofs.Standing.{Heap, room_at}
use Rattle.sb_heap.proofs.Rows.{rows_in}
use Rattle.sb_heap.proofs.Formed.{Formed, formed, bare_node}
use Rattle.sb_heap.proofs.MethodLaws.{key_short}
use Rattle.sb_heap.proofs.Turning.{Becomes, changes, dropped_page, fresh_page as fresh_becomes, put_records, rows_put_in, rows_taken_out, row_found, short_row}
use Rattle.sb_heap.proofs.Outcomes.{held_is, holds_after, node_is, turn_for, within_cost}
use Rattle.sb_heap.proofs.Changing.{deleting, inserting}

-- ---- a row taken out
-- the held page of the key has the row at a place
pub record IsAtPlace (old : View) (key : Key) (page : ℕ) (slot bytes : List ℕ) (head : Head) (i : ℕ) : Type 0 where
  pub parts : IsPartedInto key page slot
  pub low : page < 65536
  pub held : IsHeapPage (page_of old page) bytes head
  pub place : place_of slot (node_in bytes).entries ≡ Ok i

module _ (inst : Instance) (old : View) (key : Key) (page : ℕ) (slot bytes : List ℕ) (head : Head) (i : ℕ) (clean : dropped old ≡ old) (a : IsAtPlace old key page slot bytes head i) (P : Pages) (part : HoldsPart old P) (rows : Rows) (holds : heap_rows inst.root inst.schema P ≡ Some rows) where
  pub page_formed : Formed inst.root inst.schema P rows
  page_formed = formed inst.root inst.schema P rows part.are_pages holds

  pub page_there : nodes P page ≡ Some (node_in bytes)
  page_there = node_is old P page (node_in bytes) clean part (ap held_node a.held.held_is ∙ node_of-form bytes a.held.form)

  pub row_there : row_at rows key ≡ Some (row_in (found_at slot (node_in bytes).entries i a.place).0)
  row_there =
      (λ j. row_at (page_formed.same j) (a.parts.key_is j)) ∙ row_found (nodes P) page slot a.low
      ∙ ap (λ (o : Option Node). option_map row_in (find key_cmp slot (entries_of o))) page_there
      ∙ ap (option_map row_in) (found_at slot (node_in bytes).entries i a.place).1

  pub cut_is : without i (node_in bytes).entries ≡ entries_without slot (node_in bytes).entries
  cut_is = cut_entries bytes slot i a.held.form a.place

  pub cut_records : list_all (is_record inst.schema) (without i (node_in bytes).entries) ≡ true
  cut_records =
      ap (list_all (is_record inst.schema)) cut_is
      ∙ all_without (is_record inst.schema) slot (node_in bytes).entries (ap (λ (o : Option Node). list_all (is_record inst.schema) (entries_of o)) (sym page_there) ∙ page_formed.heap.stands.records page)

  -- the rows without that of the key
  pub rows_less : (M : Nodes) → Becomes inst.root inst.schema (nodes P) M page (entries_without slot (node_in bytes).entries) → rows_in M 0 65536 ≡ without_row rows key
  rows_less M b =
      rows_taken_out inst.root inst.schema (nodes P) M page slot a.low (record { list = b.list; heap = b.heap; here = b.here ∙ ap (λ (o : Option Node). entries_without slot (entries_of o)) (sym page_there); others = b.others })
      ∙ (λ j. without_row (sym page_formed.same j) (sym a.parts.key_is j))

-- the entry is cut out of the page
pub Changes-cut : (inst : Instance) (old new : View) (key : Key) (page : ℕ) (slot bytes : List ℕ) (head : Head) (i : ℕ) → dropped old ≡ old → IsAtPlace old key page slot bytes head i → (page ≢ inst.root → head.count ≢ 1)
    → IsRewritten old new inst.root page (node_in bytes) (with_entries (without i (node_in bytes).entries) (node_in bytes)) → Changes heap_method inst (call.Delete key) old new move.Done
Changes-cut inst old new key page slot bytes head i clean a some r = record {
  given = r.made.given ∙ clean;
  asks = tt;
  broken = tt;
  ends = tt;
  answers = λ P part rows holds.
      let f = page_formed inst old key page slot bytes head i clean a P part rows holds in
      let there = page_there inst old key page slot bytes head i clean a P part rows holds in
      let cut = cut_is inst old key page slot bytes head i clean a P part rows holds in
      let b = changes inst.root inst.schema (nodes P) f.list page (node_in bytes) (without i (node_in bytes).entries) r.turn f.heap (record {
        there = there;
        records = cut_records inst old key page slot bytes head i clean a P part rows holds;
        some = λ other none. some other (one_only none);
        first = nodes P inst.root;
        first_is = refl;
        turn_is = turn_for old P inst.root (node_in bytes).head (4072 - sizes (without i (node_in bytes).entries)) r.turn clean part r.turn_is;
      }) in
      let M = turned inst.root page r.turn (put_node page (Some (with_entries (without i (node_in bytes).entries) (node_in bytes))) (nodes P)) in
      let is : nodes (stored new P) ≡ M = r.made.makes P ∙ ap (λ (Q : Pages). turned inst.root page r.turn (put_node page (Some (with_entries (without i (node_in bytes).entries) (node_in bytes))) (nodes Q))) (stored-clean old P clean part) in
      subst (λ (o : Option Row). Deleted heap_method inst key o rows (stored new P) move.Done) (sym (row_there inst old key page slot bytes head i clean a P part rows holds))
      (holds_after inst old new P rows M b.list clean part f (r.made.bare P) is b.heap
      ∙ ap Some (rows_less inst old key page slot bytes head i clean a P part rows holds M (subst (λ (es : List Entry). Becomes inst.root inst.schema (nodes P) M page es) cut b)));
  spends = λ ctx P part rows before. record { path = tt; room = tt; gets = tt; edits = within_cost inst (call.Delete key) old new (deleting inst key) clean (r.made.given ∙ clean) (omega (arith, r.made.edits)) ctx P part rows };
}
  where
    one_only : without i (node_in bytes).entries ≡ [] → head.count ≡ 1
    one_only none =
        let within = entry_within bytes slot i a.held.form a.place in
        let counted : head.count ≡ length (node_in bytes).entries = ap (λ (h : Head). h.count) a.held.head_is ∙ (head_counts bytes a.held.form).count in
        omega (arith, counted, length-without i (node_in bytes).entries (subst (λ n. i < n) (head_counts bytes a.held.form).count within), ap length none)

-- the page goes with its only row
pub Changes-dropped : (inst : Instance) (old new : View) (key : Key) (page : ℕ) (slot bytes : List ℕ) (head : Head) (i : ℕ) → dropped old ≡ old → IsAtPlace old key page slot bytes head i → page ≢ inst.root → head.count ≡ 1
    → IsDropped old new inst.root page head → Changes heap_method inst (call.Delete key) old new move.Done
Changes-dropped inst old new key page slot bytes head i clean a other count r = record {
  given = r.made.given ∙ clean;
  asks = tt;
  broken = tt;
  ends = tt;
  answers = λ P part rows holds.
      let f = page_formed inst old key page slot bytes head i clean a P part rows holds in
      let there = page_there inst old key page slot bytes head i clean a P part rows holds in
      let records : list_all (is_record inst.schema) (node_in bytes).entries ≡ true = ap (λ (o : Option Node). list_all (is_record inst.schema) (entries_of o)) (sym there) ∙ f.heap.stands.records page in
      let roomy = one_roomy inst.schema (node_in bytes) records (sym (head_counts bytes a.held.form).count ∙ ap (λ (h : Head). h.count) (sym a.held.head_is) ∙ count) (head_counts bytes a.held.form).used in
      let some : IsSome (nodes P page) = ap is_some there in
      let level : (node_in bytes).head.level ≡ 1 = ap level_of (sym there) ∙ f.heap.listed.level page some ∙ ap (λ b. cond b 1 0) (sym (f.heap.rooms page some) ∙ ap room_at there ∙ roomy) in
      let b = dropped_page inst.root inst.schema (nodes P) f.list page (node_in bytes) f.heap there other level in
      let turn_is : r.turn ≡ Leaves (node_in bytes).head.b (node_in bytes).head.a = r.turn_is (ap (λ (h : Head). h.level) a.held.head_is ∙ level) ∙ ap (λ (h : Head). Leaves h.b h.a) a.held.head_is in
      let M = put_node page None (turned inst.root page (Leaves (node_in bytes).head.b (node_in bytes).head.a) (nodes P)) in
      let is : nodes (stored new P) ≡ M = r.made.makes P ∙ (λ j. put_node page None (turned inst.root page (turn_is j) (nodes (stored-clean old P clean part j)))) in
      let cut : ◌≡◌ {A = List Entry} [] (entries_without slot (node_in bytes).entries) = sym (none_left (node_in bytes).entries (found_at slot (node_in bytes).entries i a.place).0 (sym (head_counts bytes a.held.form).count ∙ ap (λ (h : Head). h.count) (sym a.held.head_is) ∙ count) (found_at slot (node_in bytes).entries i a.place).1) in
      subst (λ (o : Option Row). Deleted heap_method inst key o rows (stored new P) move.Done) (sym (row_there inst old key page slot bytes head i clean a P part rows holds))
      (holds_after inst old new P rows M b.list clean part f (r.made.bare P) is b.heap
      ∙ ap Some (rows_less inst old key page slot bytes head i clean a P part rows holds M (subst (λ (es : List Entry). Becomes inst.root inst.schema (nodes P) M page es) cut b)));
  spends = λ ctx P part rows before. record { path = tt; room = tt; gets = tt; edits = within_cost inst (call.Delete key) old new (deleting inst key) clean (r.made.given ∙ clean) (omega (arith, r.made.edits)) ctx P part rows };
}
  where
    one_roomy : (schema : List Column) (x : Node) → list_all (is_record schema) x.entries ≡ true → length x.entries ≡ 1 → x.head.used ≡ sizes x.entries → has_room x ≡ true
    one_roomy schema x records one used = let low = by x.entries records one used in le-leb 1006 (4072 - x.head.used) (omega (arith, low))
      where
        by : (es : List Entry) → list_all (is_record schema) es ≡ true → length es ≡ 1 → x.head.used ≡ sizes es → x.head.used ≤ 1006
        by [] records one used = absurd (omega (arith, one))
        by (e ∷ []) records one used =
            let parts = and_parts (is_record schema e) true records in
            let both = and_parts (nat_eq (length e.0) 2) (is_row_in schema e.1) parts.0 in
            let size : sizes (e ∷ []) ≡ size_of e + sizes [] = sum_by-cons size_of e [] in
            omega (arith, used, size, eqb-true (length e.0) 2 both.0, short_row schema e.1 both.1)
        by (e ∷ d ∷ es) records one used = absurd (omega (arith, one))

    none_left : (es : List Entry) (value : List ℕ) → length es ≡ 1 → find key_cmp slot es ≡ Some value → entries_without slot es ≡ []
    none_left [] value one found = absurd (omega (arith, one))
    none_left (e ∷ []) value one found = by (is_eq (key_cmp slot e.0)) refl found
      where
        by : (b : Bool) → is_eq (key_cmp slot e.0) ≡ b → cond b (Some e.1) None ≡ Some value → entries_without slot (e ∷ []) ≡ []
        by true is found = ap (λ b. cond (not b) (e ∷ []) []) (sym (tie slot e.0) ∙ is)
        by false is found = absurd (cc)
    none_left (e ∷ d ∷ es) value one found = absurd (omega (arith, one))

-- ---- a row put in
-- where a row goes, by the nodes as they are
pub data Goes (root : ℕ) (N : Nodes) (spot : Spot) (row : List ℕ) (y : Node) : Type 0 where
  Listed : (x : Node) (first : Option Node) → N spot.page ≡ Some x → y ≡ with_row_in spot.slot row x → find key_cmp spot.slot x.entries ≡ None → first_of first ≡ first_of (N root) → IsTurn first x.head (4072 - y.head.used) spot.turn → Goes root N spot row y
  Fresh : N spot.page ≡ None → y ≡ with_row_in spot.slot row (empty_node 1 0) → spot.turn ≡ Joins 0 → first_of (N root) ≡ 0 → (spot.page ≢ 0) × (spot.page < 65536) → Goes root N spot row y

pub record Gone (root : ℕ) (schema : List Column) (N : Nodes) (spot : Spot) (row : List ℕ) (y : Node) : Type 0 where
  pub low : spot.page < 65536
  pub free : find key_cmp spot.slot (entries_of (N spot.page)) ≡ None
  pub becomes : Becomes root schema N (turned root spot.page spot.turn (put_node spot.page (Some y) N)) spot.page (put key_cmp spot.slot row (entries_of (N spot.page)))

pub goes : (root : ℕ) (schema : List Column) (N : Nodes) (list : List ℕ) (spot : Spot) (row : List ℕ) (y : Node) → Heap root schema N list → length spot.slot ≡ 2 → is_row_in schema row ≡ true → Goes root N spot row y → Gone root schema N spot row y
goes root schema N list spot row y h two is (Listed x first there y_is free first_is turn_is) = record {
  low = (h.stands.low spot.page (ap is_some there)).1;
  free = ap (λ (o : Option Node). find key_cmp spot.slot (entries_of o)) there ∙ free;
  becomes = subst (λ (z : Node). Becomes root schema N (turned root spot.page spot.turn (put_node spot.page (Some z) N)) spot.page (put key_cmp spot.slot row (entries_of (N spot.page)))) (sym y_is)
      (subst (λ (o : Option Node). Becomes root schema N (turned root spot.page spot.turn (put_node spot.page (Some (with_row_in spot.slot row x)) N)) spot.page (put key_cmp spot.slot row (entries_of o))) (sym there)
      (changes root schema N list spot.page x (put key_cmp spot.slot row x.entries) spot.turn h (record {
        there = there;
        records = put_records schema spot.slot row x.entries two is (ap (λ (o : Option Node). list_all (is_record schema) (entries_of o)) (sym there) ∙ h.stands.records spot.page);
        some = λ other none. put_some spot.slot row x.entries none;
        first = first;
        first_is = first_is;
        turn_is = subst (λ (z : Node). IsTurn first x.head (4072 - z.head.used) spot.turn) y_is turn_is;
      })));
}
goes root schema N list spot row y h two is (Fresh none y_is turn_is first low) = record {
  low = low.1;
  free = ap (λ (o : Option Node). find key_cmp spot.slot (entries_of o)) none;
  becomes = subst (λ (z : Node). Becomes root schema N (turned root spot.page spot.turn (put_node spot.page (Some z) N)) spot.page (put key_cmp spot.slot row (entries_of (N spot.page)))) (sym y_is)
      (subst (λ (t : Turn). Becomes root schema N (turned root spot.page t (put_node spot.page (Some (with_row_in spot.slot row (empty_node 1 0))) N)) spot.page (put key_cmp spot.slot row (entries_of (N spot.page)))) (sym turn_is)
      (subst (λ (o : Option Node). Becomes root schema N (turned root spot.page (Joins 0) (put_node spot.page (Some (with_row_in spot.slot row (empty_node 1 0))) N)) spot.page (put key_cmp spot.slot row (entries_of o))) (sym none)
      (fresh_becomes root schema N list spot.page spot.slot row h none low first two is)));
}

-- a spot that was found
pub spot_goes : (old mid : View) (root : ℕ) (schema : List Column) (P : Pages) (rows : Rows) (row : List ℕ) (spot : Spot) → dropped old ≡ old → HoldsPart old P → heap_rows root schema P ≡ Some rows → IsSpot old mid root row spot → Goes root (nodes P) spot row (node_in spot.bytes.items)
spot_goes old mid root schema P rows row spot clean part holds s = elim s.is [
  | inl l ↦ Listed (node_in l.1.was) (nodes P root) (node_is old P spot.page (node_in l.1.was) clean part (ap held_node l.1.held.held_is ∙ node_of-form l.1.was l.1.held.form)) l.1.node_is l.1.free refl
      (turn_for old P root (node_in l.1.was).head (4072 - (node_in spot.bytes.items).head.used) spot.turn clean part l.1.turn)
  | inr f ↦
      let free = IsFree-free_page old spot.page f.1.sound f.1.fresh in
      Fresh (bare_node (P spot.page) (free_page-unused old P spot.page f.1.sound part f.1.fresh)) f.1.node_is f.1.turn (ap first_of (sym root_there) ∙ f.1.none) (s.some, low free)
]
  where
    root_there : held_node (page_of old root) ≡ nodes P root
    root_there = held_is old P root clean part (ap is_some s.root_is.held_is)

    low : IsFree old spot.page → spot.page < 65536
    low free = part.fresh spot.page free.page free.held free.fresh

-- what is put in over a spot that was found
module _ (old mid new : View) (root : ℕ) (row : List ℕ) (spot : Spot) (s : IsSpot old mid root row spot) (P : Pages) (M : Nodes) (is : nodes (stored new P) ≡ M) (some : M spot.page ≡ None → ⊥) where
  -- but for the page of the spot, the pages are as they were
  mid_is : (n : ℕ) → spot.page ≢ n → stored mid P n ≡ stored old P n
  mid_is n other = elim s.is [
    | inl l ↦ ap (λ (v : View). stored v P n) l.0
    | inr f ↦ ap (λ (v : View). stored v P n) f.0 ∙ stored-other old P spot.page n zeros other
  ]

  pub spot_bare : ((n : ℕ) → nodes (stored new P) n ≡ None → (stored new P n ≡ []) ⊎ (stored new P n ≡ stored mid P n)) → (n : ℕ) → nodes (stored new P) n ≡ None → (stored new P n ≡ []) ⊎ (stored new P n ≡ stored old P n)
  spot_bare bare n none = elim (bare n none) [
    | inl empty ↦ inl empty
    | inr kept ↦ inr (kept ∙ mid_is n (λ e. some (ap M e ∙ ap (λ (N : Nodes). N n) (sym is) ∙ none)))
  ]

pub put_over : (old mid : View) (root : ℕ) (row : List ℕ) (spot : Spot) (s : IsSpot old mid root row spot) (P : Pages) (y : Node) → put_node spot.page (Some y) (nodes (stored mid P)) ≡ put_node spot.page (Some y) (nodes (stored old P))
put_over old mid root row spot s P y = λ i n. by n (spot.page == n) refl i
  where
    by : (n : ℕ) (b : Bool) → (spot.page == n) ≡ b → cond b (Some y) (nodes (stored mid P) n) ≡ cond b (Some y) (nodes (stored old P) n)
    by n true same = refl
    by n false differs = ap node_of (elim s.is [
      | inl l ↦ ap (λ (v : View). stored v P n) l.0
      | inr f ↦ ap (λ (v : View). stored v P n) f.0 ∙ stored-other old P spot.page n zeros (λ e. true≢false (sym (eq-eqb spot.page n e) ∙ differs))
    ])

pub entries_some : (o : Option Node) (slot row : List ℕ) (es : List Entry) → entries_of o ≡ put key_cmp slot row es → o ≡ None → ⊥
entries_some o slot row es is none = put_some slot row es (sym is ∙ ap entries_of none)

pub spelled_in : (inst : Instance) (tuple : Row) (row : List ℕ) → MayHold heap_method inst tuple → row ≡ tuple_spelling tuple → (is_row_in inst.schema row ≡ true) × (row_in row ≡ tuple)
spelled_in inst tuple row may is = (bytes_of_row inst.schema tuple row may.is_row is, ap row_in is ∙ row_in-spelling tuple may.is_row.tuple)

pub Changes-inserted : (inst : Instance) (tuple : Row) (row : List ℕ) (old mid new : View) (spot : Spot) (key : Key) → dropped old ≡ old → MayHold heap_method inst tuple → row ≡ tuple_spelling tuple → IsSpot old mid inst.root row spot → dropped mid ≡ dropped old → key ≡ record_key spot.page spot.slot
    → Made (λ N. turned inst.root spot.page spot.turn (put_node spot.page (node_of spot.bytes.items) N)) 4 mid new (Ok tt) → Changes heap_method inst (call.Insert tuple) old new (move.Key key)
Changes-inserted inst tuple row old mid new spot key clean may row_is s mid_given key_is made = record {
  given = made.given ∙ mid_given ∙ clean;
  asks = tt;
  broken = tt;
  ends = ap is_record_key key_is ∙ key_short spot.page spot.slot s.slot_long;
  answers = λ P part rows holds.
      let f = formed inst.root inst.schema P rows part.are_pages holds in
      let y = node_in spot.bytes.items in
      let g = goes inst.root inst.schema (nodes P) f.list spot row y f.heap s.slot_long spelled.0 (spot_goes old mid inst.root inst.schema P rows row spot clean part holds s) in
      let M = turned inst.root spot.page spot.turn (put_node spot.page (Some y) (nodes P)) in
      let is : nodes (stored new P) ≡ M =
      made.makes P ∙ ap (turned inst.root spot.page spot.turn) (ap (λ (o : Option Node). put_node spot.page o (nodes (stored mid P))) (node_of-form spot.bytes.items s.form) ∙ put_over old mid inst.root row spot s P y ∙ ap (λ (Q : Pages). put_node spot.page (Some y) (nodes Q)) (stored-clean old P clean part)) in
      let rows_are : rows_in M 0 65536 ≡ with_row rows key tuple =
      rows_put_in inst.root inst.schema (nodes P) M spot.page spot.slot row g.low g.becomes ∙ (λ j. with_row (sym f.same j) (sym key_is j) (spelled.1 j)) in (
        and_from (is_record_key key) (is_none (row_at rows key)) (ap is_record_key key_is ∙ key_short spot.page spot.slot s.slot_long)
            (ap is_none ((λ j. row_at (f.same j) (key_is j)) ∙ row_found (nodes P) spot.page spot.slot g.low ∙ ap (option_map row_in) g.free)),
        holds_after inst old new P rows M g.becomes.list clean part f (spot_bare old mid new inst.root row spot s P M is (entries_some (M spot.page) spot.slot row (entries_of (nodes P spot.page)) g.becomes.here) (made.bare P)) is g.becomes.heap ∙ ap Some rows_are,
      );
  spends = λ ctx P part rows before. record { path = tt; room = tt; gets = tt; edits = within_cost inst (call.Insert tuple) old new (inserting inst tuple) clean (made.given ∙ mid_given ∙ clean) (omega (arith, made.edits, s.edits)) ctx P part rows };
}
  where
    spelled : (is_row_in inst.schema row ≡ true) × (row_in row ≡ tuple)
    spelled = spelled_in inst tuple row may row_is
