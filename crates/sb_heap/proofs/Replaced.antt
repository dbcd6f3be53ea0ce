-- What an update leaves.
use Rattle.std.proofs.Common.{◌≡◌, ◌≢◌, ℕ, ◌+◌, ◌-◌, ◌<◌, ◌≤◌, ◌==◌, nat_le, Bool, true, false, true≢false, cond, not, List, [], ◌∷◌, length, Option, Some, IsSome, is_some, is_none, option_map, refl, ap, sym, ◌∙◌, subst, arith, inl, inr, eq-eqb}
use Rattle.std.specs.Prelude.{nat_eq, ◌||◌}
use Rattle.std.specs.Str.{bytes_eq}
use Rattle.std.specs.FinMap.Entries.{put, find}
use Rattle.std.proofs.lemmas.Bool.{and_from, or_right}
use Rattle.std.proofs.lemmas.Bool.Decides.{nat_tests}
use Rattle.sb_codec.specs.Tuples.{tuple_spelling}
use Rattle.sb_relation.specs.Db.{Key, Row, Rows, row_at, with_row, without_row}
use Rattle.sb_relation.specs.Keys.{is_record_key}
use Rattle.sb_node.specs.declared.head.Head.{Head}
use Rattle.sb_node.specs.Entries.{Entry, key_cmp, size_of, sizes, without}
use Rattle.sb_node.specs.Page.{Node, node_in, node_of, with_entries}
use Rattle.sb_forms.specs.Pages.{Pages}
use Rattle.sb_forms.specs.Tree.{Nodes, nodes, entries_of}
use Rattle.sb_forms.specs.Stored.{row_in, is_row_in}
use Rattle.sb_forms.specs.HeapPages.{record_key}
use Rattle.sb_ctx.specs.declared.instance.Instance.{Instance}
use Rattle.sb_ctx.specs.declared.calls.MethodCall.TheVariants as call
use Rattle.sb_ctx.specs.declared.moves.Move.TheVariants as move
use Rattle.sb_ctx.specs.View.{View, dropped, stored}
use Rattle.sb_ctx.specs.Method.{MayHold}
use Rattle.sb_ctx.specs.MethodAnswers.{Changes, Updated}
use Rattle.sb_ctx.proofs.ViewLaws.{stored-clean}
use Rattle.sb_heap.specs.Heap.{heap_method}
use Rattle.sb_heap.specs.Links.{put_node, turned}
use Rattle.std.proofs.lemmas.List.Sums.{sum_by-cons}
use Rattle.std.proofs.lemmas.Option.{same_Some}
use Rattle.sb_node.proofs.Edited.{node_of-form}
use Rattle.sb_node.proofs.Sizes.{head_counts}
use Rattle.sb_forms.specs.Pages.{zeros}
use Rattle.sb_forms.specs.HeapPages.{first_of}
use Rattle.sb_forms.specs.Tree.{level_of}
use Rattle.sb_ctx.proofs.ViewLaws.{dropped-with_page, free_page-unused, stored-other}
use Rattle.sb_heap.specs.Broken.{held_node}
use Rattle.sb_heap.specs.Spots.{IsMoved, IsRewritten, IsSpot, replaced}
use Rattle.sb_heap.specs.declared.insertion.Spot.{Spot}
use Rattle.sb_heap.specs.declared.list.Turn.TheVariants.{Stays}
use Rattle.sb_heap.proofs.Formed.{bare_node}
use Rattle.sb_heap.proofs.MethodLaws.{key_short}
use Rattle.sb_heap.proofs.Slots.{entries_without, put_some, same_bytes}
use Rattle.sb_heap.proofs.Standing.{by_page, put_same, put_other, room_at}
use Rattle.sb_heap.proofs.Rows.{rows_in, rows_put, rows_without}
use Rattle.sb_heap.proofs.Turning.{changes, put_records, row_found, rows_put_in, short_row}
use Rattle.sb_heap.proofs.Outcomes.{holds_after, node_is, turn_for, within_cost}
use Rattle.sb_heap.proofs.Changing.{updating}
use Rattle.sb_heap.proofs.Changed.{Fresh, Goes, IsAtPlace, Listed, entries_some, goes, spot_bare, spot_goes, cut_is, cut_records, page_formed, page_there, row_there, spelled_in}

pub Changes-replaced : (inst : Instance) (tuple : Row) (row : List ℕ) (old new : View) (key : Key) (page : ℕ) (slot bytes : List ℕ) (head : Head) (i : ℕ) → dropped old ≡ old → MayHold heap_method inst tuple → row ≡ tuple_spelling tuple → IsAtPlace old key page slot bytes head i
    → IsRewritten old new inst.root page (node_in bytes) (replaced i slot row (node_in bytes)) → Changes heap_method inst (call.Update key tuple) old new (move.Key key)
Changes-replaced inst tuple row old new key page slot bytes head i clean may row_is a r = record {
  given = r.made.given ∙ clean;
  asks = tt;
  broken = tt;
  ends = ap (λ l. nat_le l 200) a.parts.six;
  answers = λ P part rows holds.
      let f = page_formed inst old key page slot bytes head i clean a P part rows holds in
      let there = page_there inst old key page slot bytes head i clean a P part rows holds in
      let cut = cut_is inst old key page slot bytes head i clean a P part rows holds in
      let es = put key_cmp slot row (without i (node_in bytes).entries) in
      let N = nodes P in
      let b = changes inst.root inst.schema N f.list page (node_in bytes) es r.turn f.heap (record {
        there = there;
        records = put_records inst.schema slot row (without i (node_in bytes).entries) a.parts.slot_long spelled.0 (cut_records inst old key page slot bytes head i clean a P part rows holds);
        some = λ other none. put_some slot row (without i (node_in bytes).entries) none;
        first = nodes P inst.root;
        first_is = refl;
        turn_is = turn_for old P inst.root (node_in bytes).head (4072 - sizes es) r.turn clean part r.turn_is;
      }) in
      let M = turned inst.root page r.turn (put_node page (Some (with_entries es (node_in bytes))) N) in
      let is : nodes (stored new P) ≡ M = r.made.makes P ∙ ap (λ (Q : Pages). turned inst.root page r.turn (put_node page (Some (with_entries es (node_in bytes))) (nodes Q))) (stored-clean old P clean part) in
      let x = with_entries (without i (node_in bytes).entries) (node_in bytes) in
      let N1 = put_node page (Some x) N in
      let less : rows_in N1 0 65536 ≡ without_row (rows_in N 0 65536) (record_key page slot) =
      rows_without N N1 0 65536 page slot (omega arith) (omega (arith, a.low)) (omega arith) (λ n other. ap entries_of (put_other page n (Some x) N (λ e. other (sym e))))
      (ap entries_of (put_same page page (Some x) N refl) ∙ cut ∙ ap (λ (o : Option Node). entries_without slot (entries_of o)) (sym there)) in
      let more : rows_in M 0 65536 ≡ with_row (rows_in N1 0 65536) (record_key page slot) (row_in row) =
      rows_put N1 M 0 65536 page slot row (omega arith) (omega (arith, a.low)) (omega arith) (λ n other. b.others n other ∙ sym (ap entries_of (put_other page n (Some x) N (λ e. other (sym e)))))
      (b.here ∙ ap (λ (o : Option Node). put key_cmp slot row (entries_of o)) (sym (put_same page page (Some x) N refl))) in
      let rows_are : rows_in M 0 65536 ≡ with_row (without_row rows key) key tuple =
      more ∙ ap (λ (l : Rows). with_row l (record_key page slot) (row_in row)) less ∙ (λ j. with_row (without_row (sym f.same j) (sym a.parts.key_is j)) (sym a.parts.key_is j) (spelled.1 j)) in
      subst (λ (o : Option Row). Updated heap_method inst key tuple o rows (stored new P) (move.Key key)) (sym (row_there inst old key page slot bytes head i clean a P part rows holds)) (
        and_from (is_record_key key) (bytes_eq key key || is_none (row_at rows key)) (ap (λ l. nat_le l 200) a.parts.six) (ap (λ b. b || is_none (row_at rows key)) (same_bytes key)),
        holds_after inst old new P rows M b.list clean part f (r.made.bare P) is b.heap ∙ ap Some rows_are,
      );
  spends = λ ctx P part rows before. record { path = tt; room = tt; gets = tt; edits = within_cost inst (call.Update key tuple) old new (updating inst key tuple) clean (r.made.given ∙ clean) (omega (arith, r.made.edits)) ctx P part rows };
}
  where
    spelled : (is_row_in inst.schema row ≡ true) × (row_in row ≡ tuple)
    spelled = spelled_in inst tuple row may row_is

-- ---- a row that goes to another page
sizes_less : (slot : List ℕ) (es : List Entry) → sizes (entries_without slot es) ≤ sizes es
sizes_less slot [] = omega arith
sizes_less slot (e ∷ es) = by (not (bytes_eq e.0 slot)) (sizes_less slot es)
  where
    by : (b : Bool) → sizes (entries_without slot es) ≤ sizes es → sizes (cond b (e ∷ entries_without slot es) (entries_without slot es)) ≤ sizes (e ∷ es)
    by true rest = omega (arith, rest, sum_by-cons size_of e (entries_without slot es), sum_by-cons size_of e es)
    by false rest = omega (arith, rest, sum_by-cons size_of e es)

no_room : (used : ℕ) → 4072 < used + 1006 → nat_le 1006 (4072 - used) ≡ false
no_room used more = grind (arith, nat_tests, more)

pub goes_on : (root : ℕ) (N M : Nodes) (spot : Spot) (row : List ℕ) (y : Node) → M spot.page ≡ N spot.page → first_of (M root) ≡ first_of (N root) → Goes root N spot row y → Goes root M spot row y
goes_on root N M spot row y here same (Listed x first there y_is free first_is turn_is) = Listed x first (here ∙ there) y_is free (first_is ∙ sym same) turn_is
goes_on root N M spot row y here same (Fresh none y_is turn_is first low) = Fresh (here ∙ none) y_is turn_is (same ∙ first) low

put_over_both : (old mid : View) (root : ℕ) (row : List ℕ) (spot : Spot) (s : IsSpot old mid root row spot) (P : Pages) (y : Node) (page : ℕ) (x : Option Node) → put_node spot.page (Some y) (put_node page x (nodes (stored mid P))) ≡ put_node spot.page (Some y) (put_node page x (nodes (stored old P)))
put_over_both old mid root row spot s P y page x = λ i n. by n (spot.page == n) refl i
  where
    by : (n : ℕ) (b : Bool) → (spot.page == n) ≡ b → cond b (Some y) (put_node page x (nodes (stored mid P)) n) ≡ cond b (Some y) (put_node page x (nodes (stored old P)) n)
    by n true same = refl
    by n false differs = ap (λ (o : Option Node). cond (page == n) x o) (ap node_of (elim s.is [
      | inl l ↦ ap (λ (v : View). stored v P n) l.0
      | inr f ↦ ap (λ (v : View). stored v P n) f.0 ∙ stored-other old P spot.page n zeros (λ e. true≢false (sym (eq-eqb spot.page n e) ∙ differs))
    ]))

spot_given : (old mid : View) (root : ℕ) (row : List ℕ) (spot : Spot) → IsSpot old mid root row spot → dropped mid ≡ dropped old
spot_given old mid root row spot s = elim s.is [ inl l ↦ ap dropped l.0 | inr f ↦ ap dropped f.0 ∙ dropped-with_page old spot.page zeros ]

pub Changes-moved : (inst : Instance) (tuple : Row) (row : List ℕ) (old new : View) (key now : Key) (page : ℕ) (slot bytes : List ℕ) (head : Head) (i : ℕ) → dropped old ≡ old → MayHold heap_method inst tuple → row ≡ tuple_spelling tuple → IsAtPlace old key page slot bytes head i
    → 4072 < sizes (without i (node_in bytes).entries) + (4 + length slot + length row) → IsMoved old new inst.root page (with_entries (without i (node_in bytes).entries) (node_in bytes)) row now → Changes heap_method inst (call.Update key tuple) old new (move.Key now)
Changes-moved inst tuple row old new key now page slot bytes head i clean may row_is a full m = record {
  given = given;
  asks = tt;
  broken = tt;
  ends = ap is_record_key m.key_is ∙ key_short m.spot.page m.spot.slot m.spot_is.slot_long;
  answers = λ P part rows holds.
      let f = page_formed inst old key page slot bytes head i clean a P part rows holds in
      let there = page_there inst old key page slot bytes head i clean a P part rows holds in
      let cut = cut_is inst old key page slot bytes head i clean a P part rows holds in
      let es = without i (node_in bytes).entries in
      let N = nodes P in
      let spot = m.spot in
      let y = node_in spot.bytes.items in
      let some : IsSome (N page) = ap is_some there in
      let used : 4072 < (node_in bytes).head.used + 1006 = omega (arith, (head_counts bytes a.held.form).used, ap sizes cut, sizes_less slot (node_in bytes).entries, lacking) in
      let level : (node_in bytes).head.level ≡ 0 = ap level_of (sym there) ∙ f.heap.listed.level page some ∙ ap (λ b. cond b 1 0) (sym (f.heap.rooms page some) ∙ ap room_at there ∙ no_room (node_in bytes).head.used used) in
      let b = changes inst.root inst.schema N f.list page (node_in bytes) es Stays f.heap (record {
        there = there;
        records = cut_records inst old key page slot bytes head i clean a P part rows holds;
        some = λ other none. few (sizes es) (ap sizes none) lacking;
        first = nodes P inst.root;
        first_is = refl;
        turn_is = ap (λ l. nat_eq l 1) level ∙ sym (no_room (sizes es) lacking);
      }) in
      let x = with_entries es (node_in bytes) in
      let N1 = put_node page (Some x) N in
      let apart : spot.page ≢ page = λ e. elim m.spot_is.is [
        | inl l ↦
            let node : N spot.page ≡ Some (node_in l.1.was) = node_is old P spot.page (node_in l.1.was) clean part (ap held_node l.1.held.held_is ∙ node_of-form l.1.was l.1.held.form) in
            two_levels (node_in l.1.was) (node_in bytes) (sym node ∙ ap N e ∙ there) l.1.listed level
        | inr fr ↦ true≢false (sym some ∙ ap (λ n. is_some (N n)) (sym e) ∙ ap is_some (bare_node (P spot.page) (free_page-unused old P spot.page fr.1.sound part fr.1.fresh)))
      ] in
      let here : N1 spot.page ≡ N spot.page = put_other page spot.page (Some x) N (λ e. apart (sym e)) in
      let first_same : first_of (N1 inst.root) ≡ first_of (N inst.root) = by_page (λ n o. first_of o ≡ first_of (N n)) page (Some x) N (ap first_of (sym there)) (λ n other. refl) inst.root in
      let g = goes inst.root inst.schema N1 b.list spot row y b.heap m.spot_is.slot_long spelled.0 (goes_on inst.root N N1 spot row y here first_same (spot_goes old m.mid inst.root inst.schema P rows row spot clean part holds m.spot_is)) in
      let M = turned inst.root spot.page spot.turn (put_node spot.page (Some y) N1) in
      let is : nodes (stored new P) ≡ M =
      m.made.makes P ∙ ap (turned inst.root spot.page spot.turn) (put_over_both old m.mid inst.root row spot m.spot_is P y page (Some x) ∙ ap (λ (Q : Pages). put_node spot.page (Some y) (put_node page (Some x) (nodes Q))) (stored-clean old P clean part)) in
      let less : rows_in N1 0 65536 ≡ without_row (rows_in N 0 65536) (record_key page slot) =
      rows_without N N1 0 65536 page slot (omega arith) (omega (arith, a.low)) (omega arith) (λ n other. ap entries_of (put_other page n (Some x) N (λ e. other (sym e))))
      (ap entries_of (put_same page page (Some x) N refl) ∙ cut ∙ ap (λ (o : Option Node). entries_without slot (entries_of o)) (sym there)) in
      let rows_are : rows_in M 0 65536 ≡ with_row (without_row rows key) now tuple =
      rows_put_in inst.root inst.schema N1 M spot.page spot.slot row g.low g.becomes ∙ ap (λ (l : Rows). with_row l (record_key spot.page spot.slot) (row_in row)) less
      ∙ (λ j. with_row (without_row (sym f.same j) (sym a.parts.key_is j)) (sym m.key_is j) (spelled.1 j)) in
      subst (λ (o : Option Row). Updated heap_method inst key tuple o rows (stored new P) (move.Key now)) (sym (row_there inst old key page slot bytes head i clean a P part rows holds)) (
        and_from (is_record_key now) (bytes_eq key now || is_none (row_at rows now)) (ap is_record_key m.key_is ∙ key_short m.spot.page m.spot.slot m.spot_is.slot_long)
            (or_right (bytes_eq key now) (is_none (row_at rows now)) (ap is_none ((λ j. row_at (f.same j) (m.key_is j)) ∙ row_found N spot.page spot.slot g.low ∙ ap (λ (o : Option Node). option_map row_in (find key_cmp spot.slot (entries_of o))) (sym here) ∙ ap (option_map row_in) g.free))),
        holds_after inst old new P rows M g.becomes.list clean part f (spot_bare old m.mid new inst.root row spot m.spot_is P M is (entries_some (M spot.page) spot.slot row (entries_of (N1 spot.page)) g.becomes.here) (m.made.bare P)) is g.becomes.heap ∙ ap Some rows_are,
      );
  spends = λ ctx P part rows before. record { path = tt; room = tt; gets = tt; edits = within_cost inst (call.Update key tuple) old new (updating inst key tuple) clean given (omega (arith, m.made.edits, m.spot_is.edits)) ctx P part rows };
}
  where
    given : dropped new ≡ old
    given = m.made.given ∙ spot_given old m.mid inst.root row m.spot m.spot_is ∙ clean

    spelled : (is_row_in inst.schema row ≡ true) × (row_in row ≡ tuple)
    spelled = spelled_in inst tuple row may row_is

    lacking : 4072 < sizes (without i (node_in bytes).entries) + 1006
    lacking = omega (arith, full, a.parts.slot_long, short_row inst.schema row spelled.0)

    few : (s : ℕ) → s ≡ 0 → 4072 < s + 1006 → ⊥
    few s is more = omega (arith, is, more)

    two_levels : (x z : Node) → Some x ≡ Some z → x.head.level ≡ 1 → z.head.level ≡ 0 → ⊥
    two_levels x z same one none = omega (arith, ap (λ (n : Node). n.head.level) (same_Some x z same), one, none)
