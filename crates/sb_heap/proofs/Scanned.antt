-- What a scan answers.
use Rattle.std.proofs.Common.{◌≡◌, ◌≢◌, ℕ, zero, suc, ◌+◌, ◌-◌, ◌^◌, ◌<◌, ◌≤◌, ◌==◌, Bool, true, false, true≢false, cond, not, List, [], ◌∷◌, ◌++◌, length, filter, take, Option, Some, None, is_some, option_map, refl, ap, sym, ◌∙◌, subst, arith, eqb-true, All, inl, inr, ◌⊎◌}
use Rattle.std.specs.Prelude.{nat_lt, nat_le}
use Rattle.std.specs.List.{find as first, range_with_len}
use Rattle.std.specs.Option.{option_eq}
use Rattle.std.proofs.lemmas.Bool.{lt-ltb, ltb-true, ltb-false, eqb-false}
use Rattle.std.proofs.lemmas.List.Elements.{All-head, All-tail}
use Rattle.std.proofs.lemmas.Option.{same_Some}
use Rattle.sb_value.specs.declared.schema.Column.{Column}
use Rattle.sb_relation.specs.Db.{Key, Row, Rows}
use Rattle.sb_relation.specs.Fits.{is_empty}
use Rattle.sb_node.specs.Entries.{Entry}
use Rattle.sb_node.specs.Page.{Node, node_in}
use Rattle.sb_node.proofs.Edited.{node_of-form}
use Rattle.sb_forms.specs.Pages.{Pages, ArePages, IsAbove, IsNext, page_numbers}
use Rattle.sb_forms.specs.Tree.{Nodes, nodes, entries_of}
use Rattle.sb_forms.specs.Read.{has}
use Rattle.sb_forms.specs.Stored.{row_in}
use Rattle.sb_forms.specs.HeapPages.{heap_rows, rows_on}
use Rattle.sb_forms.proofs.Spelled.{row_in-spelling}
use Rattle.sb_ctx.specs.declared.instance.Instance.{Instance}
use Rattle.sb_ctx.specs.declared.calls.MethodCall.TheVariants as call
use Rattle.sb_ctx.specs.declared.moves.Move.TheVariants as move
use Rattle.sb_ctx.specs.View.{View, next_of, dropped, HoldsPart}
use Rattle.sb_ctx.specs.MethodAnswers.{Looks, NextIs, row_above}
use Rattle.sb_ctx.proofs.ViewLaws.{given-page}
use Rattle.sb_heap.specs.Answered.{IsLowPage, question_of}
use Rattle.sb_heap.specs.Broken.{held_node}
use Rattle.sb_heap.specs.Heap.{heap_method, is_behind, low_page, low_pages, next_pages}
use Rattle.sb_heap.specs.Held.{IsBare}
use Rattle.sb_heap.specs.Scans.{IsOwn, IsScanned, IsPassed, IsPassedLow, ScanStops, first_above}
use Rattle.sb_heap.specs.declared.stop.Stop.{Stop}
use Rattle.sb_heap.specs.declared.stop.Stop.TheVariants as stop
use Rattle.sb_heap.proofs.Lists.{has_back, has_here, has_later}
use Rattle.sb_heap.proofs.Rows.{as_row, rows_of, rows_in}
use Rattle.sb_heap.proofs.Formed.{Formed, bare_node, formed}
use Rattle.sb_heap.proofs.Outcomes.{IsAsked, node_is}
use Rattle.sb_heap.proofs.Changing.{path_from}
use Rattle.sb_heap.proofs.Looking.{breaks_own, Looks-broken, Looks-memory, Looks-own}
use Rattle.sb_heap.proofs.Scanning.{page_above, page_below, page_scan, scan_found, scan_none}

-- ---- the next page
known : (P : Pages) (es : List (Option ℕ × Option ℕ)) (low next : Option ℕ) → All (λ e. IsNext P e.0 e.1) es → option_map (λ (e : Option ℕ × Option ℕ). e.1) (first (λ e. option_eq (λ a b. a == b) e.0 low) es) ≡ Some next → IsNext P low next
known P [] low next all is = absurd (cc)
known P (e ∷ es) low next all is = by (option_eq (λ a b. a == b) e.0 low) refl (known P es low next (All-tail (λ e. IsNext P e.0 e.1) e es all)) is
  where
    same : (a b : Option ℕ) → option_eq (λ a b. a == b) a b ≡ true → a ≡ b
    same None None e = refl
    same None (Some b) e = absurd (true≢false (sym e))
    same (Some a) None e = absurd (true≢false (sym e))
    same (Some a) (Some b) e = ap Some (eqb-true a b e)

    by : (b : Bool) → option_eq (λ a b. a == b) e.0 low ≡ b → (option_map (λ (e : Option ℕ × Option ℕ). e.1) (first (λ e. option_eq (λ a b. a == b) e.0 low) es) ≡ Some next → IsNext P low next)
        → option_map (λ (e : Option ℕ × Option ℕ). e.1) (cond b (Some e) (first (λ e. option_eq (λ a b. a == b) e.0 low) es)) ≡ Some next → IsNext P low next
    by true here rest found = subst (λ (o : Option ℕ). IsNext P o next) (same e.0 low here) (subst (IsNext P e.0) (same_Some e.1 next found) (All-head (λ e. IsNext P e.0 e.1) e es all))
    by false other rest found = rest found

next_is : (old : View) (P : Pages) (at next : Option ℕ) → HoldsPart old P → next_of old at ≡ Some next → IsNext P at next
next_is old P at next part is = known P old.nexts at next part.nexts is

is_above_at : (at : Option ℕ) (n : ℕ) → is_behind at n ≡ true → IsAbove at n
is_above_at None n is = tt
is_above_at (Some m) n is = ltb-true m n is

behind_at : (at : Option ℕ) (n : ℕ) → IsAbove at n → is_behind at n ≡ true
behind_at None n is = refl
behind_at (Some m) n is = lt-ltb m n is

further : (at : Option ℕ) (m n : ℕ) → IsAbove at m → m < n → IsAbove at n
further None m n above more = tt
further (Some k) m n above more = omega (arith, above, more)

low_number : (P : Pages) (n : ℕ) → ArePages P → P n ≢ [] → n < 65536
low_number P n are some = by (nat_lt n 65536) refl
  where
    by : (b : Bool) → nat_lt n 65536 ≡ b → n < 65536
    by true is = ltb-true n 65536 is
    by false is = absurd (some (are.below n (ltb-false n 65536 is)))

-- ---- the rows of a page that was looked at
own_node : (old : View) (P : Pages) (page : ℕ) (own : IsOwn old page) → dropped old ≡ old → HoldsPart old P → nodes P page ≡ Some (node_in own.bytes)
own_node old P page own clean part = node_is old P page (node_in own.bytes) clean part (ap held_node own.is.held_is ∙ node_of-form own.bytes own.is.form)

row_scanned : (old : View) (P : Pages) (schema : List Column) (page : ℕ) (low : Option Key) (key : Key) (row : Row) → dropped old ≡ old → HoldsPart old P → IsScanned old schema page low key row → row_above low (rows_on (nodes P) page) ≡ Some (key, row)
row_scanned old P schema page low key row clean part s =
    ap (λ (o : Option Node). row_above low (rows_of page (entries_of o))) (own_node old P page s.own clean part) ∙ page_scan page low (node_in s.own.bytes).entries ∙ ap (option_map (as_row page)) s.entry
    ∙ (λ i. Some (sym s.key_is i, (ap row_in s.value_is ∙ row_in-spelling row s.row_is.tuple) i))

none_on : (N : Nodes) (n : ℕ) (low : Option Key) → N n ≡ None → row_above low (rows_on N n) ≡ None
none_on N n low is = ap (λ (o : Option Node). row_above low (rows_of n (entries_of o))) is

empty_on : (P : Pages) (n : ℕ) (low : Option Key) → P n ≡ [] → row_above low (rows_on (nodes P) n) ≡ None
empty_on P n low is = none_on (nodes P) n low (bare_node (P n) is)

row_passed : (inst : Instance) (old : View) (P : Pages) (rows : Rows) (page : ℕ) (low : Option Key) → dropped old ≡ old → HoldsPart old P → heap_rows inst.root inst.schema P ≡ Some rows → IsBare old page ⊎ IsPassed old page low
    → row_above low (rows_on (nodes P) page) ≡ None
row_passed inst old P rows page low clean part holds (inl (inl zero_page)) = by (nodes P page) refl
  where
    f : Formed inst.root inst.schema P rows
    f = formed inst.root inst.schema P rows part.are_pages holds

    by : (o : Option Node) → nodes P page ≡ o → row_above low (rows_on (nodes P) page) ≡ None
    by None is = none_on (nodes P) page low is
    by (Some x) is = absurd ((f.heap.stands.low page (ap is_some is)).0 zero_page)
row_passed inst old P rows page low clean part holds (inl (inr (inl past))) = empty_on P page low (part.are_pages.below page past)
row_passed inst old P rows page low clean part holds (inl (inr (inr empty))) = empty_on P page low (given-page old P page [] clean part empty)
row_passed inst old P rows page low clean part holds (inr p) =
    ap (λ (o : Option Node). row_above low (rows_of page (entries_of o))) (own_node old P page p.own clean part) ∙ page_scan page low (node_in p.own.bytes).entries ∙ ap (option_map (as_row page)) p.none

-- ---- how far a scan has come
-- no page up to this one has a row above the low key, and all keys of pages behind it are above it
pub record Past (N : Nodes) (low : Option Key) (at : Option ℕ) : Type 0 where
  pub none : (n : ℕ) → is_behind at n ≡ false → row_above low (rows_on N n) ≡ None
  pub high : (n : ℕ) → IsAbove at n → n < 2 ^ 32 → (es : List Entry) → first_above n low es ≡ first_above n None es

-- over all pages of which a Ctx holds a part
abbrev pub IsPast : Instance → View → Option Key → Option ℕ → Type 0
IsPast inst old low at = (P : Pages) → HoldsPart old P → (rows : Rows) → heap_rows inst.root inst.schema P ≡ Some rows → Past (nodes P) low at

pub past_low : (inst : Instance) (old : View) (low : Option Key) (at : Option ℕ) → dropped old ≡ old → IsPassedLow old low at → IsPast inst old low at
past_low inst old None at clean passed P part rows holds = record {
  none = λ n is. absurd (true≢false (sym (ap (λ o. is_behind o n) passed) ∙ is));
  high = λ n above high es. refl;
}
past_low inst old (Some low) at clean (q, at_is, l, passed) P part rows holds = subst (Past (nodes P) (Some low)) (sym at_is) (record {
  none = λ n is. none n is (n == q) refl;
  high = λ n above high es. page_above low q n es l above high;
})
  where
    none : (n : ℕ) → nat_lt q n ≡ false → (b : Bool) → (n == q) ≡ b → row_above (Some low) (rows_on (nodes P) n) ≡ None
    none n is true same = ap (λ m. row_above (Some low) (rows_on (nodes P) m)) (eqb-true n q same) ∙ row_passed inst old P rows q (Some low) clean part holds passed
    none n is false differs = page_scan n (Some low) (entries_of (nodes P n)) ∙ ap (option_map (as_row n)) (page_below low q n (entries_of (nodes P n)) l (omega (arith, ltb-false q n is, eqb-false n q differs)))

-- on a page behind it the first row is the first one above the low key
same_first : (P : Pages) (low : Option Key) (at : Option ℕ) (n : ℕ) → Past (nodes P) low at → IsAbove at n → n < 65536 → row_above low (rows_on (nodes P) n) ≡ row_above None (rows_on (nodes P) n)
same_first P low at n past above high =
    page_scan n low (entries_of (nodes P n)) ∙ ap (option_map (as_row n)) (past.high n above (omega (arith, high)) (entries_of (nodes P n))) ∙ sym (page_scan n None (entries_of (nodes P n)))

between : (P : Pages) (low : Option Key) (at : Option ℕ) (n : ℕ) → Past (nodes P) low at → (IsAbove at n → P n ≡ []) → row_above low (rows_on (nodes P) n) ≡ None
between P low at n past empty = by (is_behind at n) refl
  where
    by : (b : Bool) → is_behind at n ≡ b → row_above low (rows_on (nodes P) n) ≡ None
    by true is = empty_on P n low (empty (is_above_at at n is))
    by false is = past.none n is

pub past_next : (inst : Instance) (old : View) (low : Option Key) (at : Option ℕ) (next : ℕ) → dropped old ≡ old → IsPast inst old low at → next_of old at ≡ Some (Some next) → IsBare old next ⊎ IsPassed old next None → IsPast inst old low (Some next)
past_next inst old low at next clean past is passed P part rows holds =
    let far = past P part rows holds in
    let behind = next_is old P at (Some next) part is in
    record {
      none = λ n less. none far behind n less (n == next) refl;
      high = λ n above high es. far.high n (further at next n behind.0 above) high es;
    }
  where
    none : Past (nodes P) low at → IsNext P at (Some next) → (n : ℕ) → nat_lt next n ≡ false → (b : Bool) → (n == next) ≡ b → row_above low (rows_on (nodes P) n) ≡ None
    none far behind n less true same =
        ap (λ m. row_above low (rows_on (nodes P) m)) (eqb-true n next same) ∙ same_first P low at next far behind.0 (low_number P next part.are_pages behind.1) ∙ row_passed inst old P rows next None clean part holds passed
    none far behind n less false differs =
        let before : n < next = omega (arith, ltb-false next n less, eqb-false n next differs) in
        between P low at n far (λ above. behind.2 n above before)

-- ---- the ends
pub Looks-end : (inst : Instance) (old : View) (low : Option Key) (at : Option ℕ) → dropped old ≡ old → IsPast inst old low at → next_of old at ≡ Some None → Looks heap_method inst (call.Next low) old old move.End
Looks-end inst old low at clean past is = record {
  same = refl;
  reads = tt;
  asks = tt;
  broken = tt;
  ends = tt;
  answers = λ P part rows holds.
      let f = formed inst.root inst.schema P rows part.are_pages holds in
      let none : row_above low rows ≡ None = ap (row_above low) f.same ∙ scan_none (nodes P) low 0 65536 (λ n from to. between P low at n (past P part rows holds) (next_is old P at None part is n)) in
      subst (λ o. NextIs o move.End) (sym none) refl;
  path = λ P part rows holds. tt;
}

found_row : (inst : Instance) (old : View) (low : Option Key) (page : ℕ) (from : Option Key) (key : Key) (row : Row) → IsScanned old inst.schema page from key row
    → ((P : Pages) → HoldsPart old P → (rows : Rows) → heap_rows inst.root inst.schema P ≡ Some rows → row_above low (rows_in (nodes P) 0 65536) ≡ Some (key, row)) → Looks heap_method inst (call.Next low) old old (move.Row key row)
found_row inst old low page from key row s found = record {
  same = refl;
  reads = tt;
  asks = tt;
  broken = tt;
  ends = record { is_key = ap (λ k. nat_le (length k) 200) s.key_is ∙ ap (λ l. nat_le (suc (suc (suc (suc l)))) 200) s.slot_long; is_row = s.row_is };
  answers = λ P part rows holds.
      let f = formed inst.root inst.schema P rows part.are_pages holds in
      let at : row_above low rows ≡ Some (key, row) = ap (row_above low) f.same ∙ found P part rows holds in
      subst (λ o. NextIs o (move.Row key row)) (sym at) refl;
  path = λ P part rows holds. tt;
}

pub Looks-found : (inst : Instance) (old : View) (low : Option Key) (at : Option ℕ) (next : ℕ) (key : Key) (row : Row) → dropped old ≡ old → IsPast inst old low at → next_of old at ≡ Some (Some next) → IsScanned old inst.schema next None key row
    → Looks heap_method inst (call.Next low) old old (move.Row key row)
Looks-found inst old low at next key row clean past is s = found_row inst old low next None key row s (λ P part rows holds.
    let far = past P part rows holds in
    let behind = next_is old P at (Some next) part is in
    let high = low_number P next part.are_pages behind.1 in
    scan_found (nodes P) low 0 65536 next (key, row) (omega arith) (omega (arith, high)) (λ n from to. between P low at n far (λ above. behind.2 n above to))
    (same_first P low at next far behind.0 high ∙ row_scanned old P inst.schema next None key row clean part s))

pub Looks-found-low : (inst : Instance) (old : View) (low : Key) (q : ℕ) (key : Key) (row : Row) → dropped old ≡ old → IsLowPage low q → IsScanned old inst.schema q (Some low) key row → Looks heap_method inst (call.Next (Some low)) old old (move.Row key row)
Looks-found-low inst old low q key row clean l s = found_row inst old (Some low) q (Some low) key row s (λ P part rows holds.
    scan_found (nodes P) (Some low) 0 65536 q (key, row) (omega arith) (omega (arith, s.own.low))
    (λ n from to. page_scan n (Some low) (entries_of (nodes P n)) ∙ ap (option_map (as_row n)) (page_below low q n (entries_of (nodes P n)) l to))
    (row_scanned old P inst.schema q (Some low) key row clean part s))

-- ---- the pages that are asked for
pub asked_low : (inst : Instance) (old : View) (low : Key) (q : ℕ) → IsLowPage low q → q ≢ 0 → IsAsked inst (call.Next (Some low)) old q
asked_low inst old low q l some P part rows holds = path_from q (low_page low ∷ next_pages (Some low) P) some (ap (λ m. has m (low_page low ∷ next_pages (Some low) P)) l.page_is ∙ has_here (low_page low) (next_pages (Some low) P))

at_low : (old : View) (low : Option Key) (at : Option ℕ) → IsPassedLow old low at → at ≡ option_map low_page low
at_low old None at passed = passed
at_low old (Some low) at passed = passed.1 ∙ ap Some passed.2.page_is

-- the first number that both tests let pass, and what follows it
both_from : (p q : ℕ → Bool) (from len n : ℕ) → from ≤ n → n < from + len → p n ≡ true → q n ≡ true → ((m : ℕ) → from ≤ m → m < n → p m ≡ true → q m ≡ false)
    → filter q (filter p (range_with_len from len)) ≡ n ∷ filter q (filter p (range_with_len (n + 1) (from + len - (n + 1))))
both_from p q from zero n more less has_p has_q none = absurd (omega (arith, more, less))
both_from p q from (suc len) n more less has_p has_q none = elim (from == n) as (λ b. (from == n) ≡ b → filter q (filter p (from ∷ range_with_len (from + 1) len)) ≡ n ∷ filter q (filter p (range_with_len (n + 1) (from + suc len - (n + 1))))) [
  | true ↦ λ same. let e = eqb-true from n same in
      ap (λ b. filter q (cond b (from ∷ filter p (range_with_len (from + 1) len)) (filter p (range_with_len (from + 1) len)))) (ap p e ∙ has_p)
      ∙ ap (λ b. cond b (from ∷ filter q (filter p (range_with_len (from + 1) len))) (filter q (filter p (range_with_len (from + 1) len)))) (ap q e ∙ has_q)
      ∙ (λ i. e i ∷ filter q (filter p (range_with_len (e i + 1) (left from len n e i))))
  | false ↦ λ differs. let after : from < n = omega (arith, more, eqb-false from n differs) in
      skip (p from) refl after ∙ both_from p q (from + 1) len n (omega (arith, after)) (omega (arith, less)) has_p has_q (λ m over under. none m (omega (arith, over)) under)
      ∙ ap (λ k. n ∷ filter q (filter p (range_with_len (n + 1) k))) (shifted from len n)
] refl
  where
    left : (from len n : ℕ) → from ≡ n → len ≡ from + suc len - (n + 1)
    left from len n e = omega (arith, e)

    shifted : (from len n : ℕ) → from + 1 + len - (n + 1) ≡ from + suc len - (n + 1)
    shifted from len n = omega arith

    skip : (b : Bool) → p from ≡ b → from < n → filter q (filter p (from ∷ range_with_len (from + 1) len)) ≡ filter q (filter p (range_with_len (from + 1) len))
    skip true is after =
        ap (λ b. filter q (cond b (from ∷ filter p (range_with_len (from + 1) len)) (filter p (range_with_len (from + 1) len)))) is
        ∙ ap (λ b. cond b (from ∷ filter q (filter p (range_with_len (from + 1) len))) (filter q (filter p (range_with_len (from + 1) len)))) (none from (omega arith) after is)
    skip false is after = ap (λ b. filter q (cond b (from ∷ filter p (range_with_len (from + 1) len)) (filter p (range_with_len (from + 1) len)))) is

some_at : (P : Pages) (n : ℕ) → P n ≢ [] → not (is_empty (P n)) ≡ true
some_at P n some = by (P n) some
  where
    by : (bytes : List ℕ) → bytes ≢ [] → not (is_empty bytes) ≡ true
    by [] other = absurd (other refl)
    by (b ∷ bytes) other = refl

none_at : (P : Pages) (n : ℕ) (A : Type 0) → P n ≡ [] → not (is_empty (P n)) ≡ true → A
none_at P n A none is = absurd (true≢false (sym is ∙ ap (λ (bytes : List ℕ). not (is_empty bytes)) none))

not_behind : (P : Pages) (at : Option ℕ) (m : ℕ) → (IsAbove at m → P m ≡ []) → not (is_empty (P m)) ≡ true → is_behind at m ≡ false
not_behind P at m empty some = by (is_behind at m) refl
  where
    by : (b : Bool) → is_behind at m ≡ b → b ≡ false
    by false is = refl
    by true is = none_at P m (true ≡ false) (empty (is_above_at at m is)) some

first_numbers : (P : Pages) (at : Option ℕ) (next : ℕ) → ArePages P → IsNext P at (Some next)
    → filter (is_behind at) (page_numbers P) ≡ next ∷ filter (is_behind at) (filter (λ n. not (is_empty (P n))) (range_with_len (next + 1) (65536 - (next + 1))))
unfolding page_numbers
first_numbers P at next are behind =
    both_from (λ n. not (is_empty (P n))) (is_behind at) 0 65536 next (omega arith) (omega (arith, low_number P next are behind.1)) (some_at P next behind.1) (behind_at at next behind.0)
    (λ m from to some. not_behind P at m (λ above. behind.2 m above to) some)

two_numbers : (P : Pages) (at : Option ℕ) (next last : ℕ) → ArePages P → IsNext P at (Some next) → IsNext P (Some next) (Some last) → (more : List ℕ) × (filter (is_behind at) (page_numbers P) ≡ next ∷ last ∷ more)
two_numbers P at next last are one two =
    let high = low_number P last are two.1 in (
      filter (is_behind at) (filter (λ n. not (is_empty (P n))) (range_with_len (last + 1) (next + 1 + (65536 - (next + 1)) - (last + 1)))),
      first_numbers P at next are one ∙ ap (λ (l : List ℕ). next ∷ l) (
          both_from (λ n. not (is_empty (P n))) (is_behind at) (next + 1) (65536 - (next + 1)) last (omega (arith, two.0)) (omega (arith, two.0, high)) (some_at P last two.1) (behind_at at last (further at next last one.0 two.0))
          (λ m from to some. none_at P m (is_behind at m ≡ false) (two.2 m (omega (arith, from)) to) some)
          ),
    )

in_next : (P : Pages) (low : Option Key) (at : Option ℕ) (next : ℕ) → at ≡ option_map low_page low → IsNext P at (Some next) → ArePages P → has next (next_pages low P) ≡ true
unfolding next_pages
in_next P low at next same behind are =
    ap (λ o. has next (take 2 (filter (is_behind o) (page_numbers P)))) (sym same) ∙ ap (λ (l : List ℕ). has next (take 2 l)) (first_numbers P at next are behind)
    ∙ has_here next (take 1 (filter (is_behind at) (filter (λ n. not (is_empty (P n))) (range_with_len (next + 1) (65536 - (next + 1))))))

in_last : (P : Pages) (low : Option Key) (at : Option ℕ) (next last : ℕ) → at ≡ option_map low_page low → IsNext P at (Some next) → IsNext P (Some next) (Some last) → ArePages P → has last (next_pages low P) ≡ true
unfolding next_pages
in_last P low at next last same one two are =
    ap (λ o. has last (take 2 (filter (is_behind o) (page_numbers P)))) (sym same) ∙ ap (λ (l : List ℕ). has last (take 2 l)) (two_numbers P at next last are one two).1
    ∙ has_later last next (last ∷ []) (has_here last [])

pub asked_next : (inst : Instance) (old : View) (low : Option Key) (at : Option ℕ) (next : ℕ) → IsPassedLow old low at → next_of old at ≡ Some (Some next) → next ≢ 0 → IsAsked inst (call.Next low) old next
asked_next inst old low at next passed is some P part rows holds =
    path_from next (low_pages low ++ next_pages low P) some (has_back next (low_pages low) (next_pages low P) (in_next P low at next (at_low old low at passed) (next_is old P at (Some next) part is) part.are_pages))

pub asked_last : (inst : Instance) (old : View) (low : Option Key) (at : Option ℕ) (next last : ℕ) → IsPassedLow old low at → next_of old at ≡ Some (Some next) → next_of old (Some next) ≡ Some (Some last) → last ≢ 0 → IsAsked inst (call.Next low) old last
asked_last inst old low at next last passed one two some P part rows holds =
    path_from last (low_pages low ++ next_pages low P) some
    (has_back last (low_pages low) (next_pages low P) (in_last P low at next last (at_low old low at passed) (next_is old P at (Some next) part one) (next_is old P (Some next) (Some last) part two) part.are_pages))

-- ---- a page that isn't to be had
pub Looks-stops : (inst : Instance) (old : View) (low : Option Key) (page : ℕ) (s : Stop) → dropped old ≡ old → (page ≢ 0 → IsAsked inst (call.Next low) old page) → ScanStops old inst.schema page s → Looks heap_method inst (call.Next low) old old (question_of s)
Looks-stops inst old low page stop.NoMemory clean asked stops = Looks-memory inst (call.Next low) old
Looks-stops inst old low page stop.Fresh clean asked stops = absurd stops.amiss
Looks-stops inst old low page (stop.After n) clean asked stops = absurd stops.amiss
Looks-stops inst old low page (stop.Need n) clean asked stops = Looks-own inst (call.Next low) old page (stop.Need n) (λ P. tt) clean (asked stops.some) stops
Looks-stops inst old low page (stop.Broken n) clean asked (inl own) = Looks-own inst (call.Next low) old page (stop.Broken n) (λ P. tt) clean (asked own.some) own
Looks-stops inst old low page (stop.Broken n) clean asked (inr (same, wrong)) = subst (λ m. Looks heap_method inst (call.Next low) old old (move.Broken m)) (sym same) (
    Looks-broken inst (call.Next low) old page (λ P. tt) clean (ap is_some wrong.own.is.held_is) (breaks_own inst old page wrong.own.bytes wrong.own.head wrong.own.some wrong.own.low wrong.own.is wrong.amiss)
    )
