-- What the reading calls of the box answer.
use Rattle.std.proofs.Common.{◌≡◌, ◌≢◌, ℕ, zero, suc, ◌+◌, ◌<◌, Bool, true, false, cond, not, ◌&&◌, List, [], ◌∷◌, length, Option, Some, None, IsSome, option_map, refl, ap, sym, ◌∙◌, subst, arith}
use Rattle.std.specs.Prelude.{nat_eq, nat_le, nat_lt, Ok, Err, slice_get}
use Rattle.std.specs.List.{list_all}
use Rattle.std.specs.Ordering.{is_eq}
use Rattle.std.specs.declared.cmp.Ordering.TheVariants.{Less, Equal, Greater}
use Rattle.std.specs.FinMap.Entries.{find}
use Rattle.std.proofs.lemmas.Bool.{and_parts, and_from, lt-ltb, or_left}
use Rattle.std.proofs.lemmas.Option.{same_Some}
use Rattle.sb_value.specs.declared.schema.Column.{Column}
use Rattle.sb_relation.specs.Db.{Key, Row, row_at}
use Rattle.sb_node.specs.declared.head.Head.{Head}
use Rattle.sb_node.specs.Entries.{Entry, key_cmp, place_of}
use Rattle.sb_node.specs.Page.{Node, has_form, node_in}
use Rattle.sb_node.proofs.Edited.{node_of-form}
use Rattle.sb_node.proofs.Runs.{form_size}
use Rattle.sb_node.proofs.Placed.{by_order, place_from, scanned}
use Rattle.sb_forms.specs.Pages.{Pages}
use Rattle.sb_forms.specs.Tree.{nodes, entries_of}
use Rattle.sb_forms.specs.Read.{has}
use Rattle.sb_forms.specs.Stored.{row_in, is_row_in, IsRowFrom}
use Rattle.sb_forms.specs.HeapPages.{is_heap_page, is_record, has_room}
use Rattle.sb_forms.proofs.Spelled.{row_in-spelling}
use Rattle.sb_forms.proofs.RowBytes.{row_of_bytes}
use Rattle.sb_ctx.specs.declared.instance.Instance.{Instance}
use Rattle.sb_ctx.specs.declared.calls.MethodCall.{MethodCall}
use Rattle.sb_ctx.specs.declared.calls.MethodCall.TheVariants as call
use Rattle.sb_ctx.specs.declared.moves.Move.TheVariants as move
use Rattle.sb_ctx.specs.View.{View, page_of, dropped}
use Rattle.sb_ctx.specs.MethodAnswers.{Got, Looks, NotNew}
use Rattle.sb_heap.specs.Broken.{breaks, has_bytes, held_node, is_amiss, is_linked}
use Rattle.sb_heap.specs.Heap.{heap_method, key_page}
use Rattle.sb_heap.specs.Held.{IsHeapPage, OwnAmiss}
use Rattle.sb_heap.specs.Answered.{IsPartedInto, question_of}
use Rattle.sb_heap.specs.declared.stop.Stop.{Stop}
use Rattle.sb_heap.specs.declared.stop.Stop.TheVariants as stop
use Rattle.sb_heap.proofs.Lists.{has_here}
use Rattle.sb_heap.proofs.Slots.{place_after}
use Rattle.sb_heap.proofs.Turning.{row_found}
use Rattle.sb_heap.proofs.Formed.{formed}
use Rattle.sb_heap.proofs.Outcomes.{IsAsked, Stopped-own, breaks_by, broken_given, node_is}
use Rattle.sb_heap.proofs.Changing.{NoRow, no_row, own_page_is, path_from}

-- ---- calls that have no end yet
pub Looks-memory : (inst : Instance) (c : MethodCall) (old : View) → Looks heap_method inst c old old move.NoMemory
Looks-memory inst c old = record { same = refl; reads = tt; asks = tt; broken = tt; ends = tt; answers = λ P part. tt; path = λ P part rows holds. tt }

pub Looks-broken : (inst : Instance) (c : MethodCall) (old : View) (n : ℕ) → ((P : Pages) → NotNew inst c P) → dropped old ≡ old → IsSome (page_of old n) → breaks inst.schema inst.root (page_of old) n ≡ true → Looks heap_method inst c old old (move.Broken n)
Looks-broken inst c old n not_new clean there is = record { same = refl; reads = tt; asks = there; broken = broken_given inst old n clean is; ends = tt; answers = λ P part. not_new P; path = λ P part rows holds. tt }

pub Looks-own : (inst : Instance) (c : MethodCall) (old : View) (page : ℕ) (s : Stop) → ((P : Pages) → NotNew inst c P) → dropped old ≡ old → IsAsked inst c old page → OwnAmiss old page s → Looks heap_method inst c old old (question_of s)
Looks-own inst c old page stop.NoMemory not_new clean asked own = Looks-memory inst c old
Looks-own inst c old page stop.Fresh not_new clean asked own = absurd own.amiss
Looks-own inst c old page (stop.After low) not_new clean asked own = absurd own.amiss
Looks-own inst c old page (stop.Need n) not_new clean asked own =
    let s = Stopped-own inst c old page (stop.Need n) asked own in
    record { same = refl; reads = tt; asks = s.1; broken = tt; ends = tt; answers = λ P part. tt; path = λ P part rows holds. s.2 P part rows holds }
Looks-own inst c old page (stop.Broken n) not_new clean asked own =
    let s = Stopped-own inst c old page (stop.Broken n) asked own in
    Looks-broken inst c old n not_new clean s.1 s.2

-- ---- an entry that spells no row
all_at : (p : Entry → Bool) (es : List Entry) (i : ℕ) (e : Entry) → list_all p es ≡ true → slice_get es i ≡ Some e → p e ≡ true
all_at p [] i e all is = absurd (cc)
all_at p (x ∷ es) zero e all is = subst (λ y. p y ≡ true) (same_Some x e is) (and_parts (p x) (list_all p es) all).0
all_at p (x ∷ es) (suc i) e all is = all_at p es i e (and_parts (p x) (list_all p es) all).1 is

pub not_heap : (schema : List Column) (o : Option Node) (i : ℕ) (e : Entry) → slice_get (entries_of o) i ≡ Some e → IsRowFrom schema e.1 None → is_heap_page schema o ≡ false
not_heap schema None i e at none = refl
not_heap schema (Some x) i e at none = by (is_heap_page schema (Some x)) refl
  where
    by : (b : Bool) → is_heap_page schema (Some x) ≡ b → b ≡ false
    by false is = refl
    by true is =
        let all = (and_parts (nat_eq x.head.kind 1 && nat_eq x.head.level (cond (has_room x) 1 0)) (list_all (is_record schema) x.entries) is).1 in
        let row = row_of_bytes schema e.1 (and_parts (nat_eq (length e.0) 2) (is_row_in schema e.1) (all_at (is_record schema) x.entries i e all at)).1 in
        absurd (none (row_in e.1) row.is_row row.value_is)

-- a held page that is amiss
pub breaks_own : (inst : Instance) (old : View) (page : ℕ) (bytes : List ℕ) (head : Head) → page ≢ 0 → page < 65536 → IsHeapPage (page_of old page) bytes head → is_amiss inst.schema (page_of old page) ≡ true → breaks inst.schema inst.root (page_of old) page ≡ true
breaks_own inst old page bytes head some low held amiss =
    breaks_by inst.schema inst.root page old some amiss
    (or_left (has_bytes (page_of old page) && nat_lt page 65536) (is_linked inst.root (page_of old) page) (and_from (has_bytes (page_of old page)) (nat_lt page 65536) (ap has_bytes held.held_is ∙ form_bytes bytes held.form) (lt-ltb page 65536 low)))
  where
    form_bytes : (bytes : List ℕ) → has_form bytes ≡ true → has_bytes (Some bytes) ≡ true
    form_bytes [] form = absurd (omega (arith, form_size [] form))
    form_bytes (b ∷ bytes) form = refl

pub misspelled : (inst : Instance) (old : View) (page i : ℕ) (bytes : List ℕ) (head : Head) (e : Entry) → page ≢ 0 → page < 65536 → IsHeapPage (page_of old page) bytes head → slice_get (node_in bytes).entries i ≡ Some e → IsRowFrom inst.schema e.1 None
    → breaks inst.schema inst.root (page_of old) page ≡ true
misspelled inst old page i bytes head e some low held at none =
    breaks_own inst old page bytes head some low held (ap (is_amiss inst.schema) held.held_is ∙ ap (λ (o : Option Node). not (is_heap_page inst.schema o)) (node_of-form bytes held.form) ∙ ap not (not_heap inst.schema (Some (node_in bytes)) i e at none))

-- ---- the row of a key
place_finds : (key : List ℕ) (i : ℕ) (es : List Entry) (j k : ℕ) (e : Entry) → place_from key i es ≡ Ok k → k ≡ i + j → slice_get es j ≡ Some e → find key_cmp key es ≡ Some e.1
place_finds key i [] j k e place is at = absurd (cc)
place_finds key i (x ∷ es) zero k e place is at =
    elim (key_cmp key x.0) as (λ o. by_order o (Err i) (Ok i) (place_from key (i + 1) es) ≡ Ok k → cond (is_eq o) (Some x.1) (find key_cmp key es) ≡ Some e.1) [
      | Less ↦ λ q. absurd (cc)
      | Equal ↦ λ q. ap (λ (y : Entry). Some y.1) (same_Some x e at)
      | Greater ↦ λ q. absurd (omega (arith, is, place_after key (i + 1) es k q))
    ] place
place_finds key i (x ∷ es) (suc j) k e place is at =
    elim (key_cmp key x.0) as (λ o. by_order o (Err i) (Ok i) (place_from key (i + 1) es) ≡ Ok k → cond (is_eq o) (Some x.1) (find key_cmp key es) ≡ Some e.1) [
      | Less ↦ λ q. absurd (cc)
      | Equal ↦ λ q. (let s : i ≡ k = cc in absurd (omega (arith, is, s)))
      | Greater ↦ λ q. place_finds key (i + 1) es j k e q (omega (arith, is)) at
    ] place

pub entry_found : (bytes key : List ℕ) (i : ℕ) (e : Entry) → has_form bytes ≡ true → place_of key (node_in bytes).entries ≡ Ok i → slice_get (node_in bytes).entries i ≡ Some e → find key_cmp key (node_in bytes).entries ≡ Some e.1
entry_found bytes key i e form place at = place_finds key 0 (node_in bytes).entries i i e (scanned bytes key form ∙ place) (omega arith) at

pub asked_get : (inst : Instance) (old : View) (key : Key) (page : ℕ) (slot : List ℕ) → IsPartedInto key page slot → page ≢ 0 → IsAsked inst (call.Get key) old page
asked_get inst old key page slot parts some P part rows holds = path_from page (key_page key) some (ap (has page) (own_page_is key page slot parts) ∙ has_here page [])

pub Looks-none : (inst : Instance) (key : Key) (old : View) → dropped old ≡ old → NoRow old key → Looks heap_method inst (call.Get key) old old move.NoRecord
Looks-none inst key old clean none = record {
  same = refl;
  reads = tt;
  asks = tt;
  broken = tt;
  ends = tt;
  answers = λ P part rows holds. subst (λ (o : Option Row). Got key o move.NoRecord) (sym (no_row inst old P rows key clean part holds none)) refl;
  path = λ P part rows holds. tt;
}

pub Looks-got : (inst : Instance) (key : Key) (old : View) (page i : ℕ) (slot bytes value : List ℕ) (head : Head) (row : Row) → dropped old ≡ old → IsPartedInto key page slot → page < 65536 → IsHeapPage (page_of old page) bytes head → find key_cmp slot (node_in bytes).entries ≡ Some value
    → IsRowFrom inst.schema value (Some row) → Looks heap_method inst (call.Get key) old old (move.Row key row)
Looks-got inst key old page i slot bytes value head row clean parts low held found is = record {
  same = refl;
  reads = tt;
  asks = tt;
  broken = tt;
  ends = record { is_key = ap (λ l. nat_le l 200) parts.six; is_row = is.0 };
  answers = λ P part rows holds.
      let f = formed inst.root inst.schema P rows part.are_pages holds in
      let at : row_at rows key ≡ Some row =
      (λ j. row_at (f.same j) (parts.key_is j)) ∙ row_found (nodes P) page slot low
      ∙ ap (λ (o : Option Node). option_map row_in (find key_cmp slot (entries_of o))) (node_is old P page (node_in bytes) clean part (ap held_node held.held_is ∙ node_of-form bytes held.form))
      ∙ ap (option_map row_in) found ∙ ap Some (ap row_in is.1 ∙ row_in-spelling row is.0.tuple) in
      subst (λ (o : Option Row). Got key o (move.Row key row)) (sym at) refl;
  path = λ P part rows holds. tt;
}
