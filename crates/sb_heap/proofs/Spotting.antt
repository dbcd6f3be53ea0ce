-- Where a row goes, and a new root.
use Rattle.std.proofs.Common.{◌≡◌, ◌≢◌, ℕ, ◌+◌, ◌-◌, ◌<◌, ◌≤◌, true, false, true≢false, not, ◌&&◌, List, [], ◌∷◌, length, Option, Some, None, is_some, option_map, refl, ap, sym, ◌∙◌, subst, arith, inl, inr}
use Rattle.std.specs.Prelude.{nat_eq, nat_lt, Result, Ok, Err}
use Rattle.std.specs.Int.{bytes_high_first}
use Rattle.std.specs.FinMap.Entries.{find}
use Rattle.std.proofs.lemmas.Bool.{and_parts, ltb-true, eq-eqb, not-true}
use Rattle.std.proofs.lemmas.List.{length-replicate}
use Rattle.sb_forms.specs.Pages.{zeros}
use Rattle.sb_forms.specs.HeapPages.{first_of}
use Rattle.sb_node.specs.declared.head.Head.{Head}
use Rattle.sb_node.specs.Entries.{key_cmp}
use Rattle.sb_node.specs.Page.{Node, has_form, node_in, node_of, empty_node, with_head}
use Rattle.sb_node.proofs.Edited.{node_of-form}
use Rattle.sb_node.proofs.Runs.{form_size}
use Rattle.sb_ctx.specs.View.{View, fresh_page, held_at, page_of, room_of, free_page, with_page, dropped, edits_of}
use Rattle.sb_ctx.specs.Sound.{IsSound}
use Rattle.sb_ctx.proofs.ViewLaws.{IsFree, IsFree-free_page, dropped-with_page, page_of-same, page_of-other, room_of-page}
use Rattle.sb_heap.specs.Broken.{held_node}
use Rattle.sb_forms.specs.Read.{has}
use Rattle.sb_forms.specs.HeapPages.{after_of, before_of}
use Rattle.sb_heap.specs.Held.{Amiss, HasFirst, IsHeapPage, LacksOne}
use Rattle.sb_heap.specs.Links.{IsReadyFor, IsTurn, Made, StayReady, is_ready, put_node}
use Rattle.sb_heap.specs.Prepared.{Prepares, new_root}
use Rattle.sb_heap.specs.Spots.{IsSpot, SpotStops, spot_pages, with_row_in}
use Rattle.sb_heap.specs.declared.insertion.Spot.{Spot}
use Rattle.sb_heap.specs.declared.list.Turn.TheVariants.{Joins}
use Rattle.sb_heap.specs.declared.stop.Stop.{Stop}
use Rattle.sb_heap.specs.declared.stop.Stop.TheVariants as stop
use Rattle.sb_heap.proofs.Lists.{has_here, has_later}
use Rattle.sb_heap.proofs.Linking.{linked_first, root_node}
use Rattle.sb_heap.proofs.Weights.{edits-taken, some_zeros}

-- ---- a fresh page that is taken
long_zeros : length zeros ≡ 4096
unfolding zeros
long_zeros = length-replicate {A = ℕ} 4096 0

free_is : (c : View) (n : ℕ) → IsFree c n → held_at c n ≡ Some fresh_page
free_is c n f = f.held ∙ (λ i. Some (record { given = f.given i; now = f.now i; fresh = f.fresh i }))

pub taken_edits : (c new : View) (n : ℕ) → IsSound c → Some n ≡ free_page c → new ≡ with_page n zeros c → edits_of new ≤ edits_of c + 2
taken_edits c new n sound free is = omega (arith, ap edits_of is, edits-taken c n zeros (free_is c n (IsFree-free_page c n sound (sym free))) some_zeros)

pub taken_given : (c new : View) (n : ℕ) → new ≡ with_page n zeros c → dropped new ≡ dropped c
taken_given c new n is = ap dropped is ∙ dropped-with_page c n zeros

no_form : has_form [] ≡ false
unfolding has_form
no_form = refl

free_held : (c : View) (n : ℕ) → IsFree c n → page_of c n ≡ Some []
free_held c n f = ap (option_map (λ h. h.now)) (free_is c n f)

taken_ready : (c : View) (n : ℕ) → IsFree c n → StayReady c (with_page n zeros c)
taken_ready c n f m ready = ap is_ready (page_of-other c n m zeros (λ same. true≢false (sym ready ∙ ap (λ k. is_ready (page_of c k)) (sym same) ∙ ap is_ready (free_held c n f) ∙ no_form))) ∙ ready

-- a root that is held is ready
root_ready : (c : View) (root : ℕ) (bytes : List ℕ) (head : Head) → IsHeapPage (page_of c root) bytes head → is_ready (page_of c root) ≡ true
root_ready c root bytes head is = ap is_ready is.held_is ∙ is.form

pub fresh_spot_is : (old new : View) (root : ℕ) (row : List ℕ) (spot : Spot) → HasFirst old root 0 → spot.page ≢ 0 → IsSound old → Some spot.page ≡ free_page old → new ≡ with_page spot.page zeros old → has_form spot.bytes.items ≡ true
    → node_in spot.bytes.items ≡ with_row_in (bytes_high_first 2 0) row (empty_node 1 0) → spot.slot ≡ bytes_high_first 2 0 → spot.turn ≡ Joins 0 → IsSpot old new root row spot
fresh_spot_is old new root row spot held some sound free is form node slot turn =
    let f = IsFree-free_page old spot.page sound (sym free) in
    record {
      bytes = held.bytes;
      root_is = held.root_is;
      some = some;
      room = ap (λ (c : View). room_of c spot.page) is ∙ room_of-page (with_page spot.page zeros old) spot.page zeros (page_of-same old spot.page zeros (ap is_some (free_held old spot.page f))) ∙ long_zeros;
      form = form;
      turn = subst (λ t. IsReadyFor new root t) (sym turn) (subst (λ (c : View). is_ready (page_of c root) ≡ true) (sym is) (taken_ready old spot.page f root (root_ready old root held.bytes (node_in held.bytes).head held.root_is)), λ none. absurd (none refl));
      kept = subst (StayReady old) (sym is) (taken_ready old spot.page f);
      edits = taken_edits old new spot.page sound free is;
      slot_long = ap length slot;
      is = inr (is, record { none = held.first_is; sound = sound; fresh = sym free; slot_is = slot; node_is = node ∙ ap (λ (s : List ℕ). with_row_in s row (empty_node 1 0)) (sym slot); turn = turn });
    }

-- ---- a new root
pub new_root_is : (root : ℕ) (cleared bytes : List ℕ) → node_in cleared ≡ empty_node 1 1 → node_in bytes ≡ with_head (record { kind = 1; level = 1; count = 0; used = 0; a = 0; b = 0; c = root }) (node_in cleared) → node_in bytes ≡ new_root root
new_root_is root cleared bytes empty is = is ∙ ap (with_head (record { kind = 1; level = 1; count = 0; used = 0; a = 0; b = 0; c = root })) empty

pub page_number : (n : ℕ) → (not (nat_eq n 0) && nat_lt n 65536) ≡ true → (n ≢ 0) × (n < 65536)
page_number n is =
    let parts = and_parts (not (nat_eq n 0)) (nat_lt n 65536) is in
    (λ e. true≢false (sym (eq-eqb n 0 e) ∙ not-true (nat_eq n 0) parts.0), ltb-true n 65536 parts.1)

pub prepares : (old new : View) (root : ℕ) (bytes : List ℕ) (outcome : Result (Unit {0}) Stop) → (root ≢ 0) × (root < 65536) → room_of old root ≡ 4096 → has_form bytes ≡ true → node_in bytes ≡ new_root root → Made (put_node root (node_of bytes)) 1 old new outcome → Prepares old new root outcome
prepares old new root bytes (Ok done) low long form is a = record {
  low = low;
  long = long;
  made = subst (λ (o : Option Node). Made (put_node root o) 1 old new (Ok tt)) (node_of-form bytes form ∙ ap Some is) a;
}
prepares old new root bytes (Err s) low long form is a = subst (λ (s : Stop). Prepares old new root (Err s)) (sym a.memory) (record { given = a.given; edits = a.edits })

-- ---- the first page of the list
pub listed_lacks : (c : View) (root page : ℕ) (s : Stop) → HasFirst c root page → root < 65536 → page ≢ 0 → Amiss c page s → SpotStops c c root s
listed_lacks c root page s held low some amiss = by s amiss (page, in_pages, record { amiss = amiss; some = some; linked = linked_first c root page held.bytes (node_in held.bytes).head low held.root_is named })
  where
    named : (node_in held.bytes).head.c ≡ page
    named = ap first_of (sym (root_node c root held.bytes (node_in held.bytes).head held.root_is)) ∙ held.first_is

    in_pages : has page (spot_pages c root) ≡ true
    in_pages = has_later page root (first_of (held_node (page_of c root)) ∷ after_of (held_node (page_of c (first_of (held_node (page_of c root))))) ∷ before_of (held_node (page_of c (first_of (held_node (page_of c root))))) ∷ [])
        (subst (λ n. has page (n ∷ after_of (held_node (page_of c (first_of (held_node (page_of c root))))) ∷ before_of (held_node (page_of c (first_of (held_node (page_of c root))))) ∷ []) ≡ true) (sym held.first_is)
        (has_here page (after_of (held_node (page_of c (first_of (held_node (page_of c root))))) ∷ before_of (held_node (page_of c (first_of (held_node (page_of c root))))) ∷ [])))

    by : (s : Stop) → Amiss c page s → LacksOne c root (spot_pages c root) s → SpotStops c c root s
    by (stop.Need n) amiss l = (refl, l)
    by (stop.Broken n) amiss l = (refl, l)
    by stop.Fresh amiss l = absurd amiss
    by (stop.After low) amiss l = absurd amiss
    by stop.NoMemory amiss l = tt

pub listed_spot_is : (c : View) (root : ℕ) (row was : List ℕ) (head : Head) (room : ℕ) (spot : Spot) → HasFirst c root spot.page → spot.page ≢ 0 → IsHeapPage (page_of c spot.page) was head → head.level ≡ 1 → has_form spot.bytes.items ≡ true
    → find key_cmp spot.slot (node_in was).entries ≡ None → node_in spot.bytes.items ≡ with_row_in spot.slot row (node_in was) → length spot.slot ≡ 2 → room ≡ 4072 - (node_in spot.bytes.items).head.used
    → IsTurn (held_node (page_of c root)) head room spot.turn → IsReadyFor c root spot.turn → IsSpot c c root row spot
listed_spot_is c root row was head room spot held some is level form free node two room_is turn ready = record {
  bytes = held.bytes;
  root_is = held.root_is;
  some = some;
  room = room_of-page c spot.page was is.held_is ∙ form_size was is.form;
  form = form;
  turn = ready;
  kept = λ n r. r;
  edits = omega arith;
  slot_long = two;
  is = inl (
    refl,
    record {
      was = was;
      held = subst (λ (h : Head). IsHeapPage (page_of c spot.page) was h) is.head_is is;
      listed = ap (λ (h : Head). h.level) (sym is.head_is) ∙ level;
      first = held.first_is;
      free = free;
      node_is = node;
      turn = subst (λ (h : Head). IsTurn (held_node (page_of c root)) h (4072 - (node_in spot.bytes.items).head.used) spot.turn) is.head_is (subst (λ r. IsTurn (held_node (page_of c root)) head r spot.turn) room_is turn);
    },
  );
}
