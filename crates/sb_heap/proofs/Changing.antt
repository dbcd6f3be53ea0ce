-- What the changes of the box answer.
use Rattle.std.proofs.Common.{◌≡◌, ◌≢◌, ℕ, ◌+◌, ◌<◌, ◌≤◌, Bool, true, false, true≢false, cond, not, ◌&&◌, List, [], ◌∷◌, ◌++◌, length, Option, Some, None, IsSome, is_some, option_map, refl, ap, sym, ◌∙◌, subst, arith, inl, inr, ◌⊎◌}
use Rattle.std.specs.Prelude.{nat_eq, nat_lt, ◌||◌, Err}
use Rattle.std.specs.FinMap.Entries.{find}
use Rattle.std.proofs.lemmas.Bool.{and_from, ltb-true, ltb-false, eqb-true, ne_eqb, eq-eqb}
use Rattle.sb_bytes.specs.Field.{number_at}
use Rattle.sb_value.specs.declared.schema.Column.{Column}
use Rattle.sb_relation.specs.Db.{Key, Row, Rows, row_at}
use Rattle.sb_node.specs.declared.head.Head.{Head}
use Rattle.sb_node.specs.Entries.{Entry, key_cmp, place_of}
use Rattle.sb_node.specs.Page.{Node, node_in}
use Rattle.sb_node.proofs.Edited.{node_of-form}
use Rattle.sb_forms.specs.Pages.{Pages}
use Rattle.sb_forms.specs.Tree.{nodes, entries_of}
use Rattle.sb_forms.specs.Read.{has}
use Rattle.sb_forms.specs.Stored.{row_in}
use Rattle.sb_forms.specs.HeapPages.{heap_rows, first_of, after_of, before_of, first_page, are_linked}
use Rattle.sb_ctx.specs.declared.instance.Instance.{Instance}
use Rattle.sb_ctx.specs.declared.calls.MethodCall.{MethodCall}
use Rattle.sb_ctx.specs.declared.calls.MethodCall.TheVariants as call
use Rattle.sb_ctx.specs.declared.moves.Move.TheVariants as move
use Rattle.sb_ctx.specs.View.{View, page_of, dropped, edits_of, HoldsPart, stored}
use Rattle.sb_ctx.specs.MethodAnswers.{Changes, Deleted, Updated}
use Rattle.sb_ctx.proofs.ViewLaws.{stored-clean, given-page}
use Rattle.sb_ctx.proofs.AuthorLaws.{edits_of-none}
use Rattle.sb_heap.specs.Broken.{held_node}
use Rattle.sb_heap.specs.Heap.{heap_method, key_page, beside, each_beside, front}
use Rattle.sb_heap.specs.Held.{IsBare, IsHeapPage, turn_pages}
use Rattle.sb_heap.specs.Spots.{ReplaceStops, SpotStops, TurnStops, spot_pages}
use Rattle.sb_heap.specs.Answered.{IsPartedInto, question_of}
use Rattle.sb_heap.specs.declared.stop.Stop.{Stop}
use Rattle.sb_heap.specs.declared.stop.Stop.TheVariants as stop
use Rattle.sb_heap.proofs.Lists.{has_here, has_later, has_back, has_front, linked_parts}
use Rattle.sb_heap.proofs.Slots.{none_at}
use Rattle.sb_heap.proofs.Rows.{rows_past, other_length}
use Rattle.sb_heap.proofs.Formed.{Formed, core, formed, bare_node}
use Rattle.sb_heap.proofs.MethodLaws.{core_six}
use Rattle.sb_heap.proofs.Turning.{row_found}
use Rattle.sb_heap.proofs.Outcomes.{IsAsked, IsChanging, Stopped-lacks, Changes-stop, Changes-tried, held_is, node_is}

-- ---- the calls
pub deleting : (inst : Instance) (key : Key) → IsChanging inst (call.Delete key)
deleting inst key = record { before = λ P rows b. b; old = λ P. tt; cost = λ rows. refl }

pub updating : (inst : Instance) (key : Key) (row : Row) → IsChanging inst (call.Update key row)
updating inst key row = record { before = λ P rows b. b; old = λ P. tt; cost = λ rows. refl }

pub inserting : (inst : Instance) (row : Row) → IsChanging inst (call.Insert row)
inserting inst row = record { before = λ P rows b. b; old = λ P. tt; cost = λ rows. refl }

-- ---- the pages that they ask for
has_of : (n m : ℕ) (ms : List ℕ) → has n (m ∷ ms) ≡ true → (n ≡ m) ⊎ (has n ms ≡ true)
has_of n m ms is = by (nat_eq n m) refl is
  where
    by : (b : Bool) → nat_eq n m ≡ b → (b || has n ms) ≡ true → (n ≡ m) ⊎ (has n ms ≡ true)
    by true same e = inl (eqb-true n m same)
    by false other e = inr e

first_held : (old : View) (P : Pages) (root n : ℕ) → dropped old ≡ old → HoldsPart old P → n ≡ first_of (held_node (page_of old root)) → n ≢ 0 → n ≡ first_of (nodes P root)
first_held old P root n clean part is some = by (page_of old root) refl is
  where
    by : (o : Option (List ℕ)) → page_of old root ≡ o → n ≡ first_of (held_node o) → n ≡ first_of (nodes P root)
    by None there e = absurd (some e)
    by (Some bytes) there e = e ∙ ap first_of (sym (ap held_node there) ∙ held_is old P root clean part (ap is_some there))

one_held : (f : Option Node → ℕ) → f None ≡ 0 → (old : View) (P : Pages) (m n : ℕ) → dropped old ≡ old → HoldsPart old P → n ≡ f (held_node (page_of old m)) → n ≢ 0 → n ≡ f (nodes P m)
one_held f zero_is old P m n clean part is some = by (page_of old m) refl is
  where
    by : (o : Option (List ℕ)) → page_of old m ≡ o → n ≡ f (held_node o) → n ≡ f (nodes P m)
    by None there e = absurd (some (e ∙ zero_is))
    by (Some bytes) there e = e ∙ ap f (sym (ap held_node there) ∙ held_is old P m clean part (ap is_some there))

in_front : (root : ℕ) (P : Pages) (n : ℕ) → n ≡ first_of (nodes P root) → has n (front root P) ≡ true
in_front root P n is = has_later n root (first_of (nodes P root) ∷ after_of (nodes P (first_of (nodes P root))) ∷ []) (ap (λ m. has n (m ∷ after_of (nodes P (first_of (nodes P root))) ∷ [])) (sym is) ∙ has_here n (after_of (nodes P (first_of (nodes P root))) ∷ []))

pub path_from : (n : ℕ) (pages : List ℕ) → n ≢ 0 → has n pages ≡ true → (not (nat_eq n 0) && has n pages) ≡ true
path_from n pages some had = and_from (not (nat_eq n 0)) (has n pages) (ap not (ne_eqb n 0 some)) had

pub own_page_is : (key : Key) (page : ℕ) (slot : List ℕ) → IsPartedInto key page slot → key_page key ≡ page ∷ []
own_page_is key page slot parts = ap (λ b. cond b (number_at 4 key 0 ∷ []) []) (eq-eqb (length key) 6 parts.six) ∙ ap (λ m. m ∷ []) (sym parts.page_is)

-- the pages of a delete or of an update
abbrev change_pages : ℕ → Pages → Key → List ℕ
change_pages root P key = each_beside P (key_page key) ++ front root P

own_in : (root : ℕ) (P : Pages) (key : Key) (page : ℕ) (slot : List ℕ) → IsPartedInto key page slot → (n : ℕ) → has n (beside P page) ≡ true → has n (change_pages root P key) ≡ true
own_in root P key page slot parts n had = ap (λ (pages : List ℕ). has n (each_beside P pages ++ front root P)) (own_page_is key page slot parts) ∙ has_front n (beside P page ++ []) (front root P) (has_front n (beside P page) [] had)

turn_in : (old : View) (P : Pages) (root : ℕ) (key : Key) (page : ℕ) (slot : List ℕ) (x : Node) → dropped old ≡ old → HoldsPart old P → IsPartedInto key page slot → held_node (page_of old page) ≡ Some x → (n : ℕ) → has n (turn_pages old root x.head) ≡ true → n ≢ 0
    → has n (change_pages root P key) ≡ true
turn_in old P root key page slot x clean part parts there n had some = elim (has_of n root (first_of (held_node (page_of old root)) ∷ x.head.a ∷ x.head.b ∷ []) had) [
  | inl is_root ↦ has_back n (each_beside P (key_page key)) (front root P) (ap (λ m. has m (front root P)) is_root ∙ has_here root (first_of (nodes P root) ∷ after_of (nodes P (first_of (nodes P root))) ∷ []))
  | inr more ↦ elim (has_of n (first_of (held_node (page_of old root))) (x.head.a ∷ x.head.b ∷ []) more) [
    | inl is_first ↦ has_back n (each_beside P (key_page key)) (front root P) (in_front root P n (first_held old P root n clean part is_first some))
    | inr rest ↦ elim (has_of n x.head.a (x.head.b ∷ []) rest) [
      | inl is_after ↦ own_in root P key page slot parts n (has_later n page (after_of (nodes P page) ∷ before_of (nodes P page) ∷ [])
          (ap (λ m. has n (m ∷ before_of (nodes P page) ∷ [])) (ap after_of node ∙ sym is_after) ∙ has_here n (before_of (nodes P page) ∷ [])))
      | inr last ↦ elim (has_of n x.head.b [] last) [
        | inl is_before ↦ own_in root P key page slot parts n (has_later n page (after_of (nodes P page) ∷ before_of (nodes P page) ∷ []) (has_later n (after_of (nodes P page)) (before_of (nodes P page) ∷ [])
            (ap (λ m. has n (m ∷ [])) (ap before_of node ∙ sym is_before) ∙ has_here n [])))
        | inr none ↦ absurd (true≢false (sym none))
      ]
    ]
  ]
]
  where
    node : nodes P page ≡ Some x
    node = node_is old P page x clean part there

-- the root, the first page and the one behind it; there is none before it
spot_in : (old : View) (P : Pages) (root : ℕ) (schema : List Column) (rows : Rows) → dropped old ≡ old → HoldsPart old P → heap_rows root schema P ≡ Some rows → (n : ℕ) → has n (spot_pages old root) ≡ true → n ≢ 0 → has n (front root P) ≡ true
spot_in old P root schema rows clean part holds n had some =
    let first = first_of (held_node (page_of old root)) in
    elim (has_of n root (first ∷ after_of (held_node (page_of old first)) ∷ before_of (held_node (page_of old first)) ∷ []) had) [
      | inl is_root ↦ ap (λ m. has m (front root P)) is_root ∙ has_here root (first_of (nodes P root) ∷ after_of (nodes P (first_of (nodes P root))) ∷ [])
      | inr more ↦ elim (has_of n first (after_of (held_node (page_of old first)) ∷ before_of (held_node (page_of old first)) ∷ []) more) [
        | inl is_first ↦ in_front root P n (first_held old P root n clean part is_first some)
        | inr rest ↦ elim (has_of n (after_of (held_node (page_of old first))) (before_of (held_node (page_of old first)) ∷ []) rest) [
          | inl is_after ↦ has_later n root (first_of (nodes P root) ∷ after_of (nodes P (first_of (nodes P root))) ∷ []) (has_later n (first_of (nodes P root)) (after_of (nodes P (first_of (nodes P root))) ∷ [])
              (ap (λ m. has n (m ∷ [])) (beside_is after_of refl is_after) ∙ has_here n []))
          | inr last ↦ elim (has_of n (before_of (held_node (page_of old first))) [] last) [
            | inl is_before ↦ absurd (some (sym (beside_is before_of refl is_before) ∙ none_before))
            | inr none ↦ absurd (true≢false (sym none))
          ]
        ]
      ]
    ]
  where
    f : Formed root schema P rows
    f = formed root schema P rows part.are_pages holds

    -- a page beside the first one, which is held then
    beside_is : (g : Option Node → ℕ) → g None ≡ 0 → n ≡ g (held_node (page_of old (first_of (held_node (page_of old root))))) → g (nodes P (first_of (nodes P root))) ≡ n
    beside_is g zero_is is =
        let there = one_held g zero_is old P (first_of (held_node (page_of old root))) n clean part is some in
        by (page_of old root) refl there
      where
        by : (o : Option (List ℕ)) → page_of old root ≡ o → n ≡ g (nodes P (first_of (held_node (page_of old root)))) → g (nodes P (first_of (nodes P root))) ≡ n
        by None none there = absurd (no_zero (nodes P 0) refl)
          where
            no_zero : (o : Option Node) → nodes P 0 ≡ o → ⊥
            no_zero None e = some (there ∙ ap (λ m. g (nodes P m)) (ap first_of (ap held_node none)) ∙ ap g e ∙ zero_is)
            no_zero (Some x) e = (f.heap.stands.low 0 (ap is_some e)).0 refl
        by (Some bytes) is_held there = ap (λ m. g (nodes P (first_of m))) (sym (held_is old P root clean part (ap is_some is_held))) ∙ sym there

    none_before : before_of (nodes P (first_of (nodes P root))) ≡ 0
    none_before = by f.list refl (f.heap.listed.first)
      where
        by : (list : List ℕ) → f.list ≡ list → first_of (nodes P root) ≡ first_page f.list → before_of (nodes P (first_of (nodes P root))) ≡ 0
        by [] is first = ap (λ m. before_of (nodes P m)) (first ∙ ap first_page is) ∙ zero_before (nodes P 0) refl
          where
            zero_before : (o : Option Node) → nodes P 0 ≡ o → before_of (nodes P 0) ≡ 0
            zero_before None e = ap before_of e
            zero_before (Some x) e = absurd ((f.heap.stands.low 0 (ap is_some e)).0 refl)
        by (p ∷ ps) is first = ap (λ m. before_of (nodes P m)) (first ∙ ap first_page is) ∙ (linked_parts (nodes P) 0 p ps (subst (λ (l : List ℕ). are_linked (nodes P) 0 l ≡ true) is f.heap.listed.linked)).before

-- ---- why a delete or an update has no end yet
pub asked_own_delete : (inst : Instance) (old : View) (key : Key) (page : ℕ) (slot : List ℕ) → IsPartedInto key page slot → page ≢ 0 → IsAsked inst (call.Delete key) old page
asked_own_delete inst old key page slot parts some P part rows holds = path_from page (change_pages inst.root P key) some (own_in inst.root P key page slot parts page (has_here page (after_of (nodes P page) ∷ before_of (nodes P page) ∷ [])))

pub asked_own_update : (inst : Instance) (old : View) (key : Key) (row : Row) (page : ℕ) (slot : List ℕ) → IsPartedInto key page slot → page ≢ 0 → IsAsked inst (call.Update key row) old page
asked_own_update inst old key row page slot parts some P part rows holds = path_from page (change_pages inst.root P key) some (own_in inst.root P key page slot parts page (has_here page (after_of (nodes P page) ∷ before_of (nodes P page) ∷ [])))

pub asked_turn_delete : (inst : Instance) (old : View) (key : Key) (page : ℕ) (slot : List ℕ) (x : Node) → dropped old ≡ old → IsPartedInto key page slot → held_node (page_of old page) ≡ Some x → (n : ℕ) → has n (turn_pages old inst.root x.head) ≡ true → n ≢ 0 → IsAsked inst (call.Delete key) old n
asked_turn_delete inst old key page slot x clean parts there n had some P part rows holds = path_from n (change_pages inst.root P key) some (turn_in old P inst.root key page slot x clean part parts there n had some)

pub asked_turn_update : (inst : Instance) (old : View) (key : Key) (row : Row) (page : ℕ) (slot : List ℕ) (x : Node) → dropped old ≡ old → IsPartedInto key page slot → held_node (page_of old page) ≡ Some x → (n : ℕ) → has n (turn_pages old inst.root x.head) ≡ true → n ≢ 0 → IsAsked inst (call.Update key row) old n
asked_turn_update inst old key row page slot x clean parts there n had some P part rows holds = path_from n (change_pages inst.root P key) some (turn_in old P inst.root key page slot x clean part parts there n had some)

pub asked_spot_update : (inst : Instance) (old : View) (key : Key) (row : Row) → dropped old ≡ old → (n : ℕ) → has n (spot_pages old inst.root) ≡ true → n ≢ 0 → IsAsked inst (call.Update key row) old n
asked_spot_update inst old key row clean n had some P part rows holds =
    path_from n (change_pages inst.root P key) some (has_back n (each_beside P (key_page key)) (front inst.root P) (spot_in old P inst.root inst.schema rows clean part holds n had some))

pub asked_spot_insert : (inst : Instance) (old : View) (row : Row) → dropped old ≡ old → (n : ℕ) → has n (spot_pages old inst.root) ≡ true → n ≢ 0 → IsAsked inst (call.Insert row) old n
asked_spot_insert inst old row clean n had some P part rows holds = path_from n (front inst.root P) some (spot_in old P inst.root inst.schema rows clean part holds n had some)

-- ---- stops of the parts as stops of the call
pub Stopped-turn : (inst : Instance) (c : MethodCall) (old new : View) (most : ℕ) (head : Head) (s : Stop) → ((n : ℕ) → has n (turn_pages old inst.root head) ≡ true → n ≢ 0 → IsAsked inst c old n) → most ≤ 10 → IsChanging inst c → dropped old ≡ old → TurnStops most old new inst.root head s
    → Changes heap_method inst c old new (question_of s)
Stopped-turn inst c old new most head stop.NoMemory asked few is clean stops = Changes-tried inst c old new most few is clean stops
Stopped-turn inst c old new most head stop.Fresh asked few is clean stops = absurd stops
Stopped-turn inst c old new most head (stop.After low) asked few is clean stops = absurd stops
Stopped-turn inst c old new most head (stop.Need n) asked few is clean stops =
    subst (λ (v : View). Changes heap_method inst c old v (move.Need n)) (sym stops.0) (Changes-stop inst c old old (stop.Need n) is clean clean (omega arith) (Stopped-lacks inst c old (turn_pages old inst.root head) (stop.Need n) asked stops.1))
Stopped-turn inst c old new most head (stop.Broken n) asked few is clean stops =
    subst (λ (v : View). Changes heap_method inst c old v (move.Broken n)) (sym stops.0) (Changes-stop inst c old old (stop.Broken n) is clean clean (omega arith) (Stopped-lacks inst c old (turn_pages old inst.root head) (stop.Broken n) asked stops.1))

pub Stopped-spot : (inst : Instance) (c : MethodCall) (old new : View) (s : Stop) → ((n : ℕ) → has n (spot_pages old inst.root) ≡ true → n ≢ 0 → IsAsked inst c old n) → IsChanging inst c → dropped old ≡ old → dropped new ≡ dropped old → edits_of new ≤ edits_of old + 10 → SpotStops old new inst.root s
    → Changes heap_method inst c old new (question_of s)
Stopped-spot inst c old new stop.NoMemory asked is clean given edits stops = Changes-stop inst c old new stop.NoMemory is clean (given ∙ clean) edits tt
Stopped-spot inst c old new stop.Fresh asked is clean given edits stops = Changes-stop inst c old new stop.Fresh is clean (given ∙ clean) edits stops
Stopped-spot inst c old new (stop.After low) asked is clean given edits stops = absurd stops
Stopped-spot inst c old new (stop.Need n) asked is clean given edits stops =
    subst (λ (v : View). Changes heap_method inst c old v (move.Need n)) (sym stops.0) (Changes-stop inst c old old (stop.Need n) is clean clean (omega arith) (Stopped-lacks inst c old (spot_pages old inst.root) (stop.Need n) asked stops.1))
Stopped-spot inst c old new (stop.Broken n) asked is clean given edits stops =
    subst (λ (v : View). Changes heap_method inst c old v (move.Broken n)) (sym stops.0) (Changes-stop inst c old old (stop.Broken n) is clean clean (omega arith) (Stopped-lacks inst c old (spot_pages old inst.root) (stop.Broken n) asked stops.1))

-- ---- the row of a key
-- where there is none
pub data NoRow (old : View) (key : Key) : Type 0 where
  Short : (length key ≢ 6) → NoRow old key
  Bare : (page : ℕ) (slot : List ℕ) → IsPartedInto key page slot → IsBare old page → NoRow old key
  Lacks : (page : ℕ) (slot bytes : List ℕ) (head : Head) (i : ℕ) → IsPartedInto key page slot → page < 65536 → IsHeapPage (page_of old page) bytes head → place_of slot (node_in bytes).entries ≡ Err i → NoRow old key

bare_entries : (o : Option Node) → o ≡ None → entries_of o ≡ []
bare_entries o is = ap entries_of is

pub no_row : (inst : Instance) (old : View) (P : Pages) (rows : Rows) (key : Key) → dropped old ≡ old → HoldsPart old P → heap_rows inst.root inst.schema P ≡ Some rows → NoRow old key → row_at rows key ≡ None
no_row inst old P rows key clean part holds (Short other) = other_length key 6 rows (core_six inst.root inst.schema P rows (core inst.root inst.schema P rows holds)) other
no_row inst old P rows key clean part holds (Bare page slot parts bare) = elim bare [
  | inl zero_page ↦ within (nodes P page) refl (omega (arith, zero_page)) (λ e. absurd ((f.heap.stands.low page e).0 zero_page))
  | inr (inl past) ↦ (λ i. row_at (f.same i) (parts.key_is i)) ∙ rows_past (nodes P) 0 65536 page slot (omega (arith, past)) parts.page_low
  | inr (inr empty) ↦ by (nat_lt page 65536) refl (given-page old P page [] clean part empty)
]
  where
    f : Formed inst.root inst.schema P rows
    f = formed inst.root inst.schema P rows part.are_pages holds

    at_key : page < 65536 → entries_of (nodes P page) ≡ [] → row_at rows key ≡ None
    at_key low none = (λ i. row_at (f.same i) (parts.key_is i)) ∙ row_found (nodes P) page slot low ∙ ap (λ (es : List Entry). option_map row_in (find key_cmp slot es)) none

    within : (o : Option Node) → nodes P page ≡ o → page < 65536 → (IsSome (nodes P page) → nodes P page ≡ None) → row_at rows key ≡ None
    within None is low none = at_key low (bare_entries (nodes P page) is)
    within (Some x) is low none = at_key low (bare_entries (nodes P page) (none (ap is_some is)))

    by : (b : Bool) → nat_lt page 65536 ≡ b → P page ≡ [] → row_at rows key ≡ None
    by true low none = at_key (ltb-true page 65536 low) (bare_entries (nodes P page) (bare_node (P page) none))
    by false high none = (λ i. row_at (f.same i) (parts.key_is i)) ∙ rows_past (nodes P) 0 65536 page slot (omega (arith, ltb-false page 65536 high)) parts.page_low
no_row inst old P rows key clean part holds (Lacks page slot bytes head i parts low held place) =
    (λ i. row_at ((formed inst.root inst.schema P rows part.are_pages holds).same i) (parts.key_is i)) ∙ row_found (nodes P) page slot low
    ∙ ap (λ (o : Option Node). option_map row_in (find key_cmp slot (entries_of o))) (node_is old P page (node_in bytes) clean part (ap held_node held.held_is ∙ node_of-form bytes held.form))
    ∙ ap (option_map row_in) (none_at slot (node_in bytes).entries i place)

pub Changes-lacks-delete : (inst : Instance) (key : Key) (old : View) → dropped old ≡ old → NoRow old key → Changes heap_method inst (call.Delete key) old old move.NoRecord
Changes-lacks-delete inst key old clean none = record {
  given = clean;
  asks = tt;
  broken = tt;
  ends = tt;
  answers = λ P part rows holds. subst (λ (o : Option Row). Deleted heap_method inst key o rows (stored old P) move.NoRecord) (sym (no_row inst old P rows key clean part holds none))
      (ap (heap_rows inst.root inst.schema) (stored-clean old P clean part) ∙ holds);
  spends = λ ctx P part rows before. record { path = tt; room = tt; gets = tt; edits = edits_of-none old P clean ctx part };
}

pub Changes-lacks-update : (inst : Instance) (key : Key) (row : Row) (old : View) → dropped old ≡ old → NoRow old key → Changes heap_method inst (call.Update key row) old old move.NoRecord
Changes-lacks-update inst key row old clean none = record {
  given = clean;
  asks = tt;
  broken = tt;
  ends = tt;
  answers = λ P part rows holds. subst (λ (o : Option Row). Updated heap_method inst key row o rows (stored old P) move.NoRecord) (sym (no_row inst old P rows key clean part holds none))
      (ap (heap_rows inst.root inst.schema) (stored-clean old P clean part) ∙ holds);
  spends = λ ctx P part rows before. record { path = tt; room = tt; gets = tt; edits = edits_of-none old P clean ctx part };
}

pub Stopped-replace : (inst : Instance) (key : Key) (row : Row) (old new : View) (head : Head) (s : Stop) → ((n : ℕ) → has n (turn_pages old inst.root head) ≡ true → n ≢ 0 → IsAsked inst (call.Update key row) old n) → dropped old ≡ old → ReplaceStops old new inst.root head s
    → Changes heap_method inst (call.Update key row) old new (question_of s)
Stopped-replace inst key row old new head stop.NoMemory asked clean stops = Changes-tried inst (call.Update key row) old new 10 (omega arith) (updating inst key row) clean stops
Stopped-replace inst key row old new head stop.Fresh asked clean stops = elim stops [
  | inl none ↦ absurd none
  | inr s ↦ Stopped-spot inst (call.Update key row) old new stop.Fresh (asked_spot_update inst old key row clean) (updating inst key row) clean (ap dropped s.0) (omega (arith, ap edits_of s.0)) s
]
Stopped-replace inst key row old new head (stop.After low) asked clean stops = elim stops [ inl none ↦ absurd none | inr none ↦ absurd none ]
Stopped-replace inst key row old new head (stop.Need n) asked clean stops = elim stops [
  | inl s ↦ Stopped-turn inst (call.Update key row) old new 10 head (stop.Need n) asked (omega arith) (updating inst key row) clean s
  | inr s ↦ Stopped-spot inst (call.Update key row) old new (stop.Need n) (asked_spot_update inst old key row clean) (updating inst key row) clean (ap dropped s.0) (omega (arith, ap edits_of s.0)) s
]
Stopped-replace inst key row old new head (stop.Broken n) asked clean stops = elim stops [
  | inl s ↦ Stopped-turn inst (call.Update key row) old new 10 head (stop.Broken n) asked (omega arith) (updating inst key row) clean s
  | inr s ↦ Stopped-spot inst (call.Update key row) old new (stop.Broken n) (asked_spot_update inst old key row clean) (updating inst key row) clean (ap dropped s.0) (omega (arith, ap edits_of s.0)) s
]
