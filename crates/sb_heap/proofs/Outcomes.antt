-- Calls of the box that end early, and what the pages hold after a change.
use Rattle.std.proofs.Common.{◌≡◌, ◌≢◌, ℕ, ◌+◌, ◌*◌, ◌<◌, ◌≤◌, ◌==◌, max, Bool, true, false, true≢false, cond, not, ◌&&◌, List, [], ◌∷◌, length, filter, Option, Some, None, IsSome, option_map, refl, ap, sym, ◌∙◌, subst, arith, inl, inr, ◌⊎◌}
use Rattle.std.specs.Prelude.{nat_eq, nat_lt, ◌||◌}
use Rattle.std.specs.List.{find as first}
use Rattle.std.proofs.lemmas.Bool.{and_from, lt-ltb, ne_eqb, or_left, or_right}
use Rattle.std.proofs.lemmas.List.{length-map}
use Rattle.std.proofs.lemmas.Option.{same_Some}
use Rattle.sb_value.specs.declared.schema.Column.{Column}
use Rattle.sb_relation.specs.Db.{Rows}
use Rattle.sb_relation.specs.Fits.{is_empty}
use Rattle.sb_node.specs.declared.head.Head.{Head}
use Rattle.sb_node.specs.Page.{Node, node_of}
use Rattle.sb_forms.specs.Pages.{Pages, page_count}
use Rattle.sb_forms.specs.Tree.{Nodes, nodes}
use Rattle.sb_forms.specs.Read.{has}
use Rattle.sb_forms.specs.HeapPages.{heap_rows}
use Rattle.sb_ctx.specs.declared.instance.Instance.{Instance}
use Rattle.sb_ctx.specs.declared.calls.MethodCall.{MethodCall}
use Rattle.sb_ctx.specs.declared.moves.Move.TheVariants as move
use Rattle.sb_ctx.specs.View.{HeldPage, View, given_at, held_at, page_of, free_page, fresh_pages, dropped, edits_of, HoldsPart, stored}
use Rattle.sb_ctx.specs.Held.{Entries, page_in}
use Rattle.sb_ctx.specs.Sized.{IsCtx, IsSized}
use Rattle.sb_ctx.specs.Sound.{IsSound}
use Rattle.sb_ctx.specs.MethodAnswers.{Before, Changes, NotNew, rows_after, most_pages}
use Rattle.sb_ctx.proofs.ViewLaws.{as_it_was, given-page, stored-clean}
use Rattle.sb_ctx.proofs.SoundLaws.{IsSound-dropped}
use Rattle.sb_ctx.proofs.HeldLaws.{page_in-each}
use Rattle.sb_ctx.proofs.BoundLaws.{GetsKey-picked, count_below}
use Rattle.sb_ctx.proofs.AuthorLaws.{edits_of-none}
use Rattle.sb_heap.specs.Broken.{held_node, is_amiss, has_bytes, is_linked, breaks}
use Rattle.sb_heap.specs.Heap.{heap_method, heap_path}
use Rattle.sb_heap.specs.Held.{LacksOne, OwnAmiss}
use Rattle.sb_heap.specs.Links.{IsTurn}
use Rattle.sb_heap.specs.Spots.{IsTried}
use Rattle.sb_heap.specs.Answered.{question_of}
use Rattle.sb_heap.specs.declared.list.Turn.{Turn}
use Rattle.sb_heap.specs.declared.list.Turn.TheVariants.{Stays, Joins, Leaves}
use Rattle.sb_heap.specs.declared.stop.Stop.{Stop}
use Rattle.sb_heap.specs.declared.stop.Stop.TheVariants as stop
use Rattle.sb_heap.proofs.Standing.{Heap}
use Rattle.sb_heap.proofs.Rows.{rows_in}
use Rattle.sb_heap.proofs.Formed.{Formed, formed, rows_from}
use Rattle.sb_heap.proofs.MethodLaws.{formed_few}

-- ---- a Ctx of which nothing is made yet
pub given_now : (c : View) → dropped c ≡ c → given_at c ≡ page_of c
given_now c clean = λ i n. by n (held_at c n) refl i
  where
    by : (n : ℕ) (o : Option HeldPage) → held_at c n ≡ o → option_map (λ (h : HeldPage). h.given) o ≡ option_map (λ (h : HeldPage). h.now) o
    by n None there = refl
    by n (Some h) there = ap Some (sym (as_it_was c n h clean there))

-- no fresh page is left, and so none is held
not_first : (q : HeldPage → Bool) (held : Entries) (n : ℕ) (h : HeldPage) → first (λ e. q e.1) held ≡ None → page_in held n ≡ Some h → q h ≡ false
not_first q [] n h none there = absurd (cc)
not_first q (e ∷ held) n h none there = by (q e.1) refl (e.0 == n) (not_first q held n h) none there
  where
    by : (b : Bool) → q e.1 ≡ b → (t : Bool) → (first (λ x. q x.1) held ≡ None → page_in held n ≡ Some h → q h ≡ false)
        → cond b (Some e) (first (λ x. q x.1) held) ≡ None → option_map (λ (x : ℕ × HeldPage). x.1) (cond t (Some e) (first (λ x. x.0 == n) held)) ≡ Some h → q h ≡ false
    by true is t rest none there = absurd (cc)
    by false is true rest none there = ap q (sym (same_Some e.1 h there)) ∙ is
    by false is false rest none there = rest none there

none_of : (o : Option (ℕ × HeldPage)) → option_map (λ (e : ℕ × HeldPage). e.0) o ≡ None → o ≡ None
none_of None e = refl
none_of (Some x) e = absurd (cc)

fresh_none : (c : View) → IsSound c → dropped c ≡ c → free_page c ≡ None → length (fresh_pages c) ≤ 0
fresh_none c sound clean none =
    omega (
      arith,
      length-map {B = ℕ × Bool} (filter (λ e. e.1.fresh) c.held) (λ e. (e.0, not (is_empty e.1.now))),
      count_below (λ h. h.fresh) c.held 0 sound.rises (λ n h there fresh. absurd (true≢false (sym (λ i. fresh i && is_empty ((as_it_was c n h clean there ∙ sound.fresh n h there fresh) i)) ∙ not_first (λ h. h.fresh && is_empty h.now) c.held n h (none_of _ none) there))),
    )

-- what is so of a Ctx is so of it without its edits
sized_given : (h : HeldPage) → (h.fresh ≡ true → h.given ≡ []) → IsSized h → IsSized (record h { now = h.given })
sized_given h sound is = record {
  given = is.given;
  bytes = is.given;
  long = λ some. by h.fresh refl some;
}
  where
    by : (b : Bool) → h.fresh ≡ b → h.given ≢ [] → length h.given ≡ cond h.fresh 4096 (length h.given)
    by true fresh some = absurd (some (sound fresh))
    by false fresh some = ap (λ b. cond b 4096 (length h.given)) (sym fresh)

ctx_dropped : (c : View) → IsCtx c → IsCtx (dropped c)
ctx_dropped c is = record {
  sound = IsSound-dropped c is.sound;
  sized = λ n h there. by n h (page_in c.held n) refl (sym (page_in-each (λ h. record h { now = h.given }) c.held n) ∙ there);
}
  where
    by : (n : ℕ) (h : HeldPage) (o : Option HeldPage) → page_in c.held n ≡ o → option_map (λ (h : HeldPage). record h { now = h.given }) o ≡ Some h → IsSized h
    by n h None there same = absurd (cc)
    by n h (Some g) there same = subst IsSized (same_Some (record g { now = g.given }) h same) (sized_given g (is.sound.fresh n g there) (is.sized n g there))

pub edits_before : (old new : View) (P : Pages) → dropped new ≡ old → dropped old ≡ old → IsCtx new → HoldsPart old P → edits_of old ≤ 0
edits_before old new P given clean ctx part = edits_of-none old P clean (subst IsCtx given (ctx_dropped new ctx)) part

-- ---- calls that change the pages
-- all but the call that makes an instance
pub record IsChanging (inst : Instance) (c : MethodCall) : Type 0 where
  pub before : (P : Pages) (rows : Rows) → Before heap_method inst c P rows → heap_rows inst.root inst.schema P ≡ Some rows
  pub old : (P : Pages) → NotNew inst c P
  pub cost : (rows : Rows) → heap_method.cost c rows ≡ 10

abbrev pub IsAsked : Instance → MethodCall → View → ℕ → Type 0
IsAsked inst c old n = (P : Pages) → HoldsPart old P → (rows : Rows) → heap_rows inst.root inst.schema P ≡ Some rows → heap_path inst.root P c n ≡ true

-- why such a call has no end yet
abbrev pub Stopped : Instance → MethodCall → View → View → Stop → Type 0
Stopped inst c old new stop.NoMemory = Unit {0}
Stopped inst c old new stop.Fresh = (new ≡ old) × (free_page old ≡ None)
Stopped inst c old new (stop.After low) = ⊥
Stopped inst c old new (stop.Need n) = (new ≡ old) × (page_of old n ≡ None) × IsAsked inst c old n
Stopped inst c old new (stop.Broken n) = (new ≡ old) × IsSome (page_of old n) × (breaks inst.schema inst.root (page_of old) n ≡ true)

pub broken_given : (inst : Instance) (old : View) (n : ℕ) → dropped old ≡ old → breaks inst.schema inst.root (page_of old) n ≡ true → breaks inst.schema inst.root (given_at old) n ≡ true
broken_given inst old n clean is = ap (λ h. breaks inst.schema inst.root h n) (given_now old clean) ∙ is

pub within_cost : (inst : Instance) (c : MethodCall) (old new : View) → IsChanging inst c → dropped old ≡ old → dropped new ≡ old → edits_of new ≤ edits_of old + 10 → IsCtx new → (P : Pages) → HoldsPart old P → (rows : Rows) → edits_of new ≤ heap_method.cost c rows
within_cost inst c old new is clean given edits ctx P part rows = omega (arith, edits, edits_before old new P given clean ctx part, is.cost rows)

fresh_room : (inst : Instance) (c : MethodCall) (old : View) (P : Pages) (rows : Rows) → IsSound old → dropped old ≡ old → HoldsPart old P → heap_rows inst.root inst.schema P ≡ Some rows → free_page old ≡ None → page_count P + length (fresh_pages old) < most_pages heap_method c (length rows)
fresh_room inst c old P rows sound clean part holds none =
    small (page_count P) (length (fresh_pages old)) (length rows) (rows_after c (length rows)) (formed_few inst.root inst.schema P rows (formed inst.root inst.schema P rows part.are_pages holds)) (fresh_none old sound clean none)
  where
    small : (p f n m : ℕ) → p ≤ n + 1 → f ≤ 0 → p + f < max (2 * n + 3) (2 * m + 3)
    small p f n m few none = omega (arith, few, none)

pub Changes-stop : (inst : Instance) (c : MethodCall) (old new : View) (s : Stop) → IsChanging inst c → dropped old ≡ old → dropped new ≡ old → edits_of new ≤ edits_of old + 10 → Stopped inst c old new s → Changes heap_method inst c old new (question_of s)
Changes-stop inst c old new stop.NoMemory is clean given edits stops = record {
  given = given;
  asks = tt;
  broken = tt;
  ends = tt;
  answers = λ P part. tt;
  spends = λ ctx P part rows before. record { path = tt; room = tt; gets = tt; edits = within_cost inst c old new is clean given edits ctx P part rows };
}
Changes-stop inst c old new stop.Fresh is clean given edits stops = record {
  given = given;
  asks = ap free_page stops.0 ∙ stops.1;
  broken = tt;
  ends = tt;
  answers = λ P part. tt;
  spends = λ ctx P part rows before. record {
    path = tt;
    room = subst (λ (v : View). page_count P + length (fresh_pages v) < most_pages heap_method c (length rows)) (sym stops.0) (fresh_room inst c old P rows (subst IsSound given (IsSound-dropped new ctx.sound)) clean part (is.before P rows before) stops.1);
    gets = GetsKey-picked heap_method inst c rows refl;
    edits = within_cost inst c old new is clean given edits ctx P part rows;
  };
}
Changes-stop inst c old new (stop.After low) is clean given edits stops = absurd stops
Changes-stop inst c old new (stop.Need n) is clean given edits stops = record {
  given = given;
  asks = ap (λ (v : View). page_of v n) stops.0 ∙ stops.1;
  broken = tt;
  ends = tt;
  answers = λ P part. tt;
  spends = λ ctx P part rows before. record { path = stops.2 P part rows (is.before P rows before); room = tt; gets = tt; edits = within_cost inst c old new is clean given edits ctx P part rows };
}
Changes-stop inst c old new (stop.Broken n) is clean given edits stops = record {
  given = given;
  asks = subst (λ (v : View). IsSome (page_of v n)) (sym stops.0) stops.1;
  broken = broken_given inst old n clean stops.2;
  ends = tt;
  answers = λ P part. is.old P;
  spends = λ ctx P part rows before. record { path = tt; room = tt; gets = tt; edits = within_cost inst c old new is clean given edits ctx P part rows };
}

pub Changes-tried : (inst : Instance) (c : MethodCall) (old new : View) (most : ℕ) → most ≤ 10 → IsChanging inst c → dropped old ≡ old → IsTried most old new → Changes heap_method inst c old new move.NoMemory
Changes-tried inst c old new most few is clean t = Changes-stop inst c old new stop.NoMemory is clean (t.given ∙ clean) (omega (arith, t.edits, few)) tt

pub Changes-memory : (inst : Instance) (c : MethodCall) (old : View) → IsChanging inst c → dropped old ≡ old → Changes heap_method inst c old old move.NoMemory
Changes-memory inst c old is clean = Changes-stop inst c old old stop.NoMemory is clean clean (omega arith) tt

-- ---- pages that are lacking
pub breaks_by : (schema : List Column) (root n : ℕ) (c : View) → n ≢ 0 → is_amiss schema (page_of c n) ≡ true → (has_bytes (page_of c n) && nat_lt n 65536 || is_linked root (page_of c) n) ≡ true → breaks schema root (page_of c) n ≡ true
breaks_by schema root n c some amiss why =
    and_from (not (nat_eq n 0) && is_amiss schema (page_of c n)) (has_bytes (page_of c n) && nat_lt n 65536 || is_linked root (page_of c) n)
    (and_from (not (nat_eq n 0)) (is_amiss schema (page_of c n)) (ap not (ne_eqb n 0 some)) amiss) why

pub Stopped-own : (inst : Instance) (c : MethodCall) (old : View) (page : ℕ) (s : Stop) → IsAsked inst c old page → OwnAmiss old page s → Stopped inst c old old s
Stopped-own inst c old page stop.NoMemory asked own = tt
Stopped-own inst c old page stop.Fresh asked own = absurd own.amiss
Stopped-own inst c old page (stop.After low) asked own = absurd own.amiss
Stopped-own inst c old page (stop.Need n) asked own = (refl, ap (page_of old) own.amiss.0 ∙ own.amiss.1, subst (IsAsked inst c old) (sym own.amiss.0) asked)
Stopped-own inst c old page (stop.Broken n) asked own = (
  refl,
  subst (λ m. IsSome (page_of old m)) (sym own.amiss.0) own.amiss.1,
  ap (breaks inst.schema inst.root (page_of old)) own.amiss.0
      ∙ breaks_by inst.schema inst.root page old own.some (own.amiss.2 inst.schema) (or_left (has_bytes (page_of old page) && nat_lt page 65536) (is_linked inst.root (page_of old) page) (and_from (has_bytes (page_of old page)) (nat_lt page 65536) (bytes_there (page_of old page) own.amiss.1 own.bytes) (lt-ltb page 65536 own.low))),
)
  where
    bytes_there : (o : Option (List ℕ)) → IsSome o → (o ≡ Some [] → ⊥) → has_bytes o ≡ true
    bytes_there None is none = absurd (true≢false (sym is))
    bytes_there (Some []) is none = absurd (none refl)
    bytes_there (Some (b ∷ bytes)) is none = refl

pub Stopped-lacks : (inst : Instance) (c : MethodCall) (old : View) (pages : List ℕ) (s : Stop) → ((n : ℕ) → has n pages ≡ true → n ≢ 0 → IsAsked inst c old n) → LacksOne old inst.root pages s → Stopped inst c old old s
Stopped-lacks inst c old pages stop.NoMemory asked l = tt
Stopped-lacks inst c old pages stop.Fresh asked l = absurd l.2.amiss
Stopped-lacks inst c old pages (stop.After low) asked l = absurd l.2.amiss
Stopped-lacks inst c old pages (stop.Need n) asked l = (refl, ap (page_of old) l.2.amiss.0 ∙ l.2.amiss.1, subst (IsAsked inst c old) (sym l.2.amiss.0) (asked l.0 l.1 l.2.some))
Stopped-lacks inst c old pages (stop.Broken n) asked l = (
  refl,
  subst (λ m. IsSome (page_of old m)) (sym l.2.amiss.0) l.2.amiss.1,
  ap (breaks inst.schema inst.root (page_of old)) l.2.amiss.0
      ∙ breaks_by inst.schema inst.root l.0 old l.2.some (l.2.amiss.2 inst.schema) (or_right (has_bytes (page_of old l.0) && nat_lt l.0 65536) (is_linked inst.root (page_of old) l.0) l.2.linked),
)

-- ---- held pages are those of the instance
pub held_is : (old : View) (P : Pages) (n : ℕ) → dropped old ≡ old → HoldsPart old P → IsSome (page_of old n) → held_node (page_of old n) ≡ nodes P n
held_is old P n clean part some = by (page_of old n) refl some
  where
    by : (o : Option (List ℕ)) → page_of old n ≡ o → IsSome o → held_node o ≡ nodes P n
    by None is some = absurd (true≢false (sym some))
    by (Some bytes) is some = ap node_of (sym (given-page old P n bytes clean part is))

some_page : (o : Option (List ℕ)) (x : Node) → held_node o ≡ Some x → IsSome o
some_page None x is = absurd (cc)
some_page (Some bytes) x is = refl

pub node_is : (old : View) (P : Pages) (n : ℕ) (x : Node) → dropped old ≡ old → HoldsPart old P → held_node (page_of old n) ≡ Some x → nodes P n ≡ Some x
node_is old P n x clean part is = sym (held_is old P n clean part (some_page (page_of old n) x is)) ∙ is

pub turn_for : (old : View) (P : Pages) (root : ℕ) (head : Head) (room : ℕ) (turn : Turn) → dropped old ≡ old → HoldsPart old P → IsTurn (held_node (page_of old root)) head room turn → IsTurn (nodes P root) head room turn
turn_for old P root head room Stays clean part is = is
turn_for old P root head room (Leaves before after) clean part is = is
turn_for old P root head room (Joins first) clean part is = by (held_node (page_of old root)) refl is
  where
    by : (o : Option Node) → held_node (page_of old root) ≡ o → IsTurn o head room (Joins first) → IsTurn (nodes P root) head room (Joins first)
    by None there is = absurd (true≢false (sym is.3))
    by (Some x) there is = subst (λ (o : Option Node). IsTurn o head room (Joins first)) (sym (node_is old P root x clean part there)) is

-- ---- what the pages hold then
pub holds_after : (inst : Instance) (old new : View) (P : Pages) (rows : Rows) (M : Nodes) (list : List ℕ) → dropped old ≡ old → HoldsPart old P → Formed inst.root inst.schema P rows → ((n : ℕ) → nodes (stored new P) n ≡ None → (stored new P n ≡ []) ⊎ (stored new P n ≡ stored old P n)) → nodes (stored new P) ≡ M → Heap inst.root inst.schema M list
    → heap_rows inst.root inst.schema (stored new P) ≡ Some (rows_in M 0 65536)
holds_after inst old new P rows M list clean part f bare is h =
    rows_from inst.root inst.schema (stored new P) list (subst (λ (N : Nodes). Heap inst.root inst.schema N list) (sym is) h) (λ n none. elim (bare n none) [
      | inl empty ↦ empty
      | inr kept ↦
          let same : stored new P n ≡ P n = kept ∙ ap (λ (Q : Pages). Q n) (stored-clean old P clean part) in
          same ∙ f.bare n (ap node_of (sym same) ∙ none)
    ])
    ∙ ap (λ (N : Nodes). Some (rows_in N 0 65536)) is
