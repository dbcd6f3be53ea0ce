-- A box that sets itself no bounds keeps to them.
use Rattle.std.proofs.Common.{◌≡◌, ℕ, ◌+◌, ◌≤◌, ◌<◌, Bool, true, false, cond, not, ◌&&◌, List, [], ◌∷◌, length, filter, map, Option, Some, None, sym, ap, subst, ◌∙◌, arith, ◌==◌, max, slice_get, suc, refl, true≢false, bytes_eq, nat_le, All}
use Rattle.std.specs.List.{range_with_len}
use Rattle.std.proofs.lemmas.Bool.{and_parts, cond-false}
use Rattle.std.proofs.lemmas.Bool.Decides.{nat_tests}
use Rattle.std.proofs.lemmas.List.{length-map, nil_from_length}
use Rattle.std.proofs.lemmas.List.Elements.{All-nil}
use Rattle.std.proofs.lemmas.List.Filters.{length-filter_both}
use Rattle.std.proofs.lemmas.List.FromFn.{length-range_with_len}
use Rattle.sb_value.specs.declared.value.Value.{Value}
use Rattle.sb_value.specs.Equal.{bytes_same}
use Rattle.sb_forms.specs.Content.{Content}
use Rattle.sb_forms.specs.Db.{Key, Rows}
use Rattle.sb_forms.specs.Fits.{is_empty}
use Rattle.sb_forms.specs.Keys.{Picked, is_record_key, keying_of, new_keys}
use Rattle.sb_forms.specs.Pages.{Pages, page_numbers, page_count}
use Rattle.sb_ctx.specs.declared.instance.Instance.{Instance}
use Rattle.sb_ctx.specs.declared.calls.MethodCall.{MethodCall}
use Rattle.sb_ctx.specs.declared.calls.AttachCall.{AttachCall}
use Rattle.sb_ctx.specs.declared.moves.Move.{Move}
use Rattle.sb_ctx.specs.declared.moves.Move.TheVariants as move
use Rattle.sb_ctx.specs.View.{HeldPage, View, held_at, page_of, free_page, is_edited, is_freed, edited_pages, fresh_pages, freed_pages, edits_of, dropped, HoldsPart}
use Rattle.sb_ctx.specs.Held.{Entries, Rises, page_in}
use Rattle.sb_ctx.proofs.HeldLaws.{Rises-below, Rises-tail, page_in-place}
use Rattle.sb_ctx.specs.Sized.{IsCtx}
use Rattle.sb_ctx.specs.declared.calls.AttachCall.TheVariants as call
use Rattle.sb_ctx.specs.declared.calls.MethodCall.TheVariants as method_call
use Rattle.sb_ctx.specs.Method.{Method, boundless, code_of}
use Rattle.sb_ctx.specs.MethodAnswers.{Answers, AsksFor, Changes, GetsKey, TakesFor, HasRoom, IsBroken, IsGiven, IsOnPath, MayEnd, most_pages, rows_after, IsIdleIfRefused, Spends, cost_of}
use Rattle.sb_ctx.specs.Attachment.{Attachment}
use Rattle.sb_ctx.specs.AttachAnswers.{Answers as AnswersFor, AsksFor as AsksForAttached, Changes as ChangesFor, Costs, IsBroken as IsBrokenFor, MayEnd as MayEndFor, IsOnPath as IsOnPathFor, Looks as LooksFor, most_pages as most_pages_for, Spends as SpendsFor}
use Rattle.sb_ctx.proofs.ViewLaws.{HoldsPart-from_dropped, as_it_was, stored-clean}

-- ---- rising numbers below a bound are no more than it
-- entries that pass have numbers from one on and below another
abbrev AllWithin : (HeldPage → Bool) → ℕ → ℕ → Entries → Type 0
AllWithin p low most held = (i : ℕ) (e : ℕ × HeldPage) → slice_get held i ≡ Some e → p e.1 ≡ true → (low ≤ e.0) × (e.0 < most)

count_within : (p : HeldPage → Bool) (held : Entries) (low most : ℕ) → Rises held → AllWithin p low most held → low ≤ most → length (filter (λ e. p e.1) held) + low ≤ most
count_within p [] low most rises all fits = omega arith
count_within p (x ∷ held) low most rises all fits =
    elim (p x.1) as (λ b. p x.1 ≡ b → length (cond b (x ∷ filter (λ e. p e.1) held) (filter (λ e. p e.1) held)) + low ≤ most) [
      | true ↦ λ passes.
          let first = all 0 x refl passes in
          let rest = count_within p held (x.0 + 1) most (Rises-tail x held rises) (λ i e is is_so. (omega (arith, Rises-below x held rises i e is), (all (suc i) e is is_so).1)) (omega (arith, first.1)) in
          omega (arith, first.0, rest)
      | false ↦ λ fails. count_within p held low most (Rises-tail x held rises) (λ i e is. all (suc i) e is) fits
    ] refl

pub count_below : (p : HeldPage → Bool) (held : Entries) (most : ℕ) → Rises held → ((n : ℕ) (h : HeldPage) → page_in held n ≡ Some h → p h ≡ true → n < most) → length (filter (λ e. p e.1) held) ≤ most
count_below p held most rises all =
    omega (arith, count_within p held 0 most rises (λ i e is is_so. (omega arith, all e.0 e.1 (page_in-place held i e rises is) is_so)) (omega arith))

-- and those of one number are at most one
pub count_of_one : (p : HeldPage → Bool) (held : Entries) (n : ℕ) → Rises held → ((m : ℕ) (h : HeldPage) → page_in held m ≡ Some h → p h ≡ true → m ≡ n) → length (filter (λ e. p e.1) held) ≤ 1
count_of_one p held n rises all =
    omega (arith, count_within p held n (n + 1) rises (λ i e is is_so. let same = all e.0 e.1 (page_in-place held i e rises is) is_so in (omega (arith, same), omega (arith, same))) (omega arith))

-- ---- of a Ctx of which nothing is made
abbrev taken_of : Entries → List (ℕ × Bool)
taken_of held = filter (λ (e : ℕ × Bool). e.1) (map (λ e. (e.0, not (is_empty e.1.now))) held)

-- the fresh pages that are taken
abbrev pub taken_entries : Entries → List (ℕ × Bool)
taken_entries held = taken_of (filter (λ e. e.1.fresh) held)

abbrev pub is_taken : ℕ × HeldPage → Bool
is_taken e = e.1.fresh && not (is_empty e.1.now)

pub length-taken : (held : Entries) → length (taken_entries held) ≡ length (filter is_taken held)
length-taken [] = refl
length-taken (e ∷ held) = listed e.1.fresh ∙ by e.1.fresh (not (is_empty e.1.now)) (taken_entries held) (filter is_taken held) (length-taken held)
  where
    fresh : Entries
    fresh = filter (λ x. x.1.fresh) held

    listed : (f : Bool) → length (taken_of (cond f (e ∷ fresh) fresh)) ≡ length (cond f (cond (not (is_empty e.1.now)) ((e.0, not (is_empty e.1.now)) ∷ taken_of fresh) (taken_of fresh)) (taken_of fresh))
    listed true = refl
    listed false = refl

    by : (f t : Bool) (xs : List (ℕ × Bool)) (ys : Entries) → length xs ≡ length ys → length (cond f (cond t ((e.0, t) ∷ xs) xs) xs) ≡ length (cond (f && t) (e ∷ ys) ys)
    by true true xs ys rest = ap suc rest
    by true false xs ys rest = rest
    by false t xs ys rest = rest

pub edits_of-clean : (c : View) → dropped c ≡ c → IsCtx c → edits_of c ≤ 0
edits_of-clean c clean is =
    let edited = count_below is_edited c.held 0 is.sound.rises (λ n h there edited. absurd (not_edited h (as_it_was c n h clean there) edited)) in
    let freed = count_below is_freed c.held 0 is.sound.rises (λ n h there freed. absurd (not_freed h (as_it_was c n h clean there) freed)) in
    let taken = count_below (λ h. h.fresh && not (is_empty h.now)) c.held 0 is.sound.rises (λ n h there taken. absurd (not_taken h (as_it_was c n h clean there) (is.sound.fresh n h there) taken)) in
    omega (arith, edited, freed, taken, length-taken c.held, length-map (filter (λ e. is_edited e.1) c.held) (λ e. e.0), length-map (filter (λ e. is_freed e.1) c.held) (λ e. e.0))
  where
    not_edited : (h : HeldPage) → h.now ≡ h.given → is_edited h ≡ true → ⊥
    not_edited h same is = true≢false (sym (and_parts (not (is_empty h.now)) (not (bytes_eq h.now h.given)) is).1 ∙ ap (λ bytes. not (bytes_eq h.now bytes)) (sym same) ∙ ap not ((bytes_same h.now h.now).1 refl))

    not_freed : (h : HeldPage) → h.now ≡ h.given → is_freed h ≡ true → ⊥
    not_freed h same is =
        let parts = and_parts (is_empty h.now) (not (is_empty h.given)) is in
        true≢false (sym parts.1 ∙ ap (λ bytes. not (is_empty bytes)) (sym same) ∙ ap not parts.0)

    not_taken : (h : HeldPage) → h.now ≡ h.given → (h.fresh ≡ true → h.given ≡ []) → (h.fresh && not (is_empty h.now)) ≡ true → ⊥
    not_taken h same none is =
        let parts = and_parts h.fresh (not (is_empty h.now)) is in
        true≢false (sym parts.1 ∙ ap (λ bytes. not (is_empty bytes)) (same ∙ none parts.0))

-- ---- of a Ctx that holds a part of some pages
-- a page that has bytes, or is fresh, is one of 65,536
numbered : (c : View) (P : Pages) (n : ℕ) (h : HeldPage) → IsCtx c → HoldsPart c P → held_at c n ≡ Some h → (h.now ≡ [] → h.given ≡ [] → ⊥) → n < 65536
numbered c P n h is part there some = by h.fresh refl
  where
    none_given : 65536 ≤ n → h.given ≡ []
    none_given far = sym (part.pages n h there) ∙ part.are_pages.below n far

    none_now : (now : List ℕ) → h.now ≡ now → h.fresh ≡ false → 65536 ≤ n → h.now ≡ []
    none_now [] e old far = e
    none_now (b ∷ now) e old far =
        nil_from_length h.now ((is.sized n h there).long (λ none. absurd (nonempty (sym e ∙ none))) ∙ ap (λ f. cond f 4096 (length h.given)) old ∙ ap length (none_given far))
      where
        nonempty : b ∷ now ≡ [] → ⊥
        nonempty e = cc

    by : (b : Bool) → h.fresh ≡ b → n < 65536
    by true fresh = part.fresh n h there fresh
    by false old = below n (λ far. some (none_now h.now refl old far) (none_given far))
      where
        below : (m : ℕ) → (65536 ≤ m → ⊥) → m < 65536
        below m not_far = elim (nat_le 65536 m) as (λ b. nat_le 65536 m ≡ b → m < 65536) [
          | true ↦ λ far. absurd (not_far (grind (arith, nat_tests, far)))
          | false ↦ λ near. grind (arith, nat_tests, near)
        ] refl

edited_few : (c : View) (P : Pages) → IsCtx c → HoldsPart c P → length (edited_pages c) ≤ 65536
edited_few c P is part =
    subst (λ n. n ≤ 65536) (sym (length-map (filter (λ e. is_edited e.1) c.held) (λ e. e.0)))
    (count_below is_edited c.held 65536 is.sound.rises (λ n h there edited. numbered c P n h is part there (λ none given. not_edited h none edited)))
  where
    not_edited : (h : HeldPage) → h.now ≡ [] → is_edited h ≡ true → ⊥
    not_edited h none edited = true≢false (sym edited ∙ ap (λ bytes. not (is_empty bytes) && not (bytes_eq bytes h.given)) none)

freed_few : (c : View) (P : Pages) → IsCtx c → HoldsPart c P → length (freed_pages c) ≤ 65536
freed_few c P is part =
    subst (λ n. n ≤ 65536) (sym (length-map (filter (λ e. is_freed e.1) c.held) (λ e. e.0)))
    (count_below is_freed c.held 65536 is.sound.rises (λ n h there freed. numbered c P n h is part there (λ none given. not_freed h given freed)))
  where
    not_freed : (h : HeldPage) → h.given ≡ [] → is_freed h ≡ true → ⊥
    not_freed h none freed = true≢false (sym freed ∙ ap (λ bytes. is_empty h.now && not (is_empty bytes)) none ∙ last (is_empty h.now))
      where
        last : (b : Bool) → (b && false) ≡ false
        last true = refl
        last false = refl

pub fresh_few : (c : View) (P : Pages) → IsCtx c → HoldsPart c P → length (fresh_pages c) ≤ 65536
fresh_few c P is part =
    subst (λ n. n ≤ 65536) (sym (length-map (filter (λ e. e.1.fresh) c.held) (λ e. (e.0, not (is_empty e.1.now)))))
    (count_below (λ h. h.fresh) c.held 65536 is.sound.rises part.fresh)

length_filter_most : {X : Type 0} (p : X → Bool) (xs : List X) → length (filter p xs) ≤ length xs
length_filter_most p xs = omega (arith, length-filter_both p (λ x. not (p x)) (λ x. refl) xs)

pub page_count-few : (P : Pages) → page_count P ≤ 65536
unfolding page_numbers
page_count-few P = omega (arith, length_filter_most (λ n. not (is_empty (P n))) (range_with_len 0 65536), length-range_with_len 0 65536)

pub edits_few : (c : View) (P : Pages) → IsCtx c → HoldsPart c P → edits_of c ≤ 196608
edits_few c P is part =
    omega (arith, edited_few c P is part, freed_few c P is part, fresh_few c P is part, length_filter_most (λ (e : ℕ × Bool). e.1) (fresh_pages c))

pub HasRoom-any : (c : View) (P : Pages) (made : Move) → IsCtx c → HoldsPart c P → HasRoom boundless P c made
HasRoom-any c P made is part = by made
  where
    few : page_count P + length (fresh_pages c) < boundless
    few = omega (arith, page_count-few P, fresh_few c P is part)

    by : (made : Move) → HasRoom boundless P c made
    by move.Fresh = few
    by _ = tt

-- ---- storage methods without bounds of their own
pub record IsBoundless (m : Method) : Type 0 where
  pub bound : (rows : ℕ) → m.bound rows ≡ boundless
  pub cost : (c : MethodCall) (rows : Rows) → m.cost c rows ≡ boundless
  pub path : (inst : Instance) (P : Pages) (c : MethodCall) (n : ℕ) → m.path inst P c n ≡ true
  pub picks : keying_of m.rules.code ≡ Picked

-- a method that picks its keys has one for every row
pub GetsKey-picked : (m : Method) (inst : Instance) (c : MethodCall) (rows : Rows) → keying_of m.rules.code ≡ Picked → GetsKey m inst c rows
GetsKey-picked m inst c rows picks = by c
  where
    given : (own : Option Key) (code : Key) → IsGiven (new_keys (keying_of m.rules.code) rows own code)
    given own code = subst (λ k. IsGiven (new_keys k rows own code)) (sym picks) tt

    by : (c : MethodCall) → GetsKey m inst c rows
    by (method_call.Insert row) = given None (code_of inst row)
    by (method_call.Update key row) = given (Some key) (code_of inst row)
    by _ = tt

TakesFor-picked : (m : Method) (inst : Instance) (c : MethodCall) (rows : Rows) (made : Move) → keying_of m.rules.code ≡ Picked → TakesFor m inst c rows made
TakesFor-picked m inst c rows move.Fresh picks = GetsKey-picked m inst c rows picks
TakesFor-picked m inst c rows _ picks = tt

pub IsOnPath-boundless : (m : Method) (inst : Instance) (c : MethodCall) (P : Pages) (made : Move) → IsBoundless m → IsOnPath m inst c P made
IsOnPath-boundless m inst c P made is = by made
  where
    by : (made : Move) → IsOnPath m inst c P made
    by (move.Need n) = is.path inst P c n
    by _ = tt

pub Spends-boundless : (m : Method) (inst : Instance) (c : MethodCall) (P : Pages) (rows : Rows) (old new : View) (made : Move) →
    IsBoundless m → IsIdleIfRefused new made → dropped new ≡ old → IsCtx new → HoldsPart old P → Spends m inst c P rows new made
Spends-boundless m inst c P rows old new made is idle given ctx part =
    let holds = HoldsPart-from_dropped new old P given part in
    record {
      path = IsOnPath-boundless m inst c P made is;
      room = subst (λ most. HasRoom most P new made) (sym most) (HasRoom-any new P made ctx holds);
      gets = TakesFor-picked m inst c rows made is.picks;
      edits = edits made idle (omega (arith, edits_few new P ctx holds));
    }
  where
    edits : (made : Move) → IsIdleIfRefused new made → edits_of new ≤ boundless → edits_of new ≤ cost_of m c rows made
    edits move.Duplicate idle few = idle
    edits move.Range idle few = idle
    edits move.NoRecord idle few = idle
    edits _ idle few = subst (λ most. edits_of new ≤ most) (sym (is.cost c rows)) few

    most : most_pages m c (length rows) ≡ boundless
    most = λ i. max (is.bound (length rows) i) (is.bound (rows_after c (length rows)) i)

-- ---- attachments without bounds of their own
pub record IsBoundlessFor (a : Attachment) : Type 0 where
  pub bound : (content : Content) → a.bound content ≡ boundless
  pub cost : (c : AttachCall) (before after : Content) → a.cost c before after ≡ boundless
  pub path : (inst : Instance) (P : Pages) (c : AttachCall) (n : ℕ) → a.path inst P c n ≡ true
  pub code : a.rules.code == 3 ≡ false

pub IsOnPath-boundless_for : (a : Attachment) (inst : Instance) (c : AttachCall) (P : Pages) (made : Move) → IsBoundlessFor a → IsOnPathFor a inst c P made
IsOnPath-boundless_for a inst c P made is = by made
  where
    by : (made : Move) → IsOnPathFor a inst c P made
    by (move.Need n) = is.path inst P c n
    by _ = tt

Costs-boundless : (a : Attachment) (inst : Instance) (c : AttachCall) (P : Pages) (before after : Content) (new : View) (made : Move) →
    IsBoundlessFor a → IsCtx new → HoldsPart new P → Costs a inst c P before after new made
Costs-boundless a inst c P before after new made is ctx holds = record {
  path = IsOnPath-boundless_for a inst c P made is;
  room = subst (λ most. HasRoom most P new made) (sym most) (HasRoom-any new P made ctx holds);
  edits = subst (λ most. edits_of new ≤ most) (sym (is.cost c before after)) (omega (arith, edits_few new P ctx holds));
}
  where
    most : most_pages_for a c before after ≡ boundless
    most = cond-false (a.rules.code == 3) (a.bound before + a.cost c before after) (max (a.bound before) (a.bound after)) is.code ∙ (λ i. max (is.bound before i) (is.bound after i))

pub Spends-boundless_for : (a : Attachment) (inst : Instance) (c : AttachCall) (P : Pages) (old new : View) (made : Move) →
    IsBoundlessFor a → dropped new ≡ old → IsCtx new → HoldsPart old P → SpendsFor a inst c old P new made
Spends-boundless_for a inst c P old new made is given ctx part = by c
  where
    costs : (c : AttachCall) (before after : Content) → Costs a inst c P before after new made
    costs c before after = Costs-boundless a inst c P before after new made is ctx (HoldsPart-from_dropped new old P given part)

    by : (c : AttachCall) → SpendsFor a inst c old P new made
    by call.Prepare = λ at rule db stands. costs call.Prepare _ _
    by (call.Build key row) = λ rule db stands built buckets before. costs (call.Build key row) _ _
    by (call.Changed change) = λ rule db stands buckets before. costs (call.Changed change) _ _
    by (call.Late entry) = λ rule db stands buckets before. IsOnPath-boundless_for a inst (call.Late entry) P made is
    by (call.NextEntry low above) = λ formed. IsOnPath-boundless_for a inst (call.NextEntry low above) P made is
    by call.Sums = λ formed. IsOnPath-boundless_for a inst call.Sums P made is
    by (call.Seek query) = λ formed. IsOnPath-boundless_for a inst (call.Seek query) P made is

-- ---- changing calls that make nothing, and answer over the pages as they are
pub Changes-idle : (m : Method) (inst : Instance) (c : MethodCall) (old : View) (made : Move) → IsBoundless m → dropped old ≡ old → AsksFor old made → IsBroken m inst old made → MayEnd inst c made
    → ((P : Pages) → HoldsPart old P → Answers m inst c P P made) → Changes m inst c old old made
Changes-idle m inst c old made is clean asks broken may ends = record {
  given = clean;
  asks = asks;
  broken = broken;
  ends = may;
  answers = λ P part. subst (λ (Q : Pages). Answers m inst c P Q made) (sym (stored-clean old P clean part)) (ends P part);
  spends = λ ctx P part rows before. Spends-boundless m inst c P rows old old made is (idle made (edits_of-clean old clean ctx)) clean ctx part;
}
  where
    idle : (made : Move) → edits_of old ≤ 0 → IsIdleIfRefused old made
    idle move.Duplicate none = none
    idle move.Range none = none
    idle move.NoRecord none = none
    idle _ none = tt

pub Changes-memory : (m : Method) (inst : Instance) (c : MethodCall) (old : View) → IsBoundless m → dropped old ≡ old → Changes m inst c old old move.NoMemory
Changes-memory m inst c old is clean = Changes-idle m inst c old move.NoMemory is clean tt tt tt (λ P part. tt)

pub Changes-need : (m : Method) (inst : Instance) (c : MethodCall) (old : View) (n : ℕ) → IsBoundless m → dropped old ≡ old → page_of old n ≡ None → Changes m inst c old old (move.Need n)
Changes-need m inst c old n is clean none = Changes-idle m inst c old (move.Need n) is clean none tt tt (λ P part. tt)

pub Changes-fresh : (m : Method) (inst : Instance) (c : MethodCall) (old : View) → IsBoundless m → dropped old ≡ old → free_page old ≡ None → Changes m inst c old old move.Fresh
Changes-fresh m inst c old is clean none = Changes-idle m inst c old move.Fresh is clean none tt tt (λ P part. tt)

-- the same of an attachment
pub Changes-idle_for : (a : Attachment) (inst : Instance) (c : AttachCall) (old : View) (made : Move) → IsBoundlessFor a → dropped old ≡ old → AsksForAttached old made → IsBrokenFor a inst old made → MayEndFor c made
    → ((P : Pages) → HoldsPart old P → AnswersFor a inst c old P P made) → ChangesFor a inst c old old made
Changes-idle_for a inst c old made is clean asks broken may ends = record {
  given = clean;
  asks = asks;
  broken = broken;
  ends = may;
  answers = λ P part. subst (λ (Q : Pages). AnswersFor a inst c old P Q made) (sym (stored-clean old P clean part)) (ends P part);
  spends = λ ctx P part. Spends-boundless_for a inst c P old old made is clean ctx part;
}

pub Changes-memory_for : (a : Attachment) (inst : Instance) (c : AttachCall) (old : View) → IsBoundlessFor a → dropped old ≡ old → ChangesFor a inst c old old move.NoMemory
Changes-memory_for a inst c old is clean = Changes-idle_for a inst c old move.NoMemory is clean tt tt tt (λ P part. tt)

pub Changes-need_for : (a : Attachment) (inst : Instance) (c : AttachCall) (old : View) (n : ℕ) → IsBoundlessFor a → dropped old ≡ old → page_of old n ≡ None → ChangesFor a inst c old old (move.Need n)
Changes-need_for a inst c old n is clean none = Changes-idle_for a inst c old (move.Need n) is clean none tt tt (λ P part. tt)

pub Changes-fresh_for : (a : Attachment) (inst : Instance) (c : AttachCall) (old : View) → IsBoundlessFor a → dropped old ≡ old → free_page old ≡ None → ChangesFor a inst c old old move.Fresh
Changes-fresh_for a inst c old is clean none = Changes-idle_for a inst c old move.Fresh is clean none tt tt (λ P part. tt)

-- a search of a box that finds no row in any content
pub Looks-no_hits : (a : Attachment) (inst : Instance) (query : List Value) (old : View) (keys : List Key) → ((content : Content) → a.hits content query ≡ []) → keys ≡ [] → LooksFor a inst (call.Seek query) old old (move.Hits keys)
Looks-no_hits a inst query old keys none is = record {
  same = refl;
  reads = tt;
  asks = tt;
  broken = tt;
  ends = subst (λ (ks : List Key). All (λ k. is_record_key k ≡ true) ks) (sym is) (All-nil (λ k. is_record_key k ≡ true));
  answers = λ P part content holds. ap move.Hits (is ∙ sym (none content));
  spends = λ P part formed. tt;
}
