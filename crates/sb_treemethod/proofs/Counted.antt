-- Numbers of pages counted, in lists and in a Ctx.
use Rattle.std.proofs.Common.{◌≡◌, ℕ, zero, suc, ◌+◌, ◌≤◌, ◌==◌, Bool, true, false, true≢false, cond, not, ◌&&◌, slice_get, List, [], ◌∷◌, ◌++◌, length, map, filter, Option, Some, None, option_map, refl, ap, sym, ◌∙◌, subst, arith, T, eq-eqb, eqb-true, inl, inr, length-append}
use Rattle.std.specs.List.{find as first, range_with_len}
use Rattle.std.specs.Str.{bytes_eq}
use Rattle.std.proofs.lemmas.Bool.{and_parts, not-true}
use Rattle.std.proofs.lemmas.List.{length-map}
use Rattle.std.proofs.lemmas.Option.{same_Some}
use Rattle.sb_relation.specs.Fits.{is_empty}
use Rattle.sb_forms.specs.Pages.{Pages, page_numbers, page_count}
use Rattle.sb_forms.specs.Tree.{Has, Apart}
use Rattle.sb_forms.specs.Read.{has}
use Rattle.sb_forms.specs.TreePages.{tree_met}
use Rattle.sb_ctx.specs.Held.{Entries, Rises, page_in}
use Rattle.sb_ctx.specs.Sound.{IsSound}
use Rattle.sb_ctx.specs.View.{HeldPage, View, held_at, free_page, fresh_pages, is_edited, is_freed, edits_of, as_given, dropped, HoldsPart, stored}
use Rattle.sb_ctx.proofs.BoundLaws.{count_below}
use Rattle.sb_ctx.proofs.HeldLaws.{Rises-below, Rises-tail, page_in-each, page_in-place, is_sorted-each}
use Rattle.sb_ctx.proofs.ViewLaws.{as_it_was, stored-page, HoldsPart-from_dropped}
use Rattle.sb_btree.specs.Spending.{taken_of}
use Rattle.sb_btree.proofs.Members.{has_is, has_either}
use Rattle.sb_btree.proofs.PageCounts.{no_more, pages_apart, pages_some}
use Rattle.sb_btree.proofs.Weights.{counted, edits_counted, is_taken, taken_counted}
use Rattle.sb_btree.proofs.Without.{same_bytes}

-- ---- two lists whose numbers stand apart
apart_both : (xs ys : List ℕ) → Apart xs → Apart ys → ((x : ℕ) → Has x xs → Has x ys → ⊥) → Apart (xs ++ ys)
apart_both [] ys one two none = two
apart_both (x ∷ xs) ys one two none = (
  (λ h. elim (has_either x xs ys h) [ inl a ↦ one.0 a | inr b ↦ none x (inl refl) b ]),
  apart_both xs ys one.1 two (λ z a b. none z (inr a) b),
)

-- ---- what is so of a Ctx is so of one that was given the same
given_in : (c d : View) (n : ℕ) → dropped c ≡ d → option_map as_given (page_in c.held n) ≡ page_in d.held n
given_in c d n is = sym (page_in-each as_given c.held n) ∙ ap (λ (v : View). page_in v.held n) is

pub sound_dropped : (c d : View) → dropped c ≡ d → IsSound c → IsSound d
sound_dropped c d is sound = record {
  rises = subst (λ (v : View). Rises v.held) is (subst T (sym (is_sorted-each as_given c.held)) sound.rises);
  fresh = λ n h there fresh. by n h fresh (page_in c.held n) refl (given_in c d n is ∙ there);
}
  where
    by : (n : ℕ) (h : HeldPage) → h.fresh ≡ true → (o : Option HeldPage) → page_in c.held n ≡ o → option_map as_given o ≡ Some h → h.given ≡ []
    by n h fresh None there e = absurd (cc)
    by n h fresh (Some g) there e =
        let same : as_given g ≡ h = same_Some (as_given g) h e in
        sym (ap (λ (x : HeldPage). x.given) same) ∙ sound.fresh n g there (ap (λ (x : HeldPage). x.fresh) same ∙ fresh)

pub sound_before : (c d : View) → dropped c ≡ d → IsSound d → IsSound c
sound_before c d is sound = record {
  rises = subst T (is_sorted-each as_given c.held) (subst (λ (v : View). Rises v.held) (sym is) sound.rises);
  fresh = λ n h there fresh. sound.fresh n (as_given h) (sym (given_in c d n is) ∙ ap (option_map as_given) there) fresh;
}

-- ---- a Ctx of which nothing was made counts no edits
none_counted : (p : HeldPage → Bool) (held : Entries) → Rises held → ((n : ℕ) (h : HeldPage) → page_in held n ≡ Some h → p h ≡ true → ⊥) → counted p held ≡ 0
none_counted p held rises none = let few = count_below p held 0 rises (λ n h at is. absurd (none n h at is)) in omega (arith, few)

not_edited : (h : HeldPage) → h.now ≡ h.given → is_edited h ≡ true → ⊥
not_edited h same is =
    true≢false (sym (and_parts (not (is_empty h.now)) (not (bytes_eq h.now h.given)) is).1 ∙ ap (λ bytes. not (bytes_eq h.now bytes)) (sym same) ∙ ap not (same_bytes h.now))

not_freed : (h : HeldPage) → h.now ≡ h.given → is_freed h ≡ true → ⊥
not_freed h same is =
    let both = and_parts (is_empty h.now) (not (is_empty h.given)) is in
    true≢false (sym both.1 ∙ ap (λ bytes. not (is_empty bytes)) (sym same) ∙ ap not both.0)

pub clean_taken : (c : View) → dropped c ≡ c → IsSound c → taken_of c ≡ 0
clean_taken c clean sound =
    taken_counted c.held ∙ none_counted is_taken c.held sound.rises
    (λ n h there is.
    let both = and_parts h.fresh (not (is_empty h.now)) is in
    true≢false (sym both.1 ∙ ap (λ bytes. not (is_empty bytes)) (as_it_was c n h clean there ∙ sound.fresh n h there both.0)))

pub clean_edits : (c : View) → dropped c ≡ c → IsSound c → edits_of c ≡ 0
clean_edits c clean sound =
    omega (
      arith,
      edits_counted c,
      none_counted is_edited c.held sound.rises (λ n h there is. not_edited h (as_it_was c n h clean there) is),
      none_counted is_freed c.held sound.rises (λ n h there is. not_freed h (as_it_was c n h clean there) is),
      taken_counted c.held,
      clean_taken c clean sound,
    )

-- ---- where no fresh page is left, all are taken
abbrev is_free : ℕ × HeldPage → Bool
is_free e = e.1.fresh && is_empty e.1.now

fresh_counted : (held : Entries) → option_map (λ (e : ℕ × HeldPage). e.0) (first is_free held) ≡ None → length (filter (λ e. e.1.fresh) held) ≡ counted is_taken held
fresh_counted [] none = refl
fresh_counted (e ∷ held) none = by e.1.fresh (is_empty e.1.now) none (fresh_counted held)
  where
    by : (f t : Bool) → option_map (λ (x : ℕ × HeldPage). x.0) (cond (f && t) (Some e) (first is_free held)) ≡ None
        → (option_map (λ (x : ℕ × HeldPage). x.0) (first is_free held) ≡ None → length (filter (λ x. x.1.fresh) held) ≡ counted is_taken held)
        → length (cond f (e ∷ filter (λ x. x.1.fresh) held) (filter (λ x. x.1.fresh) held)) ≡ length (cond (f && not t) (e ∷ filter (λ x. is_taken x.1) held) (filter (λ x. is_taken x.1) held))
    by true true is rest = absurd (cc)
    by true false is rest = ap suc (rest is)
    by false t is rest = rest is

pub all_taken : (c : View) → free_page c ≡ None → length (fresh_pages c) ≡ taken_of c
all_taken c none = length-map (filter (λ e. e.1.fresh) c.held) (λ e. (e.0, not (is_empty e.1.now))) ∙ fresh_counted c.held none ∙ sym (taken_counted c.held)

-- ---- the numbers of the taken pages
abbrev taken_numbers : Entries → List ℕ
taken_numbers held = map (λ e. e.0) (filter (λ e. is_taken e.1) held)

record TakenAt (held : Entries) (n : ℕ) : Type 0 where
  place : ℕ
  page : HeldPage
  there : slice_get held place ≡ Some (n, page)
  is : is_taken page ≡ true

taken_at : (held : Entries) (n : ℕ) → Has n (taken_numbers held) → TakenAt held n
taken_at [] n h = absurd h
taken_at (e ∷ held) n h = elim (is_taken e.1) as (λ b. is_taken e.1 ≡ b → Has n (map (λ (x : ℕ × HeldPage). x.0) (cond b (e ∷ filter (λ x. is_taken x.1) held) (filter (λ x. is_taken x.1) held))) → TakenAt (e ∷ held) n) [
  | true ↦ λ is g. elim g [ inl same ↦ record { place = 0; page = e.1; there = ap (λ (m : ℕ). Some (m, e.1)) (sym same); is = is } | inr r ↦ later (taken_at held n r) ]
  | false ↦ λ other g. later (taken_at held n g)
] refl h
  where
    later : TakenAt held n → TakenAt (e ∷ held) n
    later t = record { place = suc t.place; page = t.page; there = t.there; is = t.is }

taken_apart : (held : Entries) → Rises held → Apart (taken_numbers held)
taken_apart [] rises = tt
taken_apart (e ∷ held) rises = elim (is_taken e.1) as (λ b. Apart (map (λ (x : ℕ × HeldPage). x.0) (cond b (e ∷ filter (λ x. is_taken x.1) held) (filter (λ x. is_taken x.1) held)))) [
  | true ↦ ((λ h. let t = taken_at held e.0 h in let less = Rises-below e held rises t.place (e.0, t.page) t.there in omega (arith, less)), taken_apart held (Rises-tail e held rises))
  | false ↦ taken_apart held (Rises-tail e held rises)
]

-- The pages that there were and those that were taken are no more than a tree meets that meets them all.
pub grown_few : (root : ℕ) (c old : View) (P : Pages) → dropped c ≡ old → IsSound old → HoldsPart old P → ((n : ℕ) → is_empty (P n) ≡ false → has n (tree_met root (stored c P)) ≡ true)
    → ((n : ℕ) → is_empty (stored c P n) ≡ false → has n (tree_met root (stored c P)) ≡ true) → page_count P + taken_of c ≤ length (tree_met root (stored c P))
grown_few root c old P given sound part were now =
    let all = page_numbers P ++ taken_numbers c.held in
    let few = no_more all (tree_met root (stored c P)) (apart_both (page_numbers P) (taken_numbers c.held) (pages_apart P) (taken_apart c.held mine.rises) (λ n a b. no_page n (taken_at c.held n b) (pages_some P n a)))
    (λ n h. elim (has_either n (page_numbers P) (taken_numbers c.held) h) [ inl a ↦ has_is n (tree_met root (stored c P)) (were n (pages_some P n a)) | inr b ↦ has_is n (tree_met root (stored c P)) (now n (has_bytes n (taken_at c.held n b))) ]) in
    omega (arith, few, length-append (page_numbers P) (taken_numbers c.held), length-map (filter (λ e. is_taken e.1) c.held) (λ e. e.0), taken_counted c.held)
  where
    mine : IsSound c
    mine = sound_before c old given sound

    at : (n : ℕ) (t : TakenAt c.held n) → held_at c n ≡ Some t.page
    at n t = page_in-place c.held t.place (n, t.page) mine.rises t.there

    no_page : (n : ℕ) → TakenAt c.held n → is_empty (P n) ≡ false → ⊥
    no_page n t some =
        let fresh = (and_parts t.page.fresh (not (is_empty t.page.now)) t.is).0 in
        true≢false (sym (ap is_empty ((HoldsPart-from_dropped c old P given part).pages n t.page (at n t) ∙ mine.fresh n t.page (at n t) fresh)) ∙ some)

    has_bytes : (n : ℕ) → TakenAt c.held n → is_empty (stored c P n) ≡ false
    has_bytes n t =
        ap is_empty (stored-page c P n t.page.now (ap (option_map (λ (h : HeldPage). h.now)) (at n t))) ∙ not-true (is_empty t.page.now) (and_parts t.page.fresh (not (is_empty t.page.now)) t.is).1
