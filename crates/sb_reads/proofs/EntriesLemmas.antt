-- Entries that are read one after the other, in rising order.
use Rattle.std.proofs.Common.{◌≡◌, Bool, true, false, not, ◌&&◌, cond, List, [], ◌∷◌, ◌++◌, Option, Some, None, refl, sym, ap, subst, ◌∙◌, append_assoc, append-nil, Ordering, Less, Equal, Greater, is_lt}
use Rattle.std.specs.List.{filter, find}
use Rattle.std.specs.Cmp.{IsTotalOrder}
use Rattle.std.specs.Ordering.{is_le, ordering_then, ordering_reverse}
use Rattle.std.proofs.lemmas.Cmp.{nat_list_cmp_total, alike_right, on_total, then_total, tied_itself}
use Rattle.sb_value.specs.Order.{bytes_cmp}
use Rattle.sb_value.proofs.Truths.{is_lt-less}
use Rattle.sb_relation.specs.Content.{are_rising}
use Rattle.sb_relation.specs.Db.{Key}
use Rattle.sb_relation.specs.Images.{Entry, is_before}
use Rattle.sb_ctx.specs.AttachAnswers.{is_entry_above}
use Rattle.sb_ctx.specs.declared.moves.Move.{Move}
use Rattle.sb_ctx.specs.declared.moves.Move.TheVariants.{Entry as Entered}
use Rattle.sb_reads.specs.Entries.{entry_in, is_behind, is_beyond, is_within}

-- ---- tests
both : (a b : Bool) → a && b ≡ true → (a ≡ true) × (b ≡ true)
both true b is = (refl, is)
both false b is = absurd (cc)

and_true : (a b : Bool) → b ≡ true → a && b ≡ a
and_true true b is = is
and_true false b is = refl

and_false : (a b : Bool) → b ≡ false → a && b ≡ false
and_false true b is = is
and_false false b is = refl

same_Some : {A : Type 0} (a b : A) → Some a ≡ Some b → a ≡ b
same_Some a b e = cc

-- what is found passes, and where nothing is found nothing passes
pub found-passes : {A : Type 0} (p : A → Bool) (xs : List A) (x : A) → find p xs ≡ Some x → p x ≡ true
found-passes {A} p [] x is = absurd (cc)
found-passes {A} p (y ∷ xs) x is = by (p y) refl is (found-passes p xs x)
  where
    by : (b : Bool) → p y ≡ b → cond b (Some y) (find p xs) ≡ Some x → (find p xs ≡ Some x → p x ≡ true) → p x ≡ true
    by true passes is rest = ap p (sym (same_Some y x is)) ∙ passes
    by false passes is rest = rest is

filter-none : {A : Type 0} (p : A → Bool) (xs : List A) → find p xs ≡ None → filter p xs ≡ []
filter-none {A} p [] is = refl
filter-none {A} p (y ∷ xs) is = by (p y) is (filter-none p xs)
  where
    by : (b : Bool) → cond b (Some y) (find p xs) ≡ None → (find p xs ≡ None → filter p xs ≡ []) → cond b (y ∷ filter p xs) (filter p xs) ≡ []
    by true is rest = absurd (cc)
    by false is rest = rest is

-- where all pass, all are kept
pub filter-all : {A : Type 0} (p : A → Bool) → ((x : A) → p x ≡ true) → (xs : List A) → filter p xs ≡ xs
filter-all p each [] = refl
filter-all p each (x ∷ xs) = ap (λ b. cond b (x ∷ filter p xs) (filter p xs)) (each x) ∙ ap (λ (ys : List _). x ∷ ys) (filter-all p each xs)

pub filter-alike : {A : Type 0} (p q : A → Bool) → ((x : A) → p x ≡ q x) → (xs : List A) → filter p xs ≡ filter q xs
filter-alike p q each [] = refl
filter-alike p q each (x ∷ xs) = λ i. cond (each x i) (x ∷ filter-alike p q each xs i) (filter-alike p q each xs i)

-- ---- the order of entries
abbrev entry_cmp : Entry → Entry → Ordering
entry_cmp a b = ordering_then (bytes_cmp a.0 b.0) (bytes_cmp a.1 b.1)

entry_total : IsTotalOrder entry_cmp
entry_total = then_total (on_total (λ (e : Entry). e.0) nat_list_cmp_total) (on_total (λ (e : Entry). e.1) nat_list_cmp_total)

before-trans : (a b c : Entry) → is_before a b ≡ true → is_before b c ≡ true → is_before a c ≡ true
before-trans a b c ab bc = ap is_lt (entry_total.trans a b c (is_lt-less (entry_cmp a b) ab) (is_lt-less (entry_cmp b c) bc))

before-itself : (a : Entry) → is_before a a ≡ false
before-itself a = ap is_lt (tied_itself entry_total a)

before-back : (a b : Entry) → is_before a b ≡ true → is_before b a ≡ false
before-back a b is = ap is_lt (entry_total.antisymm b a ∙ ap ordering_reverse (is_lt-less (entry_cmp a b) is))

-- ---- all behind an entry
all_after : Entry → List Entry → Bool
all_after e [] = true
all_after e (f ∷ es) = is_before e f && all_after e es

after-weaker : (e f : Entry) (es : List Entry) → is_before e f ≡ true → all_after f es ≡ true → all_after e es ≡ true
unfolding all_after
after-weaker e f [] before after = refl
after-weaker e f (x ∷ es) before after =
    let parts = both (is_before f x) (all_after f es) after in
    ap (λ b. b && all_after e es) (before-trans e f x before parts.0) ∙ after-weaker e f es before parts.1

-- of rising entries
record Rises (e : Entry) (es : List Entry) : Type 0 where
  after : all_after e es ≡ true
  rising : are_rising es ≡ true

Rises-first : (e : Entry) (es : List Entry) → are_rising (e ∷ es) ≡ true → Rises e es
unfolding all_after
Rises-first e [] rising = record { after = refl; rising = refl }
Rises-first e (f ∷ es) rising =
    let parts = both (is_before e f) (are_rising (f ∷ es)) rising in
    let rest = Rises-first f es parts.1 in
    record { after = ap (λ b. b && all_after e es) parts.0 ∙ after-weaker e f es parts.0 rest.after; rising = parts.1 }

-- one that is found among those behind another is behind it
after-found : (p : Entry → Bool) (x : Entry) (es : List Entry) (e : Entry) → all_after x es ≡ true → find p es ≡ Some e → is_before x e ≡ true
unfolding all_after
after-found p x [] e after is = absurd (cc)
after-found p x (y ∷ es) e after is =
    let parts = both (is_before x y) (all_after x es) after in
    by (p y) is parts.0 (after-found p x es e parts.1)
  where
    by : (b : Bool) → cond b (Some y) (find p es) ≡ Some e → is_before x y ≡ true → (find p es ≡ Some e → is_before x e ≡ true) → is_before x e ≡ true
    by true is before rest = subst (λ (f : Entry). is_before x f ≡ true) (same_Some y e is) before
    by false is before rest = rest is

-- ---- those behind the one that was read last
-- one that is above is behind the other
behind-above : (low : Key) (after x y : Entry) → is_entry_above low (Some after) x ≡ true → is_before x y ≡ true → is_before after y ≡ true
behind-above low after x y above before = before-trans after x y (both (not (is_lt (bytes_cmp x.0 low))) (is_before after x) above).1 before

above-alike : (low : Key) (last : Option Entry) (x y : Entry) → is_entry_above low last x ≡ true → is_before x y ≡ true → is_entry_above low last y ≡ is_entry_above low (Some x) y
above-alike low None x y above before = sym (and_true (not (is_lt (bytes_cmp y.0 low))) (is_before x y) before)
above-alike low (Some after) x y above before =
    and_true (not (is_lt (bytes_cmp y.0 low))) (is_before after y) (behind-above low after x y above before)
    ∙ sym (and_true (not (is_lt (bytes_cmp y.0 low))) (is_before x y) before)

filter-above : (low : Key) (last : Option Entry) (x : Entry) (es : List Entry) → is_entry_above low last x ≡ true → all_after x es ≡ true → filter (is_entry_above low last) es ≡ filter (is_entry_above low (Some x)) es
unfolding all_after
filter-above low last x [] above after = refl
filter-above low last x (y ∷ es) above after =
    let parts = both (is_before x y) (all_after x es) after in
    let rest = filter-above low last x es above parts.1 in
    ap (λ b. cond b (y ∷ filter (is_entry_above low last) es) (filter (is_entry_above low last) es)) (above-alike low last x y above parts.0)
    ∙ ap (λ (ys : List Entry). cond (is_entry_above low (Some x) y) (y ∷ ys) ys) rest

-- the first one, and those behind it
above-next : (low : Key) (last : Option Entry) (es : List Entry) (e : Entry) → are_rising es ≡ true → find (is_entry_above low last) es ≡ Some e →
    filter (is_entry_above low last) es ≡ e ∷ filter (is_entry_above low (Some e)) es
above-next low last [] e rising is = absurd (cc)
above-next low last (x ∷ es) e rising is = by (is_entry_above low last x) refl is (above-next low last es e (Rises-first x es rising).rising)
  where
    rest : Rises x es
    rest = Rises-first x es rising

    not_above : (f : Entry) → is_before f x ≡ false → filter (is_entry_above low (Some f)) (x ∷ es) ≡ filter (is_entry_above low (Some f)) es
    not_above f before = ap (λ b. cond b (x ∷ filter (is_entry_above low (Some f)) es) (filter (is_entry_above low (Some f)) es)) (and_false (not (is_lt (bytes_cmp x.0 low))) (is_before f x) before)

    by : (b : Bool) → is_entry_above low last x ≡ b → cond b (Some x) (find (is_entry_above low last) es) ≡ Some e →
        (find (is_entry_above low last) es ≡ Some e → filter (is_entry_above low last) es ≡ e ∷ filter (is_entry_above low (Some e)) es) →
        cond b (x ∷ filter (is_entry_above low last) es) (filter (is_entry_above low last) es) ≡ e ∷ filter (is_entry_above low (Some e)) (x ∷ es)
    by true above is next =
        subst (λ (f : Entry). x ∷ filter (is_entry_above low last) es ≡ f ∷ filter (is_entry_above low (Some f)) (x ∷ es)) (same_Some x e is)
        (ap (λ (ys : List Entry). x ∷ ys) (filter-above low last x es above rest.after ∙ sym (not_above x (before-itself x))))
    by false above is next =
        next is
        ∙ ap (λ (ys : List Entry). e ∷ ys) (sym (not_above e (before-back x e (after-found (is_entry_above low last) x es e rest.after is))))

-- ---- those within two codes
beyond-later : (high : Option Key) (e y : Entry) → is_beyond high e.0 ≡ true → is_before e y ≡ true → is_beyond high y.0 ≡ true
beyond-later None e y beyond before = absurd (cc)
beyond-later (Some high) e y beyond before = by (bytes_cmp e.0 y.0) refl before
  where
    below : bytes_cmp high e.0 ≡ Less
    below = is_lt-less (bytes_cmp high e.0) beyond

    by : (o : Ordering) → bytes_cmp e.0 y.0 ≡ o → is_lt (ordering_then o (bytes_cmp e.1 y.1)) ≡ true → is_lt (bytes_cmp high y.0) ≡ true
    by Less is before = ap is_lt (nat_list_cmp_total.trans high e.0 y.0 below is)
    by Equal is before = ap is_lt (sym (alike_right nat_list_cmp_total e.0 y.0 high is) ∙ below)
    by Greater is before = absurd (cc)

not_within : (low : Key) (high : Option Key) (y : Entry) → is_beyond high y.0 ≡ true → is_within low high y ≡ false
not_within low high y beyond = and_false (is_entry_above low None y) (not (is_beyond high y.0)) (ap not beyond)

-- none of those behind one that is beyond
within-none : (low : Key) (high : Option Key) (e : Entry) (es : List Entry) → is_beyond high e.0 ≡ true → filter (is_within low high) (filter (is_entry_above low (Some e)) es) ≡ []
within-none low high e [] beyond = refl
within-none low high e (y ∷ es) beyond = by (is_entry_above low (Some e) y) refl (within-none low high e es beyond)
  where
    rest : List Entry
    rest = filter (is_entry_above low (Some e)) es

    by : (b : Bool) → is_entry_above low (Some e) y ≡ b → filter (is_within low high) rest ≡ [] → filter (is_within low high) (cond b (y ∷ rest) rest) ≡ []
    by true above none =
        ap (λ b. cond b (y ∷ filter (is_within low high) rest) (filter (is_within low high) rest))
        (not_within low high y (beyond-later high e y beyond (both (not (is_lt (bytes_cmp y.0 low))) (is_before e y) above).1))
        ∙ none
    by false above none = none

-- all that are within are above the low code
within-above : (low : Key) (high : Option Key) (es : List Entry) → filter (is_within low high) (filter (is_entry_above low None) es) ≡ filter (is_within low high) es
within-above low high [] = refl
within-above low high (y ∷ es) = by (is_entry_above low None y) refl (within-above low high es)
  where
    rest : List Entry
    rest = filter (is_entry_above low None) es

    by : (b : Bool) → is_entry_above low None y ≡ b → filter (is_within low high) rest ≡ filter (is_within low high) es → filter (is_within low high) (cond b (y ∷ rest) rest) ≡ filter (is_within low high) (y ∷ es)
    by true above same = ap (λ (ys : List Entry). cond (is_within low high y) (y ∷ ys) ys) same
    by false above same =
        same
        ∙ sym (ap (λ b. cond (b && not (is_beyond high y.0)) (y ∷ filter (is_within low high) es) (filter (is_within low high) es)) above)

-- ---- what is read
-- With those that come behind the last one that was read, it makes all.
pub record IsRead (low : Key) (high : Option Key) (es : List Entry) (last : Option Entry) (found : List Entry) : Type 0 where
  pub rest : found ++ filter (is_within low high) (filter (is_entry_above low last) es) ≡ filter (is_within low high) es

pub IsRead-none : (low : Key) (high : Option Key) (es : List Entry) (found : List Entry) → found ≡ [] → IsRead low high es None found
IsRead-none low high es found none = record { rest = ap (λ (xs : List Entry). xs ++ filter (is_within low high) (filter (is_entry_above low None) es)) none ∙ within-above low high es }

above-low : (low : Key) (last : Option Entry) (e : Entry) → is_entry_above low last e ≡ true → is_entry_above low None e ≡ true
above-low low None e above = above
above-low low (Some after) e above = (both (not (is_lt (bytes_cmp e.0 low))) (is_before after e) above).0

-- one more
pub IsRead-next : (low : Key) (high : Option Key) (es : List Entry) (last : Option Entry) (found new : List Entry) (e : Entry) → are_rising es ≡ true → find (is_entry_above low last) es ≡ Some e → is_beyond high e.0 ≡ false →
    new ≡ found ++ e ∷ [] → IsRead low high es last found → IsRead low high es (Some e) new
IsRead-next low high es last found new e rising is beyond more before =
    let rest = filter (is_within low high) (filter (is_entry_above low (Some e)) es) in
    let above = above-low low last e (found-passes (is_entry_above low last) es e is) in
    let within : is_within low high e ≡ true = and_true (is_entry_above low None e) (not (is_beyond high e.0)) (ap not beyond) ∙ above in
    record {
      rest = ap (λ (xs : List Entry). xs ++ rest) more ∙ append_assoc found (e ∷ []) rest
          ∙ ap (λ (xs : List Entry). found ++ xs)
          (sym (ap (filter (is_within low high)) (above-next low last es e rising is) ∙ ap (λ b. cond b (e ∷ rest) rest) within))
          ∙ before.rest;
    }

-- no more, or only some beyond
pub IsRead-end : (low : Key) (high : Option Key) (es : List Entry) (last : Option Entry) (found : List Entry) → find (is_entry_above low last) es ≡ None → IsRead low high es last found →
    found ≡ filter (is_within low high) es
IsRead-end low high es last found is before =
    sym (append-nil found) ∙ ap (λ (xs : List Entry). found ++ filter (is_within low high) xs) (sym (filter-none (is_entry_above low last) es is)) ∙ before.rest

pub IsRead-beyond : (low : Key) (high : Option Key) (es : List Entry) (last : Option Entry) (found : List Entry) (e : Entry) → are_rising es ≡ true → find (is_entry_above low last) es ≡ Some e → is_beyond high e.0 ≡ true →
    IsRead low high es last found → found ≡ filter (is_within low high) es
IsRead-beyond low high es last found e rising is beyond before =
    let rest = filter (is_within low high) (filter (is_entry_above low (Some e)) es) in
    sym (append-nil found)
    ∙ ap (λ (xs : List Entry). found ++ xs)
    (sym (ap (filter (is_within low high)) (above-next low last es e rising is) ∙ ap (λ b. cond b (e ∷ rest) rest) (not_within low high e beyond) ∙ within-none low high e es beyond))
    ∙ before.rest

-- ---- the whole, and between two codes
not_below : (a : Key) → not (is_lt (bytes_cmp a [])) ≡ true
not_below [] = refl
not_below (x ∷ a) = refl

pub within-all : (es : List Entry) → filter (is_within [] None) es ≡ es
within-all es = filter-all (is_within [] None) (λ e. ap (λ b. b && true) (not_below e.0)) es

not_lt-le : (a b : Key) → not (is_lt (bytes_cmp a b)) ≡ is_le (bytes_cmp b a)
not_lt-le a b = ap (λ o. not (is_lt o)) (nat_list_cmp_total.antisymm a b) ∙ by (bytes_cmp b a)
  where
    by : (o : Ordering) → not (is_lt (ordering_reverse o)) ≡ is_le o
    by Less = refl
    by Equal = refl
    by Greater = refl

pub within-between : (low high : Key) (es : List Entry) → filter (is_within low (Some high)) es ≡ filter (λ e. is_le (bytes_cmp low e.0) && is_le (bytes_cmp e.0 high)) es
within-between low high es =
    filter-alike (is_within low (Some high)) (λ e. is_le (bytes_cmp low e.0) && is_le (bytes_cmp e.0 high))
    (λ e. λ i. not_lt-le e.0 low i && not_lt-le high e.0 i) es

-- an entry that is found is behind the other
pub behind-found : (low : Key) (after : Option Entry) (es : List Entry) (move : Move) → find (is_entry_above low after) es ≡ entry_in move → is_behind after move ≡ true
behind-found low None es move is = refl
behind-found low (Some after) es (Entered first second) is =
    (both (not (is_lt (bytes_cmp first low))) (is_before after (first, second)) (found-passes (is_entry_above low (Some after)) es (first, second) is)).1
behind-found low (Some after) es move is = refl
