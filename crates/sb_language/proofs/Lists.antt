-- Lists of items, each behind a sign.
use Rattle.std.proofs.Common.{◌≡◌, ℕ, zero, suc, ◌+◌, ◌<◌, ◌≤◌, List, [], ◌∷◌, ◌++◌, refl, sym, ◌∙◌, ap, subst, inl, inr, Bool, Ok, length, arith, length-append}
use Rattle.std.specs.List.{fold}
use Rattle.sb_language.specs.Lang.{◌⨾◌, ◌∣◌, none, just, more_items, items_up_to, many, grouped}
use Rattle.sb_language.specs.Reading.{Read, and_then, mapped, sign_at, or_else, more_at, items_at, grouped_at}
use Rattle.sb_language.proofs.Front.{Begins, Front, Reads, Parted, Next, Tests, heads, tails, then_at, reads_then, reads_as, reads_sign, some_then}
use Rattle.sb_language.proofs.Choice.{Avoids, Image, Alike, or_front, image_front, same_front, marked_sign, marked_image, reads_none}
use Rattle.sb_language.proofs.Parts.{Closed, Part, parted_closed, part_sign, same_cut, regrouped}

-- ---- one item more
abbrev Tail : {T A : Type 0} → (A → List T → Type 0) → (List A → List T → Type 0) → A × List A → List T → Type 0
Tail P L x = P x.0 ⨾ L x.1

abbrev Step : {T A : Type 0} → T → (A → List T → Type 0) → (List A → List T → Type 0) → Unit {0} × (A × List A) → List T → Type 0
Step t P L x = just t ⨾ Tail P L x.1

abbrev onto : {A : Type 0} → Unit {0} × (A × List A) → List A
onto x = x.1.0 ∷ x.1.1

abbrev empty : {A : Type 0} → Unit {0} → List A
empty x = []

abbrev End : {T : Type 0} → Unit {0} → List T → Type 0
End x = none

abbrev Either : {T A : Type 0} → T → (A → List T → Type 0) → (List A → List T → Type 0) → List A → List T → Type 0
Either t P L items = Image onto (Step t P L) items ∣ Image empty End items

-- what may follow an item: nothing, or the sign
pub record Follows {T A : Type 0} (t : T) (L : List A → List T → Type 0) : Type 0 where
  pub some : Begins L []
  pub sign : (items : List A) (h : T) (m : List T) → L items (h ∷ m) → h ≡ t

avoids_end : {T A : Type 0} (p : T → Bool) → Avoids (Image {T = T} {B = List A} empty End) p
avoids_end p b t m x = let e = x.spelled in cc

behind_sign : {T : Type 0} (ts taken us taken2 vs : List T) (t : T) → ts ≡ taken ++ us → taken ≡ t ∷ [] → us ≡ taken2 ++ vs → length vs < length ts
behind_sign ts taken us taken2 vs t w e x =
    let a : length ts ≡ length taken + length us = ap length w ∙ length-append taken us in
    let b : length us ≡ length taken2 + length vs = ap length x ∙ length-append taken2 vs in
    let c : length taken ≡ 1 = ap length e in
    omega arith

parted_follows : {T A : Type 0} (t : T) (P : A → List T → Type 0) (L : List A → List T → Type 0) → Follows t L → Parted P (λ (_ : Unit {0}). just t) → Parted P L
parted_follows t P L l parted a a2 b us h m n x y z = parted a a2 tt us h m [] x y (ap (λ s. s ∷ []) (l.sign b h n z))

front_step : {T A : Type 0} (p : T → Bool) (t : T) (P : A → List T → Type 0) (L : List A → List T → Type 0) (R : List T → Read T A) (M : List T → Read T (List A)) (ts : List T) → Tests p t → Follows t L → Parted P (λ (_ : Unit {0}). just t) → Reads P R →
    ((us : List T) → length us < length ts → Front L us (M us)) → Front (Step t P L) ts (and_then (sign_at p ts) (λ us. and_then (R us) M))
front_step p t P L R M ts h l parted f rest =
    then_at (λ (_ : Unit {0}). just t) (Tail P L) ts (sign_at p ts) (λ us. and_then (R us) M) (parted_closed (λ (_ : Unit {0}). just t) (Tail P L) (part_sign p t h).closed) (some_then P L f.some l.some) ((reads_sign p t h).front ts)
    (λ x us taken w e. then_at P L us (R us) M (parted_follows t P L l parted) l.some (f.front us) (λ a vs taken2 w2 y. rest vs (behind_sign ts taken us taken2 vs t w e w2)))

front_more : {T A : Type 0} (p : T → Bool) (t : T) (P : A → List T → Type 0) (L K : List A → List T → Type 0) (R : List T → Read T A) (M : List T → Read T (List A)) (ts : List T) → Tests p t → Follows t L → Alike (Either t P L) K → Parted P (λ (_ : Unit {0}). just t) → Reads P R →
    ((us : List T) → length us < length ts → Front L us (M us)) → Front K ts (or_else p (λ us. mapped onto (and_then (sign_at p us) (λ vs. and_then (R vs) M))) (λ us. Ok ([], us)) ts)
front_more {T} {A} p t P L K R M ts h l same parted f rest =
    let step : List T → Read T (List A) = λ us. mapped onto (and_then (sign_at p us) (λ vs. and_then (R vs) M)) in
    let stop : List T → Read T (List A) = λ us. Ok ([], us) in
    same_front (Either t P L) K ts (or_else p step stop ts) same
    (or_front (Image onto (Step t P L)) (Image empty End) p step stop ts (marked_image onto (Step t P L) p (marked_sign p t (Tail P L) h (some_then P L f.some l.some))) (avoids_end p)
    (image_front onto (Step t P L) ts (and_then (sign_at p ts) (λ vs. and_then (R vs) M)) (front_step p t P L R M ts h l parted f rest))
    (image_front empty End ts (Ok (tt, ts)) (reads_none.front ts)))

-- ---- up to n more items
sign_more : {T A : Type 0} (n : ℕ) (t : T) (P : A → List T → Type 0) (items : List A) (h : T) (m : List T) → more_items n t P items (h ∷ m) → h ≡ t
sign_more n t P [] h m x = cc
sign_more zero t P (a ∷ items) h m x = absurd x
sign_more (suc n) t P (a ∷ items) h m x = heads h t m x.back (x.whole ∙ ap (λ s. s ++ x.back) x.is_front)

follows_more : {T A : Type 0} (n : ℕ) (t : T) (P : A → List T → Type 0) → Follows t (more_items n t P)
follows_more n t P = record { some = record { value = []; more = []; spelled = refl }; sign = sign_more n t P }

to_more : {T A : Type 0} (n : ℕ) (t : T) (P : A → List T → Type 0) (items : List A) (us : List T) → Either t P (more_items n t P) items us → more_items (suc n) t P items us
to_more n t P items us (inl x) = subst (λ s. more_items (suc n) t P s us) (sym x.is) x.spelled
to_more n t P items us (inr x) = subst (λ s. more_items (suc n) t P s us) (sym x.is) x.spelled

from_more : {T A : Type 0} (n : ℕ) (t : T) (P : A → List T → Type 0) (items : List A) (us : List T) → more_items (suc n) t P items us → Either t P (more_items n t P) items us
from_more n t P [] us x = inr (record { source = tt; is = refl; spelled = x })
from_more n t P (a ∷ items) us x = inl (record { source = (tt, (a, items)); is = refl; spelled = x })

no_more : {T A : Type 0} (t : T) (P : A → List T → Type 0) (items : List A) (us : List T) → more_items zero t P items us → (items ≡ []) × (us ≡ [])
no_more t P [] us x = (refl, x)
no_more t P (a ∷ items) us x = absurd x

reads_more : {T A : Type 0} (n : ℕ) (p : T → Bool) (t : T) (P : A → List T → Type 0) (R : List T → Read T A) → Tests p t → Parted P (λ (_ : Unit {0}). just t) → Reads P R → Reads (more_items n t P) (more_at n p R)
unfolding more_at
reads_more zero p t P R h parted f = record {
  front = λ ts. record { taken = []; whole = refl; made = refl; only = λ b more n x. no_more t P b more x };
  some = (follows_more zero t P).some;
}
reads_more (suc n) p t P R h parted f = record {
  front = λ ts. front_more p t P (more_items n t P) (more_items (suc n) t P) R (more_at n p R) ts h (follows_more n t P) (record { to = to_more n t P; from = from_more n t P }) parted f (λ us l. (reads_more n p t P R h parted f).front us);
  some = (follows_more (suc n) t P).some;
}

-- ---- an item, and up to n more
cases_items : {T A : Type 0} (n : ℕ) (t : T) (P : A → List T → Type 0) (items : List A) (us : List T) → items_up_to n t P items us → (x : A × List A) × (items ≡ x.0 ∷ x.1) × (P x.0 ⨾ more_items n t P x.1) us
cases_items n t P [] us x = absurd x
cases_items n t P (a ∷ items) us x = ((a, items), refl, x)

pub reads_list : {T A : Type 0} (n : ℕ) (p : T → Bool) (t : T) (P : A → List T → Type 0) (R : List T → Read T A) → Tests p t → Parted P (λ (_ : Unit {0}). just t) → Reads P R → Reads (items_up_to n t P) (items_at n p R)
reads_list n p t P R h parted f =
    reads_as (λ (x : _ × List _). P x.0 ⨾ more_items n t P x.1) (items_up_to n t P) (λ ts. and_then (R ts) (more_at n p R)) (λ x. x.0 ∷ x.1) (λ x us s. s) (cases_items n t P)
    (reads_then P (more_items n t P) R (more_at n p R) (parted_follows t P (more_items n t P) (follows_more n t P) parted) f (reads_more n p t P R h parted f))

pub reads_items : {T A : Type 0} (n : ℕ) (p : T → Bool) (t : T) (P : A → List T → Type 0) (R : List T → Read T A) → Tests p t → Part P R → Reads (items_up_to n t P) (items_at n p R)
reads_items n p t P R h f = reads_list n p t P R h (parted_closed P (λ (_ : Unit {0}). just t) f.closed) f.reads

-- another sign ends the list
pub not_nil : {T : Type 0} (us : List T) (h : T) (m : List T) → us ++ h ∷ m ≡ [] → ⊥
not_nil [] h m e = cc
not_nil (u ∷ us) h m e = cc

-- what stands behind the sign
pub behind_first : {T : Type 0} (t u : T) (us front back back2 m : List T) → us ≡ front ++ back → front ≡ t ∷ [] → us ++ u ∷ m ≡ t ∷ back2 → back ++ u ∷ m ≡ back2
behind_first t u us front back back2 m w e x = tails t t (back ++ u ∷ m) back2 (sym (ap (λ s. s ++ u ∷ m) (w ∙ ap (λ s. s ++ back) e)) ∙ x)

pub sign_front : {T : Type 0} (t : T) (us front back : List T) → us ≡ front ++ back → front ≡ t ∷ [] → us ≡ t ∷ back
sign_front t us front back w e = w ∙ ap (λ s. s ++ back) e

more_ended : {T A : Type 0} (P : A → List T → Type 0) (t u : T) → Closed P → (u ≡ t → ⊥) → (n : ℕ) (items : List A) (us : List T) (k : ℕ) (others : List A) (m : List T) → more_items n t P items us → more_items k t P others (us ++ u ∷ m) → ⊥
more_ended P t u c d n [] us k [] m x y = not_nil us u m y
more_ended P t u c d n [] us zero (b ∷ others) m x y = y
more_ended P t u c d n [] us (suc k) (b ∷ others) m x y = d (heads u t m y.back (sym (ap (λ s. s ++ u ∷ m) x) ∙ sign_front t (us ++ u ∷ m) y.front y.back y.whole y.is_front))
more_ended P t u c d zero (a ∷ items) us k others m x y = x
more_ended P t u c d (suc n) (a ∷ items) us k [] m x y = not_nil us u m y
more_ended P t u c d (suc n) (a ∷ items) us zero (b ∷ others) m x y = y
more_ended P t u c d (suc n) (a ∷ items) us (suc k) (b ∷ others) m x y =
    let tail : x.back ++ u ∷ m ≡ y.back = behind_first t u us x.front x.back y.back m x.whole x.is_front (sign_front t (us ++ u ∷ m) y.front y.back y.whole y.is_front) in
    let v = x.is_back in
    let z = y.is_back in
    let w = same_cut P a b v.front (v.back ++ u ∷ m) z.front z.back c v.is_front z.is_front (regrouped x.back v.front v.back z.front z.back (u ∷ m) v.whole (tail ∙ z.whole)) in
    more_ended P t u c d n items v.back k others m v.is_back (subst (more_items k t P others) (sym w.1) z.is_back)

items_ended : {T A : Type 0} (P : A → List T → Type 0) (t u : T) → Closed P → (u ≡ t → ⊥) → (n : ℕ) (items : List A) (us : List T) (others : List A) (m : List T) → items_up_to n t P items us → items_up_to n t P others (us ++ u ∷ m) → ⊥
items_ended P t u c d n [] us others m x y = x
items_ended P t u c d n (a ∷ items) us [] m x y = y
items_ended P t u c d n (a ∷ items) us (b ∷ others) m x y =
    let w = same_cut P a b x.front (x.back ++ u ∷ m) y.front y.back c x.is_front y.is_front (regrouped us x.front x.back y.front y.back (u ∷ m) x.whole y.whole) in
    more_ended P t u c d n items x.back n others m x.is_back (subst (more_items n t P others) (sym w.1) y.is_back)

pub parted_items : {T A : Type 0} (n : ℕ) (t u : T) (P : A → List T → Type 0) → Closed P → (u ≡ t → ⊥) → Parted (items_up_to n t P) (λ (_ : Unit {0}). just u)
parted_items n t u P c d a a2 b us h m k x y z = let e = heads h u k [] z in items_ended P t h c (λ f. d (sym e ∙ f)) n a us a2 m x y

-- ---- any number of items
sign_many : {T A : Type 0} (t : T) (P : A → List T → Type 0) (items : List A) (h : T) (m : List T) → many t P items (h ∷ m) → h ≡ t
sign_many t P [] h m x = cc
sign_many t P (a ∷ items) h m x = heads h t m x.back (x.whole ∙ ap (λ s. s ++ x.back) x.is_front)

follows_many : {T A : Type 0} (t : T) (P : A → List T → Type 0) → Follows t (many t P)
follows_many t P = record { some = record { value = []; more = []; spelled = refl }; sign = sign_many t P }

to_many : {T A : Type 0} (t : T) (P : A → List T → Type 0) (items : List A) (us : List T) → Either t P (many t P) items us → many t P items us
to_many t P items us (inl x) = subst (λ s. many t P s us) (sym x.is) x.spelled
to_many t P items us (inr x) = subst (λ s. many t P s us) (sym x.is) x.spelled

from_many : {T A : Type 0} (t : T) (P : A → List T → Type 0) (items : List A) (us : List T) → many t P items us → Either t P (many t P) items us
from_many t P [] us x = inr (record { source = tt; is = refl; spelled = x })
from_many t P (a ∷ items) us x = inl (record { source = (tt, (a, items)); is = refl; spelled = x })

none_left : {T A : Type 0} (t : T) (P : A → List T → Type 0) (items : List A) (more : List T) → Next [] more → many t P items more → (items ≡ []) × (more ≡ [])
none_left t P [] more n x = (refl, x)
none_left t P (a ∷ items) [] n x = absurd (let e = sign_front t [] x.front x.back x.whole x.is_front in cc)
none_left t P (a ∷ items) (s ∷ more) n x = absurd n

-- there are no more items than tokens
front_many : {T A : Type 0} (n : ℕ) (p : T → Bool) (t : T) (P : A → List T → Type 0) (R : List T → Read T A) (ts : List T) → Tests p t → Parted P (λ (_ : Unit {0}). just t) → Reads P R → length ts ≤ n → Front (many t P) ts (more_at n p R ts)
unfolding more_at
front_many zero p t P R [] h parted f l = record { taken = []; whole = refl; made = refl; only = λ b more n x. none_left t P b more n x }
front_many zero p t P R (u ∷ ts) h parted f l = absurd (omega arith)
front_many (suc n) p t P R ts h parted f l =
    front_more p t P (many t P) (many t P) R (more_at n p R) ts h (follows_many t P) (record { to = to_many t P; from = from_many t P }) parted f (λ us s. front_many n p t P R us h parted f (omega arith))

pub reads_grouped : {T A : Type 0} (group : A → A → A) (p : T → Bool) (t : T) (P : A → List T → Type 0) (R : List T → Read T A) → Tests p t → Parted P (λ (_ : Unit {0}). just t) → Reads P R → Reads (grouped group t P) (grouped_at group p R)
reads_grouped group p t P R h parted f =
    let more : Reads (many t P) (λ us. more_at (length us) p R us) = record { front = λ us. front_many (length us) p t P R us h parted f (omega arith); some = (follows_many t P).some } in
    reads_as (λ (x : _ × List _). P x.0 ⨾ many t P x.1) (grouped group t P) (λ ts. and_then (R ts) (λ us. more_at (length us) p R us)) (λ x. fold group x.0 x.1)
    (λ x us s. record { first = x.0; others = x.1; is = refl; spelled = s }) (λ b us s. ((s.first, s.others), s.is, s.spelled))
    (reads_then P (many t P) R (λ us. more_at (length us) p R us) (parted_follows t P (many t P) (follows_many t P) parted) f more)
