-- Pieces behind one another: what goes on with which tokens, and what may follow it.
use Rattle.std.proofs.Common.{◌≡◌, ℕ, List, [], ◌∷◌, ◌++◌, refl, sym, ◌∙◌, ap, subst, inl, inr, Bool, true, false, Ok}
use Rattle.sb_language.specs.Lang.{◌⨾◌, ◌∣◌, none, items_up_to}
use Rattle.sb_language.specs.Reading.{Read, and_then, mapped, or_else}
use Rattle.sb_language.proofs.Front.{Reads, Parted, Tests, heads, reads_then}
use Rattle.sb_language.proofs.Choice.{Marked, Avoids, Image, Alike, reads_or, reads_image, reads_none, avoids_or}
use Rattle.sb_language.proofs.Parts.{Closed, Solid, Part, parted_closed, part_then, part_ended, part_or, part_image, same_cut, regrouped}
use Rattle.sb_language.proofs.Lists.{not_nil, parted_items}

-- which rows of tokens spell which value
abbrev pub Language : Type 0 → Type 0 → Type 1
Language T A = A → List T → Type 0

-- sentences go on only with tokens that pass
abbrev pub Goes : {T A : Type 0} → Language T A → (T → Bool) → Type 0
Goes {T} {A} P k = (a b : A) (us : List T) (h : T) (m : List T) → P a us → P b (us ++ h ∷ m) → k h ≡ true

-- ---- what may follow
pub parted_goes : {T A B : Type 0} (P : Language T A) (Q : Language T B) (k : T → Bool) → Goes P k → Avoids Q k → Parted P Q
parted_goes P Q k g v a a2 b us h m n x y z = let e = g a a2 us h m x y in let f = v b h n z in cc

pub goes_closed : {T A : Type 0} (P : Language T A) (k : T → Bool) → Closed P → Goes P k
goes_closed P k c a b us h m x y = absurd (c a b us h m x y)

-- ---- one behind the other
pub then_part : {T A B : Type 0} {P : Language T A} {Q : Language T B} {R : List T → Read T A} {S : List T → Read T B} → Part P R → Part Q S → Part (λ (x : A × B). P x.0 ⨾ Q x.1) (λ ts. and_then (R ts) S)
then_part {T} {A} {B} {P} {Q} {R} {S} f g = part_then P Q R S f g

pub then_reads : {T A B : Type 0} {P : Language T A} {Q : Language T B} {R : List T → Read T A} {S : List T → Read T B} → Part P R → Reads Q S → Reads (λ (x : A × B). P x.0 ⨾ Q x.1) (λ ts. and_then (R ts) S)
then_reads {T} {A} {B} {P} {Q} {R} {S} f g = reads_then P Q R S (parted_closed P Q f.closed) f.reads g

-- where the first may go on, but not with what the second begins with
pub ended_reads : {T A B : Type 0} {P : Language T A} {Q : Language T B} {R : List T → Read T A} {S : List T → Read T B} (k : T → Bool) → Reads P R → Goes P k → Avoids Q k → Reads Q S → Reads (λ (x : A × B). P x.0 ⨾ Q x.1) (λ ts. and_then (R ts) S)
ended_reads {T} {A} {B} {P} {Q} {R} {S} k f g v h = reads_then P Q R S (parted_goes P Q k g v) f h

pub ended_part : {T A B : Type 0} {P : Language T A} {Q : Language T B} {R : List T → Read T A} {S : List T → Read T B} → Reads P R → Parted P Q → Solid P → Part Q S → Part (λ (x : A × B). P x.0 ⨾ Q x.1) (λ ts. and_then (R ts) S)
ended_part {T} {A} {B} {P} {Q} {R} {S} f c s g = part_ended P Q R S c s f g

pub goes_then : {T A B : Type 0} (P : Language T A) (Q : Language T B) (k : T → Bool) → Closed P → Goes Q k → Goes (λ (x : A × B). P x.0 ⨾ Q x.1) k
goes_then P Q k c g a b us h m x y =
    let w = same_cut P a.0 b.0 x.front (x.back ++ h ∷ m) y.front y.back c x.is_front y.is_front (regrouped us x.front x.back y.front y.back (h ∷ m) x.whole y.whole) in
    g a.1 b.1 x.back h m x.is_back (subst (Q b.1) (sym w.1) y.is_back)

-- ---- other values
pub image_reads : {T A B : Type 0} {P : Language T A} {R : List T → Read T A} (f : A → B) → Reads P R → Reads (Image f P) (λ ts. mapped f (R ts))
image_reads {T} {A} {B} {P} {R} f g = reads_image f P R g

pub image_part : {T A B : Type 0} {P : Language T A} {R : List T → Read T A} (f : A → B) → Part P R → Part (Image f P) (λ ts. mapped f (R ts))
image_part {T} {A} {B} {P} {R} f g = part_image f P R g

pub goes_image : {T A B : Type 0} (f : A → B) (P : Language T A) (k : T → Bool) → Goes P k → Goes (Image f P) k
goes_image f P k g a b us h m x y = g x.source y.source us h m x.spelled y.spelled

pub goes_same : {T A : Type 0} (P Q : Language T A) (k : T → Bool) → Alike P Q → Goes P k → Goes Q k
goes_same P Q k s g a b us h m x y = g a b us h m (s.from a us x) (s.from b (us ++ h ∷ m) y)

-- ---- a choice
pub or_part : {T A : Type 0} {P Q : Language T A} {R S : List T → Read T A} (p : T → Bool) → Marked P p → Avoids Q p → Part P R → Part Q S → Part (λ a. P a ∣ Q a) (or_else p R S)
or_part {T} {A} {P} {Q} {R} {S} p k v f g = part_or P Q p R S k v f g

pub or_reads : {T A : Type 0} {P Q : Language T A} {R S : List T → Read T A} (p : T → Bool) → Marked P p → Avoids Q p → Reads P R → Reads Q S → Reads (λ a. P a ∣ Q a) (or_else p R S)
or_reads {T} {A} {P} {Q} {R} {S} p k v f g = reads_or P Q p R S k v f g

other : {T A : Type 0} (P Q : Language T A) (p : T → Bool) (a b : A) (u : T) (us vs : List T) → Marked P p → Avoids Q p → P a (u ∷ us) → Q b (u ∷ vs) → ⊥
other P Q p a b u us vs k w x y = let h = k.heads a (u ∷ us) x in let e : p u ≡ true = ap p (heads u h.0 us h.1 h.2) ∙ h.3 in let n = w b u vs y in cc

pub goes_or : {T A : Type 0} (P Q : Language T A) (p k : T → Bool) → Marked P p → Avoids Q p → Solid P → Solid Q → Goes P k → Goes Q k → Goes (λ a. P a ∣ Q a) k
goes_or P Q p k e w s v f g a b us t m (inl x) (inl y) = f a b us t m x y
goes_or P Q p k e w s v f g a b us t m (inr x) (inr y) = g a b us t m x y
goes_or P Q p k e w s v f g a b [] t m (inl x) (inr y) = absurd (s a x)
goes_or P Q p k e w s v f g a b (u ∷ us) t m (inl x) (inr y) = absurd (other P Q p a b u us (us ++ t ∷ m) e w x y)
goes_or P Q p k e w s v f g a b [] t m (inr x) (inl y) = absurd (v a x)
goes_or P Q p k e w s v f g a b (u ∷ us) t m (inr x) (inl y) = absurd (other P Q p b a u (us ++ t ∷ m) us e w y x)

pub solid_or : {T A : Type 0} (P Q : Language T A) → Solid P → Solid Q → Solid (λ a. P a ∣ Q a)
solid_or P Q s v a x = elim x as (λ _. ⊥) [ inl y ↦ s a y | inr y ↦ v a y ]

-- ---- something, or nothing
abbrev pub OrNone : {T A : Type 0} → A → Language T A → A → List T → Type 0
OrNone e P a = P a ∣ Image {A = Unit {0}} (λ _. e) (λ _. none) a

avoids_nothing : {T A : Type 0} (e : A) (p : T → Bool) → Avoids (Image {T = T} {A = Unit {0}} (λ _. e) (λ _. none)) p
avoids_nothing e p b t m x = let f = x.spelled in cc

pub maybe_reads : {T A : Type 0} {P : Language T A} {R : List T → Read T A} (p : T → Bool) (e : A) → Marked P p → Reads P R → Reads (OrNone e P) (or_else p R (λ ts. Ok (e, ts)))
maybe_reads {T} {A} {P} {R} p e k f = reads_or P (Image (λ _. e) (λ _. none)) p R (λ ts. Ok (e, ts)) k (avoids_nothing e p) f (reads_image (λ _. e) (λ _. none) (λ ts. Ok (tt, ts)) reads_none)

pub maybe_avoids : {T A : Type 0} (P : Language T A) (e : A) (p : T → Bool) → Avoids P p → Avoids (OrNone e P) p
maybe_avoids P e p v = avoids_or P (Image (λ _. e) (λ _. none)) p v (avoids_nothing e p)

first_passes : {T A : Type 0} (P : Language T A) (p k : T → Bool) → Marked P p → ((t : T) → p t ≡ true → k t ≡ true) → (b : A) (us : List T) (h : T) (m : List T) → us ≡ [] → P b (us ++ h ∷ m) → k h ≡ true
first_passes P p k e f b us h m n y =
    let w = e.heads b (h ∷ m) (subst (λ s. P b (s ++ h ∷ m)) n y) in
    f h (ap p (heads h w.0 m w.1 w.2) ∙ w.3)

pub maybe_goes : {T A : Type 0} (P : Language T A) (p k : T → Bool) (e : A) → Marked P p → ((t : T) → p t ≡ true → k t ≡ true) → Goes P k → Goes (OrNone e P) k
maybe_goes P p k e h f g a b us t m (inl x) (inl y) = g a b us t m x y
maybe_goes P p k e h f g a b us t m (inl x) (inr y) = absurd (not_nil us t m y.spelled)
maybe_goes P p k e h f g a b us t m (inr x) (inl y) = first_passes P p k h f b us t m x.spelled y
maybe_goes P p k e h f g a b us t m (inr x) (inr y) = absurd (not_nil us t m y.spelled)

-- ---- lists
passes_or : {T : Type 0} (k : T → Bool) (h : T) (b : Bool) → k h ≡ b → (k h ≡ false → ⊥) → k h ≡ true
passes_or k h true e f = e
passes_or k h false e f = absurd (f e)

-- a list goes on with its sign, where its items don't go on
pub goes_items : {T A : Type 0} (n : ℕ) (p : T → Bool) (t : T) (P : Language T A) → Tests p t → Closed P → Goes (items_up_to n t P) p
goes_items n p t P s c a b us h m x y =
    passes_or p h (p h) refl (λ e. parted_items n t h P c (λ f. let g = ap p f ∙ s.here in cc) a b tt us h m [] x y refl)
