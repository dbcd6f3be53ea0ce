-- A choice by the first token.
use Rattle.std.proofs.Common.{◌≡◌, List, [], ◌∷◌, ◌++◌, refl, sym, ◌∙◌, ap, subst, inl, inr, Bool, true, false, cond, Ok, Err}
use Rattle.sb_language.specs.Lang.{◌⨾◌, ◌∣◌, none, just}
use Rattle.sb_language.specs.Reading.{Read, mapped, starts, or_else}
use Rattle.sb_language.proofs.Front.{Begins, left, Next, Same, Front, Reads, Tests, heads, as_read, reads_as}

-- each sentence begins with a token that passes a test, and each such token begins one
pub record Marked {T A : Type 0} (P : A → List T → Type 0) (p : T → Bool) : Type 0 where
  pub heads : (a : A) (us : List T) → P a us → (t : T) × (m : List T) × (us ≡ t ∷ m) × (p t ≡ true)
  pub first : (t : T) → p t ≡ true → Begins P (t ∷ [])

-- no sentence begins with one
abbrev pub Avoids : {T A : Type 0} → (A → List T → Type 0) → (T → Bool) → Type 0
Avoids {T} {A} P p = (a : A) (t : T) (m : List T) → P a (t ∷ m) → p t ≡ false

both_ways : {T : Type 0} (p : T → Bool) (t s : T) → t ≡ s → p t ≡ true → p s ≡ false → ⊥
both_ways p t s e y n = cc

-- ---- the second, where the first token doesn't pass
no_start : {T : Type 0} (p : T → Bool) (ts rest : List T) (t s : T) → ts ≡ t ∷ rest → starts p ts ≡ false → t ≡ s → p s ≡ true → ⊥
no_start p ts rest t s w n e y = both_ways p s t (sym e) y (sym (ap (starts p) w) ∙ n)

no_mark : {T : Type 0} (p : T → Bool) (ts taken rest more m : List T) (t : T) → ts ≡ taken ++ rest → starts p ts ≡ false → Next rest more → taken ++ more ≡ t ∷ m → p t ≡ true → ⊥
no_mark p ts [] [] [] m t w n x e y = cc
no_mark p ts [] [] (s ∷ more) m t w n x e y = x
no_mark p ts [] (u ∷ rest) [] m t w n x e y = cc
no_mark p ts [] (u ∷ rest) (s ∷ more) m t w n x e y = no_start p ts rest u t w n (x ∙ heads s t more m e) y
no_mark p ts (u ∷ taken) rest more m t w n x e y = no_start p ts (taken ++ rest) u t w n (heads u t (taken ++ more) m e) y

not_first : {T A : Type 0} (P : A → List T → Type 0) (p : T → Bool) (ts taken rest more : List T) (a : A) → Marked P p → ts ≡ taken ++ rest → starts p ts ≡ false → Next rest more → P a (taken ++ more) → ⊥
not_first P p ts taken rest more a k w n x y = let h = k.heads a (taken ++ more) y in no_mark p ts taken rest more h.1 h.0 w n x h.2 h.3

front_other : {T A : Type 0} (P Q : A → List T → Type 0) (p : T → Bool) (ts : List T) (r : Read T A) → Marked P p → starts p ts ≡ false → Front Q ts r → Front (λ a. P a ∣ Q a) ts r
front_other P Q p ts (Ok x) k n f = record {
  taken = f.taken;
  whole = f.whole;
  made = inr f.made;
  only = λ b more next q. elim q as (λ _. Same (Ok x) b more) [ inl y ↦ absurd (not_first P p ts f.taken x.1 more b k f.whole n next y) | inr y ↦ f.only b more next y ];
}
front_other P Q p ts (Err l) k n f = record {
  taken = f.taken;
  whole = f.whole;
  made = record { value = f.made.value; more = f.made.more; spelled = inr f.made.spelled };
  only = λ b more next q. elim q as (λ _. ⊥) [ inl y ↦ not_first P p ts f.taken l more b k f.whole n next y | inr y ↦ f.only b more next y ];
}

-- ---- the first, where it passes: a reader takes a token that begins a sentence
same_none : {T A : Type 0} (r : Read T A) (b : A) (t : T) (m : List T) → Same r b (t ∷ m) → ⊥
same_none (Ok x) b t m s = let e = s.1 in cc
same_none (Err l) b t m s = s

taken_at : {T A : Type 0} (P Q : A → List T → Type 0) (p : T → Bool) (t : T) (ts taken : List T) (r : Read T A) (b : A) (more : List T) → Marked P p → Avoids Q p → p t ≡ true → t ∷ ts ≡ taken ++ left r →
    ((a : A) (m : List T) → Next (left r) m → P a (taken ++ m) → Same r a m) → Next (left r) more → Q b (taken ++ more) → ⊥
taken_at P Q p t ts [] r b more k v e w only n y =
    let first = k.first t e in
    same_none r first.value t first.more (only first.value (t ∷ first.more) (subst (λ s. Next s (t ∷ first.more)) w refl) first.spelled)
taken_at P Q p t ts (u ∷ taken) r b more k v e w only n y = both_ways p t u (heads t u ts (taken ++ left r) w) e (v b u (taken ++ more) y)

not_second : {T A : Type 0} (P Q : A → List T → Type 0) (p : T → Bool) (t : T) (ts : List T) (r : Read T A) (b : A) (more : List T) → Marked P p → Avoids Q p → p t ≡ true → (f : Front P (t ∷ ts) r) → Next (left r) more → Q b (f.taken ++ more) → ⊥
not_second P Q p t ts r b more k v e f n y = taken_at P Q p t ts f.taken r b more k v e f.whole f.only n y

front_chosen : {T A : Type 0} (P Q : A → List T → Type 0) (p : T → Bool) (t : T) (ts : List T) (r : Read T A) → Marked P p → Avoids Q p → p t ≡ true → Front P (t ∷ ts) r → Front (λ a. P a ∣ Q a) (t ∷ ts) r
front_chosen P Q p t ts (Ok x) k v e f = record {
  taken = f.taken;
  whole = f.whole;
  made = inl f.made;
  only = λ b more n q. elim q as (λ _. Same (Ok x) b more) [ inl y ↦ f.only b more n y | inr y ↦ absurd (not_second P Q p t ts (Ok x) b more k v e f n y) ];
}
front_chosen P Q p t ts (Err l) k v e f = record {
  taken = f.taken;
  whole = f.whole;
  made = record { value = f.made.value; more = f.made.more; spelled = inl f.made.spelled };
  only = λ b more n q. elim q as (λ _. ⊥) [ inl y ↦ f.only b more n y | inr y ↦ not_second P Q p t ts (Err l) b more k v e f n y ];
}

-- ---- both
either_front : {T A : Type 0} (P Q : A → List T → Type 0) (p : T → Bool) (t : T) (ts : List T) (passes : Bool) (r s : Read T A) → Marked P p → Avoids Q p → p t ≡ passes → Front P (t ∷ ts) r → Front Q (t ∷ ts) s → Front (λ a. P a ∣ Q a) (t ∷ ts) (cond passes r s)
either_front P Q p t ts true r s k v e f g = front_chosen P Q p t ts r k v e f
either_front P Q p t ts false r s k v e f g = front_other P Q p (t ∷ ts) s k e g

pub or_front : {T A : Type 0} (P Q : A → List T → Type 0) (p : T → Bool) (R S : List T → Read T A) (ts : List T) → Marked P p → Avoids Q p → Front P ts (R ts) → Front Q ts (S ts) → Front (λ a. P a ∣ Q a) ts (or_else p R S ts)
or_front P Q p R S [] k v f g = front_other P Q p [] (S []) k refl g
or_front P Q p R S (t ∷ ts) k v f g = either_front P Q p t ts (p t) (R (t ∷ ts)) (S (t ∷ ts)) k v refl f g

pub reads_or : {T A : Type 0} (P Q : A → List T → Type 0) (p : T → Bool) (R S : List T → Read T A) → Marked P p → Avoids Q p → Reads P R → Reads Q S → Reads (λ a. P a ∣ Q a) (or_else p R S)
reads_or P Q p R S k v f g = record {
  front = λ ts. or_front P Q p R S ts k v (f.front ts) (g.front ts);
  some = record { value = g.some.value; more = g.some.more; spelled = inr g.some.spelled };
}

-- ---- the values of one language as those of another
pub record Image {T A B : Type 0} (f : A → B) (P : A → List T → Type 0) (b : B) (us : List T) : Type 0 where
  pub source : A
  pub is : b ≡ f source
  pub spelled : P source us

pub image_front : {T A B : Type 0} (f : A → B) (P : A → List T → Type 0) (ts : List T) (r : Read T A) → Front P ts r → Front (Image f P) ts (mapped f r)
image_front f P ts r h = as_read P (Image f P) f ts r (λ a us x. record { source = a; is = refl; spelled = x }) (λ b us x. (x.source, x.is, x.spelled)) h

pub reads_image : {T A B : Type 0} (f : A → B) (P : A → List T → Type 0) (R : List T → Read T A) → Reads P R → Reads (Image f P) (λ ts. mapped f (R ts))
reads_image f P R h = reads_as P (Image f P) R f (λ a us x. record { source = a; is = refl; spelled = x }) (λ b us x. (x.source, x.is, x.spelled)) h

pub marked_image : {T A B : Type 0} (f : A → B) (P : A → List T → Type 0) (p : T → Bool) → Marked P p → Marked (Image f P) p
marked_image f P p k = record {
  heads = λ b us x. k.heads x.source us x.spelled;
  first = λ t e. let s = k.first t e in record { value = f s.value; more = s.more; spelled = record { source = s.value; is = refl; spelled = s.spelled } };
}

pub avoids_image : {T A B : Type 0} (f : A → B) (P : A → List T → Type 0) (p : T → Bool) → Avoids P p → Avoids (Image f P) p
avoids_image f P p v b t m x = v x.source t m x.spelled

pub avoids_or : {T A : Type 0} (P Q : A → List T → Type 0) (p : T → Bool) → Avoids P p → Avoids Q p → Avoids (λ a. P a ∣ Q a) p
avoids_or P Q p v w a t m x = elim x [ inl y ↦ v a t m y | inr y ↦ w a t m y ]

-- ---- no token
pub reads_none : {T : Type 0} → Reads {T = T} {A = Unit {0}} (λ _. none) (λ ts. Ok (tt, ts))
reads_none = record { front = λ ts. record { taken = []; whole = refl; made = refl; only = λ b more n q. (refl, q) }; some = record { value = tt; more = []; spelled = refl } }

-- ---- one language for another with the same sentences
pub record Alike {T A : Type 0} (P Q : A → List T → Type 0) : Type 0 where
  pub to : (a : A) (us : List T) → P a us → Q a us
  pub from : (a : A) (us : List T) → Q a us → P a us

pub same_front : {T A : Type 0} (P Q : A → List T → Type 0) (ts : List T) (r : Read T A) → Alike P Q → Front P ts r → Front Q ts r
same_front P Q ts (Ok x) s f = record { taken = f.taken; whole = f.whole; made = s.to x.0 f.taken f.made; only = λ b more n q. f.only b more n (s.from b (f.taken ++ more) q) }
same_front P Q ts (Err l) s f = record {
  taken = f.taken;
  whole = f.whole;
  made = record { value = f.made.value; more = f.made.more; spelled = s.to f.made.value (f.taken ++ f.made.more) f.made.spelled };
  only = λ b more n q. f.only b more n (s.from b (f.taken ++ more) q);
}

pub reads_same : {T A : Type 0} (P Q : A → List T → Type 0) (R : List T → Read T A) → Alike P Q → Reads P R → Reads Q R
reads_same P Q R s f = record {
  front = λ ts. same_front P Q ts (R ts) s (f.front ts);
  some = record { value = f.some.value; more = f.some.more; spelled = s.to f.some.value f.some.more f.some.spelled };
}

pub marked_same : {T A : Type 0} (P Q : A → List T → Type 0) (p : T → Bool) → Alike P Q → Marked P p → Marked Q p
marked_same P Q p s k = record {
  heads = λ a us x. k.heads a us (s.from a us x);
  first = λ t e. let f = k.first t e in record { value = f.value; more = f.more; spelled = s.to f.value (t ∷ f.more) f.spelled };
}

pub avoids_same : {T A : Type 0} (P Q : A → List T → Type 0) (p : T → Bool) → Alike P Q → Avoids P p → Avoids Q p
avoids_same P Q p s v a t m x = v a t m (s.from a (t ∷ m) x)

-- ---- what begins with one token
pub marked_sign : {T B : Type 0} (p : T → Bool) (t : T) (Q : B → List T → Type 0) → Tests p t → Begins Q [] → Marked (λ (x : Unit {0} × B). just t ⨾ Q x.1) p
marked_sign p t Q h some = record {
  heads = λ x us s. (t, s.back, s.whole ∙ ap (λ v. v ++ s.back) s.is_front, h.here);
  first = λ s e. record {
    value = (tt, some.value);
    more = some.more;
    spelled = record { front = t ∷ []; back = some.more; is_front = refl; is_back = some.spelled; whole = ap (λ x. x ∷ some.more) (h.alone s e) };
  };
}

pub marked_alone : {T : Type 0} (p : T → Bool) (t : T) → Tests p t → Marked (λ (_ : Unit {0}). just t) p
marked_alone p t h = record { heads = λ a us x. (t, [], x, h.here); first = λ s e. record { value = tt; more = []; spelled = ap (λ x. x ∷ []) (h.alone s e) } }

pub avoids_sign : {T B : Type 0} (p : T → Bool) (t : T) (Q : B → List T → Type 0) → p t ≡ false → Avoids (λ (x : Unit {0} × B). just t ⨾ Q x.1) p
avoids_sign p t Q e x u m s = ap p (heads u t m s.back (s.whole ∙ ap (λ v. v ++ s.back) s.is_front)) ∙ e

-- the first token of a pair is that of its first part
avoids_front : {T A : Type 0} (P : A → List T → Type 0) (p : T → Bool) (a : A) (t : T) (m front back : List T) → (P a [] → ⊥) → Avoids P p → P a front → t ∷ m ≡ front ++ back → p t ≡ false
avoids_front P p a t m [] back s v x e = absurd (s x)
avoids_front P p a t m (u ∷ front) back s v x e = ap p (heads t u m (front ++ back) e) ∙ v a u front x

pub avoids_then : {T A B : Type 0} (P : A → List T → Type 0) (Q : B → List T → Type 0) (p : T → Bool) → ((a : A) → P a [] → ⊥) → Avoids P p → Avoids (λ (x : A × B). P x.0 ⨾ Q x.1) p
avoids_then P Q p s v x t m y = avoids_front P p x.0 t m y.front y.back (s x.0) v y.is_front y.whole
