-- Parts of a language: none of their sentences is empty, and none goes on.
use Rattle.std.proofs.Common.{◌≡◌, List, [], ◌∷◌, ◌++◌, sym, ◌∙◌, ap, subst, append_assoc, inl, inr, Bool, true, Option, IfSome}
use Rattle.std.proofs.lemmas.List.{append-nil}
use Rattle.sb_language.specs.Lang.{◌⨾◌, ◌∣◌, just}
use Rattle.sb_language.specs.Reading.{Read, and_then, mapped, token_at, sign_at, or_else}
use Rattle.sb_language.proofs.Front.{Begins, Reads, Parted, heads, cut, reads_then, reads_token, reads_sign, Picks, Tests, Single, longer_single}
use Rattle.sb_language.proofs.Choice.{Marked, Avoids, reads_or, Image, reads_image, Alike, reads_same}

abbrev pub Closed : {T A : Type 0} → (A → List T → Type 0) → Type 0
Closed {T} {A} P = (a b : A) (us : List T) (h : T) (m : List T) → P a us → P b (us ++ h ∷ m) → ⊥

abbrev pub Solid : {T A : Type 0} → (A → List T → Type 0) → Type 0
Solid {T} {A} P = (a : A) → P a [] → ⊥

pub record Part {T A : Type 0} (P : A → List T → Type 0) (R : List T → Read T A) : Type 0 where
  pub reads : Reads P R
  pub closed : Closed P
  pub solid : Solid P

pub parted_closed : {T A B : Type 0} (P : A → List T → Type 0) (Q : B → List T → Type 0) → Closed P → Parted P Q
parted_closed P Q c a a2 b us h m n x y z = c a a2 us h m x y

-- ---- one token
closed_single : {T A : Type 0} (P : A → List T → Type 0) → Single P → Closed P
closed_single P one a b us h m x y = let w = one a us x in let v = one b (us ++ h ∷ m) y in longer_single us w.0 v.0 h m w.1 v.1

solid_single : {T A : Type 0} (P : A → List T → Type 0) → Single P → Solid P
solid_single P one a x = let w = one a [] x in let e = w.1 in cc

pub part_token : {T A : Type 0} (P : A → List T → Type 0) (pick : T → Option A) → Begins P [] → ((t : T) → IfSome (pick t) (λ a. P a (t ∷ []))) → Picks P pick → Part P (token_at pick)
part_token P pick some given picks =
    let single : Single P = λ a us x. let w = picks a us x in (w.0, w.1) in
    record { reads = reads_token P pick some given picks; closed = closed_single P single; solid = solid_single P single }

pub part_sign : {T : Type 0} (p : T → Bool) (t : T) → Tests p t → Part (λ (_ : Unit {0}). just t) (sign_at p)
part_sign {T} p t h =
    let single : Single {T = T} {A = Unit {0}} (λ _. just t) = λ a us x. (t, x) in
    record { reads = reads_sign p t h; closed = closed_single {A = Unit {0}} (λ _. just t) single; solid = solid_single {A = Unit {0}} (λ _. just t) single }

-- ---- one behind the other
pub regrouped : {T : Type 0} (us f g f2 g2 more : List T) → us ≡ f ++ g → us ++ more ≡ f2 ++ g2 → f ++ (g ++ more) ≡ f2 ++ g2
regrouped us f g f2 g2 more e w = sym (append_assoc f g more) ∙ sym (ap (λ s. s ++ more) e) ∙ w

longer_cut : {T A : Type 0} (P : A → List T → Type 0) (a b : A) (x y x2 y2 d : List T) → Closed P → P a x → P b x2 → x ≡ x2 ++ d → d ++ y ≡ y2 → (x ≡ x2) × (y ≡ y2)
longer_cut P a b x y x2 y2 [] c p q e f = (e ∙ append-nil x2, f)
longer_cut P a b x y x2 y2 (h ∷ d) c p q e f = absurd (c b a x2 h d q (subst (P a) e p))

-- a sentence that doesn't go on ends at one place
pub same_cut : {T A : Type 0} (P : A → List T → Type 0) (a b : A) (x y x2 y2 : List T) → Closed P → P a x → P b x2 → x ++ y ≡ x2 ++ y2 → (x ≡ x2) × (y ≡ y2)
same_cut P a b x y x2 y2 c p q e = elim (cut x y x2 y2 e) as (λ _. (x ≡ x2) × (y ≡ y2)) [
  | inl w ↦ longer_cut P a b x y x2 y2 w.0 c p q w.1 w.2
  | inr w ↦ absurd (c a b x w.0 w.1 p (subst (P b) w.2 q))
]

closed_pair : {T A B : Type 0} (P : A → List T → Type 0) (Q : B → List T → Type 0) → Closed P → Closed Q → Closed (λ (x : A × B). P x.0 ⨾ Q x.1)
closed_pair P Q c d a b us h m x y =
    let w = same_cut P a.0 b.0 x.front (x.back ++ h ∷ m) y.front y.back c x.is_front y.is_front (regrouped us x.front x.back y.front y.back (h ∷ m) x.whole y.whole) in
    d a.1 b.1 x.back h m x.is_back (subst (Q b.1) (sym w.1) y.is_back)

no_pair : {T A : Type 0} (P : A → List T → Type 0) (a : A) (front back : List T) → Solid P → P a front → [] ≡ front ++ back → ⊥
no_pair P a [] back s p e = s a p
no_pair P a (u ∷ front) back s p e = cc

pub solid_pair : {T A B : Type 0} (P : A → List T → Type 0) (Q : B → List T → Type 0) → Solid P → Solid (λ (x : A × B). P x.0 ⨾ Q x.1)
solid_pair P Q s a x = no_pair P a.0 x.front x.back s x.is_front x.whole

pub part_then : {T A B : Type 0} (P : A → List T → Type 0) (Q : B → List T → Type 0) (R : List T → Read T A) (S : List T → Read T B) → Part P R → Part Q S → Part (λ (x : A × B). P x.0 ⨾ Q x.1) (λ ts. and_then (R ts) S)
part_then P Q R S f g = record { reads = reads_then P Q R S (parted_closed P Q f.closed) f.reads g.reads; closed = closed_pair P Q f.closed g.closed; solid = solid_pair P Q f.solid }

-- where the first may go on, but not with what ends it
longer_then : {T A B : Type 0} (P : A → List T → Type 0) (Q : B → List T → Type 0) (a a2 : A) (b b2 : B) (xf xb yf yb m d : List T) (h : T) → Parted P Q → Closed Q → P a xf → Q b xb → P a2 yf → Q b2 yb → xf ≡ yf ++ d → d ++ (xb ++ h ∷ m) ≡ yb → ⊥
longer_then P Q a a2 b b2 xf xb yf yb m [] h c k p q r s e f = k b b2 xb h m q (subst (Q b2) (sym f) s)
longer_then P Q a a2 b b2 xf xb yf yb m (g ∷ d) h c k p q r s e f = c a2 a b2 yf g d (d ++ (xb ++ h ∷ m)) r (subst (P a) e p) (subst (Q b2) (sym f) s)

shorter_then : {T A B : Type 0} (P : A → List T → Type 0) (Q : B → List T → Type 0) (a a2 : A) (b : B) (xf xb yf yb m d : List T) (g h : T) → Parted P Q → Solid Q → P a xf → Q b xb → P a2 yf → yf ≡ xf ++ g ∷ d → xb ++ h ∷ m ≡ g ∷ (d ++ yb) → ⊥
shorter_then P Q a a2 b xf [] yf yb m d g h c v p q r e f = v b q
shorter_then P Q a a2 b xf (z ∷ xb) yf yb m d g h c v p q r e f = c a a2 b xf g d xb p (subst (P a2) e r) (subst (λ t. Q b (t ∷ xb)) (heads z g (xb ++ h ∷ m) (d ++ yb) f) q)

closed_then : {T A B : Type 0} (P : A → List T → Type 0) (Q : B → List T → Type 0) → Parted P Q → Closed Q → Solid Q → Closed (λ (x : A × B). P x.0 ⨾ Q x.1)
closed_then P Q c k v a b us h m x y =
    elim (cut x.front (x.back ++ h ∷ m) y.front y.back (regrouped us x.front x.back y.front y.back (h ∷ m) x.whole y.whole)) as (λ _. ⊥) [
      | inl w ↦ longer_then P Q a.0 b.0 a.1 b.1 x.front x.back y.front y.back m w.0 h c k x.is_front x.is_back y.is_front y.is_back w.1 w.2
      | inr w ↦ shorter_then P Q a.0 b.0 a.1 x.front x.back y.front y.back m w.1 w.0 h c v x.is_front x.is_back y.is_front w.2 w.3
    ]

-- the second ends the first, which isn't empty either
pub part_ended : {T A B : Type 0} (P : A → List T → Type 0) (Q : B → List T → Type 0) (R : List T → Read T A) (S : List T → Read T B) → Parted P Q → Solid P → Reads P R → Part Q S → Part (λ (x : A × B). P x.0 ⨾ Q x.1) (λ ts. and_then (R ts) S)
part_ended P Q R S c s f g = record { reads = reads_then P Q R S c f g.reads; closed = closed_then P Q c g.closed g.solid; solid = solid_pair P Q s }

-- ---- a choice
other : {T A : Type 0} (P Q : A → List T → Type 0) (p : T → Bool) (a b : A) (u : T) (us vs : List T) → Marked P p → Avoids Q p → P a (u ∷ us) → Q b (u ∷ vs) → ⊥
other P Q p a b u us vs k w x y = let h = k.heads a (u ∷ us) x in let e : p u ≡ true = ap p (heads u h.0 us h.1 h.2) ∙ h.3 in let n = w b u vs y in cc

closed_or : {T A : Type 0} (P Q : A → List T → Type 0) (p : T → Bool) → Closed P → Closed Q → Solid P → Solid Q → Marked P p → Avoids Q p → Closed (λ a. P a ∣ Q a)
closed_or P Q p c d s v k w a b us t m (inl x) (inl y) = c a b us t m x y
closed_or P Q p c d s v k w a b us t m (inr x) (inr y) = d a b us t m x y
closed_or P Q p c d s v k w a b [] t m (inl x) (inr y) = s a x
closed_or P Q p c d s v k w a b (u ∷ us) t m (inl x) (inr y) = other P Q p a b u us (us ++ t ∷ m) k w x y
closed_or P Q p c d s v k w a b [] t m (inr x) (inl y) = v a x
closed_or P Q p c d s v k w a b (u ∷ us) t m (inr x) (inl y) = other P Q p b a u (us ++ t ∷ m) us k w y x

pub part_or : {T A : Type 0} (P Q : A → List T → Type 0) (p : T → Bool) (R S : List T → Read T A) → Marked P p → Avoids Q p → Part P R → Part Q S → Part (λ a. P a ∣ Q a) (or_else p R S)
part_or P Q p R S k v f g = record {
  reads = reads_or P Q p R S k v f.reads g.reads;
  closed = closed_or P Q p f.closed g.closed f.solid g.solid k v;
  solid = λ a x. elim x as (λ _. ⊥) [ inl y ↦ f.solid a y | inr y ↦ g.solid a y ];
}

-- ---- other values
pub part_image : {T A B : Type 0} (f : A → B) (P : A → List T → Type 0) (R : List T → Read T A) → Part P R → Part (Image f P) (λ ts. mapped f (R ts))
part_image f P R g = record {
  reads = reads_image f P R g.reads;
  closed = λ a b us h m x y. g.closed x.source y.source us h m x.spelled y.spelled;
  solid = λ a x. g.solid x.source x.spelled;
}

pub part_same : {T A : Type 0} (P Q : A → List T → Type 0) (R : List T → Read T A) → Alike P Q → Part P R → Part Q R
part_same P Q R s f = record {
  reads = reads_same P Q R s f.reads;
  closed = λ a b us h m x y. f.closed a b us h m (s.from a us x) (s.from b (us ++ h ∷ m) y);
  solid = λ a x. f.solid a (s.from a [] x);
}
