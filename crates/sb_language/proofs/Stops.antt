-- Which tokens no sentence of a list goes on with.
use Rattle.std.proofs.Common.{◌≡◌, ℕ, zero, suc, List, [], ◌∷◌, ◌++◌, sym, ◌∙◌, ap, subst, inl, inr}
use Rattle.std.proofs.lemmas.List.{append-nil}
use Rattle.sb_language.specs.Lang.{just, more_items, items_up_to, many, grouped}
use Rattle.sb_language.proofs.Front.{Parted, heads, cut}
use Rattle.sb_language.proofs.Parts.{Solid, solid_pair, regrouped}
use Rattle.sb_language.proofs.Lists.{not_nil, behind_first, sign_front}

-- no sentence goes on with a token of which K holds
abbrev pub Stops : {T A : Type 0} → (A → List T → Type 0) → (T → Type 0) → Type 0
Stops {T} {A} P K = (a b : A) (us : List T) (h : T) (m : List T) → K h → P a us → P b (us ++ h ∷ m) → ⊥

-- nothing follows, or such a token
abbrev Ends : {T : Type 0} → (T → Type 0) → List T → Type 0
Ends K [] = Unit {0}
Ends K (h ∷ m) = K h

ends_head : {T : Type 0} (K : T → Type 0) (h : T) (m y : List T) → h ∷ m ≡ y → Ends K y → K h
ends_head K h m y e f = subst (Ends K) (sym e) f

longer_stop : {T A : Type 0} (P : A → List T → Type 0) (K : T → Type 0) (a b : A) (x y x2 y2 d : List T) → Stops P K → P a x → P b x2 → Ends K y2 → x ≡ x2 ++ d → d ++ y ≡ y2 → (x ≡ x2) × (y ≡ y2)
longer_stop P K a b x y x2 y2 [] c p q f e g = (e ∙ append-nil x2, g)
longer_stop P K a b x y x2 y2 (h ∷ d) c p q f e g = absurd (c b a x2 h d (ends_head K h (d ++ y) y2 g f) q (subst (P a) e p))

cut_stop : {T A : Type 0} (P : A → List T → Type 0) (K : T → Type 0) (a b : A) (x y x2 y2 : List T) → Stops P K → P a x → P b x2 → Ends K y → Ends K y2 → x ++ y ≡ x2 ++ y2 → (x ≡ x2) × (y ≡ y2)
cut_stop P K a b x y x2 y2 c p q f g e = elim (cut x y x2 y2 e) as (λ _. (x ≡ x2) × (y ≡ y2)) [
  | inl w ↦ longer_stop P K a b x y x2 y2 w.0 c p q g w.1 w.2
  | inr w ↦ absurd (c a b x w.0 w.1 (ends_head K w.0 (w.1 ++ y2) y (sym w.3) f) p (subst (P b) w.2 q))
]

-- ---- the items behind the first
ends_many : {T A : Type 0} (P : A → List T → Type 0) (K : T → Type 0) (t : T) → K t → (items : List A) (y : List T) → many t P items y → Ends K y
ends_many P K t e [] y x = subst (Ends K) (sym x) tt
ends_many P K t e (a ∷ items) y x = subst (Ends K) (sym (sign_front t y x.front x.back x.whole x.is_front)) e

ends_then : {T A : Type 0} (P : A → List T → Type 0) (K : T → Type 0) (t u : T) (m : List T) → K t → K u → (items : List A) (y : List T) → many t P items y → Ends K (y ++ u ∷ m)
ends_then P K t u m e f [] y x = subst (λ s. Ends K (s ++ u ∷ m)) (sym x) f
ends_then P K t u m e f (a ∷ items) y x = subst (λ s. Ends K (s ++ u ∷ m)) (sym (sign_front t y x.front x.back x.whole x.is_front)) e

many_stop : {T A : Type 0} (P : A → List T → Type 0) (K : T → Type 0) (t u : T) → Stops P K → K t → K u → (u ≡ t → ⊥) → (items : List A) (us : List T) (others : List A) (m : List T) → many t P items us → many t P others (us ++ u ∷ m) → ⊥
many_stop P K t u c kt ku d [] us [] m x y = not_nil us u m y
many_stop P K t u c kt ku d [] us (b ∷ others) m x y = d (heads u t m y.back (sym (ap (λ s. s ++ u ∷ m) x) ∙ sign_front t (us ++ u ∷ m) y.front y.back y.whole y.is_front))
many_stop P K t u c kt ku d (a ∷ items) us [] m x y = not_nil us u m y
many_stop P K t u c kt ku d (a ∷ items) us (b ∷ others) m x y =
    let tail : x.back ++ u ∷ m ≡ y.back = behind_first t u us x.front x.back y.back m x.whole x.is_front (sign_front t (us ++ u ∷ m) y.front y.back y.whole y.is_front) in
    let v = x.is_back in
    let z = y.is_back in
    let w = cut_stop P K a b v.front (v.back ++ u ∷ m) z.front z.back c v.is_front z.is_front (ends_then P K t u m kt ku items v.back v.is_back) (ends_many P K t kt others z.back z.is_back)
    (regrouped x.back v.front v.back z.front z.back (u ∷ m) v.whole (tail ∙ z.whole)) in
    many_stop P K t u c kt ku d items v.back others m v.is_back (subst (many t P others) (sym w.1) z.is_back)

-- ---- grouped lists
-- a list goes on with its sign, or where its items do
pub stops_grouped : {T A : Type 0} (group : A → A → A) (P : A → List T → Type 0) (K : T → Type 0) (t u : T) → Stops P K → K t → K u → (u ≡ t → ⊥) → (a b : A) (us m : List T) → grouped group t P a us → grouped group t P b (us ++ u ∷ m) → ⊥
stops_grouped group P K t u c kt ku d a b us m x y =
    let v = x.spelled in
    let z = y.spelled in
    let w = cut_stop P K x.first y.first v.front (v.back ++ u ∷ m) z.front z.back c v.is_front z.is_front (ends_then P K t u m kt ku x.others v.back v.is_back) (ends_many P K t kt y.others z.back z.is_back)
    (regrouped us v.front v.back z.front z.back (u ∷ m) v.whole z.whole) in
    many_stop P K t u c kt ku d x.others v.back y.others m v.is_back (subst (many t P y.others) (sym w.1) z.is_back)

pub parted_stop : {T A : Type 0} (P : A → List T → Type 0) (K : T → Type 0) (u : T) → Stops P K → K u → Parted P (λ (_ : Unit {0}). just u)
parted_stop P K u c k a a2 b us h m n x y z = c a a2 us h m (subst K (sym (heads h u n [] z)) k) x y

pub solid_grouped : {T A : Type 0} (group : A → A → A) (t : T) (P : A → List T → Type 0) → Solid P → Solid (grouped group t P)
solid_grouped group t P s a x = solid_pair P (many t P) s (x.first, x.others) x.spelled

-- ---- lists of a bounded length
ends_more : {T A : Type 0} (P : A → List T → Type 0) (K : T → Type 0) (t : T) → K t → (n : ℕ) (items : List A) (y : List T) → more_items n t P items y → Ends K y
ends_more P K t e n [] y x = subst (Ends K) (sym x) tt
ends_more P K t e zero (a ∷ items) y x = absurd x
ends_more P K t e (suc n) (a ∷ items) y x = subst (Ends K) (sym (sign_front t y x.front x.back x.whole x.is_front)) e

more_then : {T A : Type 0} (P : A → List T → Type 0) (K : T → Type 0) (t u : T) (m : List T) → K t → K u → (n : ℕ) (items : List A) (y : List T) → more_items n t P items y → Ends K (y ++ u ∷ m)
more_then P K t u m e f n [] y x = subst (λ s. Ends K (s ++ u ∷ m)) (sym x) f
more_then P K t u m e f zero (a ∷ items) y x = absurd x
more_then P K t u m e f (suc n) (a ∷ items) y x = subst (λ s. Ends K (s ++ u ∷ m)) (sym (sign_front t y x.front x.back x.whole x.is_front)) e

more_stop : {T A : Type 0} (P : A → List T → Type 0) (K : T → Type 0) (t u : T) → Stops P K → K t → K u → (u ≡ t → ⊥) → (n : ℕ) (items : List A) (us : List T) (k : ℕ) (others : List A) (m : List T) → more_items n t P items us → more_items k t P others (us ++ u ∷ m) → ⊥
more_stop P K t u c kt ku d n [] us k [] m x y = not_nil us u m y
more_stop P K t u c kt ku d n [] us zero (b ∷ others) m x y = y
more_stop P K t u c kt ku d n [] us (suc k) (b ∷ others) m x y = d (heads u t m y.back (sym (ap (λ s. s ++ u ∷ m) x) ∙ sign_front t (us ++ u ∷ m) y.front y.back y.whole y.is_front))
more_stop P K t u c kt ku d zero (a ∷ items) us k others m x y = x
more_stop P K t u c kt ku d (suc n) (a ∷ items) us k [] m x y = not_nil us u m y
more_stop P K t u c kt ku d (suc n) (a ∷ items) us zero (b ∷ others) m x y = y
more_stop P K t u c kt ku d (suc n) (a ∷ items) us (suc k) (b ∷ others) m x y =
    let tail : x.back ++ u ∷ m ≡ y.back = behind_first t u us x.front x.back y.back m x.whole x.is_front (sign_front t (us ++ u ∷ m) y.front y.back y.whole y.is_front) in
    let v = x.is_back in
    let z = y.is_back in
    let w = cut_stop P K a b v.front (v.back ++ u ∷ m) z.front z.back c v.is_front z.is_front (more_then P K t u m kt ku n items v.back v.is_back) (ends_more P K t kt k others z.back z.is_back)
    (regrouped x.back v.front v.back z.front z.back (u ∷ m) v.whole (tail ∙ z.whole)) in
    more_stop P K t u c kt ku d n items v.back k others m v.is_back (subst (more_items k t P others) (sym w.1) z.is_back)

-- a list goes on with its sign, or where its items do
pub stops_items : {T A : Type 0} (n : ℕ) (P : A → List T → Type 0) (K : T → Type 0) (t u : T) → Stops P K → K t → K u → (u ≡ t → ⊥) → (items others : List A) (us m : List T) → items_up_to n t P items us → items_up_to n t P others (us ++ u ∷ m) → ⊥
stops_items n P K t u c kt ku d [] others us m x y = x
stops_items n P K t u c kt ku d (a ∷ items) [] us m x y = y
stops_items n P K t u c kt ku d (a ∷ items) (b ∷ others) us m x y =
    let w = cut_stop P K a b x.front (x.back ++ u ∷ m) y.front y.back c x.is_front y.is_front (more_then P K t u m kt ku n items x.back x.is_back) (ends_more P K t kt n others y.back y.is_back)
    (regrouped us x.front x.back y.front y.back (u ∷ m) x.whole y.whole) in
    more_stop P K t u c kt ku d n items x.back n others m x.is_back (subst (more_items n t P others) (sym w.1) y.is_back)
