-- Frames by their texts.
use Rattle.std.proofs.Common.{◌≡◌, ◌⊎◌, inl, inr, ⊎_elim, ℕ, zero, suc, ◌+◌, ◌<◌, Bool, true, false, cond, ◌==◌, List, [], ◌∷◌, ◌++◌, length, length-append, set, get_or, refl, sym, ◌∙◌, ap, subst, arith, Vec, Global}
use Rattle.std.proofs.lemmas.Bool.{both_ways, eqb-true, eq-eqb, ne_eqb, cases_eq}
use Rattle.std.proofs.lemmas.List.{get_or-set_same, get_or-set_other, length-set}
use Rattle.std.specs.Vec.{vec_len}
use Rattle.sb_recover.specs.Frames.{texts, or_else, frame_at, held, AreWhole, HoldsFirst, NoneHeld}

pub texts-append : (vs ws : List (Vec ℕ Global)) → texts (vs ++ ws) ≡ texts vs ++ texts ws
texts-append [] ws = refl
texts-append (v ∷ vs) ws = ap (λ (l : List (List ℕ)). v.items ∷ l) (texts-append vs ws)

pub length-texts : (vs : List (Vec ℕ Global)) → length (texts vs) ≡ length vs
length-texts [] = refl
length-texts (v ∷ vs) = ap suc (length-texts vs)

pub frame_at-texts : (vs : List (Vec ℕ Global)) (p : ℕ) (d : Vec ℕ Global) → p < length vs → frame_at (texts vs) p ≡ (get_or vs p d).items
frame_at-texts [] p d lt = absurd (omega (arith, lt))
frame_at-texts (v ∷ vs) zero d lt = refl
frame_at-texts (v ∷ vs) (suc p) d lt = frame_at-texts vs p d (omega (arith, lt))

pub texts-set : (vs : List (Vec ℕ Global)) (p : ℕ) (v : Vec ℕ Global) → texts (set vs p v) ≡ set (texts vs) p v.items
texts-set [] p v = refl
texts-set (w ∷ vs) zero v = refl
texts-set (w ∷ vs) (suc p) v = ap (λ (l : List (List ℕ)). w.items ∷ l) (texts-set vs p v)

-- ---- frames that are made
frame_at-append_none : (fs : List (List ℕ)) → ((p : ℕ) → frame_at fs p ≡ []) → (p : ℕ) → frame_at (fs ++ [] ∷ []) p ≡ []
frame_at-append_none [] none zero = refl
frame_at-append_none [] none (suc p) = refl
frame_at-append_none (f ∷ fs) none zero = none zero
frame_at-append_none (f ∷ fs) none (suc p) = frame_at-append_none fs (λ q. none (suc q)) p

AreWhole-append_none : (fs : List (List ℕ)) → AreWhole fs → AreWhole (fs ++ [] ∷ [])
AreWhole-append_none [] whole = (inl refl, tt)
AreWhole-append_none (f ∷ fs) whole = (whole.0, AreWhole-append_none fs whole.1)

pub NoneHeld-none : NoneHeld 0 []
NoneHeld-none = record { count_is = refl; none = λ p. refl; whole = tt }

pub NoneHeld-more : (n : ℕ) (vs : List (Vec ℕ Global)) (v : Vec ℕ Global) → v.items ≡ [] → NoneHeld n (texts vs) → NoneHeld (n + 1) (texts (vs ++ v ∷ []))
NoneHeld-more n vs v empty none =
    let is : texts (vs ++ v ∷ []) ≡ texts vs ++ [] ∷ [] = texts-append vs (v ∷ []) ∙ ap (λ (l : List ℕ). texts vs ++ l ∷ []) empty in
    subst (λ (fs : List (List ℕ)). NoneHeld (n + 1) fs) (sym is) (record {
      count_is = let e = none.count_is in let l = length-append (texts vs) ([] ∷ []) in omega (arith, e, l);
      none = frame_at-append_none (texts vs) none.none;
      whole = AreWhole-append_none (texts vs) none.whole;
    })

-- ---- a frame that is put in
pub frame_at-set_same : (fs : List (List ℕ)) (p : ℕ) (f : List ℕ) → p < length fs → frame_at (set fs p f) p ≡ f
frame_at-set_same fs p f lt = get_or-set_same fs p f [] lt

pub frame_at-set_other : (fs : List (List ℕ)) (p q : ℕ) (f : List ℕ) → (q ≡ p → ⊥) → frame_at (set fs p f) q ≡ frame_at fs q
frame_at-set_other fs p q f other = get_or-set_other fs p q f [] other

pub AreWhole-set : (fs : List (List ℕ)) (p : ℕ) (f : List ℕ) → length f ≡ 4096 → AreWhole fs → AreWhole (set fs p f)
AreWhole-set [] p f long whole = tt
AreWhole-set (g ∷ fs) zero f long whole = (inr long, whole.1)
AreWhole-set (g ∷ fs) (suc p) f long whole = (whole.0, AreWhole-set fs p f long whole.1)

pub AreWhole-at : (fs : List (List ℕ)) (p : ℕ) → AreWhole fs → (frame_at fs p ≡ []) ⊎ (length (frame_at fs p) ≡ 4096)
AreWhole-at [] p whole = inl refl
AreWhole-at (f ∷ fs) zero whole = whole.0
AreWhole-at (f ∷ fs) (suc p) whole = AreWhole-at fs p whole.1

-- a page that wasn't held takes the bytes
pub HoldsFirst-put : (vs : List (Vec ℕ Global)) (page : ℕ) (v : Vec ℕ Global) (bytes : List ℕ) → page < length vs → frame_at (texts vs) page ≡ [] → v.items ≡ bytes → HoldsFirst page bytes (texts vs) (texts (set vs page v))
HoldsFirst-put vs page v bytes lt none is =
    let lt_texts : page < length (texts vs) = let l = length-texts vs in omega (arith, l, lt) in
    let set_is : texts (set vs page v) ≡ set (texts vs) page bytes = texts-set vs page v ∙ ap (λ (l : List ℕ). set (texts vs) page l) is in
    subst (λ (fs : List (List ℕ)). HoldsFirst page bytes (texts vs) fs) (sym set_is) (record {
      count = length-set (texts vs) page bytes;
      each = λ p lt. ⊎_elim
          (λ (e : page ≡ p). subst (λ (q : ℕ). frame_at (set (texts vs) page bytes) q ≡ cond (page == q) (or_else (frame_at (texts vs) q) bytes) (frame_at (texts vs) q)) e
          (rw (eq-eqb page page refl, none) (frame_at-set_same (texts vs) page bytes lt_texts)))
          (λ (o : page ≡ p → ⊥). rw (ne_eqb page p o) (frame_at-set_other (texts vs) page p bytes (λ (e : p ≡ page). o (sym e))))
          (cases_eq page p);
      whole = λ long whole. AreWhole-set (texts vs) page bytes long whole;
    })

or_else-held : (bytes others : List ℕ) → (bytes ≡ [] → ⊥) → or_else bytes others ≡ bytes
or_else-held [] others held = absurd (held refl)
or_else-held (b ∷ bytes) others held = refl

-- one that is held, or that the store lacks, is passed over
pub HoldsFirst-passed : (fs : List (List ℕ)) (page : ℕ) (bytes : List ℕ) → (page < length fs → frame_at fs page ≡ [] → ⊥) → HoldsFirst page bytes fs fs
HoldsFirst-passed fs page bytes passed = record {
  count = refl;
  each = λ p lt. ⊎_elim
      (λ (e : page ≡ p). rw (eq-eqb page p e) (sym (or_else-held (frame_at fs p) bytes (λ none. passed (subst (λ (q : ℕ). q < length fs) (sym e) lt) (ap (λ (q : ℕ). frame_at fs q) e ∙ none)))))
      (λ (o : page ≡ p → ⊥). rw (ne_eqb page p o) refl)
      (cases_eq page p);
  whole = λ long whole. whole;
}

-- ---- whether a frame is empty
none_of : (bytes : List ℕ) → length bytes ≡ 0 → bytes ≡ []
none_of [] none = refl
none_of (b ∷ bytes) none = absurd (omega (arith, none))

-- the frame that was read, by the test on its length
pub frame_at-empty : (vs : List (Vec ℕ Global)) (p : ℕ) (v : Vec ℕ Global) → p < length vs → v ≡ get_or vs p v → (t : Bool) → t ≡ (vec_len v == 0) → t ≡ true → frame_at (texts vs) p ≡ []
frame_at-empty vs p v lt is t test holds =
    let len = eqb-true (vec_len v) 0 (sym test ∙ holds) in let ok = v.ok.0 in
    frame_at-texts vs p v lt ∙ ap (λ (w : Vec ℕ Global). w.items) (sym is) ∙ none_of v.items (omega (arith, len, ok))

pub frame_at-some : (vs : List (Vec ℕ Global)) (p : ℕ) (v : Vec ℕ Global) → p < length vs → v ≡ get_or vs p v → (t : Bool) → t ≡ (vec_len v == 0) → t ≡ false → (frame_at (texts vs) p ≡ v.items) × (v.items ≡ [] → ⊥)
frame_at-some vs p v lt is t test fails = (
  frame_at-texts vs p v lt ∙ ap (λ (w : Vec ℕ Global). w.items) (sym is),
  λ empty.
      let len = ap (λ (l : List ℕ). length l) empty in let ok = v.ok.0 in
      both_ways (vec_len v == 0) (sym test ∙ fails) (eq-eqb (vec_len v) 0 (omega (arith, len, ok))),
)
