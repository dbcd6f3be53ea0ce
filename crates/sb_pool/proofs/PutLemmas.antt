-- The dirty pages of a pool, and the calls that write them.
use Rattle.std.proofs.Common.{◌≡◌, ◌⊎◌, inl, inr, ⊎_elim, ℕ, zero, suc, ◌+◌, Bool, true, false, Option, Some, None, List, [], ◌∷◌, get_or, refl, sym, subst, arith}
use Rattle.std.proofs.lemmas.Bool.{false≢true}
use Rattle.sb_disk.specs.Disk.{Story}
use Rattle.sb_disk.specs.Moments.{RanOk, RanErr}
use Rattle.sb_log.specs.declared.geometry.Geometry.{Geometry}
use Rattle.sb_images.specs.Layout.{place_of}
use Rattle.sb_pool.specs.Frames.{Put, put_if, put_and, dirty_from, puts, put_out, HasFailed}
use Rattle.sb_pool.specs.State.{Held, IsWritten}

-- ---- one page more
RanOk-if : (g : Geometry) (d : Bool) (p : ℕ) (bytes : List ℕ) (rest : List Put) (a b c : Option Story) → RanOk (puts g rest) (put_out (place_of g p) (Some (record { bytes = bytes; dirty = d })) a) c
    → RanOk (puts g (put_if d p bytes rest)) a c
RanOk-if g true p bytes rest a b c ran = ran
RanOk-if g false p bytes rest a b c ran = ran

-- a page that was put out, and then the others
pub RanOk-put : (g : Geometry) (p : ℕ) (h : Option Held) (rest : List Put) (a b c : Option Story) → b ≡ put_out (place_of g p) h a → RanOk (puts g rest) b c → RanOk (puts g (put_and p h rest)) a c
RanOk-put g p None rest a b c is ran = subst (λ (x : Option Story). RanOk (puts g rest) x c) is ran
RanOk-put g p (Some h) rest a b c is ran = RanOk-if g h.dirty p h.bytes rest a b c (subst (λ (x : Option Story). RanOk (puts g rest) x c) is ran)

RanErr-if : (g : Geometry) (d : Bool) (p : ℕ) (bytes : List ℕ) (rest : List Put) (a c : Option Story) → RanErr (puts g rest) (put_out (place_of g p) (Some (record { bytes = bytes; dirty = d })) a) c
    → RanErr (puts g (put_if d p bytes rest)) a c
RanErr-if g true p bytes rest a c ran = inr ran
RanErr-if g false p bytes rest a c ran = ran

pub RanErr-put : (g : Geometry) (p : ℕ) (h : Option Held) (rest : List Put) (a b c : Option Story) → b ≡ put_out (place_of g p) h a → RanErr (puts g rest) b c → RanErr (puts g (put_and p h rest)) a c
RanErr-put g p None rest a b c is ran = subst (λ (x : Option Story). RanErr (puts g rest) x c) is ran
RanErr-put g p (Some h) rest a b c is ran = RanErr-if g h.dirty p h.bytes rest a c (subst (λ (x : Option Story). RanErr (puts g rest) x c) is ran)

-- a page that wasn't
pub RanErr-failed : (g : Geometry) (p : ℕ) (h : Option Held) (rest : List Put) (a c : Option Story) → HasFailed (place_of g p) h a c → RanErr (puts g (put_and p h rest)) a c
RanErr-failed g p None rest a c failed = absurd failed
RanErr-failed g p (Some h) rest a c failed = subst (λ (d : Bool). RanErr (puts g (put_if d p h.bytes rest)) a c) (sym failed.0) (inl failed.1)

-- ---- which pages they are
-- so it is with each of them
abbrev pub All : (ℕ → List ℕ → Type 0) → List Put → Type 0
All P [] = Unit {0}
All P (d ∷ ds) = P d.page d.bytes × All P ds

-- the page is one of them
abbrev pub IsPut : List Put → ℕ → Type 0
IsPut [] q = ⊥
IsPut (d ∷ ds) q = (d.page ≡ q) ⊎ IsPut ds q

All-if : (P : ℕ → List ℕ → Type 0) (d : Bool) (p : ℕ) (bytes : List ℕ) (rest : List Put) → (d ≡ true → P p bytes) → All P rest → All P (put_if d p bytes rest)
All-if P true p bytes rest has all = (has refl, all)
All-if P false p bytes rest has all = all

-- what holds of a page with its bytes, where it is dirty
HasPut : (ℕ → List ℕ → Type 0) → ℕ → Option Held → Type 0
HasPut P p h = (x : Held) → h ≡ Some x → x.dirty ≡ true → P p x.bytes

All-put : (P : ℕ → List ℕ → Type 0) (p : ℕ) (h : Option Held) (rest : List Put) → ((x : Held) → h ≡ Some x → x.dirty ≡ true → P p x.bytes) → All P rest → All P (put_and p h rest)
All-put P p None rest has all = all
All-put P p (Some h) rest has all = All-if P h.dirty p h.bytes rest (λ dirty. has h refl dirty) all

pub All-dirty : (P : ℕ → List ℕ → Type 0) (hs : List (Option Held)) (p : ℕ) → ((k : ℕ) (x : Held) → get_or hs k None ≡ Some x → x.dirty ≡ true → P (p + k) x.bytes) → All P (dirty_from p hs)
All-dirty P [] p has = tt
All-dirty P (h ∷ hs) p has = All-put P p h (dirty_from (p + 1) hs)
    (λ x is dirty. let e : p + 0 ≡ p = omega arith in subst (λ (q : ℕ). P q x.bytes) e (has 0 x is dirty))
    (All-dirty P hs (p + 1) (λ k x is dirty. let e : p + suc k ≡ p + 1 + k = omega arith in subst (λ (q : ℕ). P q x.bytes) e (has (suc k) x is dirty)))

IsPut-if : (d : Bool) (p : ℕ) (bytes : List ℕ) (rest : List Put) (q : ℕ) → IsPut (put_if d p bytes rest) q → ((p ≡ q) × (d ≡ true)) ⊎ IsPut rest q
IsPut-if true p bytes rest q (inl e) = inl (e, refl)
IsPut-if true p bytes rest q (inr there) = inr there
IsPut-if false p bytes rest q there = inr there

IsPut-and : (p : ℕ) (h : Option Held) (rest : List Put) (q : ℕ) → IsPut (put_and p h rest) q → ((p ≡ q) × IsWritten h) ⊎ IsPut rest q
IsPut-and p None rest q there = inr there
IsPut-and p (Some h) rest q there = IsPut-if h.dirty p h.bytes rest q there

-- each of them is dirty
pub IsPut-dirty : (hs : List (Option Held)) (p q : ℕ) → IsPut (dirty_from p hs) q → (k : ℕ) × (q ≡ p + k) × IsWritten (get_or hs k None)
IsPut-dirty [] p q there = absurd there
IsPut-dirty (h ∷ hs) p q there = ⊎_elim
    (λ (here : (p ≡ q) × IsWritten h). let e : p ≡ q = here.0 in (0, omega arith, here.1))
    (λ (later : IsPut (dirty_from (p + 1) hs) q). let found = IsPut-dirty hs (p + 1) q later in let e = found.1 in (suc found.0, omega arith, found.2))
    (IsPut-and p h (dirty_from (p + 1) hs) q there)

if-IsPut_here : (d : Bool) (p : ℕ) (bytes : List ℕ) (rest : List Put) → d ≡ true → IsPut (put_if d p bytes rest) p
if-IsPut_here true p bytes rest is = inl refl
if-IsPut_here false p bytes rest is = absurd (false≢true is)

if-IsPut_more : (d : Bool) (p : ℕ) (bytes : List ℕ) (rest : List Put) (q : ℕ) → IsPut rest q → IsPut (put_if d p bytes rest) q
if-IsPut_more true p bytes rest q there = inr there
if-IsPut_more false p bytes rest q there = there

IsPut-here : (p : ℕ) (h : Option Held) (rest : List Put) → IsWritten h → IsPut (put_and p h rest) p
IsPut-here p None rest written = absurd written
IsPut-here p (Some h) rest written = if-IsPut_here h.dirty p h.bytes rest written

IsPut-more : (p : ℕ) (h : Option Held) (rest : List Put) (q : ℕ) → IsPut rest q → IsPut (put_and p h rest) q
IsPut-more p None rest q there = there
IsPut-more p (Some h) rest q there = if-IsPut_more h.dirty p h.bytes rest q there

-- and each dirty page is one of them
pub dirty-IsPut : (hs : List (Option Held)) (p k : ℕ) → IsWritten (get_or hs k None) → IsPut (dirty_from p hs) (p + k)
dirty-IsPut [] p k written = absurd written
dirty-IsPut (h ∷ hs) p zero written = let e : p ≡ p + 0 = omega arith in subst (λ (q : ℕ). IsPut (dirty_from p (h ∷ hs)) q) e (IsPut-here p h (dirty_from (p + 1) hs) written)
dirty-IsPut (h ∷ hs) p (suc k) written = let e : p + 1 + k ≡ p + suc k = omega arith in
    subst (λ (q : ℕ). IsPut (dirty_from p (h ∷ hs)) q) e (IsPut-more p h (dirty_from (p + 1) hs) (p + 1 + k) (dirty-IsPut hs (p + 1) k written))
