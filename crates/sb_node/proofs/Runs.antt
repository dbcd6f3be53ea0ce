-- The walk over the entries of a page, from a place on.
use Rattle.std.proofs.Common.{suc, zero, ◌≡◌, ℕ, ◌+◌, ◌-◌, ◌*◌, ◌<◌, ◌≤◌, Bool, true, false, not, ◌&&◌, List, ◌∷◌, length, Option, Some, None, refl, ap, sym, ◌∙◌, subst, arith}
use Rattle.std.specs.Prelude.{nat_eq, nat_lt, slice_get}
use Rattle.std.proofs.lemmas.Bool.{and_parts, eqb-true, eq-eqb}
use Rattle.std.proofs.lemmas.Bool.Decides.{nat_tests}
use Rattle.sb_bytes.specs.Field.{number_at}
use Rattle.sb_node.specs.Page.{key_at, value_at, after_at, entries_at, is_filled, is_above, has_form, head_in}
use Rattle.sb_node.specs.Writes.{start_at}

pub after_above : (b : List ℕ) (at : ℕ) → at + 4 ≤ after_at b at
unfolding after_at
after_above b at = omega arith

pub after_is : (b : List ℕ) (at : ℕ) → after_at b at ≡ at + 4 + number_at 2 b at + number_at 2 b (at + 2)
unfolding after_at
after_is b at = refl

pub over : (a b : ℕ) → a < b → not (nat_lt a b) ≡ false
over a b h = grind (arith, nat_tests)

pub fits : (a b : ℕ) → b ≤ a → not (nat_lt a b) ≡ true
fits a b h = grind (arith, nat_tests)

fits_back : (a b : ℕ) → not (nat_lt a b) ≡ true → b ≤ a
fits_back a b h = grind (arith, nat_tests)

no_and : (p q : Bool) → q ≡ false → (p && q) ≡ false
no_and true q e = e
no_and false q e = refl

-- ---- one step of the walk
pub filled_past : (b : List ℕ) (end : ℕ) (last : Option (List ℕ)) (n m at : ℕ) → n ≡ suc m → end < after_at b at → is_filled b end last n at ≡ false
filled_past b end last n m at e h =
    ap (λ k. is_filled b end last k at) e ∙ ap (λ t. t && (is_above last (key_at b at) && is_filled b end (Some (key_at b at)) m (after_at b at))) (over end (after_at b at) h)

pub filled_down : (b : List ℕ) (end : ℕ) (last : Option (List ℕ)) (n m at : ℕ) → n ≡ suc m → is_above last (key_at b at) ≡ false → is_filled b end last n at ≡ false
filled_down b end last n m at e h =
    ap (λ k. is_filled b end last k at) e
    ∙ no_and (not (nat_lt end (after_at b at))) (is_above last (key_at b at) && is_filled b end (Some (key_at b at)) m (after_at b at)) (ap (λ t. t && is_filled b end (Some (key_at b at)) m (after_at b at)) h)

pub filled_on : (b : List ℕ) (end : ℕ) (last : Option (List ℕ)) (n m at : ℕ) → n ≡ suc m → after_at b at ≤ end → is_above last (key_at b at) ≡ true
    → is_filled b end last n at ≡ is_filled b end (Some (key_at b at)) m (after_at b at)
filled_on b end last n m at e w u =
    ap (λ k. is_filled b end last k at) e
    ∙ ap (λ t. t && (is_above last (key_at b at) && is_filled b end (Some (key_at b at)) m (after_at b at))) (fits end (after_at b at) w)
    ∙ ap (λ t. t && is_filled b end (Some (key_at b at)) m (after_at b at)) u

pub filled_end : (b : List ℕ) (end : ℕ) (last : Option (List ℕ)) (n at : ℕ) → n ≡ 0 → is_filled b end last n at ≡ nat_eq at end
filled_end b end last n at e = ap (λ k. is_filled b end last k at) e

-- the parts of a step
pub record Steps (b : List ℕ) (end : ℕ) (last : Option (List ℕ)) (n at : ℕ) : Type 0 where
  pub room : not (nat_lt end (after_at b at)) ≡ true
  pub within : after_at b at ≤ end
  pub up : is_above last (key_at b at) ≡ true
  pub rest : is_filled b end (Some (key_at b at)) n (after_at b at) ≡ true

pub steps : (b : List ℕ) (end : ℕ) (last : Option (List ℕ)) (n at : ℕ) → is_filled b end last (suc n) at ≡ true → Steps b end last n at
steps b end last n at h =
    let front = and_parts (not (nat_lt end (after_at b at))) _ h in
    let back = and_parts (is_above last (key_at b at)) _ front.1 in
    record { room = front.0; within = fits_back end (after_at b at) front.0; up = back.0; rest = back.1 }

pub step_back : (b : List ℕ) (end : ℕ) (last : Option (List ℕ)) (n at : ℕ) → after_at b at ≤ end → is_above last (key_at b at) ≡ true
    → is_filled b end (Some (key_at b at)) n (after_at b at) ≡ true → is_filled b end last (suc n) at ≡ true
step_back b end last n at within up rest = filled_on b end last (suc n) n at refl within up ∙ rest

-- the keys of the rest rise by themselves
pub from_none : (b : List ℕ) (end : ℕ) (last : Option (List ℕ)) (n at : ℕ) → is_filled b end last n at ≡ true → is_filled b end None n at ≡ true
from_none b end last zero at h = h
from_none b end last (suc n) at h = let s = steps b end last n at h in step_back b end None n at s.within refl s.rest

-- ---- some entries fill the bytes from here to the end
pub record Runs (b : List ℕ) (end n at : ℕ) : Type 0 where
  pub last : Option (List ℕ)
  pub run : is_filled b end last n at ≡ true

pub Runs-within : (b : List ℕ) (end n m at : ℕ) → n ≡ suc m → Runs b end n at → after_at b at ≤ end
Runs-within b end n m at e r = (steps b end r.last m at (subst (λ k. is_filled b end r.last k at ≡ true) e r.run)).within

pub Runs-on : (b : List ℕ) (end n m at : ℕ) → n ≡ suc m → Runs b end n at → Runs b end m (after_at b at)
Runs-on b end n m at e r = record {
  last = Some (key_at b at);
  run = (steps b end r.last m at (subst (λ k. is_filled b end r.last k at ≡ true) e r.run)).rest;
}

pub Runs-count : (b : List ℕ) (end : ℕ) (n at : ℕ) → Runs b end n at → at + 4 * n ≤ end
Runs-count b end zero at r = omega (arith, eqb-true at end r.run)
Runs-count b end (suc n) at r =
    omega (arith, after_above b at, Runs-count b end n (after_at b at) (Runs-on b end (suc n) n at refl r))

-- the walk from the entry at a place
pub Runs-from : (b : List ℕ) (end i m at : ℕ) → Runs b end (i + m) at → Runs b end m (start_at b i at)
Runs-from b end zero m at r = let e : 0 + m ≡ m = omega arith in subst (λ k. Runs b end k at) e r
Runs-from b end (suc i) m at r = Runs-from b end i m (after_at b at) (Runs-on b end (suc i + m) (i + m) at (omega arith) r)

pub start_above : (b : List ℕ) (i at : ℕ) → at ≤ start_at b i at
start_above b zero at = omega arith
start_above b (suc i) at = omega (arith, start_above b i (after_at b at), after_above b at)

-- ---- a page that has the form
pub record IsFormed (b : List ℕ) : Type 0 where
  pub size : length b ≡ 4096
  pub room : number_at 2 b 4 ≤ 4072
  pub run : is_filled b (24 + number_at 2 b 4) None (number_at 2 b 2) 24 ≡ true
  pub runs : Runs b (24 + number_at 2 b 4) (number_at 2 b 2) 24

pub is_formed : (b : List ℕ) → has_form b ≡ true → IsFormed b
unfolding has_form
is_formed b h =
    let front = and_parts (nat_eq (length b) 4096) _ h in
    let back = and_parts (not (nat_lt 4072 (number_at 2 b 4))) _ front.1 in
    record {
      size = eqb-true (length b) 4096 front.0;
      room = fits_back 4072 (number_at 2 b 4) back.0;
      run = back.1;
      runs = record { last = None; run = back.1 };
    }

pub form_size : (b : List ℕ) → has_form b ≡ true → length b ≡ 4096
form_size b form = (is_formed b form).size

pub form_room : (b : List ℕ) → has_form b ≡ true → number_at 2 b 4 ≤ 4072
form_room b form = (is_formed b form).room

pub head_count : (b : List ℕ) → (head_in b).count ≡ number_at 2 b 2
unfolding head_in
head_count b = refl

pub head_used : (b : List ℕ) → (head_in b).used ≡ number_at 2 b 4
unfolding head_in
head_used b = refl

-- there are fewer entries than a quarter of the bytes
pub count_short : (b : List ℕ) → has_form b ≡ true → number_at 2 b 2 ≤ 1018
count_short b form =
    let room : number_at 2 b 4 ≤ 4072 = (is_formed b form).room in
    omega (arith, Runs-count b (24 + number_at 2 b 4) (number_at 2 b 2) 24 (is_formed b form).runs)

pub formed : (b : List ℕ) → length b ≡ 4096 → number_at 2 b 4 ≤ 4072 → is_filled b (24 + number_at 2 b 4) None (number_at 2 b 2) 24 ≡ has_form b
unfolding has_form
formed b size room =
    let run = is_filled b (24 + number_at 2 b 4) None (number_at 2 b 2) 24 in
    sym (ap (λ t. t && (not (nat_lt 4072 (number_at 2 b 4)) && run)) (eq-eqb (length b) 4096 size) ∙ ap (λ t. t && run) (fits 4072 (number_at 2 b 4) room))

pub not_long : (b : List ℕ) → (length b ≡ 4096 → ⊥) → has_form b ≡ false
unfolding has_form
not_long b h =
    let e : nat_eq (length b) 4096 ≡ false = grind (arith, nat_tests) in
    ap (λ t. t && (not (nat_lt 4072 (number_at 2 b 4)) && is_filled b (24 + number_at 2 b 4) None (number_at 2 b 2) 24)) e

pub not_roomy : (b : List ℕ) → 4072 < number_at 2 b 4 → has_form b ≡ false
unfolding has_form
not_roomy b h =
    no_and (nat_eq (length b) 4096) _ (ap (λ t. t && is_filled b (24 + number_at 2 b 4) None (number_at 2 b 2) 24) (over 4072 (number_at 2 b 4) h))

pub record IsInPage (b : List ℕ) (at : ℕ) : Type 0 where
  pub low : at + 4 ≤ length b
  pub within : after_at b at ≤ length b
  pub short : at < 65536

-- an entry of the walk lies in the page
pub in_page : (b : List ℕ) (n m at : ℕ) → has_form b ≡ true → n ≡ suc m → Runs b (24 + number_at 2 b 4) n at → IsInPage b at
in_page b n m at f e r =
    let is = is_formed b f in
    let size : length b ≡ 4096 = is.size in
    let room : number_at 2 b 4 ≤ 4072 = is.room in
    let w = Runs-within b (24 + number_at 2 b 4) n m at e r in
    record {
      low = omega (arith, after_above b at, w);
      within = omega (arith, w);
      short = omega (arith, after_above b at, w);
    }

-- ---- the entry at a place is the one that begins there
pub record EntryStands (b : List ℕ) (i : ℕ) : Type 0 where
  pub inside : IsInPage b (start_at b i 24)
  pub end : after_at b (start_at b i 24) ≤ 24 + number_at 2 b 4
  pub is : slice_get (entries_at b (number_at 2 b 2) 24) i ≡ Some (key_at b (start_at b i 24), value_at b (start_at b i 24))

get_start : (b : List ℕ) (i m at : ℕ) → slice_get (entries_at b (i + suc m) at) i ≡ Some (key_at b (start_at b i at), value_at b (start_at b i at))
get_start b zero m at = let e : 0 + suc m ≡ suc m = omega arith in ap (λ k. slice_get (entries_at b k at) 0) e
get_start b (suc i) m at = let e : suc i + suc m ≡ suc (i + suc m) = omega arith in ap (λ k. slice_get (entries_at b k at) (suc i)) e ∙ get_start b i m (after_at b at)

pub entry_stands : (b : List ℕ) (i : ℕ) → has_form b ≡ true → i < number_at 2 b 2 → EntryStands b i
entry_stands b i form lt =
    let rest = number_at 2 b 2 - suc i in
    let count : number_at 2 b 2 ≡ i + suc rest = omega arith in
    let runs = Runs-from b (24 + number_at 2 b 4) i (suc rest) 24 (subst (λ k. Runs b (24 + number_at 2 b 4) k 24) count (is_formed b form).runs) in
    record {
      inside = in_page b (suc rest) rest (start_at b i 24) form refl runs;
      end = Runs-within b (24 + number_at 2 b 4) (suc rest) rest (start_at b i 24) refl runs;
      is = ap (λ k. slice_get (entries_at b k 24) i) count ∙ get_start b i rest 24;
    }

-- ---- one step on, where entries are left
pub left_inside : (b : List ℕ) (left at : ℕ) → has_form b ≡ true → is_filled b (24 + number_at 2 b 4) None left at ≡ true → 0 < left → IsInPage b at
left_inside b left at form filled some = in_page b left (left - 1) at form (omega arith) (record { last = None; run = filled })

pub left_filled : (b : List ℕ) (end left at : ℕ) → is_filled b end None left at ≡ true → 0 < left → is_filled b end None (left - 1) (after_at b at) ≡ true
left_filled b end left at filled some =
    let more : left ≡ suc (left - 1) = omega arith in
    from_none b end (Some (key_at b at)) (left - 1) (after_at b at) (steps b end None (left - 1) at (subst (λ n. is_filled b end None n at ≡ true) more filled)).rest

pub left_entries : (b : List ℕ) (left at : ℕ) → 0 < left → entries_at b left at ≡ (key_at b at, value_at b at) ∷ entries_at b (left - 1) (after_at b at)
left_entries b left at some = let more : left ≡ suc (left - 1) = omega arith in ap (λ n. entries_at b n at) more
