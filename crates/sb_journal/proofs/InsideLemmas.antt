-- What the fields of a journal are in its state.
use Rattle.std.proofs.Common.{◌≡◌, ◌+◌, ◌<◌, ◌≤◌, ℕ, zero, suc, Option, List, [], ◌∷◌, ◌++◌, length, get_or, refl, sym, ◌∙◌, ap, subst, arith}
use Rattle.std.proofs.lemmas.List.{length_push, get_or_default}
use Rattle.std.specs.Prelude.{vec_capacity}
use Rattle.sb_disk.specs.Disk.{Story, Fits}
use Rattle.sb_journal.specs.Sealing.{sealing}
use Rattle.sb_journal.specs.declared.journal.Journal.TheInside.{Inside}
use Rattle.sb_journal.specs.declared.journal.Region.{Region}
use Rattle.sb_journal.specs.Chunks.{bytes_of, places_from}
use Rattle.sb_journal.specs.State.{State, Lies, StandsOn, Sound, room_of, need_of, sealed, counted, after_force}
use Rattle.sb_journal.specs.View.{state_of, Kept}
use Rattle.sb_journal.proofs.ChunkLemmas.{bytes_of_more, places_from_more, length-places_from, place_room}
use Rattle.sb_journal.proofs.RegionLemmas.{Ready}
use Rattle.sb_journal.proofs.ForceLemmas.{steps_of}

pub ready : (told : Option Story) (size clock : ℕ) (a : Inside) (j : State) → state_of a ≡ j → Kept a → Fits size clock told → StandsOn told j → Lies size j.gates j.log → Ready told size clock j
ready told size clock a j is kept fits stands lies = record { fits = fits; stands = stands; lies = lies; sound = subst Sound is kept.sound }

-- ---- append
pub place_is : (a : Inside) (j : State) → state_of a ≡ j → Kept a → a.log.start + a.used + 4 + a.pending ≡ j.log.start + bytes_of j.lens + 4 + j.pending
place_is a j is kept = (λ i. a.log.start + kept.used i + 4 + a.pending) ∙ ap (λ (k : State). k.log.start + bytes_of k.lens + 4 + k.pending) is

pub fits_log : (a : Inside) (j : State) (n used need : ℕ) → state_of a ≡ j → Kept a → used ≡ bytes_of a.lens.items + room_of a.pending → need ≡ need_of a.pending n → used + need ≤ a.log.len → bytes_of j.lens + 4 + j.pending + n ≤ j.log.len
fits_log a j n used need is kept used_is need_is le = subst (λ (k : State). bytes_of k.lens + 4 + k.pending + n ≤ k.log.len) is (go a.pending used_is need_is)
  where
    go : (p : ℕ) → used ≡ bytes_of a.lens.items + room_of p → need ≡ need_of p n → bytes_of a.lens.items + 4 + p + n ≤ a.log.len
    go zero u e = omega arith
    go (suc p) u e = omega arith

-- more bytes are pending, and nothing else has changed
pub sound_more : (a : Inside) (n used need : ℕ) → Kept a → 0 < n → used ≡ bytes_of a.lens.items + room_of a.pending → need ≡ need_of a.pending n → used + need ≤ a.log.len → bytes_of a.lens.items + room_of (a.pending + n) ≤ a.log.len
sound_more a n used need kept some used_is need_is le = go a.pending n some used_is need_is
  where
    go : (p n : ℕ) → 0 < n → used ≡ bytes_of a.lens.items + room_of p → need ≡ need_of p n → bytes_of a.lens.items + room_of (p + n) ≤ a.log.len
    go zero zero some u e = absurd (omega arith)
    go zero (suc n) some u e =
        let sum : 0 + suc n ≡ suc n = omega arith in
        let room : room_of (0 + suc n) ≡ 4 + suc n = ap room_of sum in
        omega arith
    go (suc p) n some u e =
        let sum : suc p + n ≡ suc (p + n) = omega arith in
        let room : room_of (suc p + n) ≡ 4 + suc (p + n) = ap room_of sum in
        omega arith

-- ---- force
-- the calls that the code makes are those of the state
pub steps_are : (a : Inside) (j : State) → state_of a ≡ j → Kept a → (n : ℕ) → n ≡ length a.lens.items
    → sealing (a.log.start + a.used) a.pending (a.gates.start + n) ≡ steps_of j
steps_are a j is kept n count =
    (λ i. sealing (a.log.start + kept.used i) a.pending (a.gates.start + count i)) ∙ ap steps_of is

-- the fields after a force are those that are stated
pub after_is : (a b : Inside) → 0 < a.pending → b.gates ≡ a.gates → b.log ≡ a.log → b.lens.items ≡ a.lens.items ++ a.pending ∷ [] → b.pending ≡ 0 → b.forces ≡ counted a.pending a.forces → b.clean ≡ a.clean → b.failed ≡ a.failed
    → after_force (state_of a) ≡ state_of b
after_is a b some gates log items pending forces clean failed = sym (λ i. record {
  gates = record { start = (gates i).start; len = (gates i).len };
  log = record { start = (log i).start; len = (log i).len };
  lens = (items ∙ sym (sealed_is a.pending some)) i;
  pending = pending i;
  forces = forces i;
  clean = clean i;
  failed = failed i;
})
  where
    sealed_is : (p : ℕ) → 0 < p → sealed p a.lens.items ≡ a.lens.items ++ p ∷ []
    sealed_is zero lt = absurd (omega arith)
    sealed_is (suc n) lt = refl

pub counted_more : (p forces : ℕ) → 0 < p → counted p forces ≡ counted 1 forces
counted_more zero forces lt = absurd (omega arith)
counted_more (suc p) forces lt = refl

pub kept_after : (a b : Inside) → Kept a → 0 < a.pending → length a.lens.items < a.gates.len → b.gates ≡ a.gates → b.log ≡ a.log
    → b.lens.items ≡ a.lens.items ++ a.pending ∷ [] → b.places.items ≡ a.places.items ++ a.used ∷ [] → b.used ≡ a.used + (4 + a.pending) → b.pending ≡ 0
    → vec_capacity a.lens ≤ vec_capacity b.lens → vec_capacity a.places ≤ vec_capacity b.places → Kept b
kept_after a b kept some free gates log items place_items used pending memory place_memory =
    let s = kept.sound in
    let u = kept.used in
    let m = kept.memory in
    let m_places = kept.place_memory in
    let gates_start : b.gates.start ≡ a.gates.start = ap (λ (r : Region). r.start) gates in
    let gates_len : b.gates.len ≡ a.gates.len = ap (λ (r : Region). r.len) gates in
    let log_start : b.log.start ≡ a.log.start = ap (λ (r : Region). r.start) log in
    let log_len : b.log.len ≡ a.log.len = ap (λ (r : Region). r.len) log in
    let room : bytes_of a.lens.items + 4 + a.pending ≤ a.log.len = in_room a.pending some s.log in
    let new_bytes : bytes_of b.lens.items ≡ bytes_of a.lens.items + 4 + a.pending = ap bytes_of items ∙ bytes_of_more a.lens.items a.pending in
    let new_count : length b.lens.items ≡ length a.lens.items + 1 = ap length items ∙ length_push a.lens.items a.pending in
    let none : room_of b.pending ≡ 0 = ap room_of pending in
    record {
      sound = record { gates = (let x = s.gates in omega arith); most = (let x = s.most in omega arith); log = omega arith; short = (let x = s.short in omega arith) };
      places = place_items
          ∙ (λ i. kept.places i ++ u i ∷ [])
          ∙ sym (ap (places_from 0) items ∙ places_from_more 0 a.pending a.lens.items ∙ ap (λ (k : ℕ). places_from 0 a.lens.items ++ k ∷ []) start);
      used = omega arith;
      gates = (let x = kept.gates in omega arith);
      log = (let x = kept.log in omega arith);
      memory = omega arith;
      place_memory = omega arith;
    }
  where
    start : 0 + bytes_of a.lens.items ≡ bytes_of a.lens.items
    start = omega arith

    in_room : (p : ℕ) → 0 < p → bytes_of a.lens.items + room_of p ≤ a.log.len → bytes_of a.lens.items + 4 + p ≤ a.log.len
    in_room zero lt le = absurd (omega arith)
    in_room (suc n) lt le = omega arith

-- ---- places
-- a push more has room, as in the lengths
pub place_free : (a : Inside) → Kept a → length a.lens.items < a.gates.len → length a.places.items < vec_capacity a.places
place_free a kept free =
    let count : length a.places.items ≡ length a.lens.items = ap length kept.places ∙ length-places_from 0 a.lens.items in
    let memory = kept.place_memory in
    omega arith

pub place_count : (a : Inside) (j : State) (i : ℕ) → state_of a ≡ j → Kept a → i < length j.lens → i < length a.places.items
place_count a j i is kept lt =
    let count : length a.places.items ≡ length a.lens.items = ap length kept.places ∙ length-places_from 0 a.lens.items in
    let same : length a.lens.items ≡ length j.lens = ap (λ (k : State). length k.lens) is in
    omega arith

pub place_of : (a : Inside) (j : State) (i place : ℕ) → state_of a ≡ j → Kept a → place ≡ get_or a.places.items i 0 → place ≡ get_or (places_from 0 j.lens) i 0
place_of a j i place is kept found = found ∙ ap (λ (l : List ℕ). get_or l i 0) kept.places ∙ ap (λ (k : State). get_or (places_from 0 k.lens) i 0) is

-- what is read of a chunk lies in the log
pub read_fits : (a : Inside) (j : State) (i at n place : ℕ) → state_of a ≡ j → Kept a → place ≡ get_or a.places.items i 0 → i < length j.lens → at + n ≤ get_or j.lens i 0 → place + 4 + at + n ≤ a.log.len
read_fits a j i at n place is kept found lt within =
    let room = place_room 0 j.lens i lt in
    let here = place_of a j i place is kept found in
    let total : bytes_of a.lens.items ≡ bytes_of j.lens = ap (λ (k : State). bytes_of k.lens) is in
    let log = kept.sound.log in
    omega arith

-- what an index gives, at the default 0
pub found_at : (xs : List ℕ) (i x : ℕ) → i < length xs → get_or xs i x ≡ x → x ≡ get_or xs i 0
found_at xs i x lt is = sym is ∙ get_or_default xs i x 0 lt
