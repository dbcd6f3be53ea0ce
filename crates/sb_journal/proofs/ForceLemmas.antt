-- What a crash leaves in each step of a force.
use Rattle.std.proofs.Common.{◌≡◌, ◌≢◌, inl, inr, ⊎_elim, ℕ, suc, zero, ◌+◌, ◌<◌, ◌≤◌, Option, Some, None, true, false, List, [], ◌∷◌, ◌++◌, length, get_or, take, drop, refl, sym, ◌∙◌, ap, subst, arith, length-drop}
use Rattle.std.proofs.lemmas.List.{length-take, drop-drop, get_or-drop, get_or-take, length_push}
use Rattle.std.proofs.lemmas.Bool.{cases_eq}
use Rattle.std.specs.Int.{to_be_bytes, w32}
use Rattle.sb_bytes.specs.Bytes.{splice}
use Rattle.sb_bytes.proofs.BytesLaws.{slice-splice}
use Rattle.sb_disk.specs.Disk.{Range, Story, AgreesBut, WhereTold, after_write, after_sync, wrote, synced}
use Rattle.sb_disk.specs.Moments.{LeavesOnly, LeavesTorn, Sure, Step, RanOk, RanErr, AllAlong, AllWithin}
use Rattle.sb_disk.proofs.RangeLemmas.{same_slice, AgreesBut-slice, splice-AgreesBut}
use Rattle.sb_disk.proofs.MomentLemmas.{started, ran_ok, ran_err}
use Rattle.sb_journal.specs.Sealing.{sealing}
use Rattle.sb_journal.specs.Chunks.{ReadsAs, bytes_of, chunks_from}
use Rattle.sb_journal.specs.State.{State, chunks_of, pending_of, room_of, Lies, Sound, Stands, StandsOn, IsForced, IsForcedOn, Forced, pending_chunk, sealed, after_force}
use Rattle.sb_journal.proofs.ChunkLemmas.{total, length-chunks_from, total-chunks_from, chunks_from_kept, reads_kept, reads_closed, reads_more, chunks_from_more}
use Rattle.sb_journal.proofs.RegionLemmas.{Ready, lies_on, none_sure, sure_more, take_two, left_by}

-- the steps of a force
abbrev pub steps_of : State → List Step
steps_of j = sealing (j.log.start + bytes_of j.lens) j.pending (j.gates.start + length j.lens)

module _ (s : Story) (j : State) (stands : Stands s j) (lies : Lies (length s.now.reads) j.gates j.log) (sound : Sound j) (clean : j.clean ≡ true) (some : 0 < j.pending) (free : length j.lens < j.gates.len) where
  abbrev old : List ℕ
  old = s.now.reads

  abbrev at : ℕ
  at = j.log.start + bytes_of j.lens

  abbrev gate : ℕ
  gate = j.gates.start + length j.lens

  room : bytes_of j.lens + 4 + j.pending ≤ j.log.len
  room = in_room j.pending some sound.log
    where
      in_room : (p : ℕ) → 0 < p → bytes_of j.lens + room_of p ≤ j.log.len → bytes_of j.lens + 4 + p ≤ j.log.len
      in_room zero below le = absurd (omega arith)
      in_room (suc n) below le = omega arith

  count : length (chunks_of j old) ≡ length j.lens
  count = length-chunks_from j.log.start j.lens old

  total_is : total (chunks_of j old) ≡ bytes_of j.lens
  total_is = total-chunks_from j.log.start j.lens old (let held = lies.log_fits in let inside = room in omega arith)

  four : length (to_be_bytes w32 j.pending) ≡ 4
  four = refl

  -- an image whose gates and chunks are as they were
  reads_old : (image : List ℕ) (ranges : List Range) → AgreesBut ranges old image → Sure j.gates.start j.gates.len ranges → Sure j.log.start (bytes_of j.lens) ranges → ReadsAs j.gates j.log image (chunks_of j old)
  reads_old image ranges agrees gates chunks =
      reads_kept (chunks_of j old) j.gates.start (j.gates.start + j.gates.len) j.log.start (j.log.start + j.log.len) old image agrees.size
      (λ i from to below. agrees.bytes i (gates i from below))
      (λ i from to. agrees.bytes i (chunks i from (let same_sum = total_is in omega arith)))
      stands.reads

  -- the length field is torn
  pub first : (image : List ℕ) → LeavesTorn at (length (to_be_bytes w32 j.pending)) (Some s) image → IsForced s j image
  first image torn = record {
    chunks = inl (reads_old image (record { start = at; len = 4 } ∷ s.now.written) torn
        (sure_more j.gates.start j.gates.len (record { start = at; len = 4 }) s.now.written stands.gates
        (⊎_elim (λ (order : j.gates.start + j.gates.len ≤ j.log.start). inl (omega arith)) (λ (order : j.log.start + j.log.len ≤ j.gates.start). inr (let inside = room in omega arith)) lies.apart))
        (sure_more j.log.start (bytes_of j.lens) (record { start = at; len = 4 }) s.now.written stands.chunks (inl (omega arith))));
    elsewhere = record {
      size = torn.size;
      bytes = λ i out. torn.bytes i (λ covered. ⊎_elim (λ here. out (inr (inl ((let from = here.0 in omega arith), (let to = here.1 in let inside = room in omega arith))))) (λ there. out (inr (inr there))) covered);
    };
  }

  -- the disk with the length field
  abbrev mid : List ℕ
  mid = splice at (to_be_bytes w32 j.pending) old

  mid_agrees : AgreesBut (record { start = at; len = 4 } ∷ []) old mid
  mid_agrees = splice-AgreesBut at (to_be_bytes w32 j.pending) old (let held = lies.log_fits in let inside = room in omega arith)

  gates_off : (place size : ℕ) → j.log.start ≤ place → place + size ≤ j.log.start + j.log.len → Sure j.gates.start j.gates.len (record { start = place; len = size } ∷ [])
  gates_off place size from to = sure_more j.gates.start j.gates.len (record { start = place; len = size }) [] (none_sure j.gates.start j.gates.len)
      (⊎_elim (λ (order : j.gates.start + j.gates.len ≤ j.log.start). inl (omega arith)) (λ (order : j.log.start + j.log.len ≤ j.gates.start). inr (omega arith)) lies.apart)

  log_off : (place size : ℕ) → j.gates.start ≤ place → place + size ≤ j.gates.start + j.gates.len → Sure j.log.start j.log.len (record { start = place; len = size } ∷ [])
  log_off place size from to = sure_more j.log.start j.log.len (record { start = place; len = size }) [] (none_sure j.log.start j.log.len)
      (⊎_elim (λ (order : j.gates.start + j.gates.len ≤ j.log.start). inr (omega arith)) (λ (order : j.log.start + j.log.len ≤ j.gates.start). inl (omega arith)) lies.apart)

  -- what agrees with it but for the gate
  both : (image : List ℕ) → AgreesBut (record { start = gate; len = 1 } ∷ []) mid image → (i : ℕ) → (at ≤ i → i < at + 4 → ⊥) → i ≢ gate → get_or old i 0 ≡ get_or image i 0
  both image agrees i out other = mid_agrees.bytes i (λ covered. ⊎_elim (λ here. out here.0 here.1) (λ none. none) covered)
      ∙ agrees.bytes i (λ covered. ⊎_elim (λ (here : (gate ≤ i) × (i < gate + 1)). absurd (other (let from = here.0 in let to = here.1 in omega arith))) (λ none. none) covered)

  pending_len : length (pending_of j old) ≡ j.pending
  pending_len = let held = lies.log_fits in omega (arith, length-take j.pending (drop (at + 4) old), length-drop (at + 4) old, room)

  -- the pending chunk is spelled behind the chunks
  spelled : (image : List ℕ) → AgreesBut (record { start = gate; len = 1 } ∷ []) mid image
      → take (4 + length (pending_of j old)) (drop (j.log.start + total (chunks_of j old)) image) ≡ to_be_bytes w32 (length (pending_of j old)) ++ pending_of j old
  spelled image agrees =
      let off = log_off gate 1 (omega arith) (omega arith) in
      let front : take 4 (drop at image) ≡ to_be_bytes w32 j.pending =
      sym (AgreesBut-slice (record { start = gate; len = 1 } ∷ []) mid image at 4 agrees (λ i from to. off i (omega arith) (let inside = room in omega arith)))
      ∙ slice-splice at (to_be_bytes w32 j.pending) old (let held = lies.log_fits in let inside = room in omega arith) in
      let back : take j.pending (drop (at + 4) image) ≡ pending_of j old =
      sym (same_slice (at + 4) j.pending old image (mid_agrees.size ∙ agrees.size)
      (λ i from to. both image agrees i (λ from_field to_field. omega arith) (λ is. off i (omega arith) (let inside = room in omega arith) (inl (omega arith, omega arith))))) in
      let here : take (4 + j.pending) (drop at image) ≡ to_be_bytes w32 j.pending ++ pending_of j old =
      take_two 4 j.pending (drop at image) ∙ ap (λ (tail : List ℕ). take 4 (drop at image) ++ take j.pending tail) (drop-drop 4 at image) ∙ (λ i. front i ++ back i) in
      let len = pending_len in
      let place : j.log.start + total (chunks_of j old) ≡ at = ap (λ (k : ℕ). j.log.start + k) total_is in
      subst (λ (n : ℕ). take (4 + n) (drop (j.log.start + total (chunks_of j old)) image) ≡ to_be_bytes w32 n ++ pending_of j old) (sym len)
      (subst (λ (k : ℕ). take (4 + j.pending) (drop k image) ≡ to_be_bytes w32 j.pending ++ pending_of j old) (sym place) here)

  after : (image : List ℕ) → AgreesBut (record { start = gate; len = 1 } ∷ []) mid image → (i : ℕ) → j.log.start ≤ i → i < j.log.start + bytes_of j.lens → get_or old i 0 ≡ get_or image i 0
  after image agrees i from to = both image agrees i (λ from_field to_field. omega arith)
      (λ is. log_off gate 1 (omega arith) (omega arith) i from (let inside = room in omega arith) (inl (omega arith, omega arith)))

  -- a gate is no byte of the length field
  gate_apart : (i : ℕ) → j.gates.start ≤ i → i < j.gates.start + j.gates.len → at ≤ i → i < at + 4 → ⊥
  gate_apart i from to from_field to_field = gates_off at 4 (omega arith) (let inside = room in omega arith) i from to (inl (from_field, to_field))

  -- the gate is open
  opened : (image : List ℕ) → AgreesBut (record { start = gate; len = 1 } ∷ []) mid image → get_or image gate 0 ≡ 165 → ReadsAs j.gates j.log image (chunks_of j old ++ pending_of j old ∷ [])
  opened image agrees is =
      let chunk_count = count in
      let same_sum : j.gates.start + length (chunks_of j old) ≡ gate = omega arith in
      let pending_is = pending_len in
      let bytes_are = total_is in
      reads_more (chunks_of j old) (pending_of j old) j.gates.start (j.gates.start + j.gates.len) j.log.start (j.log.start + j.log.len) old image
      (mid_agrees.size ∙ agrees.size)
      (λ i from to. both image agrees i (gate_apart i from (omega arith)) (λ same. omega arith))
      (λ i from to. after image agrees i from (omega arith))
      (omega arith)
      (subst (λ (k : ℕ). get_or image k 0 ≡ 165) (sym same_sum) is)
      (λ below open2. stands.shut.0 clean (j.gates.start + length (chunks_of j old) + 1) (omega arith) below
      (both image agrees (j.gates.start + length (chunks_of j old) + 1) (gate_apart (j.gates.start + length (chunks_of j old) + 1) (omega arith) below) (λ same. omega arith) ∙ open2))
      (let inside = room in omega arith)
      (spelled image agrees)
      stands.reads

  -- the gate is not
  closed : (image : List ℕ) → AgreesBut (record { start = gate; len = 1 } ∷ []) mid image → get_or image gate 0 ≢ 165 → ReadsAs j.gates j.log image (chunks_of j old)
  closed image agrees not_open =
      let chunk_count = count in
      let same_sum : j.gates.start + length (chunks_of j old) ≡ gate = omega arith in
      let bytes_are = total_is in
      reads_closed (chunks_of j old) j.gates.start (j.gates.start + j.gates.len) j.log.start (j.log.start + j.log.len) old image
      (mid_agrees.size ∙ agrees.size)
      (λ i from to. both image agrees i (gate_apart i from (omega arith)) (λ same. omega arith))
      (λ i from to. after image agrees i from (omega arith))
      (λ below. subst (λ (k : ℕ). get_or image k 0 ≢ 165) (sym same_sum) not_open)
      stands.reads

  -- the gate is torn
  pub second : (image : List ℕ) → LeavesTorn gate 1 (synced (wrote at (to_be_bytes w32 j.pending) (Some s))) image → IsForced s j image
  second image torn = record {
    chunks = ⊎_elim (λ is. inr (opened image torn is)) (λ not_open. inl (closed image torn not_open)) (cases_eq (get_or image gate 0) 165);
    elsewhere = record {
      size = mid_agrees.size ∙ torn.size;
      bytes = λ i out. both image torn i (λ from to. out (inr (inl (omega arith, (let inside = room in omega arith))))) (λ is. out (inl (omega arith, omega arith)));
    };
  }

  -- the disk at the end
  abbrev last : List ℕ
  last = splice gate (165 ∷ []) mid

  last_agrees : AgreesBut (record { start = gate; len = 1 } ∷ []) mid last
  last_agrees = splice-AgreesBut gate (165 ∷ []) mid (let held = lies.gates_fit in let same_sum = mid_agrees.size in omega arith)

  is_open : get_or last gate 0 ≡ 165
  is_open =
      let one : take 1 (drop gate last) ≡ 165 ∷ [] = slice-splice gate (165 ∷ []) mid (let held = lies.gates_fit in let same_sum = mid_agrees.size in omega arith) in
      let same_sum : gate + 0 ≡ gate = omega arith in
      ap (λ (k : ℕ). get_or last k 0) (sym same_sum) ∙ sym (get_or-drop gate last 0 0) ∙ sym (get_or-take 1 (drop gate last) 0 0 (omega arith)) ∙ ap (λ (tail : List ℕ). get_or tail 0 0) one

  abbrev end : Story
  end = after_sync (after_write gate 1 last (after_sync (after_write at 4 mid s)))

  sealed_is : sealed j.pending j.lens ≡ j.lens ++ j.pending ∷ []
  sealed_is = go j.pending some
    where
      go : (p : ℕ) → 0 < p → sealed p j.lens ≡ j.lens ++ p ∷ []
      go zero below = absurd (omega arith)
      go (suc n) below = refl

  chunk_is : pending_chunk j.pending (pending_of j old) ≡ pending_of j old ∷ []
  chunk_is = go j.pending some
    where
      go : (p : ℕ) → 0 < p → pending_chunk p (pending_of j old) ≡ pending_of j old ∷ []
      go zero below = absurd (omega arith)
      go (suc n) below = refl

  chunks_end : chunks_of (after_force j) last ≡ chunks_of j old ++ pending_of j old ∷ []
  chunks_end =
      let back : take j.pending (drop (at + 4) last) ≡ pending_of j old =
      sym (same_slice (at + 4) j.pending old last (mid_agrees.size ∙ last_agrees.size)
      (λ i from to. both last last_agrees i (λ from_field to_field. omega arith) (λ is. log_off gate 1 (omega arith) (omega arith) i (omega arith) (let inside = room in omega arith) (inl (omega arith, omega arith))))) in
      let front : chunks_of j last ≡ chunks_of j old = sym (chunks_from_kept j.log.start j.lens old last (mid_agrees.size ∙ last_agrees.size) (λ i from to. after last last_agrees i from to)) in
      ap (λ (tail : List ℕ). chunks_from j.log.start tail last) sealed_is
      ∙ chunks_from_more j.log.start j.pending j.lens last
      ∙ (λ i. front i ++ back i ∷ [])

  pub done : Forced j (after_force j) s end
  done = record {
    stands = record {
      reads = subst (λ (chunks : List (List ℕ)). ReadsAs j.gates j.log last chunks) (sym chunks_end) (opened last last_agrees is_open);
      gates = none_sure j.gates.start j.gates.len;
      chunks = none_sure j.log.start (bytes_of (sealed j.pending j.lens));
      shut = (
        (λ yes i from to is.
            let same_sum : length (sealed j.pending j.lens) ≡ length j.lens + 1 = ap length sealed_is ∙ length_push j.lens j.pending in
            stands.shut.0 clean i (omega arith) to (both last last_agrees i (gate_apart i (omega arith) to) (λ same. omega arith) ∙ is)),
        (λ none. clean),
      );
    };
    chunks = chunks_end ∙ ap (λ (tail : List (List ℕ)). chunks_of j old ++ tail) (sym chunk_is);
    elsewhere = record {
      size = mid_agrees.size ∙ last_agrees.size;
      bytes = λ i out. both last last_agrees i (λ from to. out (inr (inl (omega arith, (let inside = room in omega arith))))) (λ is. out (inl (omega arith, omega arith)));
    };
    settled = λ below. refl;
    idle = λ none. absurd (omega arith);
  }

pub force_none : (told : Option Story) (size clock : ℕ) (j : State) → Ready told size clock j → LeavesOnly told told (IsForcedOn told j)
force_none None size clock j ready = started None (IsForcedOn None j) (λ image left. left)
force_none (Some s) size clock j ready =
    started (Some s) (IsForcedOn (Some s) j) (λ image left up. record {
      chunks = inl (left_by s j (ready.stands up) (lies_on s size j ready.fits.bytes ready.lies) ready.sound image left);
      elsewhere = record { size = left.size; bytes = λ i out. left.bytes i (λ covered. out (inr (inr covered))) };
    })

along : (s : Story) (size clock : ℕ) (j : State) → Ready (Some s) size clock j → j.clean ≡ true → 0 < j.pending → length j.lens < j.gates.len → AllAlong (steps_of j) (Some s) (IsForcedOn (Some s) j)
along s size clock j ready clean some free =
    let lies = lies_on s size j ready.fits.bytes ready.lies in (
      (λ image torn up. first s j (ready.stands up) lies ready.sound clean some free image torn),
      ((λ image torn up. second s j (ready.stands up) lies ready.sound clean some free image torn), tt),
    )

within : (size : ℕ) (j : State) → Lies size j.gates j.log → Sound j → 0 < j.pending → length j.lens < j.gates.len → AllWithin size (steps_of j)
within size j lies sound some free = (
  (let held = lies.log_fits in let k = room_is in omega arith),
  ((let held = lies.gates_fit in omega arith), tt),
)
  where
    room_is : bytes_of j.lens + 4 ≤ j.log.len
    room_is = go j.pending some sound.log
      where
        go : (p : ℕ) → 0 < p → bytes_of j.lens + room_of p ≤ j.log.len → bytes_of j.lens + 4 ≤ j.log.len
        go zero below le = absurd (omega arith)
        go (suc n) below le = omega arith

pub force_leaves_ok : (told new : Option Story) (size clock : ℕ) (j : State) → Ready told size clock j → j.clean ≡ true → 0 < j.pending → length j.lens < j.gates.len
    → RanOk (steps_of j) told new → LeavesOnly told new (IsForcedOn told j)
force_leaves_ok None new size clock j ready clean some free ran = subst (λ (n : Option Story). LeavesOnly None n (IsForcedOn None j)) (sym ran) (force_none None size clock j ready)
force_leaves_ok (Some s) new size clock j ready clean some free ran =
    ran_ok (steps_of j) size (Some s) (Some s) new (IsForcedOn (Some s) j) ready.fits.bytes (within size j ready.lies ready.sound some free)
    (force_none (Some s) size clock j ready) (along s size clock j ready clean some free) ran

none_err : (j : State) (new : Option Story) → RanErr (steps_of j) None new → new ≡ None
none_err j new (inl a) = a
none_err j new (inr (inl a)) = a
none_err j new (inr (inr (inl a))) = a
none_err j new (inr (inr (inr (inl a)))) = a
none_err j new (inr (inr (inr (inr none)))) = absurd none

pub force_leaves_err : (told new : Option Story) (size clock : ℕ) (j : State) → Ready told size clock j → j.clean ≡ true → 0 < j.pending → length j.lens < j.gates.len
    → RanErr (steps_of j) told new → LeavesOnly told new (IsForcedOn told j)
force_leaves_err None new size clock j ready clean some free ran =
    subst (λ (n : Option Story). LeavesOnly None n (IsForcedOn None j)) (sym (none_err j new ran)) (force_none None size clock j ready)
force_leaves_err (Some s) new size clock j ready clean some free ran =
    ran_err (steps_of j) size (Some s) (Some s) new (IsForcedOn (Some s) j) ready.fits.bytes (within size j ready.lies ready.sound some free)
    (force_none (Some s) size clock j ready) (along s size clock j ready clean some free) ran

pub force_ok : (told new : Option Story) (size clock : ℕ) (j : State) → Ready told size clock j → j.clean ≡ true → 0 < j.pending → length j.lens < j.gates.len
    → j.failed ≡ false → RanOk (steps_of j) told new → WhereTold told new (Forced j (after_force j))
force_ok None new size clock j ready clean some free up ran = ran
force_ok (Some s) new size clock j ready clean some free up ran =
    subst (λ (n : Option Story). WhereTold (Some s) n (Forced j (after_force j))) (sym ran)
    (done s j (ready.stands up) (lies_on s size j ready.fits.bytes ready.lies) ready.sound clean some free)

pub Forced-StandsOn : (a b : Option Story) (j k : State) → WhereTold a b (Forced j k) → StandsOn b k
Forced-StandsOn None b j k now = subst (λ (n : Option Story). StandsOn n k) (sym now) tt
Forced-StandsOn (Some s) None j k now = absurd now
Forced-StandsOn (Some s) (Some t) j k now = λ up. now.stands
