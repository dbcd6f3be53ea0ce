-- What a crash leaves of an append.
use Rattle.std.proofs.Common.{◌≡◌, inl, inr, ⊎_elim, ℕ, ◌+◌, ◌<◌, ◌≤◌, Option, Some, None, false, List, [], ◌∷◌, ◌++◌, length, get_or, take, drop, sym, ◌∙◌, ap, subst, arith}
use Rattle.std.proofs.lemmas.List.{drop-drop}
use Rattle.sb_bytes.specs.Bytes.{splice}
use Rattle.sb_bytes.proofs.BytesLaws.{slice-splice}
use Rattle.sb_disk.specs.Disk.{Range, Story, AgreesBut, WhereTold, after_write, wrote, FailedWrite}
use Rattle.sb_disk.specs.Moments.{LeavesOnly, LeavesTorn, Sure}
use Rattle.sb_disk.proofs.RangeLemmas.{AgreesBut-slice, AgreesBut-more, splice-AgreesBut}
use Rattle.sb_disk.proofs.MomentLemmas.{started, on_write, on_failed_write}
use Rattle.sb_journal.specs.Chunks.{ReadsAs, bytes_of}
use Rattle.sb_journal.specs.State.{State, chunks_of, pending_of, Lies, Sound, Stands, StandsOn, IsKept, IsKeptOn, Appended, after_append}
use Rattle.sb_journal.proofs.ChunkLemmas.{chunks_from_kept}
use Rattle.sb_journal.proofs.RegionLemmas.{Ready, lies_on, none_sure, sure_more, take_two, kept_by, left_by}

module _ (s : Story) (j : State) (stands : Stands s j) (lies : Lies (length s.now.reads) j.gates j.log) (sound : Sound j) (bytes : List ℕ) (fits : bytes_of j.lens + 4 + j.pending + length bytes ≤ j.log.len) where
  abbrev old : List ℕ
  old = s.now.reads

  abbrev place : ℕ
  place = j.log.start + bytes_of j.lens + 4 + j.pending

  abbrev range : Range
  range = record { start = place; len = length bytes }

  gates_off : (written : List Range) → Sure j.gates.start j.gates.len written → Sure j.gates.start j.gates.len (range ∷ written)
  gates_off written sure = sure_more j.gates.start j.gates.len range written sure
      (⊎_elim (λ (order : j.gates.start + j.gates.len ≤ j.log.start). inl (omega arith)) (λ (order : j.log.start + j.log.len ≤ j.gates.start). inr (omega arith)) lies.apart)

  chunks_off : (n : ℕ) (written : List Range) → n ≤ bytes_of j.lens + 4 + j.pending → Sure j.log.start n written → Sure j.log.start n (range ∷ written)
  chunks_off n written le sure = sure_more j.log.start n range written sure (inl (omega arith))

  pub torn_kept : (image : List ℕ) → LeavesTorn place (length bytes) (Some s) image → IsKept s j image
  torn_kept image torn = record {
    chunks = kept_by s j stands lies sound (range ∷ s.now.written) image torn (gates_off s.now.written stands.gates) (chunks_off (bytes_of j.lens) s.now.written (omega arith) stands.chunks);
    elsewhere = record {
      size = torn.size;
      bytes = λ i out. torn.bytes i (λ covered. ⊎_elim (λ here. out (inl ((let from = here.0 in omega arith), (let to = here.1 in omega arith)))) (λ there. out (inr there)) covered);
    };
  }

  abbrev last : List ℕ
  last = splice place bytes old

  agrees : AgreesBut (range ∷ []) old last
  agrees = splice-AgreesBut place bytes old (let held = lies.log_fits in omega arith)

  gate_kept : (i : ℕ) → j.gates.start ≤ i → i < j.gates.start + j.gates.len → get_or old i 0 ≡ get_or last i 0
  gate_kept i from to = agrees.bytes i (gates_off [] (none_sure j.gates.start j.gates.len) i from to)

  pub appended : Appended bytes j (after_append (length bytes) j) s (after_write place (length bytes) last s)
  appended =
      let front : chunks_of j old ≡ chunks_of j last = chunks_from_kept j.log.start j.lens old last agrees.size
      (λ i from to. agrees.bytes i (chunks_off (bytes_of j.lens) [] (omega arith) (none_sure j.log.start (bytes_of j.lens)) i from to)) in
      let body = j.log.start + bytes_of j.lens + 4 in
      let before : take j.pending (drop body last) ≡ pending_of j old = sym (AgreesBut-slice (range ∷ []) old last body j.pending agrees
      (λ i from to. chunks_off (bytes_of j.lens + 4 + j.pending) [] (omega arith) (none_sure j.log.start (bytes_of j.lens + 4 + j.pending)) i (omega arith) (omega arith))) in
      let here : take (length bytes) (drop place last) ≡ bytes = slice-splice place bytes old (let held = lies.log_fits in omega arith) in
      record {
        stands = record {
          reads = subst (λ (chunks : List (List ℕ)). ReadsAs j.gates j.log last chunks) front
              (kept_by s j stands lies sound (range ∷ []) last agrees (gates_off [] (none_sure j.gates.start j.gates.len)) (chunks_off (bytes_of j.lens) [] (omega arith) (none_sure j.log.start (bytes_of j.lens))));
          gates = gates_off s.now.written stands.gates;
          chunks = chunks_off (bytes_of j.lens) s.now.written (omega arith) stands.chunks;
          shut = (
            (λ clean i from to is. stands.shut.0 clean i from to (gate_kept i (omega arith) to ∙ is)),
            (λ none. stands.shut.1 (λ i from to is. none i from to (sym (gate_kept i (omega arith) to) ∙ is))),
          );
        };
        chunks = sym front;
        pending = take_two j.pending (length bytes) (drop body last) ∙ ap (λ (tail : List ℕ). take j.pending (drop body last) ++ take (length bytes) tail) (drop-drop j.pending body last) ∙ (λ i. before i ++ here i);
        elsewhere = record { size = agrees.size; bytes = λ i out. agrees.bytes i (λ covered. ⊎_elim (λ here. out (inl ((let from = here.0 in omega arith), (let to = here.1 in omega arith)))) (λ none. none) covered) };
        written = λ i covered. ⊎_elim (λ here. inr (inl ((let from = here.0 in omega arith), (let to = here.1 in omega arith)))) (λ there. inl there) covered;
      }

pub append_none : (told : Option Story) (size clock : ℕ) (j : State) → Ready told size clock j → LeavesOnly told told (IsKeptOn told j)
append_none None size clock j ready = started None (IsKeptOn None j) (λ image left. left)
append_none (Some s) size clock j ready =
    started (Some s) (IsKeptOn (Some s) j) (λ image left up. record {
      chunks = left_by s j (ready.stands up) (lies_on s size j ready.fits.bytes ready.lies) ready.sound image left;
      elsewhere = AgreesBut-more j.log s.now.written s.now.reads image left;
    })

pub append_leaves_ok : (told new : Option Story) (size clock : ℕ) (j : State) (bytes : List ℕ) → Ready told size clock j → bytes_of j.lens + 4 + j.pending + length bytes ≤ j.log.len
    → new ≡ wrote (j.log.start + bytes_of j.lens + 4 + j.pending) bytes told → LeavesOnly told new (IsKeptOn told j)
append_leaves_ok None new size clock j bytes ready fits is = subst (λ (n : Option Story). LeavesOnly None n (IsKeptOn None j)) (sym is) (append_none None size clock j ready)
append_leaves_ok (Some s) new size clock j bytes ready fits is =
    let lies = lies_on s size j ready.fits.bytes ready.lies in
    on_write (Some s) (Some s) new (IsKeptOn (Some s) j) (j.log.start + bytes_of j.lens + 4 + j.pending) bytes (let held = lies.log_fits in omega arith)
    (append_none (Some s) size clock j ready) is (λ image torn up. torn_kept s j (ready.stands up) lies ready.sound bytes fits image torn)

pub append_leaves_err : (told new : Option Story) (size clock : ℕ) (j : State) (bytes : List ℕ) → Ready told size clock j → bytes_of j.lens + 4 + j.pending + length bytes ≤ j.log.len
    → FailedWrite (j.log.start + bytes_of j.lens + 4 + j.pending) (length bytes) told new → LeavesOnly told new (IsKeptOn told j)
append_leaves_err None new size clock j bytes ready fits is = subst (λ (n : Option Story). LeavesOnly None n (IsKeptOn None j)) (sym is) (append_none None size clock j ready)
append_leaves_err (Some s) new size clock j bytes ready fits is =
    let lies = lies_on s size j ready.fits.bytes ready.lies in
    on_failed_write (Some s) (Some s) new (IsKeptOn (Some s) j) (j.log.start + bytes_of j.lens + 4 + j.pending) (length bytes)
    (append_none (Some s) size clock j ready) is (λ image torn up. torn_kept s j (ready.stands up) lies ready.sound bytes fits image torn)

pub append_ok : (told new : Option Story) (size clock : ℕ) (j : State) (bytes : List ℕ) → Ready told size clock j → bytes_of j.lens + 4 + j.pending + length bytes ≤ j.log.len
    → j.failed ≡ false → new ≡ wrote (j.log.start + bytes_of j.lens + 4 + j.pending) bytes told → WhereTold told new (Appended bytes j (after_append (length bytes) j))
append_ok None new size clock j bytes ready fits up is = is
append_ok (Some s) new size clock j bytes ready fits up is =
    subst (λ (n : Option Story). WhereTold (Some s) n (Appended bytes j (after_append (length bytes) j))) (sym is)
    (appended s j (ready.stands up) (lies_on s size j ready.fits.bytes ready.lies) ready.sound bytes fits)

pub Appended-StandsOn : (bytes : List ℕ) (a b : Option Story) (j k : State) → WhereTold a b (Appended bytes j k) → StandsOn b k
Appended-StandsOn bytes None b j k now = subst (λ (n : Option Story). StandsOn n k) (sym now) tt
Appended-StandsOn bytes (Some s) None j k now = absurd now
Appended-StandsOn bytes (Some s) (Some t) j k now = λ up. now.stands
