-- A journal whose regions a change doesn't reach.
use Rattle.std.proofs.Common.{◌≡◌, ◌⊎◌, inl, inr, ⊎_elim, ℕ, suc, zero, ◌+◌, ◌<◌, ◌≤◌, Option, Some, None, List, [], ◌∷◌, ◌++◌, length, get_or, take, drop, sym, ◌∙◌, ap, subst, arith}
use Rattle.sb_disk.specs.Disk.{Fits, Range, Story, IsIn, AgreesBut, Leaves}
use Rattle.sb_disk.specs.Moments.{Sure, Sized}
use Rattle.sb_journal.specs.Chunks.{ReadsAs, bytes_of}
use Rattle.sb_journal.specs.State.{State, chunks_of, gate_of, Lies, Sound, Stands, StandsOn}
use Rattle.sb_journal.proofs.ChunkLemmas.{total-chunks_from, chunks_from_kept, reads_kept}

-- no byte is pending where nothing is
pub none_sure : (at n : ℕ) → Sure at n []
none_sure at n i from to none = none

-- a range apart from one more
pub sure_more : (at n : ℕ) (range : Range) (written : List Range) → Sure at n written → (at + n ≤ range.start) ⊎ (range.start + range.len ≤ at) → Sure at n (range ∷ written)
sure_more at n range written sure apart i from to covered = ⊎_elim
    (λ (here : (range.start ≤ i) × (i < range.start + range.len)). ⊎_elim
    (λ (l : at + n ≤ range.start). absurd (let below = here.0 in omega arith))
    (λ (l : range.start + range.len ≤ at). absurd (let above = here.1 in omega arith))
    apart)
    (λ there. sure i from to there) covered

-- the first bytes of a list in two pieces
pub take_two : (m n : ℕ) (xs : List ℕ) → take (m + n) xs ≡ take m xs ++ take n (drop m xs)
take_two zero n xs = let e : 0 + n ≡ n = omega arith in ap (λ (k : ℕ). take k xs) e
take_two (suc m) zero [] = let e : suc m + 0 ≡ suc m = omega arith in ap (λ (k : ℕ). take {A = ℕ} k []) e
take_two (suc m) (suc n) [] = let e : suc m + suc n ≡ suc (m + suc n) = omega arith in ap (λ (k : ℕ). take {A = ℕ} k []) e
take_two (suc m) n (x ∷ xs) = let e : suc m + n ≡ suc (m + n) = omega arith in ap (λ (k : ℕ). take k (x ∷ xs)) e ∙ ap (λ (l : List ℕ). x ∷ l) (take_two m n xs)

-- what a call finds
pub record Ready (told : Option Story) (size clock : ℕ) (j : State) : Type 0 where
  pub fits : Fits size clock told
  pub stands : StandsOn told j
  pub lies : Lies size j.gates j.log
  pub sound : Sound j

-- the disk that is told has the size that the regions lie in
pub lies_on : (s : Story) (size : ℕ) (j : State) → length s.now.reads ≡ size → Lies size j.gates j.log → Lies (length s.now.reads) j.gates j.log
lies_on s size j is lies = subst (λ (n : ℕ). Lies n j.gates j.log) (sym is) lies

pub sized : (told : Option Story) (size clock : ℕ) → Fits size clock told → Sized size told
sized None size clock fits = tt
sized (Some s) size clock fits = fits.bytes

-- an image whose gates and chunks are as they were
pub kept_by : (s : Story) (j : State) → Stands s j → Lies (length s.now.reads) j.gates j.log → Sound j → (ranges : List Range) (image : List ℕ) → AgreesBut ranges s.now.reads image
    → Sure j.gates.start j.gates.len ranges → Sure j.log.start (bytes_of j.lens) ranges → ReadsAs j.gates j.log image (chunks_of j s.now.reads)
kept_by s j stands lies sound ranges image agrees gates chunks =
    let fits : j.log.start + bytes_of j.lens ≤ length s.now.reads = let l = lies.log_fits in let k = sound.log in omega arith in
    let total_is = total-chunks_from j.log.start j.lens s.now.reads fits in
    reads_kept (chunks_of j s.now.reads) j.gates.start (j.gates.start + j.gates.len) j.log.start (j.log.start + j.log.len) s.now.reads image agrees.size
    (λ i from to lt. agrees.bytes i (gates i from lt))
    (λ i from to. agrees.bytes i (chunks i from (omega arith)))
    stands.reads

-- what a crash leaves of a journal that stands
pub left_by : (s : Story) (j : State) → Stands s j → Lies (length s.now.reads) j.gates j.log → Sound j → (image : List ℕ) → Leaves s.now image → ReadsAs j.gates j.log image (chunks_of j s.now.reads)
left_by s j stands lies sound image left = kept_by s j stands lies sound s.now.written image left stands.gates stands.chunks

-- the gate of the next chunk is one of the gates
pub AgreesBut-gates : (j : State) (ranges : List Range) (old new : List ℕ) → AgreesBut (gate_of j ∷ ranges) old new → AgreesBut (j.gates ∷ ranges) old new
AgreesBut-gates j ranges old new agrees = record {
  size = agrees.size;
  bytes = λ i out. agrees.bytes i (λ covered. ⊎_elim
      (λ (here : IsIn i (gate_of j)). out (inl (let from = here.0 in let to = here.1 in (omega arith, omega arith))))
      (λ there. out (inr there))
      covered);
}

-- bytes that are none of a journal's gates and chunks may change: it stands
pub Stands-but : (s t : Story) (j : State) → Stands s j → Lies (length s.now.reads) j.gates j.log → Sound j → (ranges : List Range) → AgreesBut ranges s.now.reads t.now.reads
    → Sure j.gates.start j.gates.len ranges → Sure j.log.start (bytes_of j.lens) ranges
    → Sure j.gates.start j.gates.len t.now.written → Sure j.log.start (bytes_of j.lens) t.now.written → Stands t j
Stands-but s t j stands lies sound ranges agrees gates_off chunks_off gates chunks =
    let gate_kept : (i : ℕ) → j.gates.start ≤ i → i < j.gates.start + j.gates.len → get_or s.now.reads i 0 ≡ get_or t.now.reads i 0 = λ i from to. agrees.bytes i (gates_off i from to) in
    let same : chunks_of j s.now.reads ≡ chunks_of j t.now.reads = chunks_from_kept j.log.start j.lens s.now.reads t.now.reads agrees.size (λ i from to. agrees.bytes i (chunks_off i from to)) in
    record {
      reads = subst (λ (c : List (List ℕ)). ReadsAs j.gates j.log t.now.reads c) same (kept_by s j stands lies sound ranges t.now.reads agrees gates_off chunks_off);
      gates = gates;
      chunks = chunks;
      shut = (
        (λ clean i from to is. stands.shut.0 clean i from to (gate_kept i (omega arith) to ∙ is)),
        (λ none. stands.shut.1 (λ i from to is. none i from to (sym (gate_kept i (omega arith) to) ∙ is))),
      );
    }
