-- The bytes of a chunk are read at its place.
use Rattle.std.proofs.Common.{◌≡◌, ℕ, ◌+◌, ◌-◌, ◌<◌, ◌≤◌, Option, Some, None, List, [], length, get_or, take, drop, sym, ◌∙◌, ap, arith}
use Rattle.std.proofs.lemmas.List.{drop-drop, drop-take, take-take}
use Rattle.sb_disk.specs.Disk.{Story, Reads}
use Rattle.sb_journal.specs.Calls.{ReadsChunk}
use Rattle.sb_journal.specs.Chunks.{chunks_from, places_from}
use Rattle.sb_journal.specs.State.{State, chunks_of}
use Rattle.sb_journal.proofs.ChunkLemmas.{chunk_at}

pub Reads-ReadsChunk : (told : Option Story) (j : State) (i at place : ℕ) (bytes : List ℕ) → place ≡ get_or (places_from 0 j.lens) i 0 → i < length j.lens → at + length bytes ≤ get_or j.lens i 0
    → Reads told (j.log.start + place + 4 + at) bytes → ReadsChunk told j i at bytes
Reads-ReadsChunk None j i at place bytes is lt within reads = tt
Reads-ReadsChunk (Some s) j i at place bytes is lt within reads =
    let n = get_or j.lens i 0 in
    let from = j.log.start + place + 4 in
    let start : j.log.start + 0 ≡ j.log.start = omega arith in
    let split : at + (get_or j.lens i 0 - at) ≡ get_or j.lens i 0 = omega arith in
    let chunk : get_or (chunks_of j s.now.reads) i [] ≡ take (get_or j.lens i 0) (drop (j.log.start + place + 4) s.now.reads) =
    ap (λ (k : ℕ). get_or (chunks_from k j.lens s.now.reads) i []) (sym start) ∙ chunk_at j.log.start 0 j.lens s.now.reads i lt
    ∙ ap (λ (k : ℕ). take (get_or j.lens i 0) (drop (j.log.start + k + 4) s.now.reads)) (sym is) in
    let inside : drop at (take (get_or j.lens i 0) (drop (j.log.start + place + 4) s.now.reads)) ≡ take (get_or j.lens i 0 - at) (drop (j.log.start + place + 4 + at) s.now.reads) =
    ap (λ (k : ℕ). drop at (take k (drop (j.log.start + place + 4) s.now.reads))) (sym split)
    ∙ drop-take at (get_or j.lens i 0 - at) (drop (j.log.start + place + 4) s.now.reads)
    ∙ ap (λ (l : List ℕ). take (get_or j.lens i 0 - at) l) (drop-drop at (j.log.start + place + 4) s.now.reads) in
    reads
    ∙ sym (ap (λ (l : List ℕ). take (length bytes) (drop at l)) chunk
    ∙ ap (λ (l : List ℕ). take (length bytes) l) inside
    ∙ take-take (length bytes) (get_or j.lens i 0 - at) (drop (j.log.start + place + 4 + at) s.now.reads) (omega arith))
