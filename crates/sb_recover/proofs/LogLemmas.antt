-- The chunks of a log that are read, and what is answered where they are bad.
use Rattle.std.proofs.Common.{◌≡◌, ℕ, zero, suc, ◌+◌, ◌^◌, ◌<◌, ◌≤◌, Option, Some, None, List, [], ◌∷◌, ◌++◌, length, take, drop, get_or, refl, sym, ◌∙◌, ap, subst, arith}
use Rattle.std.proofs.lemmas.List.{take_more, take_all, take-take}
use Rattle.sb_disk.specs.Disk.{Story}
use Rattle.sb_journal.specs.Chunks.{chunks_from, places_from}
use Rattle.sb_journal.specs.Calls.{ReadsChunk}
use Rattle.sb_journal.specs.State.{State, chunks_of}
use Rattle.sb_journal.proofs.ChunkLemmas.{length-chunks_from, chunk_at}
use Rattle.sb_log.specs.Records.{Record, AreRecords, Spells, HasRecords}
use Rattle.sb_log.proofs.RowLemmas.{AreRecords-append}
use Rattle.sb_images.specs.Store.{AreChunks}
use Rattle.sb_recover.specs.declared.fault.OpenFault.{OpenFault}
use Rattle.sb_recover.specs.declared.fault.OpenFault.TheVariants as faults
use Rattle.sb_recover.specs.Faults.{IsFree}
use Rattle.sb_recover.specs.BadLog.{AreRows, AreShort, BadRow, IsFirstBad, ChunkIs, BadRowOn, RowsErr}

-- ---- one chunk after another
pub ChunkIs-reads : (told : Option Story) (j : State) (i : ℕ) (bytes : List ℕ) → i < length j.lens → length bytes ≡ get_or j.lens i 0 → ReadsChunk told j i 0 bytes → ChunkIs told j i bytes
ChunkIs-reads None j i bytes lt long reads = tt
ChunkIs-reads (Some s) j i bytes lt long reads =
    let same : j.log.start + 0 ≡ j.log.start = omega arith in
    let n : ℕ = get_or j.lens i 0 in
    let body : List ℕ = drop (j.log.start + get_or (places_from 0 j.lens) i 0 + 4) s.now.reads in
    let chunk : get_or (chunks_of j s.now.reads) i [] ≡ take n body =
    ap (λ (k : ℕ). get_or (chunks_from k j.lens s.now.reads) i []) (sym same) ∙ chunk_at j.log.start 0 j.lens s.now.reads i lt in
    reads ∙ ap (λ (k : ℕ). take k (get_or (chunks_of j s.now.reads) i [])) long ∙ ap (λ (l : List ℕ). take n l) chunk ∙ take-take n n body (omega arith) ∙ sym chunk

-- the first of the chunks
abbrev pub FirstChunks : Option Story → State → ℕ → List (List ℕ) → Type 0
FirstChunks None j i chunks = Unit {0}
FirstChunks (Some s) j i chunks = chunks ≡ take i (chunks_of j s.now.reads)

pub FirstChunks-none : (told : Option Story) (j : State) → FirstChunks told j 0 []
FirstChunks-none None j = tt
FirstChunks-none (Some s) j = refl

pub FirstChunks-more : (told : Option Story) (j : State) (i : ℕ) (chunks : List (List ℕ)) (bytes : List ℕ) → i < length j.lens → ChunkIs told j i bytes → FirstChunks told j i chunks → FirstChunks told j (i + 1) (chunks ++ bytes ∷ [])
FirstChunks-more None j i chunks bytes lt is first = tt
FirstChunks-more (Some s) j i chunks bytes lt is first =
    let count = length-chunks_from j.log.start j.lens s.now.reads in
    ap (λ (l : List (List ℕ)). l ++ bytes ∷ []) first ∙ ap (λ (l : List ℕ). take i (chunks_of j s.now.reads) ++ l ∷ []) is
    ∙ sym (take_more (chunks_of j s.now.reads) i [] (omega (arith, count, lt)))

pub AreChunks-first : (told : Option Story) (j : State) (i : ℕ) (chunks : List (List ℕ)) → i ≡ length j.lens → FirstChunks told j i chunks → AreChunks told j chunks
AreChunks-first None j i chunks all first = tt
AreChunks-first (Some s) j i chunks all first =
    let count = length-chunks_from j.log.start j.lens s.now.reads in
    first ∙ take_all i (chunks_of j s.now.reads) (omega (arith, count, all))

pub AreShort-more : (chunks : List (List ℕ)) (chunk : List ℕ) → AreShort chunks → length chunk < 2 ^ 32 → AreShort (chunks ++ chunk ∷ [])
AreShort-more [] chunk short one = (one, tt)
AreShort-more (c ∷ chunks) chunk short one = (short.0, AreShort-more chunks chunk short.1 one)

pub AreShort-at : (chunks : List (List ℕ)) (i : ℕ) → i < length chunks → AreShort chunks → length (get_or chunks i []) < 2 ^ 32
AreShort-at [] i lt short = absurd (omega (arith, lt))
AreShort-at (c ∷ chunks) zero lt short = short.0
AreShort-at (c ∷ chunks) (suc i) lt short = AreShort-at chunks i (omega (arith, lt)) short.1

-- ---- rows of records
AreRows-more : (chunks : List (List ℕ)) (chunk : List ℕ) (n : ℕ) → AreRows chunks → HasRecords chunk n → AreRows (chunks ++ chunk ∷ [])
AreRows-more [] chunk n rows one = ((n, one), tt)
AreRows-more (c ∷ chunks) chunk n rows one = (rows.0, AreRows-more chunks chunk n rows.1 one)

pub AreRows-next : (chunks : List (List ℕ)) (i n : ℕ) → i < length chunks → AreRows (take i chunks) → HasRecords (get_or chunks i []) n → AreRows (take (i + 1) chunks)
AreRows-next chunks i n lt rows one = subst AreRows (sym (take_more chunks i [] lt)) (AreRows-more (take i chunks) (get_or chunks i []) n rows one)

pub AreRows-all : (chunks : List (List ℕ)) (i : ℕ) → length chunks ≤ i → AreRows (take i chunks) → AreRows chunks
AreRows-all chunks i all rows = subst AreRows (take_all i chunks all) rows

-- they spell records
pub record Spelled (chunks : List (List ℕ)) : Type 0 where
  pub recs : List Record
  pub are : AreRecords recs
  pub spells : Spells chunks recs

pub Spelled-rows : (chunks : List (List ℕ)) → AreRows chunks → Spelled chunks
Spelled-rows [] rows = record { recs = []; are = tt; spells = refl }
Spelled-rows (c ∷ chunks) rows =
    let rest = Spelled-rows chunks rows.1 in
    let row = rows.0.1 in
    record {
      recs = row.recs ++ rest.recs;
      are = AreRecords-append row.recs rest.recs row.sound rest.are;
      spells = (row.recs, rest.recs, refl, row.whole, rest.spells);
    }

-- ---- a chunk that is no row
pub RowsErr-bad : (told : Option Story) (j : State) (chunks : List (List ℕ)) (e : OpenFault) → AreChunks told j chunks → length chunks ≡ length j.lens → IsFirstBad chunks e → RowsErr told j e
RowsErr-bad told j chunks (faults.BadLog chunk offset) are count bad = (let within = bad.within in omega (arith, within, count), on told are)
  where
    on : (t : Option Story) → AreChunks t j chunks → BadRowOn t j chunk offset
    on None is = tt
    on (Some s) is = subst (λ (l : List (List ℕ)). BadRow l chunk offset) is bad
RowsErr-bad told j chunks faults.Fault are count bad = tt
RowsErr-bad told j chunks faults.NoMemory are count bad = tt
RowsErr-bad told j chunks other are count bad = absurd bad

pub RowsErr-free : (told : Option Story) (j : State) (e : OpenFault) → IsFree e → RowsErr told j e
RowsErr-free told j faults.Fault free = tt
RowsErr-free told j faults.NoMemory free = tt
RowsErr-free told j other free = absurd free
