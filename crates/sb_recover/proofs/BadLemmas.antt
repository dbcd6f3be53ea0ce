-- Where a log is bad.
use Rattle.std.proofs.Common.{◌≡◌, inl, inr, ⊎_elim, ℕ, zero, suc, ◌+◌, ◌^◌, ◌<◌, ◌≤◌, Option, Some, None, List, [], ◌∷◌, ◌++◌, length, take, drop, get_or, refl, sym, ◌∙◌, ap, subst, arith}
use Rattle.std.specs.Int.{to_be_bytes, from_be_bytes, w32}
use Rattle.std.proofs.lemmas.Nat.{from_be_bytes-to_be_bytes_4}
use Rattle.std.proofs.lemmas.List.{take_more, take-take, length-take-le, length-drop, drop-drop}
use Rattle.sb_disk.specs.Disk.{Range, Story, Fits}
use Rattle.sb_journal.specs.Chunks.{ReadsFrom, ReadsAs, bytes_of, chunks_from}
use Rattle.sb_journal.specs.Calls.{OpenErr}
use Rattle.sb_journal.specs.declared.fault.JournalFault.{JournalFault}
use Rattle.sb_journal.specs.declared.fault.JournalFault.TheVariants as journal
use Rattle.sb_journal.specs.Opening.{BeginsFrom, ReadAll, PastAt, RunsPast, Opened}
use Rattle.sb_journal.specs.State.{State, Sound, chunks_of}
use Rattle.sb_journal.proofs.ChunkLemmas.{length-chunks_from}
use Rattle.sb_journal.proofs.OpenLemmas.{all_read}
use Rattle.sb_journal.proofs.OneReading.{one_reading, past_is_one, past_is_unread}
use Rattle.sb_log.specs.declared.geometry.Geometry.{Geometry}
use Rattle.sb_log.specs.Records.{Record, IsBadAt}
use Rattle.sb_log.proofs.RowLemmas.{IsBadAt-no_row}
use Rattle.sb_images.specs.Images.{Logs}
use Rattle.sb_images.proofs.ImageLemmas.{Spells-row}
use Rattle.sb_images.specs.Layout.{IsGeometry, gates_of, log_of}
use Rattle.sb_images.specs.Store.{AreChunks}
use Rattle.sb_recover.specs.declared.fault.OpenFault.{OpenFault}
use Rattle.sb_recover.specs.declared.fault.OpenFault.TheVariants as faults
use Rattle.sb_recover.specs.Faults.{fault_of}
use Rattle.sb_recover.specs.BadLog.{AreRows, BadRow, BadRowOn, RowsErr, LogErr, IsPast, IsNoRow, IsBadLog, IsBadLogOn}

-- ---- the first chunks
field_of : (chunk bytes : List ℕ) → take (4 + length chunk) bytes ≡ to_be_bytes w32 (length chunk) ++ chunk → take 4 bytes ≡ to_be_bytes w32 (length chunk)
field_of chunk bytes spelled = sym (take-take 4 (4 + length chunk) bytes (omega arith)) ∙ ap (take 4) spelled

long_chunk : (n at : ℕ) (image : List ℕ) → at + 4 + n ≤ length image → length (take n (drop (at + 4) image)) ≡ n
long_chunk n at image within = let l = length-drop (at + 4) image in length-take-le n (drop (at + 4) image) (omega (arith, l, within))

BeginsFrom-reads : (lens : List ℕ) (gate gates_end at log_end : ℕ) (image : List ℕ) → at + bytes_of lens ≤ length image
    → ReadsFrom gate gates_end at log_end image (chunks_from at lens image) → BeginsFrom gate gates_end at log_end image lens
BeginsFrom-reads [] gate gates_end at log_end image within reads = tt
BeginsFrom-reads (n ∷ lens) gate gates_end at log_end image within reads =
    let long : length (take n (drop (at + 4) image)) ≡ n = long_chunk n at image (omega (arith, within)) in
    let fits = reads.2 in (
      reads.0,
      reads.1,
      omega (arith, fits, long),
      subst (λ (k : ℕ). take 4 (drop at image) ≡ to_be_bytes w32 k) long (field_of (take n (drop (at + 4) image)) (drop at image) reads.3),
      BeginsFrom-reads lens (gate + 1) gates_end (at + 4 + n) log_end image (omega (arith, within))
          (subst (λ (k : ℕ). ReadsFrom (gate + 1) gates_end (at + 4 + k) log_end image (chunks_from (at + 4 + n) lens image)) long reads.4),
    )

BeginsFrom-front : (lens : List ℕ) (k gate gates_end at log_end : ℕ) (image : List ℕ) → BeginsFrom gate gates_end at log_end image lens → BeginsFrom gate gates_end at log_end image (take k lens)
BeginsFrom-front [] zero gate gates_end at log_end image begins = tt
BeginsFrom-front [] (suc k) gate gates_end at log_end image begins = tt
BeginsFrom-front (n ∷ lens) zero gate gates_end at log_end image begins = tt
BeginsFrom-front (n ∷ lens) (suc k) gate gates_end at log_end image begins =
    (begins.0, begins.1, begins.2, begins.3, BeginsFrom-front lens k (gate + 1) gates_end (at + 4 + n) log_end image begins.4)

-- with more gates
BeginsFrom-gates : (lens : List ℕ) (gate gates_end more at log_end : ℕ) (image : List ℕ) → gates_end ≤ more → BeginsFrom gate gates_end at log_end image lens → BeginsFrom gate more at log_end image lens
BeginsFrom-gates [] gate gates_end more at log_end image most begins = tt
BeginsFrom-gates (n ∷ lens) gate gates_end more at log_end image most begins =
    (let lt = begins.0 in omega (arith, lt, most), begins.1, begins.2, begins.3, BeginsFrom-gates lens (gate + 1) gates_end more (at + 4 + n) log_end image most begins.4)

-- and with just those that they have
BeginsFrom-own : (lens : List ℕ) (gate gates_end own at log_end : ℕ) (image : List ℕ) → gate + length lens ≤ own → BeginsFrom gate gates_end at log_end image lens → BeginsFrom gate own at log_end image lens
BeginsFrom-own [] gate gates_end own at log_end image most begins = tt
BeginsFrom-own (n ∷ lens) gate gates_end own at log_end image most begins =
    (omega (arith, most), begins.1, begins.2, begins.3, BeginsFrom-own lens (gate + 1) gates_end own (at + 4 + n) log_end image (omega (arith, most)) begins.4)

chunks_from-front : (k at : ℕ) (lens image : List ℕ) → chunks_from at (take k lens) image ≡ take k (chunks_from at lens image)
chunks_from-front zero at [] image = refl
chunks_from-front (suc k) at [] image = refl
chunks_from-front zero at (n ∷ lens) image = refl
chunks_from-front (suc k) at (n ∷ lens) image = ap (λ (l : List (List ℕ)). take n (drop (at + 4) image) ∷ l) (chunks_from-front k (at + 4 + n) lens image)

chunk_behind : (k at : ℕ) (lens image : List ℕ) → k < length lens → get_or (chunks_from at lens image) k [] ≡ take (get_or lens k 0) (drop (at + bytes_of (take k lens) + 4) image)
chunk_behind k at [] image lt = absurd (omega (arith, lt))
chunk_behind zero at (n ∷ lens) image lt = let e : at + 0 + 4 ≡ at + 4 = omega arith in ap (λ (m : ℕ). take n (drop m image)) (sym e)
chunk_behind (suc k) at (n ∷ lens) image lt =
    let e : at + 4 + n + bytes_of (take k lens) + 4 ≡ at + (4 + n + bytes_of (take k lens)) + 4 = omega arith in
    chunk_behind k (at + 4 + n) lens image (omega (arith, lt)) ∙ ap (λ (m : ℕ). take (get_or lens k 0) (drop m image)) e

-- ---- a chunk that is no row of records
-- found with the gates up to some place
IsBadLog-row : (s : Story) (g : Geometry) (lens : List ℕ) (gates chunk offset : ℕ) → gates ≤ 65536 → length lens ≤ gates → 69632 + bytes_of lens ≤ length s.now.reads
    → ReadsAs (record { start = 4096; len = gates }) (log_of g) s.now.reads (chunks_from 69632 lens s.now.reads) → BadRow (chunks_from 69632 lens s.now.reads) chunk offset → IsBadLog s g chunk offset
IsBadLog-row s g lens gates chunk offset most few within reads bad =
    let count = length-chunks_from 69632 lens s.now.reads in let inside = bad.within in
    let below : chunk < length lens = omega (arith, count, inside) in
    let begins : BeginsFrom 4096 (4096 + 65536) 69632 (69632 + g.log) s.now.reads lens =
    BeginsFrom-gates lens 4096 (4096 + gates) (4096 + 65536) 69632 (69632 + g.log) s.now.reads (omega (arith, most)) (BeginsFrom-reads lens 4096 (4096 + gates) 69632 (69632 + g.log) s.now.reads within reads) in
    record {
      lens = take chunk lens;
      count = length-take-le chunk lens (omega (arith, below));
      gate = omega (arith, below, few, most);
      begins = BeginsFrom-front lens chunk 4096 (4096 + 65536) 69632 (69632 + g.log) s.now.reads begins;
      rows = subst AreRows (sym (chunks_from-front chunk 69632 lens s.now.reads)) bad.rows;
      bad = inr (record {
        n = get_or lens chunk 0;
        begins = subst (λ (l : List ℕ). BeginsFrom 4096 (4096 + 65536) 69632 (69632 + g.log) s.now.reads l) (take_more lens chunk 0 below)
            (BeginsFrom-front lens (chunk + 1) 4096 (4096 + 65536) 69632 (69632 + g.log) s.now.reads begins);
        bad = subst (λ (l : List ℕ). IsBadAt l offset) (chunk_behind chunk 69632 lens s.now.reads below) bad.bad;
      });
    }

-- a journal that was opened on the first gates
module _ (told : Option Story) (size clock : ℕ) (fits : Fits size clock told) (g : Geometry) (gates : ℕ) (most : gates ≤ 65536) (room : 69632 + g.log ≤ size) (j : State) (is_opened : Opened told (record { start = 4096; len = gates }) (log_of g) j) (sound : Sound j) where
  few : length j.lens ≤ gates
  few = let a = sound.gates in let e = ap (λ (x : State). x.gates.len) is_opened.state in omega (arith, a, e)

  used : bytes_of j.lens ≤ g.log
  used = let a = sound.log in let e = ap (λ (x : State). x.log.len) is_opened.state in omega (arith, a, e)

  log_is : j.log ≡ log_of g
  log_is = ap (λ (x : State). x.log) is_opened.state

  bad_on : (t : Option Story) → Fits size clock t → ReadAll t (record { start = 4096; len = gates }) (log_of g) j.lens → (chunk offset : ℕ) → BadRowOn t j chunk offset → IsBadLogOn t g chunk offset
  bad_on None fits_t read chunk offset bad = tt
  bad_on (Some s) fits_t read chunk offset bad = IsBadLog-row s g j.lens gates chunk offset most few (let is = fits_t.bytes in omega (arith, is, used, room)) read
      (subst (λ (r : Range). BadRow (chunks_from r.start j.lens s.now.reads) chunk offset) log_is bad)

  pub LogErr-rows : (e : OpenFault) → RowsErr told j e → LogErr told g e
  LogErr-rows faults.Fault err = tt
  LogErr-rows faults.NoMemory err = tt
  LogErr-rows (faults.BadLog chunk offset) err = bad_on told fits is_opened.read chunk offset err.1
  LogErr-rows other err = absurd err

-- ---- a chunk that runs past
-- where those before it are rows
module _ (size clock : ℕ) (g : Geometry) (chunk : ℕ) (gate : chunk < 65536) (sizes : IsGeometry g) (room : 69632 + g.log ≤ size) where
  past_rows : (s : Story) (j : State) → Fits size clock (Some s) → RunsPast (Some s) (gates_of g) (log_of g) chunk → Opened (Some s) (record { start = 4096; len = chunk }) (log_of g) j → AreRows (chunks_of j s.now.reads) → IsBadLog s g chunk 0
  past_rows s j fits past is_opened rows =
      let lens : List ℕ = past.0 in
      let at : PastAt s (gates_of g) (log_of g) past.0 = past.2 in
      let count : length lens ≡ chunk = past.1 in
      let own : BeginsFrom 4096 (4096 + chunk) 69632 (69632 + g.log) s.now.reads lens = BeginsFrom-own lens 4096 (4096 + 65536) (4096 + chunk) 69632 (69632 + g.log) s.now.reads (omega (arith, count)) at.before in
      let read : ReadsAs (record { start = 4096; len = chunk }) (log_of g) s.now.reads (chunks_from 69632 lens s.now.reads) =
      all_read (Some s) size clock (record { start = 4096; len = chunk }) (log_of g) lens chunk fits room (sym count) own (inl refl) in
      let short = sizes.log.1 in
      let log_is : j.log ≡ log_of g = ap (λ (x : State). x.log) is_opened.state in
      let same : chunks_from 69632 lens s.now.reads ≡ chunks_from 69632 j.lens s.now.reads =
      one_reading (record { start = 4096; len = chunk }) (log_of g) s.now.reads (chunks_from 69632 lens s.now.reads) (chunks_from 69632 j.lens s.now.reads) (omega (arith, short)) read is_opened.read in
      record {
        lens = lens;
        count = count;
        gate = gate;
        begins = at.before;
        rows = subst AreRows (sym same) (subst (λ (r : Range). AreRows (chunks_from r.start j.lens s.now.reads)) log_is rows);
        bad = inl (refl, record { is_open = at.is_open; past = at.past });
      }

  pub LogErr-past : (told : Option Story) (j : State) (chunks : List (List ℕ)) → Fits size clock told → RunsPast told (gates_of g) (log_of g) chunk → Opened told (record { start = 4096; len = chunk }) (log_of g) j
      → AreChunks told j chunks → AreRows chunks → IsBadLogOn told g chunk 0
  LogErr-past None j chunks fits past is_opened are rows = tt
  LogErr-past (Some s) j chunks fits past is_opened are rows = past_rows s j fits past is_opened (subst AreRows are rows)

  -- no other does with the gates before it
  not_past : (told : Option Story) (k offset : ℕ) → RunsPast told (gates_of g) (log_of g) chunk → k < chunk → RunsPast told (record { start = 4096; len = chunk }) (log_of g) k → IsBadLogOn told g k offset
  not_past None k offset past below other = tt
  not_past (Some s) k offset past below other =
      let at = other.2 in
      let wide : RunsPast (Some s) (gates_of g) (log_of g) k = (
        other.0,
        other.1,
        record {
          before = BeginsFrom-gates other.0 4096 (4096 + chunk) (4096 + 65536) 69632 (69632 + g.log) s.now.reads (omega (arith, gate)) at.before;
          gate = let lt = at.gate in omega (arith, lt, gate);
          is_open = at.is_open;
          past = at.past;
        },
      ) in
      let short = sizes.log.1 in
      let same = past_is_one s (gates_of g) (log_of g) k chunk (omega (arith, short)) wide past in
      absurd (omega (arith, same, below))

  pub LogErr-open : (told : Option Story) (fault : JournalFault) → RunsPast told (gates_of g) (log_of g) chunk → OpenErr told (record { start = 4096; len = chunk }) (log_of g) fault → LogErr told g (fault_of fault)
  LogErr-open told journal.Fault past err = tt
  LogErr-open told journal.NoMemory past err = tt
  LogErr-open told (journal.BadChunk k offset) past err = not_past told k offset past err.1 err.2
  LogErr-open told other past err = absurd err

-- ---- a bad log has no records
same_number : (m n : ℕ) (field : List ℕ) → m < 2 ^ 32 → n < 2 ^ 32 → field ≡ to_be_bytes w32 m → field ≡ to_be_bytes w32 n → m ≡ n
same_number m n field m_short n_short m_is n_is =
    sym (from_be_bytes-to_be_bytes_4 m m_short) ∙ ap (from_be_bytes w32) (sym m_is ∙ n_is) ∙ from_be_bytes-to_be_bytes_4 n n_short

-- the chunk that stands at a place is the one of this length there
there : (chunk : List ℕ) (n at : ℕ) (image : List ℕ) → length chunk < 2 ^ 32 → n < 2 ^ 32 → take 4 (drop at image) ≡ to_be_bytes w32 n
    → take (4 + length chunk) (drop at image) ≡ to_be_bytes w32 (length chunk) ++ chunk → chunk ≡ take n (drop (at + 4) image)
there chunk n at image short n_short field spelled =
    let long : length chunk ≡ n = same_number (length chunk) n (take 4 (drop at image)) short n_short (field_of chunk (drop at image) spelled) field in
    sym (ap (drop 4) spelled) ∙ drop-take 4 (length chunk) (drop at image) ∙ ap (λ (l : List ℕ). take (length chunk) l) (drop-drop 4 at image) ∙ ap (λ (k : ℕ). take k (drop (at + 4) image)) long
  where
    drop-take : (m k : ℕ) (xs : List ℕ) → drop m (take (m + k) xs) ≡ take k (drop m xs)
    drop-take zero k xs = let e : 0 + k ≡ k = omega arith in ap (λ (x : ℕ). take x xs) e
    drop-take (suc m) zero [] = let e : suc m + 0 ≡ suc (m + 0) = omega arith in rw e refl
    drop-take (suc m) (suc k) [] = let e : suc m + suc k ≡ suc (m + suc k) = omega arith in rw e refl
    drop-take (suc m) k (x ∷ xs) = let e : suc m + k ≡ suc (m + k) = omega arith in rw e (drop-take m k xs)

-- so the chunks that are read have it behind the first ones
row_at : (lens : List ℕ) (n gate gates_end at log_end : ℕ) (image : List ℕ) (chunks : List (List ℕ)) → log_end < at + 2 ^ 32 → BeginsFrom gate gates_end at log_end image (lens ++ n ∷ [])
    → ReadsFrom gate gates_end at log_end image chunks → (length lens < length chunks) × (get_or chunks (length lens) [] ≡ take n (drop (at + bytes_of lens + 4) image))
row_at [] n gate gates_end at log_end image [] short begins reads = absurd (reads begins.0 begins.1)
row_at [] n gate gates_end at log_end image (chunk ∷ chunks) short begins reads =
    let fits = begins.2 in let chunk_fits = reads.2 in
    let e : at + 0 + 4 ≡ at + 4 = omega arith in
    (omega arith, there chunk n at image (omega (arith, short, chunk_fits)) (omega (arith, short, fits)) begins.3 reads.3 ∙ ap (λ (k : ℕ). take n (drop k image)) (sym e))
row_at (m ∷ lens) n gate gates_end at log_end image [] short begins reads = absurd (reads begins.0 begins.1)
row_at (m ∷ lens) n gate gates_end at log_end image (chunk ∷ chunks) short begins reads =
    let fits = begins.2 in let chunk_fits = reads.2 in
    let long : length chunk ≡ m = same_number (length chunk) m (take 4 (drop at image)) (omega (arith, short, chunk_fits)) (omega (arith, short, fits)) (field_of chunk (drop at image) reads.3) begins.3 in
    let rest = row_at lens n (gate + 1) gates_end (at + 4 + m) log_end image chunks (omega (arith, short)) begins.4
    (subst (λ (k : ℕ). ReadsFrom (gate + 1) gates_end (at + 4 + k) log_end image chunks) long reads.4) in
    let e : at + 4 + m + bytes_of lens + 4 ≡ at + (4 + m + bytes_of lens) + 4 = omega arith in
    (let lt = rest.0 in omega (arith, lt), rest.1 ∙ ap (λ (k : ℕ). take n (drop k image)) e)

pub IsBadLog-no_logs : (s : Story) (g : Geometry) (chunk offset : ℕ) (recs : List Record) → IsGeometry g → IsBadLog s g chunk offset → ¬ Logs g s.now.reads recs
IsBadLog-no_logs s g chunk offset recs sizes bad logs =
    let most = sizes.log.1 in
    ⊎_elim
    (λ (past : (offset ≡ 0) × IsPast s g bad.lens).
    past_is_unread s (gates_of g) (log_of g) chunk logs.chunks (omega (arith, most))
    (bad.lens, bad.count, record { before = bad.begins; gate = let count = bad.count in let gate = bad.gate in omega (arith, count, gate); is_open = past.1.is_open; past = past.1.past }) logs.reads)
    (λ (row : IsNoRow s g bad.lens offset).
    let at = row_at bad.lens row.n 4096 (4096 + 65536) 69632 (69632 + g.log) s.now.reads logs.chunks (omega (arith, most)) row.begins logs.reads in
    let whole = Spells-row logs.chunks recs logs.sound logs.spells (length bad.lens) at.0 in
    IsBadAt-no_row (get_or logs.chunks (length bad.lens) []) offset whole.0 (subst (λ (l : List ℕ). IsBadAt l offset) (sym at.1) row.bad) whole.1)
    bad.bad
