-- What ties a pool to the records of its log.
use Rattle.std.proofs.Common.{◌≡◌, ◌⊎◌, ⊎_elim, ℕ, zero, suc, ◌+◌, ◌≤◌, true, Option, Some, None, List, [], ◌++◌, take, drop, sym, ◌∙◌, ap, subst, arith}
use Rattle.std.proofs.lemmas.List.{append-nil}
use Rattle.sb_disk.specs.Disk.{Story}
use Rattle.sb_journal.specs.Chunks.{bytes_of}
use Rattle.sb_journal.specs.State.{room_of, used_of}
use Rattle.sb_journal.specs.State as journal
use Rattle.sb_log.specs.declared.geometry.Geometry.{Geometry}
use Rattle.sb_log.specs.Records.{Record}
use Rattle.sb_log.specs.Restored.{imaged}
use Rattle.sb_log.proofs.RowLemmas.{spelled_none}
use Rattle.sb_images.specs.Store.{IsReadyFor}
use Rattle.sb_pool.specs.Calls.{AreImaged, AreTied, IsReadyWith}
use Rattle.sb_pool.specs.State.{State, IsDirty, NoneMoreDirty, empty_pool}
use Rattle.sb_pool.proofs.PageLemmas.{empty-clean}

-- with no page dirty a pool is tied to whatever records there are
pub AreTied-clean : (pool : State) (j : journal.State) (opened pending : List Record) → ((p : ℕ) → IsDirty pool p → ⊥) → AreTied pool j opened pending
AreTied-clean pool j opened pending none = record { imaged = λ p dirty. absurd (none p dirty); forced = λ within p dirty. absurd (none p dirty) }

pub AreTied-empty : (g : Geometry) (pool : State) → pool ≡ empty_pool g → (j : journal.State) (opened pending : List Record) → AreTied pool j opened pending
AreTied-empty g pool is j opened pending = AreTied-clean pool j opened pending (empty-clean g pool is)

-- with no more pages dirty, and the position where it was
pub AreTied-fewer : (pool after : State) (j : journal.State) (opened pending : List Record) → NoneMoreDirty pool after → after.position ≡ pool.position → AreTied pool j opened pending → AreTied after j opened pending
AreTied-fewer pool after j opened pending fewer at tied = record {
  imaged = λ p dirty. tied.imaged p (fewer p dirty);
  forced = λ within p dirty. tied.forced (subst (λ (n : ℕ). n ≤ bytes_of j.lens) at within) p (fewer p dirty);
}

-- ---- a write
-- the log reaches no further than the chunks only where nothing is pending
none_behind : (chunks n : ℕ) → chunks + room_of n ≤ chunks → n ≡ 0
none_behind chunks zero within = omega arith
none_behind chunks (suc n) within = absurd (omega arith)

none_pending : (want : ℕ → List ℕ) (s : Story) (j : journal.State) (g : Geometry) (opened pending : List Record) → IsReadyFor want s j g opened pending → j.pending ≡ 0 → pending ≡ []
none_pending want s j g opened pending ready none = spelled_none pending (sym ready.holds.tail ∙ ap (λ (m : ℕ). take m (drop (j.log.start + bytes_of j.lens + 4) s.now.reads)) none)

module _ (want : ℕ → List ℕ) (g : Geometry) (recs : List Record) (k : journal.State) (mid after : State) (page : ℕ) (here : imaged recs page ≡ true) (others : (p : ℕ) → IsDirty after p → IsDirty mid p ⊎ (p ≡ page)) where
  images_written : AreImaged mid recs → AreImaged after recs
  images_written are p dirty = ⊎_elim (are p) (λ (e : p ≡ page). subst (λ (n : ℕ). imaged recs n ≡ true) (sym e) here) (others p dirty)

  -- of a disk that tells nothing all records may be in open chunks
  pub IsReadyWith-written : after.position ≡ used_of k → (old new : Option Story) → IsReadyWith want g recs k mid old new → IsReadyWith want g recs k after old new
  IsReadyWith-written at None None still =
      let images = images_written (subst (λ (l : List Record). AreImaged mid l) still.2 still.4.imaged) in
      let all : recs ++ [] ≡ recs = append-nil recs in
      (recs, [], all, record { ready = tt; rest = still.3.rest }, record { imaged = subst (λ (l : List Record). AreImaged after l) (sym all) images; forced = λ within. images })
  IsReadyWith-written at None (Some t) still = absurd (some_none t still.3.rest)
    where
      some_none : (s : Story) → Some s ≡ None → ⊥
      some_none s is = cc
  IsReadyWith-written at (Some s) None still = absurd still.3.rest
  IsReadyWith-written at (Some s) (Some t) still =
      let images = images_written (subst (λ (l : List Record). AreImaged mid l) still.2 still.4.imaged) in (
        still.0,
        still.1,
        still.2,
        still.3,
        record {
          imaged = subst (λ (l : List Record). AreImaged after l) (sym still.2) images;
          forced = λ within.
              let none = none_pending want t k g still.0 still.1 still.3.ready (none_behind (bytes_of k.lens) k.pending (subst (λ (n : ℕ). n ≤ bytes_of k.lens) at within)) in
              let same : recs ≡ still.0 = sym still.2 ∙ ap (λ (l : List Record). still.0 ++ l) none ∙ append-nil still.0 in
              subst (λ (l : List Record). AreImaged after l) same images;
        },
      )
