-- What the calls of a pool want, and what each of them keeps.
use Rattle.std.specs.Prelude.{◌≡◌, ◌⊎◌, ℕ, ◌<◌, ◌≤◌, true, Option, List, [], ◌++◌, length}
use Rattle.std.specs.Prelude.{Result, OnOk, OnErr, IfErr, IsErrOf}
use Rattle.sb_disk.specs.Causes.{Rose}
use Rattle.sb_disk.specs.Disk.{Story, WhereTold}
use Rattle.sb_disk.specs.Moments.{LeavesOnly}
use Rattle.sb_journal.specs.Chunks.{bytes_of}
use Rattle.sb_journal.specs.State.{Sound, StandsOn, after_force}
use Rattle.sb_journal.specs.State as journal
use Rattle.sb_log.specs.declared.geometry.Geometry.{Geometry}
use Rattle.sb_log.specs.Records.{Record}
use Rattle.sb_log.specs.Restored.{imaged}
use Rattle.sb_images.specs.Layout.{need, IsGeometry, gates_of, log_of}
use Rattle.sb_images.specs.Images.{Restores}
use Rattle.sb_images.specs.Store.{IsReadyOn, KeepsRest}
use Rattle.sb_pool.specs.declared.fault.PoolFault.{PoolFault}
use Rattle.sb_pool.specs.declared.fault.PoolFault.TheVariants.{Fault}
use Rattle.sb_pool.specs.Pages.{AgreesOn, KeepsPages}
use Rattle.sb_pool.specs.State.{State, AreClean, IsHeld, IsDirty, NoneMoreDirty}

-- A pool over its disk at a moment: what the disk tells, how long it is, how many of its calls have failed, and the journal beside the pool.
pub record Moment : Type 0 where
  pub told : Option Story
  pub size : ℕ
  pub faults : ℕ
  pub journal : journal.State
  pub pool : State

abbrev pub moment : {D : Type 0} → (D → Option Story) → (D → ℕ) → (D → ℕ) → D → journal.State → State → Moment
moment told len faults disk j p = record { told = told disk; size = len disk; faults = faults disk; journal = j; pool = p }

-- The disk has room for a store of these sizes. In its regions a clean journal stands, with a gate for what is pending.
pub record Serves (told : Option Story) (size : ℕ) (j : journal.State) (g : Geometry) : Type 0 where
  pub sizes : IsGeometry g
  pub room : need g.pages g.log ≤ size
  pub gates : j.gates ≡ gates_of g
  pub log : j.log ≡ log_of g
  pub stands : StandsOn told j
  pub clean : j.clean ≡ true
  pub free : 0 < j.pending → length j.lens < j.gates.len

-- What each call keeps: the sizes, at a fault the position, that disk and journal serve the pool, and that the pool agrees with them. Its
-- Fault means that the disk failed a call, now or in an earlier call of the journal.
pub record KeepsPool {T : Type 0} (old new : Moment) (result : Result T PoolFault) : Type 0 where
  pub size : new.size ≡ old.size
  pub geometry : new.pool.geometry ≡ old.pool.geometry
  pub position : OnErr result (new.pool.position ≡ old.pool.position)
  pub later : old.faults ≤ new.faults
  pub fault : IfErr result (λ e. e ≡ Fault)
  pub cause : IsErrOf result Fault → (old.journal.failed ≡ true) ⊎ Rose old.faults new.faults
  pub serves : Serves new.told new.size new.journal new.pool.geometry
  pub agrees : AgreesOn new.told new.journal new.pool
  pub sound : Sound old.journal → Sound new.journal

-- The same of a flush. After a failed one a page that was pending on the disk may read as anything, so the pool needn't agree then.
pub record KeepsFlushed {T : Type 0} (old new : Moment) (result : Result T PoolFault) : Type 0 where
  pub size : new.size ≡ old.size
  pub geometry : new.pool.geometry ≡ old.pool.geometry
  pub position : OnErr result (new.pool.position ≡ old.pool.position)
  pub later : old.faults ≤ new.faults
  pub fault : IfErr result (λ e. e ≡ Fault)
  pub cause : IsErrOf result Fault → (old.journal.failed ≡ true) ⊎ Rose old.faults new.faults
  pub serves : Serves new.told new.size new.journal new.pool.geometry
  pub agrees : OnOk result (AgreesOn new.told new.journal new.pool)
  pub sound : Sound old.journal → Sound new.journal

-- What a force keeps: the disk's length, the regions, that the state is sound and that the journal stands.
pub record KeepsForced {D : Type 0} (told : D → Option Story) (len faults : D → ℕ) (old new : D) (j k : journal.State) : Type 0 where
  pub size : len new ≡ len old
  pub later : faults old ≤ faults new
  pub gates : k.gates ≡ j.gates
  pub log : k.log ≡ j.log
  pub sound : Sound k
  pub stands : StandsOn (told new) k

-- the journal is as it was, or what was pending was forced
abbrev pub IsSameOrForced : journal.State → journal.State → Type 0
IsSameOrForced j k = (k ≡ j) ⊎ (k ≡ after_force j)

-- With no page dirty the disk tells what it told, and the journal is as it was.
pub record ReadsClean (pool : State) (j k : journal.State) (old new : Option Story) : Type 0 where
  pub only : AreClean pool → (new ≡ old) × (k ≡ j)

-- each page that is dirty has an Image among the records
abbrev pub AreImaged : State → List Record → Type 0
AreImaged pool recs = (p : ℕ) → IsDirty pool p → imaged recs p ≡ true

-- What ties a pool to the log: each dirty page has an Image, and one in an open chunk where the position of the last write lies within the chunks.
pub record AreTied (pool : State) (j : journal.State) (opened pending : List Record) : Type 0 where
  pub imaged : AreImaged pool (opened ++ pending)
  pub forced : pool.position ≤ bytes_of j.lens → AreImaged pool opened

-- So it is with whatever pages the store restores and whatever records it has, where the pool is tied to them.
abbrev pub InStore : Option Story → journal.State → State → ((ℕ → List ℕ) → List Record → Type 0) → Type 0
InStore told j pool Fact = (want : ℕ → List ℕ) (opened pending : List Record)
    → IsReadyOn want told j pool.geometry opened pending → AreTied pool j opened pending → Fact want (opened ++ pending)

-- The pages wanted are restored still, and only pages with an Image in an open chunk have changed on the disk.
pub record IsReadyStill (want : ℕ → List ℕ) (g : Geometry) (opened pending : List Record) (k : journal.State) (old new : Option Story)
    : Type 0 where
  pub ready : IsReadyOn want new k g opened pending
  pub rest : WhereTold old new (KeepsRest g opened)

-- so it is with these records, perhaps with more of them in open chunks, to which the pool is tied
abbrev pub IsReadyWith : (ℕ → List ℕ) → Geometry → List Record → journal.State → State → Option Story → Option Story → Type 0
IsReadyWith want g recs k after old new = (opened pending : List Record) × (opened ++ pending ≡ recs)
    × IsReadyStill want g opened pending k old new × AreTied after k opened pending

-- A crash anywhere in the call leaves only images that restore the pages wanted. After it the store is ready again, and the pool is tied to it.
pub record KeepsImages {T : Type 0} (want : ℕ → List ℕ) (g : Geometry) (recs : List Record) (k : journal.State) (after : State)
    (old new : Option Story) (result : Result T PoolFault) : Type 0 where
  pub leaves : LeavesOnly old new (Restores g want)
  pub ready : OnOk result (IsReadyWith want g recs k after old new)

-- The same of a call that forces: after it all records are in open chunks.
pub record FlushesImages {T : Type 0} (want : ℕ → List ℕ) (g : Geometry) (recs : List Record) (k : journal.State) (after : State)
    (old new : Option Story) (result : Result T PoolFault) : Type 0 where
  pub leaves : LeavesOnly old new (Restores g want)
  pub ready : OnOk result (IsReadyStill want g recs [] k old new)
  pub tied : OnOk result (AreTied after k recs [])

-- The call has brought the page into memory, where it answers Ok. Each page is as it was last written, and no more of them are dirty.
pub record IsLoad {T : Type 0} (old new : Moment) (page : ℕ) (result : Result T PoolFault) : Type 0 where
  pub held : OnOk result (IsHeld new.pool page × (new.pool.position ≡ old.pool.position))
  pub pages : KeepsPages new.journal old.pool new.pool old.told new.told
  pub dirty : NoneMoreDirty old.pool new.pool
  pub images : InStore old.told old.journal old.pool (λ want recs.
      KeepsImages want old.pool.geometry recs new.journal new.pool old.told new.told result)
  pub journal : OnOk result (IsSameOrForced old.journal new.journal)
  pub keeps : KeepsPool old new result
