-- What a restart leaves.
use Rattle.std.specs.Prelude.{◌≡◌, ℕ, ◌*◌, ◌<◌, ◌≤◌, Option, Some, None, List, [], ◌∷◌}
use Rattle.sb_disk.specs.Disk.{Range, Story, AgreesBut, synced}
use Rattle.sb_disk.specs.Moments.{LeavesNow, LeavesOnly}
use Rattle.sb_journal.specs.Chunks.{IsOpen}
use Rattle.sb_log.specs.declared.geometry.Geometry.{Geometry}
use Rattle.sb_log.specs.Records.{Record}
use Rattle.sb_log.specs.Restored.{restored}
use Rattle.sb_images.specs.Layout.{gates_start, log_start, gates_of, place_of, page_at, IsStoreOf}
use Rattle.sb_images.specs.Images.{Logs}
use Rattle.sb_recover.specs.declared.fault.OpenFault.{OpenFault}
use Rattle.sb_recover.specs.declared.fault.OpenFault.TheVariants.{Fault, NotStore, BadLog, NoMemory}
use Rattle.sb_recover.specs.BadLog.{IsBadLog}
use Rattle.sb_recover.specs.Geometries.{HoldsNone}

-- where the pages are
abbrev pub pages_of : Geometry → Range
pages_of g = record { start = place_of g 0; len = 4096 * g.pages }

-- The contents were a store of these sizes, whose log has these records, and are one still. Each page is now as the records restored it, nothing is pending, and no gate is open. All but gates and pages is as it was.
pub record IsRestarted (g : Geometry) (s t : Story) : Type 0 where
  pub recs : List Record
  pub store : IsStoreOf g s.now.reads
  pub logs : Logs g s.now.reads recs
  pub pages : (p : ℕ) → p < g.pages → page_at g p t.now.reads ≡ restored recs p (page_at g p s.now.reads)
  pub still : IsStoreOf g t.now.reads
  pub elsewhere : AgreesBut (gates_of g ∷ pages_of g ∷ []) s.now.reads t.now.reads
  pub settled : t.now.written ≡ []
  pub shut : (i : ℕ) → gates_start ≤ i → i < log_start → ¬ IsOpen t.now.reads i

-- the disk was synced, and was asked for nothing else that makes a moment
abbrev pub WasSynced : Option Story → Option Story → Type 0
WasSynced old new = new ≡ synced old

-- the contents were a store whose log is bad at this chunk and offset
abbrev pub WasBad : Option Story → ℕ → ℕ → Type 0
WasBad None chunk offset = Unit {0}
WasBad (Some s) chunk offset = (g : Geometry) × IsStoreOf g s.now.reads × IsBadLog s g chunk offset

-- Why a restart is refused: behind each refusal but Fault nothing was written.
abbrev pub RestartErr : OpenFault → Option Story → Option Story → Type 0
RestartErr Fault old new = Unit {0}
RestartErr NoMemory old new = WasSynced old new
RestartErr NotStore old new = HoldsNone old × WasSynced old new
RestartErr (BadLog chunk offset) old new = WasBad old chunk offset × WasSynced old new
RestartErr other old new = ⊥

-- so all along a crash leaves what one could leave before, unless the disk failed
abbrev pub RefusedLeavesNow : Type 0
RefusedLeavesNow = (e : OpenFault) (old new : Option Story) → (e ≡ Fault → ⊥) → RestartErr e old new → LeavesOnly old new (LeavesNow old)
