use Rattle.std.proofs.Common.{Option, refl}
use Rattle.sb_disk.specs.Disk.{Story}
use Rattle.sb_disk.specs.Moments.{LeavesNow, LeavesOnly}
use Rattle.sb_disk.proofs.MomentLemmas.{on_sync, started}
use Rattle.sb_recover.specs.Restarted.{RefusedLeavesNow, WasSynced}
use Rattle.sb_recover.specs.declared.fault.OpenFault.TheVariants.{Fault, NotStore, BadLog, NoMemory}
use Rattle.sb_recover.proofs.laws.refused_restarts_leave_the_disk.Goals as goal

synced_leaves : (old new : Option Story) → WasSynced old new → LeavesOnly old new (LeavesNow old)
synced_leaves old new is = on_sync old old new (LeavesNow old) (started old (LeavesNow old) (λ image left. left)) is

refused : RefusedLeavesNow
refused Fault old new not err = absurd (not refl)
refused NoMemory old new not err = synced_leaves old new err
refused NotStore old new not err = synced_leaves old new err.1
refused (BadLog chunk offset) old new not err = synced_leaves old new err.1
refused other old new not err = absurd err

pub returns : goal.returns
returns c = refused
