-- Driven calls of a storage method over a memory.
use Rattle.sb_forms.specs.Pages.{Pages}
use Rattle.sb_ctx.specs.declared.instance.Instance.{Instance}
use Rattle.sb_ctx.specs.declared.calls.MethodCall.{MethodCall}
use Rattle.sb_ctx.specs.Method.{Method}
use Rattle.sb_memory.specs.declared.faults.DriveFault.{DriveFault}
use Rattle.sb_memory.specs.declared.faults.DriveFault.TheVariants.{Damaged, NoMemory}
use Rattle.sb_drive.specs.MethodCalls.{IsDamaged}

-- Damaged names a page that the box may call broken, of some pages that it was given
abbrev pub HasCause : Method → Instance → MethodCall → Pages → DriveFault → Type 0
HasCause m inst c P (Damaged n) = IsDamaged m inst c P n
HasCause m inst c P NoMemory = Unit {0}
