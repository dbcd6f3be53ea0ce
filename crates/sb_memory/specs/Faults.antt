-- Refusals of a memory.
use Rattle.sb_drive.specs.declared.space.SpaceFault.{SpaceFault}
use Rattle.sb_drive.specs.declared.space.SpaceFault.TheVariants as fault
use Rattle.sb_memory.specs.declared.faults.DriveFault.{DriveFault}
use Rattle.sb_memory.specs.declared.faults.DriveFault.TheVariants as drive

-- what a refusal is over a memory, which has neither a disk nor a log
abbrev pub in_memory : SpaceFault → DriveFault
in_memory (fault.Damaged n) = drive.Damaged n
in_memory e = drive.NoMemory
