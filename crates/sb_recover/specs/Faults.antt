-- What a refusal of the journal makes of a restart.
use Rattle.sb_journal.specs.declared.fault.JournalFault.{JournalFault}
use Rattle.sb_journal.specs.declared.fault.JournalFault.TheVariants as journal
use Rattle.sb_recover.specs.declared.fault.OpenFault.{OpenFault}
use Rattle.sb_recover.specs.declared.fault.OpenFault.TheVariants.{Fault, BadLog, NoMemory}

-- the refusal that it becomes
abbrev pub fault_of : JournalFault → OpenFault
fault_of journal.NoMemory = NoMemory
fault_of (journal.BadChunk chunk offset) = BadLog chunk offset
fault_of other = Fault

-- a refusal for which the disk or the memory is the cause
abbrev pub IsFree : OpenFault → Type 0
IsFree Fault = Unit {0}
IsFree NoMemory = Unit {0}
IsFree other = ⊥
