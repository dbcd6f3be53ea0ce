-- What a store answers where a call of its pool or its journal is refused.
use Rattle.sb_journal.specs.declared.fault.JournalFault.{JournalFault}
use Rattle.sb_journal.specs.declared.fault.JournalFault.TheVariants as journal
use Rattle.sb_pool.specs.declared.fault.PoolFault.{PoolFault}
use Rattle.sb_pool.specs.declared.fault.PoolFault.TheVariants as pool
use Rattle.sb_txn.specs.declared.fault.StoreFault.{StoreFault}
use Rattle.sb_txn.specs.declared.fault.StoreFault.TheVariants.{Fault, LogFull, GatesFull, NoMemory}

abbrev pub of_pool : PoolFault → StoreFault
of_pool pool.Fault = Fault
of_pool pool.NoMemory = NoMemory

abbrev pub of_journal : JournalFault → StoreFault
of_journal (journal.LogFull used need total) = LogFull used need total
of_journal (journal.GatesFull used total) = GatesFull used total
of_journal journal.NoMemory = NoMemory
of_journal journal.Fault = Fault
of_journal (journal.BadChunk chunk offset) = Fault
