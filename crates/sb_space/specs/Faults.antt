-- Refusals of a store as refusals of a space.
use Rattle.sb_drive.specs.declared.space.SpaceFault.{SpaceFault}
use Rattle.sb_drive.specs.declared.space.SpaceFault.TheVariants as space
use Rattle.sb_txn.specs.declared.fault.StoreFault.{StoreFault}
use Rattle.sb_txn.specs.declared.fault.StoreFault.TheVariants as store

abbrev pub fault_of : StoreFault → SpaceFault
fault_of store.Fault = space.Fault
fault_of (store.LogFull used need total) = space.LogFull used need total
fault_of (store.GatesFull used total) = space.GatesFull used total
fault_of store.Down = space.Down
fault_of store.NoMemory = space.NoMemory
