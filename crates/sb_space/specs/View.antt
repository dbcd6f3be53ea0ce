-- How contracts see what is borrowed.
use Rattle.sb_space.specs.declared.durable.Durable.{Durable}
use Rattle.sb_space.specs.Durable.{Lent}

abbrev pub lent : {D : Type 0} → Durable D → Lent D
lent d = record { store = d.store; disk = d.disk; tx = d.tx.now.number }
