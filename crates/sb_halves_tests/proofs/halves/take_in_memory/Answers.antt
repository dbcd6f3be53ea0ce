use Rattle.std.proofs.Common.{◌+◌}
use Rattle.sb_memory.specs.MemorySpaces.{IsChanged-on}
use Rattle.sb_memory.proofs.StackLemmas.{keeps_writes}
use Rattle.sb_halves_tests.proofs.halves.take_in_memory.Goals as goal

pub returns-in-Err : goal.returns-in-Err
returns-in-Err c = keeps_writes 0 c.args.memory.now c.answer.new.self c.answer.ensures.leads

pub returns : goal.returns
returns c =
    let stored = c.store-stored.ensures.leads in
    keeps_writes (0 + stored.changes) c.args.memory.now c.store-stored.new.self
    (IsChanged-on 0 stored.changes c.args.memory.now c.answer.new.self c.store-stored.new.self c.answer.ensures.leads stored.leads)
