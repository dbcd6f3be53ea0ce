use Rattle.sb_memory.proofs.StackLemmas.{keeps_writes}
use Rattle.sb_turns_tests.proofs.turns.halves.drive_in_memory.Goals as goal

pub returns : goal.returns
returns g c =
    let led = c.run_method-end.ensures.leads in
    keeps_writes led.0 c.args.memory.now c.run_method-end.new.space led.1
