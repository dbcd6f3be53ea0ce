use Rattle.std.proofs.Common.{ℕ, ◌+◌, List, length, take, ap, sym, ◌∙◌}
use Rattle.sb_drive.specs.Slots.{Slot}
use Rattle.sb_memory.specs.Contents.{stack}
use Rattle.sb_memory.proofs.StackLemmas.{goes_back}
use Rattle.sb_halves.proofs.laws.an_abort_gives_what_was_at_begin.Goals as goal

pub returns : goal.returns
returns c = λ k begun now after none changed back.
    goes_back k begun now after changed (back ∙ ap (λ (n : ℕ). take (n + 1) (stack now)) (sym (ap (λ (l : List (List Slot)). length l) none)))
