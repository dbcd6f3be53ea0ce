use Rattle.std.proofs.Common.{length, ap, arith}
use Rattle.sb_memory.specs.Contents.{Contents, slots}
use Rattle.sb_memory.proofs.WritesLemmas.{length-pasts}
use Rattle.sb_memory.proofs.memory.Memory.mark.Goals as goal

pub returns : goal.returns
returns c =
    omega (arith, c.len.ensures, c.self.inside.undo.ok.0, length-pasts c.self.inside.undo.items (slots c.self.inside.pages.items), ap (λ (m : Contents). length m.past) c.self.view_is)
