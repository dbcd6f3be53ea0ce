use Rattle.std.proofs.Common.{◌≡◌, ◌≤◌, nat_lt, true, false, [], length, refl, arith}
use Rattle.std.proofs.lemmas.Bool.Decides.{nat_tests}
use Rattle.sb_memory.specs.Contents.{pages_of}
use Rattle.sb_memory.proofs.SlotsLemmas.{pages_of-past}
use Rattle.sb_memory.proofs.memory.Memory.next_from.Goals as goal

pub returns : goal.returns
returns c = λ n from. elim (nat_lt n c.loop-n.n) as (λ b. nat_lt n c.loop-n.n ≡ b → pages_of c.args.self.now.now c.args.owner n ≡ []) [
  | true ↦ λ before. c.loop-n.invariant n from (grind (arith, nat_tests))
  | false ↦ λ behind.
      let end : c.loop-n.n ≤ n = grind (arith, nat_tests) in
      let past : length c.self.inside.pages.items ≤ n = omega (arith, c.self.inside.pages.ok.0) in
      pages_of-past c.self.inside.pages.items c.self.inside.undo.items c.args.self.now c.args.owner n c.self.view_is c.self.invariant.most past
] refl
