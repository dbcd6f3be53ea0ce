use Rattle.std.proofs.Common.{arith}
use Rattle.sb_space.proofs.Marking.{marks_set-from}
use Rattle.sb_space.proofs.instances.unused_owner.Goals as goal

pub unreachable-requires : goal.unreachable-requires
unreachable-requires c =
    let end = c.loop-owner-test.false in
    let long = c.requires.long in
    let few = c.requires.few in
    let most = marks_set-from c.args.marks.now 3 65535 (omega (arith, long)) (λ i from less. c.loop-owner.invariant.marked i from (omega (arith, less, end))) in
    omega (arith, most, few)
