use Rattle.std.proofs.Common.{◌<◌, Bool, List, get_or, length, ap, ◌∙◌, arith}
use Rattle.sb_space.proofs.Marking.{length-unmarked}
use Rattle.sb_opening.proofs.OwnerLemmas.{AreMarks-more, AreMarks-none}
use Rattle.sb_opening.proofs.owners.mark_owners.Goals as goal

pub loop-owner-init : goal.loop-owner-init
loop-owner-init c = record { marked = AreMarks-none c.args.marks.now 65536 c.requires.new }

pub loop-owner-preserved : goal.loop-owner-preserved
loop-owner-preserved c = record {
  marked =
      let long = c.loop-owner.auto.marks ∙ ap (λ (marks : List Bool). length marks) c.requires.new ∙ length-unmarked 65536 in
      let less : get_or c.args.owners.now c.loop-owner.owner-index 0 < length c.loop-owner.marks = omega (arith, long) in
      AreMarks-more c.args.owners.now c.loop-owner.owner-index c.loop-owner.marks c.loop-owner-test.true less c.loop-owner.invariant.marked;
}

pub bounds-marks-owner : goal.bounds-marks-owner
bounds-marks-owner c =
    let long = c.loop-owner.auto.marks ∙ ap (λ (marks : List Bool). length marks) c.requires.new ∙ length-unmarked 65536 in
    omega (arith, long)
