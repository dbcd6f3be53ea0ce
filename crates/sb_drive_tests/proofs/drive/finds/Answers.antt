use Rattle.std.proofs.Common.{refl}
use Rattle.sb_drive_tests.proofs.drive.finds.Goals as goal
use Rattle.sb_drive_tests.proofs.Boxes.{IsAttached-plain, found-answered}

pub drive_attachment-end-requires-clause-inst : goal.drive_attachment-end-requires-clause-inst
drive_attachment-end-requires-clause-inst g c = IsAttached-plain _ c.args.inst.now refl refl c.requires.inst

pub loop-answered-preserved : goal.loop-answered-preserved
loop-answered-preserved g c =
    let asked = rw c.expect.ensures at c.drive_attachment-end.ensures.find in
    let given = rw c.expect-in-Find.ensures at c.give_found-given.ensures.ok in
    let both = found-answered c.args.inst.now.owner c.loop-answered.memory c.drive_attachment-end.new.memory c.drive_attachment-end.new.ctx c.give_found-given.new.self c.expect.result _ _ _ _
    c.in-Find.is asked c.new-keys.ensures given in
    record { clean = both.0; holds = both.1 }
