use Rattle.std.proofs.Common.{Bool, refl, sym, ap, ◌∙◌, subst}
use Rattle.sb_plain.specs.declared.command.Command.{Command}
use Rattle.sb_plain.specs.declared.command.Command.TheVariants as command
use Rattle.sb_plain.specs.declared.reply.Reply.{Reply}
use Rattle.sb_session.specs.Ends.{picked_reply, reply_of}
use Rattle.sb_session.specs.Sessions.{sizes_of}
use Rattle.sb_execution.specs.Serving.{may_have_committed}
use Rattle.sb_session.proofs.SameBoxes.{same-stays}
use Rattle.sb_execution.specs.Endings.{Executed}
use Rattle.sb_execution.proofs.ExecLemmas.{Executed-down, Executed-kept, Executed-moved, emptied, kept_commit, leaves_still}
use Rattle.sb_execution.proofs.PagesLemmas.{room_unwanted}
use Rattle.sb_execution.proofs.executing.run.Goals as goal

pub returns-then-session-clause-ended : goal.returns-then-session-clause-ended
returns-then-session-clause-ended g c =
    Executed-down g.B.Boxes.meanings g.D.Disk.told g.D.Disk.len g.D.Disk.faults c.args.command.now c.args.disk.now c.args.session.now c.requires.runs c.if-session.true

pub returns-in-Begin-clause-ended : goal.returns-in-Begin-clause-ended
returns-in-Begin-clause-ended g c =
    let meanings = g.B.Boxes.meanings in
    let told = g.D.Disk.told in
    let len = g.D.Disk.len in
    let faults = g.D.Disk.faults in
    let x = c.args.session.now in
    let d = c.args.disk.now in
    let e = c.begin.new.disk in
    let y = c.begin.new.self in
    let did = c.begin.ensures in
    subst (λ (k : Command). Executed meanings told len faults k d e x y c.reply_of.result) (sym c.in-Begin.is)
    (subst (λ (r : Reply). Executed meanings told len faults command.Begin d e x y r) (sym c.reply_of.ensures)
    (Executed-kept meanings told len faults command.Begin d e x y (reply_of c.begin.result) (same-stays (meanings x.boxes) (meanings y.boxes) (ap meanings did.boxes)) did.keeps did.runs (λ want s for posed. did.ends want s for)
    (λ want s for posed. room_unwanted _ _ _ _ (meanings x.boxes) (sizes_of x).pages s command.Begin (reply_of c.begin.result) refl (did.ends want s for)) did.any_moment))

pub returns-in-Abort-clause-ended : goal.returns-in-Abort-clause-ended
returns-in-Abort-clause-ended g c =
    let meanings = g.B.Boxes.meanings in
    let told = g.D.Disk.told in
    let len = g.D.Disk.len in
    let faults = g.D.Disk.faults in
    let x = c.args.session.now in
    let d = c.args.disk.now in
    let e = c.abort.new.disk in
    let y = c.abort.new.self in
    let did = c.abort.ensures in
    subst (λ (k : Command). Executed meanings told len faults k d e x y c.reply_of-in-Abort.result) (sym c.in-Abort.is)
    (subst (λ (r : Reply). Executed meanings told len faults command.Abort d e x y r) (sym c.reply_of-in-Abort.ensures)
    (Executed-kept meanings told len faults command.Abort d e x y (reply_of c.abort.result) (same-stays (meanings x.boxes) (meanings y.boxes) (ap meanings did.boxes)) did.keeps did.runs (λ want s for posed. did.ends want s for)
    (λ want s for posed. room_unwanted _ _ _ _ (meanings x.boxes) (sizes_of x).pages s command.Abort (reply_of c.abort.result) refl (did.ends want s for)) did.any_moment))

pub returns-in-Checkpoint-clause-ended : goal.returns-in-Checkpoint-clause-ended
returns-in-Checkpoint-clause-ended g c =
    let meanings = g.B.Boxes.meanings in
    let told = g.D.Disk.told in
    let len = g.D.Disk.len in
    let faults = g.D.Disk.faults in
    let x = c.args.session.now in
    let d = c.args.disk.now in
    let e = c.checkpoint.new.disk in
    let y = c.checkpoint.new.self in
    let did = c.checkpoint.ensures in
    subst (λ (k : Command). Executed meanings told len faults k d e x y c.reply_of-in-Checkpoint.result) (sym c.in-Checkpoint.is)
    (subst (λ (r : Reply). Executed meanings told len faults command.Checkpoint d e x y r) (sym c.reply_of-in-Checkpoint.ensures)
    (Executed-kept meanings told len faults command.Checkpoint d e x y (reply_of c.checkpoint.result) (same-stays (meanings x.boxes) (meanings y.boxes) (ap meanings did.boxes)) did.keeps did.runs (λ want s for posed. did.ends want s for)
    (λ want s for posed. room_unwanted _ _ _ _ (meanings x.boxes) (sizes_of x).pages s command.Checkpoint (reply_of c.checkpoint.result) refl (did.ends want s for)) did.any_moment))

pub returns-in-Checkpoint-clause-empties : goal.returns-in-Checkpoint-clause-empties
returns-in-Checkpoint-clause-empties g c = λ is went. emptied c.checkpoint.result c.reply_of-in-Checkpoint.result c.reply_of-in-Checkpoint.ensures c.checkpoint.ensures.empties went

pub returns-in-Rollback-clause-ended : goal.returns-in-Rollback-clause-ended
returns-in-Rollback-clause-ended g c =
    let meanings = g.B.Boxes.meanings in
    let told = g.D.Disk.told in
    let len = g.D.Disk.len in
    let faults = g.D.Disk.faults in
    let x = c.args.session.now in
    let d = c.args.disk.now in
    let e = c.rollback.new.disk in
    let y = c.rollback.new.self in
    let did = c.rollback.ensures in
    subst (λ (k : Command). Executed meanings told len faults k d e x y c.reply_of-in-Rollback.result) (sym c.in-Rollback.is)
    (subst (λ (r : Reply). Executed meanings told len faults (command.Rollback c.in-Rollback.name) d e x y r) (sym c.reply_of-in-Rollback.ensures)
    (Executed-kept meanings told len faults (command.Rollback c.in-Rollback.name) d e x y (reply_of c.rollback.result) (same-stays (meanings x.boxes) (meanings y.boxes) (ap meanings did.boxes)) did.keeps did.runs (λ want s for posed. did.ends want s for)
    (λ want s for posed. room_unwanted _ _ _ _ (meanings x.boxes) (sizes_of x).pages s (command.Rollback c.in-Rollback.name) (reply_of c.rollback.result) refl (did.ends want s for)) did.any_moment))

pub returns-in-Savepoint-clause-ended : goal.returns-in-Savepoint-clause-ended
returns-in-Savepoint-clause-ended g c =
    let meanings = g.B.Boxes.meanings in
    let told = g.D.Disk.told in
    let len = g.D.Disk.len in
    let faults = g.D.Disk.faults in
    let x = c.args.session.now in
    let d = c.args.disk.now in
    let e = c.savepoint.new.disk in
    let y = c.savepoint.new.self in
    let did = c.savepoint.ensures in
    subst (λ (k : Command). Executed meanings told len faults k d e x y c.reply_of-in-Savepoint.result) (sym c.in-Savepoint.is)
    (subst (λ (r : Reply). Executed meanings told len faults (command.Savepoint c.in-Savepoint.name) d e x y r) (sym c.reply_of-in-Savepoint.ensures)
    (Executed-kept meanings told len faults (command.Savepoint c.in-Savepoint.name) d e x y (reply_of c.savepoint.result) (same-stays (meanings x.boxes) (meanings y.boxes) (ap meanings did.boxes)) did.keeps did.runs (λ want s for posed. did.ends want s for)
    (λ want s for posed. room_unwanted _ _ _ _ (meanings x.boxes) (sizes_of x).pages s (command.Savepoint c.in-Savepoint.name) (reply_of c.savepoint.result) refl (did.ends want s for)) (leaves_still told len d e x y did.disk did.space)))

pub returns-in-Register-clause-ended : goal.returns-in-Register-clause-ended
returns-in-Register-clause-ended g c =
    let meanings = g.B.Boxes.meanings in
    let told = g.D.Disk.told in
    let len = g.D.Disk.len in
    let faults = g.D.Disk.faults in
    let x = c.args.session.now in
    let d = c.args.disk.now in
    let e = c.register.new.disk in
    let y = c.register.new.self in
    let did = c.register.ensures in
    subst (λ (k : Command). Executed meanings told len faults k d e x y c.reply_of-in-Register.result) (sym c.in-Register.is)
    (subst (λ (r : Reply). Executed meanings told len faults (command.Register c.in-Register.method c.in-Register.code) d e x y r) (sym c.reply_of-in-Register.ensures)
    (Executed-kept meanings told len faults (command.Register c.in-Register.method c.in-Register.code) d e x y (reply_of c.register.result) did.same did.keeps did.runs (λ want s for posed. did.ends want s for)
    (λ want s for posed. room_unwanted _ _ _ _ (meanings x.boxes) (sizes_of x).pages s (command.Register c.in-Register.method c.in-Register.code) (reply_of c.register.result) refl (did.ends want s for)) (leaves_still told len d e x y did.disk did.space)))

pub returns-in-Commit-clause-ended : goal.returns-in-Commit-clause-ended
returns-in-Commit-clause-ended g c =
    let meanings = g.B.Boxes.meanings in
    let told = g.D.Disk.told in
    let len = g.D.Disk.len in
    let faults = g.D.Disk.faults in
    let x = c.args.session.now in
    let d = c.args.disk.now in
    let e = c.commit.new.disk in
    let y = c.commit.new.self in
    let did = c.commit.ensures in
    subst (λ (k : Command). Executed meanings told len faults k d e x y c.picked_reply.result) (sym c.in-Commit.is)
    (subst (λ (r : Reply). Executed meanings told len faults command.Commit d e x y r) (sym c.picked_reply.ensures)
    (Executed-moved meanings told len faults command.Commit d e x y (picked_reply c.commit.result) (same-stays (meanings x.boxes) (meanings y.boxes) (ap meanings did.boxes)) did.keeps did.runs (λ want s for posed. did.ends want s for)
    (λ want s for posed. did.room want s for) (kept_commit c.commit.result did.kept)))

pub returns-then-is_some-clause-ended : goal.returns-then-is_some-clause-ended
returns-then-is_some-clause-ended g c =
    let meanings = g.B.Boxes.meanings in
    let told = g.D.Disk.told in
    let len = g.D.Disk.len in
    let faults = g.D.Disk.faults in
    let x = c.args.session.now in
    let d = c.args.disk.now in
    let y = c.exec_inside.new.session in
    let did = c.exec_inside.ensures in
    Executed-kept meanings told len faults c.args.command.now d c.exec_inside.new.disk x y c.exec_inside.result (same-stays (meanings x.boxes) (meanings y.boxes) (ap meanings did.boxes)) did.keeps did.runs (λ want s for posed. did.ends want s for posed) did.room did.any_moment

pub returns-else-is_some-clause-ended : goal.returns-else-is_some-clause-ended
returns-else-is_some-clause-ended g c =
    let meanings = g.B.Boxes.meanings in
    let told = g.D.Disk.told in
    let len = g.D.Disk.len in
    let faults = g.D.Disk.faults in
    let x = c.args.session.now in
    let d = c.args.disk.now in
    let y = c.exec_outside.new.session in
    let did = c.exec_outside.ensures in
    Executed-moved meanings told len faults c.args.command.now d c.exec_outside.new.disk x y c.exec_outside.result (same-stays (meanings x.boxes) (meanings y.boxes) (ap meanings did.boxes)) did.keeps did.runs did.ends did.room
    (λ never. did.leaves (ap (λ (b : Bool). may_have_committed c.args.command.now b c.exec_outside.result) (sym (sym c.is_some.ensures ∙ c.if-is_some.false)) ∙ never))
