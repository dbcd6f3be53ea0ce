use Rattle.std.proofs.Common.{[], All, Vec, Global, refl, sym, ap, ◌∙◌, subst}
use Rattle.sb_engine.specs.OpenRelation.{OpenRelation}
use Rattle.sb_engine.specs.Opened.{IsOpen}
use Rattle.sb_execution.specs.declared.serving.Served.{Served}
use Rattle.sb_execution.specs.Serving.{is_read}
use Rattle.sb_execution.proofs.AloneWork.{EndsAlone-back, EndsAlone-down, EndsAlone-failed, EndsAlone-not_begun, EndsAlone-reads, begins_so, has_answered}
use Rattle.sb_execution.proofs.outside.work_outside.Goals as goal

pub returns-in-Err-clause-ended : goal.returns-in-Err-clause-ended
returns-in-Err-clause-ended g c =
    let told = g.D.Disk.told in
    let len = g.D.Disk.len in
    let faults = g.D.Disk.faults in
    let m = g.B.Boxes.meanings c.args.boxes.now in
    EndsAlone-not_begun told len faults m c.args.place c.args.command.now c.args.disk.now c.begin.new.disk c.args.space.now.store c.begin.new.space.store c.requires.up
    c.args.opened.now.items c.replace-before.new.dest.items c.in-Err.fault c.in-Err.ensures.remains c.in-Err.ensures.err c.in-Err.ensures.any_moment

pub returns-then-is_down-clause-ended : goal.returns-then-is_down-clause-ended
returns-then-is_down-clause-ended g c =
    let told = g.D.Disk.told in
    let len = g.D.Disk.len in
    let faults = g.D.Disk.faults in
    let m = g.B.Boxes.meanings c.args.boxes.now in
    let place = c.args.place in
    let d = c.args.disk.now in
    let s = c.args.space.now.store in
    let e = c.serve_in-served.new.disk in
    let t = c.serve_in-served.new.space.store in
    let b = c.begin.new.disk in
    let bs = c.begin.new.space.store in
    let ones = c.args.opened.now.items in
    let before = c.replace-before.result.items in
    let begins = begins_so m place.root s.pool.geometry.pages ones before (λ i. (c.replace-before.ensures.value i).items) in
    let a = c.in-Ok.transaction in
    let y = c.serve_in-served.new.transaction in
    let begun = c.in-Ok.ensures in
    let serves = c.serve_in-served.ensures in
    EndsAlone-down told len faults m place c.args.command.now d b e s bs t a y c.requires.up c.requires.owner ones before begins begun.remains begun.any_moment begun.pages begun.begun begun.at begun.spent
    serves.tx serves.usable serves.led serves.begun c.replace-before.new.dest.items (sym c.is_down.ensures ∙ c.if-is_down.true)

pub returns-in-Ok-abort-clause-ended : goal.returns-in-Ok-abort-clause-ended
returns-in-Ok-abort-clause-ended g c =
    let told = g.D.Disk.told in
    let len = g.D.Disk.len in
    let faults = g.D.Disk.faults in
    let m = g.B.Boxes.meanings c.args.boxes.now in
    let place = c.args.place in
    let d = c.args.disk.now in
    let s = c.args.space.now.store in
    let e = c.serve_in-served.new.disk in
    let t = c.serve_in-served.new.space.store in
    let b = c.begin.new.disk in
    let bs = c.begin.new.space.store in
    let ones = c.args.opened.now.items in
    let before = c.replace-before.result.items in
    let begins = begins_so m place.root s.pool.geometry.pages ones before (λ i. (c.replace-before.ensures.value i).items) in
    let a = c.in-Ok.transaction in
    let y = c.serve_in-served.new.transaction in
    let begun = c.in-Ok.ensures in
    let serves = c.serve_in-served.ensures in
    let f = c.abort.new.disk in
    let u = c.abort.new.space.store in
    let ends = c.in-Ok-abort.ensures in
    EndsAlone-reads told len faults m place c.args.command.now d b e s bs t a y c.requires.up c.requires.owner ones before begins begun.remains begun.any_moment begun.pages begun.begun begun.at begun.spent
    serves.tx serves.usable serves.led serves.begun f u ends.any_moment ends.remains ends.none ends.rests
    [] refl begun.opened c.swap.new.x.items (λ i. (c.swap.ensures.x_after i).items) c.in-Read.reply c.in-Ok-served.served c.in-Read.is c.in-Ok-served.ensures.answer c.in-Ok-served.ensures.opened c.in-Ok-served.ensures.served

pub returns-in-Err-abort-clause-ended : goal.returns-in-Err-abort-clause-ended
returns-in-Err-abort-clause-ended g c =
    let told = g.D.Disk.told in
    let len = g.D.Disk.len in
    let faults = g.D.Disk.faults in
    let m = g.B.Boxes.meanings c.args.boxes.now in
    let place = c.args.place in
    let d = c.args.disk.now in
    let s = c.args.space.now.store in
    let e = c.serve_in-served.new.disk in
    let t = c.serve_in-served.new.space.store in
    let b = c.begin.new.disk in
    let bs = c.begin.new.space.store in
    let ones = c.args.opened.now.items in
    let before = c.replace-before.result.items in
    let begins = begins_so m place.root s.pool.geometry.pages ones before (λ i. (c.replace-before.ensures.value i).items) in
    let a = c.in-Ok.transaction in
    let y = c.serve_in-served.new.transaction in
    let begun = c.in-Ok.ensures in
    let serves = c.serve_in-served.ensures in
    let f = c.abort.new.disk in
    let u = c.abort.new.space.store in
    let ends = c.in-Err-abort.ensures in
    EndsAlone-failed told len faults m place c.args.command.now d b e s bs t a y c.requires.up c.requires.owner ones before begins begun.remains begun.any_moment begun.pages begun.begun begun.at begun.spent
    serves.tx serves.usable serves.led serves.begun f u ends.any_moment c.swap.new.x.items c.in-Err-abort.fault ends.remains ends.err

pub returns-in-Worked-clause-ended : goal.returns-in-Worked-clause-ended
returns-in-Worked-clause-ended g c =
    let told = g.D.Disk.told in
    let len = g.D.Disk.len in
    let faults = g.D.Disk.faults in
    let m = g.B.Boxes.meanings c.args.boxes.now in
    let place = c.args.place in
    let d = c.args.disk.now in
    let s = c.args.space.now.store in
    let e = c.serve_in-served.new.disk in
    let t = c.serve_in-served.new.space.store in
    let b = c.begin.new.disk in
    let bs = c.begin.new.space.store in
    let ones = c.args.opened.now.items in
    let before = c.replace-before.result.items in
    let begins = begins_so m place.root s.pool.geometry.pages ones before (λ i. (c.replace-before.ensures.value i).items) in
    let a = c.in-Ok.transaction in
    let y = c.serve_in-served.new.transaction in
    let begun = c.in-Ok.ensures in
    let serves = c.serve_in-served.ensures in
    c.commit_answer.ensures.ended c.args.command.now d s ones
    (has_answered told len faults m place c.args.command.now d b e s bs t a y c.requires.up c.requires.owner ones before begins begun.remains begun.any_moment begun.pages begun.begun begun.at begun.spent
    serves.tx serves.usable serves.led serves.begun c.requires.works (sym c.in-Ok-served.ensures.reads ∙ ap (λ (x : Served). is_read x) c.in-Worked.is) [] refl c.in-Worked.answer c.in-Ok-served.served c.in-Worked.is (sym c.is_down.ensures ∙ c.if-is_down.false) c.in-Ok-served.ensures.served)

pub returns-in-Ok-abort-2-clause-ended : goal.returns-in-Ok-abort-2-clause-ended
returns-in-Ok-abort-2-clause-ended g c =
    let told = g.D.Disk.told in
    let len = g.D.Disk.len in
    let faults = g.D.Disk.faults in
    let m = g.B.Boxes.meanings c.args.boxes.now in
    let place = c.args.place in
    let d = c.args.disk.now in
    let s = c.args.space.now.store in
    let e = c.serve_in-served.new.disk in
    let t = c.serve_in-served.new.space.store in
    let b = c.begin.new.disk in
    let bs = c.begin.new.space.store in
    let ones = c.args.opened.now.items in
    let before = c.replace-before.result.items in
    let begins = begins_so m place.root s.pool.geometry.pages ones before (λ i. (c.replace-before.ensures.value i).items) in
    let a = c.in-Ok.transaction in
    let y = c.serve_in-served.new.transaction in
    let begun = c.in-Ok.ensures in
    let serves = c.serve_in-served.ensures in
    let f = c.abort-in-Err-served.new.disk in
    let u = c.abort-in-Err-served.new.space.store in
    let ends = c.in-Ok-abort-2.ensures in
    EndsAlone-back told len faults m place c.args.command.now d b e s bs t a y c.requires.up c.requires.owner ones before begins begun.remains begun.any_moment begun.pages begun.begun begun.at begun.spent
    serves.tx serves.usable serves.led serves.begun f u ends.any_moment ends.remains ends.none ends.rests
    [] refl c.replace-before.new.dest.items (ap (λ (v : Vec OpenRelation Global). v.items) c.replace-before.ensures.after ∙ c.new.ensures.items) c.requires.works c.in-Err-served.refusal c.in-Err-served.ensures.fault c.in-Err-served.ensures.refused

pub returns-in-Err-abort-2-clause-ended : goal.returns-in-Err-abort-2-clause-ended
returns-in-Err-abort-2-clause-ended g c =
    let told = g.D.Disk.told in
    let len = g.D.Disk.len in
    let faults = g.D.Disk.faults in
    let m = g.B.Boxes.meanings c.args.boxes.now in
    let place = c.args.place in
    let d = c.args.disk.now in
    let s = c.args.space.now.store in
    let e = c.serve_in-served.new.disk in
    let t = c.serve_in-served.new.space.store in
    let b = c.begin.new.disk in
    let bs = c.begin.new.space.store in
    let ones = c.args.opened.now.items in
    let before = c.replace-before.result.items in
    let begins = begins_so m place.root s.pool.geometry.pages ones before (λ i. (c.replace-before.ensures.value i).items) in
    let a = c.in-Ok.transaction in
    let y = c.serve_in-served.new.transaction in
    let begun = c.in-Ok.ensures in
    let serves = c.serve_in-served.ensures in
    let f = c.abort-in-Err-served.new.disk in
    let u = c.abort-in-Err-served.new.space.store in
    let ends = c.in-Err-abort-2.ensures in
    EndsAlone-failed told len faults m place c.args.command.now d b e s bs t a y c.requires.up c.requires.owner ones before begins begun.remains begun.any_moment begun.pages begun.begun begun.at begun.spent
    serves.tx serves.usable serves.led serves.begun f u ends.any_moment c.replace-before.new.dest.items c.in-Err-abort-2.fault ends.remains ends.err

-- ---- it can be called
pub serve_in-served-requires : goal.serve_in-served-requires
serve_in-served-requires g c =
    let m = g.B.Boxes.meanings c.args.boxes.now in
    record {
      usable = c.in-Ok.ensures.usable m c.args.place c.requires.owner
          (subst (λ (v : Vec OpenRelation Global). All (IsOpen m) v.items) (sym c.replace-before.ensures.value) c.requires.are_open);
    }
