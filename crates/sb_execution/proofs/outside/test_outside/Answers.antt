use Rattle.std.proofs.Common.{[], Option, IfSome, Ok, Err, refl, sym, subst, ◌∙◌}
use Rattle.sb_fold.specs.declared.refusal.Refusal.{Refusal}
use Rattle.sb_cascade.specs.Runs.{OnFault}
use Rattle.sb_execution.proofs.AloneWork.{EndsAlone-failed, EndsAlone-looked, EndsAlone-not_begun, EndsAlone-tested, Passes-alone, begins_closed, leaves_aborted}
use Rattle.sb_execution.proofs.outside.test_outside.Goals as goal

pub returns-in-Err-clause-refused : goal.returns-in-Err-clause-refused
returns-in-Err-clause-refused g c = λ ones.
    let told = g.D.Disk.told in
    let len = g.D.Disk.len in
    let faults = g.D.Disk.faults in
    let m = g.B.Boxes.meanings c.args.boxes.now in
    EndsAlone-not_begun told len faults m c.args.place c.args.command.now c.args.disk.now c.begin.new.disk c.args.space.now.store c.begin.new.space.store c.requires.up
    ones ones c.in-Err.fault c.in-Err.ensures.remains c.in-Err.ensures.err c.in-Err.ensures.any_moment

pub returns-in-Ok-None-clause-passes : goal.returns-in-Ok-None-clause-passes
returns-in-Ok-None-clause-passes g c =
    let told = g.D.Disk.told in
    let len = g.D.Disk.len in
    let faults = g.D.Disk.faults in
    let m = g.B.Boxes.meanings c.args.boxes.now in
    let place = c.args.place in
    let d = c.args.disk.now in
    let s = c.args.space.now.store in
    let b = c.begin.new.disk in
    let bs = c.begin.new.space.store in
    let e = c.test_in-tested.new.disk in
    let t = c.test_in-tested.new.space.store in
    let f = c.abort.new.disk in
    let u = c.abort.new.space.store in
    let before = c.new.result.items in
    let a = c.in-Ok.transaction in
    let begun = c.in-Ok.ensures in
    let tests = c.test_in-tested.ensures in
    let ends = c.in-Ok-abort.ensures in
    Passes-alone told len faults m place c.args.command.now d b e s bs t a a c.requires.up c.requires.owner [] before (begins_closed m place.root s.pool.geometry.pages [] before c.new.ensures.items) begun.remains begun.any_moment begun.pages begun.begun begun.at begun.spent
    refl tests.usable tests.led tests.begun f u ends.any_moment ends.remains ends.none ends.rests
    [] refl refl (λ want x h at seen. sym c.in-Ok-None.field-0-is ∙ c.in-Ok-None.ensures.refused want x h at seen)

pub returns-in-Ok-Some-clause-refused : goal.returns-in-Ok-Some-clause-refused
returns-in-Ok-Some-clause-refused g c = λ ones.
    let told = g.D.Disk.told in
    let len = g.D.Disk.len in
    let faults = g.D.Disk.faults in
    let m = g.B.Boxes.meanings c.args.boxes.now in
    let place = c.args.place in
    let d = c.args.disk.now in
    let s = c.args.space.now.store in
    let b = c.begin.new.disk in
    let bs = c.begin.new.space.store in
    let e = c.test_in-tested.new.disk in
    let t = c.test_in-tested.new.space.store in
    let f = c.abort.new.disk in
    let u = c.abort.new.space.store in
    let before = c.new.result.items in
    let a = c.in-Ok.transaction in
    let begun = c.in-Ok.ensures in
    let tests = c.test_in-tested.ensures in
    let ends = c.in-Ok-abort.ensures in
    EndsAlone-tested told len faults m place c.args.command.now d b e s bs t a a c.requires.up c.requires.owner ones before (begins_closed m place.root s.pool.geometry.pages ones before c.new.ensures.items) begun.remains begun.any_moment begun.pages begun.begun begun.at begun.spent
    refl tests.usable tests.led tests.begun f u ends.any_moment ends.remains ends.none ends.rests
    [] refl c.requires.may c.in-Ok-Some.refusal (subst (λ (o : Option Refusal). IfSome o (λ r. OnFault r ⊥)) c.in-Ok-Some.field-0-is c.in-Ok-Some.ensures.tested) (λ want x h at seen. sym c.in-Ok-Some.field-0-is ∙ c.in-Ok-Some.ensures.refused want x h at seen)

pub returns-in-Err-tested-clause-refused : goal.returns-in-Err-tested-clause-refused
returns-in-Err-tested-clause-refused g c = λ ones.
    let told = g.D.Disk.told in
    let len = g.D.Disk.len in
    let faults = g.D.Disk.faults in
    let m = g.B.Boxes.meanings c.args.boxes.now in
    let place = c.args.place in
    let d = c.args.disk.now in
    let s = c.args.space.now.store in
    let b = c.begin.new.disk in
    let bs = c.begin.new.space.store in
    let e = c.test_in-tested.new.disk in
    let t = c.test_in-tested.new.space.store in
    let f = c.abort.new.disk in
    let u = c.abort.new.space.store in
    let before = c.new.result.items in
    let a = c.in-Ok.transaction in
    let begun = c.in-Ok.ensures in
    let tests = c.test_in-tested.ensures in
    let ends = c.in-Ok-abort.ensures in
    EndsAlone-looked told len faults m place c.args.command.now d b e s bs t a a c.requires.up c.requires.owner ones before (begins_closed m place.root s.pool.geometry.pages ones before c.new.ensures.items) begun.remains begun.any_moment begun.pages begun.begun begun.at begun.spent
    refl tests.usable tests.led tests.begun f u ends.any_moment ends.remains ends.none ends.rests
    [] refl c.requires.may c.in-Err-tested.refusal c.in-Err-tested.ensures.fault c.in-Err-tested.ensures.free c.in-Err-tested.ensures.room c.in-Err-tested.ensures.cause

pub returns-in-Err-abort-clause-refused : goal.returns-in-Err-abort-clause-refused
returns-in-Err-abort-clause-refused g c = λ ones.
    let told = g.D.Disk.told in
    let len = g.D.Disk.len in
    let faults = g.D.Disk.faults in
    let m = g.B.Boxes.meanings c.args.boxes.now in
    let place = c.args.place in
    let d = c.args.disk.now in
    let s = c.args.space.now.store in
    let b = c.begin.new.disk in
    let bs = c.begin.new.space.store in
    let e = c.test_in-tested.new.disk in
    let t = c.test_in-tested.new.space.store in
    let f = c.abort.new.disk in
    let u = c.abort.new.space.store in
    let before = c.new.result.items in
    let a = c.in-Ok.transaction in
    let begun = c.in-Ok.ensures in
    let tests = c.test_in-tested.ensures in
    let ends = c.in-Err-abort.ensures in
    EndsAlone-failed told len faults m place c.args.command.now d b e s bs t a a c.requires.up c.requires.owner ones before (begins_closed m place.root s.pool.geometry.pages ones before c.new.ensures.items) begun.remains begun.any_moment begun.pages begun.begun begun.at begun.spent
    refl tests.usable tests.led tests.begun f u ends.any_moment ones c.in-Err-abort.fault ends.remains ends.err

pub returns-in-Ok-None-clause-leaves : goal.returns-in-Ok-None-clause-leaves
returns-in-Ok-None-clause-leaves g c =
    let m = g.B.Boxes.meanings c.args.boxes.now in
    let before = c.new.result.items in
    let a = c.in-Ok.transaction in
    let begun = c.in-Ok.ensures in
    let tests = c.test_in-tested.ensures in
    let ends = c.in-Ok-abort.ensures in
    leaves_aborted g.D.Disk.told g.D.Disk.len g.D.Disk.faults m c.args.place c.args.command.now c.args.disk.now c.begin.new.disk c.test_in-tested.new.disk c.args.space.now.store c.begin.new.space.store
    c.test_in-tested.new.space.store a a c.requires.up c.requires.owner [] before (begins_closed m c.args.place.root c.args.space.now.store.pool.geometry.pages [] before c.new.ensures.items) begun.remains begun.any_moment begun.pages begun.begun begun.at begun.spent
    refl tests.usable tests.led tests.begun c.abort.new.disk c.abort.new.space.store ends.any_moment {T = Unit {0}} (Ok tt) ends.remains

pub returns-in-Ok-Some-clause-leaves : goal.returns-in-Ok-Some-clause-leaves
returns-in-Ok-Some-clause-leaves g c =
    let m = g.B.Boxes.meanings c.args.boxes.now in
    let before = c.new.result.items in
    let a = c.in-Ok.transaction in
    let begun = c.in-Ok.ensures in
    let tests = c.test_in-tested.ensures in
    let ends = c.in-Ok-abort.ensures in
    leaves_aborted g.D.Disk.told g.D.Disk.len g.D.Disk.faults m c.args.place c.args.command.now c.args.disk.now c.begin.new.disk c.test_in-tested.new.disk c.args.space.now.store c.begin.new.space.store
    c.test_in-tested.new.space.store a a c.requires.up c.requires.owner [] before (begins_closed m c.args.place.root c.args.space.now.store.pool.geometry.pages [] before c.new.ensures.items) begun.remains begun.any_moment begun.pages begun.begun begun.at begun.spent
    refl tests.usable tests.led tests.begun c.abort.new.disk c.abort.new.space.store ends.any_moment {T = Unit {0}} (Ok tt) ends.remains

pub returns-in-Err-tested-clause-leaves : goal.returns-in-Err-tested-clause-leaves
returns-in-Err-tested-clause-leaves g c =
    let m = g.B.Boxes.meanings c.args.boxes.now in
    let before = c.new.result.items in
    let a = c.in-Ok.transaction in
    let begun = c.in-Ok.ensures in
    let tests = c.test_in-tested.ensures in
    let ends = c.in-Ok-abort.ensures in
    leaves_aborted g.D.Disk.told g.D.Disk.len g.D.Disk.faults m c.args.place c.args.command.now c.args.disk.now c.begin.new.disk c.test_in-tested.new.disk c.args.space.now.store c.begin.new.space.store
    c.test_in-tested.new.space.store a a c.requires.up c.requires.owner [] before (begins_closed m c.args.place.root c.args.space.now.store.pool.geometry.pages [] before c.new.ensures.items) begun.remains begun.any_moment begun.pages begun.begun begun.at begun.spent
    refl tests.usable tests.led tests.begun c.abort.new.disk c.abort.new.space.store ends.any_moment {T = Unit {0}} (Ok tt) ends.remains

pub returns-in-Err-abort-clause-leaves : goal.returns-in-Err-abort-clause-leaves
returns-in-Err-abort-clause-leaves g c =
    let m = g.B.Boxes.meanings c.args.boxes.now in
    let before = c.new.result.items in
    let a = c.in-Ok.transaction in
    let begun = c.in-Ok.ensures in
    let tests = c.test_in-tested.ensures in
    let ends = c.in-Err-abort.ensures in
    leaves_aborted g.D.Disk.told g.D.Disk.len g.D.Disk.faults m c.args.place c.args.command.now c.args.disk.now c.begin.new.disk c.test_in-tested.new.disk c.args.space.now.store c.begin.new.space.store
    c.test_in-tested.new.space.store a a c.requires.up c.requires.owner [] before (begins_closed m c.args.place.root c.args.space.now.store.pool.geometry.pages [] before c.new.ensures.items) begun.remains begun.any_moment begun.pages begun.begun begun.at begun.spent
    refl tests.usable tests.led tests.begun c.abort.new.disk c.abort.new.space.store ends.any_moment {T = Unit {0}} (Err c.in-Err-abort.fault) ends.remains
