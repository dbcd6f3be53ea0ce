use Rattle.std.proofs.Common.{◌+◌, Ok, length, arith}
use Rattle.sb_ctx.specs.View.{edited_pages, fresh_pages, freed_pages, edits_of}
use Rattle.sb_space.specs.Durable.{parts_in}
use Rattle.sb_space.specs.Stored.{taken_in}
use Rattle.sb_space.specs.View.{lent}
use Rattle.sb_space.proofs.Calling.{Calls-then, Calls-from, Calls-most}
use Rattle.sb_space.proofs.Endings.{all_ended, first_ended, second_ended}
use Rattle.sb_space.proofs.Whole.{edits-counted}
use Rattle.sb_space.proofs.durable.Durable.store_all.Goals as goal

pub returns-in_err-take_pages-clause-pages : goal.returns-in_err-take_pages-clause-pages
returns-in_err-take_pages-clause-pages g c =
    first_ended c.args.owner c.args.ctx.now (parts_in g.D.Disk.told g.D.Disk.len (lent c.args.self.now)) (parts_in g.D.Disk.told g.D.Disk.len (lent c.take_pages.new.self)) c.in_err-take_pages.field-0.0 c.from_residual.result c.from_residual.ensures.1 _ c.in_err-take_pages.ensures.pages

pub returns-in_err-write_pages-clause-pages : goal.returns-in_err-write_pages-clause-pages
returns-in_err-write_pages-clause-pages g c =
    second_ended c.args.owner c.args.ctx.now (parts_in g.D.Disk.told g.D.Disk.len (lent c.args.self.now)) (parts_in g.D.Disk.told g.D.Disk.len (lent c.take_pages.new.self)) (parts_in g.D.Disk.told g.D.Disk.len (lent c.write_pages.new.self))
    c.in_err-write_pages.field-0.0 _ c.from_residual-in_err-write_pages.ensures.1 _ _ c.in_ok-take_pages.ensures.pages c.in_err-write_pages.ensures.pages

pub returns-in_err-write_pages-clause-calls : goal.returns-in_err-write_pages-clause-calls
returns-in_err-write_pages-clause-calls g c =
    let told = g.D.Disk.told in
    let len = g.D.Disk.len in
    let faults = g.D.Disk.faults in
    let v = c.args.ctx.now in
    let a = lent c.args.self.now in
    let b = lent c.take_pages.new.self in
    let d = lent c.write_pages.new.self in
    let k = length (taken_in (fresh_pages v)) in
    let l = length (edited_pages v) in
    let most = edits-counted v in
    Calls-from told len faults (edits_of v) a d c.in_err-write_pages.field-0.0 c.from_residual-in_err-write_pages.result c.from_residual-in_err-write_pages.ensures.1
    (Calls-most told len faults (k + l) (edits_of v) a d _ (omega (arith, most)) (Calls-then told len faults k l a b d c.in_ok-take_pages.field-0 _ c.in_ok-take_pages.ensures.calls c.in_err-write_pages.ensures.calls))

pub returns-clause-pages : goal.returns-clause-pages
returns-clause-pages g c =
    all_ended c.args.owner c.args.ctx.now (parts_in g.D.Disk.told g.D.Disk.len (lent c.args.self.now)) (parts_in g.D.Disk.told g.D.Disk.len (lent c.take_pages.new.self)) (parts_in g.D.Disk.told g.D.Disk.len (lent c.write_pages.new.self))
    (parts_in g.D.Disk.told g.D.Disk.len (lent c.free_pages.new.self)) c.free_pages.result c.is_ctx.ensures.sound c.in_ok-take_pages.ensures.pages c.in_ok-write_pages.ensures.pages c.free_pages.ensures.pages

pub returns-clause-calls : goal.returns-clause-calls
returns-clause-calls g c =
    let told = g.D.Disk.told in
    let len = g.D.Disk.len in
    let faults = g.D.Disk.faults in
    let v = c.args.ctx.now in
    let a = lent c.args.self.now in
    let b = lent c.take_pages.new.self in
    let d = lent c.write_pages.new.self in
    let e = lent c.free_pages.new.self in
    let k = length (taken_in (fresh_pages v)) in
    let l = length (edited_pages v) in
    let m = length (freed_pages v) in
    let most = edits-counted v in
    Calls-most told len faults (k + l + m) (edits_of v) a e c.free_pages.result (omega (arith, most))
    (Calls-then told len faults (k + l) m a d e c.in_ok-write_pages.field-0 c.free_pages.result
    (Calls-then told len faults k l a b d c.in_ok-take_pages.field-0 (Ok c.in_ok-write_pages.field-0) c.in_ok-take_pages.ensures.calls c.in_ok-write_pages.ensures.calls) c.free_pages.ensures.calls)
