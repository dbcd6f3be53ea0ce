use Rattle.std.proofs.Common.{refl, ◌∙◌, arith}
use Rattle.sb_recover.specs.Frames.{texts}
use Rattle.sb_recover.proofs.FrameLemmas.{length-texts}
use Rattle.sb_recover.proofs.WriteLemmas.{Wrote-none, Wrote-more, Wrote-failed, Wrote-sync, page_whole}
use Rattle.sb_recover.proofs.writing.write_pages.Goals as goal

pub loop-page-init : goal.loop-page-init
loop-page-init g c = record { wrote = Wrote-none c.args.g.now (texts c.args.frames.now) (g.D.Disk.told c.args.disk.now) c.requires.settled; len = refl; later = omega arith }

pub bounds-frames-page : goal.bounds-frames-page
bounds-frames-page g c =
    let count = c.requires.frames.count_is in let l = length-texts c.args.frames.now in let lt = c.loop-page-test.true in
    omega (arith, count, l, lt)

pub write_page-requires-clause-whole : goal.write_page-requires-clause-whole
write_page-requires-clause-whole g c =
    let count = c.requires.frames.count_is in let l = length-texts c.args.frames.now in let lt = c.loop-page-test.true in
    let page = page_whole c.args.frames.now c.loop-page.page c.index-frames-page.result c.deref.result.now (omega (arith, count, l, lt)) c.index-frames-page.is c.deref.ensures.value c.requires.frames.whole in
    page.1

pub returns-in_err-write_page-clause-any_moment : goal.returns-in_err-write_page-clause-any_moment
returns-in_err-write_page-clause-any_moment g c =
    let count = c.requires.frames.count_is in let l = length-texts c.args.frames.now in let lt = c.loop-page-test.true in
    let page = page_whole c.args.frames.now c.loop-page.page c.index-frames-page.result c.deref.result.now (omega (arith, count, l, lt)) c.index-frames-page.is c.deref.ensures.value c.requires.frames.whole in
    Wrote-failed c.args.g.now (texts c.args.frames.now) c.loop-page.page c.deref.result.now (g.D.Disk.told c.args.disk.now) (g.D.Disk.told c.loop-page.disk) (g.D.Disk.told c.write_page.new.disk) lt page.0 page.1 c.loop-page.invariant.wrote c.in_err-write_page.ensures.err

pub loop-page-preserved : goal.loop-page-preserved
loop-page-preserved g c =
    let count = c.requires.frames.count_is in let l = length-texts c.args.frames.now in let lt = c.loop-page-test.true in
    let page = page_whole c.args.frames.now c.loop-page.page c.index-frames-page.result c.deref.result.now (omega (arith, count, l, lt)) c.index-frames-page.is c.deref.ensures.value c.requires.frames.whole in
    let len = c.loop-page.invariant.len in let room = c.requires.room in
    let later = c.loop-page.invariant.later in let more = c.write_page.ensures.cause.later in
    record {
      wrote = Wrote-more c.args.g.now (texts c.args.frames.now) (g.D.Disk.len c.loop-page.disk) (g.D.Disk.clock c.loop-page.disk) c.loop-page.page c.deref.result.now (g.D.Disk.told c.args.disk.now) (g.D.Disk.told c.loop-page.disk) (g.D.Disk.told c.write_page.new.disk)
          (g.met.D.Disk.fits c.loop-page.disk) (omega (arith, len, room)) lt page.0 page.1 c.loop-page.invariant.wrote c.in_ok-write_page.ensures.ok;
      len = c.write_page.ensures.len ∙ len;
      later = omega (arith, later, more);
    }

pub returns-clause-any_moment : goal.returns-clause-any_moment
returns-clause-any_moment g c = Wrote-sync c.args.g.now (texts c.args.frames.now) c.sync.result c.loop-page.page (g.D.Disk.told c.args.disk.now) (g.D.Disk.told c.loop-page.disk) (g.D.Disk.told c.sync.new.self) c.loop-page.invariant.wrote c.sync.ensures.ok c.sync.ensures.err
