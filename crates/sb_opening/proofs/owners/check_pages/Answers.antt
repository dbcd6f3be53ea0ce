use Rattle.std.proofs.Common.{◌<◌, ℕ, Ok, Err, inl, ap, arith}
use Rattle.sb_drive.proofs.SpacesLemmas.{IfErr-passed}
use Rattle.sb_log.specs.declared.geometry.Geometry.{Geometry}
use Rattle.sb_txn.specs.Parts.{parts}
use Rattle.sb_space.proofs.Looking.{below_next}
use Rattle.sb_space.proofs.Marking.{owner-tables}
use Rattle.sb_opening.specs.Owners.{IsKnown}
use Rattle.sb_opening.proofs.OwnerLemmas.{HasNoStray-all, OnlyLooks-none, OnlyLooks-passed, OnlyLooks-then, TellsStray-first}
use Rattle.sb_opening.proofs.owners.check_pages.Goals as goal

pub loop-n-init : goal.loop-n-init
loop-n-init g c =
    let first = ap (λ (r : ℕ × ℕ). r.1) c.catalogue-first.ensures in
    record {
      looks = OnlyLooks-none g.D.Disk.told g.D.Disk.len g.D.Disk.faults tt c.args.disk.now c.args.store.now c.requires.ready;
      known = λ owners want s are has m less.
          let one = owner-tables want s (parts g.D.Disk.told g.D.Disk.len c.args.disk.now c.args.store.now) has m (omega (arith, less, first)) in
          inl (omega (arith, one));
    }

pub check_page-requires-clause-ready : goal.check_page-requires-clause-ready
check_page-requires-clause-ready g c = c.loop-n.invariant.looks.ready

pub check_page-requires-clause-page : goal.check_page-requires-clause-page
check_page-requires-clause-page g c =
    let sizes = ap (λ (x : Geometry). x.pages) (c.loop-n.invariant.looks.works 0).geometry in
    omega (arith, sizes, c.loop-n-test.true, c.pages-n-end.ensures)

pub returns-in_err-check_page-clause-stray : goal.returns-in_err-check_page-clause-stray
returns-in_err-check_page-clause-stray g c =
    let e = c.in_err-check_page.field-0.0 in
    let before = c.loop-n.invariant in
    IfErr-passed c.from_residual.result e _ c.from_residual.ensures.1
    (λ owners want s are has. TellsStray-first s owners c.loop-n.n e (before.known owners want s are has) (c.in_err-check_page.ensures.stray owners want s are (before.looks.same want s has)))

pub returns-in_err-check_page-clause-looks : goal.returns-in_err-check_page-clause-looks
returns-in_err-check_page-clause-looks g c =
    let told = g.D.Disk.told in
    let len = g.D.Disk.len in
    let faults = g.D.Disk.faults in
    OnlyLooks-passed told len faults c.args.disk.now c.check_page.new.disk c.args.store.now c.check_page.new.store c.in_err-check_page.field-0.0 c.from_residual.result c.from_residual.ensures.1
    (OnlyLooks-then told len faults c.args.disk.now c.loop-n.disk c.check_page.new.disk c.args.store.now c.loop-n.store c.check_page.new.store (tt {0}) (Err c.in_err-check_page.field-0.0) c.loop-n.invariant.looks c.in_err-check_page.ensures.looks)

pub loop-n-preserved : goal.loop-n-preserved
loop-n-preserved g c =
    let before = c.loop-n.invariant in
    record {
      looks = OnlyLooks-then g.D.Disk.told g.D.Disk.len g.D.Disk.faults c.args.disk.now c.loop-n.disk c.check_page.new.disk c.args.store.now c.loop-n.store c.check_page.new.store (tt {0}) (Ok tt) before.looks c.in_ok-check_page.ensures.looks;
      known = λ owners want s are has.
          below_next c.loop-n.n (λ m. IsKnown owners (s m).0) (before.known owners want s are has) (c.in_ok-check_page.ensures.known owners want s are (before.looks.same want s has));
    }

pub returns-clause-known : goal.returns-clause-known
returns-clause-known g c = λ owners want s are has.
    let p = parts g.D.Disk.told g.D.Disk.len c.args.disk.now c.args.store.now in
    HasNoStray-all want s p has owners
    (λ m less.
    let within : m < c.loop-n.n = omega (arith, less, c.loop-n-test.false, c.pages-n-end.ensures) in
    c.loop-n.invariant.known owners want s are has m within)

pub returns-clause-looks : goal.returns-clause-looks
returns-clause-looks g c = c.loop-n.invariant.looks
