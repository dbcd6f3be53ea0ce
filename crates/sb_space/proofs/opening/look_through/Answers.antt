use Rattle.std.proofs.Common.{ℕ, ◌<◌, ap, subst, ◌∙◌, arith}
use Rattle.sb_log.specs.declared.geometry.Geometry.{Geometry}
use Rattle.sb_txn.specs.Parts.{parts}
use Rattle.sb_txn.proofs.ResultLemmas.{IfErr-from}
use Rattle.sb_space.specs.Opening.{AreEntries, IsTablePage}
use Rattle.sb_space.specs.Table.{table_len}
use Rattle.sb_space.proofs.Looking.{below_next}
use Rattle.sb_space.proofs.OpeningLemmas.{OnlyLoads-then, TableErr-page, WhereNow-before}
use Rattle.sb_space.proofs.opening.look_through.Goals as goal

pub returns-in_err-look_at-clause-err : goal.returns-in_err-look_at-clause-err
returns-in_err-look_at-clause-err g c =
    let told = g.D.Disk.told in
    let len = g.D.Disk.len in
    let faults = g.D.Disk.faults in
    let inv = c.loop-p.invariant in
    let a = parts told len c.args.disk.now c.args.store.now in
    let b = parts told len c.loop-p.disk c.loop-p.store in
    let within : c.loop-p.p < table_len c.args.store.now.pool.geometry.pages = omega (arith, c.loop-p-test.true, c.table_pages-p-end.ensures, c.pages.ensures) in
    IfErr-from c.from_residual.result c.in_err-look_at.field-0.0 _ c.from_residual.ensures.1
    (TableErr-page a b inv.loads c.loop-p.p within inv.formed (faults c.args.disk.now) (faults c.loop-p.disk) (faults c.look_at.new.disk) inv.reads.later c.in_err-look_at.field-0.0 c.in_err-look_at.ensures.err)

pub loop-p-preserved : goal.loop-p-preserved
loop-p-preserved g c =
    let told = g.D.Disk.told in
    let len = g.D.Disk.len in
    let inv = c.loop-p.invariant in
    let call = c.in_ok-look_at.ensures in
    let a = parts told len c.args.disk.now c.args.store.now in
    let b = parts told len c.loop-p.disk c.loop-p.store in
    let n = parts told len c.look_at.new.disk c.look_at.new.store in
    let size = ap (λ (x : Geometry). x.pages) inv.loads.geometry in
    let pages = c.args.store.now.pool.geometry.pages in
    record {
      formed = λ want now store tells. below_next c.loop-p.p (λ m. AreEntries pages m (now m)) (inv.formed want now store tells)
          (subst (λ (x : ℕ). IsTablePage x now c.loop-p.p) size (WhereNow-before a b inv.loads (λ now. IsTablePage c.loop-p.store.pool.geometry.pages now c.loop-p.p) call.formed want now store tells));
      loads = OnlyLoads-then a b n inv.loads call.loads;
      reads = record {
        story = call.reads.story ∙ inv.reads.story;
        size = call.reads.size ∙ inv.reads.size;
        later = let first = inv.reads.later in let second = call.reads.later in omega (arith, first, second);
      };
    }

pub returns-clause-formed : goal.returns-clause-formed
returns-clause-formed g c = λ want now store tells p less.
    let end : p < c.loop-p.p = omega (arith, less, c.loop-p-test.false, c.table_pages-p-end.ensures, c.pages.ensures) in
    c.loop-p.invariant.formed want now store tells p end
