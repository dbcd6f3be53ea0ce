use Rattle.std.proofs.Common.{◌≡◌, ◌+◌, Err, OnOk, Result, sym, subst, arith}
use Rattle.sb_drive.specs.declared.space.SpaceFault.{SpaceFault}
use Rattle.sb_drive.specs.Slots.{Slots}
use Rattle.sb_drive.specs.Spaces.{UnlessDown, Wanted}
use Rattle.sb_owners.specs.Instances.{without_owner}
use Rattle.sb_space.specs.Durable.{parts_in}
use Rattle.sb_space.specs.Stored.{Ends}
use Rattle.sb_space.specs.Table.{table_len}
use Rattle.sb_space.specs.View.{lent}
use Rattle.sb_space.specs.Works.{HasPages}
use Rattle.sb_space.proofs.Calling.{Calls-none, Calls-then, Calls-from, Calls-most, UnlessDown-map, handed-is}
use Rattle.sb_space.proofs.Clearing.{without_below, without_below-none, without_below-more, without_below-all, without_below-others}
use Rattle.sb_space.proofs.durable.Durable.free_owner.Goals as goal

pub loop-page-init : goal.loop-page-init
loop-page-init g c = record {
  calls = Calls-none g.D.Disk.told g.D.Disk.len g.D.Disk.faults tt (lent c.args.self.now) c.requires.ready;
  pages = λ want s has. subst (λ (t : Slots). HasPages want t (parts_in g.D.Disk.told g.D.Disk.len (lent c.args.self.now))) (sym (without_below-none c.args.owner s)) has;
}

pub returns-in_err-free_entries-clause-pages : goal.returns-in_err-free_entries-clause-pages
returns-in_err-free_entries-clause-pages g c =
    let owner = c.args.owner in
    let o = parts_in g.D.Disk.told g.D.Disk.len (lent c.args.self.now) in
    let p = parts_in g.D.Disk.told g.D.Disk.len (lent c.loop-page.self) in
    let q = parts_in g.D.Disk.told g.D.Disk.len (lent c.free_entries.new.self) in
    let e = c.in_err-free_entries.field-0.0 in
    subst (λ (r : Result (Unit {0}) SpaceFault). UnlessDown r ((want : Wanted) (s : Slots) → HasPages want s o → Ends owner want s q (λ t. OnOk r (t ≡ without_owner owner s))))
    (sym (handed-is c.from_residual.result e c.from_residual.ensures.1))
    (UnlessDown-map {T = Unit {0}} (Err e) ((want : Wanted) (s : Slots) → HasPages want s p → HasPages want s q) ((want : Wanted) (s : Slots) → HasPages want s o → Ends owner want s q (λ t. Unit {0}))
    (λ kept want s has. record {
      slots = without_below owner c.loop-page.page s;
      has = kept want (without_below owner c.loop-page.page s) (c.loop-page.invariant.pages want s has);
      others = without_below-others owner c.loop-page.page s;
      is = tt;
    }) c.in_err-free_entries.ensures.pages)

pub returns-in_err-free_entries-clause-calls : goal.returns-in_err-free_entries-clause-calls
returns-in_err-free_entries-clause-calls g c =
    let told = g.D.Disk.told in
    let len = g.D.Disk.len in
    let faults = g.D.Disk.faults in
    let a = lent c.args.self.now in
    let b = lent c.loop-page.self in
    let d = lent c.free_entries.new.self in
    let k = c.loop-page.page in
    let total = table_len a.store.now.pool.geometry.pages in
    Calls-from told len faults total a d c.in_err-free_entries.field-0.0 c.from_residual.result c.from_residual.ensures.1
    (Calls-most told len faults (k + 1) total a d _ (omega (arith, c.loop-page-test.true, c.table_pages-page-end.ensures))
    (Calls-then told len faults k 1 a b d tt _ c.loop-page.invariant.calls c.in_err-free_entries.ensures.calls))

pub loop-page-preserved : goal.loop-page-preserved
loop-page-preserved g c =
    let told = g.D.Disk.told in
    let len = g.D.Disk.len in
    let faults = g.D.Disk.faults in
    let owner = c.args.owner in
    let a = lent c.args.self.now in
    let b = lent c.loop-page.self in
    let d = lent c.free_entries.new.self in
    let k = c.loop-page.page in
    record {
      calls = Calls-then told len faults k 1 a b d tt _ c.loop-page.invariant.calls c.in_ok-free_entries.ensures.calls;
      pages = λ want s has. subst (λ (t : Slots). HasPages want t (parts_in told len d)) (without_below-more owner k s)
          (c.in_ok-free_entries.ensures.pages want (without_below owner k s) (c.loop-page.invariant.pages want s has));
    }

pub returns-clause-pages : goal.returns-clause-pages
returns-clause-pages g c = λ want s has.
    let owner = c.args.owner in
    let k = c.loop-page.page in
    let within = c.loop-page.auto.page-end in
    let last : k ≡ table_len c.args.self.now.store.now.pool.geometry.pages = omega (arith, within, c.loop-page-test.false, c.table_pages-page-end.ensures) in
    record {
      slots = without_below owner k s;
      has = c.loop-page.invariant.pages want s has;
      others = without_below-others owner k s;
      is = without_below-all want s (parts_in g.D.Disk.told g.D.Disk.len (lent c.args.self.now)) owner k has last;
    }

pub returns-clause-calls : goal.returns-clause-calls
returns-clause-calls g c =
    let within = c.loop-page.auto.page-end in
    Calls-most g.D.Disk.told g.D.Disk.len g.D.Disk.faults c.loop-page.page (table_len c.args.self.now.store.now.pool.geometry.pages) (lent c.args.self.now) (lent c.loop-page.self) _ (omega (arith, within, c.table_pages-page-end.ensures)) c.loop-page.invariant.calls
