use Rattle.std.proofs.Common.{rules, ◌≡◌, ◌+◌, ◌*◌, ℕ, length, subst, arith}
use Rattle.sb_disk.specs.Disk.{FailedWrite}
use Rattle.sb_recover.specs.FirstPages.{first_page}
use Rattle.sb_recover.proofs.LayingLemmas.{Lays-none, Lays-failed, Lays-more}
use Rattle.sb_recover.proofs.laying.lay_pages.Goals as goal

pub loop-p-init : goal.loop-p-init
loop-p-init g c = record { lays = Lays-none (69632 + c.args.g.log) c.args.g.pages (first_page c.args.g.pages) _; len = search rules; faults = search rules }

pub returns-in_err-write_at-clause-any_moment : goal.returns-in_err-write_at-clause-any_moment
returns-in_err-write_at-clause-any_moment g c =
    let long : length c.fill_first.new.page ≡ 4096 = search rules in
    let len = c.loop-p.invariant.len in
    let room = c.requires.room in
    Lays-failed (69632 + c.args.g.log) c.args.g.pages (first_page c.args.g.pages) (g.D.Disk.len c.loop-p.disk) (g.D.Disk.clock c.loop-p.disk) c.loop-p.p _ (g.D.Disk.told c.loop-p.disk) _
    (g.met.D.Disk.fits c.loop-p.disk) (omega arith) (omega arith) c.loop-p.invariant.lays
    (subst (λ (n : ℕ). FailedWrite (69632 + c.args.g.log + 4096 * c.loop-p.p) n (g.D.Disk.told c.loop-p.disk) (g.D.Disk.told c.write_at.new.self)) long c.in_err-write_at.ensures.err)

pub loop-p-preserved : goal.loop-p-preserved
loop-p-preserved g c =
    let long : length c.fill_first.new.page ≡ 4096 = search rules in
    let len = c.loop-p.invariant.len in
    let room = c.requires.room in
    record {
      lays = Lays-more (69632 + c.args.g.log) c.args.g.pages (first_page c.args.g.pages) (g.D.Disk.len c.loop-p.disk) (g.D.Disk.clock c.loop-p.disk) c.loop-p.p _ (g.D.Disk.told c.loop-p.disk) _
          (g.met.D.Disk.fits c.loop-p.disk) (omega arith) (omega arith) c.loop-p.invariant.lays
          c.fill_first.new.page long c.fill_first.ensures c.in_ok-write_at.ensures.ok;
      len = search rules;
      faults = search rules;
    }
