use Rattle.std.proofs.Common.{rules, ◌∷◌, ◌++◌, ◌∙◌}
use Rattle.sb_log.specs.Views.{active_with}
use Rattle.sb_images.specs.Store.{own_of, with_changes}
use Rattle.sb_images.proofs.CommitLemmas.{LeavesOnly-old}
use Rattle.sb_images.proofs.StoreLemmas.{IsStoreOn-ready}
use Rattle.sb_pool.proofs.StoreLemmas.{SamePages-force}
use Rattle.sb_txn.proofs.LogLemmas.{HasSamePages-as, HasSamePages-then}
use Rattle.sb_txn.proofs.StepLemmas.{LeavesOnly-committed, IsStoreOn-committed}
use Rattle.sb_txn.proofs.steps.commit.Goals as goal

pub returns-in_err-append_rec-clause-any_moment : goal.returns-in_err-append_rec-clause-any_moment
returns-in_err-append_rec-clause-any_moment g c want now geometry opened pending n rest store few =
    LeavesOnly-old want (with_changes (own_of (opened ++ pending) (active_with c.args.tx n)) want) geometry _ _
    (c.append_rec.ensures.any_moment want geometry opened pending (IsStoreOn-ready want now _ c.args.journal.now geometry opened pending (active_with c.args.tx n ∷ rest) store))

pub returns-in_err-force-clause-any_moment : goal.returns-in_err-force-clause-any_moment
returns-in_err-force-clause-any_moment g c want now geometry opened pending n rest store few =
    let log = c.in_ok-append_rec.ensures in
    LeavesOnly-committed want now c.args.journal.now c.append_rec.new.journal geometry opened pending c.args.tx n rest _ _ _ (search rules) store few log.done log.keeps.sound log.appended
    (log.any_moment want geometry opened pending (IsStoreOn-ready want now _ c.args.journal.now geometry opened pending (active_with c.args.tx n ∷ rest) store)) c.force.ensures.any_moment

pub returns-clause-any_moment : goal.returns-clause-any_moment
returns-clause-any_moment g c want now geometry opened pending n rest store few =
    let log = c.in_ok-append_rec.ensures in
    LeavesOnly-committed want now c.args.journal.now c.append_rec.new.journal geometry opened pending c.args.tx n rest _ _ _ (search rules) store few log.done log.keeps.sound log.appended
    (log.any_moment want geometry opened pending (IsStoreOn-ready want now _ c.args.journal.now geometry opened pending (active_with c.args.tx n ∷ rest) store)) c.force.ensures.any_moment

pub returns-clause-store : goal.returns-clause-store
returns-clause-store g c want now geometry opened pending n rest store few =
    let log = c.in_ok-append_rec.ensures in
    IsStoreOn-committed want now c.args.journal.now c.append_rec.new.journal geometry opened pending c.args.tx n rest _ _ _ (search rules) store few log.done log.keeps.sound log.appended
    c.force.new.self c.in_ok-force.ensures.done c.force.ensures.keeps.sound c.in_ok-force.ensures.forced

pub returns-clause-pages : goal.returns-clause-pages
returns-clause-pages g c h gates log =
    let one = c.in_ok-append_rec.ensures in
    HasSamePages-then h (g.D.Disk.told c.args.disk.now) (g.D.Disk.told c.append_rec.new.disk) (g.D.Disk.told c.force.new.disk) (one.pages h gates log)
    (HasSamePages-as h (g.D.Disk.told c.append_rec.new.disk) (g.D.Disk.told c.force.new.disk)
    (SamePages-force h c.append_rec.new.journal c.force.new.self (one.keeps.gates ∙ gates) (one.keeps.log ∙ log) (g.D.Disk.told c.append_rec.new.disk) (g.D.Disk.told c.force.new.disk) c.in_ok-force.ensures.forced))
