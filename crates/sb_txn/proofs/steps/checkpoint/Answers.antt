use Rattle.std.proofs.Common.{◌≡◌, false, [], refl, sym, ◌∙◌, ap}
use Rattle.sb_images.proofs.StoreLemmas.{IsStoreOn-ready}
use Rattle.sb_txn.proofs.StepLemmas.{LeavesOnly-checkpoint, IsStoreOn-checkpoint, Serves-close, AgreesOn-close, ArePagesOn-close}
use Rattle.sb_journal.specs.State as journal
use Rattle.sb_pool.specs.State as pool
use Rattle.sb_pool.proofs.StoreLemmas.{ArePagesOn-kept}
use Rattle.sb_txn.proofs.steps.checkpoint.Goals as goal

pub returns-in_err-flush_all-clause-any_moment : goal.returns-in_err-flush_all-clause-any_moment
returns-in_err-flush_all-clause-any_moment g c want now opened pending store tied pages =
    (c.flush_all.ensures.images want opened pending (IsStoreOn-ready want now _ c.args.journal.now c.args.pool.now.geometry opened pending [] store) tied).leaves

pub returns-in_err-close_all-clause-any_moment : goal.returns-in_err-close_all-clause-any_moment
returns-in_err-close_all-clause-any_moment g c want now opened pending store tied pages =
    let flush = c.in_ok-flush_all.ensures.images want opened pending (IsStoreOn-ready want now _ c.args.journal.now c.args.pool.now.geometry opened pending [] store) tied in
    LeavesOnly-checkpoint want now c.args.pool.now c.args.journal.now c.flush_all.new.journal opened pending _ _ _ store pages flush.ready c.in_ok-flush_all.ensures.disk flush.leaves c.close_all.ensures.any_moment

pub returns-clause-any_moment : goal.returns-clause-any_moment
returns-clause-any_moment g c want now opened pending store tied pages =
    let flush = c.in_ok-flush_all.ensures.images want opened pending (IsStoreOn-ready want now _ c.args.journal.now c.args.pool.now.geometry opened pending [] store) tied in
    LeavesOnly-checkpoint want now c.args.pool.now c.args.journal.now c.flush_all.new.journal opened pending _ _ _ store pages flush.ready c.in_ok-flush_all.ensures.disk flush.leaves c.close_all.ensures.any_moment

pub returns-clause-store : goal.returns-clause-store
returns-clause-store g c want now opened pending store tied pages =
    let flush = c.in_ok-flush_all.ensures.images want opened pending (IsStoreOn-ready want now _ c.args.journal.now c.args.pool.now.geometry opened pending [] store) tied in
    IsStoreOn-checkpoint want now c.args.pool.now c.args.journal.now c.flush_all.new.journal opened pending _ _ _ store pages flush.ready c.in_ok-flush_all.ensures.disk
    c.close_all.new.self c.in_ok-close_all.ensures.done c.close_all.ensures.keeps.sound c.in_ok-close_all.ensures.closed

pub returns-clause-serves : goal.returns-clause-serves
returns-clause-serves g c =
    let flush = c.in_ok-flush_all.ensures in
    Serves-close c.flush_all.new.self.geometry c.flush_all.new.journal c.close_all.new.self c.in_ok-close_all.ensures.done (g.D.Disk.told c.flush_all.new.disk) _ _ _ flush.keeps.serves c.close_all.ensures.keeps.stands c.close_all.ensures.keeps.size

pub returns-clause-agrees : goal.returns-clause-agrees
returns-clause-agrees g c =
    let flush = c.in_ok-flush_all.ensures in
    AgreesOn-close c.flush_all.new.self.geometry c.flush_all.new.journal c.close_all.new.self c.in_ok-close_all.ensures.done (g.D.Disk.told c.flush_all.new.disk) _ (g.D.Disk.len c.flush_all.new.disk) 0 flush.keeps.serves c.flush_all.new.self refl
    (ap (λ (x : pool.State). x.position) flush.flushed) c.in_ok-close_all.ensures.closed flush.keeps.agrees

pub returns-clause-pages : goal.returns-clause-pages
returns-clause-pages g c now pages =
    let flush = c.in_ok-flush_all.ensures in
    let was : c.flush_all.new.journal.failed ≡ false → c.args.journal.now.failed ≡ false = λ up. sym (ap (λ (x : journal.State). x.failed) flush.forced) ∙ up in
    ArePagesOn-close c.flush_all.new.self.geometry c.flush_all.new.journal c.close_all.new.self c.in_ok-close_all.ensures.done (g.D.Disk.told c.flush_all.new.disk) _ (g.D.Disk.len c.flush_all.new.disk) 0 flush.keeps.serves now c.flush_all.new.self refl
    c.in_ok-close_all.ensures.closed
    (ArePagesOn-kept c.args.journal.now c.flush_all.new.journal was now c.args.pool.now c.flush_all.new.self flush.keeps.geometry (g.D.Disk.told c.args.disk.now) (g.D.Disk.told c.flush_all.new.disk) flush.pages pages)
