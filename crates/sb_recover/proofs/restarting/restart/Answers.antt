use Rattle.std.proofs.Common.{ℕ, List, Option, sym, ◌∙◌, ap, subst}
use Rattle.std.proofs.lemmas.Result.{err_from_is_err_and}
use Rattle.sb_disk.specs.Disk.{Story}
use Rattle.sb_disk.specs.Moments.{IsSettled, LeavesOnly}
use Rattle.sb_disk.proofs.MomentLemmas.{synced-IsSettled}
use Rattle.sb_images.specs.Images.{Restores}
use Rattle.sb_recover.specs.BadLog.{LogErr}
use Rattle.sb_recover.specs.Frames.{texts}
use Rattle.sb_recover.proofs.FinalLemmas.{IsReadBefore, LeavesOnly-first, IsReadBefore-made, StandsOn-read, IsRestarted-read, LeavesOnly-read, LeavesOnly-last, RestartErr-store, RestartErr-log, RestartErr-free}
use Rattle.sb_recover.proofs.restarting.restart.Given.{Over}
use Rattle.sb_recover.proofs.restarting.restart.Goals as goal
use Rattle.sb_recover.proofs.restarting.restart.Goals.{After-sync, After-restore, After-write_pages}
use Rattle.sb_images.specs.Store.{IsMounted}
use Rattle.sb_log.specs.declared.geometry.Geometry.{Geometry}

-- ---- the steps up to the first write
module _ (g : Over) where
  -- a crash in the sync leaves what was mounted
  first_at : (c : After-sync g) (want : ℕ → List ℕ) (h : Geometry) → IsMounted want (g.D.Disk.told c.args.disk.now) h → LeavesOnly (g.D.Disk.told c.args.disk.now) (g.D.Disk.told c.sync.new.self) (Restores h want)
  first_at c want h mounted = LeavesOnly-first want h c.sync.result (g.D.Disk.told c.args.disk.now) (g.D.Disk.told c.sync.new.self) mounted c.sync.ensures.ok c.sync.ensures.err

  -- and so it does up to the restored pages, since only reads come between
  read_at : (c : After-restore g) (P : List ℕ → Type 0) → LeavesOnly (g.D.Disk.told c.args.disk.now) (g.D.Disk.told c.sync.new.self) P → LeavesOnly (g.D.Disk.told c.args.disk.now) (g.D.Disk.told c.restore.new.disk) P
  read_at c P run = subst (λ (t : Option Story). LeavesOnly (g.D.Disk.told c.args.disk.now) t P) (sym (c.restore.ensures.reads.story ∙ c.read_log.ensures.reads.story ∙ c.read_store.ensures.reads.story)) run

  -- what was read
  found_at : (c : After-write_pages g) → IsReadBefore (g.D.Disk.told c.args.disk.now) (g.D.Disk.told c.restore.new.disk) c.in_ok-g.g c.in_ok-journal.journal (texts c.in_ok-journal.chunks.items) (texts c.deref-2.result.now)
  found_at c = IsReadBefore-made (g.D.Disk.told c.args.disk.now) (g.D.Disk.told c.sync.new.self) (g.D.Disk.told c.read_store.new.disk) (g.D.Disk.told c.read_log.new.disk) (g.D.Disk.told c.restore.new.disk) c.in_ok-g.g c.in_ok-journal.journal (texts c.in_ok-journal.chunks.items) (texts c.deref.result.now) (texts c.in_ok-frames.frames.items) (texts c.deref-2.result.now)
      c.in_ok-sync.ensures.ok c.read_store.ensures.reads.story c.read_log.ensures.reads.story c.restore.ensures.reads.story (ap texts c.deref.ensures.value) (ap texts c.deref-2.ensures.value) c.in_ok-g.ensures.ok.store c.in_ok-journal.ensures.ok c.in_ok-frames.ensures.restored

-- ---- its paths
pub returns-in_err-sync-clause-any_moment : goal.returns-in_err-sync-clause-any_moment
returns-in_err-sync-clause-any_moment g c want h mounted =
    (first_at g (goal.at.returns-in_err-sync-clause-any_moment g c).After-sync want h mounted)

pub returns-in_err-g-clause-any_moment : goal.returns-in_err-g-clause-any_moment
returns-in_err-g-clause-any_moment g c want h mounted =
    subst (λ (t : Option Story). LeavesOnly (g.D.Disk.told c.args.disk.now) t (Restores h want)) (sym c.read_store.ensures.reads.story) (first_at g (goal.at.returns-in_err-g-clause-any_moment g c).After-sync want h mounted)

pub returns-in_err-g-clause-refused : goal.returns-in_err-g-clause-refused
returns-in_err-g-clause-refused g c =
    let p = err_from_is_err_and c.from_residual-in_err-g.result c.from_residual-in_err-g.ensures.1 in
    rw (p.1, p.2) (RestartErr-store (g.D.Disk.told c.args.disk.now) (g.D.Disk.told c.sync.new.self) (g.D.Disk.told c.read_store.new.disk) c.in_err-g.field-0.0 c.in_ok-sync.ensures.ok c.read_store.ensures.reads.story c.in_err-g.ensures.refused)

pub read_log-requires-clause-settled : goal.read_log-requires-clause-settled
read_log-requires-clause-settled g c =
    subst IsSettled (sym c.read_store.ensures.reads.story) (synced-IsSettled (g.D.Disk.told c.args.disk.now) (g.D.Disk.told c.sync.new.self) c.in_ok-sync.ensures.ok)

pub returns-in_err-journal-clause-any_moment : goal.returns-in_err-journal-clause-any_moment
returns-in_err-journal-clause-any_moment g c want h mounted =
    subst (λ (t : Option Story). LeavesOnly (g.D.Disk.told c.args.disk.now) t (Restores h want)) (sym (c.read_log.ensures.reads.story ∙ c.read_store.ensures.reads.story)) (first_at g (goal.at.returns-in_err-journal-clause-any_moment g c).After-sync want h mounted)

pub returns-in_err-journal-clause-refused : goal.returns-in_err-journal-clause-refused
returns-in_err-journal-clause-refused g c =
    let p = err_from_is_err_and c.from_residual-in_err-journal.result c.from_residual-in_err-journal.ensures.1 in
    let err = subst (λ (t : Option Story). LogErr t c.in_ok-g.g c.in_err-journal.field-0.0) c.read_store.ensures.reads.story c.in_err-journal.ensures.refused in
    rw (p.1, p.2) (RestartErr-log (g.D.Disk.told c.args.disk.now) (g.D.Disk.told c.sync.new.self) (g.D.Disk.told c.read_log.new.disk) c.in_ok-g.g c.in_err-journal.field-0.0 c.in_ok-sync.ensures.ok (c.read_log.ensures.reads.story ∙ c.read_store.ensures.reads.story) c.in_ok-g.ensures.ok.store err)

pub returns-in_err-frames-clause-any_moment : goal.returns-in_err-frames-clause-any_moment
returns-in_err-frames-clause-any_moment g c want h mounted =
    read_at g (goal.at.returns-in_err-frames-clause-any_moment g c).After-restore (Restores h want) (first_at g (goal.at.returns-in_err-frames-clause-any_moment g c).After-sync want h mounted)

pub returns-in_err-frames-clause-refused : goal.returns-in_err-frames-clause-refused
returns-in_err-frames-clause-refused g c =
    let p = err_from_is_err_and c.from_residual-in_err-frames.result c.from_residual-in_err-frames.ensures.1 in
    rw (p.1, p.2) (RestartErr-free (g.D.Disk.told c.args.disk.now) (g.D.Disk.told c.sync.new.self) (g.D.Disk.told c.restore.new.disk) c.in_err-frames.field-0.0 c.in_ok-sync.ensures.ok (c.restore.ensures.reads.story ∙ c.read_log.ensures.reads.story ∙ c.read_store.ensures.reads.story) c.in_err-frames.ensures.refused)

pub write_pages-requires-clause-settled : goal.write_pages-requires-clause-settled
write_pages-requires-clause-settled g c =
    subst IsSettled (sym (c.restore.ensures.reads.story ∙ c.read_log.ensures.reads.story ∙ c.read_store.ensures.reads.story)) (synced-IsSettled (g.D.Disk.told c.args.disk.now) (g.D.Disk.told c.sync.new.self) c.in_ok-sync.ensures.ok)

pub returns-in_err-write_pages-clause-any_moment : goal.returns-in_err-write_pages-clause-any_moment
returns-in_err-write_pages-clause-any_moment g c want h mounted =
    let at = goal.at.returns-in_err-write_pages-clause-any_moment g c in
    let found = found_at g at.After-write_pages in
    LeavesOnly-read (g.D.Disk.told c.args.disk.now) (g.D.Disk.told c.restore.new.disk) c.in_ok-g.g c.in_ok-journal.journal (texts c.in_ok-journal.chunks.items) (texts c.deref-2.result.now) found want h mounted (read_at g at.After-restore (Restores h want) (first_at g at.After-sync want h mounted)) (g.D.Disk.told c.write_pages.new.disk) c.write_pages.ensures.any_moment

pub close_all-requires-clause-stands : goal.close_all-requires-clause-stands
close_all-requires-clause-stands g c =
    let at = goal.at.close_all-requires-clause-stands g c in
    let found = found_at g at.After-write_pages in
    StandsOn-read (g.D.Disk.told c.args.disk.now) (g.D.Disk.told c.restore.new.disk) c.in_ok-g.g c.in_ok-journal.journal (texts c.in_ok-journal.chunks.items) (texts c.deref-2.result.now) found (g.D.Disk.told c.write_pages.new.disk) c.in_ok-write_pages.ensures.written

pub returns-in_err-close_all-clause-any_moment : goal.returns-in_err-close_all-clause-any_moment
returns-in_err-close_all-clause-any_moment g c want h mounted =
    let at = goal.at.returns-in_err-close_all-clause-any_moment g c in
    let found = found_at g at.After-write_pages in
    LeavesOnly-last (g.D.Disk.told c.args.disk.now) (g.D.Disk.told c.restore.new.disk) c.in_ok-g.g c.in_ok-journal.journal (texts c.in_ok-journal.chunks.items) (texts c.deref-2.result.now) found want h mounted (read_at g at.After-restore (Restores h want) (first_at g at.After-sync want h mounted)) (g.D.Disk.told c.write_pages.new.disk) (g.D.Disk.told c.close_all.new.disk) c.write_pages.ensures.any_moment c.in_ok-write_pages.ensures.written c.close_all.ensures.any_moment

pub returns-clause-ok : goal.returns-clause-ok
returns-clause-ok g c =
    let at = goal.at.returns-clause-ok g c in
    let found = found_at g at.After-write_pages in
    IsRestarted-read (g.D.Disk.told c.args.disk.now) (g.D.Disk.told c.restore.new.disk) c.in_ok-g.g c.in_ok-journal.journal (texts c.in_ok-journal.chunks.items) (texts c.deref-2.result.now) found c.close_all.new.self (g.D.Disk.told c.write_pages.new.disk) (g.D.Disk.told c.close_all.new.disk) c.in_ok-write_pages.ensures.written c.in_ok-close_all.ensures.done c.in_ok-close_all.ensures.closed

pub returns-clause-any_moment : goal.returns-clause-any_moment
returns-clause-any_moment g c want h mounted =
    let at = goal.at.returns-clause-any_moment g c in
    let found = found_at g at.After-write_pages in
    LeavesOnly-last (g.D.Disk.told c.args.disk.now) (g.D.Disk.told c.restore.new.disk) c.in_ok-g.g c.in_ok-journal.journal (texts c.in_ok-journal.chunks.items) (texts c.deref-2.result.now) found want h mounted (read_at g at.After-restore (Restores h want) (first_at g at.After-sync want h mounted)) (g.D.Disk.told c.write_pages.new.disk) (g.D.Disk.told c.close_all.new.disk) c.write_pages.ensures.any_moment c.in_ok-write_pages.ensures.written c.close_all.ensures.any_moment
