use Rattle.std.proofs.Common.{◌≡◌, Some, length, sym, ap, subst}
use Rattle.sb_disk.specs.Disk.{Story}
use Rattle.sb_memdisk.specs.State.{State}
use Rattle.sb_txn.specs.Clauses.{IsReady}
use Rattle.sb_store_tests.proofs.store.failed.Goals as goal

-- the disk tells what it told
pub run-committed-requires-clause-ready : goal.run-committed-requires-clause-ready
run-committed-requires-clause-ready g c =
    let same : c.fail_at.new.self.story ≡ c.opened.new.disk.story = ap (λ (d : State). d.story) (rw c.expect.ensures at c.fail_at.ensures.ok) in
    subst (λ (s : Story). IsReady (record { told = Some s; size = length s.now.reads; store = c.in_ok-store.store })) (sym same) c.in_ok-store.ensures.ready
