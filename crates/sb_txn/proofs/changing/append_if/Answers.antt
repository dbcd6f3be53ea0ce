use Rattle.std.proofs.Common.{rules, ◌≡◌, Bool, true, ◌++◌, subst, sym}
use Rattle.sb_log.specs.Rec.{record_of}
use Rattle.sb_images.specs.Store.{IsStoreOn}
use Rattle.sb_images.proofs.CallLemmas.{LeavesOnly-idle}
use Rattle.sb_txn.specs.Steps.{some}
use Rattle.sb_txn.proofs.changing.append_if.Goals as goal

pub returns-then-not-wanted-clause-any_moment : goal.returns-then-not-wanted-clause-any_moment
returns-then-not-wanted-clause-any_moment g c want geometry opened pending ready =
    LeavesOnly-idle want c.args.journal.now geometry opened pending (g.D.Disk.told c.args.disk.now) ready

pub returns-clause-store : goal.returns-clause-store
returns-clause-store g c want now geometry opened pending active store step =
    let on : c.args.wanted ≡ true = search rules in
    subst (λ (b : Bool). IsStoreOn want now (g.D.Disk.told c.append_rec.new.disk) c.append_rec.new.journal geometry opened (pending ++ some b (record_of c.args.r.now)) active) (sym on)
    (c.in_ok-append_rec.ensures.store want now now geometry opened pending active active store (step on))
