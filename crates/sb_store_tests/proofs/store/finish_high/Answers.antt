use Rattle.std.proofs.Common.{ap}
use Rattle.sb_txn.specs.Book.{Book}
use Rattle.sb_txn.proofs.BesideLemmas.{AreTwo-swap, IsAmong-two, IsOnly-ended}
use Rattle.sb_txn.proofs.ResultLemmas.{OnOk-map}
use Rattle.sb_store_tests.proofs.store.finish_high.Goals as goal

pub commit-requires-clause-among : goal.commit-requires-clause-among
commit-requires-clause-among g c up =
    IsAmong-two _ _ c.args.low.now.number c.args.store.now.book.actives (AreTwo-swap _ c.args.low.now.number c.args.high.number c.args.store.now.book.actives (c.requires.two up))

pub abort-requires-clause-among : goal.abort-requires-clause-among
abort-requires-clause-among g c up =
    IsAmong-two _ _ c.args.low.now.number c.args.store.now.book.actives (AreTwo-swap _ c.args.low.now.number c.args.high.number c.args.store.now.book.actives (c.requires.two up))

pub returns-in-Ok-clause-only : goal.returns-in-Ok-clause-only
returns-in-Ok-clause-only g c up =
    let call = c.commit.ensures in
    IsOnly-ended g.D.Disk.told g.D.Disk.len g.D.Disk.faults c.args.disk.now c.commit.new.disk c.args.store.now c.commit.new.self _ c.args.high.number c.args.low.now.number
    (λ off. AreTwo-swap _ c.args.low.now.number c.args.high.number c.args.store.now.book.actives (c.requires.two off)) up c.commit.result call.keeps
    (OnOk-map c.commit.result _ _ (λ commits o is. ap (λ (b : Book). b.actives) (commits o is).book) call.commits) call.err

pub returns-in-Err-clause-only : goal.returns-in-Err-clause-only
returns-in-Err-clause-only g c up =
    let call = c.abort.ensures in
    IsOnly-ended g.D.Disk.told g.D.Disk.len g.D.Disk.faults c.args.disk.now c.abort.new.disk c.args.store.now c.abort.new.self _ c.args.high.number c.args.low.now.number
    (λ off. AreTwo-swap _ c.args.low.now.number c.args.high.number c.args.store.now.book.actives (c.requires.two off)) up c.abort.result call.keeps
    (OnOk-map c.abort.result _ _ (λ aborts o is. ap (λ (b : Book). b.actives) (aborts o is).book) call.aborts) call.err
