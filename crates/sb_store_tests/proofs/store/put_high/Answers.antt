use Rattle.std.proofs.Common.{◌≤◌, length, arith}
use Rattle.sb_txn.proofs.BesideLemmas.{AreTwo-swap, IsAmong-two, AreClear-two, AreTwo-change}
use Rattle.sb_store_tests.proofs.store.put_high.Goals as goal

pub change-requires-clause-among : goal.change-requires-clause-among
change-requires-clause-among g c up =
    let two = AreTwo-swap _ c.args.low.now.number c.args.high.now.number c.args.store.now.book.actives (c.requires.two up) in
    IsAmong-two _ _ c.args.low.now.number c.args.store.now.book.actives two

pub change-requires-clause-apart : goal.change-requires-clause-apart
change-requires-clause-apart g c up =
    let on : 100 ≤ 105 = omega arith in
    let two = AreTwo-swap _ c.args.low.now.number c.args.high.now.number c.args.store.now.book.actives (c.requires.two up) in
    AreClear-two _ _ c.args.low.now.number c.args.store.now.book.actives two c.args.page 105 (length c.args.bytes.now) on

pub returns-clause-two : goal.returns-clause-two
returns-clause-two g c up =
    let call = c.change.ensures in
    let on : 100 ≤ 105 = omega arith in
    let low = c.args.low.now.number in
    let high = c.args.high.now.number in
    AreTwo-swap _ high low c.change.new.self.book.actives
    (AreTwo-change g.D.Disk.told g.D.Disk.len g.D.Disk.faults c.args.disk.now c.change.new.disk c.args.store.now c.change.new.self _ high low
    (λ off. AreTwo-swap _ low high c.args.store.now.book.actives (c.requires.two off)) up c.change.result 1 c.args.page 105 c.args.bytes.now on call.keeps call.changes call.refused)
