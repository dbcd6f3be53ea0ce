use Rattle.std.proofs.Common.{◌+◌, ◌≤◌, length, arith}
use Rattle.sb_txn.proofs.BesideLemmas.{IsAmong-two, AreClear-two, AreTwo-change}
use Rattle.sb_store_tests.proofs.store.put_low.Goals as goal

pub change-requires-clause-among : goal.change-requires-clause-among
change-requires-clause-among g c up = IsAmong-two _ _ c.args.high.now.number c.args.store.now.book.actives (c.requires.two up)

pub change-requires-clause-apart : goal.change-requires-clause-apart
change-requires-clause-apart g c up =
    let on : 5 + length c.args.bytes.now ≤ 100 = omega arith in
    AreClear-two _ _ c.args.high.now.number c.args.store.now.book.actives (c.requires.two up) c.args.page 5 (length c.args.bytes.now) on

pub returns-clause-two : goal.returns-clause-two
returns-clause-two g c up =
    let call = c.change.ensures in
    let on : 5 + length c.args.bytes.now ≤ 100 = omega arith in
    AreTwo-change g.D.Disk.told g.D.Disk.len g.D.Disk.faults c.args.disk.now c.change.new.disk c.args.store.now c.change.new.self _ c.args.low.now.number c.args.high.now.number c.requires.two up c.change.result 1 c.args.page 5 c.args.bytes.now on
    call.keeps call.changes call.refused
