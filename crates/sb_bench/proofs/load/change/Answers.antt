use Rattle.std.proofs.Common.{rules, ◌%◌}
use Rattle.sb_txn.proofs.OnlyLemmas.{IsOnly-change}
use Rattle.sb_bench.proofs.load.change.Goals as goal

pub returns : goal.returns
returns g c =
    let call = c.change.ensures in
    record {
      ready = search rules;
      only = λ up. IsOnly-change g.D.Disk.told g.D.Disk.len g.D.Disk.faults c.args.disk.now c.change.new.disk c.args.store.now c.change.new.self c.args.tx.now.number c.requires.only up c.change.result 1 (c.args.number % 64) 0 c.to_be_bytes-bytes.result call.keeps call.changes call.refused;
      pages = search rules;
    }
