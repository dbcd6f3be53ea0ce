use Rattle.std.proofs.Common.{length}
use Rattle.sb_rule.specs.Spelling.{pair_spelling, IsStorablePair}
use Rattle.sb_rule.proofs.Lists.{item_written, all_taken}
use Rattle.sb_rule.proofs.writing.append_pairs.Goals as goal

pub loop-pair-preserved : goal.loop-pair-preserved
loop-pair-preserved c =
    let more = item_written IsStorablePair pair_spelling c.as_slice-pair-items.result.now c.loop-pair.pair-index (length c.args.pairs.now) c.pair-item.result c.args.out.now
    c.loop-pair.out c.append_pair.new.out c.pair-item.is c.loop-pair-test.true c.loop-pair.invariant.storable c.in_ok-append_pair.ensures.storable
    c.loop-pair.invariant.written c.in_ok-append_pair.ensures.ok in
    record { written = more.0; storable = more.1 }

pub returns-clause-storable : goal.returns-clause-storable
returns-clause-storable c =
    (c.requires.0, all_taken IsStorablePair c.as_slice-pair-items.result.now c.args.pairs.now c.loop-pair.pair-index c.as_slice-pair-items.ensures c.loop-pair-test.false c.loop-pair.invariant.storable)
