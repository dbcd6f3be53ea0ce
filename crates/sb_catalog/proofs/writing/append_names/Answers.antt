use Rattle.std.proofs.Common.{length}
use Rattle.sb_pred.specs.Spelling.{name_spelling, IsStorableName}
use Rattle.sb_rule.proofs.Lists.{item_written, all_taken}
use Rattle.sb_catalog.proofs.writing.append_names.Goals as goal

pub loop-name-preserved : goal.loop-name-preserved
loop-name-preserved c =
    let more = item_written IsStorableName name_spelling c.as_slice-name-items.result.now c.loop-name.name-index (length c.args.names.now) c.name-item.result c.args.out.now
    c.loop-name.out c.append_name.new.out c.name-item.is c.loop-name-test.true c.loop-name.invariant.storable c.in_ok-append_name.ensures.storable
    c.loop-name.invariant.written c.in_ok-append_name.ensures.ok in
    record { written = more.0; storable = more.1 }

pub returns-clause-storable : goal.returns-clause-storable
returns-clause-storable c =
    (c.requires.0, all_taken IsStorableName c.as_slice-name-items.result.now c.args.names.now c.loop-name.name-index c.as_slice-name-items.ensures c.loop-name-test.false c.loop-name.invariant.storable)
