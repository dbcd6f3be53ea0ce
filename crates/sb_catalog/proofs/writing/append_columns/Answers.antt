use Rattle.std.proofs.Common.{length}
use Rattle.sb_catalog.specs.Descriptors.{column_spelling}
use Rattle.sb_catalog.specs.Writing.{IsNarrowColumn}
use Rattle.sb_rule.proofs.Lists.{item_written, all_taken}
use Rattle.sb_catalog.proofs.writing.append_columns.Goals as goal

pub loop-column-preserved : goal.loop-column-preserved
loop-column-preserved c =
    let more = item_written IsNarrowColumn column_spelling c.as_slice-column-items.result.now c.loop-column.column-index (length c.args.columns.now) c.column-item.result c.args.out.now
    c.loop-column.out c.append_column.new.out c.column-item.is c.loop-column-test.true c.loop-column.invariant.storable c.in_ok-append_column.ensures.storable
    c.loop-column.invariant.written c.in_ok-append_column.ensures.ok in
    record { written = more.0; storable = more.1 }

pub returns-clause-storable : goal.returns-clause-storable
returns-clause-storable c =
    (c.requires.0, all_taken IsNarrowColumn c.as_slice-column-items.result.now c.args.columns.now c.loop-column.column-index c.as_slice-column-items.ensures c.loop-column-test.false c.loop-column.invariant.storable)
