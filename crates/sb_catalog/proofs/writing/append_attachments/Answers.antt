use Rattle.std.proofs.Common.{length}
use Rattle.sb_catalog.specs.Descriptors.{attached_spelling}
use Rattle.sb_catalog.specs.Writing.{IsNarrowAttached}
use Rattle.sb_rule.proofs.Lists.{item_written, all_taken}
use Rattle.sb_catalog.proofs.writing.append_attachments.Goals as goal

pub loop-attached-preserved : goal.loop-attached-preserved
loop-attached-preserved c =
    let more = item_written IsNarrowAttached attached_spelling c.as_slice-attached-items.result.now c.loop-attached.attached-index (length c.args.attachments.now) c.attached-item.result c.args.out.now
    c.loop-attached.out c.append_attached.new.out c.attached-item.is c.loop-attached-test.true c.loop-attached.invariant.storable c.in_ok-append_attached.ensures.storable
    c.loop-attached.invariant.written c.in_ok-append_attached.ensures.ok in
    record { written = more.0; storable = more.1 }

pub returns-clause-storable : goal.returns-clause-storable
returns-clause-storable c =
    (c.requires.0, all_taken IsNarrowAttached c.as_slice-attached-items.result.now c.args.attachments.now c.loop-attached.attached-index c.as_slice-attached-items.ensures c.loop-attached-test.false c.loop-attached.invariant.storable)
