use Rattle.std.proofs.Common.{sym, subst}
use Rattle.std.proofs.lemmas.List.Elements.{All-get_or}
use Rattle.sb_catalog.specs.Descriptors.{IsStorableAttached}
use Rattle.sb_showing.proofs.lines.add_attachments.Goals as goal

pub add_attachment-requires : goal.add_attachment-requires
add_attachment-requires c = record {
  storable = subst IsStorableAttached (sym c.attached-item.is) (All-get_or IsStorableAttached c.args.attachments.now c.loop-attached.attached-index c.attached-item.result c.loop-attached-test.true c.requires.storable);
}
