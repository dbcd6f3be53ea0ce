use Rattle.sb_catalog.proofs.Storable.{storable}
use Rattle.sb_catalog.proofs.writing.write_descriptor.Goals as goal

pub returns-clause-storable : goal.returns-clause-storable
returns-clause-storable c =
    storable c.args.descriptor.now c.requires c.append_instance.ensures.storable c.in_ok-append_columns.ensures.storable c.in_ok-append_names.ensures.storable
    c.in_ok-append_attachments.ensures.storable
