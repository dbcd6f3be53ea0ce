use Rattle.sb_catalog.proofs.Parts.{no_method, no_columns, no_key, no_attachments, descriptor_found}
use Rattle.sb_catalog.proofs.reading.descriptor_of.Goals as goal

pub returns-in_default : goal.returns-in_default
returns-in_default c x rest fits e =
    let none = rw c.in_default.is at c.instance_of.ensures in
    no_method c.args.bytes.now none x rest fits e

pub returns-in_default-2 : goal.returns-in_default-2
returns-in_default-2 c x rest fits e =
    let instance = rw c.in-Some.is at c.instance_of.ensures in
    let none = rw c.in_default-2.is at c.in_ok-schema.ensures in
    no_columns _ _ _ instance.0 instance.1 none x rest fits e

pub returns-in_default-3 : goal.returns-in_default-3
returns-in_default-3 c x rest fits e =
    let instance = rw c.in-Some.is at c.instance_of.ensures in
    let columns = rw c.in-Some-2.is at c.in_ok-schema.ensures in
    let none = rw c.in_default-3.is at c.in_ok-key.ensures in
    no_key _ _ _ _ _ instance.0 instance.1 columns.0 columns.1 none x rest fits e

pub returns-in_default-4 : goal.returns-in_default-4
returns-in_default-4 c x rest fits e =
    let instance = rw c.in-Some.is at c.instance_of.ensures in
    let columns = rw c.in-Some-2.is at c.in_ok-schema.ensures in
    let key = rw c.in-Some-3.is at c.in_ok-key.ensures in
    let none = rw c.in_default-4.is at c.in_ok-attachments.ensures in
    no_attachments _ _ _ _ _ _ _ instance.0 instance.1 columns.0 columns.1 key.0 key.1 none x rest fits e

pub returns : goal.returns
returns c =
    let instance = rw c.in-Some.is at c.instance_of.ensures in
    let columns = rw c.in-Some-2.is at c.in_ok-schema.ensures in
    let key = rw c.in-Some-3.is at c.in_ok-key.ensures in
    let attachments = rw c.in-Some-4.is at c.in_ok-attachments.ensures in (
      record { instance = instance.0; columns = columns.0; key = key.0; attachments = attachments.0 },
      descriptor_found _ _ _ _ _ _ instance.1 columns.1 key.1 attachments.1,
    )
