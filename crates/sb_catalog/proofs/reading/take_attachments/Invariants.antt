use Rattle.std.proofs.Common.{◌≡◌, ◌++◌, length, All}
use Rattle.std.specs.List.{flat_map}
use Rattle.sb_catalog.specs.Descriptors.{attached_spelling, IsStorableAttached}
use Rattle.sb_catalog.proofs.reading.take_attachments.Given as goal

abbrev pub invariant-loop : goal.invariant-loop
invariant-loop l = record {
  counted : length l.attachments.items ≡ l.counter;
  storable : All IsStorableAttached l.attachments.items;
  spelled : l.bytes ≡ flat_map attached_spelling l.attachments.items ++ l.rest;
}
