use Rattle.std.proofs.Common.{◌≡◌, ◌∷◌, ◌++◌, length, take, All}
use Rattle.std.specs.List.{flat_map}
use Rattle.sb_catalog.specs.Descriptors.{attached_spelling}
use Rattle.sb_catalog.specs.Writing.{IsNarrowAttached}
use Rattle.sb_catalog.proofs.writing.append_attachments.Given as goal

abbrev pub invariant-loop-attached : goal.invariant-loop-attached
invariant-loop-attached l = record {
  written : l.out ≡ l.fn.out ++ (length l.attachments ∷ flat_map attached_spelling (take l.attached-index l.attached-items));
  storable : All IsNarrowAttached (take l.attached-index l.attached-items);
}
