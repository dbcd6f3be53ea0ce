use Rattle.std.proofs.Common.{◌≡◌, ◌++◌, take}
use Rattle.std.specs.List.{flat_map}
use Rattle.sb_showing.specs.Lines.{attachment_lines}
use Rattle.sb_showing.proofs.lines.add_attachments.Given as goal

abbrev pub invariant-loop-attached : goal.invariant-loop-attached
invariant-loop-attached l = l.lines.items ≡ l.fn.lines.items ++ flat_map (attachment_lines l.relation) (take l.attached-index l.attachments)
