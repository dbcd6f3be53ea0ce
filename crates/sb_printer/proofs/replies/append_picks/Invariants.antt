use Rattle.std.proofs.Common.{◌≡◌, ◌++◌, take}
use Rattle.std.specs.List.{flat_map}
use Rattle.sb_plain.specs.Text.{pick_text}
use Rattle.sb_printer.proofs.replies.append_picks.Given as goal

abbrev pub invariant-loop-pick : goal.invariant-loop-pick
invariant-loop-pick l = l.out ≡ l.fn.out ++ flat_map pick_text (take l.pick-index l.picks)
