use Rattle.std.proofs.Common.{◌≡◌, drop}
use Rattle.sb_lines.specs.Lines.{is_passed_over}
use Rattle.sb_lines.proofs.lines.is_quiet.Given as goal

abbrev pub invariant-loop-byte : goal.invariant-loop-byte
invariant-loop-byte l = is_passed_over (drop l.byte-index l.line) ≡ is_passed_over l.line
