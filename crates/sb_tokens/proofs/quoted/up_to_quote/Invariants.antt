use Rattle.std.proofs.Common.{◌≡◌, drop}
use Rattle.sb_tokens.specs.Quoted.{unquoted, unquoted_behind}
use Rattle.sb_tokens.proofs.QuotedLemmas.{behind}
use Rattle.sb_tokens.proofs.quoted.up_to_quote.Given as goal

abbrev pub invariant-loop-byte : goal.invariant-loop-byte
invariant-loop-byte l = behind l.text (unquoted_behind l.is_behind_quote (drop l.byte-index l.bytes)) ≡ unquoted l.bytes
