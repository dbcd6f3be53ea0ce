use Rattle.std.proofs.Common.{sym, subst}
use Rattle.std.specs.Str.{IsUtf8}
use Rattle.std.proofs.lemmas.Str.{IsUtf8-from_ascii}
use Rattle.sb_tokens.proofs.TokensLemmas.{IsAscii-word}
use Rattle.sb_tokens.proofs.scanner.word_token.Goals as goal

pub unwrap-word-requires : goal.unwrap-word-requires
unwrap-word-requires c = c.in_ok-from_utf8.ensures.found.1 (subst IsUtf8 (sym c.word_of-text.ensures) (IsUtf8-from_ascii _ (IsAscii-word c.args.bytes.now)))
