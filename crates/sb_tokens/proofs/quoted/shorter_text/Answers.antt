use Rattle.std.proofs.Common.{◌≡◌, ◌+◌, sym, ◌∙◌, ap, rules, take, length, Some}
use Rattle.std.specs.Prelude.{count_by}
use Rattle.sb_tokens.specs.declared.token.Token.TheVariants as token
use Rattle.sb_tokens.specs.Tokens.{is_quote, text_token}
use Rattle.sb_tokens.proofs.QuotedLemmas.{none_found, shorter_found, shorter_utf8}
use Rattle.sb_tokens.proofs.quoted.shorter_text.Goals as goal

pub returns-in_default : goal.returns-in_default
returns-in_default c = sym (ap text_token (none_found c.args.bytes.now c.valid_len.result c.valid_len.ensures c.in_default.ensures))

pub unwrap-text-requires : goal.unwrap-text-requires
unwrap-text-requires c =
    let w = c.in-Some.ensures in
    c.in_ok-from_utf8.ensures.found.1 (shorter_utf8 (take c.valid_len.result c.args.bytes.now) c.in-Some.place c.valid_len.ensures.valid w.0 w.1)

pub returns : goal.returns
returns c =
    let w = c.in-Some.ensures in
    let text = take c.in-Some.place (take c.valid_len.result c.args.bytes.now) in
    let e = shorter_found c.args.bytes.now c.valid_len.result c.in-Some.place c.valid_len.ensures w.0 w.1 w.2 in
    let s : c.unwrap-text.result ≡ text = search rules in
    let n : c.quoted_len.result ≡ length text + count_by is_quote text + 1 = c.quoted_len.ensures in
    (λ i. Some (token.Text (s i), 1 + n i)) ∙ sym (ap text_token e)
