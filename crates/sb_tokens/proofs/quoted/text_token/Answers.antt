use Rattle.std.proofs.Common.{◌≡◌, ◌+◌, [], true, false, sym, ◌∙◌, ap, subst, refl, rules, arith, length, Some, IfOk}
use Rattle.std.specs.Prelude.{count_by}
use Rattle.std.specs.Option.{IsSome}
use Rattle.std.specs.Str.{IsUtf8}
use Rattle.std.proofs.lemmas.Bool.{false≢true}
use Rattle.sb_tokens.specs.declared.token.Token.TheVariants as token
use Rattle.sb_tokens.specs.Tokens.{is_quote, text_token}
use Rattle.sb_tokens.specs.Quoted.{unquoted, longest}
use Rattle.sb_tokens.proofs.QuotedLemmas.{no_end, no_whole_text, whole_text, whole_reads}
use Rattle.sb_tokens.proofs.quoted.text_token.Goals as goal

pub returns-then-not-is_ended : goal.returns-then-not-is_ended
returns-then-not-is_ended c =
    let text = c.in_ok-bytes.bytes in
    let e : (text, false) ≡ unquoted c.args.rest.now = ap (λ p. (text, p)) (sym c.if-not-is_ended.true) ∙ c.in_ok-bytes.ensures in
    let v : c.as_slice-bytes.result.now ≡ text = search rules in
    rw (no_end c.args.rest.now text e) (subst (λ s. IfOk c.shorter_text.result (λ found. found ≡ text_token (longest [] s false))) v c.shorter_text.ensures)

pub overflow_add-result : goal.overflow_add-result
overflow_add-result c =
    let text = c.in_ok-bytes.bytes in
    let e : (text, true) ≡ unquoted c.args.rest.now = ap (λ p. (text, p)) (sym c.if-not-is_ended.false) ∙ c.in_ok-bytes.ensures in
    let v : c.as_slice-bytes.result.now ≡ text = search rules in
    let some : IsSome c.in_ok-text.field-0 = rw c.in-Some.is refl in
    let u : IsUtf8 text = subst IsUtf8 v (c.in_ok-text.ensures.found.0 some) in
    let n : c.quoted_len.result ≡ length text + count_by is_quote text + 1 = subst (λ s. c.quoted_len.result ≡ length s + count_by is_quote s + 1) v c.quoted_len.ensures in
    let le = whole_reads c.args.rest.now text e u in
    omega arith

pub returns-in-Some : goal.returns-in-Some
returns-in-Some c =
    let text = c.in_ok-bytes.bytes in
    let e : (text, true) ≡ unquoted c.args.rest.now = ap (λ p. (text, p)) (sym c.if-not-is_ended.false) ∙ c.in_ok-bytes.ensures in
    let v : c.as_slice-bytes.result.now ≡ text = search rules in
    let some : IsSome c.in_ok-text.field-0 = rw c.in-Some.is refl in
    let u : IsUtf8 text = subst IsUtf8 v (c.in_ok-text.ensures.found.0 some) in
    let n : c.quoted_len.result ≡ length text + count_by is_quote text + 1 = subst (λ s. c.quoted_len.result ≡ length s + count_by is_quote s + 1) v c.quoted_len.ensures in
    let made : c.in-Some.text ≡ c.as_slice-bytes.result.now = rw c.in-Some.is at c.in_ok-text.ensures.same in
    let s : c.in-Some.text ≡ text = made ∙ v in
    (λ i. Some (token.Text (s i), 1 + n i)) ∙ sym (ap text_token (whole_text c.args.rest.now text e u))

pub returns : goal.returns
returns c =
    let text = c.in_ok-bytes.bytes in
    let e : (text, true) ≡ unquoted c.args.rest.now = ap (λ p. (text, p)) (sym c.if-not-is_ended.false) ∙ c.in_ok-bytes.ensures in
    let v : c.as_slice-bytes.result.now ≡ text = search rules in
    let none : IsUtf8 text → ⊥ = λ u. false≢true (rw c.in-None.is at (c.in_ok-text.ensures.found.1 (subst IsUtf8 (sym v) u))) in
    rw (no_whole_text c.args.rest.now text e none) (subst (λ s. IfOk c.shorter_text-in-None.result (λ found. found ≡ text_token (longest [] s false))) v c.shorter_text-in-None.ensures)
