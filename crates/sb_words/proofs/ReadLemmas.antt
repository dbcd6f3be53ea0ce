-- What the getters of clap read of matches that have all.
use Rattle.std.proofs.Common.{◌≡◌, ◌∙◌, ◌<◌, ◌≤◌, ◌^◌, ℕ, Bool, List, Option, Some, None, true, false, codes, refl, sym, ap, arith}
use Rattle.std.specs.Prelude.{is_some, unwrap_or}
use Rattle.std.specs.Option.{IsSome, option_map_or}
use Rattle.std.specs.Str.{bytes_eq}
use Rattle.std.specs.Str.Parse.{ExplainsUnsignedError, HasUnsignedDigitsIfOk, ParsesBool, ParsesUnsigned, digits_value, without_leading_plus}
use Rattle.std.specs.declared.num.ParseIntError.{ParseIntError}
use Rattle.std.proofs.lemmas.Bool.{false_from_ne_true}
use Rattle.std.proofs.lemmas.Slice.Eq.{bytes_eq-Decides}
use Rattle.clap.specs.Words.{IsUnsignedIn, Row, Text}
use Rattle.clap.specs.Matches.{ReadsOne}
use Rattle.sb_words.specs.Matched.{HasNumber}
use Rattle.sb_words.specs.Words.{number_of}

-- what `get_one` gives at an unsigned type of so many bits
abbrev pub Reads : ℕ → Text → Option ℕ → Type 0
Reads bits = ReadsOne {E = ParseIntError} (λ text r. ParsesUnsigned bits 10 text r × ExplainsUnsignedError 10 text r × HasUnsignedDigitsIfOk text r)

-- a number that a text writes is read
number_read : (bits least most : ℕ) (text : Text) (r : Option ℕ) → Reads bits text r → most < 2 ^ bits → IsUnsignedIn least most text
    → r ≡ Some (digits_value 10 (without_leading_plus text))
number_read bits least most text (Some n) read fits passed = ap Some read.0.1
number_read bits least most text None read fits passed = absurd (read.1.0 (passed.0, omega arith))

pub number_there : {id : Text} {least most : ℕ} {rows : List Row} (bits : ℕ) (has : HasNumber id least most rows) (r : Option ℕ) → Reads bits has.text r
    → most < 2 ^ bits → IsSome r
number_there {least = least} {most = most} bits has r read fits = ap is_some (number_read bits least most has.text r read fits has.fits)

-- the number that is read is that of the rows, and lies in its range
pub number_asked : {id : Text} {least most : ℕ} {rows : List Row} (bits : ℕ) (has : HasNumber id least most rows) (r : Option ℕ) (n : ℕ) → r ≡ Some n
    → Reads bits has.text r → most < 2 ^ bits → (number_of id rows ≡ Some n) × (least ≤ n) × (n ≤ most)
number_asked {least = least} {most = most} bits has r n is read fits =
    let value = digits_value 10 (without_leading_plus has.text) in
    let whole : Some value ≡ Some n = sym (number_read bits least most has.text r read fits has.fits) ∙ is in
    let same : value ≡ n = cc in
    let passed = has.fits in
    (rw has.is whole, omega (arith, passed.2), omega (arith, passed.3))

-- a flag that is read is up where its text is `true`
pub flag_read : (E : Type 0) (o : Option Text) (r : Option Bool) → (o ≡ None → r ≡ None) → ((t : Text) → o ≡ Some t → ReadsOne (ParsesBool {E = E}) t r)
    → option_map_or (λ t. bytes_eq t (codes "true")) o false ≡ unwrap_or r false
flag_read E None r none some = rw (none refl) refl
flag_read E (Some t) r none some = go r (some t refl)
  where
    go : (r : Option Bool) → ReadsOne (ParsesBool {E = E}) t r → bytes_eq t (codes "true") ≡ unwrap_or r false
    go (Some true) is = ap (λ (x : Text). bytes_eq x (codes "true")) is
    go (Some false) is = ap (λ (x : Text). bytes_eq x (codes "true")) is
    go None is = false_from_ne_true _ (λ e. is.1.0 ((bytes_eq-Decides t (codes "true")).0 e))
