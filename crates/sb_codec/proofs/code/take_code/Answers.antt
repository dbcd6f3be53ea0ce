use Rattle.std.proofs.Common.{◌≡◌, ◌≢◌, List, ℕ, ◌++◌, IsUtf8, subst, sym, ◌∙◌}
use Rattle.std.proofs.lemmas.Bool.{false≢true}
use Rattle.sb_value.specs.declared.value.Value.{Value}
use Rattle.sb_value.specs.declared.value.Value.TheVariants.{Int, Text}
use Rattle.sb_value.specs.declared.schema.Kind.TheVariants as kind
use Rattle.sb_value.specs.Code.{value_code}
use Rattle.sb_value.specs.Fits.{kind_of}
use Rattle.sb_codec.specs.Kinds.{IsProper}
use Rattle.sb_codec.proofs.Texts.{ended, ended-code, ended_front}
use Rattle.sb_codec.proofs.code.take_code.Goals as goal

-- an ended text that isn't UTF-8 is the code of no text
no_text : (text after bytes : List ℕ) → bytes ≡ ended text after → (IsUtf8 text → ⊥)
    → (v : Value) (rest : List ℕ) → kind_of v ≡ kind.Text → IsProper v → bytes ≢ value_code v ++ rest
no_text text after bytes found broken (Int n) rest of-kind proper same = absurd cc
no_text text after bytes found broken (Text s) rest of-kind proper same =
    broken (subst IsUtf8 (ended_front s text rest after (sym (ended-code s rest) ∙ sym same ∙ found)) proper)

pub returns-in-None-text_of-clause-none : goal.returns-in-None-text_of-clause-none
returns-in-None-text_of-clause-none c = λ v rest of-kind proper same.
    let found = rw c.in-Some-2.is at c.in_ok-text-in-Text.ensures.found in
    let text-is = c.in-Text.is in
    let broken = c.in-None-text_of.ensures.found in
    no_text c.in-Some-2.text.items c.in-Some-2.after.now c.args.bytes.now found (λ utf8. absurd (false≢true (broken.1 utf8))) v rest (cc) proper same
