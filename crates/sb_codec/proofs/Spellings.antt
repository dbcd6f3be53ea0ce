-- No spelling of a value begins another.
use Rattle.std.proofs.Common.{◌≡◌, ℕ, List, ◌∷◌, ◌++◌, length, take, drop, refl, sym, ap, ◌∙◌}
use Rattle.std.specs.Int.{cast_unsigned, w64}
use Rattle.std.proofs.lemmas.List.{take_at, drop_at}
use Rattle.sb_value.specs.declared.value.Value.{Value}
use Rattle.sb_value.specs.declared.value.Value.TheVariants.{Int, Text}
use Rattle.sb_value.specs.Spelling.{value_spelling, IsStorable}
use Rattle.sb_bytes.proofs.Fronts.{same_fronts}
use Rattle.sb_codec.proofs.Numbers.{cast_unsigned-below, cast_unsigned-injective}

tail : (a b : ℕ) (x y : List ℕ) → a ∷ x ≡ b ∷ y → (a ≡ b) × (x ≡ y)
tail a b x y same = (cc, cc)

pub spelling_front : (v w : Value) (x y : List ℕ) → IsStorable v → IsStorable w → value_spelling v ++ x ≡ value_spelling w ++ y → (v ≡ w) × (x ≡ y)
spelling_front (Int a) (Int b) x y a-fits b-fits same =
    let split = same_fronts 8 (cast_unsigned w64 a) (cast_unsigned w64 b) x y (cast_unsigned-below a a-fits) (cast_unsigned-below b b-fits) ((tail 1 1 _ _ same).1) in
    (ap Int (cast_unsigned-injective a b a-fits b-fits split.0), split.1)
spelling_front (Int a) (Text t) x y v-good w-good same = absurd cc
spelling_front (Text s) (Int b) x y v-good w-good same = absurd cc
spelling_front (Text s) (Text t) x y v-good w-good same =
    let long : length s ≡ length t = cc in
    let texts : s ++ x ≡ t ++ y = cc in (
      ap Text (sym (take_at s x (length s) refl) ∙ ap (take (length s)) texts ∙ take_at t y (length s) (sym long)),
      sym (drop_at s x (length s) refl) ∙ ap (drop (length s)) texts ∙ drop_at t y (length s) (sym long),
    )
