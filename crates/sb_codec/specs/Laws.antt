-- What the spelling and the ordered code promise, over all values.
use Rattle.std.specs.Prelude.{◌≡◌, List, All}
use Rattle.sb_value.specs.declared.value.Value.{Value}
use Rattle.sb_value.specs.Code.{ordered_code}
use Rattle.sb_value.specs.Order.{bytes_cmp, tuple_cmp}
use Rattle.sb_codec.specs.Kinds.{HaveSameKinds, IsInRange}
use Rattle.sb_codec.specs.Tuples.{IsTuple, tuple_spelling}

-- no two tuples have one spelling
abbrev pub OneTuple : Type 0
OneTuple = (xs ys : List Value) → IsTuple xs → IsTuple ys → tuple_spelling xs ≡ tuple_spelling ys → xs ≡ ys

-- the codes of two lists with the same kinds compare as the lists do: less, equal or greater
abbrev pub KeepsOrder : Type 0
KeepsOrder =
    (xs ys : List Value) → HaveSameKinds xs ys → All IsInRange xs → All IsInRange ys
    → bytes_cmp (ordered_code xs) (ordered_code ys) ≡ tuple_cmp xs ys

-- no two lists of values of the same kinds have one code
abbrev pub OneList : Type 0
OneList =
    (xs ys : List Value) → HaveSameKinds xs ys → All IsInRange xs → All IsInRange ys
    → ordered_code xs ≡ ordered_code ys → xs ≡ ys
