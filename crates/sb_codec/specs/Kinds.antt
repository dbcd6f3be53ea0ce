-- Values by their kinds, and which values an ordered code can stand for.
use Rattle.std.specs.Prelude.{◌≡◌, List, map, IsUtf8, FitsSigned}
use Rattle.std.specs.Int.{w64}
use Rattle.sb_value.specs.declared.value.Value.{Value}
use Rattle.sb_value.specs.declared.value.Value.TheVariants.{Int, Text}
use Rattle.sb_value.specs.declared.schema.Kind.{Kind}
use Rattle.sb_value.specs.Fits.{kind_of}

-- these values have these kinds, one by one
abbrev pub AreOfKinds : List Kind → List Value → Type 0
AreOfKinds kinds values = map kind_of values ≡ kinds

-- the values have the same kinds, one by one
abbrev pub HaveSameKinds : List Value → List Value → Type 0
HaveSameKinds xs ys = map kind_of xs ≡ map kind_of ys

-- a number of 64 bits, or any text
abbrev pub IsInRange : Value → Type 0
IsInRange (Int n) = FitsSigned w64 n
IsInRange (Text s) = Unit {0}

-- a number of 64 bits, or a text in UTF-8
abbrev pub IsProper : Value → Type 0
IsProper (Int n) = FitsSigned w64 n
IsProper (Text s) = IsUtf8 s
