-- What the readers of the parts of a descriptor look for.
use Rattle.std.specs.Prelude.{ℕ, ◌^◌, ◌<◌, List, [], ◌∷◌}
use Rattle.sb_value.specs.declared.schema.Kind.{Kind}
use Rattle.sb_catalog.specs.Descriptors.{kind_byte, IsLimit}

-- numbers of 2 and of 4 bytes
abbrev pub IsShortNumber : ℕ → Type 0
IsShortNumber n = n < 2 ^ 16

abbrev pub IsLongNumber : ℕ → Type 0
IsLongNumber n = n < 2 ^ 32

-- what stands behind a column's name
abbrev pub type_spelling : Kind × ℕ → List ℕ
type_spelling (kind, limit) = kind_byte kind ∷ limit ∷ []

abbrev pub IsType : Kind × ℕ → Type 0
IsType (kind, limit) = IsLimit kind limit
