-- A storage method of another author: a row of one number is a byte of the root, and a byte of 0 is free.
use Rattle.std.specs.Prelude.{◌≡◌, ◌<◌, ℕ, suc, ◌==◌, nat_lt, Bool, true, false, cond, ◌&&◌, List, [], ◌∷◌, ◌++◌, length, take, Option, Some, None, pos}
use Rattle.std.specs.List.{list_all}
use Rattle.sb_value.specs.declared.value.Value.TheVariants.{Int}
use Rattle.sb_value.specs.declared.schema.Kind.{Kind}
use Rattle.sb_value.specs.declared.schema.Kind.TheVariants as kind
use Rattle.sb_value.specs.declared.schema.Column.{Column}
use Rattle.sb_relation.specs.Db.{Key, Row, Rows}
use Rattle.sb_relation.specs.Foreign.{MethodRules}
use Rattle.sb_forms.specs.Pages.{Pages}
use Rattle.sb_ctx.specs.declared.instance.Instance.{Instance}
use Rattle.sb_ctx.specs.Method.{Method, plain_method}

-- the row of a place, whose key is that place
abbrev pub row_in : ℕ → ℕ → Rows
row_in place byte = cond (byte == 0) [] ((place ∷ [], Int (pos byte) ∷ []) ∷ [])

-- the rows of these bytes, of which the first has this place
abbrev pub rows_from : ℕ → List ℕ → Rows
rows_from place [] = []
rows_from place (byte ∷ bytes) = row_in place byte ++ rows_from (suc place) bytes

-- the bytes that are used of a page
abbrev pub strip_of : List ℕ → List ℕ
strip_of page = take 100 page

abbrev pub is_byte : ℕ → Bool
is_byte byte = nat_lt byte 256

abbrev pub is_strip : List ℕ → Bool
is_strip bytes = (length bytes == 100) && list_all is_byte bytes

abbrev pub is_int : Kind → Bool
is_int kind.Int = true
is_int kind.Text = false

-- one column of numbers
abbrev pub is_numbers : List Column → Bool
is_numbers (column ∷ []) = is_int column.kind
is_numbers _ = false

-- the root's bytes are a strip, and its rows are those of the strip
abbrev pub strip_rows : Instance → Pages → Option Rows
strip_rows inst P = cond (is_numbers inst.schema && is_strip (strip_of (P inst.root))) (Some (rows_from 0 (strip_of (P inst.root)))) None

abbrev pub strip_rules : MethodRules
strip_rules = record { code = 1000; durable = true; fits = λ schema key. is_numbers schema }

abbrev pub strip : Method
strip = plain_method strip_rules strip_rows

-- the first place that is free, or behind the last one
abbrev pub free_place : List ℕ → ℕ
free_place [] = 0
free_place (byte ∷ bytes) = cond (byte == 0) 0 (suc (free_place bytes))

-- a row under a key of one byte, whose number is a byte
pub record IsPlaced (row : Key × Row) : Type 0 where
  pub place : ℕ
  pub byte : ℕ
  pub small : byte < 256
  pub is : row ≡ (place ∷ [], Int (pos byte) ∷ [])
