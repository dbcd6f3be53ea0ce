-- How long the spelling of a row is, and the ordered code of some columns.
use Rattle.std.proofs.Common.{◌≡◌, suc, ◌*◌, ◌^◌, ◌<◌, ◌≤◌, false, List, [], ◌∷◌, length, get_or, All, None, refl, ap, arith, length-append}
use Rattle.std.specs.List.{flat_map}
use Rattle.std.proofs.lemmas.List.Elements.{All-head, All-tail}
use Rattle.sb_value.specs.declared.value.Value.{Value}
use Rattle.sb_value.specs.declared.value.Value.TheVariants.{Int, Text}
use Rattle.sb_value.specs.declared.schema.Column.{Column}
use Rattle.sb_value.specs.Fits.{Fits, first_misfit, is_of_kind}
use Rattle.sb_value.specs.Spelling.{IsShort, IsStorable, value_spelling}
use Rattle.sb_value.proofs.FitsLemmas.{misfit_parts}
use Rattle.sb_codec.specs.Tuples.{tuple_spelling}
use Rattle.sb_relation.specs.Db.{Row}
use Rattle.sb_relation.specs.Lawful.{IsRow, is_long_row}
use Rattle.sb_standing.specs.Tables.{IsWide}

-- ---- rows that fit
pub length-fits : (schema : List Column) (row : Row) → first_misfit schema row ≡ None → length row ≡ length schema
length-fits [] [] fits = refl
length-fits [] (v ∷ row) fits = absurd (cc)
length-fits (c ∷ cs) [] fits = absurd (cc)
length-fits (c ∷ cs) (v ∷ row) fits = ap suc (length-fits cs row (misfit_parts (is_of_kind c.kind v) (first_misfit cs row) fits).1)

-- ---- spellings
short-storable : (v : Value) → IsStorable v → IsShort v
short-storable (Int n) is = tt
short-storable (Text s) is = is.1

pub AreShort-storable : (row : Row) → All IsStorable row → All IsShort row
AreShort-storable row all = λ i d h. short-storable (get_or row i d) (all i d h)

value_len : (v : Value) → IsShort v → length (value_spelling v) ≤ 257
value_len (Int n) is = omega arith
value_len (Text s) is = omega (arith, is)

values_len : (row : Row) → All IsShort row → length (flat_map value_spelling row) ≤ 257 * length row
values_len [] all = omega arith
values_len (v ∷ row) all =
    let here = value_len v (All-head IsShort v row all) in
    let rest = values_len row (All-tail IsShort v row all) in
    omega (arith, length-append (value_spelling v) (flat_map value_spelling row), here, rest)

pub length-spelling : (row : Row) → All IsStorable row → length row ≤ 16 → length (tuple_spelling row) < 2 ^ 32
length-spelling row all few =
    let most = values_len row (AreShort-storable row all) in
    omega (arith, most, few)

-- a row that fits and isn't too long
pub IsRow-short : (schema : List Column) (row : Row) → IsWide schema → Fits schema row → All IsStorable row → is_long_row schema row ≡ false → IsRow schema row
IsRow-short schema row wide fits storable short =
    let same = length-fits schema row fits in
    record { tuple = record { some = omega (arith, same, wide.some); few = omega (arith, same, wide.few); storable = storable }; fits = fits; short = short }
