-- Rows that are read one after the other.
use Rattle.std.proofs.Common.{◌≡◌, ℕ, ◌<◌, ◌≤◌, ◌^◌, Bool, true, List, [], ◌∷◌, ◌++◌, length, take, Option, Some, None, arith, refl, sym, ap, ◌∙◌}
use Rattle.std.specs.List.{cons_option, filter, filter_map}
use Rattle.std.proofs.lemmas.List.{take_all}
use Rattle.std.proofs.lemmas.List.Elements.{filter_map-append}
use Rattle.std.proofs.lemmas.List.Sums.{count_by-le-length, length-filter}
use Rattle.sb_relation.specs.Db.{Key, Row, Rows}
use Rattle.sb_relation.specs.Images.{Entry}
use Rattle.sb_rows.specs.Scans.{rows_above}
use Rattle.sb_rows.proofs.ScansLemmas.{rows_above-all}
use Rattle.sb_plain.specs.Reading.{at_most, rows_after}
use Rattle.sb_reads.specs.Reads.{most_rows, row_of}
use Rattle.sb_reads.proofs.EntriesLemmas.{filter-all}

above-after : (after : Option Key) (rows : Rows) → rows_above after rows ≡ rows_after after rows
above-after None rows = rows_above-all rows
above-after (Some key) rows = refl

-- there are fewer than the most
take-filter : (p : Key × Row → Bool) (rows : Rows) → length rows < 2 ^ 48 → take (2 ^ 48) (filter p rows) ≡ filter p rows
take-filter p rows few =
    let kept : length (filter p rows) ≤ 2 ^ 48 = omega (arith, few, length-filter p rows, count_by-le-length p rows) in
    take_all (2 ^ 48) (filter p rows) kept

-- ---- a scan
take-most : (after : Option Key) (rows : Rows) → length rows < 2 ^ 48 → take (2 ^ 48) (rows_after after rows) ≡ rows_after after rows
take-most None rows few = take_all (2 ^ 48) rows (omega (arith, few))
take-most (Some key) rows few = take-filter _ rows few

most : (after : Option Key) (limit : Option ℕ) (rows : Rows) → length rows < 2 ^ 48 → take (most_rows limit) (rows_after after rows) ≡ at_most limit (rows_after after rows)
most after None rows few = take-most after rows few
most after (Some n) rows few = refl

pub scanned : (after : Option Key) (limit : Option ℕ) (rows : Rows) → length rows < 2 ^ 48 → take (most_rows limit) (filter (λ row. true) (rows_above after rows)) ≡ at_most limit (rows_after after rows)
scanned after limit rows few =
    ap (take (most_rows limit)) (filter-all (λ row. true) (λ row. refl) (rows_above after rows) ∙ above-after after rows) ∙ most after limit rows few

-- ---- those that pass
pub passed : (p : Row → Bool) (rows : Rows) → length rows < 2 ^ 48 → take (2 ^ 48) (filter (λ row. p row.1) (rows_above None rows)) ≡ filter (λ row. p row.1) rows
passed p rows few = ap (λ (ys : Rows). take (2 ^ 48) (filter (λ row. p row.1) ys)) (rows_above-all rows) ∙ take-filter (λ row. p row.1) rows few

-- ---- those of entries
pub rows_more : (rows : Rows) (read : List Entry) (e : Entry) (found new : Rows) → new ≡ found ++ cons_option (row_of rows e) [] → found ≡ filter_map (row_of rows) read → new ≡ filter_map (row_of rows) (read ++ e ∷ [])
rows_more rows read e found new more before =
    more ∙ ap (λ (ys : Rows). ys ++ cons_option (row_of rows e) []) before ∙ sym (filter_map-append (row_of rows) read (e ∷ []))
