-- Names of relations that are read one after the other, as rows without values.
use Rattle.std.proofs.Common.{◌≡◌, ℕ, ◌-◌, Bool, true, false, ◌&&◌, cond, T, List, [], ◌∷◌, ◌++◌, length, length-append, map, Option, Some, None, option_map, is_lt, arith, refl, sym, ap, subst, ◌∙◌}
use Rattle.std.specs.List.{slice_get}
use Rattle.std.specs.FinMap.Entries.{below_all, is_sorted}
use Rattle.sb_value.specs.Order.{bytes_cmp}
use Rattle.sb_relation.specs.Db.{Key, Name, Row, Rows}
use Rattle.sb_catalog.specs.declared.descriptor.Descriptor.{Descriptor}
use Rattle.sb_ctx.specs.MethodAnswers.{row_above}
use Rattle.sb_rows.specs.Scans.{rows_above}
use Rattle.sb_rows.proofs.ScansLemmas.{IsMade, IsMade-all, IsMade-next, IsMade-none, rows_above-all}
use Rattle.sb_standing.specs.Tables.{Kept, db_of, first_above, is_above}
use Rattle.sb_asking.specs.Opened.{kept_header}
use Rattle.sb_reads.proofs.EntriesLemmas.{filter-all}

abbrev as_row : Kept → Key × Row
as_row k = (k.name, [])

-- ---- the same order
below_alike : (key : Key) (kept : List Kept) → below_all bytes_cmp key (db_of kept) ≡ below_all bytes_cmp key (map as_row kept)
below_alike key [] = refl
below_alike key (k ∷ kept) = ap (λ b. is_lt (bytes_cmp key k.name) && b) (below_alike key kept)

sorted_alike : (kept : List Kept) → is_sorted bytes_cmp (db_of kept) ≡ is_sorted bytes_cmp (map as_row kept)
sorted_alike [] = refl
sorted_alike (k ∷ kept) = λ i. below_alike k.name kept i && sorted_alike kept i

first_alike : (low : Option Name) (kept : List Kept) → row_above low (map as_row kept) ≡ option_map as_row (first_above low kept)
first_alike low [] = refl
first_alike low (k ∷ kept) = by (is_above low k.name) (first_alike low kept)
  where
    by : (b : Bool) → row_above low (map as_row kept) ≡ option_map as_row (first_above low kept) → cond b (Some (as_row k)) (row_above low (map as_row kept)) ≡ option_map as_row (cond b (Some k) (first_above low kept))
    by true rest = refl
    by false rest = rest

names_alike : (kept : List Kept) → map (λ (row : Key × Row). row.0) (map as_row kept) ≡ map (λ e. e.0) (db_of kept)
names_alike [] = refl
names_alike (k ∷ kept) = ap (λ (ns : List Name). k.name ∷ ns) (names_alike kept)

-- ---- what is read
-- with the names behind the last one these are all
abbrev pub AreNamed : List Kept → List Name → Type 0
AreNamed kept names = IsMade (λ row. row.0) (λ row. true) (map as_row kept) None (slice_get names (length names - 1)) (length names) names

pub AreNamed-none : (kept : List Kept) (names : List Name) → names ≡ [] → AreNamed kept names
AreNamed-none kept names none =
    subst (λ (ns : List Name). AreNamed kept ns) (sym none) (IsMade-none (λ row. row.0) (λ row. true) (map as_row kept) None [] refl)

header_name : (low : Option Name) (kept : List Kept) (name : Name) (d : Descriptor) → Some (name, d) ≡ option_map kept_header (first_above low kept) → row_above low (map as_row kept) ≡ Some (name, [])
header_name low kept name d found = first_alike low kept ∙ by (first_above low kept) found
  where
    by : (o : Option Kept) → Some (name, d) ≡ option_map kept_header o → option_map as_row o ≡ Some (name, [])
    by None found = absurd (cc)
    by (Some k) found = ap (option_map (λ (h : Name × Descriptor). (h.0, []))) (sym found)

pushed : (names : List Name) (name : Name) → slice_get (names ++ name ∷ []) (length names) ≡ Some name
pushed [] name = refl
pushed (n ∷ names) name = pushed names name

last_pushed : (names : List Name) (name : Name) → slice_get (names ++ name ∷ []) (length (names ++ name ∷ []) - 1) ≡ Some name
last_pushed names name =
    let last : length (names ++ name ∷ []) - 1 ≡ length names = omega (arith, length-append names (name ∷ [])) in
    ap (slice_get (names ++ name ∷ [])) last ∙ pushed names name

pub AreNamed-next : (kept : List Kept) (names new : List Name) (name : Name) (d : Descriptor) → T (is_sorted bytes_cmp (db_of kept)) → Some (name, d) ≡ option_map kept_header (first_above (slice_get names (length names - 1)) kept) →
    new ≡ names ++ name ∷ [] → AreNamed kept names → AreNamed kept new
AreNamed-next kept names new name d rises found more before =
    subst (λ (ns : List Name). AreNamed kept ns) (sym more)
    (subst (λ (last : Option Name). IsMade (λ (row : Key × Row). row.0) (λ row. true) (map as_row kept) None last (length one_more) one_more) (sym (last_pushed names name))
    (subst (λ (n : ℕ). IsMade (λ (row : Key × Row). row.0) (λ row. true) (map as_row kept) None (Some name) n one_more) (sym (length-append names (name ∷ [])))
    (IsMade-next (λ (row : Key × Row). row.0) (λ row. true) (map as_row kept) None (slice_get names (length names - 1)) (length names) names one_more (name, []) true (subst T (sorted_alike kept) rises)
    (header_name (slice_get names (length names - 1)) kept name d found) refl refl before)))
  where
    one_more : List Name
    one_more = names ++ name ∷ []

none_above : (low : Option Name) (kept : List Kept) → None ≡ option_map kept_header (first_above low kept) → row_above low (map as_row kept) ≡ None
none_above low kept found = first_alike low kept ∙ by (first_above low kept) found
  where
    by : (o : Option Kept) → None ≡ option_map kept_header o → option_map as_row o ≡ None
    by None found = refl
    by (Some k) found = absurd (cc)

pub AreNamed-all : (kept : List Kept) (names : List Name) → None ≡ option_map kept_header (first_above (slice_get names (length names - 1)) kept) → AreNamed kept names → names ≡ map (λ e. e.0) (db_of kept)
AreNamed-all kept names found named =
    IsMade-all (λ row. row.0) (λ row. true) (map as_row kept) None (slice_get names (length names - 1)) (length names) names (none_above (slice_get names (length names - 1)) kept found) named
    ∙ ap (λ (rows : Rows). map (λ row. row.0) rows) (filter-all (λ row. true) (λ row. refl) (rows_above None (map as_row kept)) ∙ rows_above-all (map as_row kept)) ∙ names_alike kept
