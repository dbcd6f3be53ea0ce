-- Entries: keys with their values, in the order of the keys.
use Rattle.std.specs.Prelude.{ℕ, ◌+◌, ◌++◌, Bool, cond, List, length, take, drop, is_some, Result, Ok, Err}
use Rattle.std.specs.List.{sum_by, count_by}
use Rattle.std.specs.FinMap.Entries.{find}
use Rattle.std.specs.Ordering.{nat_cmp, is_lt}
use Rattle.std.specs.declared.cmp.Ordering.{Ordering}
use Rattle.std.specs.Cmp.Lexicographic.{slice_cmp}

-- a key and its value
abbrev pub Entry : Type 0
Entry = List ℕ × List ℕ

-- the order of keys: byte by byte, and a key that another begins with before it
abbrev pub key_cmp : List ℕ → List ℕ → Ordering
key_cmp = slice_cmp nat_cmp

-- whether one key is below another
unfoldable pub is_below : List ℕ → List ℕ → Bool
is_below x y = is_lt (key_cmp x y)

-- the bytes that an entry takes: two lengths of two bytes each, the key, the value
abbrev pub size_of : Entry → ℕ
size_of e = 4 + length e.0 + length e.1

-- the bytes that entries take together
abbrev pub sizes : List Entry → ℕ
sizes es = sum_by size_of es

-- how many keys are below this one
abbrev pub lesser : List ℕ → List Entry → ℕ
lesser key es = count_by (λ e. is_below e.0 key) es

-- the place of the entry with this key, or, where there is none, the number of lesser keys
abbrev pub place_of : List ℕ → List Entry → Result ℕ ℕ
place_of key es = cond (is_some (find key_cmp key es)) (Ok (lesser key es)) (Err (lesser key es))

-- all entries but the one at this place
abbrev pub without : ℕ → List Entry → List Entry
without i es = take i es ++ drop (i + 1) es
