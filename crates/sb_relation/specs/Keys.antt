-- How storage methods give record keys.
use Rattle.std.specs.Prelude.{ℕ, ◌+◌, ◌-◌, ◌^◌, ◌==◌, nat_le, nat_lt, Bool, false, cond, ◌&&◌, ◌||◌, [], ◌∷◌, length, Option, Some, None, is_none}
use Rattle.std.specs.Int.{to_be_bytes, from_be_bytes, w64}
use Rattle.std.specs.Str.{bytes_eq}
use Rattle.sb_relation.specs.Db.{Key, Rows, row_at}

-- picked by the method, the ordered code of the key columns, or counted from 1
pub data Keying : Type 0 where
  Picked : Keying
  Coded : Keying
  Counted : Keying

-- by the code of the storage method: tree codes, temp counts, heap and all others pick
abbrev pub keying_of : ℕ → Keying
keying_of method = cond (method == 2) Coded (cond (method == 3) Counted Picked)

-- the record key that a row had, if any
abbrev pub is_own : Option Key → Key → Bool
is_own None key = false
is_own (Some own) key = bytes_eq own key

-- no row has the key, or this row alone
abbrev pub is_free : Rows → Option Key → Key → Bool
is_free rows own key = is_own own key || is_none (row_at rows key)

-- 200 bytes are the most that a record key may have
abbrev pub is_record_key : Key → Bool
is_record_key key = nat_le (length key) 200

-- the number of the greatest key; 0 where there is none
abbrev pub greatest : Rows → ℕ
greatest [] = 0
greatest (row ∷ []) = from_be_bytes w64 row.0
greatest (row ∷ next ∷ rows) = greatest (next ∷ rows)

-- which record keys a row may get: any one that passes a test, just this one, or none, since another row has it or there is no greater one
pub data NewKeys : Type 0 where
  AnyOf : (Key → Bool) → NewKeys
  Just : Key → NewKeys
  Taken : NewKeys
  NoGreater : NewKeys

-- what a row gets that had this key, or none, and has this ordered code of the key columns
abbrev pub new_keys : Keying → Rows → Option Key → Key → NewKeys
new_keys Picked rows own code = AnyOf (λ key. is_record_key key && is_free rows own key)
new_keys Coded rows own code = cond (is_free rows own code) (Just code) Taken
new_keys Counted rows (Some own) code = Just own
new_keys Counted rows None code = cond (nat_lt (greatest rows) (2 ^ 64 - 1)) (Just (to_be_bytes w64 (greatest rows + 1))) NoGreater
