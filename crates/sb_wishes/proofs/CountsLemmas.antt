-- Keys that no row has: the next one that is counted, and those that are too long.
use Rattle.std.proofs.Common.{◌≡◌, ℕ, ◌+◌, ◌-◌, ◌^◌, ◌<◌, Bool, true, false, true≢false, cond, [], ◌∷◌, All, Some, None, refl, sym, ap, subst, ◌∙◌, arith}
use Rattle.std.specs.Int.{to_be_bytes, from_be_bytes, w64}
use Rattle.std.specs.Ordering.{is_eq}
use Rattle.std.specs.Str.{bytes_eq}
use Rattle.std.proofs.lemmas.List.Elements.{All-head, All-tail}
use Rattle.std.proofs.lemmas.Nat.{from_be_bytes-to_be_bytes_8}
use Rattle.sb_value.specs.Equal.{bytes_same}
use Rattle.sb_value.specs.Order.{bytes_cmp}
use Rattle.sb_relation.specs.Db.{Key, Row, Rows, row_at}
use Rattle.sb_relation.specs.Keys.{is_record_key}
use Rattle.sb_standing.proofs.KeptLemmas.{tied_name}
use Rattle.sb_wishes.specs.Wished.{IsCount}

-- a key that is no row's
other_key : (a b : Key) → (b ≡ a → ⊥) → is_eq (bytes_cmp a b) ≡ false
other_key a b other = tied_name a b ∙ by (bytes_eq b a) refl
  where
    by : (t : Bool) → bytes_eq b a ≡ t → t ≡ false
    by true e = absurd (other ((bytes_same b a).0 e))
    by false e = refl

none_at : (P : Key → Type 0) (rows : Rows) (key : Key) → (P key → ⊥) → All (λ row. P row.0) rows → row_at rows key ≡ None
none_at P [] key out all = refl
none_at P (e ∷ rows) key out all =
    ap (λ (b : Bool). cond b (Some e.1) (row_at rows key)) (other_key key e.0 (λ same. out (subst P same (All-head (λ (row : Key × Row). P row.0) e rows all))))
    ∙ none_at P rows key out (All-tail (λ (row : Key × Row). P row.0) e rows all)

not_counted : (most : ℕ) → most < 2 ^ 64 - 1 → IsCount most (to_be_bytes w64 (most + 1)) → ⊥
not_counted most small is =
    let below : most + 1 < 2 ^ 64 = omega (arith, small) in
    let fits : is.number < 2 ^ 64 = omega (arith, small, is.within) in
    let same : most + 1 ≡ is.number = sym (from_be_bytes-to_be_bytes_8 (most + 1) below) ∙ ap (from_be_bytes w64) is.is ∙ from_be_bytes-to_be_bytes_8 is.number fits in
    omega (arith, same, is.within)

pub counts_free : (rows : Rows) (most : ℕ) → most < 2 ^ 64 - 1 → All (λ row. IsCount most row.0) rows → row_at rows (to_be_bytes w64 (most + 1)) ≡ None
counts_free rows most small all = none_at (IsCount most) rows (to_be_bytes w64 (most + 1)) (not_counted most small) all

pub long_free : (rows : Rows) (key : Key) → is_record_key key ≡ false → All (λ row. is_record_key row.0 ≡ true) rows → row_at rows key ≡ None
long_free rows key long all = none_at (λ k. is_record_key k ≡ true) rows key (λ is. true≢false (sym is ∙ long)) all
