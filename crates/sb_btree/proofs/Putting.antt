-- An entry put into one part of a list of entries.
use Rattle.std.proofs.Common.{◌≡◌, ℕ, false, List, [], ◌∷◌, ◌++◌, length, Option, refl, ap, ◌∙◌, ◌<◌, arith}
use Rattle.std.specs.declared.cmp.Ordering.TheVariants.{Less, Equal, Greater}
use Rattle.std.specs.FinMap.Entries.{by_order, put}
use Rattle.sb_node.specs.Entries.{Entry, key_cmp, is_below}
use Rattle.sb_forms.specs.Tree.{IsUnder, IsWithin}
use Rattle.sb_btree.proofs.Order.{AllLess, AllMore}

pub put_less : (key value : List ℕ) (xs ys : List Entry) → AllLess key xs → put key_cmp key value (xs ++ ys) ≡ xs ++ put key_cmp key value ys
put_less key value [] ys h = refl
put_less key value (x ∷ xs) ys h =
    ap (λ o. by_order o ((key, value) ∷ x ∷ (xs ++ ys)) ((x.0, value) ∷ (xs ++ ys)) (x ∷ put key_cmp key value (xs ++ ys))) h.0
    ∙ ap (λ r. x ∷ r) (put_less key value xs ys h.1)

pub put_front : (key value : List ℕ) (ys : List Entry) → AllMore key ys → put key_cmp key value ys ≡ (key, value) ∷ ys
put_front key value [] h = refl
put_front key value (y ∷ ys) h = ap (λ o. by_order o ((key, value) ∷ y ∷ ys) ((y.0, value) ∷ ys) (y ∷ put key_cmp key value ys)) h.0

pub put_more : (key value : List ℕ) (xs ys : List Entry) → AllMore key ys → put key_cmp key value (xs ++ ys) ≡ put key_cmp key value xs ++ ys
put_more key value [] ys h = put_front key value ys h
put_more key value (x ∷ xs) ys h =
    elim (key_cmp key x.0) as (λ o. by_order o ((key, value) ∷ x ∷ (xs ++ ys)) ((x.0, value) ∷ (xs ++ ys)) (x ∷ put key_cmp key value (xs ++ ys)) ≡ by_order o ((key, value) ∷ x ∷ xs) ((x.0, value) ∷ xs) (x ∷ put key_cmp key value xs) ++ ys) [
      | Less ↦ refl
      | Equal ↦ refl
      | Greater ↦ ap (λ r. x ∷ r) (put_more key value xs ys h)
    ]

-- an entry of the part in the middle
pub put_middle : (key value : List ℕ) (xs ms ys : List Entry) → AllLess key xs → AllMore key ys → put key_cmp key value (xs ++ (ms ++ ys)) ≡ xs ++ (put key_cmp key value ms ++ ys)
put_middle key value xs ms ys h g = put_less key value xs (ms ++ ys) h ∙ ap (λ r. xs ++ r) (put_more key value ms ys g)

pub put_within : (key value low : List ℕ) (high : Option (List ℕ)) (es : List Entry) → is_below key low ≡ false → IsUnder high key → IsWithin low high es → IsWithin low high (put key_cmp key value es)
put_within key value low high [] a u h = ((a, u), tt)
put_within key value low high (e ∷ es) a u h =
    elim (key_cmp key e.0) as (λ o. IsWithin low high (by_order o ((key, value) ∷ e ∷ es) ((e.0, value) ∷ es) (e ∷ put key_cmp key value es))) [
      | Less ↦ ((a, u), h)
      | Equal ↦ (h.0, h.1)
      | Greater ↦ (h.0, put_within key value low high es a u h.1)
    ]

pub put_some : (key value : List ℕ) (es : List Entry) → 0 < length (put key_cmp key value es)
put_some key value [] = omega arith
put_some key value (e ∷ es) =
    elim (key_cmp key e.0) as (λ o. 0 < length (by_order o ((key, value) ∷ e ∷ es) ((e.0, value) ∷ es) (e ∷ put key_cmp key value es))) [ Less ↦ omega arith | Equal ↦ omega arith | Greater ↦ omega arith ]
