-- Pages in lists.
use Rattle.std.proofs.Common.{◌≡◌, ℕ, true, List, [], ◌∷◌, ◌++◌, inl, inr, ◌⊎◌}
use Rattle.sb_forms.specs.Tree.{Has}
use Rattle.sb_forms.specs.Read.{has}
use Rattle.sb_btree.proofs.Reading.{has_says}

pub has_left : (x : ℕ) (xs ys : List ℕ) → Has x xs → Has x (xs ++ ys)
has_left x [] ys h = absurd h
has_left x (z ∷ xs) ys (inl e) = inl e
has_left x (z ∷ xs) ys (inr h) = inr (has_left x xs ys h)

pub has_right : (x : ℕ) (xs ys : List ℕ) → Has x ys → Has x (xs ++ ys)
has_right x [] ys h = h
has_right x (z ∷ xs) ys h = inr (has_right x xs ys h)

pub has_either : (x : ℕ) (xs ys : List ℕ) → Has x (xs ++ ys) → Has x xs ⊎ Has x ys
has_either x [] ys h = inr h
has_either x (z ∷ xs) ys (inl e) = inl (inl e)
has_either x (z ∷ xs) ys (inr h) = elim (has_either x xs ys h) [ inl a ↦ inl (inr a) | inr b ↦ inr b ]

-- the test says that a page is there
pub has_is : (x : ℕ) (xs : List ℕ) → has x xs ≡ true → Has x xs
has_is x xs = (has_says x xs).0

pub is_has : (x : ℕ) (xs : List ℕ) → Has x xs → has x xs ≡ true
is_has x xs = (has_says x xs).1
