-- Languages: which rows of tokens spell a value.
use Rattle.std.specs.Prelude.{◌≡◌, ℕ, zero, suc, List, [], ◌∷◌, ◌++◌, ◌⊎◌}
use Rattle.std.specs.List.{fold}

infixr 6 ◌⨾◌
-- a row of the first, and one of the second behind it
pub record ◌⨾◌ {T : Type 0} (P Q : List T → Type 0) (tokens : List T) : Type 0 where
  pub front : List T
  pub back : List T
  pub is_front : P front
  pub is_back : Q back
  pub whole : tokens ≡ front ++ back

infixr 5 ◌∣◌
-- a row of the one or of the other
abbrev pub ◌∣◌ : {T : Type 0} → (List T → Type 0) → (List T → Type 0) → List T → Type 0
(P ∣ Q) tokens = P tokens ⊎ Q tokens

-- no row
abbrev pub nothing : {T : Type 0} → List T → Type 0
nothing tokens = ⊥

-- no token
abbrev pub none : {T : Type 0} → List T → Type 0
none tokens = tokens ≡ []

-- just this token
abbrev pub just : {T : Type 0} → T → List T → Type 0
just t tokens = tokens ≡ t ∷ []

-- up to n more items, each behind the sign
abbrev pub more_items : {T A : Type 0} → ℕ → T → (A → List T → Type 0) → List A → List T → Type 0
more_items n sign P [] = none
more_items zero sign P (item ∷ items) = nothing
more_items (suc n) sign P (item ∷ items) = just sign ⨾ P item ⨾ more_items n sign P items

-- an item, and up to n more behind it
abbrev pub items_up_to : {T A : Type 0} → ℕ → T → (A → List T → Type 0) → List A → List T → Type 0
items_up_to n sign P [] = nothing
items_up_to n sign P (item ∷ items) = P item ⨾ more_items n sign P items

-- any number of items, each behind the sign
abbrev pub many : {T A : Type 0} → T → (A → List T → Type 0) → List A → List T → Type 0
many sign P [] = none
many sign P (item ∷ items) = just sign ⨾ P item ⨾ many sign P items

-- an item and any number of others behind it, which are grouped from the left
pub record grouped {T A : Type 0} (group : A → A → A) (sign : T) (P : A → List T → Type 0) (whole : A) (tokens : List T) : Type 0 where
  pub first : A
  pub others : List A
  pub is : whole ≡ fold group first others
  pub spelled : (P first ⨾ many sign P others) tokens
