-- Reading from the left: a value and the tokens behind it, or the tokens from the first that fits nowhere on.
use Rattle.std.specs.Prelude.{ℕ, zero, suc, List, [], ◌∷◌, length, Bool, false, cond, Option, Some, None, Result, Ok, Err}
use Rattle.std.specs.List.{fold}

-- what reading tokens for a value gives
abbrev pub Read : Type 0 → Type 0 → Type 0
Read T A = Result (A × List T) (List T)

-- a value, and what is read behind it
abbrev pub paired : {T A B : Type 0} → A → Read T B → Read T (A × B)
paired a (Ok read) = Ok ((a, read.0), read.1)
paired a (Err rest) = Err rest

-- one behind the other
abbrev pub and_then : {T A B : Type 0} → Read T A → (List T → Read T B) → Read T (A × B)
and_then (Ok read) reader = paired read.0 (reader read.1)
and_then (Err rest) reader = Err rest

-- a function of the value
abbrev pub mapped : {T A B : Type 0} → (A → B) → Read T A → Read T B
mapped f (Ok read) = Ok (f read.0, read.1)
mapped f (Err rest) = Err rest

-- a token with what was picked of it
abbrev pub token_of : {T A : Type 0} → Option A → T → List T → Read T A
token_of (Some a) t ts = Ok (a, ts)
token_of None t ts = Err (t ∷ ts)

-- one token, by what it stands for
abbrev pub token_at : {T A : Type 0} → (T → Option A) → List T → Read T A
token_at pick [] = Err []
token_at pick (t ∷ ts) = token_of (pick t) t ts

-- nothing but that the token passes
abbrev pub passing : {T : Type 0} → (T → Bool) → T → Option (Unit {0})
passing p t = cond (p t) (Some tt) None

-- one token that passes a test
abbrev pub sign_at : {T : Type 0} → (T → Bool) → List T → Read T (Unit {0})
sign_at p = token_at (passing p)

-- whether the first token passes a test
abbrev pub starts : {T : Type 0} → (T → Bool) → List T → Bool
starts p [] = false
starts p (t ∷ ts) = p t

-- by the one reader where the first token passes, and else by the other
abbrev pub or_else : {T A : Type 0} → (T → Bool) → (List T → Read T A) → (List T → Read T A) → List T → Read T A
or_else p one other ts = cond (starts p ts) (one ts) (other ts)

-- up to n items, each behind a sign that passes
unfoldable pub more_at : {T A : Type 0} → ℕ → (T → Bool) → (List T → Read T A) → List T → Read T (List A)
more_at zero p reader = λ ts. Ok ([], ts)
more_at (suc n) p reader =
    or_else p (λ ts. mapped (λ x. x.1.0 ∷ x.1.1) (and_then (sign_at p ts) (λ us. and_then (reader us) (more_at n p reader)))) (λ ts. Ok ([], ts))

-- an item, and up to n more behind it
abbrev pub items_at : {T A : Type 0} → ℕ → (T → Bool) → (List T → Read T A) → List T → Read T (List A)
items_at n p reader ts = mapped (λ x. x.0 ∷ x.1) (and_then (reader ts) (more_at n p reader))

-- an item and any number of others, which are no more than the tokens behind it, grouped from the left
abbrev pub grouped_at : {T A : Type 0} → (A → A → A) → (T → Bool) → (List T → Read T A) → List T → Read T A
grouped_at group p reader ts = mapped (λ x. fold group x.0 x.1) (and_then (reader ts) (λ us. more_at (length us) p reader us))
