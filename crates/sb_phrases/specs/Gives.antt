-- What a reader returned, beside what reading gives.
use Rattle.std.specs.Prelude.{◌≡◌, ℕ, List, Bool, false, Option, Some, None, Result, Ok, Err, Vec}
use Rattle.std.specs.Borrow.{Bor}
use Rattle.sb_tokens.specs.declared.token.Token.{Token}
use Rattle.sb_tokens.specs.declared.token.Placed.{Placed}
use Rattle.sb_tokens.specs.Rows.{tokens_of}
use Rattle.sb_language.specs.Reading.{Read, starts, sign_at}
use Rattle.sb_phrases.specs.declared.fault.Fault.{Fault}
use Rattle.sb_phrases.specs.declared.fault.Fault.TheVariants.{NoMemory, Misfit}

-- what a reader hands back, as reading gives it: the tokens behind, or a value beside them
abbrev pub behind : Bor (List Placed) → Unit {0} × List Token
behind rest = (tt, tokens_of rest.now)

abbrev pub beside : {A : Type 0} → A × Bor (List Placed) → A × List Token
beside read = (read.0, tokens_of read.1.now)

abbrev pub items_beside : {A S : Type 0} → Vec A S × Bor (List Placed) → List A × List Token
items_beside read = (read.0.items, tokens_of read.1.now)

-- what stands behind a first token that passes, or that it doesn't
abbrev pub IsBehind : (Token → Bool) → List Token → Option (Bor (List Placed)) → Type 0
IsBehind p tokens (Some rest) = sign_at p tokens ≡ Ok (tt, tokens_of rest.now)
IsBehind p tokens None = starts p tokens ≡ false

-- the fault is the one that reading gives, where memory isn't wanting
abbrev pub Fails : {A : Type 0} → Fault → Read Token A → Type 0
Fails NoMemory read = Unit {0}
Fails (Misfit rest) read = read ≡ Err (tokens_of rest.now)

-- the reader's value, as seen, is what reading gives, and so is its fault where memory isn't wanting
abbrev pub Gives : {X A : Type 0} → (X → A × List Token) → Result X Fault → Read Token A → Type 0
Gives seen (Ok x) read = read ≡ Ok (seen x)
Gives seen (Err fault) read = Fails fault read

-- a label and its relation
abbrev pub place_beside : List ℕ × List ℕ × Bor (List Placed) → (List ℕ × (Unit {0} × List ℕ)) × List Token
place_beside read = ((read.0, (tt, read.1)), tokens_of read.2.now)
