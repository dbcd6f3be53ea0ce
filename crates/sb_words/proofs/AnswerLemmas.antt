-- What the contract says to a caller: the words alone say what is answered.
use Rattle.std.proofs.Common.{◌≡◌, List, Option, Result, Some, None, Ok, Err, ap, refl, subst}
use Rattle.std.specs.Prelude.{IfOk}
use Rattle.std.specs.declared.alloc.AllocError.{AllocError}
use Rattle.clap.specs.Words.{IsAmong, Row, Text, matches_of}
use Rattle.sb_words.specs.Words.{Asks, IsRead, IsTaken, starburst}
use Rattle.sb_words.specs.declared.words.Words.{Words}

-- what matches ask for is one
pub Asks-unique : (rows : List Row) (v w : Words) → Asks rows v → Asks rows w → v ≡ w
Asks-unique rows v w a b =
    let store : v.store ≡ w.store = cc (a.store, b.store) in
    let create : v.create ≡ w.create = cc (a.create, b.create) in
    let pages : v.pages ≡ w.pages = cc (a.pages, b.pages) in
    let log : v.log ≡ w.log = cc (a.log, b.log) in
    let frames : v.frames ≡ w.frames = cc (a.frames, b.frames) in
    λ i. record { store = store i; create = create i; pages = pages i; log = log i; frames = frames i }

-- words that are taken are read as their matches ask
pub IsRead-taken : (words : List Text) (w : Words) → IsTaken words → Asks (matches_of starburst words) w
    → (r : Result (Option Words) AllocError) → IsRead words r → IfOk r (λ o. o ≡ Some w)
IsRead-taken words w taken asks (Ok (Some v)) read = ap Some (Asks-unique (matches_of starburst words) v w read.1 asks)
IsRead-taken words w taken asks (Ok None) read = absurd (subst (IsAmong read.0) taken read.1)
IsRead-taken words w taken asks (Err e) read = tt

-- words that aren't are answered by none
pub IsRead-refused : (words : List Text) → (IsTaken words → ⊥) → (r : Result (Option Words) AllocError) → IsRead words r → IfOk r (λ o. o ≡ None)
IsRead-refused words not (Ok (Some v)) read = absurd (not read.0)
IsRead-refused words not (Ok None) read = refl
IsRead-refused words not (Err e) read = tt
