-- The changes of a log that stand, and the transactions that it commits.
use Rattle.std.specs.Prelude.{◌≡◌, ℕ, zero, suc, ◌<◌, Bool, false, cond, ◌||◌, ◌==◌, List, [], ◌∷◌, ◌++◌, filter, take}
use Rattle.sb_log.specs.Records.{Change, Record, Begin, Image, Changed, Back, Commit}

-- the first n of this transaction's changes, and all of the others'
abbrev pub keep : ℕ → ℕ → List Change → List Change
keep tx n [] = []
keep tx zero (c ∷ cs) = cond (c.tx == tx) (keep tx zero cs) (c ∷ keep tx zero cs)
keep tx (suc n) (c ∷ cs) = cond (c.tx == tx) (c ∷ keep tx n cs) (c ∷ keep tx (suc n) cs)

-- what one record more makes of the changes that stand: a change is added, and a Back keeps the first n of its transaction's
abbrev pub stood : List Change → Record → List Change
stood cs (Changed c) = cs ++ c ∷ []
stood cs (Back tx n) = keep tx n cs
stood cs _ = cs

-- what records more make of them
abbrev pub stood_all : List Change → List Record → List Change
stood_all cs [] = cs
stood_all cs (r ∷ recs) = stood_all (stood cs r) recs

-- the changes that stand, of all transactions, in log order
abbrev pub standing : List Record → List Change
standing recs = stood_all [] recs

-- the transaction has a Commit
abbrev pub committed : List Record → ℕ → Bool
committed [] tx = false
committed (Commit t ∷ recs) tx = (t == tx) || committed recs tx
committed (_ ∷ recs) tx = committed recs tx

-- those of the changes that are the transaction's
abbrev pub own_changes : ℕ → List Change → List Change
own_changes tx cs = filter (λ c. c.tx == tx) cs

-- The changes of one transaction that stand, by its own records alone: a change of it is added, and a Back of it keeps the first n.
abbrev pub own_stood : ℕ → List Change → Record → List Change
own_stood tx cs (Changed c) = cond (c.tx == tx) (cs ++ c ∷ []) cs
own_stood tx cs (Back t n) = cond (t == tx) (take n cs) cs
own_stood tx cs _ = cs

-- the same over records, from some that stood
abbrev pub own_standing : ℕ → List Change → List Record → List Change
own_standing tx cs [] = cs
own_standing tx cs (r ∷ recs) = own_standing tx (own_stood tx cs r) recs

-- how many of the changes are the transaction's
abbrev pub count_of : ℕ → List Change → ℕ
count_of tx [] = 0
count_of tx (c ∷ cs) = cond (c.tx == tx) (suc (count_of tx cs)) (count_of tx cs)

-- none of these is of the transaction
abbrev pub NoneOf : ℕ → List Change → Type 0
NoneOf tx [] = Unit {0}
NoneOf tx (c ∷ cs) = (c.tx ≡ tx → ⊥) × NoneOf tx cs

-- the transaction that the record names, if it names one, has a lower number
abbrev pub IsBelow : ℕ → Record → Type 0
IsBelow tx (Begin t) = t < tx
IsBelow tx (Image page bytes) = Unit {0}
IsBelow tx (Changed c) = c.tx < tx
IsBelow tx (Back t n) = t < tx
IsBelow tx (Commit t) = t < tx

-- all transactions in the records have lower numbers
abbrev pub AreBelow : ℕ → List Record → Type 0
AreBelow tx [] = Unit {0}
AreBelow tx (r ∷ recs) = IsBelow tx r × AreBelow tx recs
