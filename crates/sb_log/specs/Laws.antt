-- What holds of records and of the changes that stand, whatever they are.
use Rattle.std.specs.Prelude.{◌≡◌, ℕ, List, []}
use Rattle.sb_log.specs.Records.{Record, AreRecords, Begins, Spells, HasRecords, IsBadAt}
use Rattle.sb_log.specs.Standing.{standing, own_changes, own_standing}

-- no spelling begins another: bytes begin with one record
abbrev pub OneRecord : Type 0
OneRecord = (bytes : List ℕ) (r q : Record) (m n : ℕ) → Begins bytes r m → Begins bytes q n → (r ≡ q) × (m ≡ n)

-- chunks spell one row of records
abbrev pub OneRowOfRecords : Type 0
OneRowOfRecords =
    (chunks : List (List ℕ)) (recs more : List Record) → AreRecords recs → AreRecords more
    → Spells chunks recs → Spells chunks more → recs ≡ more

-- a chunk that is bad is bad in one place
abbrev pub BadInOnePlace : Type 0
BadInOnePlace = (chunk : List ℕ) (m n : ℕ) → IsBadAt chunk m → IsBadAt chunk n → m ≡ n

-- and it is no row of records
abbrev pub BadIsNoRow : Type 0
BadIsNoRow = (chunk : List ℕ) (at n : ℕ) → IsBadAt chunk at → HasRecords chunk n → ⊥

-- Of what stands of all transactions, the changes of each are those that its own records say.
abbrev pub OwnChangesStand : Type 0
OwnChangesStand = (tx : ℕ) (recs : List Record) → own_changes tx (standing recs) ≡ own_standing tx [] recs
