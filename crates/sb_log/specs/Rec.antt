-- A record in memory, and what a reader answers.
use Rattle.std.specs.Prelude.{◌≡◌, ℕ, List, Option, Some, None}
use Rattle.sb_log.specs.Records.{Record, Begin, Image, Changed, Back, Commit, Begins, NoneBegins}
use Rattle.sb_log.specs.declared.record.Rec.{Rec}
use Rattle.sb_log.specs.declared.record.Rec.TheVariants as lent

-- the record whose bytes it borrows
abbrev pub record_of : Rec → Record
record_of (lent.Begin tx) = Begin tx
record_of (lent.Image page bytes) = Image page bytes.now
record_of (lent.Change tx owner page offset before after) =
    Changed (record { tx = tx; owner = owner; page = page; offset = offset; before = before.now; after = after.now })
record_of (lent.Back tx n) = Back tx n
record_of (lent.Commit tx) = Commit tx

-- the record in front and its length, or none where no record is spelled there
abbrev pub IsRead : List ℕ → Option (Rec × ℕ) → Type 0
IsRead bytes None = NoneBegins bytes
IsRead bytes (Some (r, n)) = Begins bytes (record_of r) n

-- the answer is this record of this length
abbrev pub Answers : Option (Rec × ℕ) → Record → ℕ → Type 0
Answers None r n = ⊥
Answers (Some (found, len)) r n = (record_of found ≡ r) × (len ≡ n)
