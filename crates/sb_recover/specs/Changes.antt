-- The changes of a log, numbered within their transactions, and those of them that stand.
use Rattle.std.specs.Prelude.{◌≡◌, ◌⊎◌, ℕ, ◌+◌, ◌<◌, ◌≤◌, cond, ◌==◌, nat_lt, List, [], ◌∷◌, ◌++◌, length, reverse, unwrap_or}
use Rattle.std.specs.Ordering.{nat_cmp}
use Rattle.std.specs.BTreeMap.{BTreeMap, get}
use Rattle.sb_log.specs.Records.{Change}
use Rattle.sb_recover.specs.declared.change.Change.{Change as Lent}

-- the change whose bytes it borrows
abbrev pub change_of : Lent → Change
change_of c = record {
  tx = c.tx;
  owner = c.owner;
  page = c.page;
  offset = c.offset;
  before = c.before.now;
  after = c.after.now;
}

-- the changes whose bytes they borrow
abbrev pub changes_of : List Lent → List Change
changes_of [] = []
changes_of (c ∷ cs) = change_of c ∷ changes_of cs

-- the last of them first
abbrev pub newest_first : List Lent → List Lent
newest_first cs = reverse cs

-- how many changes of each transaction stand
abbrev pub limits_of : BTreeMap ℕ ℕ → ℕ → ℕ
limits_of counts tx = unwrap_or (get nat_cmp counts tx) 0

-- the same with another count for one of them
abbrev pub with_limit : (ℕ → ℕ) → ℕ → ℕ → ℕ → ℕ
with_limit limits tx n t = cond (tx == t) n (limits t)

-- Of changes with the newest first, those that stand in the order of the log: of each transaction, one for each index below its count, the newest with that index.
abbrev pub taken : (ℕ → ℕ) → List Lent → List Change
taken limits [] = []
taken limits (c ∷ older) =
    cond (nat_lt c.index (limits c.tx)) (taken (with_limit limits c.tx c.index) older ++ change_of c ∷ []) (taken limits older)

-- Each change came when as many of its transaction stood as its index says, and no more have come to stand since.
abbrev pub AreNumbered : (ℕ → ℕ) → List Lent → Type 0
AreNumbered limits [] = (tx : ℕ) → limits tx ≡ 0
AreNumbered limits (c ∷ older) = (limits c.tx ≤ c.index + 1) × AreNumbered (with_limit limits c.tx c.index) older

-- each change lies within its page
abbrev pub AllFit : List Change → Type 0
AllFit [] = Unit {0}
AllFit (c ∷ cs) = (c.offset + length c.after ≤ 4096) × AllFit cs

-- the first n of the transaction's changes are left
abbrev pub IsCut : ℕ → ℕ → (ℕ → ℕ) → (ℕ → ℕ) → Type 0
IsCut tx n f h =
    ((n < f tx) × ((t : ℕ) → h t ≡ with_limit f tx n t)) ⊎ ((f tx ≤ n) × ((t : ℕ) → h t ≡ f t))
