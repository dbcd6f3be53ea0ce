-- What a kernel stands for between two commands.
use Rattle.std.specs.Prelude.{ℕ, ◌==◌, ◌+◌, Bool, true, false, not, cond, List, [], ◌∷◌, ◌++◌, filter, Option, Some, None, is_some}
use Rattle.std.specs.List.{list_any, last_or}
use Rattle.std.specs.Str.{bytes_eq}
use Rattle.sb_relation.specs.Db.{Name, Key, Db}
use Rattle.sb_fold.specs.Outcome.{Queue, Gone, Going, begun}

-- codes of storage methods and of attachments
pub record Codes : Type 0 where
  pub methods : List ℕ
  pub attachments : List ℕ

-- a savepoint: the database, what waited and what was gone there
pub record Point : Type 0 where
  pub name : Name
  pub db : Db
  pub queue : Queue
  pub gone : Gone

-- an open transaction: its database, what waits for its commit, its savepoints in order, what it dropped and detached, and the pages that it edited
pub record Transaction : Type 0 where
  pub db : Db
  pub queue : Queue
  pub points : List Point
  pub gone : Gone
  pub spent : ℕ

-- the live codes and the spare ones; the databases of the commits, the first that of the opening; the open transaction; whether a fault or damage
-- ended the kernel
pub record State : Type 0 where
  pub live : Codes
  pub spare : Codes
  pub commits : List Db
  pub transaction : Option Transaction
  pub down : Bool

-- ---- databases
abbrev pub db_or_empty : Option Db → Db
db_or_empty None = []
db_or_empty (Some db) = db

-- the database of the last commit
abbrev pub committed : State → Db
committed s = db_or_empty (last_or None s.commits)

-- the database that a command sees
abbrev pub view : State → Db
view s = elim s.transaction [ None ↦ committed s | Some t ↦ t.db ]

abbrev pub is_inside : State → Bool
is_inside s = is_some s.transaction

-- ---- savepoints
abbrev pub points_of : State → List Point
points_of s = elim s.transaction [ None ↦ [] | Some t ↦ t.points ]

abbrev pub is_point : Name → Point → Bool
is_point name p = bytes_eq p.name name

-- the points up to the named one
abbrev pub points_to : Name → List Point → List Point
points_to name [] = []
points_to name (p ∷ points) = p ∷ cond (is_point name p) [] (points_to name points)

-- ---- what waits
abbrev pub no_queue : Queue
no_queue = record { actions = []; entries = [] }

abbrev pub none_gone : Gone
none_gone = record { durable = []; others = [] }

-- actions wait for the commit
abbrev pub has_waiting : State → Bool
has_waiting s = elim s.transaction [ None ↦ false | Some t ↦ elim t.queue.actions [ [] ↦ false | a ∷ actions ↦ true ] ]

-- ---- codes
abbrev pub codes_of : Bool → Codes → List ℕ
codes_of true codes = codes.methods
codes_of false codes = codes.attachments

abbrev pub has_code : List ℕ → ℕ → Bool
has_code codes code = list_any (λ c. c == code) codes

abbrev pub with_code : Bool → ℕ → Codes → Codes
with_code true code codes = record codes { methods = codes.methods ++ code ∷ [] }
with_code false code codes = record codes { attachments = codes.attachments ++ code ∷ [] }

abbrev pub without_code : Bool → ℕ → Codes → Codes
without_code true code codes = record codes { methods = filter (λ c. not (c == code)) codes.methods }
without_code false code codes = record codes { attachments = filter (λ c. not (c == code)) codes.attachments }

-- ---- what work begins with, and what it leaves
-- in the open transaction; without one a command is a transaction of its own, which costs 1 itself
abbrev pub going_of : State → List Key → Going
going_of s picks = elim s.transaction [
  | None ↦ begun (committed s) no_queue none_gone 1 picks
  | Some t ↦ begun t.db t.queue t.gone t.spent picks
]

abbrev pub with_transaction : State → Option Transaction → State
with_transaction s transaction = record s { transaction = transaction }

-- the transaction goes on from here, with these savepoints
abbrev pub kept : State → List Point → Going → State
kept s points going =
    with_transaction s (Some (record { db = going.db; queue = going.queue; points = points; gone = going.gone; spent = going.trail.spent }))

-- the transaction is over
abbrev pub ended : State → State
ended s = with_transaction s None

abbrev pub with_commit : State → Db → State
with_commit s db = record (ended s) { commits = s.commits ++ db ∷ [] }

-- so much is spent in the open transaction
abbrev pub with_spent : ℕ → State → State
with_spent n s = elim s.transaction [ None ↦ s | Some t ↦ with_transaction s (Some (record t { spent = n })) ]

-- each command of a transaction costs 1
abbrev pub paid : State → State
paid s = elim s.transaction [ None ↦ s | Some t ↦ with_spent (t.spent + 1) s ]

-- ---- what states have come to
-- the pages that the open transaction edited
abbrev pub spent_in : State → ℕ
spent_in s = elim s.transaction [ None ↦ 0 | Some t ↦ t.spent ]

-- a fault or damage has ended the kernel
abbrev pub downed : State → State
downed s = record s { down = true }
