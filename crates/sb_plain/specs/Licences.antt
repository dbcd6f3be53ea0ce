-- When want of room may stand in place of a reply, and when want of memory may.
use Rattle.std.specs.Prelude.{◌≡◌, ℕ, ◌+◌, ◌*◌, ◌/◌, ◌<◌, ◌≤◌, Bool, true, false, not, ◌&&◌, List, [], ◌∷◌, Any, Some, None}
use Rattle.std.specs.List.{list_any}
use Rattle.sb_relation.specs.Db.{Key}
use Rattle.sb_fold.specs.declared.refusal.Room.{Room}
use Rattle.sb_fold.specs.declared.refusal.Room.TheVariants.{Data, Temp, Log, Gates}
use Rattle.sb_fold.specs.Extensions.{Extensions}
use Rattle.sb_fold.specs.Need.{need}
use Rattle.sb_fold.specs.Outcome.{Gone, Reached}
use Rattle.sb_plain.specs.declared.command.Command.{Command}
use Rattle.sb_plain.specs.declared.command.Command.TheVariants as command
use Rattle.sb_plain.specs.State.{State, points_of, is_point}
use Rattle.sb_plain.specs.Step.{step}

-- the pages of the store and the bytes of its log
pub record Sizes : Type 0 where
  pub pages : ℕ
  pub log : ℕ

-- the pages of the table that says whose each page is
abbrev pub table_pages : Sizes → ℕ
table_pages sizes = (sizes.pages + 2047) / 2048

-- a point at which so many pages may not be enough
abbrev pub IsFull : Extensions → Bool → ℕ → ℕ → Reached → Type 0
IsFull ext durable table total at = total ≤ table + need ext durable at

-- so much is spent that so many bytes of the log may not be enough
abbrev pub IsSpent : ℕ → ℕ → Type 0
IsSpent total spent = total < 2 * (12400 * spent + 2048)

-- so much is spent that the gates of the log may not be enough
abbrev pub IsForced : ℕ → Type 0
IsForced spent = 10000 < spent

-- So much of a total is used, and more may be wanted: of pages at some point that is reached, of the log with what is spent. A commit that only frees reaches no point.
abbrev pub MayLack : Extensions → Sizes → List Reached → ℕ → Room → Type 0
MayLack ext sizes points spent (Data used total) = (used ≡ total) × (total ≡ sizes.pages) × Any (IsFull ext true (table_pages sizes) total) points
MayLack ext sizes points spent (Temp used total) = (used ≡ total) × (total ≡ 16384) × Any (IsFull ext false 0 total) points
MayLack ext sizes points spent (Log used more total) = (total < used + more) × (total ≡ sizes.log) × IsSpent total spent
MayLack ext sizes points spent (Gates used total) = (65534 < used) × (total ≡ 65536) × IsForced spent

-- ---- commands that may want room
abbrev pub is_none_gone : Gone → Bool
is_none_gone gone = elim gone.durable [ [] ↦ elim gone.others [ [] ↦ true | n ∷ ns ↦ false ] | n ∷ ns ↦ false ]

abbrev pub has_none_gone : State → Bool
has_none_gone s = elim s.transaction [ None ↦ true | Some t ↦ is_none_gone t.gone ]

abbrev pub has_no_actions : State → Bool
has_no_actions s = elim s.transaction [ None ↦ true | Some t ↦ elim t.queue.actions [ [] ↦ true | a ∷ actions ↦ false ] ]

abbrev pub has_no_entries : State → Bool
has_no_entries s = elim s.transaction [ None ↦ true | Some t ↦ elim t.queue.entries [ [] ↦ true | e ∷ entries ↦ false ] ]

-- those that change a database, and a commit that does something
abbrev pub may_want_room : State → Command → Bool
may_want_room s (command.Create relation method schema key) = true
may_want_room s (command.Drop relation) = true
may_want_room s (command.Attach relation name rule) = true
may_want_room s (command.Detach relation name) = true
may_want_room s (command.Insert relation values) = true
may_want_room s (command.Delete relation at) = true
may_want_room s (command.Update relation at values) = true
may_want_room s (command.Act action) = true
may_want_room s command.Commit = not (has_no_actions s && has_none_gone s)
may_want_room s _ = false

-- want of room, with some picks
pub record LacksRoom (ext : Extensions) (sizes : Sizes) (s : State) (c : Command) (room : Room) : Type 0 where
  pub wants : may_want_room s c ≡ true
  pub picks : List Key
  pub lacks : MayLack ext sizes (step ext s c picks).points (step ext s c picks).spent room

-- ---- commands that may want memory
-- all but an abort, a rollback to a point that is there, and a commit with nothing queued, dropped or detached
abbrev pub may_want_memory : State → Command → Bool
may_want_memory s command.Abort = false
may_want_memory s (command.Rollback name) = not (list_any (is_point name) (points_of s))
may_want_memory s command.Commit = not (has_no_actions s && has_no_entries s && has_none_gone s)
may_want_memory s _ = true
