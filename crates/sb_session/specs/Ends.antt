-- How a command ends.
use Rattle.std.specs.Prelude.{◌≡◌, ◌⊎◌, ◌&&◌, Bool, true, false, List, None, Result, Ok, Err}
use Rattle.sb_relation.specs.Db.{Key}
use Rattle.sb_fold.specs.declared.refusal.Room.{Room}
use Rattle.sb_fold.specs.declared.refusal.Refusal.{Refusal}
use Rattle.sb_fold.specs.declared.refusal.Refusal.TheVariants as refusal
use Rattle.sb_fold.specs.Extensions.{Extensions}
use Rattle.sb_plain.specs.declared.command.Command.{Command}
use Rattle.sb_plain.specs.declared.command.Command.TheVariants as command
use Rattle.sb_plain.specs.declared.reply.Reply.{Reply}
use Rattle.sb_plain.specs.declared.reply.Reply.TheVariants.{Done, Refused}
use Rattle.sb_plain.specs.Licences.{may_want_memory, may_want_room}
use Rattle.sb_plain.specs.State.{State, downed, with_spent}
use Rattle.sb_plain.specs.Step.{Steps, ok, step}
use Rattle.sb_transactions.specs.Commits.{is_wanting}

-- a fault or damage ends a session
abbrev pub is_end : Refusal → Bool
is_end refusal.Fault = true
is_end (refusal.Damaged page) = true
is_end r = false

abbrev pub ends_with : Reply → Bool
ends_with (Refused r) = is_end r
ends_with reply = false

-- the reply is that of a step, and what stands then is what the step leads to
pub record IsStep (StandsFor : State → Type 0) (ext : Extensions) (s : State) (c : Command) (reply : Reply) : Type 0 where
  pub after : State
  pub steps : Steps ext s c reply after
  pub stands : StandsFor after

-- the state stays, or it stays but for what a step of the command spends
abbrev pub MayHaveSpent : Extensions → State → Command → State → Type 0
MayHaveSpent ext s c t = (t ≡ s) ⊎ ((picks : List Key) × (t ≡ with_spent (step ext s c picks).spent s))

-- The session wasn't down, and something was wanting, for this cause. The state stays, but for what was spent.
pub record IsLacking (StandsFor : State → Type 0) (Cause : Type 0) (ext : Extensions) (s : State) (c : Command) : Type 0 where
  pub up : s.down ≡ false
  pub cause : Cause
  pub after : State
  pub left : MayHaveSpent ext s c after
  pub stands : StandsFor after

-- the session wasn't down, and something failed, for this cause; what stands then is this
pub record IsFree (StandsFor : State → Type 0) (Cause : Type 0) (s now : State) : Type 0 where
  pub up : s.down ≡ false
  pub cause : Cause
  pub stands : StandsFor now

-- A command's reply, and what stands then: those of a step; or room was wanting, or memory, to a command to which it may be, and the state stays but
-- for what was spent; or the disk failed a call, and the session is down. No page is damaged that stands for a state.
abbrev pub Ends : (StandsFor : State → Type 0) (Lacks : Room → Type 0) (HasFailed : Type 0) → Extensions → State → Command → Reply → Type 0
Ends StandsFor Lacks HasFailed ext s c (Refused (refusal.Room room)) = IsLacking StandsFor (Lacks room × (may_want_room s c ≡ true)) ext s c
Ends StandsFor Lacks HasFailed ext s c (Refused refusal.NoMemory) = IsLacking StandsFor (may_want_memory s c ≡ true) ext s c
Ends StandsFor Lacks HasFailed ext s c (Refused refusal.Fault) = IsFree StandsFor HasFailed s (downed s)
Ends StandsFor Lacks HasFailed ext s c (Refused (refusal.Damaged page)) = ⊥
Ends StandsFor Lacks HasFailed ext s c reply = IsStep StandsFor ext s c reply

-- a reply that tells the picks alone
abbrev pub picked_reply : Result (List Key) Refusal → Reply
picked_reply (Ok picks) = Done None picks
picked_reply (Err r) = Refused r

-- what is replied of a result that has no more to tell
abbrev pub reply_of : Result (Unit {0}) Refusal → Reply
reply_of (Ok x) = ok
reply_of (Err r) = Refused r

-- whether a transaction is open behind a command with this reply, where the session isn't down then
abbrev pub is_open_behind : Command → (inside : Bool) → Reply → Bool
is_open_behind command.Begin inside (Done key picks) = true
is_open_behind command.Commit inside (Refused r) = inside && is_wanting r
is_open_behind command.Commit inside reply = false
is_open_behind command.Abort inside reply = false
is_open_behind c inside reply = inside
