-- What stands behind a command along which a crash left what was wanted.
use Rattle.std.proofs.Common.{◌≡◌, inl, ℕ, true, List, Option, Some, None}
use Rattle.sb_disk.specs.Disk.{Story}
use Rattle.sb_relation.specs.Db.{Db}
use Rattle.sb_fold.specs.declared.refusal.Refusal.TheVariants as refusal
use Rattle.sb_fold.specs.declared.refusal.Room.{Room}
use Rattle.sb_fold.specs.Extensions.{Extensions}
use Rattle.sb_plain.specs.declared.command.Command.{Command}
use Rattle.sb_plain.specs.declared.reply.Reply.{Reply}
use Rattle.sb_plain.specs.declared.reply.Reply.TheVariants as reply
use Rattle.sb_plain.specs.Licences.{may_want_memory, may_want_room}
use Rattle.sb_plain.specs.State.{downed}
use Rattle.sb_plain.specs.State.{State, Transaction as PlainTransaction, committed}
use Rattle.sb_registry.specs.Boxes.{Meanings}
use Rattle.sb_drive.specs.Spaces.{Wanted}
use Rattle.sb_transactions.specs.Place.{Place}
use Rattle.sb_txn.specs.Clauses.{HoldsPages, LeavesWanted}
use Rattle.sb_txn.specs.Parts.{Parts}
use Rattle.sb_transactions.specs.Working.{extensions_of}
use Rattle.sb_session.specs.declared.session.Open.{Open}
use Rattle.sb_session.specs.declared.session.Session.{Session}
use Rattle.sb_session.specs.Ends.{Ends, IsFree, IsLacking, IsStep}
use Rattle.sb_session.specs.Sessions.{HasFailed, IsFor, IsOpenFor, Lacks, StandsBehind, StandsFor, parts_of, sizes_of}

-- ---- ends of other states
module _ (S T : State → Type 0) (Lacks : Room → Type 0) (HasFailed : Type 0) (ext : Extensions) (s : State) (c : Command) (wider : (t : State) → S t → T t) where
  step-wider : (r : Reply) → IsStep S ext s c r → IsStep T ext s c r
  step-wider r step = record { after = step.after; steps = step.steps; stands = wider step.after step.stands }

  free-wider : (Cause : Type 0) (now : State) → IsFree S Cause s now → IsFree T Cause s now
  free-wider Cause now free = record { up = free.up; cause = free.cause; stands = wider now free.stands }

  lacking-wider : (Cause : Type 0) → IsLacking S Cause ext s c → IsLacking T Cause ext s c
  lacking-wider Cause lacks = record { up = lacks.up; cause = lacks.cause; after = lacks.after; left = lacks.left; stands = wider lacks.after lacks.stands }

  pub Ends-wider : (r : Reply) → Ends S Lacks HasFailed ext s c r → Ends T Lacks HasFailed ext s c r
  Ends-wider (reply.Refused (refusal.Room room)) ends = lacking-wider (Lacks room × (may_want_room s c ≡ true)) ends
  Ends-wider (reply.Refused refusal.NoMemory) ends = lacking-wider (may_want_memory s c ≡ true) ends
  Ends-wider (reply.Refused refusal.Fault) ends = free-wider HasFailed (downed s) ends
  Ends-wider (reply.Refused (refusal.Damaged page)) ends = ends
  Ends-wider (reply.Refused (refusal.Syntax column)) ends = step-wider (reply.Refused (refusal.Syntax column)) ends
  Ends-wider (reply.Refused refusal.Down) ends = step-wider (reply.Refused refusal.Down) ends
  Ends-wider (reply.Refused refusal.State) ends = step-wider (reply.Refused refusal.State) ends
  Ends-wider (reply.Refused (refusal.NoRelation name)) ends = step-wider (reply.Refused (refusal.NoRelation name)) ends
  Ends-wider (reply.Refused (refusal.Exists name)) ends = step-wider (reply.Refused (refusal.Exists name)) ends
  Ends-wider (reply.Refused (refusal.NoName name)) ends = step-wider (reply.Refused (refusal.NoName name)) ends
  Ends-wider (reply.Refused (refusal.NoExtension code)) ends = step-wider (reply.Refused (refusal.NoExtension code)) ends
  Ends-wider (reply.Refused (refusal.InUse relation name)) ends = step-wider (reply.Refused (refusal.InUse relation name)) ends
  Ends-wider (reply.Refused refusal.Mistyped) ends = step-wider (reply.Refused refusal.Mistyped) ends
  Ends-wider (reply.Refused (refusal.TooLong relation)) ends = step-wider (reply.Refused (refusal.TooLong relation)) ends
  Ends-wider (reply.Refused refusal.Mixed) ends = step-wider (reply.Refused refusal.Mixed) ends
  Ends-wider (reply.Refused refusal.Limit) ends = step-wider (reply.Refused refusal.Limit) ends
  Ends-wider (reply.Refused (refusal.NoRecord relation)) ends = step-wider (reply.Refused (refusal.NoRecord relation)) ends
  Ends-wider (reply.Refused (refusal.Duplicate relation)) ends = step-wider (reply.Refused (refusal.Duplicate relation)) ends
  Ends-wider (reply.Refused (refusal.Veto relation name)) ends = step-wider (reply.Refused (refusal.Veto relation name)) ends
  Ends-wider (reply.Refused (refusal.Range relation)) ends = step-wider (reply.Refused (refusal.Range relation)) ends
  Ends-wider (reply.Refused refusal.Depth) ends = step-wider (reply.Refused refusal.Depth) ends
  Ends-wider (reply.Refused refusal.DeferLimit) ends = step-wider (reply.Refused refusal.DeferLimit) ends
  Ends-wider (reply.Done key picks) ends = step-wider (reply.Done key picks) ends
  Ends-wider (reply.Count count picks) ends = step-wider (reply.Count count picks) ends
  Ends-wider (reply.Rows rows) ends = step-wider (reply.Rows rows) ends
  Ends-wider (reply.Entries image) ends = step-wider (reply.Entries image) ends
  Ends-wider (reply.Lines lines) ends = step-wider (reply.Lines lines) ends

-- ---- what was wanted is left
-- the pages now of a store whose pages wanted a session knows
store_open : (m : Meanings) (place : Place) (want : Wanted) (db : Db) (p : Parts) (o : Option Open) (t : Option PlainTransaction) → IsOpenFor m place want db p o t
    → (now : ℕ → List ℕ) × HoldsPages want now p
store_open m place want db p None None rests = (rests.has.now, rests.has.stands.store)
store_open m place want db p (Some o) (Some t) inside = (inside.at.has.now, inside.at.has.stands.store)
store_open m place want db p None (Some t) opened = absurd opened
store_open m place want db p (Some o) None opened = absurd opened

module _ {B D : Type 0} (meanings : B → Meanings) (told : D → Option Story) (len : D → ℕ) (c : Command) (d e : D) (x y : Session B)
    (leaves : LeavesWanted (parts_of told len d x) (parts_of told len e y)) (want : Wanted) (s : State) (for : IsFor meanings told len want s d x) where
  abbrev Behind : State → Type 0
  Behind t = StandsBehind meanings told len want (extensions_of (meanings x.boxes)) s c d e x y t

  pub StandsBehind-wanted : (t : State) → StandsFor meanings told len t e y → Behind t
  StandsBehind-wanted t stands = record {
    stands = stands;
    leaves = λ up.
        let store = store_open (meanings x.boxes) x.place want (committed s) (parts_of told len d x) x.open s.transaction (for.stands up) in
        inl (leaves.each want store.0 store.1);
  }

  pub Ends-behind : (faults : D → ℕ) (r : Reply) → Ends (λ t. StandsFor meanings told len t e y) (Lacks (sizes_of x)) (HasFailed faults d e) (extensions_of (meanings x.boxes)) s c r
      → Ends Behind (Lacks (sizes_of x)) (HasFailed faults d e) (extensions_of (meanings x.boxes)) s c r
  Ends-behind faults r ends = Ends-wider (λ t. StandsFor meanings told len t e y) Behind (Lacks (sizes_of x)) (HasFailed faults d e) (extensions_of (meanings x.boxes)) s c StandsBehind-wanted r ends

  -- with the same pages wanted
  pub Ends-behind_for : (faults : D → ℕ) (r : Reply) → Ends (λ t. IsFor meanings told len want t e y) (Lacks (sizes_of x)) (HasFailed faults d e) (extensions_of (meanings x.boxes)) s c r
      → Ends Behind (Lacks (sizes_of x)) (HasFailed faults d e) (extensions_of (meanings x.boxes)) s c r
  Ends-behind_for faults r ends =
      Ends-wider (λ t. IsFor meanings told len want t e y) Behind (Lacks (sizes_of x)) (HasFailed faults d e) (extensions_of (meanings x.boxes)) s c
      (λ t is. StandsBehind-wanted t (record { want = want; is = is })) r ends
