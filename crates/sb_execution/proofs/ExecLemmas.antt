-- What becomes of a session in any command.
use Rattle.std.proofs.Common.{◌≡◌, ◌||◌, ℕ, Bool, true, false, List, Option, is_some, Result, Ok, Err, IfErr, OnOk, refl, sym, ap, ◌∙◌, subst, arith}
use Rattle.std.proofs.lemmas.Bool.{false≢true}
use Rattle.sb_disk.proofs.CauseLemmas.{Rose-later}
use Rattle.sb_disk.specs.Disk.{Story}
use Rattle.sb_engine.specs.Working.{extensions_of}
use Rattle.sb_fold.specs.declared.refusal.Refusal.{Refusal}
use Rattle.sb_fold.specs.declared.refusal.Refusal.TheVariants as refusal
use Rattle.sb_relation.specs.Db.{Key}
use Rattle.sb_plain.specs.declared.command.Command.{Command}
use Rattle.sb_plain.specs.declared.reply.Reply.{Reply}
use Rattle.sb_plain.specs.declared.reply.Reply.TheVariants.{Refused}
use Rattle.sb_plain.specs.State.{State}
use Rattle.sb_plain.specs.Step.{ok}
use Rattle.sb_registry.specs.Boxes.{Meanings}
use Rattle.sb_drive.specs.Spaces.{Wanted}
use Rattle.sb_session.specs.Calls.{KeepsWanted}
use Rattle.sb_txn.specs.Parts.{parts}
use Rattle.sb_space.specs.declared.transactions.Space.{Space}
use Rattle.sb_vectors.specs.Vectors.{AreSameBoxes}
use Rattle.sb_execution.specs.Serving.{IsPosedIn, may_have_changed, may_have_committed}
use Rattle.sb_session.specs.declared.session.Session.{Session}
use Rattle.sb_session.specs.Ends.{Ends, ends_with, picked_reply, reply_of}
use Rattle.sb_session.specs.Sessions.{CanRun, HasFailed, IsFor, KeepsSession, Lacks, StandsBehind, WantsRoom, parts_of, sizes_of}
use Rattle.sb_session.proofs.Behind.{Ends-behind_for}
use Rattle.sb_session.proofs.Commands.{Carried-down}
use Rattle.sb_session.proofs.SameBoxes.{same-boxes}
use Rattle.sb_session.proofs.WantLemmas.{KeepsWanted-none}
use Rattle.sb_execution.specs.Endings.{Executed}
use Rattle.sb_execution.proofs.PagesLemmas.{room_roomless}

module _ {B D : Type 0} (meanings : B → Meanings) (told : D → Option Story) (len faults : D → ℕ) (c : Command) (d e : D) (x y : Session B) where
  module _ (r : Reply) (same : AreSameBoxes (meanings x.boxes) (meanings y.boxes)) (keeps : KeepsSession len faults d e x y r) (runs : CanRun meanings told len e y) where
    -- whatever pages were wanted, they still are
    pub Executed-kept : ((want : Wanted) (s : State) → IsFor meanings told len want s d x → IsPosedIn (meanings x.boxes) s c
        → Ends (λ t. IsFor meanings told len want t e y) (Lacks (sizes_of x)) (HasFailed faults d e) (extensions_of (meanings x.boxes)) s c r)
        → ((want : Wanted) (s : State) → IsFor meanings told len want s d x → IsPosedIn (meanings x.boxes) s c → WantsRoom (meanings x.boxes) (sizes_of x).pages s c r)
        → KeepsWanted (parts_of told len d x) (parts_of told len e y) → Executed meanings told len faults c d e x y r
    Executed-kept ends room leaves = record {
      room = room;
      ends = λ want s for posed. Ends-behind_for meanings told len c d e x y leaves.leaves want s for faults r (ends want s for posed);
      leaves = λ not. leaves;
      same = same;
      keeps = keeps;
      runs = runs;
    }

-- a commit that tells of no change was refused, and the disk didn't fail
pub kept_commit : {P : Type 0} (result : Result (List Key) Refusal) → IfErr result (λ r. (r ≡ refusal.Fault → ⊥) → P) → may_have_changed (picked_reply result) ≡ false → P
kept_commit (Ok picks) kept none = absurd (false≢true (sym none))
kept_commit (Err r) kept none = kept (λ is. false≢true (sym none ∙ ap (λ (q : Refusal). may_have_changed (Refused q)) is))

-- what a call makes so that goes through is so where it is answered ok
pub emptied : {P : Type 0} (result : Result (Unit {0}) Refusal) (r : Reply) → r ≡ reply_of result → OnOk result P → r ≡ ok → P
emptied (Ok done) r is makes went = makes
emptied (Err e) r is makes went = absurd (let both : Refused e ≡ ok = sym is ∙ went in cc)

-- neither the disk nor the store was touched
pub leaves_still : {B D : Type 0} (told : D → Option Story) (len : D → ℕ) (d e : D) (x y : Session B) → e ≡ d → y.space ≡ x.space → KeepsWanted (parts_of told len d x) (parts_of told len e y)
leaves_still {D = D} told len d e x y disk space =
    subst (λ (f : D). KeepsWanted (parts_of told len d x) (parts_of told len f y)) (sym disk)
    (subst (λ (a : Space). KeepsWanted (parts_of told len d x) (parts told len d a.store)) (sym space) (KeepsWanted-none (parts_of told len d x)))

-- a session that is down
pub Executed-down : {B D : Type 0} (meanings : B → Meanings) (told : D → Option Story) (len faults : D → ℕ) (c : Command) (d : D) (x : Session B) → CanRun meanings told len d x → x.down ≡ true
    → Executed meanings told len faults c d d x x (Refused refusal.Down)
Executed-down meanings told len faults c d x runs down =
    let carried = Carried-down meanings told len faults d x runs c down in
    Executed-kept meanings told len faults c d d x x (Refused refusal.Down) (same-boxes (meanings x.boxes)) carried.keeps carried.runs (λ want s for posed. carried.ends want s for)
    (λ want s for posed. room_roomless (meanings x.boxes) (sizes_of x).pages s c refusal.Down refl) (leaves_still told len d d x x refl refl)

module _ {B D : Type 0} (meanings : B → Meanings) (told : D → Option Story) (len faults : D → ℕ) (c : Command) (d e : D) (x y : Session B) (r : Reply)
    (same : AreSameBoxes (meanings x.boxes) (meanings y.boxes)) (keeps : KeepsSession len faults d e x y r) (runs : CanRun meanings told len e y) where
  -- other pages may be wanted then
  pub Executed-moved : ((want : Wanted) (s : State) → IsFor meanings told len want s d x → IsPosedIn (meanings x.boxes) s c
      → Ends (StandsBehind meanings told len want (extensions_of (meanings x.boxes)) s c d e x y) (Lacks (sizes_of x)) (HasFailed faults d e) (extensions_of (meanings x.boxes)) s c r)
      → ((want : Wanted) (s : State) → IsFor meanings told len want s d x → IsPosedIn (meanings x.boxes) s c → WantsRoom (meanings x.boxes) (sizes_of x).pages s c r)
      → (may_have_committed c (is_some x.open) r ≡ false → KeepsWanted (parts_of told len d x) (parts_of told len e y)) → Executed meanings told len faults c d e x y r
  Executed-moved ends room leaves = record {
    room = room;
    ends = λ want s for posed. ends want s for posed;
    leaves = leaves;
    same = same;
    keeps = keeps;
    runs = runs;
  }

-- a command that does nothing else has its keeping behind another's
pub KeepsSession-then : {B D : Type 0} (len faults : D → ℕ) (d e f : D) (x y z : Session B) (a b : Reply) → x.down ≡ false → y.down ≡ x.down → KeepsSession len faults d e x y a → KeepsSession len faults e f y z b
    → KeepsSession len faults d f x z b
KeepsSession-then len faults d e f x y z a b up same one two = record {
  size = two.size ∙ one.size;
  later = let first = one.later in let second = two.later in omega arith;
  geometry = two.geometry ∙ one.geometry;
  place = two.place ∙ one.place;
  down = two.down ∙ ap (λ (b' : Bool). b' || ends_with b) same;
  fault = λ is. Rose-later (faults d) (faults e) (faults f) one.later (two.fault is);
  ended = λ on. absurd (false≢true (sym up ∙ on));
}
