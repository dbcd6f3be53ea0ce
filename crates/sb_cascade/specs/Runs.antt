-- How work comes along over a layer that keeps relations.
use Rattle.std.specs.Prelude.{◌≡◌, ℕ, ◌+◌, ◌≤◌, Bool, true, false, List, [], ◌∷◌, ◌++◌, length, slice_get, Option, Some, None}
use Rattle.sb_rule.specs.declared.action.Action.{Action}
use Rattle.sb_rule.specs.declared.change.Change.{Change}
use Rattle.sb_relation.specs.Db.{Name, Key, Attached, Relation, relation_at}
use Rattle.sb_relation.specs.Rules.{admits, follows}
use Rattle.sb_fold.specs.declared.refusal.Refusal.{Refusal}
use Rattle.sb_fold.specs.declared.refusal.Refusal.TheVariants.{Veto, Room, Damaged, Fault, NoMemory}
use Rattle.sb_fold.specs.Extensions.{Extensions, box_of}
use Rattle.sb_fold.specs.Finish.{with_actions}
use Rattle.sb_fold.specs.Fold.{attachments_at, queue_late, reach_change}
use Rattle.sb_fold.specs.Outcome.{Reached, Trail, Going, Work, made, refuse, no_step, change_to, trail_of, with_picks, Leads, ◌>>=◌}
use Rattle.sb_fold.specs.Wishes.{Wish, wished}

-- ---- refusals
-- one that no definition gives: room, damage, a fault, or want of memory
abbrev pub is_free : Refusal → Bool
is_free (Room room) = true
is_free (Damaged page) = true
is_free Fault = true
is_free NoMemory = true
is_free _ = false

-- one that says nothing of pages and of the disk
abbrev pub IsQuiet : Refusal → Type 0
IsQuiet (Room room) = ⊥
IsQuiet (Damaged page) = ⊥
IsQuiet Fault = ⊥
IsQuiet _ = Unit {0}

-- a fact of a fault, where that is the refusal
abbrev pub OnFault : Refusal → Type 0 → Type 0
OnFault Fault IsSo = IsSo
OnFault r IsSo = Unit {0}

-- it says that room is wanting
abbrev pub is_room : Refusal → Bool
is_room (Room room) = true
is_room r = false

-- ---- runs
-- the second trail goes on where the first ends
pub record GoesOn (from to : Trail) : Type 0 where
  pub points : List Reached
  pub more : to.points ≡ from.points ++ points
  pub spent : from.spent ≤ to.spent

-- With some picks, and whatever picks follow, the work gives x, and the layer stands for what it leaves.
pub record MadeFrom {S A : Type 0} (Stands : Going → S → Type 0) (work : Work A) (g : Going) (x : A) (new : S) : Type 0 where
  pub picks : List Key
  pub after : Going
  pub leads : Leads work g picks (made x) after
  pub stands : Stands after new

-- With some picks, and whatever picks follow, the work is refused so.
pub record RefusedFrom {S A : Type 0} (Stopped : Refusal → Trail → S → Type 0) (work : Work A) (g : Going) (r : Refusal) (new : S) : Type 0 where
  pub picks : List Key
  pub after : Going
  pub leads : Leads work g picks (refuse r) after
  pub stopped : Stopped r after.trail new

-- With some picks, and whatever picks follow, the work comes at least so far, and there the layer stopped.
pub record BrokenFrom {S A : Type 0} (Stopped : Refusal → Trail → S → Type 0) (work : Work A) (g : Going) (r : Refusal) (new : S) : Type 0 where
  pub picks : List Key
  pub trail : Trail
  pub comes : (more : List Key) → GoesOn trail (trail_of (work (with_picks g (picks ++ more))))
  pub stopped : Stopped r trail new

abbrev pub EndsBy : {S A : Type 0} → (Refusal → Trail → S → Type 0) → Bool → Work A → Going → Refusal → S → Type 0
EndsBy Stopped true work g r new = BrokenFrom Stopped work g r new
EndsBy Stopped false work g r new = RefusedFrom Stopped work g r new

-- The work is refused: as the definition says, or by the layer on its way.
abbrev pub StopsFrom : {S A : Type 0} → (Refusal → Trail → S → Type 0) → Work A → Going → Refusal → S → Type 0
StopsFrom Stopped work g r new = EndsBy Stopped (is_free r) work g r new

-- A call that only reads is refused by the layer alone, where the work stands.
pub record LooksFrom {S : Type 0} (Stopped : Refusal → Trail → S → Type 0) (g : Going) (r : Refusal) (new : S) : Type 0 where
  pub free : is_free r ≡ true
  pub stopped : Stopped r g.trail new

-- ---- the change of one row
abbrev pub row_of_relation : Extensions → Name → Wish → Option Relation → Work Change
row_of_relation ext name wish None = no_step
row_of_relation ext name wish (Some r) = wished name r wish >>= λ c. change_to (reach_change ext name r c) >>= λ _. made c

-- without what its attachments make of it
abbrev pub row_change : Extensions → Name → Wish → Work Change
row_change ext name wish going = row_of_relation ext name wish (relation_at going.db name) going

-- ---- the attachments, one by one
-- this one admits the change over the changed database, and these actions follow
pub record Admitted (ext : Extensions) (name : Name) (c : Change) (i : ℕ) (g : Going) (now : List Action) : Type 0 where
  pub attached : Attached
  pub at : slice_get (attachments_at g.db name) i ≡ Some attached
  pub admits : admits (box_of ext attached.rule) g.db name attached.rule c ≡ true
  pub now_are : now ≡ follows g.db name attached.rule c

-- the attachment of a number was asked, and the next one is; or there are no more, and what is late waits
abbrev pub Asked : {S : Type 0} → (Going → S → Type 0) → (ℕ → Going → S → Type 0)
    → Extensions → Name → Change → ℕ → Going → Option (List Action) → S → Type 0
Asked Stands Asks ext name c i g None new = (length (attachments_at g.db name) ≤ i) × Stands (queue_late name c g) new
Asked Stands Asks ext name c i g (Some now) new = Admitted ext name c i g now × Asks (i + 1) g new

-- it doesn't admit the change
pub record IsVetoed (ext : Extensions) (name : Name) (c : Change) (i : ℕ) (g : Going) (r : Refusal) : Type 0 where
  pub attached : Attached
  pub at : slice_get (attachments_at g.db name) i ≡ Some attached
  pub admits : admits (box_of ext attached.rule) g.db name attached.rule c ≡ false
  pub is : r ≡ Veto name attached.name

abbrev pub IsVetoedIf : Bool → Extensions → Name → Change → ℕ → Going → Refusal → Type 0
IsVetoedIf true ext name c i g r = Unit {0}
IsVetoedIf false ext name c i g r = IsVetoed ext name c i g r

-- it vetoes the change, or the layer stopped
pub record NotAsked {S : Type 0} (Stopped : Refusal → Trail → S → Type 0) (ext : Extensions) (name : Name) (c : Change)
    (i : ℕ) (g : Going) (r : Refusal) (new : S) : Type 0 where
  pub vetoed : IsVetoedIf (is_free r) ext name c i g r
  pub stopped : Stopped r g.trail new

-- ---- what waits
-- the first action that waits was taken out, or none waits
abbrev pub Unqueued : {S : Type 0} → (Going → S → Type 0) → Going → Option Action → S → Type 0
Unqueued Stands g None new = (g.queue.actions ≡ []) × Stands g new
Unqueued Stands g (Some a) new = (rest : List Action) × (g.queue.actions ≡ a ∷ rest) × Stands (with_actions rest g) new
