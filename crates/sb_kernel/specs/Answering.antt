-- The reply to one line.
use Rattle.std.specs.Prelude.{◌≡◌, ◌≤◌, ℕ, true, false, List, [], ◌∷◌}
use Rattle.sb_disk.specs.Causes.{Rose}
use Rattle.sb_disk.specs.Moments.{LeavesOnly}
use Rattle.sb_plain.specs.declared.reply.Reply.{Reply}
use Rattle.sb_plain.specs.State.{State, committed}
use Rattle.sb_txn.specs.Clauses.{LeavesWanted}
use Rattle.sb_grammar.specs.Columns.{Item, IsItem}
use Rattle.sb_posing.specs.Posing.{AreSingle}
use Rattle.sb_registry.specs.Boxes.{Meanings}
use Rattle.sb_opening.specs.Naming.{all_live}
use Rattle.sb_opening.specs.Session.{Session}
use Rattle.sb_log.specs.declared.geometry.Geometry.{Geometry}
use Rattle.sb_opening.specs.Sessions.{parts_of, sizes_of}
use Rattle.sb_kernel.specs.World.{World, IsNow}
use Rattle.sb_kernel.specs.Keeping.{Keeps}
use Rattle.sb_kernel.specs.Plays.{MovesBy}
use Rattle.sb_kernel.specs.Ending.{AnswersBad}
use Rattle.sb_kernel.specs.Crashes.{HoldsDatabase, IsLeft}

-- The item has this reply in this state, and leads to one that the session stands for. Meanwhile a crash leaves the last commit, or the next one.
pub record HasMoved {B D : Type 0} (w : World B D) (m : Meanings) (g : Geometry) (s : State) (item : Item) (reply : Reply) (old new : D) (y : Session B)
    : Type 0 where
  pub state : State
  pub moves : MovesBy m g (Rose (w.faults old) (w.faults new)) s item reply state
  pub now : IsNow w m new y state
  pub leaves : LeavesOnly (w.told old) (w.told new) (IsLeft m s item state)

-- So it is of what the line says, in every state that the session stands for, with boxes that live together. A bad line has its reply whatever the
-- session stands for, and so is what it keeps.
pub record HasReplied {B D : Type 0} (w : World B D) (line : List ℕ) (old new : D) (x y : Session B) (reply : Reply) : Type 0 where
  pub item : Item
  pub is_item : IsItem line item
  pub bad : AnswersBad item reply
  pub keeps : Keeps w (item ∷ []) (reply ∷ []) old new x y
  pub moves : (m : Meanings) (s : State) → IsNow w m old x s → AreSingle (all_live m) → HasMoved w m (sizes_of x) s item reply old new y

-- What a close leaves: while a session isn't down a crash goes on leaving its last commit, and one that is down is left alone. Whatever pages were
-- wanted, a crash leaves them.
pub record Closes {B D : Type 0} (w : World B D) (old new : D) (x : Session B) : Type 0 where
  pub later : w.faults old ≤ w.faults new
  pub leaves : (m : Meanings) (s : State) → IsNow w m old x s → s.down ≡ false
      → LeavesOnly (w.told old) (w.told new) (λ image. HoldsDatabase m image (committed s))
  pub wanted : LeavesWanted (parts_of w.told w.len old x) (parts_of w.told w.len new x)
  pub ended : x.down ≡ true → new ≡ old
