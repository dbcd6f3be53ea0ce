-- What a crash leaves of a play.
use Rattle.std.specs.Prelude.{◌≡◌, ◌⊎◌, ℕ, ◌<◌, ◌≤◌, true, List, [], ◌∷◌, Option}
use Rattle.sb_disk.specs.Disk.{Story}
use Rattle.sb_disk.specs.Moments.{MayLeave}
use Rattle.sb_images.specs.Images.{Restores}
use Rattle.sb_log.specs.declared.geometry.Geometry.{Geometry}
use Rattle.sb_relation.specs.Db.{Db}
use Rattle.sb_plain.specs.declared.command.Command.{Command}
use Rattle.sb_plain.specs.declared.reply.Reply.{Reply}
use Rattle.sb_plain.specs.State.{State, committed}
use Rattle.sb_plain.specs.Step.{Steps}
use Rattle.sb_grammar.specs.Columns.{Item, Says, Bad}
use Rattle.sb_registry.specs.Boxes.{Meanings}
use Rattle.sb_drive.specs.Spaces.{Wanted}
use Rattle.sb_execution.specs.Working.{extensions_of}
use Rattle.sb_opening.specs.Table.{table_len}
use Rattle.sb_opening.specs.Transactions.{IsCommitted}
use Rattle.sb_opening.specs.Naming.{all_live}
use Rattle.sb_kernel.specs.Plays.{AreBoxesOf}

-- The image is a store's, and what it restores keeps the database, whichever of the boxes are live.
pub record HoldsDatabase (m : Meanings) (image : List ℕ) (db : Db) : Type 0 where
  pub geometry : Geometry
  pub want : Wanted
  pub restores : Restores geometry want image
  pub committed : IsCommitted (all_live m) (table_len geometry.pages) geometry.pages want db

-- a step of the command commits the database
pub record MayCommit (m : Meanings) (s : State) (c : Command) (db : Db) : Type 0 where
  pub boxes : Meanings
  pub are : AreBoxesOf m s boxes
  pub reply : Reply
  pub after : State
  pub steps : Steps (extensions_of boxes) s c reply after
  pub is : db ≡ committed after

-- What may be found committed while a command is answered that leads to a state: what that state has committed; where the disk failed, and the
-- session is down with it, what a step of the command commits.
abbrev pub IsMade : Meanings → State → Command → State → Db → Type 0
IsMade m s c t db = (db ≡ committed t) ⊎ ((t.down ≡ true) × MayCommit m s c db)

pub record HoldsNext (m : Meanings) (s : State) (c : Command) (t : State) (image : List ℕ) : Type 0 where
  pub db : Db
  pub made : IsMade m s c t db
  pub holds : HoldsDatabase m image db

-- what a crash may leave while an item is answered that leads to a state: the last commit, or the next one
abbrev pub IsLeft : Meanings → State → Item → State → List ℕ → Type 0
IsLeft m s (Bad column) t image = HoldsDatabase m image (committed s)
IsLeft m s (Says c) t image = HoldsDatabase m image (committed s) ⊎ HoldsNext m s c t image

-- when the next item begins; behind the last one, this end
abbrev pub next_start : List ℕ → ℕ → ℕ
next_start [] end = end
next_start (start ∷ starts) end = start

-- so it is at each moment from when an item begins until the next one does
abbrev pub LeavesAlong : Meanings → Option Story → ℕ → State → List Item → List State → List ℕ → Type 0
LeavesAlong m told end s [] [] [] = Unit {0}
LeavesAlong m told end s (item ∷ items) (t ∷ states) (start ∷ starts) =
    ((moment : ℕ) (image : List ℕ) → start ≤ moment → moment < next_start starts end → MayLeave told moment image → IsLeft m s item t image)
    × LeavesAlong m told end t items states starts
LeavesAlong m told end s _ _ _ = ⊥
