-- What a run has done with its lines so far.
use Rattle.std.specs.Prelude.{◌≡◌, ℕ, suc, ◌<◌, ◌≤◌, true, false, is_some, Option, List, [], ◌∷◌, length, Result, Ok, Err}
use Rattle.sb_disk.specs.Causes.{Rose}
use Rattle.sb_disk.specs.Disk.{Story}
use Rattle.sb_disk.specs.Moments.{MayLeave, moment}
use Rattle.sb_disk.specs.Streams.{Given}
use Rattle.sb_plain.specs.declared.reply.Reply.{Reply}
use Rattle.sb_plain.specs.State.{State, committed}
use Rattle.sb_plain.specs.Text.{text_of}
use Rattle.sb_grammar.specs.Columns.{Item}
use Rattle.sb_lines.specs.Lines.{asking, whole_lines, held_of, AreItems, AreFirstItems}
use Rattle.sb_posing.specs.Posing.{AreSingle}
use Rattle.sb_registry.specs.Boxes.{Meanings}
use Rattle.sb_opening.specs.Naming.{all_live}
use Rattle.sb_log.specs.declared.geometry.Geometry.{Geometry}
use Rattle.sb_opening.specs.Sessions.{sizes_of}
use Rattle.sb_kernel.specs.declared.ending.Stop.{Stop}
use Rattle.sb_kernel.specs.World.{World, At, IsNow}
use Rattle.sb_kernel.specs.Keeping.{Keeps}
use Rattle.sb_kernel.specs.Plays.{Plays, last_state}
use Rattle.sb_kernel.specs.Crashes.{HoldsDatabase, LeavesAlong, next_start}
use Rattle.sb_kernel.specs.Ending.{AreAnswered, AreReplied, GoOn, GoOnButLast, WritesAtStop}

-- what is told goes on: earlier moments are as they were
pub record GoesOn (old new : Option Story) : Type 0 where
  pub tells : is_some old ≡ is_some new
  pub later : moment old ≤ moment new
  pub before : (t : ℕ) (image : List ℕ) → t < moment old → MayLeave new t image → MayLeave old t image

-- none of them is later than the next one, nor the last than this end
abbrev pub AreInOrder : List ℕ → ℕ → Type 0
AreInOrder [] end = Unit {0}
AreInOrder (start ∷ starts) end = (start ≤ next_start starts end) × AreInOrder starts end

-- The first item began where the disk stood at first, and each other one no earlier than the one before it; where none has begun, it stands there still.
abbrev pub BeginsAt : Option Story → List ℕ → ℕ → Type 0
BeginsAt told starts until = is_some told ≡ true → (next_start starts until ≡ moment told) × AreInOrder starts until

-- The items had these replies in a play from the state, with a store of these sizes, and the session stands for what it led to. All along a crash
-- leaves the last commit, or the next one of the item that is being answered.
pub record HasPlayed {B D : Type 0} (w : World B D) (m : Meanings) (g : Geometry) (first : D) (s : State) (items : List Item) (replies : List Reply) (here : At B D)
    : Type 0 where
  pub states : List State
  pub sizes : sizes_of here.session ≡ g
  pub plays : Plays m g (Rose (w.faults first) (w.faults here.disk)) s items replies states
  pub now : IsNow w m here.disk here.session (last_state s states)
  pub on : GoesOn (w.told first) (w.told here.disk)
  pub begins : BeginsAt (w.told first) here.starts (moment (w.told here.disk))
  pub leaves : LeavesAlong m (w.told here.disk) (suc (moment (w.told here.disk))) s items states here.starts

-- so it is from every state that the session stood for at first, with boxes that live together
abbrev pub PlaysOn : {B D : Type 0} → World B D → Meanings → List Item → List Reply → At B D → At B D → Type 0
PlaysOn w m items replies first now =
    (s : State) → IsNow w m first.disk first.session s → AreSingle (all_live m) → HasPlayed w m (sizes_of first.session) first.disk s items replies now

-- from this moment on a crash leaves the last commit of a state that isn't down
abbrev pub HoldsLast : Meanings → Option Story → ℕ → State → Type 0
HoldsLast m told from t = t.down ≡ false → (moment : ℕ) (image : List ℕ) → from ≤ moment → MayLeave told moment image → HoldsDatabase m image (committed t)

-- The same once the session is closed. From when the last item was answered a crash leaves the last commit; where that item met a fault, nothing followed.
pub record HasPlayedOut {D : Type 0} (told : D → Option Story) (faults : D → ℕ) (m : Meanings) (g : Geometry) (first : D) (s : State) (items : List Item)
    (replies : List Reply) (starts : List ℕ) (now : D) : Type 0 where
  pub states : List State
  pub plays : Plays m g (Rose (faults first) (faults now)) s items replies states
  pub until : ℕ
  pub within : until ≤ moment (told now)
  pub on : GoesOn (told first) (told now)
  pub begins : BeginsAt (told first) starts until
  pub leaves : LeavesAlong m (told now) (suc until) s items states starts
  pub last : HoldsLast m (told now) until (last_state s states)
  pub end : (last_state s states).down ≡ true → until ≡ moment (told now)

abbrev pub PlaysOut : {B D : Type 0} → World B D → Meanings → List Item → List Reply → At B D → At B D → Type 0
PlaysOut w m items replies first now =
    (s : State) → IsNow w m first.disk first.session s → AreSingle (all_live m)
    → HasPlayedOut w.told w.faults m (sizes_of first.session) first.disk s items replies now.starts now.disk

-- All asking lines were answered: the items with their replies, written in full.
pub record HasAnswered {B D : Type 0} (w : World B D) (m : Meanings) (lines : List (List ℕ)) (first now : At B D) : Type 0 where
  pub items : List Item
  pub replies : List Reply
  pub written : List ℕ
  pub is_written : Given first.held now.held written
  pub begun : length items ≡ length now.starts
  pub each : length replies ≡ length items
  pub are_items : AreItems (asking lines) items
  pub are_answered : AreAnswered items replies
  pub on : GoOn replies
  pub writes : written ≡ text_of replies
  pub later : w.faults first.disk ≤ w.faults now.disk
  pub plays : PlaysOn w m items replies first now
  pub keeps : Keeps w items replies first.disk now.disk first.session now.session

-- The first asking lines were answered, all early lines among them, and then the run stopped.
pub record HasStopped {B D : Type 0} (w : World B D) (m : Meanings) (stop : Stop) (early lines : List (List ℕ)) (first now : At B D) : Type 0 where
  pub items : List Item
  pub replies : List Reply
  pub written : List ℕ
  pub is_written : Given first.held now.held written
  pub begun : length items ≡ length now.starts
  pub each : length replies ≡ length items
  pub are_items : AreFirstItems (asking lines) items
  pub are_answered : AreAnswered items replies
  pub on : GoOnButLast replies
  pub replied : AreReplied early replies written
  pub writes : WritesAtStop stop replies written
  pub later : w.faults first.disk ≤ w.faults now.disk
  pub plays : PlaysOn w m items replies first now
  pub keeps : Keeps w items replies first.disk now.disk first.session now.session

-- All whole lines of the bytes were answered, and of the line that has begun is held what tells what it says.
pub record Stands {B D : Type 0} (w : World B D) (m : Meanings) (bytes held : List ℕ) (first now : At B D) : Type 0 where
  pub answered : HasAnswered w m (whole_lines bytes) first now
  pub line : held ≡ held_of bytes

-- What comes of answering some lines, of which the early ones were answered before.
abbrev pub LinesLead : {B D : Type 0} → World B D → Meanings → Result (Unit {0}) Stop → List (List ℕ) → List (List ℕ) → At B D → At B D → Type 0
LinesLead w m (Ok x) early lines first now = HasAnswered w m lines first now
LinesLead w m (Err stop) early lines first now = HasStopped w m stop early lines first now

-- What comes of taking some bytes, of which the early ones were taken before.
abbrev pub BytesLead : {B D : Type 0} → World B D → Meanings → Result (Unit {0}) Stop → List ℕ → List ℕ → List ℕ → At B D → At B D → Type 0
BytesLead w m (Ok x) early bytes line first now = Stands w m bytes line first now
BytesLead w m (Err stop) early bytes line first now = HasStopped w m stop (whole_lines early) (whole_lines bytes) first now
