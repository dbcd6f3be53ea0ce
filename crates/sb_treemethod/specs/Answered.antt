-- What the walks over a tree are answered with.
use Rattle.std.specs.Prelude.{◌≡◌, Bool, true, false, Option, Some, None, is_some}
use Rattle.sb_relation.specs.Db.{Key}
use Rattle.sb_forms.specs.Stored.{row_in}
use Rattle.sb_forms.specs.TreePages.{is_row_entry}
use Rattle.sb_btree.specs.Leaves.{entry_in}
use Rattle.sb_btree.specs.declared.lookup.LeafEntry.{LeafEntry}
use Rattle.sb_btree.specs.declared.walk.Walk.{Walk}
use Rattle.sb_btree.specs.declared.walk.Walk.TheVariants as walk
use Rattle.sb_ctx.specs.declared.instance.Instance.{Instance}
use Rattle.sb_ctx.specs.declared.moves.Move.{Move}
use Rattle.sb_ctx.specs.declared.moves.Move.TheVariants.{Done, Need, Fresh, NoRecord, Duplicate, Key as Keyed, Row as Rowed, End, Broken, NoMemory}

-- a walk without an end is answered with what it lacks
abbrev pub question_of : {T : Type 0} → Walk T → Move
question_of (walk.Ready end) = NoMemory
question_of (walk.Need n) = Need n
question_of walk.Fresh = Fresh
question_of (walk.Broken n) = Broken n
question_of walk.NoMemory = NoMemory

abbrev pub prepare_move : Walk (Unit {0}) → Move
prepare_move (walk.Ready end) = Done
prepare_move w = question_of w

-- the entry is put in under this key, or the key stands
abbrev pub put_move : Key → Walk Bool → Move
put_move key (walk.Ready true) = Keyed key
put_move key (walk.Ready false) = Duplicate
put_move key w = question_of w

abbrev pub was_done : Walk Bool → Bool
was_done (walk.Ready done) = done
was_done w = false

abbrev pub was_found : Walk (Option LeafEntry) → Bool
was_found (walk.Ready found) = is_some found
was_found w = false

-- no entry has the key
abbrev pub lack_move : Walk Bool → Move
lack_move (walk.Ready false) = NoRecord
lack_move w = question_of w

-- the entry is taken out
abbrev pub remove_move : Walk Bool → Move
remove_move (walk.Ready true) = Done
remove_move w = lack_move w

-- the entry has another value under this key
abbrev pub replace_move : Key → Walk Bool → Move
replace_move key (walk.Ready true) = Keyed key
replace_move key w = lack_move w

-- an entry isn't there
abbrev pub missing_move : Walk (Option LeafEntry) → Move
missing_move (walk.Ready (Some f)) = NoMemory
missing_move (walk.Ready None) = NoRecord
missing_move w = question_of w

abbrev pub was_broken : Walk Bool → Bool
was_broken (walk.Broken n) = true
was_broken w = false

-- The row of an entry, under its key, where it is one of a row; its leaf is called broken where it is none. Want of memory is free.
abbrev pub IsFound : Instance → LeafEntry → Move → Type 0
IsFound inst f (Rowed key row) = (key ≡ f.key) × (row ≡ row_in f.value) × (is_row_entry inst.schema inst.key (entry_in f) ≡ true)
IsFound inst f (Broken n) = (n ≡ f.leaf) × (is_row_entry inst.schema inst.key (entry_in f) ≡ false)
IsFound inst f NoMemory = Unit {0}
IsFound inst f move = ⊥

-- the row of a key
abbrev pub IsGot : Instance → Walk (Option LeafEntry) → Move → Type 0
IsGot inst (walk.Ready (Some f)) move = IsFound inst f move
IsGot inst (walk.Ready None) move = move ≡ NoRecord
IsGot inst w move = move ≡ question_of w

-- the next row
abbrev pub IsNext : Instance → Walk (Option LeafEntry) → Move → Type 0
IsNext inst (walk.Ready (Some f)) move = IsFound inst f move
IsNext inst (walk.Ready None) move = move ≡ End
IsNext inst w move = move ≡ question_of w
