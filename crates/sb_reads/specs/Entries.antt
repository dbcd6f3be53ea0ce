-- Entries that are read one after the other, from a low code to a high one.
use Rattle.std.specs.Prelude.{Bool, true, false, not, ◌&&◌, List, [], Option, Some, None, ℤ}
use Rattle.std.specs.Ordering.{is_lt}
use Rattle.sb_value.specs.Order.{bytes_cmp}
use Rattle.sb_relation.specs.Db.{Key}
use Rattle.sb_relation.specs.Images.{Entry, is_before}
use Rattle.sb_ctx.specs.declared.calls.AttachCall.{AttachCall}
use Rattle.sb_ctx.specs.declared.calls.AttachCall.TheVariants as call
use Rattle.sb_ctx.specs.declared.moves.Move.{Move}
use Rattle.sb_ctx.specs.declared.moves.Move.TheVariants.{Entry as Entered, Sums as Summed, End}
use Rattle.sb_ctx.specs.AttachAnswers.{is_entry_above}

-- a code above the high one, where there is one
abbrev pub is_beyond : Option Key → Key → Bool
is_beyond None code = false
is_beyond (Some high) code = is_lt (bytes_cmp high code)

-- an entry whose code isn't below the low one nor above the high one
abbrev pub is_within : Key → Option Key → Entry → Bool
is_within low high e = is_entry_above low None e && not (is_beyond high e.0)

-- ---- how the calls end
abbrev pub IsEntryOrEnd : Move → Type 0
IsEntryOrEnd (Entered first second) = Unit {0}
IsEntryOrEnd End = Unit {0}
IsEntryOrEnd _ = ⊥

abbrev pub entry_in : Move → Option Entry
entry_in (Entered first second) = Some (first, second)
entry_in move = None

-- an entry that is before it, where there is one
abbrev pub is_behind : Option Entry → Move → Bool
is_behind (Some after) (Entered first second) = is_before after (first, second)
is_behind after move = true

-- whether an entry that is answered to a read of the next one is behind the one of the call
abbrev pub is_risen : AttachCall → Move → Bool
is_risen (call.NextEntry low after) move = is_behind after move
is_risen c move = true

abbrev pub IsSums : Move → Type 0
IsSums (Summed sums) = Unit {0}
IsSums _ = ⊥

abbrev pub sums_in : Move → List ℤ
sums_in (Summed sums) = sums
sums_in move = []
