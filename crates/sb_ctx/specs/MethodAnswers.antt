-- What the calls of a storage method answer, and what they make of the pages.
use Rattle.std.specs.Prelude.{◌≡◌, ℕ, ◌+◌, ◌-◌, ◌<◌, ◌≤◌, max, Bool, true, [], length, Option, Some, None, IsSome}
use Rattle.std.specs.Ordering.{is_lt}
use Rattle.std.specs.List.{find as first}
use Rattle.sb_value.specs.Order.{bytes_cmp}
use Rattle.sb_forms.specs.Db.{Key, Row, Rows, row_at, with_row, without_row}
use Rattle.sb_forms.specs.Keys.{NewKeys, AnyOf, Just, Taken, NoGreater, keying_of, new_keys, is_record_key}
use Rattle.sb_forms.specs.Lawful.{IsRow}
use Rattle.sb_forms.specs.Pages.{Pages, page_count, new_pages}
use Rattle.sb_ctx.specs.declared.instance.Instance.{Instance}
use Rattle.sb_ctx.specs.declared.calls.MethodCall.{MethodCall}
use Rattle.sb_ctx.specs.declared.calls.MethodCall.TheVariants as call
use Rattle.sb_ctx.specs.declared.moves.Move.{Move}
use Rattle.sb_ctx.specs.declared.moves.Move.TheVariants.{Done, Need, Fresh, After, NoRecord, Duplicate, Range, Key as Keyed, Row as Rowed, End, Broken, NoMemory}
use Rattle.sb_ctx.specs.View.{View, given_at, page_of, next_of, free_page, fresh_pages, dropped, edits_of, HoldsPart, stored}
use Rattle.sb_ctx.specs.Sized.{IsCtx}
use Rattle.sb_ctx.specs.Method.{Method, code_of}

-- ---- what may be asked for: only what isn't held; a page that is called broken is held
abbrev pub AsksFor : View → Move → Type 0
AsksFor c (Need n) = page_of c n ≡ None
AsksFor c Fresh = free_page c ≡ None
AsksFor c (After n) = next_of c n ≡ None
AsksFor c (Broken n) = IsSome (page_of c n)
AsksFor c _ = Unit {0}

-- a page that is called broken is one that may be, as it was given
abbrev pub IsBroken : Method → Instance → View → Move → Type 0
IsBroken m inst c (Broken n) = m.may_break inst (given_at c) n ≡ true
IsBroken m inst c move = Unit {0}

-- ---- what may end a call, whatever the pages hold
-- a row that the relation may have, under a record key
pub record IsRowOf (inst : Instance) (key : Key) (row : Row) : Type 0 where
  pub is_key : is_record_key key ≡ true
  pub is_row : IsRow inst.schema row

-- A question, want of memory, or one of the ends of the call. A storage method asks no find and vetoes nothing.
abbrev pub MayEnd : Instance → MethodCall → Move → Type 0
MayEnd inst c (Need n) = Unit {0}
MayEnd inst c Fresh = Unit {0}
MayEnd inst c (After n) = Unit {0}
MayEnd inst c (Broken n) = Unit {0}
MayEnd inst c NoMemory = Unit {0}
MayEnd inst call.Prepare Done = Unit {0}
MayEnd inst (call.Insert row) (Keyed key) = is_record_key key ≡ true
MayEnd inst (call.Insert row) Duplicate = Unit {0}
MayEnd inst (call.Insert row) Range = Unit {0}
MayEnd inst (call.Delete at) Done = Unit {0}
MayEnd inst (call.Delete at) NoRecord = Unit {0}
MayEnd inst (call.Update at row) (Keyed key) = is_record_key key ≡ true
MayEnd inst (call.Update at row) NoRecord = Unit {0}
MayEnd inst (call.Update at row) Duplicate = Unit {0}
MayEnd inst (call.Get at) (Rowed key row) = IsRowOf inst key row
MayEnd inst (call.Get at) NoRecord = Unit {0}
MayEnd inst (call.Next low) (Rowed key row) = IsRowOf inst key row
MayEnd inst (call.Next low) End = Unit {0}
MayEnd inst c move = ⊥

-- the pages hold these rows
abbrev pub Holds : Method → Instance → Pages → Rows → Type 0
Holds m inst P rows = m.read inst P ≡ Some rows

-- what is so of the rows that the pages hold, where they are formed
abbrev pub OfRows : Method → Instance → Pages → (Rows → Type 0) → Type 0
OfRows m inst P IsSo = (rows : Rows) → Holds m inst P rows → IsSo rows

-- ---- the ends of each call. A move that isn't listed doesn't come.
-- a row gets one of these keys, or is refused and the rows stay
abbrev pub Gets : Method → Instance → NewKeys → Rows → (Key → Rows) → Pages → Move → Type 0
Gets m inst (AnyOf may) rows with_key after (Keyed key) = (may key ≡ true) × Holds m inst after (with_key key)
Gets m inst (Just given) rows with_key after (Keyed key) = (key ≡ given) × Holds m inst after (with_key key)
Gets m inst Taken rows with_key after Duplicate = Holds m inst after rows
Gets m inst NoGreater rows with_key after Range = Holds m inst after rows
Gets m inst keys rows with_key after move = ⊥

-- an instance without rows is made
abbrev pub Prepared : Method → Instance → Pages → Move → Type 0
Prepared m inst after Done = Holds m inst after []
Prepared m inst after move = ⊥

abbrev pub Inserted : Method → Instance → Row → Rows → Pages → Move → Type 0
Inserted m inst row rows = Gets m inst (new_keys (keying_of m.rules.code) rows None (code_of inst row)) rows (λ key. with_row rows key row)

-- the row of the key goes, where there is one
abbrev pub Deleted : Method → Instance → Key → Option Row → Rows → Pages → Move → Type 0
Deleted m inst key (Some old) rows after Done = Holds m inst after (without_row rows key)
Deleted m inst key None rows after NoRecord = Holds m inst after rows
Deleted m inst key found rows after move = ⊥

-- the row of the key is another one, where there is one
abbrev pub Updated : Method → Instance → Key → Row → Option Row → Rows → Pages → Move → Type 0
Updated m inst key row None rows after NoRecord = Holds m inst after rows
Updated m inst key row None rows after move = ⊥
Updated m inst key row (Some old) rows after move =
    Gets m inst (new_keys (keying_of m.rules.code) rows (Some key) (code_of inst row)) rows (λ new. with_row (without_row rows key) new row) after move

-- the row of the key
abbrev pub Got : Key → Option Row → Move → Type 0
Got key (Some row) move = move ≡ Rowed key row
Got key None move = move ≡ NoRecord

-- a record key above a low one, or any
abbrev pub is_above : Option Key → Key → Bool
is_above None key = true
is_above (Some low) key = is_lt (bytes_cmp low key)

-- the first row whose key is above the low one
abbrev pub row_above : Option Key → Rows → Option (Key × Row)
row_above low rows = first (λ row. is_above low row.0) rows

abbrev pub NextIs : Option (Key × Row) → Move → Type 0
NextIs (Some row) move = move ≡ Rowed row.0 row.1
NextIs None move = move ≡ End

-- a call on these pages that comes to its end, and the pages after it
abbrev pub Ends : Method → Instance → MethodCall → Pages → Pages → Move → Type 0
Ends m inst call.Prepare P after move = ((n : ℕ) → P n ≡ new_pages inst.root n) → Prepared m inst after move
Ends m inst (call.Insert row) P after move = OfRows m inst P (λ rows. Inserted m inst row rows after move)
Ends m inst (call.Delete key) P after move = OfRows m inst P (λ rows. Deleted m inst key (row_at rows key) rows after move)
Ends m inst (call.Update key row) P after move = OfRows m inst P (λ rows. Updated m inst key row (row_at rows key) rows after move)
Ends m inst (call.Get key) P after move = OfRows m inst P (λ rows. Got key (row_at rows key) move)
Ends m inst (call.Next low) P after move = OfRows m inst P (λ rows. NextIs (row_above low rows) move)

-- when an instance is prepared, no page of a new one is called broken
abbrev pub NotNew : Instance → MethodCall → Pages → Type 0
NotNew inst call.Prepare P = ((n : ℕ) → P n ≡ new_pages inst.root n) → ⊥
NotNew inst c P = Unit {0}

-- A call that asks for something has no end yet, and want of memory is free. A page is called broken by its own condition too.
abbrev pub Answers : Method → Instance → MethodCall → Pages → Pages → Move → Type 0
Answers m inst c P after (Need n) = Unit {0}
Answers m inst c P after Fresh = Unit {0}
Answers m inst c P after (After n) = Unit {0}
Answers m inst c P after (Broken n) = NotNew inst c P
Answers m inst c P after NoMemory = Unit {0}
Answers m inst c P after move = Ends m inst c P after move

-- ---- what a call takes
-- how many rows there are after a call
abbrev pub rows_after : MethodCall → ℕ → ℕ
rows_after (call.Insert row) rows = rows + 1
rows_after (call.Delete key) rows = rows - 1
rows_after c rows = rows

-- the most pages of the instance during a call, with the fresh ones
abbrev pub most_pages : Method → MethodCall → ℕ → ℕ
most_pages m c rows = max (m.bound rows) (m.bound (rows_after c rows))

-- a page that is asked for is one of the call's path
abbrev pub IsOnPath : Method → Instance → MethodCall → Pages → Move → Type 0
IsOnPath m inst c P (Need n) = m.path inst P c n ≡ true
IsOnPath m inst c P move = Unit {0}

-- a fresh page is asked for only where it is within the bound
abbrev pub HasRoom : ℕ → Pages → View → Move → Type 0
HasRoom most P c Fresh = page_count P + length (fresh_pages c) < most
HasRoom most P c move = Unit {0}

-- a row gets one of these keys
abbrev pub IsGiven : NewKeys → Type 0
IsGiven (AnyOf may) = Unit {0}
IsGiven (Just key) = Unit {0}
IsGiven Taken = ⊥
IsGiven NoGreater = ⊥

-- the row that a call puts in gets a key
abbrev pub GetsKey : Method → Instance → MethodCall → Rows → Type 0
GetsKey m inst (call.Insert row) rows = IsGiven (new_keys (keying_of m.rules.code) rows None (code_of inst row))
GetsKey m inst (call.Update key row) rows = IsGiven (new_keys (keying_of m.rules.code) rows (Some key) (code_of inst row))
GetsKey m inst c rows = Unit {0}

-- a fresh page is asked for only where it does
abbrev pub TakesFor : Method → Instance → MethodCall → Rows → Move → Type 0
TakesFor m inst c rows Fresh = GetsKey m inst c rows
TakesFor m inst c rows move = Unit {0}

-- the pages before a call hold these rows; those of a new instance hold none
abbrev pub Before : Method → Instance → MethodCall → Pages → Rows → Type 0
Before m inst call.Prepare P rows = ((n : ℕ) → P n ≡ new_pages inst.root n) × (rows ≡ [])
Before m inst c P rows = Holds m inst P rows

-- how many pages a call edits at most that ends so: none where the row is refused
abbrev pub cost_of : Method → MethodCall → Rows → Move → ℕ
cost_of m c rows Duplicate = 0
cost_of m c rows Range = 0
cost_of m c rows NoRecord = 0
cost_of m c rows move = m.cost c rows

-- over pages that hold these rows it stays on its path, within its bound and within its cost, and takes pages only for a row that is kept
pub record Spends (m : Method) (inst : Instance) (c : MethodCall) (P : Pages) (rows : Rows) (new : View) (move : Move) : Type 0 where
  pub path : IsOnPath m inst c P move
  pub room : HasRoom (most_pages m c (length rows)) P new move
  pub gets : TakesFor m inst c rows move
  pub edits : edits_of new ≤ cost_of m c rows move

-- a call that refuses its row edits nothing
abbrev pub IsIdleIfRefused : View → Move → Type 0
IsIdleIfRefused new Duplicate = edits_of new ≤ 0
IsIdleIfRefused new Range = edits_of new ≤ 0
IsIdleIfRefused new NoRecord = edits_of new ≤ 0
IsIdleIfRefused new move = Unit {0}

-- A changing call: what was given stays as it was given, it asks only for what isn't held, it ends in one of its ways, and over all pages of which it holds a part it answers as the rows say.
pub record Changes (m : Method) (inst : Instance) (c : MethodCall) (old new : View) (move : Move) : Type 0 where
  pub given : dropped new ≡ old
  pub asks : AsksFor new move
  pub broken : IsBroken m inst old move
  pub ends : MayEnd inst c move
  pub answers : (P : Pages) → HoldsPart old P → Answers m inst c P (stored new P) move
  pub spends : IsCtx new → (P : Pages) → HoldsPart old P → (rows : Rows) → Before m inst c P rows → Spends m inst c P rows new move

-- a reading call asks for no fresh page
abbrev pub Reads : Move → Type 0
Reads Fresh = ⊥
Reads move = Unit {0}

-- A reading call: the same, and it makes nothing of the pages.
pub record Looks (m : Method) (inst : Instance) (c : MethodCall) (old new : View) (move : Move) : Type 0 where
  pub same : new ≡ old
  pub reads : Reads move
  pub asks : AsksFor old move
  pub broken : IsBroken m inst old move
  pub ends : MayEnd inst c move
  pub answers : (P : Pages) → HoldsPart old P → Answers m inst c P P move
  pub path : (P : Pages) → HoldsPart old P → (rows : Rows) → Holds m inst P rows → IsOnPath m inst c P move
