-- What the calls of an attachment answer, and what they make of the pages.
use Rattle.std.specs.Prelude.{◌≡◌, ℕ, ◌+◌, ◌<◌, ◌≤◌, ◌==◌, max, Bool, true, false, cond, not, ◌&&◌, List, [], length, All, Option, Some, None}
use Rattle.std.specs.Ordering.{is_lt}
use Rattle.std.specs.List.{find as first}
use Rattle.sb_value.specs.Order.{bytes_cmp}
use Rattle.sb_rule.specs.declared.action.Action.{Action}
use Rattle.sb_rule.specs.declared.change.Change.{Change}
use Rattle.sb_rule.specs.declared.change.Change.TheVariants as change
use Rattle.sb_rule.specs.declared.rule.Rule.{Rule}
use Rattle.sb_rule.specs.declared.rule.Rule.TheVariants.{TreeIndex, Check, Refers}
use Rattle.sb_forms.specs.Buckets.{first_buckets, next_buckets}
use Rattle.sb_forms.specs.Changes.{changed, changed_rows}
use Rattle.sb_forms.specs.Content.{Content, content, page_content}
use Rattle.sb_forms.specs.Db.{Key, Row, Rows, Db, row_at, rows_at, with_row, with_rows}
use Rattle.sb_forms.specs.Images.{Entry, is_before}
use Rattle.sb_forms.specs.Keys.{is_record_key}
use Rattle.sb_forms.specs.Lawful.{AreRows}
use Rattle.sb_forms.specs.Rules.{admits, follows, late_actions, late_checks, holds, entry_fails}
use Rattle.sb_forms.specs.Pages.{Pages, new_pages}
use Rattle.sb_ctx.specs.declared.instance.Instance.{Instance}
use Rattle.sb_ctx.specs.declared.calls.AttachCall.{AttachCall}
use Rattle.sb_ctx.specs.declared.calls.AttachCall.TheVariants as call
use Rattle.sb_ctx.specs.declared.moves.Move.{Move}
use Rattle.sb_ctx.specs.declared.moves.Move.TheVariants.{Done, Acts, Need, Fresh, After, Find as Finds, Veto, Entry as Entered, Sums as Summed, Hits, End, Broken, NoMemory}
use Rattle.sb_ctx.specs.View.{View, given_at, found_of, dropped, edits_of, HoldsPart, FoundIn, stored}
use Rattle.sb_ctx.specs.Sized.{IsCtx}
use Rattle.sb_ctx.specs.MethodAnswers.{HasRoom, AsksFor as AsksForPages}
use Rattle.sb_ctx.specs.Attachment.{Attachment, StandsOn, IsChangeOf, keeps_pages}

-- ---- what may be asked for: only what isn't held, and at most eight finds
abbrev pub AsksFor : View → Move → Type 0
AsksFor c (Finds relation columns values) = (found_of c relation columns values ≡ None) × (length c.found < 8)
AsksFor c move = AsksForPages c move

-- a page that is called broken is one that may be, as it was given
abbrev pub IsBroken : Attachment → Instance → View → Move → Type 0
IsBroken a inst c (Broken n) = a.may_break inst (given_at c) n ≡ true
IsBroken a inst c move = Unit {0}

-- ---- what may end a call, whatever the pages hold: a question, want of memory, or one of the ends of the call
abbrev pub MayEnd : AttachCall → Move → Type 0
MayEnd c (Need n) = Unit {0}
MayEnd c Fresh = Unit {0}
MayEnd c (After n) = Unit {0}
MayEnd c (Finds relation columns values) = Unit {0}
MayEnd c (Broken n) = Unit {0}
MayEnd c NoMemory = Unit {0}
MayEnd call.Prepare Done = Unit {0}
MayEnd (call.Build key row) Done = Unit {0}
MayEnd (call.Build key row) Veto = Unit {0}
MayEnd (call.Changed change) Done = Unit {0}
MayEnd (call.Changed change) (Acts now late checks) = Unit {0}
MayEnd (call.Changed change) Veto = Unit {0}
MayEnd (call.Late entry) Done = Unit {0}
MayEnd (call.Late entry) Veto = Unit {0}
MayEnd (call.NextEntry low above) (Entered first second) = is_record_key second ≡ true
MayEnd (call.NextEntry low above) End = Unit {0}
MayEnd call.Sums (Summed sums) = Unit {0}
MayEnd (call.Seek query) (Hits keys) = All (λ k. is_record_key k ≡ true) keys
MayEnd c move = ⊥

-- ---- contents
-- the pages hold this content
abbrev pub Holds : Attachment → Instance → Pages → Content → Type 0
Holds a inst P content = a.content inst P ≡ Some content

-- the pages are formed
abbrev pub IsFormed : Attachment → Instance → Pages → Type 0
IsFormed a inst P = (content : Content) × Holds a inst P content

-- the content of its pages that the rule has over a database, in so many buckets
abbrev pub content_over : Attachment → Instance → Rule → Db → ℕ → Content
content_over a inst rule db buckets = page_content (Some a.rules) db inst.relation rule buckets

-- that over no rows
abbrev pub first_content : Attachment → Instance → Rule → Db → Content
first_content a inst rule db = content (Some a.rules) (with_rows db inst.relation []) inst.relation rule (first_buckets rule)

-- that over the rows that are built
abbrev pub content_over_rows : Attachment → Instance → Rule → Db → Rows → ℕ → Content
content_over_rows a inst rule db built buckets = content_over a inst rule (with_rows db inst.relation built) buckets

-- that over the rows that are built and one more
abbrev pub content_with : Attachment → Instance → Rule → Db → Rows → ℕ → Key → Row → Content
content_with a inst rule db built buckets key row =
    let rows = with_row built key row in content_over_rows a inst rule db rows (next_buckets rule (change.Insert key row) rows buckets)

-- that over a changed database
abbrev pub content_after : Attachment → Instance → Rule → Db → ℕ → Change → Content
content_after a inst rule db buckets c =
    content_over a inst rule (changed db inst.relation c) (next_buckets rule c (changed_rows (rows_at db inst.relation) c) buckets)

-- ---- what the calls presuppose
-- the pages of a new instance; one without pages of its own has none
abbrev pub pages_of_new : Attachment → Instance → Pages
pages_of_new a inst n = cond (keeps_pages a.rules.code) (new_pages inst.root n) []

-- these rows are some of the others, without the row of this key
pub record AreBuilt (rows built : Rows) (key : Key) (row : Row) : Type 0 where
  pub of : (k : Key) (r : Row) → row_at built k ≡ Some r → row_at rows k ≡ Some r
  pub new : row_at built key ≡ None
  pub next : row_at rows key ≡ Some row

-- the pages hold the content over the rows built so far, and this row comes next
pub record BeforeBuild (a : Attachment) (inst : Instance) (rule : Rule) (db : Db) (built : Rows) (buckets : ℕ) (key : Key) (row : Row) (c : View) (P : Pages) : Type 0 where
  pub of : AreBuilt (rows_at db inst.relation) built key row
  pub lawful : AreRows inst.schema built
  pub found : FoundIn c db
  pub content : Holds a inst P (content_over_rows a inst rule db built buckets)

-- the pages hold the content over the rows before a change of them
pub record BeforeChange (a : Attachment) (inst : Instance) (rule : Rule) (db : Db) (buckets : ℕ) (change : Change) (c : View) (P : Pages) : Type 0 where
  pub of : IsChangeOf (rows_at db inst.relation) change
  pub lawful : AreRows inst.schema (changed_rows (rows_at db inst.relation) change)
  pub found : FoundIn c (changed db inst.relation change)
  pub content : Holds a inst P (content_over a inst rule db buckets)

-- the pages hold the content over the rows as they stand
pub record BeforeLate (a : Attachment) (inst : Instance) (rule : Rule) (db : Db) (buckets : ℕ) (c : View) (P : Pages) : Type 0 where
  pub found : FoundIn c db
  pub content : Holds a inst P (content_over a inst rule db buckets)

-- what is so of each rule and database that the instance stands on
abbrev pub OverDb : Attachment → Instance → (Rule → Db → Type 0) → Type 0
OverDb a inst IsSo = (rule : Rule) (db : Db) → StandsOn a inst rule db → IsSo rule db

-- ---- the ends of each call. A move that isn't listed doesn't come.
abbrev pub Prepared : Attachment → Instance → Rule → Db → Pages → Move → Type 0
Prepared a inst rule db after Done = Holds a inst after (first_content a inst rule db)
Prepared a inst rule db after move = ⊥

-- a rule that is tested at once
abbrev pub at_once : Rule → Rule
at_once (Check pred deferred) = Check pred false
at_once (Refers side columns other others mode deferred) = Refers side columns other others mode false
at_once rule = rule

-- A row that is built is admitted as an insert: a unique index looks at the rows that it has built and this one, any other rule at the whole
-- database.
abbrev pub admits_built : Attachment → Instance → Rule → Db → Rows → Change → Bool
admits_built a inst (TreeIndex columns unique) db built c =
    admits (Some a.rules) (with_rows db inst.relation (changed_rows built c)) inst.relation (TreeIndex columns unique) c
admits_built a inst rule db built c = admits (Some a.rules) db inst.relation (at_once rule) c

-- the row is admitted, and the pages hold the content with it; or it isn't, and they are formed
abbrev pub Built : Attachment → Instance → Rule → Db → Rows → ℕ → Key → Row → Pages → Move → Type 0
Built a inst rule db built buckets key row after Done =
    (admits_built a inst rule db built (change.Insert key row) ≡ true) × Holds a inst after (content_with a inst rule db built buckets key row)
Built a inst rule db built buckets key row after Veto = (admits_built a inst rule db built (change.Insert key row) ≡ false) × IsFormed a inst after
Built a inst rule db built buckets key row after move = ⊥

-- a change is admitted over the changed database, whose content the pages hold then, and these are its actions and entries
pub record Admitted (a : Attachment) (inst : Instance) (rule : Rule) (db : Db) (buckets : ℕ) (c : Change) (after : Pages)
    (now late : List Action) (checks : List (List ℕ)) : Type 0 where
  pub admitted : admits (Some a.rules) (changed db inst.relation c) inst.relation rule c ≡ true
  pub holds : Holds a inst after (content_after a inst rule db buckets c)
  pub now_are : now ≡ follows (changed db inst.relation c) inst.relation rule c
  pub late_are : late ≡ late_actions (changed db inst.relation c) inst.relation rule c
  pub checks_are : checks ≡ late_checks (changed db inst.relation c) inst.relation rule c

-- the change is admitted; or it isn't, and the pages are formed
abbrev pub Changed : Attachment → Instance → Rule → Db → ℕ → Change → Pages → Move → Type 0
Changed a inst rule db buckets c after Done = Admitted a inst rule db buckets c after [] [] []
Changed a inst rule db buckets c after (Acts now late checks) = Admitted a inst rule db buckets c after now late checks
Changed a inst rule db buckets c after Veto = (admits (Some a.rules) (changed db inst.relation c) inst.relation rule c ≡ false) × IsFormed a inst after
Changed a inst rule db buckets c after move = ⊥

-- an entry is vetoed only where the rule doesn't hold, and where the entry names what fails
abbrev pub Late : Attachment → Instance → Rule → Db → List ℕ → Move → Type 0
Late a inst rule db entry Done = entry_fails db inst.relation rule entry ≡ false
Late a inst rule db entry Veto = holds (Some a.rules) db inst.relation rule ≡ false
Late a inst rule db entry move = ⊥

-- the first part of the entry is low or greater, and the entry lies above this other one, where there is one
abbrev pub is_entry_above : Key → Option Entry → Entry → Bool
is_entry_above low None e = not (is_lt (bytes_cmp e.0 low))
is_entry_above low (Some after) e = not (is_lt (bytes_cmp e.0 low)) && is_before after e

abbrev pub NextIs : Option Entry → Move → Type 0
NextIs (Some e) move = move ≡ Entered e.0 e.1
NextIs None move = move ≡ End

-- a call on these pages that comes to its end, and the pages after it
abbrev pub Ends : Attachment → Instance → AttachCall → View → Pages → Pages → Move → Type 0
Ends a inst call.Prepare c P after move = ((n : ℕ) → P n ≡ pages_of_new a inst n) → OverDb a inst (λ rule db. Prepared a inst rule db after move)
Ends a inst (call.Build key row) c P after move = OverDb a inst (λ rule db.
    (built : Rows) (buckets : ℕ) → BeforeBuild a inst rule db built buckets key row c P → Built a inst rule db built buckets key row after move)
Ends a inst (call.Changed change) c P after move = OverDb a inst (λ rule db.
    (buckets : ℕ) → BeforeChange a inst rule db buckets change c P → Changed a inst rule db buckets change after move)
Ends a inst (call.Late entry) c P after move = OverDb a inst (λ rule db.
    (buckets : ℕ) → BeforeLate a inst rule db buckets c P → Late a inst rule db entry move)
Ends a inst (call.NextEntry low above) c P after move = (content : Content) → Holds a inst P content → NextIs (first (is_entry_above low above) content.entries) move
Ends a inst call.Sums c P after move = (content : Content) → Holds a inst P content → move ≡ Summed content.sums
Ends a inst (call.Seek query) c P after move = (content : Content) → Holds a inst P content → move ≡ Hits (a.hits content query)

-- when an instance is prepared, no page of a new one is called broken
abbrev pub NotNew : Attachment → Instance → AttachCall → Pages → Type 0
NotNew a inst call.Prepare P = ((n : ℕ) → P n ≡ pages_of_new a inst n) → ⊥
NotNew a inst c P = Unit {0}

-- A call that asks for something has no end yet, and want of memory is free. A page is called broken by its own condition too.
abbrev pub Answers : Attachment → Instance → AttachCall → View → Pages → Pages → Move → Type 0
Answers a inst call c P after (Need n) = Unit {0}
Answers a inst call c P after Fresh = Unit {0}
Answers a inst call c P after (After n) = Unit {0}
Answers a inst call c P after (Finds relation columns values) = Unit {0}
Answers a inst call c P after (Broken n) = NotNew a inst call P
Answers a inst call c P after NoMemory = Unit {0}
Answers a inst call c P after move = Ends a inst call c P after move

-- ---- what a call takes
-- The most pages of the instance during a call, with the fresh ones: as many as either content takes. A join adds many entries in one change, and takes its cost beside the content before it.
abbrev pub most_pages : Attachment → AttachCall → Content → Content → ℕ
most_pages a c before after = cond (a.rules.code == 3) (a.bound before + a.cost c before after) (max (a.bound before) (a.bound after))

-- a page that is asked for is one of the call's path
abbrev pub IsOnPath : Attachment → Instance → AttachCall → Pages → Move → Type 0
IsOnPath a inst c P (Need n) = a.path inst P c n ≡ true
IsOnPath a inst c P move = Unit {0}

-- from pages of one content to those of another it stays on its path, within its room and within its cost
pub record Costs (a : Attachment) (inst : Instance) (c : AttachCall) (P : Pages) (before after : Content) (new : View) (move : Move) : Type 0 where
  pub path : IsOnPath a inst c P move
  pub room : HasRoom (most_pages a c before after) P new move
  pub edits : edits_of new ≤ a.cost c before after

-- the same of each database that it stands on; a reading call is on its path
abbrev pub Spends : Attachment → Instance → AttachCall → View → Pages → View → Move → Type 0
Spends a inst call.Prepare c P new move = ((n : ℕ) → P n ≡ pages_of_new a inst n) → OverDb a inst (λ rule db.
    Costs a inst call.Prepare P (first_content a inst rule db) (first_content a inst rule db) new move)
Spends a inst (call.Build key row) c P new move = OverDb a inst (λ rule db. (built : Rows) (buckets : ℕ) → BeforeBuild a inst rule db built buckets key row c P
    → Costs a inst (call.Build key row) P (content_over_rows a inst rule db built buckets) (content_with a inst rule db built buckets key row) new move)
Spends a inst (call.Changed change) c P new move = OverDb a inst (λ rule db. (buckets : ℕ) → BeforeChange a inst rule db buckets change c P
    → Costs a inst (call.Changed change) P (content_over a inst rule db buckets) (content_after a inst rule db buckets change) new move)
Spends a inst (call.Late entry) c P new move = OverDb a inst (λ rule db. (buckets : ℕ) → BeforeLate a inst rule db buckets c P → IsOnPath a inst (call.Late entry) P move)
Spends a inst (call.NextEntry low above) c P new move = IsFormed a inst P → IsOnPath a inst (call.NextEntry low above) P move
Spends a inst call.Sums c P new move = IsFormed a inst P → IsOnPath a inst call.Sums P move
Spends a inst (call.Seek query) c P new move = IsFormed a inst P → IsOnPath a inst (call.Seek query) P move

-- A changing call: what was given stays as it was given, it asks only for what isn't held, it ends in one of its ways, and over all pages of which it holds a part it answers as the database says.
pub record Changes (a : Attachment) (inst : Instance) (call : AttachCall) (old new : View) (move : Move) : Type 0 where
  pub given : dropped new ≡ old
  pub asks : AsksFor new move
  pub broken : IsBroken a inst old move
  pub ends : MayEnd call move
  pub answers : (P : Pages) → HoldsPart old P → Answers a inst call old P (stored new P) move
  pub spends : IsCtx new → (P : Pages) → HoldsPart old P → Spends a inst call old P new move

-- a reading call asks for no fresh page; one of the content asks for no find either
abbrev pub Reads : AttachCall → Move → Type 0
Reads call Fresh = ⊥
Reads (call.NextEntry low above) (Finds relation columns values) = ⊥
Reads call.Sums (Finds relation columns values) = ⊥
Reads (call.Seek query) (Finds relation columns values) = ⊥
Reads call move = Unit {0}

-- A reading call: the same, and it makes nothing of the pages.
pub record Looks (a : Attachment) (inst : Instance) (call : AttachCall) (old new : View) (move : Move) : Type 0 where
  pub same : new ≡ old
  pub reads : Reads call move
  pub asks : AsksFor old move
  pub broken : IsBroken a inst old move
  pub ends : MayEnd call move
  pub answers : (P : Pages) → HoldsPart old P → Answers a inst call old P P move
  pub spends : (P : Pages) → HoldsPart old P → Spends a inst call old P old move
