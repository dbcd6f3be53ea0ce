-- What holds of every box, beside what its calls promise.
use Rattle.std.specs.Prelude.{◌≡◌, ◌≢◌, ◌+◌, ◌*◌, ◌<◌, ◌≤◌, ◌==◌, ◌&&◌, ℕ, Bool, true, false, cond, List, [], ◌∷◌, length, Some}
use Rattle.std.specs.Ordering.{is_lt}
use Rattle.sb_value.specs.declared.value.Value.{Value}
use Rattle.sb_value.specs.Order.{bytes_cmp}
use Rattle.sb_rule.specs.declared.change.Change.{Change}
use Rattle.sb_rule.specs.declared.change.Change.TheVariants as change
use Rattle.sb_forms.specs.Content.{Content, no_content, are_rising}
use Rattle.sb_forms.specs.Db.{Key, Row, Rows, rows_at, with_rows}
use Rattle.sb_forms.specs.Lawful.{AreRows}
use Rattle.sb_fold.specs.Bounds.{plain_bound}
use Rattle.sb_fold.specs.Costs.{prepare_cost, rule_cost, tree_cost}
use Rattle.sb_fold.specs.Extensions.{Extensions}
use Rattle.sb_forms.specs.Pages.{Pages, ArePages, page_count}
use Rattle.sb_forms.specs.HeapPages.{heap_rows}
use Rattle.sb_forms.specs.TreePages.{tree_rows}
use Rattle.sb_ctx.specs.declared.instance.Instance.{Instance}
use Rattle.sb_ctx.specs.declared.calls.AttachCall.{AttachCall}
use Rattle.sb_ctx.specs.declared.calls.AttachCall.TheVariants as ask
use Rattle.sb_ctx.specs.declared.calls.MethodCall.{MethodCall}
use Rattle.sb_ctx.specs.declared.calls.MethodCall.TheVariants as call
use Rattle.sb_ctx.specs.View.{HeldPages, AreSomeOf}
use Rattle.sb_ctx.specs.Method.{Method}
use Rattle.sb_ctx.specs.Attachment.{Attachment, IsChangeOf, keeps_pages}
use Rattle.sb_ctx.specs.AttachAnswers.{AreBuilt, OverDb, content_after, content_over, content_over_rows, content_with, first_content}

-- the storage method of code 1 is durable, keeps its rows in the pages of a heap, and edits ten of them at most
pub record IsHeap (m : Method) : Type 0 where
  pub durable : m.rules.durable ≡ true
  pub rows : (inst : Instance) (P : Pages) → m.read inst P ≡ heap_rows inst.root inst.schema P
  pub cost : (c : MethodCall) (rows : Rows) → m.cost c rows ≤ 10

-- an update is a removal and an insertion; any other call is one of them at most
abbrev pub operations_of : MethodCall → ℕ
operations_of (call.Update key row) = 2
operations_of c = 1

-- The storage method of code 2 is durable, keeps its rows in the pages of a tree, and edits as many of them at most as these operations do.
pub record IsTree (m : Method) : Type 0 where
  pub durable : m.rules.durable ≡ true
  pub rows : (inst : Instance) (P : Pages) → m.read inst P ≡ tree_rows inst.root inst.schema inst.key P
  pub cost : (c : MethodCall) (rows : Rows) → m.cost c rows ≤ operations_of c * tree_cost (length rows)

-- A method with a code of ours takes two pages for each row and three more at most, and edits one page of a new instance.
pub record IsStandard (m : Method) : Type 0 where
  pub bound : (rows : ℕ) → m.bound rows ≤ plain_bound rows
  pub prepares : (rows : Rows) → m.cost call.Prepare rows ≤ 1

-- Formed pages hold rows of the relation, fewer than 2 to the 48th; the root is one of them, they are within the bound, and none of them may be called broken.
pub record HoldRows (m : Method) (inst : Instance) (P : Pages) (rows : Rows) : Type 0 where
  pub lawful : AreRows inst.schema rows
  pub root : P inst.root ≢ []
  pub bound : ArePages P → page_count P ≤ m.bound (length rows)
  pub whole : (held : HeldPages) (n : ℕ) → AreSomeOf held P → m.may_break inst held n ≡ false

-- what is so of formed pages, and of a method with a code of ours
pub record IsMethod (m : Method) : Type 0 where
  pub heap : m.rules.code ≡ 1 → IsHeap m
  pub tree : m.rules.code ≡ 2 → IsTree m
  pub standard : m.rules.code < 1000 → IsStandard m
  pub formed : (inst : Instance) (P : Pages) (rows : Rows) → m.read inst P ≡ Some rows → HoldRows m inst P rows

-- Formed pages hold rising entries; the root is one of them where they have an owner, they are within the bound, and none of them may be called broken.
pub record HoldContent (a : Attachment) (inst : Instance) (P : Pages) (content : Content) : Type 0 where
  pub rising : are_rising content.entries ≡ true
  pub root : inst.owner ≢ 0 → P inst.root ≢ []
  pub bound : ArePages P → page_count P ≤ a.bound content
  pub whole : (held : HeldPages) (n : ℕ) → AreSomeOf held P → a.may_break inst held n ≡ false

-- the most pages that a code of ours takes for a content: two for each entry and three more, and in an index by hashing two for each bucket
abbrev pub standard_bound : ℕ → Content → ℕ
standard_bound code content = cond (keeps_pages code) (plain_bound (length content.entries) + cond (code == 2) (2 * content.buckets) 0) 0

-- each key is below the next one
abbrev pub are_rising_keys : List Key → Bool
are_rising_keys [] = true
are_rising_keys (k ∷ []) = true
are_rising_keys (k ∷ next ∷ keys) = is_lt (bytes_cmp k next) && are_rising_keys (next ∷ keys)

-- An attachment with a code of ours that keeps pages edits no more of them than the definitions charge for its rule, with two pages for a new instance.
pub record IsCharged (a : Attachment) : Type 0 where
  pub prepares : (ext : Extensions) (inst : Instance) → OverDb a inst (λ rule db.
      2 + a.cost ask.Prepare (first_content a inst rule db) (first_content a inst rule db) ≤ prepare_cost ext inst.schema rule)
  pub builds : (ext : Extensions) (inst : Instance) → OverDb a inst (λ rule db.
      (built : Rows) (buckets : ℕ) (key : Key) (row : Row) → AreBuilt (rows_at db inst.relation) built key row
      → a.cost (ask.Build key row) (content_over_rows a inst rule db built buckets) (content_with a inst rule db built buckets key row)
      ≤ rule_cost ext (with_rows db inst.relation built) inst.relation rule buckets (change.Insert key row))
  pub changes : (ext : Extensions) (inst : Instance) → OverDb a inst (λ rule db.
      (buckets : ℕ) (c : Change) → IsChangeOf (rows_at db inst.relation) c
      → a.cost (ask.Changed c) (content_over a inst rule db buckets) (content_after a inst rule db buckets c)
      ≤ rule_cost ext db inst.relation rule buckets c)

-- The same of an attachment, whose searches find rising keys. One that keeps no pages is formed without an owner and without pages, has no content, and edits nothing. One that keeps pages edits no more of them than is charged, where its code is one of ours; and to build over a row is charged no more than to insert it.
pub record IsAttachment (a : Attachment) : Type 0 where
  pub pageless : keeps_pages a.rules.code ≡ false → (inst : Instance) (P : Pages) → inst.owner ≡ 0 → ((n : ℕ) → P n ≡ []) → a.content inst P ≡ Some no_content
  pub searches : (content : Content) (query : List Value) → are_rising_keys (a.hits content query) ≡ true
  pub idle : keeps_pages a.rules.code ≡ false → (c : AttachCall) (before after : Content) → a.cost c before after ≡ 0
  pub standard : a.rules.code < 1000 → (content : Content) → a.bound content ≤ standard_bound a.rules.code content
  pub charged : keeps_pages a.rules.code ≡ true → a.rules.code < 1000 → IsCharged a
  pub inserts : (key : Key) (row : Row) (before after : Content) → a.cost (ask.Build key row) before after ≤ a.cost (ask.Changed (change.Insert key row)) before after
  pub formed : (inst : Instance) (P : Pages) (content : Content) → a.content inst P ≡ Some content → HoldContent a inst P content
