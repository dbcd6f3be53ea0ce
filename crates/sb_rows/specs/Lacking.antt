-- Where no page is left for a call.
use Rattle.std.specs.Prelude.{◌≡◌, ℕ, ◌+◌, ◌<◌, true, length}
use Rattle.sb_relation.specs.Db.{Rows}
use Rattle.sb_treemethod.specs.Instance.{Instance}
use Rattle.sb_treemethod.specs.Method.{Method}
use Rattle.sb_treemethod.specs.MethodAnswers.{GetsKey, most_pages}
use Rattle.sb_treemethod.specs.MethodCall.{MethodCall}
use Rattle.sb_treemethod.specs.Pages.{page_count}
use Rattle.sb_treemethod.specs.View.{View, fresh_pages, holds_fresh}
use Rattle.sb_registry.specs.Slots.{Slots, owned}
use Rattle.sb_registry.specs.SpaceFault.{SpaceFault}
use Rattle.sb_registry.specs.SpaceFault.TheVariants.{DataFull, TempFull}

-- Each of the first so many pages is somebody's, or a fresh one that a call of this owner held; with these the owner has fewer than the most that the call may take.
pub record IsShort (s : Slots) (owner most total : ℕ) : Type 0 where
  pub ctx : View
  pub used : (m : ℕ) → m < total → (s m).0 ≡ 0 → holds_fresh ctx m ≡ true
  pub within : page_count (owned s owner) + length (fresh_pages ctx) < most

-- what is so of the number of pages, where want of one is the refusal
abbrev pub WhereShort : SpaceFault → (ℕ → Type 0) → Type 0
WhereShort (DataFull used total) IsSo = IsSo total
WhereShort (TempFull used total) IsSo = IsSo total
WhereShort e IsSo = Unit {0}

-- so it is for a call of a storage method over these rows, and the row that it puts in gets a key
pub record LacksFor (box : Method) (inst : Instance) (call : MethodCall) (rows : Rows) (s : Slots) (total : ℕ) : Type 0 where
  pub short : IsShort s inst.owner (most_pages box call (length rows)) total
  pub gets : GetsKey box inst call rows
