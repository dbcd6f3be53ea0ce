-- What single steps make of the bytes of a page.
use Rattle.std.specs.Prelude.{ℕ, zero, suc, ◌≡◌, ◌+◌, ◌++◌, ◌<◌, ◌≤◌, List, length, slice_index}
use Rattle.std.specs.Int.{bytes_high_first}
use Rattle.sb_bytes.specs.Field.{number_at}
use Rattle.sb_node.specs.declared.head.Head.{Head}
use Rattle.sb_node.specs.Page.{after_at}

-- where the entry at a place begins, counted from an entry that begins here
abbrev pub start_at : List ℕ → ℕ → ℕ → ℕ
start_at bytes zero at = at
start_at bytes (suc i) at = start_at bytes i (after_at bytes at)

-- an entry in bytes
abbrev pub spell : List ℕ → List ℕ → List ℕ
spell key value = bytes_high_first 2 (length key) ++ bytes_high_first 2 (length value) ++ key ++ value

-- these bytes stand at a place, and else nothing has changed
pub record Wrote (old new : List ℕ) (at : ℕ) (bytes : List ℕ) : Type 0 where
  pub len : length new ≡ length old
  pub here : (j : ℕ) → j < length bytes → slice_index new (at + j) ≡ slice_index bytes j
  pub below : (j : ℕ) → j < at → slice_index new j ≡ slice_index old j
  pub above : (j : ℕ) → at + length bytes ≤ j → slice_index new j ≡ slice_index old j

-- kind, level and the three numbers of this head stand in front, and else nothing has changed
pub record HasFields (old new : List ℕ) (head : Head) : Type 0 where
  pub len : length new ≡ length old
  pub kind_is : slice_index new 0 ≡ head.kind
  pub level_is : slice_index new 1 ≡ head.level
  pub a_is : number_at 4 new 6 ≡ head.a
  pub b_is : number_at 4 new 10 ≡ head.b
  pub c_is : number_at 4 new 14 ≡ head.c
  pub between : (j : ℕ) → 2 ≤ j → j < 6 → slice_index new j ≡ slice_index old j
  pub behind : (j : ℕ) → 18 ≤ j → slice_index new j ≡ slice_index old j
