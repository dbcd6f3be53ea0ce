-- How a held page is kept in memory.
use Rattle.std.specs.Prelude.{◌≡◌, ℕ, Bool, true, false, List, [], length}
use Rattle.sb_ctx.specs.declared.held.Use.{Use}
use Rattle.sb_ctx.specs.declared.held.Use.TheVariants.{Given, Edited, Freed, Fresh, Taken}

-- the bytes that it has now, by what was made of it
abbrev pub now_in : Use → List ℕ → List ℕ → List ℕ
now_in Given given work = given
now_in Edited given work = work
now_in Freed given work = []
now_in Fresh given work = []
now_in Taken given work = work

abbrev pub is_fresh_use : Use → Bool
is_fresh_use Given = false
is_fresh_use Edited = false
is_fresh_use Freed = false
is_fresh_use Fresh = true
is_fresh_use Taken = true

-- a fresh page was given without bytes, and has room for those of a page
abbrev pub IsKept : Use → List ℕ → List ℕ → Type 0
IsKept Fresh given work = (given ≡ []) × (length work ≡ 4096)
IsKept Taken given work = (given ≡ []) × (length work ≡ 4096)
IsKept _ given work = Unit {0}
