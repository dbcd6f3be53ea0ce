-- What is stored of a Ctx.
use Rattle.std.specs.Prelude.{ℕ, List, [], Some, None}
use Rattle.sb_ctx.specs.View.{View, page_of}

-- the bytes of a held page
abbrev pub bytes_in : View → ℕ → List ℕ
bytes_in c n = elim (page_of c n) [ None ↦ [] | Some bytes ↦ bytes ]
