-- Free slots.
use Rattle.std.specs.Prelude.{ℕ, ◌+◌, cond, List, [], ◌∷◌}
use Rattle.std.specs.Int.{bytes_high_first}
use Rattle.std.specs.Str.{bytes_eq}
use Rattle.sb_node.specs.Entries.{Entry}

-- the least slot from this one on that rising entries haven't
abbrev pub free_from : ℕ → List Entry → ℕ
free_from slot [] = slot
free_from slot (e ∷ es) = free_from (cond (bytes_eq e.0 (bytes_high_first 2 slot)) (slot + 1) slot) es
