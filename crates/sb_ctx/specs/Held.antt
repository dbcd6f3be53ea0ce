-- Held pages as a list, in the order of their numbers.
use Rattle.std.specs.Prelude.{ℕ, ◌==◌, Bool, List, map, Option, option_map}
use Rattle.std.specs.List.{find as first}
use Rattle.std.specs.FinMap.Entries.{is_sorted}
use Rattle.std.proofs.Common.{T, nat_cmp}
use Rattle.sb_ctx.specs.View.{HeldPage}

abbrev pub Entries : Type 0
Entries = List (ℕ × HeldPage)

abbrev pub has_number : ℕ → ℕ × HeldPage → Bool
has_number n e = e.0 == n

-- the page of a number, where it is in the list
abbrev pub page_in : Entries → ℕ → Option HeldPage
page_in held n = option_map (λ e. e.1) (first (λ e. e.0 == n) held)

-- the same page with other bytes now
abbrev pub with_bytes : List ℕ → HeldPage → HeldPage
with_bytes bytes h = record h { now = bytes }

-- each page changed, under its number
abbrev pub each : (HeldPage → HeldPage) → Entries → Entries
each f held = map (λ e. (e.0, f e.1)) held

-- the numbers rise
abbrev pub Rises : Entries → Type 0
Rises held = T (is_sorted nat_cmp held)
