-- What is so of the pages of every Ctx, and stays so.
use Rattle.std.specs.Prelude.{◌≡◌, ℕ, true, [], Some}
use Rattle.std.specs.FinMap.Entries.{is_sorted}
use Rattle.std.proofs.Common.{T, nat_cmp}
use Rattle.sb_ctx.specs.View.{HeldPage, View}
use Rattle.sb_ctx.specs.Held.{Entries, page_in}

-- the numbers rise, and a fresh page was given without bytes
pub record AreSound (held : Entries) : Type 0 where
  pub rises : T (is_sorted nat_cmp held)
  pub fresh : (n : ℕ) (h : HeldPage) → page_in held n ≡ Some h → h.fresh ≡ true → h.given ≡ []

abbrev pub IsSound : View → Type 0
IsSound c = AreSound c.held

-- a fresh page without given bytes, or one that isn't fresh
abbrev pub MayBeHeld : HeldPage → Type 0
MayBeHeld h = h.fresh ≡ true → h.given ≡ []
