-- How many bytes the pages of a Ctx have.
use Rattle.std.specs.Prelude.{◌≡◌, ◌≢◌, ℕ, ◌<◌, cond, [], length, All, Some}
use Rattle.sb_ctx.specs.View.{HeldPage, View}
use Rattle.sb_ctx.specs.Held.{Entries, page_in}
use Rattle.sb_ctx.specs.Sound.{IsSound}

-- a page has no bytes, or as many as it was given with; a taken one has 4,096
pub record IsSized (h : HeldPage) : Type 0 where
  pub given : All (λ b. b < 256) h.given
  pub bytes : All (λ b. b < 256) h.now
  pub long : h.now ≢ [] → length h.now ≡ cond h.fresh 4096 (length h.given)

abbrev pub AreSized : Entries → Type 0
AreSized held = (n : ℕ) (h : HeldPage) → page_in held n ≡ Some h → IsSized h

-- what is so of every Ctx
pub record IsCtx (c : View) : Type 0 where
  pub sound : IsSound c
  pub sized : AreSized c.held
