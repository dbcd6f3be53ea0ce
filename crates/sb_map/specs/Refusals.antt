-- Why a call on a map is refused.
use Rattle.std.specs.Prelude.{◌≡◌, ℕ, true}
use Rattle.sb_forms.specs.Pages.{Pages}
use Rattle.sb_ctx.specs.View.{HeldPages, AreSomeOf}
use Rattle.sb_btree.specs.Broken.{breaks}
use Rattle.sb_drive.specs.declared.space.SpaceFault.{SpaceFault}
use Rattle.sb_drive.specs.declared.space.SpaceFault.TheVariants.{Damaged}

-- a page that is not of the form that it should have where a walk down from the root meets it, of some of these pages
pub record IsDamaged (root : ℕ) (P : Pages) (n : ℕ) : Type 0 where
  pub held : HeldPages
  pub given : AreSomeOf held P
  pub breaks : breaks root held n ≡ true

-- Damaged names such a page
abbrev pub HasCause : ℕ → Pages → SpaceFault → Type 0
HasCause root P (Damaged n) = IsDamaged root P n
HasCause root P e = Unit {0}

abbrev pub IsUndamaged : SpaceFault → Type 0
IsUndamaged (Damaged n) = ⊥
IsUndamaged e = Unit {0}
