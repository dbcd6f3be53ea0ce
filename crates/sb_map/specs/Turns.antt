-- What becomes of a walk in one turn.
use Rattle.std.specs.Prelude.{◌≡◌, ℕ, ◌<◌, Option, Some, None}
use Rattle.sb_ctx.specs.View.{View, dropped, IsClean}
use Rattle.sb_btree.specs.declared.walk.Walk.{Walk}
use Rattle.sb_btree.specs.declared.walk.Walk.TheVariants.{Ready, Fresh, Broken}
use Rattle.sb_drive.specs.declared.space.SpaceFault.{SpaceFault}
use Rattle.sb_drive.specs.declared.space.SpaceFault.TheVariants.{DataFull, TempFull, LogFull, GatesFull, Damaged}
use Rattle.sb_drive.specs.Slots.{Slots}
use Rattle.sb_drive.specs.Spaces.{HoldsOf, Wanted}
use Rattle.sb_drive.proofs.MeasureLemmas.{to_ask}

-- A question is answered: less may be asked for than before, and what is held is still a part of the owner's pages, with fresh ones that are nobody's.
pub record IsAnswered {S : Type 0} (Has : Wanted → Slots → S → Type 0) (owner : ℕ) (old : S) (c d : View) : Type 0 where
  pub less : to_ask d < to_ask (dropped c)
  pub clean : IsClean (dropped c) → IsClean d
  pub holds : (want : Wanted) (s : Slots) → Has want s old → HoldsOf s owner (dropped c) → HoldsOf s owner d

-- the walk has come to its end, and nothing is changed
pub record HasEnded {S T : Type 0} (old new : S) (c d : View) (walk : Walk T) (end : T) : Type 0 where
  pub is : walk ≡ Ready end
  pub space : new ≡ old
  pub ctx : d ≡ c

abbrev pub Turned : {S T : Type 0} → (Wanted → Slots → S → Type 0) → ℕ → S → S → View → View → Walk T → Option T → Type 0
Turned Has owner old new c d walk (Some end) = HasEnded old new c d walk end
Turned Has owner old new c d walk None = IsAnswered Has owner old c d

-- a walk stops where it calls a page broken, or where it wants a fresh page and none is left
abbrev pub StopsBy : {T : Type 0} → Walk T → SpaceFault → Type 0
StopsBy walk (Damaged n) = walk ≡ Broken n
StopsBy walk (DataFull used of) = walk ≡ Fresh
StopsBy walk (TempFull used of) = walk ≡ Fresh
StopsBy walk (LogFull used need of) = ⊥
StopsBy walk (GatesFull used of) = ⊥
StopsBy walk e = Unit {0}
