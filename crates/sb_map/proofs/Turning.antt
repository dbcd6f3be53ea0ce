-- A question of a walk that a space answers, or refuses.
use Rattle.std.proofs.Common.{◌≡◌, ℕ, Bool, None, subst}
use Rattle.sb_ctx.specs.View.{View, dropped, page_of}
use Rattle.sb_btree.specs.Inserts.{MayAsk}
use Rattle.sb_btree.specs.declared.walk.Walk.{Walk}
use Rattle.sb_btree.specs.declared.walk.Walk.TheVariants as walk
use Rattle.sb_drive.specs.declared.space.SpaceFault.{SpaceFault}
use Rattle.sb_drive.specs.declared.space.SpaceFault.TheVariants.{DataFull, TempFull}
use Rattle.sb_drive.specs.declared.turns.Ask.{Ask}
use Rattle.sb_drive.specs.declared.turns.Ask.TheVariants.{Page, Fresh}
use Rattle.sb_drive.specs.Slots.{Slots}
use Rattle.sb_drive.specs.Spaces.{IsFull, IsGift, IsGivenIn, Wanted}
use Rattle.sb_drive.specs.Turns.{IsNumbered}
use Rattle.sb_drive.proofs.AsksLemmas.{HoldsOf-IsGivenIn, IsAsked, IsAsked-dropped, IsClean-IsGift, to_ask-IsGift}
use Rattle.sb_map.specs.Turns.{IsAnswered}

pub IsAnswered-gift : {S : Type 0} (Has : Wanted → Slots → S → Type 0) (total owner : ℕ) (old : S) (c d : View) (ask : Ask) → IsNumbered ask → IsAsked c ask → IsGift (dropped c) ask d
    → ((want : Wanted) (s : Slots) → Has want s old → IsGivenIn total s owner (dropped c) ask d) → IsAnswered Has owner old c d
IsAnswered-gift Has total owner old c d ask numbered asked gift given = record {
  less = to_ask-IsGift (dropped c) d ask numbered (IsAsked-dropped c ask asked) gift;
  clean = IsClean-IsGift (dropped c) d ask gift;
  holds = λ want s has holds. HoldsOf-IsGivenIn total s owner (dropped c) d ask gift (given want s has) holds;
}

-- ---- a question that is refused
pub IsFull-page : (durable : Bool) (total : ℕ) (s : Slots) (c : View) (n : ℕ) (e : SpaceFault) → IsFull durable total s c (Page n) e → IsFull durable total s c Fresh e
IsFull-page durable total s c n (DataFull used of) full = absurd full
IsFull-page durable total s c n (TempFull used of) full = absurd full
IsFull-page durable total s c n e full = tt

-- a page that is asked for isn't held
pub asked_page : {T : Type 0} (c : View) (w : Walk T) (n : ℕ) → w ≡ walk.Need n → MayAsk c w → page_of c n ≡ None
asked_page {T} c w n is asks = subst (λ (v : Walk T). MayAsk c v) is asks
