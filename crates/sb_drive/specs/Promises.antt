-- What a call of a box promises to its driver, of whichever kind the box is.
use Rattle.std.specs.Prelude.{◌≡◌, ◌⊎◌, ℕ, true, Result, IfOk, IfErr}
use Rattle.sb_ctx.specs.Pages.{Pages}
use Rattle.sb_ctx.specs.declared.moves.Move.{Move}
use Rattle.sb_ctx.specs.declared.moves.Move.TheVariants.{Need, Fresh, Broken}
use Rattle.sb_ctx.specs.AttachAnswers.{AsksFor}
use Rattle.sb_ctx.specs.Sized.{IsCtx}
use Rattle.sb_ctx.specs.View.{View, HoldsPart, dropped, edits_of, stored}
use Rattle.sb_drive.specs.declared.space.SpaceFault.{SpaceFault}
use Rattle.sb_drive.specs.declared.space.SpaceFault.TheVariants as space
use Rattle.sb_drive.specs.Slots.{Slots, owned}
use Rattle.sb_drive.specs.Spaces.{LeadsWithin, Wanted}
use Rattle.sb_drive.specs.Turns.{IsEnd, is_find}

-- Which moves may answer a call; what a move says of the pages before the call and after it; which of those before it the box may call broken;
-- what it spends over them with this Ctx and this move; and that with this Ctx it asks for a fresh page.
pub record Promise : Type 1 where
  pub MayEnd : Move → Type 0
  pub Answers : Pages → Pages → Move → Type 0
  pub IsDamaged : Pages → ℕ → Type 0
  pub Spends : Pages → View → Move → Type 0
  pub IsAsking : View → Type 0

-- A call that is made once keeps its promise: what was given stays as it was given, only what isn't held is asked for, and what is promised is so
-- over all pages of which the Ctx held a part. A find says nothing of pages.
pub record KeepsPromise (p : Promise) (old new : View) (move : Move) : Type 0 where
  pub given : dropped new ≡ old
  pub asks : AsksFor new move
  pub ends : p.MayEnd move
  pub answers : (P : Pages) → HoldsPart old P → p.Answers P (stored new P) move
  pub find : (P after : Pages) → is_find move ≡ true → p.Answers P after move
  pub broken : (P : Pages) (n : ℕ) → HoldsPart old P → move ≡ Broken n → p.IsDamaged P n
  pub spends : IsCtx new → (P : Pages) → HoldsPart old P → p.Spends P new move
  pub fresh : move ≡ Fresh → p.IsAsking new

-- Damaged names a page that the box may call broken
abbrev pub HasBoxCause : Promise → Pages → SpaceFault → Type 0
HasBoxCause p P (space.Damaged n) = p.IsDamaged P n
HasBoxCause p P e = Unit {0}

-- the call asks for the page over these pages
abbrev pub MayAskFor : Promise → Pages → ℕ → Type 0
MayAskFor p P n = (at : View) × p.Spends P at (Need n)

-- The move is an end of the call, which is stored: it answers so over all pages that the space has.
pub record StoresEnd {S : Type 0} (Has : Wanted → Slots → S → Type 0) (owner : ℕ) (p : Promise) (before : S) (ctx : View) (move : Move) : Type 0 where
  pub end : IsEnd move
  pub answers : (want : Wanted) (s : Slots) → Has want s before → p.Answers (owned s owner) (stored ctx (owned s owner)) move

-- At most as many changes are made as some Ctx has edits, with which the call spends what it promises over all pages that the space has. A call that
-- comes to its end does so with the move that it ends in; one that is refused has changed nothing, or its end couldn't be stored.
pub record CostsAsPromised {S : Type 0} (Has : Wanted → Slots → S → Type 0) (Leads : ℕ → S → S → Type 0)
    (owner : ℕ) (p : Promise) (before after : S) (result : Result Move SpaceFault) : Type 0 where
  pub ctx : View
  pub move : Move
  pub ends : IfOk result (λ end. move ≡ end)
  pub refused : IfErr result (λ e. Leads 0 before after ⊎ StoresEnd Has owner p before ctx move)
  pub leads : LeadsWithin Leads (edits_of ctx) before after
  pub spends : (want : Wanted) (s : Slots) → Has want s before → p.Spends (owned s owner) ctx move
