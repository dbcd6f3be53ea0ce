-- What a driver over a space leaves where the space is a memory.
use Rattle.std.proofs.Common.{◌≡◌, ℕ, [], refl, sym, ap, subst, ◌∙◌}
use Rattle.sb_forms.specs.Pages.{Pages}
use Rattle.sb_ctx.specs.declared.moves.Move.{Move}
use Rattle.sb_ctx.specs.View.{View}
use Rattle.sb_drive.specs.AttachCalls.{HandsUpIn}
use Rattle.sb_memory.specs.AttachCalls.{HandsUp}
use Rattle.sb_memory.specs.MemorySpaces.{HasPages, IsChanged}
use Rattle.sb_drive.specs.Slots.{Slots, owned}
use Rattle.sb_memory.specs.Contents.{Contents, Keeps, pages_of, slots}
use Rattle.sb_drive.specs.Spaces.{HoldsOf, Leaves, LeadsOn, Wanted}

abbrev pub Has : Wanted → Slots → Contents → Type 0
Has want s m = HasPages s m

-- any pages do as those that a crash leaves
abbrev pub no_want : Wanted
no_want n = []

-- the owner's pages are those that the memory has now
pub own-Leaves : (owner : ℕ) (s : Slots) (new : Contents) (IsSo : Pages → Type 0) → Leaves Has owner no_want s new IsSo → IsSo (pages_of new.now owner)
own-Leaves owner s new IsSo left = subst (λ (f : Slots). IsSo (owned f owner)) left.has.are left.own

pub Keeps-Leaves : (owner : ℕ) (old new : Contents) (IsSo : Pages → Type 0) → Leaves Has owner no_want (slots old.now) new IsSo → LeadsOn IsChanged old new → Keeps owner old new
Keeps-Leaves owner old new IsSo left leads = record {
  others = λ o other. ap (λ (f : Slots). owned f o) (sym left.has.are) ∙ left.others o other;
  grows = leads.1.grows;
}

pub HandsUp-in : (owner : ℕ) (old new : Contents) (c : View) (move : Move) → HasPages (slots old.now) old → HandsUpIn Has IsChanged owner old new c move → HandsUp owner old new c move
HandsUp-in owner old new c move has up =
    let same : new ≡ old = up.same.none refl in
    record {
      same = same;
      clean = up.clean;
      holds = subst (λ (m : Contents). HoldsOf (slots m.now) owner c) (sym same) (up.holds no_want (slots old.now) has);
      asks = up.asks;
    }
