-- Driven calls of an attachment.
use Rattle.std.specs.Prelude.{◌≡◌, ℕ, ◌+◌, ◌-◌, ◌≤◌, true, false, length, None, IsSome}
use Rattle.sb_ctx.specs.Keys.{is_record_key}
use Rattle.sb_ctx.specs.Pages.{Pages}
use Rattle.sb_ctx.specs.declared.instance.Instance.{Instance}
use Rattle.sb_ctx.specs.declared.calls.AttachCall.{AttachCall}
use Rattle.sb_ctx.specs.declared.calls.AttachCall.TheVariants as call
use Rattle.sb_ctx.specs.declared.moves.Move.{Move}
use Rattle.sb_ctx.specs.declared.moves.Move.TheVariants.{Need, Fresh}
use Rattle.sb_ctx.specs.View.{View, HeldPages, AreSomeOf, IsClean, dropped, edits_of, fresh_pages, holds_fresh, page_of}
use Rattle.sb_ctx.specs.Attachment.{Attachment, IsQuery, MayHold, MayMeet}
use Rattle.sb_ctx.specs.AttachAnswers.{Answers, AsksFor, Changes, MayEnd, NotNew, Spends}
use Rattle.sb_drive.specs.declared.space.SpaceFault.{SpaceFault}
use Rattle.sb_drive.specs.declared.space.SpaceFault.TheVariants as space
use Rattle.sb_drive.specs.Promises.{Promise}
use Rattle.sb_drive.specs.Slots.{Slots, owned}
use Rattle.sb_drive.specs.Spaces.{HoldsOf, LeadsWithin, Wanted}

-- what the box wants of the arguments of its call
abbrev pub Fits : Attachment → Instance → AttachCall → Type 0
Fits a inst (call.Build key row) = MayHold a inst row × (is_record_key key ≡ true)
Fits a inst (call.Changed change) = MayMeet a inst change
Fits a inst (call.Seek query) = IsQuery query
Fits a inst c = Unit {0}

-- a call that makes nothing of the pages
abbrev pub IsReading : AttachCall → Type 0
IsReading (call.Late entry) = Unit {0}
IsReading (call.NextEntry low above) = Unit {0}
IsReading call.Sums = Unit {0}
IsReading (call.Seek query) = Unit {0}
IsReading c = ⊥

-- A find is handed up: nothing is stored, and the space keeps the pages that it has; the Ctx may be given the answer and the call made again, and
-- the answer isn't known.
pub record HandsUpIn {S : Type 0} (Has : Wanted → Slots → S → Type 0) (Leads : ℕ → S → S → Type 0)
    (owner : ℕ) (before after : S) (c : View) (move : Move) : Type 0 where
  pub same : Leads 0 before after
  pub clean : IsClean c
  pub has : (want : Wanted) (s : Slots) → Has want s before → Has want s after
  pub holds : (want : Wanted) (s : Slots) → Has want s before → HoldsOf s owner c
  pub asks : AsksFor c move

-- At most as many changes are made as some Ctx has edits, with which the box spends what it may over all pages that the space has.
pub record CostsIn {S : Type 0} (Has : Wanted → Slots → S → Type 0) (Leads : ℕ → S → S → Type 0)
    (a : Attachment) (inst : Instance) (call : AttachCall) (before after : S) (c : View) : Type 0 where
  pub ctx : View
  pub move : Move
  pub leads : LeadsWithin Leads (edits_of ctx) before after
  pub spends : (want : Wanted) (s : Slots) → Has want s before → Spends a inst call c (owned s inst.owner) ctx move

-- What a Ctx was given more: pages by their numbers, of each of which this is so, fresh pages, and numbers of next pages. No question was
-- answered beside these.
pub record IsGivenMore (old new : View) (IsOn : ℕ → Type 0) : Type 0 where
  pub asks : new.asks ≤ old.asks + (length new.held - length old.held) + (length (fresh_pages new) - length (fresh_pages old))
      + (length new.nexts - length old.nexts)
  pub pages : (n : ℕ) → page_of old n ≡ None → IsSome (page_of new n) → holds_fresh new n ≡ false → IsOn n

-- the box asks for the page over these pages: where they are formed it is on the call's path
abbrev pub IsAskedFor : Attachment → Instance → AttachCall → View → Pages → ℕ → Type 0
IsAskedFor a inst call c P n = (at : View) × Spends a inst call c P at (Need n)

-- With the finds that it was handed, the box, made to answer with what it was given, asks for a fresh page.
pub record IsAsking (a : Attachment) (inst : Instance) (call : AttachCall) (handed c : View) : Type 0 where
  pub found : c.found ≡ handed.found
  pub asks : Changes a inst call (dropped c) c Fresh

-- A page that the box may call broken, of some of these pages that it was given; when an instance is prepared, they aren't those of a new one.
pub record IsDamaged (a : Attachment) (inst : Instance) (c : AttachCall) (P : Pages) (n : ℕ) : Type 0 where
  pub held : HeldPages
  pub given : AreSomeOf held P
  pub may : a.may_break inst held n ≡ true
  pub not_new : NotNew a inst c P

-- Damaged names such a page
abbrev pub HasSpaceCause : Attachment → Instance → AttachCall → Pages → SpaceFault → Type 0
HasSpaceCause a inst c P (space.Damaged n) = IsDamaged a inst c P n
HasSpaceCause a inst c P e = Unit {0}

-- what a call promises with the finds that it was handed
abbrev pub promise_of : Attachment → Instance → AttachCall → View → Promise
promise_of a inst c handed = record {
  MayEnd = MayEnd c;
  Answers = Answers a inst c handed;
  IsDamaged = IsDamaged a inst c;
  Spends = Spends a inst c handed;
  IsAsking = IsAsking a inst c handed;
}
