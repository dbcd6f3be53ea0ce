-- Spaces of pages: what a driver reads and stores, wherever the pages are.
use Rattle.std.specs.Prelude.{◌≡◌, ◌⊎◌, ℕ, ◌^◌, ◌<◌, ◌≤◌, Bool, true, false, List, All, Option, Result, Ok, Err}
use Rattle.sb_ctx.specs.Pages.{Pages, IsNext}
use Rattle.sb_ctx.specs.View.{View, HoldsPart, holds_fresh, dropped, with_held, given_page, fresh_page, with_next}
use Rattle.sb_drive.specs.declared.space.SpaceFault.{SpaceFault}
use Rattle.sb_drive.specs.declared.space.SpaceFault.TheVariants.{Fault, DataFull, TempFull, LogFull, GatesFull, Damaged, Down, NoMemory}
use Rattle.sb_drive.specs.declared.turns.Ask.{Ask}
use Rattle.sb_drive.specs.declared.turns.Ask.TheVariants.{Page, Fresh, After}
use Rattle.sb_drive.specs.Slots.{Slots, owned}

-- the pages that a crash leaves
abbrev pub Wanted : Type 0
Wanted = ℕ → List ℕ

-- ---- what a Ctx holds of the pages
-- fresh pages that are held are nobody's
abbrev pub AreFree : Slots → View → Type 0
AreFree s c = (n : ℕ) → holds_fresh c n ≡ true → (s n).0 ≡ 0

-- A Ctx that was given an owner's pages: it holds a part of them, and fresh pages that are nobody's.
pub record HoldsOf (s : Slots) (owner : ℕ) (c : View) : Type 0 where
  pub part : HoldsPart c (owned s owner)
  pub free : AreFree s c

-- ---- what a question is answered with, whatever the pages are
abbrev pub IsGift : View → Ask → View → Type 0
IsGift old (Page n) new = (n < 2 ^ 32) × ((bytes : List ℕ) × All (λ b. b < 256) bytes × (new ≡ with_held n (given_page bytes) old))
IsGift old Fresh new = (n : ℕ) × (n < 65536) × (holds_fresh old n ≡ false) × (new ≡ with_held n fresh_page old)
IsGift old (After low) new = (next : Option ℕ) × (new ≡ with_next low next old)

-- ---- and with these pages, of which there are so many
-- the least page that is nobody's and isn't held as a fresh one
pub record IsFreshIn (total : ℕ) (s : Slots) (c : View) (page : ℕ) : Type 0 where
  pub below : page < total
  pub free : (s page).0 ≡ 0
  pub new : holds_fresh c page ≡ false
  pub least : (m : ℕ) → m < page → (s m).0 ≡ 0 → holds_fresh c m ≡ true

-- the owner's page of this number, a fresh page, or the number of the owner's next page
abbrev pub IsGivenIn : ℕ → Slots → ℕ → View → Ask → View → Type 0
IsGivenIn total s owner old (Page n) new = new ≡ with_held n (given_page (owned s owner n)) old
IsGivenIn total s owner old Fresh new = (n : ℕ) × IsFreshIn total s old n × (new ≡ with_held n fresh_page old)
IsGivenIn total s owner old (After low) new = (next : Option ℕ) × IsNext (owned s owner) low next × (new ≡ with_next low next old)

-- ---- refusals
-- All pages are used: each is somebody's, or is held as a fresh one.
pub record AreUsed (total : ℕ) (s : Slots) (c : View) (used of : ℕ) : Type 0 where
  pub total_is : of ≡ total
  pub all : used ≡ of
  pub each : (m : ℕ) → m < total → (s m).0 ≡ 0 → holds_fresh c m ≡ true

-- that no page is left is answered where a fresh one is asked for, by a durable space as DataFull and by another one as TempFull
abbrev pub IsFull : Bool → ℕ → Slots → View → Ask → SpaceFault → Type 0
IsFull durable total s c Fresh (DataFull used of) = (durable ≡ true) × AreUsed total s c used of
IsFull durable total s c Fresh (TempFull used of) = (durable ≡ false) × AreUsed total s c used of
IsFull durable total s c ask (DataFull used of) = ⊥
IsFull durable total s c ask (TempFull used of) = ⊥
IsFull durable total s c ask e = Unit {0}

-- the refusals of an answer, and those of a store; no page is called damaged by a space
abbrev pub IsAnswerFault : SpaceFault → Type 0
IsAnswerFault (LogFull used need total) = ⊥
IsAnswerFault (GatesFull used total) = ⊥
IsAnswerFault (Damaged page) = ⊥
IsAnswerFault e = Unit {0}

abbrev pub IsStoreFault : SpaceFault → Type 0
IsStoreFault (DataFull used total) = ⊥
IsStoreFault (TempFull used total) = ⊥
IsStoreFault (Damaged page) = ⊥
IsStoreFault e = Unit {0}

-- the refusals of a call that only reads: neither a page nor room is wanting
abbrev pub IsReadFault : SpaceFault → Type 0
IsReadFault (DataFull used total) = ⊥
IsReadFault (TempFull used total) = ⊥
IsReadFault (LogFull used need total) = ⊥
IsReadFault (GatesFull used total) = ⊥
IsReadFault e = Unit {0}

-- the refusals of a question: one that asks for no fresh page only reads
abbrev pub IsAskFault : Ask → SpaceFault → Type 0
IsAskFault Fresh e = Unit {0}
IsAskFault (Page n) e = IsReadFault e
IsAskFault (After low) e = IsReadFault e

-- a fact that is left, unless a call on the disk has failed
abbrev pub UnlessDown : {T : Type 0} → Result T SpaceFault → Type 0 → Type 0
UnlessDown (Ok done) IsSo = IsSo
UnlessDown (Err Fault) IsSo = Unit {0}
UnlessDown (Err Down) IsSo = Unit {0}
UnlessDown (Err e) IsSo = IsSo

-- ---- what calls leave
-- The space has pages with the same of all other owners as these had, and with some of this owner of which this is so.
pub record Leaves {S : Type 0} (Has : Wanted → Slots → S → Type 0) (owner : ℕ) (want : Wanted) (s : Slots) (new : S) (IsSo : Pages → Type 0) : Type 0 where
  pub slots : Slots
  pub has : Has want slots new
  pub others : (o : ℕ) → (o ≡ owner → ⊥) → owned slots o ≡ owned s o
  pub own : IsSo (owned slots owner)

-- so many changes at most lead from one to the other
pub record LeadsWithin {S : Type 0} (Leads : ℕ → S → S → Type 0) (most : ℕ) (old new : S) : Type 0 where
  pub changes : ℕ
  pub within : changes ≤ most
  pub leads : Leads changes old new

-- some number of changes leads from one to the other
abbrev pub LeadsOn : {S : Type 0} → (ℕ → S → S → Type 0) → S → S → Type 0
LeadsOn Leads old new = (k : ℕ) × Leads k old new

-- a fact of want of a page, where that is the refusal
abbrev pub WhereFull : SpaceFault → Type 0 → Type 0
WhereFull (DataFull used total) IsSo = IsSo
WhereFull (TempFull used total) IsSo = IsSo
WhereFull e IsSo = Unit {0}

-- That no page is left is so at a moment before any change: with this Ctx the call asked for a fresh page and was within its room; but for its
-- edits the Ctx holds a part of the owner's pages, and all pages that are nobody's are among its fresh ones.
pub record IsFullFor {S : Type 0} (Leads : ℕ → S → S → Type 0) (durable : S → Bool) (total : S → ℕ) (owner : ℕ) (Asks IsWithin : View → Type 0)
    (old : S) (s : Slots) (e : SpaceFault) : Type 0 where
  pub space : S
  pub ctx : View
  pub leads : Leads 0 old space
  pub holds : HoldsOf s owner (dropped ctx)
  pub asks : Asks ctx
  pub within : IsWithin ctx
  pub full : IsFull (durable space) (total space) s (dropped ctx) Fresh e

-- A refused call of a box: where the box called a page broken all is as it was; where memory is wanting, it may be so too; else the space has refused.
abbrev pub IsRefused : Type 0 → Type 0 → SpaceFault → Type 0
IsRefused Same Fails (Damaged page) = Same
IsRefused Same Fails NoMemory = Same ⊎ Fails
IsRefused Same Fails e = Fails
