-- What an undo list gives back, whatever the pages are.
use Rattle.std.specs.Prelude.{◌≡◌, ◌⊎◌, ℕ, ◌+◌, ◌≤◌, List, [], ◌∷◌, ◌++◌, length, map, take, drop}
use Rattle.sb_pool.specs.Pages.{with_bytes}
use Rattle.sb_txn.specs.Book.{Undo}
use Rattle.sb_pool.specs.Calls.{IsSameOrForced}
use Rattle.sb_txn.specs.Clauses.{unwound, Grows}
use Rattle.sb_txn.specs.State.{State}

-- it has what these bytes will stand over, in a range of one of the pages
pub record IsUndoOf (u : Undo) (bytes : List ℕ) (pages : ℕ → List ℕ) : Type 0 where
  pub within : u.offset + length bytes ≤ length (pages u.page)
  pub size : length u.before ≡ length bytes
  pub was : u.before ≡ take (length bytes) (drop u.offset (pages u.page))

-- With the last change undone, the undo list before it gives what it gives without it.
abbrev pub LastIsUndone : Type 0
LastIsUndone =
    (us : List Undo) (u : Undo) (bytes : List ℕ) (pages : ℕ → List ℕ) → IsUndoOf u bytes pages
    → (p : ℕ) → unwound (us ++ u ∷ []) (with_bytes u.page u.offset bytes pages) p ≡ unwound us pages p

-- a change that is made: what undoes it, and its bytes
pub record Made : Type 0 where
  pub undo : Undo
  pub bytes : List ℕ

-- the pages with it
abbrev pub with_made : Made → (ℕ → List ℕ) → ℕ → List ℕ
with_made m pages = with_bytes m.undo.page m.undo.offset m.bytes pages

-- the pages with these changes made, the first of them first
abbrev pub with_all_made : List Made → (ℕ → List ℕ) → ℕ → List ℕ
with_all_made [] pages = pages
with_all_made (m ∷ ms) pages = with_all_made ms (with_made m pages)

-- each of them has what it will stand over
abbrev pub CanBeUndone : List Made → (ℕ → List ℕ) → Type 0
CanBeUndone [] pages = Unit {0}
CanBeUndone (m ∷ ms) pages = IsUndoOf m.undo m.bytes pages × CanBeUndone ms (with_made m pages)

-- Whatever changes were made, with all of them undone the pages are as they were before.
abbrev pub AllAreUndone : Type 0
AllAreUndone =
    (ms : List Made) (pages : ℕ → List ℕ) → CanBeUndone ms pages
    → (p : ℕ) → unwound (map (λ m. m.undo) ms) (with_all_made ms pages) p ≡ pages p

-- ---- among the changes of others
-- a change of this transaction that stands, or a write of another one
pub data Step : Type 0 where
  Own : Made → Step
  Other : Made → Step

-- the pages with all of them made, the first of them first
abbrev pub with_steps : List Step → (ℕ → List ℕ) → ℕ → List ℕ
with_steps [] pages = pages
with_steps (Own m ∷ steps) pages = with_steps steps (with_made m pages)
with_steps (Other m ∷ steps) pages = with_steps steps (with_made m pages)

-- what undoes those of this transaction
abbrev pub own_undos : List Step → List Undo
own_undos [] = []
own_undos (Own m ∷ steps) = m.undo ∷ own_undos steps
own_undos (Other m ∷ steps) = own_undos steps

-- the pages with the writes of the others alone
abbrev pub with_others : List Step → (ℕ → List ℕ) → ℕ → List ℕ
with_others [] pages = pages
with_others (Own m ∷ steps) pages = with_others steps pages
with_others (Other m ∷ steps) pages = with_others steps (with_made m pages)

-- a write lies within a page
abbrev pub IsWithin : Made → Type 0
IsWithin m = m.undo.offset + length m.bytes ≤ 4096

-- the ranges of two writes don't meet
abbrev pub AreApart : Made → Made → Type 0
AreApart m n = m.undo.page ≡ n.undo.page → (m.undo.offset + length m.bytes ≤ n.undo.offset) ⊎ (n.undo.offset + length n.bytes ≤ m.undo.offset)

-- no write of another meets this change
abbrev pub IsClearOf : Made → List Step → Type 0
IsClearOf m [] = Unit {0}
IsClearOf m (Own n ∷ steps) = IsClearOf m steps
IsClearOf m (Other n ∷ steps) = AreApart m n × IsClearOf m steps

-- Each write lies within a page. Each change of this transaction has what it will stand over, and no later write of another meets it.
abbrev pub AreClearSteps : List Step → (ℕ → List ℕ) → Type 0
AreClearSteps [] pages = Unit {0}
AreClearSteps (Own m ∷ steps) pages = IsWithin m × IsUndoOf m.undo m.bytes pages × IsClearOf m steps × AreClearSteps steps (with_made m pages)
AreClearSteps (Other m ∷ steps) pages = IsWithin m × AreClearSteps steps (with_made m pages)

-- With the changes of this transaction undone, each byte is as the others left it: where they wrote nothing, as it was.
abbrev pub OthersStay : Type 0
OthersStay =
    (steps : List Step) (pages : ℕ → List ℕ) → ((q : ℕ) → length (pages q) ≡ 4096) → AreClearSteps steps pages
    → (p : ℕ) → unwound (own_undos steps) (with_steps steps pages) p ≡ with_others steps pages p

-- ---- how the log grows
-- a call that leaves the journal as it was, or forces what was pending, adds nothing
abbrev pub RestAddsNothing : Type 0
RestAddsNothing = (s t : State) → IsSameOrForced s.journal t.journal → Grows s t 0 0

-- what calls one after another add is the sum
abbrev pub GrowthAddsUp : Type 0
GrowthAddsUp = (s t u : State) (a b c d : ℕ) → Grows s t a b → Grows t u c d → Grows s u (a + c) (b + d)

-- the chunks are as many more, and one more in all: the one that was pending
abbrev pub ChunksGrow : Type 0
ChunksGrow = (s t : State) (a b : ℕ) → Grows s t a b → length t.journal.lens ≤ length s.journal.lens + (b + 1)
