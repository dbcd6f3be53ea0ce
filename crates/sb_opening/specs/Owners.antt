-- Pages whose owner is that of no instance, and a look for them.
use Rattle.std.specs.Prelude.{◌≡◌, ◌⊎◌, ℕ, ◌/◌, ◌<◌, nat_lt, ◌||◌, Bool, true, false, List, slice_index_or, Option, Result, IfErr, OnOk}
use Rattle.sb_disk.specs.Disk.{Story}
use Rattle.sb_recover.specs.declared.fault.OpenFault.{OpenFault}
use Rattle.sb_recover.specs.declared.fault.OpenFault.TheVariants as opening
use Rattle.sb_drive.specs.declared.space.SpaceFault.{SpaceFault}
use Rattle.sb_drive.specs.declared.space.SpaceFault.TheVariants as space
use Rattle.sb_drive.specs.Slots.{Slots}
use Rattle.sb_drive.specs.Spaces.{IsReadFault, Wanted}
use Rattle.sb_standing.specs.Standing.{IsAmong}
use Rattle.sb_txn.specs.Clauses.{IsReady}
use Rattle.sb_txn.specs.Parts.{Parts, parts}
use Rattle.sb_txn.specs.State.{State}
use Rattle.sb_space.specs.Works.{Fails, HasPages, MeansDown, Serves, Works}

-- ---- owners
-- nobody, the table, the catalogue, or an instance that has one of these owners
abbrev pub IsKnown : List ℕ → ℕ → Type 0
IsKnown owners o = (o < 3) ⊎ IsAmong o owners

-- so is the owner of each page
abbrev pub HasNoStray : Slots → List ℕ → Type 0
HasNoStray s owners = (n : ℕ) → IsKnown owners (s n).0

-- In this page of the owner table stands the first entry that isn't so, 2,048 a page.
pub record IsFirstStray (s : Slots) (owners : List ℕ) (page : ℕ) : Type 0 where
  pub n : ℕ
  pub entry : page ≡ n / 2048
  pub stray : IsKnown owners (s n).0 → ⊥
  pub before : (m : ℕ) → m < n → IsKnown owners (s m).0

-- a page that is called damaged is that one, and a box is missing only where there is none
abbrev pub TellsStray : Slots → List ℕ → OpenFault → Type 0
TellsStray s owners (opening.Damaged page) = IsFirstStray s owners page
TellsStray s owners (opening.MissingExtension code) = HasNoStray s owners
TellsStray s owners e = Unit {0}

-- a page of the table that is called damaged has the entry of page n, which isn't so
abbrev pub IsStrayAt : List ℕ → Slots → ℕ → SpaceFault → Type 0
IsStrayAt owners s n (space.Damaged page) = (page ≡ n / 2048) × (IsKnown owners (s n).0 → ⊥)
IsStrayAt owners s n e = Unit {0}

-- ---- marks
-- of all owners just these are marked
pub record AreMarks (owners : List ℕ) (marks : List Bool) : Type 0 where
  pub set : (o : ℕ) → slice_index_or marks o false ≡ true → IsAmong o owners
  pub all : (o : ℕ) → IsAmong o owners → slice_index_or marks o false ≡ true

-- an owner is known by its mark
abbrev pub is_known : List Bool → ℕ → Bool
is_known marks owner = nat_lt owner 3 || slice_index_or marks owner false

-- what is so of the owners that are marked, and of the pages
abbrev pub OverMarked : List Bool → Parts → (List ℕ → Slots → Type 0) → Type 0
OverMarked marks p IsSo = (owners : List ℕ) (want : Wanted) (s : Slots) → AreMarks owners marks → HasPages want s p → IsSo owners s

-- ---- what a look leaves
-- the same pages are there
abbrev pub KeepsPages : Parts → Parts → Type 0
KeepsPages p q = (want : Wanted) (s : Slots) → HasPages want s p → HasPages want s q

-- A look within a transaction: the store serves it still, no change was made, and where it was answered the same pages are there. It is refused as
-- a reading call.
pub record LooksWithin {D T : Type 0} (told : D → Option Story) (len faults : D → ℕ) (tx : ℕ) (old new : D) (s t : State)
    (result : Result T SpaceFault) : Type 0 where
  pub ready : Serves tx (parts told len new t)
  pub works : Works told len faults tx 0 old new s t
  pub same : OnOk result (KeepsPages (parts told len old s) (parts told len new t))
  pub reads : IfErr result IsReadFault
  pub fails : IfErr result (λ e. MeansDown e → Fails faults e old new s t)

-- the same, whatever the transaction is
pub record OnlyLooks {D T : Type 0} (told : D → Option Story) (len faults : D → ℕ) (old new : D) (s t : State)
    (result : Result T SpaceFault) : Type 0 where
  pub ready : IsReady (parts told len new t)
  pub serves : (tx : ℕ) → Serves tx (parts told len old s) → Serves tx (parts told len new t)
  pub works : (tx : ℕ) → Works told len faults tx 0 old new s t
  pub same : OnOk result (KeepsPages (parts told len old s) (parts told len new t))
  pub reads : IfErr result IsReadFault
  pub fails : IfErr result (λ e. MeansDown e → Fails faults e old new s t)
