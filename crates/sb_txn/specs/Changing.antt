-- A change that may come next.
use Rattle.std.specs.Prelude.{◌≡◌, ℕ, ◌+◌, ◌≤◌, false, not, List, ◌∷◌, ◌++◌, length}
use Rattle.sb_log.specs.Records.{Change, Record, Begin, Image, Back}
use Rattle.sb_log.specs.Standing.{standing, count_of}
use Rattle.sb_log.specs.Restored.{imaged}
use Rattle.sb_log.specs.Undoing.{IsBeneath, IsFree}
use Rattle.sb_log.specs.Views.{Active, active_with, is_active, changes}
use Rattle.sb_txn.specs.declared.changing.Wants.{Wants}
use Rattle.sb_txn.specs.Steps.{some}

-- What may be wanted in the log before a change: which records, whose change it is, how many changes of that transaction stand, and the page with its bytes.
pub record Before : Type 0 where
  pub wants : Wants
  pub tx : ℕ
  pub count : ℕ
  pub page : ℕ
  pub image : List ℕ

abbrev pub before : Wants → ℕ → ℕ → ℕ → List ℕ → Before
before w tx n page image = record { wants = w; tx = tx; count = n; page = page; image = image }

-- the records that are pending, with those that are wanted before a change
abbrev pub behind : List Record → Before → List Record
behind pending b =
    ((pending ++ some b.wants.begin (Begin b.tx)) ++ some b.wants.back (Back b.tx b.count)) ++ some b.wants.image (Image b.page b.image)

-- The change is the transaction's, of the page as it is now. A Back is wanted where the log has more of its changes than stand, an Image where the page has none. No standing change of another transaction meets its range.
pub record IsNext (b : Before) (now : ℕ → List ℕ) (opened pending : List Record) (rest : List Active) (c : Change) : Type 0 where
  pub of_tx : c.tx ≡ b.tx
  pub of_page : c.page ≡ b.page
  pub is : b.image ≡ now b.page
  pub fits : c.offset + length c.after ≤ 4096
  pub beneath : IsBeneath (now c.page) c
  pub logged : b.wants.back ≡ false → count_of b.tx (standing (opened ++ pending)) ≤ b.count
  pub covered : imaged (opened ++ pending) b.page ≡ not b.wants.image
  pub free : IsFree (is_active (active_with b.tx b.count ∷ rest)) c
      (changes (opened ++ behind pending b) (active_with b.tx b.count ∷ rest) c.page)
