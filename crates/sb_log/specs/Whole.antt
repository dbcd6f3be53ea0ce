-- The log, the active transactions, the pages of the disk and the pages now.
use Rattle.std.specs.Prelude.{ℕ, ◌<◌, cond, ◌==◌, List, ◌++◌}
use Rattle.sb_bytes.specs.Bytes.{splice}
use Rattle.sb_log.specs.Records.{Change, Record}
use Rattle.sb_log.specs.Restored.{base, IsCovered, AreHarmless}
use Rattle.sb_log.specs.Views.{Active, AreActive, IsPage}

-- The pages now are what would be restored if all active transactions committed. What is pending changes nothing that is restored now.
pub record IsWhole (count : ℕ) (disk now : ℕ → List ℕ) (opened pending : List Record) (transactions : List Active) : Type 0 where
  pub plain : (p : ℕ) → p < count → AreHarmless opened p (disk p) pending
  pub covered : IsCovered (opened ++ pending)
  pub active : AreActive (opened ++ pending) transactions
  pub pages : (p : ℕ) → p < count → IsPage (opened ++ pending) transactions (base p (opened ++ pending) (disk p)) (now p) p

-- the pages with these bytes in the range of a change
abbrev pub with_range : Change → List ℕ → (ℕ → List ℕ) → ℕ → List ℕ
with_range c bytes now p = cond (c.page == p) (splice c.offset bytes (now p)) (now p)
