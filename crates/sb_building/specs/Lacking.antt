-- Where no page is left while a content is built.
use Rattle.std.specs.Prelude.{◌⊎◌, ℕ, ◌≤◌, max, [], ◌∷◌, ◌++◌}
use Rattle.sb_rule.specs.declared.rule.Rule.{Rule}
use Rattle.sb_relation.specs.Buckets.{standing_buckets}
use Rattle.sb_relation.specs.Db.{Name, Key, Row, Rows, Db, rows_at}
use Rattle.sb_fold.specs.Building.{built_bound}
use Rattle.sb_fold.specs.Extensions.{Extensions}
use Rattle.sb_drive.specs.Slots.{Slots}
use Rattle.sb_drive.specs.Spaces.{LeadsOn, Wanted}
use Rattle.sb_standing.specs.Tables.{db_of}
use Rattle.sb_tables.specs.Beside.{IsShortBeside}
use Rattle.sb_building.specs.Building.{IsNext}
use Rattle.sb_building.specs.Instances.{Site}

-- ---- the most pages of a content
-- over rows that are built
abbrev pub bound_over : Extensions → Db → Name → Rule → Rows → ℕ
bound_over ext db name rule built = built_bound ext db name rule (standing_buckets rule built) built

-- while one more is built
abbrev pub bound_with : Extensions → Db → Name → Rule → Rows → Key × Row → ℕ
bound_with ext db name rule built row = max (bound_over ext db name rule built) (bound_over ext db name rule (built ++ row ∷ []))

-- so many pages are no more than those while some row is built behind the rows in front of it
pub record IsWithinRow (ext : Extensions) (db : Db) (name : Name) (rule : Rule) (pages : ℕ) : Type 0 where
  pub built : Rows
  pub row : Key × Row
  pub next : IsNext (rows_at db name) built row
  pub within : pages ≤ bound_with ext db name rule built row

-- or than those over no rows
abbrev pub IsWithinBuild : Extensions → Db → Name → Rule → ℕ → Type 0
IsWithinBuild ext db name rule pages = (pages ≤ bound_over ext db name rule []) ⊎ IsWithinRow ext db name rule pages

-- ---- want of a page
-- At a moment on the way here no page was left beside a new owner, which had no more than the content of the rule takes while it is built.
pub record IsShortBuilding {S : Type 0} (Has : Wanted → Slots → S → Type 0) (Leads : ℕ → S → S → Type 0) (ext : Extensions) (x : Site) (name : Name)
    (rule : Rule) (now : S) (total : ℕ) : Type 0 where
  pub space : S
  pub leads : LeadsOn Leads space now
  pub slots : Slots
  pub has : Has x.want slots space
  pub owner : ℕ
  pub pages : ℕ
  pub within : IsWithinBuild ext (db_of x.kept) name rule pages
  pub short : IsShortBeside x.slots slots x.kept owner pages total
