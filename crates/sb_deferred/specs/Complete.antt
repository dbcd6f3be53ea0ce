-- When what waits tells which deferred rules may fail.
use Rattle.std.specs.Prelude.{◌≡◌, ℕ, Bool, true, ◌||◌, List, All, Some, None}
use Rattle.std.specs.List.{list_any, list_all}
use Rattle.sb_codec.specs.Tuples.{tuple_spelling}
use Rattle.sb_pred.specs.Tree.{Tree}
use Rattle.sb_pred.specs.Truth.{truth}
use Rattle.sb_rule.specs.declared.change.Change.{Change}
use Rattle.sb_rule.specs.declared.change.Change.TheVariants as change
use Rattle.sb_rule.specs.declared.rule.Side.TheVariants.{Main}
use Rattle.sb_rule.specs.declared.rule.Rule.{Rule}
use Rattle.sb_rule.specs.declared.rule.Rule.TheVariants.{Check, Refers}
use Rattle.sb_relation.specs.Build.{mirror_name, mirror_of}
use Rattle.sb_relation.specs.Db.{Name, Rows, Attached, Db, row_at, rows_at, schema_at}
use Rattle.sb_relation.specs.Rules.{has_row_with, values_at}
use Rattle.sb_fold.specs.Building.{HasMirror}
use Rattle.sb_fold.specs.Fold.{attachments_at}
use Rattle.sb_fold.specs.Outcome.{Queue, is_entry}
use Rattle.sb_deferred.specs.Waiting.{check_of}

-- ---- what waits
-- the entry of a relation's attachment waits
abbrev pub is_waiting : Queue → Name → Name → List ℕ → Bool
is_waiting q relation name entry = list_any (is_entry (check_of relation name entry)) q.entries

abbrev pub IsWaiting : Queue → Name → Name → List ℕ → Type 0
IsWaiting q relation name entry = is_waiting q relation name entry ≡ true

-- an entry of a refers waits for itself, or for its mirror on the other relation
abbrev pub is_either_waiting : Queue → Name → Name → Name → List ℕ → Bool
is_either_waiting q relation name other entry = is_waiting q relation name entry || is_waiting q other (mirror_name relation name) entry

-- ---- what it tells
-- of each row the predicate holds, or the row's entry waits
abbrev pub tells_check : Db → Queue → Name → Name → Tree → Bool
tells_check db q relation name pred =
    list_all (λ row. truth (schema_at db relation) None (Some row.1) pred || is_waiting q relation name (tuple_spelling row.1)) (rows_at db relation)

-- each row has a parent, or the entry of its values waits
abbrev pub tells_refers : Db → Queue → Name → Name → List Name → Name → List Name → Bool
tells_refers db q relation name columns other others =
    list_all (λ row. let values = values_at db relation columns row.1 in
    has_row_with db other others values || is_either_waiting q relation name other (tuple_spelling values)) (rows_at db relation)

-- of a deferred check, and of the main side of a deferred refers: of each row of which it fails the entry waits
abbrev pub tells_of : Db → Queue → Name → Name → Rule → Bool
tells_of db q relation name (Check pred true) = tells_check db q relation name pred
tells_of db q relation name (Refers Main columns other others mode true) = tells_refers db q relation name columns other others
tells_of db q relation name _ = true

abbrev pub TellsOf : Db → Queue → Name → Attached → Type 0
TellsOf db q relation a = tells_of db q relation a.name a.rule ≡ true

-- of every attachment of every relation
abbrev pub IsComplete : Db → Queue → Type 0
IsComplete db q = (relation : Name) → All (TellsOf db q relation) (attachments_at db relation)

-- ---- mirrors stand in pairs
-- each main instance of two sides has its mirror on the other relation
abbrev pub AreMirrored : Db → Type 0
AreMirrored db = (relation : Name) → All (λ a. HasMirror db (mirror_name relation a.name) (mirror_of relation a.rule)) (attachments_at db relation)

-- ---- changes
-- the change is one of these rows
abbrev pub IsChangeOf : Rows → Change → Type 0
IsChangeOf rows (change.Insert key new) = row_at rows key ≡ None
IsChangeOf rows (change.Delete key old) = row_at rows key ≡ Some old
IsChangeOf rows (change.Update from old to new) = (row_at rows from ≡ Some old) × ((to ≡ from → ⊥) → row_at rows to ≡ None)
