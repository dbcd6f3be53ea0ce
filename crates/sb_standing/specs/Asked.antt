-- What the pages of a store stand for while a change is asked of attachments.
use Rattle.std.specs.Prelude.{◌≡◌, ℕ, zero, suc, Bool, true, false, cond, List, [], ◌∷◌, map, All, Some, IfSome, bytes_eq}
use Rattle.sb_rule.specs.declared.change.Change.{Change}
use Rattle.sb_rule.specs.Bound.{row_after}
use Rattle.sb_relation.specs.Buckets.{grown}
use Rattle.sb_relation.specs.Changes.{changed, changed_rows, with_change}
use Rattle.sb_relation.specs.Db
use Rattle.sb_relation.specs.Db.{Name, Relation, relation_at}
use Rattle.sb_relation.specs.Lawful.{IsRow, is_too_long}
use Rattle.sb_rows.specs.Attachment.{AreKeys, IsChangeOf}
use Rattle.sb_rows.specs.Boxes.{Meanings}
use Rattle.sb_rows.specs.Slots.{Slots}
use Rattle.sb_catalog.specs.declared.descriptor.Attached.{Attached}
use Rattle.sb_standing.specs.Tables.{Kept, db_of, Tables}
use Rattle.sb_standing.specs.Standing.{EachRule, IsKept, KeepsRules, has_no_join, owners_in, Own}

-- ---- a change
-- the change is one of the relation's rows, under record keys, and its new row is one that the relation may have
pub record Suits (r : Relation) (c : Change) : Type 0 where
  pub of : IsChangeOf r.rows c
  pub keys : AreKeys c
  pub new : IfSome (row_after c) (λ row. IsRow r.schema row × (is_too_long r row ≡ false))

-- the relations after a change of the named one
abbrev pub change_kept : Name → Change → Kept → Kept
change_kept name c k = cond (bytes_eq k.name name) (record k { relation = with_change k.relation c (changed_rows k.relation.rows c) }) k

abbrev pub changed_kept : Name → Change → List Kept → List Kept
changed_kept name c kept = map (change_kept name c) kept

-- ---- its attachments, one by one
-- so of the first so many attachments, and otherwise of those behind them
abbrev pub SplitRules : (Attached → Db.Attached → Type 0) → (Attached → Db.Attached → Type 0) → ℕ → List Attached → List Db.Attached → Type 0
SplitRules First Behind zero ds others = EachRule Behind ds others
SplitRules First Behind (suc i) [] [] = Unit {0}
SplitRules First Behind (suc i) (d ∷ ds) [] = ⊥
SplitRules First Behind (suc i) [] (a ∷ others) = ⊥
SplitRules First Behind (suc i) (d ∷ ds) (a ∷ others) = First d a × SplitRules First Behind i ds others

-- an attachment of the changed relation is kept over the changed database, perhaps in more buckets
abbrev pub IsKeptAfter : Meanings → (ℕ → Bool) → Slots → Db.Db → Change → Kept → Attached → Db.Attached → Type 0
IsKeptAfter m durable s after c k d a = IsKept m durable s after k d (grown c (changed_rows k.relation.rows c) a)

-- the first so many of the changed relation's are kept so and its others over the database before, those of other relations over the changed one
abbrev pub AsksRulesIf : Bool → Meanings → (ℕ → Bool) → Slots → Db.Db → Db.Db → Change → ℕ → Kept → Type 0
AsksRulesIf true m durable s before after c i k =
    SplitRules (IsKeptAfter m durable s after c k) (IsKept m durable s before k) i k.descriptor.attachments k.relation.attachments
AsksRulesIf false m durable s before after c i k = KeepsRules m durable s after k

abbrev pub AsksRules : Meanings → (ℕ → Bool) → Slots → Db.Db → Name → Change → ℕ → Kept → Type 0
AsksRules m durable s before name c i k = AsksRulesIf (bytes_eq k.name name) m durable s before (changed before name c) c i k

-- The rows of the named relation are changed, and this change was asked of so many of its attachments, the first of them. All else stands for the changed database.
pub record Asks (m : Meanings) (durable : ℕ → Bool) (root : ℕ) (s : Slots) (gone : List ℕ) (before : List Kept) (name : Name) (c : Change) (i : ℕ) : Type 0 where
  pub relation : Relation
  pub there : relation_at (db_of before) name ≡ Some relation
  pub suits : Suits relation c
  pub tables : Tables m durable root s (changed_kept name c before)
  pub rules : All (AsksRules m durable s (db_of before) name c i) before
  pub joinless : All (λ k. has_no_join k ≡ true) before
  pub own : Own s (owners_in before) gone
