-- What comes of edits and of wishes, for every relation that the pages hold.
use Rattle.std.proofs.Common.{◌≡◌, ℕ, List, Option, Some, Result, sym, ap, subst, ◌∙◌}
use Rattle.sb_rule.specs.declared.change.Change.{Change}
use Rattle.sb_relation.specs.Db.{Name, Key, Row, Relation, row_at}
use Rattle.sb_pred.specs.Columns.{column_value}
use Rattle.sb_value.specs.declared.schema.Column.{Column}
use Rattle.std.specs.Prelude.{ℤ}
use Rattle.sb_fold.specs.declared.refusal.Refusal.{Refusal}
use Rattle.sb_fold.specs.Outcome.{Work, made, ◌>>=◌}
use Rattle.sb_fold.specs.Wishes.{Raise, Edit, Turns, edit_of, found, raised}
use Rattle.sb_ctx.specs.declared.instance.Instance.{Instance}
use Rattle.sb_drive.specs.Slots.{Slots}
use Rattle.sb_drive.specs.Spaces.{Wanted}
use Rattle.sb_registry.specs.Boxes.{Meanings}
use Rattle.sb_drive.specs.declared.space.SpaceFault.{SpaceFault}
use Rattle.sb_standing.specs.Lacking.{WhereShort}
use Rattle.sb_standing.specs.Live.{HasRows}
use Rattle.sb_catalog.specs.declared.descriptor.Attached.{Attached}
use Rattle.sb_wishes.specs.declared.settling.Edit as code
use Rattle.sb_wishes.specs.declared.settling.Outcome.{Outcome}
use Rattle.sb_wishes.specs.Edits.{GivesEdit, edit_raised}
use Rattle.sb_wishes.specs.Outcomes.{Begins, Comes, LacksPage}
use Rattle.sb_wishes.specs.Wished.{IsTableOf}

-- this comes of the work on each relation of which something is so
abbrev pub ComesOf : {S : Type 0} → (Wanted → Slots → S → Type 0) → (ℕ → S → S → Type 0) → Meanings → Instance → List Attached → S → S → (Relation → Type 0) → (Relation → Work Change) → Outcome → Type 0
ComesOf Has Ways m inst rules old new IsSo work out =
    (want : Wanted) (s : Slots) (r : Relation) → Has want s old → IsTableOf inst rules r → (has : HasRows m s inst r.rows) → IsSo r → Comes Has Ways m inst want s old new r has (work r) out

abbrev pub ComesOfAll : {S : Type 0} → (Wanted → Slots → S → Type 0) → (ℕ → S → S → Type 0) → Meanings → Instance → List Attached → S → S → (Relation → Work Change) → Outcome → Type 0
ComesOfAll Has Ways m inst rules old new work out =
    (want : Wanted) (s : Slots) (r : Relation) → Has want s old → IsTableOf inst rules r → (has : HasRows m s inst r.rows) → Comes Has Ways m inst want s old new r has (work r) out

-- for work on each relation of which something is so no page was left
abbrev pub LacksOf : {S : Type 0} → (Wanted → Slots → S → Type 0) → (ℕ → S → S → Type 0) → Meanings → Instance → List Attached → S → S → (Relation → Type 0) → (Relation → Work Change) → SpaceFault → Type 0
LacksOf Has Ways m inst rules old new IsSo work e =
    (want : Wanted) (s : Slots) (r : Relation) → Has want s old → IsTableOf inst rules r → (has : HasRows m s inst r.rows) → IsSo r → WhereShort e (LacksPage Ways m s inst r has (work r) old new)

abbrev pub LacksOfAll : {S : Type 0} → (Wanted → Slots → S → Type 0) → (ℕ → S → S → Type 0) → Meanings → Instance → List Attached → S → S → (Relation → Work Change) → SpaceFault → Type 0
LacksOfAll Has Ways m inst rules old new work e =
    (want : Wanted) (s : Slots) (r : Relation) → Has want s old → IsTableOf inst rules r → (has : HasRows m s inst r.rows) → WhereShort e (LacksPage Ways m s inst r has (work r) old new)

-- and so much was begun
abbrev pub BeginsOf : {S : Type 0} → (Wanted → Slots → S → Type 0) → (ℕ → S → S → Type 0) → Meanings → Instance → List Attached → S → S → (Relation → Type 0) → (Relation → Work Change) → Type 0
BeginsOf Has Ways m inst rules old new IsSo work =
    (want : Wanted) (s : Slots) (r : Relation) → Has want s old → IsTableOf inst rules r → (has : HasRows m s inst r.rows) → IsSo r → Begins Ways m s inst r has (work r) old new

abbrev pub BeginsOfAll : {S : Type 0} → (Wanted → Slots → S → Type 0) → (ℕ → S → S → Type 0) → Meanings → Instance → List Attached → S → S → (Relation → Work Change) → Type 0
BeginsOfAll Has Ways m inst rules old new work =
    (want : Wanted) (s : Slots) (r : Relation) → Has want s old → IsTableOf inst rules r → (has : HasRows m s inst r.rows) → Begins Ways m s inst r has (work r) old new

-- ---- the edit of a number more
pub gives_raised : (name : Name) (r : Relation) (schema : List Column) (key : Key) (column : Name) (by : ℤ) (old : Row) (got : Result code.Edit Refusal) → r.schema ≡ schema → Some old ≡ row_at r.rows key
    → GivesEdit (edit_raised name schema key column by old) got → GivesEdit (edit_of name r (Raise key column by)) got
gives_raised name r schema key column by old got is there gives =
    subst (λ (w : Work Edit). GivesEdit w got)
    ((λ i. edit_raised name (sym is i) key column by old)
    ∙ ap (λ (o : Option Row). found name o >>= λ (x : Row). (raised name r.schema column by x (column_value r.schema (Some x) column) >>= λ new. made (Turns key x new))) there)
    gives
