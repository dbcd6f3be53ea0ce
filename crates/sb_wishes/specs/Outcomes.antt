-- What comes of work on one row, over a space of pages.
use Rattle.std.specs.Prelude.{◌≡◌, ◌⊎◌, ℕ, max, false, List, [], ◌++◌, length, All, IfSome}
use Rattle.sb_value.specs.declared.schema.Column.{Column}
use Rattle.sb_value.specs.Fits.{Fits}
use Rattle.sb_rule.specs.declared.change.Change.{Change}
use Rattle.sb_rule.specs.Bound.{row_before, row_after}
use Rattle.sb_relation.specs.Changes.{changed_rows}
use Rattle.sb_relation.specs.Db.{Key, Relation}
use Rattle.sb_relation.specs.Lawful.{IsRow, is_long_for}
use Rattle.sb_fold.specs.declared.refusal.Refusal.{Refusal}
use Rattle.sb_fold.specs.Outcome.{Going, Work, made, refuse, Leads}
use Rattle.sb_cascade.specs.Runs.{IsQuiet}
use Rattle.sb_ctx.specs.declared.instance.Instance.{Instance}
use Rattle.sb_ctx.specs.Attachment.{AreKeys}
use Rattle.sb_ctx.specs.Method.{call_of}
use Rattle.sb_drive.specs.Slots.{Slots}
use Rattle.sb_drive.specs.Spaces.{LeadsWithin, Wanted}
use Rattle.sb_registry.specs.Boxes.{Meanings}
use Rattle.sb_standing.specs.Lacking.{IsShort}
use Rattle.sb_standing.specs.Live.{HasRows, LeavesRows}
use Rattle.sb_catalog.specs.declared.descriptor.Attached.{Attached}
use Rattle.sb_standing.specs.Asked.{Suits}
use Rattle.sb_wishes.specs.declared.settling.Outcome.{Outcome}
use Rattle.sb_wishes.specs.declared.settling.Outcome.TheVariants.{Made, Refused}
use Rattle.sb_wishes.specs.Wished.{HasCounts}

-- With some picks, and whatever picks follow, the work gives this change of the relation's rows; the pages hold the changed ones, within the call's cost.
pub record Makes {S : Type 0} (Has : Wanted → Slots → S → Type 0) (Ways : ℕ → S → S → Type 0) (m : Meanings) (inst : Instance)
    (want : Wanted) (s : Slots) (old new : S) (r : Relation) (has : HasRows m s inst r.rows) (work : Work Change) (c : Change) : Type 0 where
  pub picks : List Key
  pub wished : (g : Going) → Leads work g picks (made c) (record g { used = g.used ++ picks })
  pub suits : HasCounts r → Suits r c
  pub leaves : LeavesRows Has m inst want s new (changed_rows r.rows c)
  pub cost : LeadsWithin Ways (has.live.box.cost (call_of c) r.rows) old new

-- Without picks, and whatever picks follow, the work is refused so; the pages hold the rows as they were, and nothing was changed.
pub record Refuses {S : Type 0} (Has : Wanted → Slots → S → Type 0) (Ways : ℕ → S → S → Type 0) (m : Meanings) (inst : Instance)
    (want : Wanted) (s : Slots) (old new : S) (r : Relation) (work : Work Change) (e : Refusal) : Type 0 where
  pub refused : (g : Going) → Leads work g [] (refuse e) g
  pub leaves : LeavesRows Has m inst want s new r.rows
  pub cost : Ways 0 old new

abbrev pub Comes : {S : Type 0} (Has : Wanted → Slots → S → Type 0) (Ways : ℕ → S → S → Type 0) (m : Meanings) (inst : Instance)
    (want : Wanted) (s : Slots) (old new : S) (r : Relation) → HasRows m s inst r.rows → Work Change → Outcome → Type 0
Comes Has Ways m inst want s old new r has work (Made c) = Makes Has Ways m inst want s old new r has work c
Comes Has Ways m inst want s old new r has work (Refused e) = Refuses Has Ways m inst want s old new r work e

-- ---- what was begun where a space refuses it
-- with some picks, and whatever picks follow, the work gives a change of the relation's rows, and no more was changed than its call costs
pub record IsBegun {S : Type 0} (Ways : ℕ → S → S → Type 0) (m : Meanings) (s : Slots) (inst : Instance) (r : Relation) (has : HasRows m s inst r.rows)
    (work : Work Change) (old new : S) : Type 0 where
  pub change : Change
  pub picks : List Key
  pub wished : (g : Going) → Leads work g picks (made change) (record g { used = g.used ++ picks })
  pub cost : LeadsWithin Ways (has.live.box.cost (call_of change) r.rows) old new

-- or nothing was changed
abbrev pub Begins : {S : Type 0} (Ways : ℕ → S → S → Type 0) (m : Meanings) (s : Slots) (inst : Instance) (r : Relation) → HasRows m s inst r.rows
    → Work Change → S → S → Type 0
Begins Ways m s inst r has work old new = Ways 0 old new ⊎ IsBegun Ways m s inst r has work old new

-- ---- want of a page
-- With some picks, and whatever picks follow, the work gives a change of the relation's rows; for the call that makes it no page was left, and no more was
-- changed than the call costs.
pub record LacksPage {S : Type 0} (Ways : ℕ → S → S → Type 0) (m : Meanings) (s : Slots) (inst : Instance) (r : Relation) (has : HasRows m s inst r.rows)
    (work : Work Change) (old new : S) (total : ℕ) : Type 0 where
  pub change : Change
  pub picks : List Key
  pub wished : (g : Going) → Leads work g picks (made change) (record g { used = g.used ++ picks })
  pub short : HasCounts r
      → IsShort s inst.owner (max (has.live.box.bound (length r.rows)) (has.live.box.bound (length (changed_rows r.rows change)))) total
  pub cost : LeadsWithin Ways (has.live.box.cost (call_of change) r.rows) old new

-- ---- whatever the pages hold
-- the change has record keys, and rows that the relation may have
pub record MayBeMade (schema : List Column) (rules : List Attached) (c : Change) : Type 0 where
  pub keys : AreKeys c
  pub old : IfSome (row_before c) (Fits schema)
  pub new : IfSome (row_after c) (λ row. IsRow schema row × All (λ a. is_long_for schema row a.rule ≡ false) rules)

abbrev pub Meets : List Column → List Attached → Outcome → Type 0
Meets schema rules (Made c) = MayBeMade schema rules c
Meets schema rules (Refused e) = IsQuiet e
