-- What comes of a piece of work on a database.
use Rattle.std.specs.Prelude.{◌≡◌, ℕ, Bool, true, false, cond, List, [], ◌∷◌, ◌++◌, Option}
use Rattle.std.specs.List.{list_any}
use Rattle.std.specs.Str.{bytes_eq}
use Rattle.sb_rule.specs.declared.action.Action.{Action}
use Rattle.sb_rule.specs.declared.change.Change.{Change}
use Rattle.sb_relation.specs.Db.{Name, Key, Db}
use Rattle.sb_fold.specs.declared.refusal.Refusal.{Refusal}

-- an entry that an attachment tests at the commit
pub record Entry : Type 0 where
  pub relation : Name
  pub name : Name
  pub entry : List ℕ

-- what waits for the commit, in the order in which it came
pub record Queue : Type 0 where
  pub actions : List Action
  pub entries : List Entry

-- the most pages of each instance that was dropped or detached: those of relations that outlive a run, and the others
pub record Gone : Type 0 where
  pub durable : List ℕ
  pub others : List ℕ

-- A point that work reaches. Between the two databases a change of a relation may lie; pages are held aside for what is gone and for what is
-- built; so much was spent up to here.
pub record Reached : Type 0 where
  pub before : Db
  pub after : Db
  pub change : Option (Name × Change)
  pub aside : Gone
  pub spent : ℕ

-- what work spent and which points it reached, whether it ends well or not
pub record Trail : Type 0 where
  pub spent : ℕ
  pub points : List Reached

-- the database as it stands, what waits, what is gone, the picks that are left and those that were used, and the trail
pub record Going : Type 0 where
  pub db : Db
  pub queue : Queue
  pub gone : Gone
  pub picks : List Key
  pub used : List Key
  pub trail : Trail

-- work begins with these picks, when so much was spent before
abbrev pub begun : Db → Queue → Gone → ℕ → List Key → Going
begun db queue gone spent picks =
    record { db = db; queue = queue; gone = gone; picks = picks; used = []; trail = record { spent = spent; points = [] } }

-- a trail with an end: a value and what stands then, a refusal, or nothing, where these picks give no step
pub data Outcome (A : Type 0) : Type 0 where
  Gives : A → Going → Outcome A
  Stopped : Refusal → Trail → Outcome A
  NoStep : Trail → Outcome A

-- ---- work, which is made in three ways alone, and joined
abbrev pub Work : Type 0 → Type 0
Work A = Going → Outcome A

abbrev pub made : {A : Type 0} → A → Work A
made x going = Gives x going

abbrev pub refuse : {A : Type 0} → Refusal → Work A
refuse r going = Stopped r going.trail

abbrev pub no_step : {A : Type 0} → Work A
no_step going = NoStep going.trail

-- what ends badly ends all that would follow
abbrev pub continue : {A B : Type 0} → (A → Work B) → Outcome A → Outcome B
continue next (Gives x going) = next x going
continue next (Stopped r trail) = Stopped r trail
continue next (NoStep trail) = NoStep trail

infixl 10 ◌>>=◌
abbrev pub ◌>>=◌ : {A B : Type 0} → Work A → (A → Work B) → Work B
(work >>= next) going = continue next (work going)

abbrev pub refuse_if : Bool → Refusal → Work (Unit {0})
refuse_if true r = refuse r
refuse_if false r = made tt

-- what stands is changed in one way
abbrev pub change_to : (Going → Going) → Work (Unit {0})
change_to f going = Gives tt (f going)

abbrev pub with_db : Db → Going → Going
with_db db going = record going { db = db }

-- the trail goes on by a point
abbrev pub with_point : Reached → Trail → Trail
with_point point trail = record { spent = point.spent; points = trail.points ++ point ∷ [] }

-- the trail of all that comes of work
abbrev pub trail_of : {A : Type 0} → Outcome A → Trail
trail_of (Gives x going) = going.trail
trail_of (Stopped r trail) = trail
trail_of (NoStep trail) = trail

-- ---- what waits
-- each entry waits once, where it first came
abbrev pub is_entry : Entry → Entry → Bool
is_entry a b = cond (bytes_eq a.relation b.relation) (cond (bytes_eq a.name b.name) (bytes_eq a.entry b.entry) false) false

abbrev pub with_waiting : List Entry → List Entry → List Entry
with_waiting waiting [] = waiting
with_waiting waiting (entry ∷ entries) = with_waiting (cond (list_any (is_entry entry) waiting) waiting (waiting ++ entry ∷ [])) entries

-- ---- whatever picks follow
abbrev pub with_picks : Going → List Key → Going
with_picks going picks = record going { picks = picks }

-- With these picks, and whatever picks follow, the work from the one state comes to what other work comes to from the other state. Where the other
-- work is `made x`, it carries on to x; where it is `refuse r`, it is refused.
pub record Leads {A : Type 0} (work : Work A) (old : Going) (picks : List Key) (other : Work A) (new : Going) : Type 0 where
  pub leads : (more : List Key) → work (with_picks old (picks ++ more)) ≡ other (with_picks new more)
