-- Which databases are lawful, and which are sound.
use Rattle.std.specs.Prelude.{◌≡◌, nat_le, Bool, true, false, not, ◌&&◌, T, List, [], ◌∷◌, map, All, Option, Some, None}
use Rattle.std.specs.FinMap.Entries.{is_sorted}
use Rattle.sb_value.specs.Order.{bytes_cmp}
use Rattle.sb_value.specs.Spelling.{IsStorable}
use Rattle.sb_codec.specs.Tuples.{IsTuple}
use Rattle.sb_pred.specs.declared.predicate.Term.TheVariants.{Const}
use Rattle.sb_rule.specs.declared.action.Action.{Action}
use Rattle.sb_rule.specs.declared.action.Action.TheVariants as action
use Rattle.sb_rule.specs.declared.change.Change.{Change}
use Rattle.sb_rule.specs.declared.change.Change.TheVariants as change
use Rattle.sb_rule.specs.declared.rule.Rule.{Rule}
use Rattle.sb_rule.specs.declared.rule.Rule.TheVariants.{Check, Refers, Trigger}
use Rattle.sb_rule.specs.Spelling.{rule_code}
use Rattle.sb_relation.specs.Build.{mirror_name, mirror_of}
use Rattle.sb_relation.specs.Db.{Name, Key, Row, Attached, Relation, Db, relation_at, key_of}
use Rattle.sb_relation.specs.Keys.{is_record_key}
use Rattle.sb_relation.specs.Lawful.{IsRow, is_too_long}
use Rattle.sb_relation.specs.Laws.{is_foreign}
use Rattle.sb_relation.specs.Rules.{holds}
use Rattle.sb_fold.specs.Building.{HasMirror, rule_at, without_rule, without_relation}
use Rattle.sb_fold.specs.Extensions.{Extensions, box_of}
use Rattle.sb_plain.specs.declared.command.Command.{Command}
use Rattle.sb_plain.specs.declared.command.Command.TheVariants as command
use Rattle.sb_plain.specs.Printing.{is_mirror}
use Rattle.sb_plain.specs.Refusing.{relations_of, first_twice, first_existing, first_absent, is_well_kinded, is_mixed, passes_limits}
use Rattle.sb_plain.specs.State.{State, Codes, Point, Transaction}
use Rattle.sb_relation.specs.Fits.{first_missing}

-- ---- what the language could have made
abbrev pub no_codes : Codes
no_codes = record { methods = []; attachments = [] }

-- outside a transaction, over one database
abbrev pub only : Db → State
only db = record { live = no_codes; spare = no_codes; commits = db ∷ []; transaction = None; down = false }

-- a command isn't refused for names, kinds, ties or limits
pub record MayBe (ext : Extensions) (db : Db) (c : Command) : Type 0 where
  pub there : first_missing db (relations_of c) ≡ None
  pub new : first_existing (only db) c ≡ None
  pub named : first_absent (only db) c ≡ None
  pub fits : is_well_kinded ext db c ≡ true
  pub alike : is_mixed ext db c ≡ false
  pub within : passes_limits (only db) c ≡ false

-- each main instance could be attached over the database without it and its mirror
abbrev pub MayBeAttached : Extensions → Db → Name → Attached → Type 0
MayBeAttached ext db name a = is_mirror a.rule ≡ false → MayBe ext (without_rule db name a) (command.Attach name a.name a.rule)

-- ---- mirrors stand in pairs
-- a mirror is that of a main instance
pub record IsMirrorOf (db : Db) (name : Name) (a : Attached) : Type 0 where
  pub other : Name
  pub main : Attached
  pub stands : rule_at db other main.name ≡ Some main
  pub label : a.name ≡ mirror_name other main.name
  pub mirror : mirror_of other main.rule ≡ Some (name, a.rule)

-- ---- lawful
-- in call order
abbrev pub is_in_order : List Attached → Bool
is_in_order [] = true
is_in_order (a ∷ []) = true
is_in_order (a ∷ b ∷ others) = nat_le (rule_code a.rule) (rule_code b.rule) && is_in_order (b ∷ others)

-- a row fits its columns and isn't too long, and its key is a record key: of a tree the ordered code of its key columns
pub record IsRowOf (r : Relation) (key : Key) (row : Row) : Type 0 where
  pub stored : IsRow r.schema row
  pub short : is_too_long r row ≡ false
  pub keyed : is_record_key key ≡ true
  pub coded : r.method ≡ 2 → key ≡ key_of r row

-- the row that a change brings is one that the relation may have
abbrev pub IsChangeOf : Relation → Change → Type 0
IsChangeOf r (change.Insert key new) = IsRowOf r key new
IsChangeOf r (change.Delete key old) = Unit {0}
IsChangeOf r (change.Update from old to new) = IsRowOf r to new

pub record IsLawfulRelation (ext : Extensions) (db : Db) (name : Name) (r : Relation) : Type 0 where
  pub created : MayBe ext (without_relation db name) (command.Create name r.method r.schema r.key)
  pub attached : All (MayBeAttached ext db name) r.attachments
  pub mirrored : All (λ a. HasMirror db (mirror_name name a.name) (mirror_of name a.rule)) r.attachments
  pub mirrors : All (λ a. is_mirror a.rule ≡ true → IsMirrorOf db name a) r.attachments
  pub in_order : is_in_order r.attachments ≡ true
  pub apart : first_twice (map (λ a. a.name) r.attachments) ≡ None
  pub rising : T (is_sorted bytes_cmp r.rows)
  pub rows : All (λ row. IsRowOf r row.0 row.1) r.rows

pub record IsLawful (ext : Extensions) (db : Db) : Type 0 where
  pub rising : T (is_sorted bytes_cmp db)
  pub relations : All (λ e. IsLawfulRelation ext db e.0 e.1) db

-- ---- sound
abbrev pub is_deferred : Rule → Bool
is_deferred (Check pred deferred) = deferred
is_deferred (Refers side columns other others mode deferred) = deferred
is_deferred _ = false

abbrev pub AllHold : Extensions → (Rule → Bool) → Db → Type 0
AllHold ext is_meant db = All (λ e. All (λ a. is_meant a.rule ≡ true → holds (box_of ext a.rule) db e.0 a.rule ≡ true) e.1.attachments) db

-- every rule with a code of ours holds; and those that aren't deferred
abbrev pub IsSound : Extensions → Db → Type 0
IsSound ext db = AllHold ext (λ rule. not (is_foreign rule)) db

abbrev pub IsSoundNow : Extensions → Db → Type 0
IsSoundNow ext db = AllHold ext (λ rule. not (is_foreign rule) && not (is_deferred rule)) db

-- a rule that sees one relation's rows alone, and from which nothing follows
abbrev pub is_alone : Rule → Bool
is_alone (Refers side columns other others mode deferred) = false
is_alone (Trigger on pred act deferred) = false
is_alone _ = true

abbrev pub AreAlone : Relation → Type 0
AreAlone r = All (λ a. is_alone a.rule ≡ true) r.attachments

abbrev pub IsAloneAt : Db → Name → Type 0
IsAloneAt db name = (r : Relation) → relation_at db name ≡ Some r → AreAlone r

abbrev pub IsRowAction : Db → Action → Type 0
IsRowAction db (action.Delete relation pairs) = IsAloneAt db relation
IsRowAction db (action.Set relation column (Const v) pairs) = IsStorable v × IsAloneAt db relation
IsRowAction db (action.Add relation column term pairs) = IsAloneAt db relation
IsRowAction db _ = ⊥

-- a command on a row of such a relation, with a row that can be stored; or one on the rows that match
abbrev pub IsRowCommand : Db → Command → Type 0
IsRowCommand db (command.Insert relation values) = IsTuple values × IsAloneAt db relation
IsRowCommand db (command.Delete relation at) = IsAloneAt db relation
IsRowCommand db (command.Update relation at values) = IsTuple values × IsAloneAt db relation
IsRowCommand db (command.Act act) = IsRowAction db act
IsRowCommand db _ = ⊥

-- ---- states
-- each database of a state is lawful; each commit is sound, and an open one but for what is deferred
pub record IsLawfulPoint (ext : Extensions) (p : Point) : Type 0 where
  pub lawful : IsLawful ext p.db
  pub sound : IsSoundNow ext p.db

pub record IsLawfulTransaction (ext : Extensions) (t : Transaction) : Type 0 where
  pub lawful : IsLawful ext t.db
  pub sound : IsSoundNow ext t.db
  pub points : All (IsLawfulPoint ext) t.points

abbrev pub MayBeOpen : Extensions → Option Transaction → Type 0
MayBeOpen ext None = Unit {0}
MayBeOpen ext (Some t) = IsLawfulTransaction ext t

pub record IsLawfulState (ext : Extensions) (s : State) : Type 0 where
  pub commits : All (IsLawful ext) s.commits
  pub sound : All (IsSound ext) s.commits
  pub open_one : MayBeOpen ext s.transaction
