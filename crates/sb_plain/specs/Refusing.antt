-- What is tested of a command before anything changes.
use Rattle.std.specs.Prelude.{ℕ, ◌==◌, nat_le, Bool, true, false, not, ◌&&◌, ◌||◌, cond, List, [], ◌∷◌, map, length, Option, Some, None, option_map, is_none, is_some}
use Rattle.std.specs.List.{list_any, find}
use Rattle.std.specs.Option.{option_or}
use Rattle.std.specs.Str.{bytes_eq}
use Rattle.sb_value.specs.declared.schema.Column.{Column}
use Rattle.sb_value.specs.Fits.{first_misfit, kind_of}
use Rattle.sb_pred.specs.Typing.{term_kind}
use Rattle.sb_rule.specs.declared.rule.Side.TheVariants.{Main}
use Rattle.sb_rule.specs.declared.rule.Rule.{Rule}
use Rattle.sb_rule.specs.declared.rule.Rule.TheVariants.{TreeIndex, HashIndex, JoinIndex, Refers, Trigger}
use Rattle.sb_rule.specs.Spelling.{rule_code}
use Rattle.sb_relation.specs.Build.{with_rule}
use Rattle.sb_relation.specs.Db.{Name, Row, Attached, Db, relation_at, schema_at}
use Rattle.sb_relation.specs.Fits.{relation_of, other_relations, first_missing, places_in, action_places, rule_places, first_unnamed, method_fits, kinds_at, are_one_kind, action_fits, rule_fits}
use Rattle.sb_relation.specs.Limits.{is_large_rule, is_crowded, has_large_descriptor}
use Rattle.sb_fold.specs.declared.refusal.Refusal.{Refusal}
use Rattle.sb_fold.specs.declared.refusal.Refusal.TheVariants as refusal
use Rattle.sb_fold.specs.Building.{rule_at}
use Rattle.sb_fold.specs.Extensions.{Extensions, box_of, method_of, is_durable_at}
use Rattle.sb_plain.specs.declared.command.Command.{Command}
use Rattle.sb_plain.specs.declared.command.Command.TheVariants as command
use Rattle.sb_plain.specs.State.{State, view, is_inside, points_of, is_point, has_waiting, codes_of, has_code}

-- the first refusal that comes
abbrev pub first_of : List (Option Refusal) → Option Refusal
first_of [] = None
first_of (None ∷ others) = first_of others
first_of (Some r ∷ others) = Some r

abbrev pub refuse_where : Bool → Refusal → Option Refusal
refuse_where true r = Some r
refuse_where false r = None

-- ---- commands that have no place here: inside a transaction, outside of one, or behind actions that wait
abbrev pub is_misplaced : State → Command → Bool
is_misplaced s command.Begin = is_inside s
is_misplaced s command.Checkpoint = is_inside s
is_misplaced s (command.Register method code) = is_inside s
is_misplaced s (command.Retire method code) = is_inside s
is_misplaced s command.Commit = not (is_inside s)
is_misplaced s command.Abort = not (is_inside s)
is_misplaced s (command.Savepoint name) = not (is_inside s)
is_misplaced s (command.Rollback name) = not (is_inside s)
is_misplaced s (command.Drop relation) = has_waiting s
is_misplaced s _ = false

-- ---- relations that are to be there, in the order of the line
abbrev pub relations_of : Command → List Name
relations_of (command.Drop relation) = relation ∷ []
relations_of (command.Attach relation name rule) = relation ∷ other_relations rule
relations_of (command.Detach relation name) = relation ∷ []
relations_of (command.Insert relation values) = relation ∷ []
relations_of (command.Delete relation at) = relation ∷ []
relations_of (command.Update relation at values) = relation ∷ []
relations_of (command.Act action) = relation_of action ∷ []
relations_of (command.Get relation at) = relation ∷ []
relations_of (command.Scan relation after limit) = relation ∷ []
relations_of (command.Lookup relation name values) = relation ∷ []
relations_of (command.Range relation name low high) = relation ∷ []
relations_of (command.Entries relation name) = relation ∷ []
relations_of (command.Show relation) = relation ∷ []
relations_of _ = []

-- ---- names that are to be new
-- the first name that stands in the list before
abbrev pub first_again : List Name → List Name → Option Name
first_again before [] = None
first_again before (name ∷ names) = cond (list_any (bytes_eq name) before) (Some name) (first_again (name ∷ before) names)

abbrev pub first_twice : List Name → Option Name
first_twice names = first_again [] names

abbrev pub some_where : Bool → Name → Option Name
some_where true name = Some name
some_where false name = None

-- a column that stands twice in one list of a rule
abbrev pub rule_twice : Rule → Option Name
rule_twice (TreeIndex columns unique) = first_twice columns
rule_twice (HashIndex columns) = first_twice columns
rule_twice (JoinIndex side columns other others) = option_or (first_twice columns) (first_twice others)
rule_twice (Refers side columns other others mode deferred) = option_or (first_twice columns) (first_twice others)
rule_twice _ = None

abbrev pub first_existing : State → Command → Option Name
first_existing s (command.Create relation method schema key) =
    option_or (some_where (is_some (relation_at (view s) relation)) relation) (option_or (first_twice (map (λ c. c.name) schema)) (first_twice key))
first_existing s (command.Attach relation name rule) = option_or (some_where (is_some (rule_at (view s) relation name)) name) (rule_twice rule)
first_existing s (command.Savepoint name) = some_where (list_any (is_point name) (points_of s)) name
first_existing s _ = None

-- ---- names that are to be there
abbrev pub unnamed : Option (List Column × Name) → Option Name
unnamed place = option_map (λ p. p.1) place

abbrev pub unattached : State → Name → Name → Option Name
unattached s relation name = some_where (is_none (rule_at (view s) relation name)) name

abbrev pub first_absent : State → Command → Option Name
first_absent s (command.Create relation method schema key) = unnamed (first_unnamed (places_in schema key))
first_absent s (command.Attach relation name rule) = unnamed (first_unnamed (rule_places (view s) (schema_at (view s) relation) rule))
first_absent s (command.Detach relation name) = unattached s relation name
first_absent s (command.Rollback name) = some_where (not (list_any (is_point name) (points_of s))) name
first_absent s (command.Act action) = unnamed (first_unnamed (action_places (schema_at (view s) (relation_of action)) [] action))
first_absent s (command.Lookup relation name values) = unattached s relation name
first_absent s (command.Range relation name low high) = unattached s relation name
first_absent s (command.Entries relation name) = unattached s relation name
first_absent s _ = None

-- ---- codes
abbrev pub code_where : Bool → ℕ → Option ℕ
code_where true code = Some code
code_where false code = None

abbrev pub missing_code : State → Command → Option ℕ
missing_code s (command.Create relation method schema key) = code_where (not (has_code s.live.methods method)) method
missing_code s (command.Attach relation name rule) = code_where (not (has_code s.live.attachments (rule_code rule))) (rule_code rule)
missing_code s (command.Register method code) = code_where (not (has_code (codes_of method s.spare) code)) code
missing_code s (command.Retire method code) = code_where (not (has_code (codes_of method s.live) code)) code
missing_code s _ = None

-- ---- what is in use
-- a main instance or a trigger that names the relation
abbrev pub ties_to : Name → Rule → Bool
ties_to name (JoinIndex Main columns other others) = bytes_eq other name
ties_to name (Refers Main columns other others mode deferred) = bytes_eq other name
ties_to name (Trigger on pred act deferred) = bytes_eq (relation_of act) name
ties_to name _ = false

-- the first attachment of the kind, by the names of the relations and in call order
abbrev pub first_attached : (Name → Attached → Bool) → Db → Option (Name × Name)
first_attached is_meant [] = None
first_attached is_meant ((name, r) ∷ others) = elim (find (is_meant name) r.attachments) [
  | None ↦ first_attached is_meant others
  | Some a ↦ Some (name, a.name)
]

-- a method has the name -
abbrev pub first_kept_by : ℕ → Db → Option (Name × Name)
first_kept_by method db = option_map (λ e. (e.0, 45 ∷ [])) (find (λ e. e.1.method == method) db)

abbrev pub first_use : Db → Command → Option (Name × Name)
first_use db (command.Drop relation) = first_attached (λ name a. not (bytes_eq name relation) && ties_to relation a.rule) db
first_use db (command.Retire true code) = first_kept_by code db
first_use db (command.Retire false code) = first_attached (λ name a. rule_code a.rule == code) db
first_use db _ = None

-- ---- kinds
abbrev pub values_fit : List Column → List Name → Row → Bool
values_fit schema columns values = are_one_kind (kinds_at schema columns) (map (λ v. Some (kind_of v)) values)

-- the columns of an index that a lookup may name, or a range
abbrev pub is_lookup : List Column → Option Attached → Row → Bool
is_lookup schema None values = false
is_lookup schema (Some a) values = elim a.rule [
  | TreeIndex columns unique ↦ values_fit schema columns values
  | HashIndex columns ↦ values_fit schema columns values
  | _ ↦ false
]

abbrev pub is_range : List Column → Option Attached → Row → Bool
is_range schema None values = false
is_range schema (Some a) values = elim a.rule [
  | TreeIndex columns unique ↦ values_fit schema columns values
  | _ ↦ false
]

abbrev pub row_fits : Db → Name → Row → Bool
row_fits db relation row = is_none (first_misfit (schema_at db relation) row)

abbrev pub is_well_kinded : Extensions → Db → Command → Bool
is_well_kinded ext db (command.Create relation method schema key) = method_fits (method_of ext method) method schema key
is_well_kinded ext db (command.Attach relation name rule) = rule_fits (box_of ext rule) db (schema_at db relation) rule
is_well_kinded ext db (command.Insert relation values) = row_fits db relation values
is_well_kinded ext db (command.Update relation at values) = row_fits db relation values
is_well_kinded ext db (command.Act action) = action_fits (schema_at db (relation_of action)) (term_kind [] false false) action
is_well_kinded ext db (command.Lookup relation name values) = is_lookup (schema_at db relation) (rule_at db relation name) values
is_well_kinded ext db (command.Range relation name low high) =
    is_range (schema_at db relation) (rule_at db relation name) low && is_range (schema_at db relation) (rule_at db relation name) high
is_well_kinded ext db _ = true

-- ---- ties between relations that outlive the run and others
abbrev pub differ_in_life : Extensions → Db → Name → Name → Bool
differ_in_life ext db a b = cond (is_durable_at ext db a) (not (is_durable_at ext db b)) (is_durable_at ext db b)

abbrev pub is_mixed_rule : Extensions → Db → Name → Rule → Bool
is_mixed_rule ext db relation (JoinIndex side columns other others) = bytes_eq relation other || differ_in_life ext db relation other
is_mixed_rule ext db relation (Refers side columns other others mode deferred) = differ_in_life ext db relation other
is_mixed_rule ext db relation (Trigger on pred act deferred) = differ_in_life ext db relation (relation_of act)
is_mixed_rule ext db relation _ = false

abbrev pub is_mixed : Extensions → Db → Command → Bool
is_mixed ext db (command.Attach relation name rule) = is_mixed_rule ext db relation rule
is_mixed ext db _ = false

-- ---- limits: a rule that is too large, a 17th attachment, a descriptor that is too large, a 65th savepoint
abbrev pub passes_limits : State → Command → Bool
passes_limits s (command.Attach relation name rule) =
    is_large_rule rule || is_crowded (view s) relation rule || has_large_descriptor relation rule (with_rule (view s) relation name rule)
passes_limits s (command.Savepoint name) = nat_le 64 (length (points_of s))
passes_limits s _ = false

-- ---- all of them, in their order
abbrev pub tests : Extensions → State → Command → List (Option Refusal)
tests ext s c =
    refuse_where s.down refusal.Down
    ∷ refuse_where (is_misplaced s c) refusal.State
    ∷ option_map refusal.NoRelation (first_missing (view s) (relations_of c))
    ∷ option_map refusal.Exists (first_existing s c)
    ∷ option_map refusal.NoName (first_absent s c)
    ∷ option_map refusal.NoExtension (missing_code s c)
    ∷ option_map (λ user. refusal.InUse user.0 user.1) (first_use (view s) c)
    ∷ refuse_where (not (is_well_kinded ext (view s) c)) refusal.Mistyped
    ∷ refuse_where (is_mixed ext (view s) c) refusal.Mixed
    ∷ refuse_where (passes_limits s c) refusal.Limit
    ∷ []

abbrev pub refused : Extensions → State → Command → Option Refusal
refused ext s c = first_of (tests ext s c)
