-- What rules admit, what follows from a change, what it queues, and when a rule holds of a whole relation.
use Rattle.std.specs.Prelude.{ℕ, Bool, true, false, cond, not, ◌&&◌, ◌||◌, List, [], ◌∷◌, Option, Some, None, map, zip, option_map}
use Rattle.std.specs.List.{list_any, list_all}
use Rattle.std.specs.Str.{bytes_eq}
use Rattle.sb_value.specs.declared.value.Value.{Value}
use Rattle.sb_value.specs.declared.schema.Column.{Column}
use Rattle.sb_value.specs.Equal.{tuple_eq}
use Rattle.sb_codec.specs.Tuples.{tuple_spelling}
use Rattle.sb_pred.specs.declared.predicate.Term.TheVariants.{Const}
use Rattle.sb_pred.specs.Tree.{Tree}
use Rattle.sb_pred.specs.Truth.{truth}
use Rattle.sb_rule.specs.declared.rule.Side.{Side}
use Rattle.sb_rule.specs.declared.rule.Side.TheVariants.{Main, Mirror}
use Rattle.sb_rule.specs.declared.rule.Mode.{Mode}
use Rattle.sb_rule.specs.declared.rule.Mode.TheVariants.{Restrict, Cascade}
use Rattle.sb_rule.specs.declared.rule.Event.{Event}
use Rattle.sb_rule.specs.declared.rule.Event.TheVariants as event
use Rattle.sb_rule.specs.declared.action.Action.{Action}
use Rattle.sb_rule.specs.declared.action.Action.TheVariants as action
use Rattle.sb_rule.specs.declared.change.Change.{Change}
use Rattle.sb_rule.specs.declared.change.Change.TheVariants as change
use Rattle.sb_rule.specs.declared.rule.Rule.{Rule}
use Rattle.sb_rule.specs.declared.rule.Rule.TheVariants.{TreeIndex, HashIndex, JoinIndex, Stats, Check, Refers, Trigger, Foreign}
use Rattle.sb_rule.specs.Bound.{row_before, row_after, bound}
use Rattle.sb_relation.specs.Db.{Name, Key, Row, Rows, Db, rows_at, schema_at, values_in}
use Rattle.sb_relation.specs.Foreign.{AttachRules}
use Rattle.sb_relation.specs.Changes.{of_new, of_old}

-- ---- rows by their columns
-- the row has these values in the named columns
abbrev pub has_values : List Column → List Name → List Value → Row → Bool
has_values schema names values row = tuple_eq (values_in schema row names) values

-- some row of the relation has these values
abbrev pub has_row_with : Db → Name → List Name → List Value → Bool
has_row_with db name names values = list_any (λ row. has_values (schema_at db name) names values row.1) (rows_at db name)

-- some row under another key has these values
abbrev pub has_other_with : Db → Name → List Name → List Value → Key → Bool
has_other_with db name names values key =
    list_any (λ row. not (bytes_eq row.0 key) && has_values (schema_at db name) names values row.1) (rows_at db name)

-- the values of a row of the relation in the named columns
abbrev pub values_at : Db → Name → List Name → Row → List Value
values_at db name names row = values_in (schema_at db name) row names

-- ---- what a rule on the named relation admits, over the changed database
-- the new row's values in these columns stand in no other row
abbrev pub admits_unique : Db → Name → List Name → Change → Bool
admits_unique db name columns c = of_new c (λ key new. not (has_other_with db name columns (values_at db name columns new) key))

-- the predicate holds of the new row
abbrev pub admits_check : Db → Name → Tree → Change → Bool
admits_check db name pred c = of_new c (λ key new. truth (schema_at db name) None (Some new) pred)

-- the new row's values stand in some parent row
abbrev pub admits_child : Db → Name → List Name → Name → List Name → Change → Bool
admits_child db name columns other others c = of_new c (λ key new. has_row_with db other others (values_at db name columns new))

-- the old row's values stand in some parent row still, or in no child row
abbrev pub admits_parent : Db → Name → List Name → Name → List Name → Change → Bool
admits_parent db name columns other others c =
    of_old c (λ old. let values = values_at db name columns old in has_row_with db name columns values || not (has_row_with db other others values))

abbrev pub admits_refers : Side → Mode → Db → Name → List Name → Name → List Name → Change → Bool
admits_refers Main mode = admits_child
admits_refers Mirror Restrict = admits_parent
admits_refers Mirror Cascade = λ db name columns other others c. true

-- an extension that isn't there admits nothing
abbrev pub admits_foreign : Option AttachRules → List ℕ → Db → Name → Change → Bool
admits_foreign None desc db name c = false
admits_foreign (Some box) desc db name c = box.admits desc db name c

-- A deferred rule admits all. The first argument is the extension of a foreign rule's code.
abbrev pub admits : Option AttachRules → Db → Name → Rule → Change → Bool
admits box db name (TreeIndex columns unique) c = not unique || admits_unique db name columns c
admits box db name (HashIndex columns) c = true
admits box db name (JoinIndex side columns other others) c = true
admits box db name (Stats column low width) c = true
admits box db name (Check pred deferred) c = deferred || admits_check db name pred c
admits box db name (Refers side columns other others mode deferred) c = deferred || admits_refers side mode db name columns other others c
admits box db name (Trigger on pred act deferred) c = true
admits box db name (Foreign code desc) c = admits_foreign box desc db name c

-- ---- what follows from a change at once, and what it queues
-- the rows with these values are to be deleted
abbrev pub delete_those : Name → List Name → List Value → Action
delete_those name names values = action.Delete name (map (λ pair. (pair.0, Const pair.1)) (zip names values))

-- the children with the old row's values go, where these stand in no parent row any more
abbrev pub cascade : Db → Name → List Name → Name → List Name → Option Row → List Action
cascade db name columns other others None = []
cascade db name columns other others (Some old) =
    let values = values_at db name columns old in cond (has_row_with db name columns values) [] (delete_those other others values ∷ [])

abbrev pub is_event : Event → Change → Bool
is_event event.Insert (change.Insert key new) = true
is_event event.Delete (change.Delete key old) = true
is_event event.Update (change.Update from old to new) = true
is_event _ _ = false

-- a trigger's action, bound to the change, where that is of its event and meets its predicate
abbrev pub triggered : List Column → Event → Tree → Action → Change → List Action
triggered schema on pred act c = cond (is_event on c && truth schema (row_before c) (row_after c) pred) (bound schema c act ∷ []) []

abbrev pub follows : Db → Name → Rule → Change → List Action
follows db name (Refers Mirror columns other others Cascade deferred) c = cascade db name columns other others (row_before c)
follows db name (Trigger on pred act deferred) c = cond deferred [] (triggered (schema_at db name) on pred act c)
follows db name _ c = []

-- the actions that wait for the commit
abbrev pub late_actions : Db → Name → Rule → Change → List Action
late_actions db name (Trigger on pred act deferred) c = cond deferred (triggered (schema_at db name) on pred act c) []
late_actions db name _ c = []

abbrev pub entry_of : Option (List Value) → List (List ℕ)
entry_of None = []
entry_of (Some values) = tuple_spelling values ∷ []

abbrev pub refers_entry : Side → Db → Name → List Name → Change → List (List ℕ)
refers_entry Main db name columns c = entry_of (option_map (values_at db name columns) (row_after c))
refers_entry Mirror db name columns c = entry_of (option_map (values_at db name columns) (row_before c))

-- the entries that are tested at the commit: of a check the new row, of a refers the child's new values or the parent's old ones
abbrev pub late_checks : Db → Name → Rule → Change → List (List ℕ)
late_checks db name (Check pred deferred) c = cond deferred (entry_of (row_after c)) []
late_checks db name (Refers side columns other others mode deferred) c = cond deferred (refers_entry side db name columns c) []
late_checks db name _ c = []

-- ---- when a rule holds of the whole relation
-- no two rows agree in these columns
abbrev pub is_unique : List Column → List Name → Rows → Bool
is_unique schema columns [] = true
is_unique schema columns (row ∷ rows) =
    not (list_any (λ other. has_values schema columns (values_in schema row.1 columns) other.1) rows) && is_unique schema columns rows

-- every row of the child relation has a row of the parent with its values
abbrev pub refers_to : Db → Name → List Name → Name → List Name → Bool
refers_to db child columns parent others = list_all (λ row. has_row_with db parent others (values_at db child columns row.1)) (rows_at db child)

abbrev pub refers_holds : Side → Db → Name → List Name → Name → List Name → Bool
refers_holds Main db name columns other others = refers_to db name columns other others
refers_holds Mirror db name columns other others = refers_to db other others name columns

-- a foreign rule holds where each row is admitted as an insert
abbrev pub holds : Option AttachRules → Db → Name → Rule → Bool
holds box db name (TreeIndex columns unique) = not unique || is_unique (schema_at db name) columns (rows_at db name)
holds box db name (Check pred deferred) = list_all (λ row. truth (schema_at db name) None (Some row.1) pred) (rows_at db name)
holds box db name (Refers side columns other others mode deferred) = refers_holds side db name columns other others
holds box db name (Foreign code desc) = list_all (λ row. admits_foreign box desc db name (change.Insert row.0 row.1)) (rows_at db name)
holds box db name _ = true

-- ---- when an entry fails that is tested at the commit
-- the entry spells these values
abbrev pub spells : List ℕ → List Value → Bool
spells entry values = bytes_eq entry (tuple_spelling values)

-- some child row has the values that the entry spells, and no parent row has them
abbrev pub is_orphaned : Db → Name → List Name → Name → List Name → List ℕ → Bool
is_orphaned db child columns parent others entry =
    list_any (λ row. let values = values_at db child columns row.1 in spells entry values && not (has_row_with db parent others values)) (rows_at db child)

-- of a check: a row that the entry spells still stands, and the predicate fails of it
abbrev pub entry_fails : Db → Name → Rule → List ℕ → Bool
entry_fails db name (Check pred deferred) entry = list_any (λ row. spells entry row.1 && not (truth (schema_at db name) None (Some row.1) pred)) (rows_at db name)
entry_fails db name (Refers Main columns other others mode deferred) entry = is_orphaned db name columns other others entry
entry_fails db name (Refers Mirror columns other others mode deferred) entry = is_orphaned db other others name columns entry
entry_fails db name _ entry = false
