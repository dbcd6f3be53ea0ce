-- Which relations may be made and which rules may stand, by names and kinds.
use Rattle.std.specs.Prelude.{◌≡◌, ℕ, ◌==◌, nat_lt, Bool, true, false, cond, not, ◌&&◌, List, [], ◌∷◌, ◌++◌, Option, Some, None, map, is_none}
use Rattle.std.specs.List.{list_all, flat_map, find, IsDistinct}
use Rattle.std.specs.Str.{bytes_eq}
use Rattle.sb_value.specs.declared.schema.Kind.{Kind}
use Rattle.sb_value.specs.declared.schema.Kind.TheVariants as kind
use Rattle.sb_value.specs.declared.schema.Column.{Column}
use Rattle.sb_pred.specs.declared.predicate.Term.{Term}
use Rattle.sb_pred.specs.declared.predicate.Term.TheVariants.{Const, New, Old}
use Rattle.sb_pred.specs.Tree.{Tree, Always, Compare, Both, Either, Fails}
use Rattle.sb_pred.specs.Columns.{column_kind}
use Rattle.sb_pred.specs.Typing.{term_kind, is_one_kind, is_well_typed}
use Rattle.sb_rule.specs.declared.rule.Event.{Event}
use Rattle.sb_rule.specs.declared.rule.Event.TheVariants as event
use Rattle.sb_rule.specs.declared.action.Action.{Action}
use Rattle.sb_rule.specs.declared.action.Action.TheVariants as action
use Rattle.sb_rule.specs.declared.rule.Rule.{Rule}
use Rattle.sb_rule.specs.declared.rule.Rule.TheVariants.{TreeIndex, HashIndex, JoinIndex, Stats, Check, Refers, Trigger, Foreign}
use Rattle.sb_relation.specs.Db.{Name, Db, relation_at, schema_at}
use Rattle.sb_relation.specs.Foreign.{MethodRules, AttachRules}

-- ---- relations that a rule names
abbrev pub relation_of : Action → Name
relation_of (action.Insert relation terms) = relation
relation_of (action.Delete relation pairs) = relation
relation_of (action.Set relation column term pairs) = relation
relation_of (action.Add relation column term pairs) = relation

abbrev pub other_relations : Rule → List Name
other_relations (JoinIndex side columns other others) = other ∷ []
other_relations (Refers side columns other others mode deferred) = other ∷ []
other_relations (Trigger on pred act deferred) = relation_of act ∷ []
other_relations _ = []

-- the first of the names that no relation has
abbrev pub first_missing : Db → List Name → Option Name
first_missing db names = find (λ name. is_none (relation_at db name)) names

-- ---- columns that a rule names, each with the columns among which it is to stand
abbrev pub Places : Type 0
Places = List (List Column × Name)

abbrev pub places_in : List Column → List Name → Places
places_in schema names = map (λ name. (schema, name)) names

abbrev pub term_places : List Column → Term → Places
term_places schema (Const v) = []
term_places schema (New name) = (schema, name) ∷ []
term_places schema (Old name) = (schema, name) ∷ []

abbrev pub pred_places : List Column → Tree → Places
pred_places schema Always = []
pred_places schema (Compare op a b) = term_places schema a ++ term_places schema b
pred_places schema (Both p q) = pred_places schema p ++ pred_places schema q
pred_places schema (Either p q) = pred_places schema p ++ pred_places schema q
pred_places schema (Fails p) = pred_places schema p

abbrev pub pair_places : List Column → List Column → List (Name × Term) → Places
pair_places own schema pairs = flat_map (λ pair. (own, pair.0) ∷ term_places schema pair.1) pairs

-- the first columns are those of the action's relation, the others those of the trigger's
abbrev pub action_places : List Column → List Column → Action → Places
action_places own schema (action.Insert relation terms) = flat_map (term_places schema) terms
action_places own schema (action.Delete relation pairs) = pair_places own schema pairs
action_places own schema (action.Set relation column term pairs) = (own, column) ∷ term_places schema term ++ pair_places own schema pairs
action_places own schema (action.Add relation column term pairs) = (own, column) ∷ term_places schema term ++ pair_places own schema pairs

abbrev pub rule_places : Db → List Column → Rule → Places
rule_places db schema (TreeIndex columns unique) = places_in schema columns
rule_places db schema (HashIndex columns) = places_in schema columns
rule_places db schema (JoinIndex side columns other others) = places_in schema columns ++ places_in (schema_at db other) others
rule_places db schema (Stats column low width) = (schema, column) ∷ []
rule_places db schema (Check pred deferred) = pred_places schema pred
rule_places db schema (Refers side columns other others mode deferred) = places_in schema columns ++ places_in (schema_at db other) others
rule_places db schema (Trigger on pred act deferred) = pred_places schema pred ++ action_places (schema_at db (relation_of act)) schema act
rule_places db schema (Foreign code desc) = []

-- the first place whose column isn't there
abbrev pub first_unnamed : Places → Option (List Column × Name)
first_unnamed places = find (λ place. is_none (column_kind place.0 place.1)) places

-- ---- kinds
abbrev pub is_empty : {A : Type 0} → List A → Bool
is_empty [] = true
is_empty (x ∷ xs) = false

abbrev pub foreign_method_fits : Option MethodRules → List Column → List Name → Bool
foreign_method_fits None schema key = false
foreign_method_fits (Some box) schema key = box.fits schema key

-- tree has a key, heap and temp have none, a foreign method says so itself
abbrev pub method_fits : Option MethodRules → ℕ → List Column → List Name → Bool
method_fits box method schema key = cond (method == 2) (not (is_empty key)) (cond (nat_lt method 1000) (is_empty key) (foreign_method_fits box schema key))

abbrev pub foreign_rule_fits : Option AttachRules → List Column → List ℕ → Bool
foreign_rule_fits None schema desc = false
foreign_rule_fits (Some box) schema desc = box.fits schema desc

abbrev pub kinds_at : List Column → List Name → List (Option Kind)
kinds_at schema names = map (column_kind schema) names

-- as many kinds, and the same ones
abbrev pub are_one_kind : List (Option Kind) → List (Option Kind) → Bool
are_one_kind [] [] = true
are_one_kind (k ∷ ks) (l ∷ ls) = is_one_kind k l && are_one_kind ks ls
are_one_kind _ _ = false

abbrev pub has_old : Event → Bool
has_old event.Insert = false
has_old event.Delete = true
has_old event.Update = true

abbrev pub has_new : Event → Bool
has_new event.Insert = true
has_new event.Delete = false
has_new event.Update = true

-- each column of the action's relation and its term have one kind
abbrev pub pairs_fit : List Column → (Term → Option Kind) → List (Name × Term) → Bool
pairs_fit own kind_of_term pairs = list_all (λ pair. is_one_kind (column_kind own pair.0) (kind_of_term pair.1)) pairs

abbrev pub action_fits : List Column → (Term → Option Kind) → Action → Bool
action_fits own kind_of_term (action.Insert relation terms) = are_one_kind (map (λ c. Some c.kind) own) (map kind_of_term terms)
action_fits own kind_of_term (action.Delete relation pairs) = pairs_fit own kind_of_term pairs
action_fits own kind_of_term (action.Set relation column term pairs) = is_one_kind (column_kind own column) (kind_of_term term) && pairs_fit own kind_of_term pairs
action_fits own kind_of_term (action.Add relation column term pairs) =
    is_one_kind (column_kind own column) (Some kind.Int) && is_one_kind (Some kind.Int) (kind_of_term term) && pairs_fit own kind_of_term pairs

-- A rule on a relation of these columns is well typed. The first argument is the extension of a foreign rule's code.
abbrev pub rule_fits : Option AttachRules → Db → List Column → Rule → Bool
rule_fits box db schema (TreeIndex columns unique) = true
rule_fits box db schema (HashIndex columns) = true
rule_fits box db schema (JoinIndex side columns other others) = are_one_kind (kinds_at schema columns) (kinds_at (schema_at db other) others)
rule_fits box db schema (Stats column low width) = is_one_kind (column_kind schema column) (Some kind.Int)
rule_fits box db schema (Check pred deferred) = is_well_typed schema false true pred
rule_fits box db schema (Refers side columns other others mode deferred) = are_one_kind (kinds_at schema columns) (kinds_at (schema_at db other) others)
rule_fits box db schema (Trigger on pred act deferred) =
    is_well_typed schema (has_old on) (has_new on) pred && action_fits (schema_at db (relation_of act)) (term_kind schema (has_old on) (has_new on)) act
rule_fits box db schema (Foreign code desc) = foreign_rule_fits box schema desc

-- ---- what may stand
-- no two columns of a relation have one name
abbrev pub IsSchema : List Column → Type 0
IsSchema schema = IsDistinct bytes_eq (map (λ c. c.name) schema)

-- The columns of the key are there, and the method keeps such a relation. Two columns may have one name.
pub record MayKeep (box : Option MethodRules) (method : ℕ) (schema : List Column) (key : List Name) : Type 0 where
  pub named : first_unnamed (places_in schema key) ≡ None
  pub fits : method_fits box method schema key ≡ true

-- The relations and columns that the rule names are there, and it is well typed. Two columns may have one name.
pub record MayStand (box : Option AttachRules) (db : Db) (schema : List Column) (rule : Rule) : Type 0 where
  pub there : first_missing db (other_relations rule) ≡ None
  pub named : first_unnamed (rule_places db schema rule) ≡ None
  pub fits : rule_fits box db schema rule ≡ true
