-- Commands as text, each a line of the language: tokens parted by one space, but none inside of brackets, before a comma and around a dot.
use Rattle.std.specs.Prelude.{ℕ, codes, ◌==◌, Bool, true, false, cond, ◌||◌, List, [], ◌∷◌, ◌++◌, map, Option, Some, None}
use Rattle.std.specs.List.{filter_map}
use Rattle.std.specs.Fmt.{decimal, signed_decimal}
use Rattle.sb_value.specs.declared.schema.Kind.TheVariants as kind
use Rattle.sb_value.specs.declared.schema.Column.{Column}
use Rattle.sb_pred.specs.declared.predicate.Op.{Op}
use Rattle.sb_pred.specs.declared.predicate.Op.TheVariants.{Eq, Ne, Lt, Le, Gt, Ge}
use Rattle.sb_pred.specs.declared.predicate.Term.{Term}
use Rattle.sb_pred.specs.declared.predicate.Term.TheVariants.{Const, New, Old}
use Rattle.sb_pred.specs.Tree.{Tree, Always, Compare, Both, Either, Fails}
use Rattle.sb_rule.specs.declared.rule.Side.TheVariants.{Mirror}
use Rattle.sb_rule.specs.declared.rule.Mode.{Mode}
use Rattle.sb_rule.specs.declared.rule.Mode.TheVariants.{Restrict, Cascade}
use Rattle.sb_rule.specs.declared.rule.Event.{Event}
use Rattle.sb_rule.specs.declared.rule.Event.TheVariants as event
use Rattle.sb_rule.specs.declared.action.Action.{Action}
use Rattle.sb_rule.specs.declared.action.Action.TheVariants as action
use Rattle.sb_rule.specs.declared.rule.Rule.{Rule}
use Rattle.sb_rule.specs.declared.rule.Rule.TheVariants.{TreeIndex, HashIndex, JoinIndex, Stats, Check, Refers, Trigger, Foreign}
use Rattle.sb_relation.specs.Db.{Name, Row, Attached, Relation}
use Rattle.sb_plain.specs.declared.command.Command.{Command}
use Rattle.sb_plain.specs.declared.command.Command.TheVariants as command
use Rattle.sb_plain.specs.Values.{key_text, value_text, joined, listed}

-- words with a space between them
abbrev pub spaced : List (List ℕ) → List ℕ
spaced = joined (codes " ")

-- words behind others, where they are wanted
abbrev pub also_if : Bool → List ℕ → List ℕ
also_if wanted text = cond wanted (codes " " ++ text) []

abbrev pub in_brackets_if : Bool → List ℕ → List ℕ
in_brackets_if wanted text = cond wanted (codes "(" ++ text ++ codes ")") text

-- ---- predicates
abbrev pub op_text : Op → List ℕ
op_text Eq = codes "="
op_text Ne = codes "<>"
op_text Lt = codes "<"
op_text Le = codes "<="
op_text Gt = codes ">"
op_text Ge = codes ">="

-- in a check a column of the new row stands alone
abbrev pub bare_term : Term → List ℕ
bare_term (Const v) = value_text v
bare_term (New name) = name
bare_term (Old name) = codes "old." ++ name

-- in a trigger it says of which row it is
abbrev pub full_term : Term → List ℕ
full_term (Const v) = value_text v
full_term (New name) = codes "new." ++ name
full_term (Old name) = codes "old." ++ name

abbrev pub is_both : Tree → Bool
is_both (Both p q) = true
is_both _ = false

abbrev pub is_either : Tree → Bool
is_either (Either p q) = true
is_either _ = false

abbrev pub is_grouped : Tree → Bool
is_grouped p = is_both p || is_either p

-- `and` binds more than `or`, both group from the left
abbrev pub pred_text : (Term → List ℕ) → Tree → List ℕ
pred_text term Always = codes "always"
pred_text term (Compare op a b) = spaced (term a ∷ op_text op ∷ term b ∷ [])
pred_text term (Both p q) =
    spaced (in_brackets_if (is_either p) (pred_text term p) ∷ codes "and" ∷ in_brackets_if (is_grouped q) (pred_text term q) ∷ [])
pred_text term (Either p q) = spaced (pred_text term p ∷ codes "or" ∷ in_brackets_if (is_either q) (pred_text term q) ∷ [])
pred_text term (Fails p) = spaced (codes "not" ∷ in_brackets_if (is_grouped p) (pred_text term p) ∷ [])

-- ---- actions
abbrev pub pair_text : Name × Term → List ℕ
pair_text pair = spaced (pair.0 ∷ codes "=" ∷ full_term pair.1 ∷ [])

abbrev pub where_text : List (Name × Term) → List ℕ
where_text [] = []
where_text (pair ∷ pairs) = codes " where " ++ joined (codes " and ") (map pair_text (pair ∷ pairs))

abbrev pub action_text : Action → List ℕ
action_text (action.Insert relation terms) = spaced (codes "insert" ∷ relation ∷ codes "values" ∷ listed (map full_term terms) ∷ [])
action_text (action.Delete relation pairs) = spaced (codes "delete" ∷ relation ∷ []) ++ where_text pairs
action_text (action.Set relation column term pairs) = spaced (codes "set" ∷ relation ∷ column ∷ codes "=" ∷ full_term term ∷ []) ++ where_text pairs
action_text (action.Add relation column term pairs) = spaced (codes "add" ∷ relation ∷ column ∷ codes "by" ∷ full_term term ∷ []) ++ where_text pairs

-- ---- rules
abbrev pub mode_text : Mode → List ℕ
mode_text Restrict = codes "restrict"
mode_text Cascade = codes "cascade"

abbrev pub event_text : Event → List ℕ
event_text event.Insert = codes "insert"
event_text event.Delete = codes "delete"
event_text event.Update = codes "update"

-- an attachment's name and its relation
abbrev pub on_text : Name → Name → List ℕ
on_text name relation = spaced (name ∷ codes "on" ∷ relation ∷ [])

abbrev pub rule_text : Name → Name → Rule → List ℕ
rule_text relation name (TreeIndex columns unique) =
    spaced (codes "treeindex" ∷ on_text name relation ∷ listed columns ∷ []) ++ also_if unique (codes "unique")
rule_text relation name (HashIndex columns) = spaced (codes "hashindex" ∷ on_text name relation ∷ listed columns ∷ [])
rule_text relation name (JoinIndex side columns other others) =
    spaced (codes "joinindex" ∷ on_text name relation ∷ listed columns ∷ codes "with" ∷ other ∷ listed others ∷ [])
rule_text relation name (Stats column low width) =
    spaced (codes "stats" ∷ on_text name relation ∷ listed (column ∷ [])
    ∷ codes "low" ∷ signed_decimal low ∷ codes "width" ∷ signed_decimal width ∷ [])
rule_text relation name (Check pred deferred) =
    spaced (codes "check" ∷ on_text name relation ∷ pred_text bare_term pred ∷ []) ++ also_if deferred (codes "deferred")
rule_text relation name (Refers side columns other others mode deferred) =
    spaced (codes "refers" ∷ on_text name relation ∷ listed columns ∷ codes "to" ∷ other ∷ listed others ∷ mode_text mode ∷ [])
    ++ also_if deferred (codes "deferred")
rule_text relation name (Trigger on pred act deferred) =
    spaced (codes "trigger" ∷ on_text name relation ∷ codes "after" ∷ event_text on
    ∷ codes "when" ∷ pred_text full_term pred ∷ codes "do" ∷ action_text act ∷ [])
    ++ also_if deferred (codes "deferred")
rule_text relation name (Foreign code desc) = spaced (codes "code" ∷ decimal code ∷ on_text name relation ∷ codes "desc" ∷ key_text desc ∷ [])

-- ---- relations
abbrev pub limit_text : ℕ → List ℕ
limit_text limit = cond (limit == 255) [] (codes "(" ++ decimal limit ++ codes ")")

abbrev pub column_text : Column → List ℕ
column_text c = elim c.kind [ kind.Int ↦ c.name ++ codes " int" | kind.Text ↦ c.name ++ codes " text" ++ limit_text c.limit ]

abbrev pub method_text : ℕ → List ℕ
method_text method =
    cond (method == 1) (codes "heap") (cond (method == 2) (codes "tree") (cond (method == 3) (codes "temp") (codes "method " ++ decimal method)))

abbrev pub key_columns_text : List Name → List ℕ
key_columns_text [] = []
key_columns_text (name ∷ names) = codes " key " ++ listed (name ∷ names)

-- ---- commands
abbrev pub sort_text : Bool → List ℕ
sort_text true = codes "method"
sort_text false = codes "attachment"

abbrev pub after_text : Option (List ℕ) → List ℕ
after_text None = []
after_text (Some key) = codes " after " ++ key_text key

abbrev pub most_text : Option ℕ → List ℕ
most_text None = []
most_text (Some n) = codes " limit " ++ decimal n

abbrev pub values_text : Row → List ℕ
values_text row = listed (map value_text row)

abbrev pub command_text : Command → List ℕ
command_text (command.Create relation method schema key) =
    spaced (codes "create" ∷ relation ∷ codes "using" ∷ method_text method ∷ listed (map column_text schema) ∷ []) ++ key_columns_text key
command_text (command.Drop relation) = spaced (codes "drop" ∷ relation ∷ [])
command_text (command.Attach relation name rule) = spaced (codes "attach" ∷ rule_text relation name rule ∷ [])
command_text (command.Detach relation name) = spaced (codes "detach" ∷ on_text name relation ∷ [])
command_text (command.Register method code) = spaced (codes "register" ∷ sort_text method ∷ decimal code ∷ [])
command_text (command.Retire method code) = spaced (codes "retire" ∷ sort_text method ∷ decimal code ∷ [])
command_text command.Begin = codes "begin"
command_text command.Commit = codes "commit"
command_text command.Abort = codes "abort"
command_text (command.Savepoint name) = spaced (codes "savepoint" ∷ name ∷ [])
command_text (command.Rollback name) = spaced (codes "rollback" ∷ name ∷ [])
command_text (command.Insert relation values) = spaced (codes "insert" ∷ relation ∷ codes "values" ∷ values_text values ∷ [])
command_text (command.Delete relation at) = spaced (codes "delete" ∷ relation ∷ key_text at ∷ [])
command_text (command.Update relation at values) = spaced (codes "update" ∷ relation ∷ key_text at ∷ codes "values" ∷ values_text values ∷ [])
command_text (command.Act act) = action_text act
command_text (command.Get relation at) = spaced (codes "get" ∷ relation ∷ key_text at ∷ [])
command_text (command.Scan relation after limit) = spaced (codes "scan" ∷ relation ∷ []) ++ after_text after ++ most_text limit
command_text (command.Lookup relation name values) = spaced (codes "lookup" ∷ on_text name relation ∷ values_text values ∷ [])
command_text (command.Range relation name low high) =
    spaced (codes "range" ∷ on_text name relation ∷ codes "from" ∷ values_text low ∷ codes "to" ∷ values_text high ∷ [])
command_text (command.Entries relation name) = spaced (codes "entries" ∷ on_text name relation ∷ [])
command_text (command.Show relation) = spaced (codes "show" ∷ relation ∷ [])
command_text command.Tables = codes "tables"
command_text command.Checkpoint = codes "checkpoint"

-- ---- the commands that make a relation: mirrors come with their main instances
abbrev pub is_mirror : Rule → Bool
is_mirror (JoinIndex Mirror columns other others) = true
is_mirror (Refers Mirror columns other others mode deferred) = true
is_mirror _ = false

abbrev pub attaching : Name → Attached → Option Command
attaching relation a = cond (is_mirror a.rule) None (Some (command.Attach relation a.name a.rule))

abbrev pub making : Name → Relation → List Command
making name r = command.Create name r.method r.schema r.key ∷ filter_map (attaching name) r.attachments

abbrev pub shown : Name → Option Relation → List (List ℕ)
shown name None = []
shown name (Some r) = map command_text (making name r)
