-- Reading commands from the left: a line for each piece of the grammar.
use Rattle.std.specs.Prelude.{ℕ, codes, List, Bool, true, false, Option, Some, None}
use Rattle.sb_pred.specs.declared.predicate.Term.{Term}
use Rattle.sb_pred.specs.Tree.{Tree}
use Rattle.sb_rule.specs.declared.rule.Side.TheVariants.{Main}
use Rattle.sb_rule.specs.declared.rule.Mode.{Mode}
use Rattle.sb_rule.specs.declared.rule.Mode.TheVariants.{Restrict, Cascade}
use Rattle.sb_rule.specs.declared.rule.Event.{Event}
use Rattle.sb_rule.specs.declared.rule.Event.TheVariants as event
use Rattle.sb_rule.specs.declared.action.Action.{Action}
use Rattle.sb_rule.specs.declared.action.Action.TheVariants as action
use Rattle.sb_rule.specs.declared.rule.Rule.TheVariants.{TreeIndex, HashIndex, JoinIndex, Stats, Check, Refers, Trigger, Foreign}
use Rattle.sb_plain.specs.declared.command.Command.{Command}
use Rattle.sb_plain.specs.declared.command.Command.TheVariants as command
use Rattle.sb_tokens.specs.declared.token.Sign.TheVariants.{Open, Close, Equal}
use Rattle.sb_tokens.specs.declared.token.Token.{Token}
use Rattle.sb_language.specs.Reading.{or_else, items_at}
use Rattle.sb_phrases.specs.declared.form.Form.{Form}
use Rattle.sb_phrases.specs.declared.form.Form.TheVariants.{Constant, Bare, Full}
use Rattle.sb_phrases.specs.Phrases.{◌⟫◌, mapping, Reader, leaving, is_word, is_key, word_at, mark_at, name_at, key_at, int_at, positive_at, number_at, for_word, word_if_at, list_or_none_at, listed_at, names_at, constants_at, place_at, term_at, disjunction_at, unit_at, foreign_code_at, method_at, column_at, key_columns_at}

-- ---- pieces
-- what comes where the first token passes, or nothing
abbrev pub optional_at : {A : Type 0} → (Token → Bool) → Reader A → Reader (Option A)
optional_at p R = or_else p (mapping (λ a. Some a) R) (leaving None)

abbrev pub predicate_at : Form → Reader Tree
predicate_at form = disjunction_at (unit_at form 16)

-- ---- actions
-- NAME = TERM
unfoldable pub pair_at : Form → Reader (List ℕ × Term)
pair_at form = mapping (λ x. (x.0, x.1.1)) (name_at ⟫ mark_at Equal ⟫ term_at form)

-- where PAIR {and PAIR}
unfoldable pub pairs_at : Form → Reader (List (List ℕ × Term))
pairs_at form = mapping (λ x. x.1) (word_at (codes "where") ⟫ items_at 3 (is_word (codes "and")) (pair_at form))

unfoldable pub matching_at : Form → Reader (List (List ℕ × Term))
matching_at form = list_or_none_at (is_word (codes "where")) (pairs_at form)

-- insert NAME values TERMS
unfoldable pub insert_action_at : Reader Action
insert_action_at = mapping (λ x. action.Insert x.1.0 x.1.1.1)
    (word_at (codes "insert") ⟫ name_at ⟫ word_at (codes "values") ⟫ listed_at (term_at Full))

-- delete NAME MATCHING
unfoldable pub delete_action_at : Form → Reader Action
delete_action_at form = mapping (λ x. action.Delete x.1.0 x.1.1) (word_at (codes "delete") ⟫ name_at ⟫ matching_at form)

-- set NAME NAME = TERM MATCHING
unfoldable pub set_action_at : Form → Reader Action
set_action_at form = mapping (λ x. action.Set x.1.0 x.1.1.0 x.1.1.1.1.0 x.1.1.1.1.1)
    (word_at (codes "set") ⟫ name_at ⟫ name_at ⟫ mark_at Equal ⟫ term_at form ⟫ matching_at form)

-- add NAME NAME by TERM MATCHING
unfoldable pub add_action_at : Form → Reader Action
add_action_at form = mapping (λ x. action.Add x.1.0 x.1.1.0 x.1.1.1.1.0 x.1.1.1.1.1)
    (word_at (codes "add") ⟫ name_at ⟫ name_at ⟫ word_at (codes "by") ⟫ term_at form ⟫ matching_at form)

-- what a trigger does
unfoldable pub triggered_at : Reader Action
triggered_at =
    or_else (is_word (codes "insert")) insert_action_at
    (or_else (is_word (codes "delete")) (delete_action_at Full)
    (or_else (is_word (codes "set")) (set_action_at Full) (add_action_at Full)))

-- ---- attachments
unfoldable pub mode_at : Reader Mode
mode_at = or_else (is_word (codes "restrict")) (for_word (codes "restrict") Restrict) (for_word (codes "cascade") Cascade)

unfoldable pub event_at : Reader Event
event_at =
    or_else (is_word (codes "insert")) (for_word (codes "insert") event.Insert)
    (or_else (is_word (codes "delete")) (for_word (codes "delete") event.Delete) (for_word (codes "update") event.Update))

-- treeindex PLACE NAMES [unique]
unfoldable pub tree_index_at : Reader Command
tree_index_at = mapping (λ x. command.Attach x.1.0.1.1 x.1.0.0 (TreeIndex x.1.1.0 x.1.1.1))
    (word_at (codes "treeindex") ⟫ place_at ⟫ names_at ⟫ word_if_at (codes "unique"))

-- hashindex PLACE NAMES
unfoldable pub hash_index_at : Reader Command
hash_index_at = mapping (λ x. command.Attach x.1.0.1.1 x.1.0.0 (HashIndex x.1.1)) (word_at (codes "hashindex") ⟫ place_at ⟫ names_at)

-- joinindex PLACE NAMES with NAME NAMES
unfoldable pub join_index_at : Reader Command
join_index_at = mapping (λ x. command.Attach x.1.0.1.1 x.1.0.0 (JoinIndex Main x.1.1.0 x.1.1.1.1.0 x.1.1.1.1.1))
    (word_at (codes "joinindex") ⟫ place_at ⟫ names_at ⟫ word_at (codes "with") ⟫ name_at ⟫ names_at)

-- stats PLACE ( NAME ) low NUMBER width NUMBER
unfoldable pub stats_at : Reader Command
stats_at = mapping (λ x. command.Attach x.1.0.1.1 x.1.0.0 (Stats x.1.1.1.0 x.1.1.1.1.1.1.0 x.1.1.1.1.1.1.1.1))
    (word_at (codes "stats") ⟫ place_at ⟫ mark_at Open ⟫ name_at ⟫ mark_at Close
    ⟫ word_at (codes "low") ⟫ int_at ⟫ word_at (codes "width") ⟫ positive_at)

-- check PLACE PREDICATE [deferred]
unfoldable pub check_at : Reader Command
check_at = mapping (λ x. command.Attach x.1.0.1.1 x.1.0.0 (Check x.1.1.0 x.1.1.1))
    (word_at (codes "check") ⟫ place_at ⟫ predicate_at Bare ⟫ word_if_at (codes "deferred"))

-- refers PLACE NAMES to NAME NAMES MODE [deferred]
unfoldable pub refers_at : Reader Command
refers_at = mapping (λ x. command.Attach x.1.0.1.1 x.1.0.0 (Refers Main x.1.1.0 x.1.1.1.1.0 x.1.1.1.1.1.0 x.1.1.1.1.1.1.0 x.1.1.1.1.1.1.1))
    (word_at (codes "refers") ⟫ place_at ⟫ names_at ⟫ word_at (codes "to") ⟫ name_at ⟫ names_at
    ⟫ mode_at ⟫ word_if_at (codes "deferred"))

-- trigger PLACE after EVENT when PREDICATE do ACTION [deferred]
unfoldable pub trigger_at : Reader Command
trigger_at = mapping (λ x. command.Attach x.1.0.1.1 x.1.0.0 (Trigger x.1.1.1.0 x.1.1.1.1.1.0 x.1.1.1.1.1.1.1.0 x.1.1.1.1.1.1.1.1))
    (word_at (codes "trigger") ⟫ place_at ⟫ word_at (codes "after") ⟫ event_at
    ⟫ word_at (codes "when") ⟫ predicate_at Full ⟫ word_at (codes "do") ⟫ triggered_at ⟫ word_if_at (codes "deferred"))

-- code CODE PLACE desc KEY
unfoldable pub foreign_at : Reader Command
foreign_at = mapping (λ x. command.Attach x.1.1.0.1.1 x.1.1.0.0 (Foreign x.1.0 x.1.1.1.1))
    (word_at (codes "code") ⟫ foreign_code_at ⟫ place_at ⟫ word_at (codes "desc") ⟫ key_at)

unfoldable pub rule_at : Reader Command
rule_at =
    or_else (is_word (codes "check")) check_at
    (or_else (is_word (codes "refers")) refers_at
    (or_else (is_word (codes "trigger")) trigger_at
    (or_else (is_word (codes "code")) foreign_at stats_at)))

unfoldable pub attachment_at : Reader Command
attachment_at =
    or_else (is_word (codes "treeindex")) tree_index_at
    (or_else (is_word (codes "hashindex")) hash_index_at
    (or_else (is_word (codes "joinindex")) join_index_at rule_at))

-- ---- commands
-- a row by its key, or the rows that match
pub data Rows : Type 0 where
  At : List ℕ → Rows
  Matching : List (List ℕ × Term) → Rows

unfoldable pub rows_at : Reader Rows
rows_at = or_else is_key (mapping (λ k. At k) key_at) (mapping (λ pairs. Matching pairs) (matching_at Constant))

abbrev pub deleted : List ℕ → Rows → Command
deleted relation (At k) = command.Delete relation k
deleted relation (Matching pairs) = command.Act (action.Delete relation pairs)

-- method or attachment
unfoldable pub sort_at : Reader Bool
sort_at = or_else (is_word (codes "method")) (for_word (codes "method") true) (for_word (codes "attachment") false)

abbrev pub any_code_at : Reader ℕ
any_code_at = number_at 1 65535

-- after KEY
unfoldable pub after_key_at : Reader (List ℕ)
after_key_at = mapping (λ x. x.1) (word_at (codes "after") ⟫ key_at)

-- limit NUMBER
unfoldable pub row_limit_at : Reader ℕ
row_limit_at = mapping (λ x. x.1) (word_at (codes "limit") ⟫ number_at 0 1000000)

unfoldable pub optional_after_at : Reader (Option (List ℕ))
optional_after_at = optional_at (is_word (codes "after")) after_key_at

unfoldable pub optional_limit_at : Reader (Option ℕ)
optional_limit_at = optional_at (is_word (codes "limit")) row_limit_at

unfoldable pub create_at : Reader Command
create_at = mapping (λ x. command.Create x.1.0 x.1.1.1.0 x.1.1.1.1.0 x.1.1.1.1.1)
    (word_at (codes "create") ⟫ name_at ⟫ word_at (codes "using") ⟫ method_at ⟫ listed_at column_at ⟫ key_columns_at)

unfoldable pub drop_at : Reader Command
drop_at = mapping (λ x. command.Drop x.1) (word_at (codes "drop") ⟫ name_at)

unfoldable pub attach_at : Reader Command
attach_at = mapping (λ x. x.1) (word_at (codes "attach") ⟫ attachment_at)

unfoldable pub detach_at : Reader Command
detach_at = mapping (λ x. command.Detach x.1.1.1 x.1.0) (word_at (codes "detach") ⟫ place_at)

unfoldable pub register_at : Reader Command
register_at = mapping (λ x. command.Register x.1.0 x.1.1) (word_at (codes "register") ⟫ sort_at ⟫ any_code_at)

unfoldable pub retire_at : Reader Command
retire_at = mapping (λ x. command.Retire x.1.0 x.1.1) (word_at (codes "retire") ⟫ sort_at ⟫ any_code_at)

unfoldable pub begin_at : Reader Command
begin_at = for_word (codes "begin") command.Begin

unfoldable pub commit_at : Reader Command
commit_at = for_word (codes "commit") command.Commit

unfoldable pub abort_at : Reader Command
abort_at = for_word (codes "abort") command.Abort

unfoldable pub savepoint_at : Reader Command
savepoint_at = mapping (λ x. command.Savepoint x.1) (word_at (codes "savepoint") ⟫ name_at)

unfoldable pub rollback_at : Reader Command
rollback_at = mapping (λ x. command.Rollback x.1) (word_at (codes "rollback") ⟫ name_at)

unfoldable pub insert_at : Reader Command
insert_at = mapping (λ x. command.Insert x.1.0 x.1.1.1) (word_at (codes "insert") ⟫ name_at ⟫ word_at (codes "values") ⟫ constants_at)

unfoldable pub delete_at : Reader Command
delete_at = mapping (λ x. deleted x.1.0 x.1.1) (word_at (codes "delete") ⟫ name_at ⟫ rows_at)

unfoldable pub update_at : Reader Command
update_at = mapping (λ x. command.Update x.1.0 x.1.1.0 x.1.1.1.1)
    (word_at (codes "update") ⟫ name_at ⟫ key_at ⟫ word_at (codes "values") ⟫ constants_at)

unfoldable pub set_at : Reader Command
set_at = mapping (λ act. command.Act act) (set_action_at Constant)

unfoldable pub add_at : Reader Command
add_at = mapping (λ act. command.Act act) (add_action_at Constant)

unfoldable pub get_at : Reader Command
get_at = mapping (λ x. command.Get x.1.0 x.1.1) (word_at (codes "get") ⟫ name_at ⟫ key_at)

unfoldable pub scan_at : Reader Command
scan_at = mapping (λ x. command.Scan x.1.0 x.1.1.0 x.1.1.1) (word_at (codes "scan") ⟫ name_at ⟫ optional_after_at ⟫ optional_limit_at)

unfoldable pub lookup_at : Reader Command
lookup_at = mapping (λ x. command.Lookup x.1.0.1.1 x.1.0.0 x.1.1) (word_at (codes "lookup") ⟫ place_at ⟫ constants_at)

unfoldable pub range_at : Reader Command
range_at = mapping (λ x. command.Range x.1.0.1.1 x.1.0.0 x.1.1.1.0 x.1.1.1.1.1)
    (word_at (codes "range") ⟫ place_at ⟫ word_at (codes "from") ⟫ constants_at ⟫ word_at (codes "to") ⟫ constants_at)

unfoldable pub entries_at : Reader Command
entries_at = mapping (λ x. command.Entries x.1.1.1 x.1.0) (word_at (codes "entries") ⟫ place_at)

unfoldable pub show_at : Reader Command
show_at = mapping (λ x. command.Show x.1) (word_at (codes "show") ⟫ name_at)

unfoldable pub tables_at : Reader Command
tables_at = for_word (codes "tables") command.Tables

unfoldable pub checkpoint_at : Reader Command
checkpoint_at = for_word (codes "checkpoint") command.Checkpoint

-- ---- all commands, by their first words
-- of transactions and extensions
unfoldable pub control_at : Reader Command
control_at =
    or_else (is_word (codes "begin")) begin_at
    (or_else (is_word (codes "commit")) commit_at
    (or_else (is_word (codes "abort")) abort_at
    (or_else (is_word (codes "savepoint")) savepoint_at
    (or_else (is_word (codes "rollback")) rollback_at
    (or_else (is_word (codes "register")) register_at
    (or_else (is_word (codes "retire")) retire_at checkpoint_at))))))

-- of relations and attachments, or of transactions and extensions
unfoldable pub definition_at : Reader Command
definition_at =
    or_else (is_word (codes "create")) create_at
    (or_else (is_word (codes "drop")) drop_at
    (or_else (is_word (codes "attach")) attach_at
    (or_else (is_word (codes "detach")) detach_at
    (or_else (is_word (codes "show")) show_at
    (or_else (is_word (codes "tables")) tables_at control_at)))))

-- of an index, or of those
unfoldable pub index_at : Reader Command
index_at =
    or_else (is_word (codes "lookup")) lookup_at
    (or_else (is_word (codes "range")) range_at
    (or_else (is_word (codes "entries")) entries_at definition_at))

-- of rows, or of those: any command
unfoldable pub command_at : Reader Command
command_at =
    or_else (is_word (codes "insert")) insert_at
    (or_else (is_word (codes "delete")) delete_at
    (or_else (is_word (codes "update")) update_at
    (or_else (is_word (codes "set")) set_at
    (or_else (is_word (codes "add")) add_at
    (or_else (is_word (codes "get")) get_at
    (or_else (is_word (codes "scan")) scan_at index_at))))))
