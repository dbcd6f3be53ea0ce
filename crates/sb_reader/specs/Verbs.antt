-- Commands by their verbs: a word, and what stands behind it.
use Rattle.std.specs.Prelude.{ℕ, codes, List}
use Rattle.sb_plain.specs.declared.command.Command.{Command}
use Rattle.sb_plain.specs.declared.command.Command.TheVariants as command
use Rattle.sb_reader.specs.declared.verb.Verb.{Verb}
use Rattle.sb_reader.specs.declared.verb.Verb.TheVariants as verb
use Rattle.sb_phrases.specs.Phrases.{◌⟫◌, mapping, Reader, name_at, word_at, key_at, constants_at, place_at, method_at, listed_at, column_at, key_columns_at}
use Rattle.sb_reader.specs.Commands.{rows_at, deleted, optional_after_at, optional_limit_at, attachment_at, sort_at, any_code_at, insert_at, delete_at, update_at, get_at, scan_at, lookup_at, range_at, entries_at, create_at, drop_at, attach_at, detach_at, show_at, savepoint_at, rollback_at, register_at, retire_at}

-- ---- behind the word
unfoldable pub insert_behind_at : Reader Command
insert_behind_at = mapping (λ x. command.Insert x.0 x.1.1) (name_at ⟫ word_at (codes "values") ⟫ constants_at)

unfoldable pub delete_behind_at : Reader Command
delete_behind_at = mapping (λ x. deleted x.0 x.1) (name_at ⟫ rows_at)

unfoldable pub update_behind_at : Reader Command
update_behind_at = mapping (λ x. command.Update x.0 x.1.0 x.1.1.1) (name_at ⟫ key_at ⟫ word_at (codes "values") ⟫ constants_at)

unfoldable pub get_behind_at : Reader Command
get_behind_at = mapping (λ x. command.Get x.0 x.1) (name_at ⟫ key_at)

unfoldable pub scan_behind_at : Reader Command
scan_behind_at = mapping (λ x. command.Scan x.0 x.1.0 x.1.1) (name_at ⟫ optional_after_at ⟫ optional_limit_at)

unfoldable pub lookup_behind_at : Reader Command
lookup_behind_at = mapping (λ x. command.Lookup x.0.1.1 x.0.0 x.1) (place_at ⟫ constants_at)

unfoldable pub range_behind_at : Reader Command
range_behind_at = mapping (λ x. command.Range x.0.1.1 x.0.0 x.1.1.0 x.1.1.1.1) (place_at ⟫ word_at (codes "from") ⟫ constants_at ⟫ word_at (codes "to") ⟫ constants_at)

unfoldable pub entries_behind_at : Reader Command
entries_behind_at = mapping (λ x. command.Entries x.1.1 x.0) place_at

unfoldable pub create_behind_at : Reader Command
create_behind_at = mapping (λ x. command.Create x.0 x.1.1.0 x.1.1.1.0 x.1.1.1.1) (name_at ⟫ word_at (codes "using") ⟫ method_at ⟫ listed_at column_at ⟫ key_columns_at)

unfoldable pub drop_behind_at : Reader Command
drop_behind_at = mapping (λ relation. command.Drop relation) name_at

unfoldable pub detach_behind_at : Reader Command
detach_behind_at = mapping (λ x. command.Detach x.1.1 x.0) place_at

unfoldable pub show_behind_at : Reader Command
show_behind_at = mapping (λ relation. command.Show relation) name_at

unfoldable pub savepoint_behind_at : Reader Command
savepoint_behind_at = mapping (λ name. command.Savepoint name) name_at

unfoldable pub rollback_behind_at : Reader Command
rollback_behind_at = mapping (λ name. command.Rollback name) name_at

unfoldable pub register_behind_at : Reader Command
register_behind_at = mapping (λ x. command.Register x.0 x.1) (sort_at ⟫ any_code_at)

unfoldable pub retire_behind_at : Reader Command
retire_behind_at = mapping (λ x. command.Retire x.0 x.1) (sort_at ⟫ any_code_at)

-- ---- by the verb
abbrev pub word_of : Verb → List ℕ
word_of verb.Insert = codes "insert"
word_of verb.Delete = codes "delete"
word_of verb.Update = codes "update"
word_of verb.Get = codes "get"
word_of verb.Scan = codes "scan"
word_of verb.Lookup = codes "lookup"
word_of verb.Range = codes "range"
word_of verb.Entries = codes "entries"
word_of verb.Create = codes "create"
word_of verb.Drop = codes "drop"
word_of verb.Attach = codes "attach"
word_of verb.Detach = codes "detach"
word_of verb.Show = codes "show"
word_of verb.Savepoint = codes "savepoint"
word_of verb.Rollback = codes "rollback"
word_of verb.Register = codes "register"
word_of verb.Retire = codes "retire"

unfoldable pub behind_of : Verb → Reader Command
behind_of verb.Insert = insert_behind_at
behind_of verb.Delete = delete_behind_at
behind_of verb.Update = update_behind_at
behind_of verb.Get = get_behind_at
behind_of verb.Scan = scan_behind_at
behind_of verb.Lookup = lookup_behind_at
behind_of verb.Range = range_behind_at
behind_of verb.Entries = entries_behind_at
behind_of verb.Create = create_behind_at
behind_of verb.Drop = drop_behind_at
behind_of verb.Attach = attachment_at
behind_of verb.Detach = detach_behind_at
behind_of verb.Show = show_behind_at
behind_of verb.Savepoint = savepoint_behind_at
behind_of verb.Rollback = rollback_behind_at
behind_of verb.Register = register_behind_at
behind_of verb.Retire = retire_behind_at

-- the word of the verb, and what stands behind it
unfoldable pub keyed_at : Verb → Reader Command
keyed_at v = mapping (λ x. x.1) (word_at (word_of v) ⟫ behind_of v)

-- the command of the verb, as the grammar has it
abbrev pub command_of : Verb → Reader Command
command_of verb.Insert = insert_at
command_of verb.Delete = delete_at
command_of verb.Update = update_at
command_of verb.Get = get_at
command_of verb.Scan = scan_at
command_of verb.Lookup = lookup_at
command_of verb.Range = range_at
command_of verb.Entries = entries_at
command_of verb.Create = create_at
command_of verb.Drop = drop_at
command_of verb.Attach = attach_at
command_of verb.Detach = detach_at
command_of verb.Show = show_at
command_of verb.Savepoint = savepoint_at
command_of verb.Rollback = rollback_at
command_of verb.Register = register_at
command_of verb.Retire = retire_at
