-- A command is a word and what stands behind it.
use Rattle.std.proofs.Common.{◌≡◌, List, codes, refl, Ok, Err}
use Rattle.sb_plain.specs.declared.command.Command.{Command}
use Rattle.sb_plain.specs.declared.command.Command.TheVariants as command
use Rattle.sb_tokens.specs.declared.token.Token.{Token}
use Rattle.sb_language.specs.Reading.{Read, paired, and_then, mapped}
use Rattle.sb_reader.specs.declared.verb.Verb.{Verb}
use Rattle.sb_reader.specs.declared.verb.Verb.TheVariants as verb
use Rattle.sb_phrases.specs.Phrases.{◌⟫◌, Reader, name_at, word_at, key_at, constants_at, place_at, method_at, listed_at, column_at, key_columns_at}
use Rattle.sb_reader.specs.Commands.{rows_at, deleted, optional_after_at, optional_limit_at, sort_at, any_code_at, insert_at, delete_at, update_at, get_at, scan_at, lookup_at, range_at, entries_at, create_at, drop_at, attach_at, detach_at, show_at, savepoint_at, rollback_at, register_at, retire_at}
use Rattle.sb_reader.specs.Verbs.{insert_behind_at, delete_behind_at, update_behind_at, get_behind_at, scan_behind_at, lookup_behind_at, range_behind_at, entries_behind_at, create_behind_at, drop_behind_at, detach_behind_at, show_behind_at, savepoint_behind_at, rollback_behind_at, register_behind_at, retire_behind_at, behind_of, keyed_at, command_of}

abbrev behind : {A : Type 0} → Unit {0} × A → A
behind x = x.1

made_later : {A : Type 0} (u : Unit {0}) (g : A → Command) (r : Read Token A) → mapped (λ (x : Unit {0} × A). g x.1) (paired u r) ≡ mapped behind (paired u (mapped g r))
made_later u g (Ok x) = refl
made_later u g (Err l) = refl

-- the command may be made of what stands behind the word
apart : {A : Type 0} (w : Read Token (Unit {0})) (g : A → Command) (R : Reader A) → mapped (λ (x : Unit {0} × A). g x.1) (and_then w R) ≡ mapped behind (and_then w (λ ts. mapped g (R ts)))
apart (Ok x) g R = made_later x.0 g (R x.1)
apart (Err l) g R = refl

pub same_of : (v : Verb) (ts : List Token) → command_of v ts ≡ keyed_at v ts
unfolding keyed_at behind_of insert_at delete_at update_at get_at scan_at lookup_at range_at entries_at create_at drop_at attach_at detach_at show_at savepoint_at rollback_at register_at retire_at insert_behind_at delete_behind_at update_behind_at get_behind_at scan_behind_at lookup_behind_at range_behind_at entries_behind_at create_behind_at drop_behind_at detach_behind_at show_behind_at savepoint_behind_at rollback_behind_at register_behind_at retire_behind_at
same_of verb.Insert ts = apart (word_at (codes "insert") ts) (λ x. command.Insert x.0 x.1.1) (name_at ⟫ word_at (codes "values") ⟫ constants_at)
same_of verb.Delete ts = apart (word_at (codes "delete") ts) (λ x. deleted x.0 x.1) (name_at ⟫ rows_at)
same_of verb.Update ts = apart (word_at (codes "update") ts) (λ x. command.Update x.0 x.1.0 x.1.1.1) (name_at ⟫ key_at ⟫ word_at (codes "values") ⟫ constants_at)
same_of verb.Get ts = apart (word_at (codes "get") ts) (λ x. command.Get x.0 x.1) (name_at ⟫ key_at)
same_of verb.Scan ts = apart (word_at (codes "scan") ts) (λ x. command.Scan x.0 x.1.0 x.1.1) (name_at ⟫ optional_after_at ⟫ optional_limit_at)
same_of verb.Lookup ts = apart (word_at (codes "lookup") ts) (λ x. command.Lookup x.0.1.1 x.0.0 x.1) (place_at ⟫ constants_at)
same_of verb.Range ts = apart (word_at (codes "range") ts) (λ x. command.Range x.0.1.1 x.0.0 x.1.1.0 x.1.1.1.1) (place_at ⟫ word_at (codes "from") ⟫ constants_at ⟫ word_at (codes "to") ⟫ constants_at)
same_of verb.Entries ts = apart (word_at (codes "entries") ts) (λ x. command.Entries x.1.1 x.0) place_at
same_of verb.Create ts = apart (word_at (codes "create") ts) (λ x. command.Create x.0 x.1.1.0 x.1.1.1.0 x.1.1.1.1) (name_at ⟫ word_at (codes "using") ⟫ method_at ⟫ listed_at column_at ⟫ key_columns_at)
same_of verb.Drop ts = apart (word_at (codes "drop") ts) (λ relation. command.Drop relation) name_at
same_of verb.Attach ts = refl
same_of verb.Detach ts = apart (word_at (codes "detach") ts) (λ x. command.Detach x.1.1 x.0) place_at
same_of verb.Show ts = apart (word_at (codes "show") ts) (λ relation. command.Show relation) name_at
same_of verb.Savepoint ts = apart (word_at (codes "savepoint") ts) (λ name. command.Savepoint name) name_at
same_of verb.Rollback ts = apart (word_at (codes "rollback") ts) (λ name. command.Rollback name) name_at
same_of verb.Register ts = apart (word_at (codes "register") ts) (λ x. command.Register x.0 x.1) (sort_at ⟫ any_code_at)
same_of verb.Retire ts = apart (word_at (codes "retire") ts) (λ x. command.Retire x.0 x.1) (sort_at ⟫ any_code_at)
