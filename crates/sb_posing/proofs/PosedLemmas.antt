-- What a line says may be carried out where no test refuses it.
use Rattle.std.proofs.Common.{◌≡◌, ℕ, ◌||◌, List, refl, arith}
use Rattle.std.proofs.lemmas.Bool.{or_parts}
use Rattle.sb_value.specs.declared.schema.Column.{Column}
use Rattle.sb_rule.specs.declared.rule.Rule.{Rule}
use Rattle.sb_rule.specs.Spelling.{rule_code}
use Rattle.sb_relation.specs.Build.{with_rule}
use Rattle.sb_relation.specs.Db.{Name, relation_at}
use Rattle.sb_relation.specs.Fits.{other_relations}
use Rattle.sb_relation.specs.Limits.{has_large_descriptor, is_crowded, is_large_rule}
use Rattle.sb_plain.specs.declared.command.Command.{Command}
use Rattle.sb_plain.specs.declared.command.Command.TheVariants as command
use Rattle.sb_plain.specs.State.{State, view}
use Rattle.sb_tokens.specs.declared.token.Token.{Token}
use Rattle.sb_tokens.specs.declared.token.Ending.TheVariants.{Whole}
use Rattle.sb_tokens.specs.Rows.{tokens_of}
use Rattle.sb_grammar.specs.Grammar.{Spells, column}
use Rattle.sb_grammar.specs.Columns.{IsCommand}
use Rattle.sb_printer.proofs.Printed.{EachProper, row_proper}
use Rattle.sb_registry.specs.Boxes.{Meanings}
use Rattle.sb_vectors.specs.Vectors.{live_codes}
use Rattle.sb_statements.specs.Working.{extensions_of}
use Rattle.sb_statements.specs.Posed.{IsOfNoMirror, IsPosedRelation, IsPosedRule}
use Rattle.sb_statements.proofs.PassedLemmas.{IsPassed, found_first, passed}
use Rattle.sb_posing.specs.Posing.{AreSingle, ReadIsPosed}
use Rattle.sb_posing.proofs.PieceLemmas.{listed_in, named, names_stored, no_dot, place_in, split, word_len, word_stored}
use Rattle.sb_posing.proofs.RelationLemmas.{IsReadColumn, column_in, columns_len, columns_stored, key_in, key_len}
use Rattle.sb_posing.proofs.RuleLemmas.{rule_in}
use Rattle.sb_posing.proofs.TestLemmas.{counts_temp, is_alone, is_other, no_attachment, no_method, passed_code, short_rule}

module _ (m : Meanings) (s : State) (single : AreSingle m) (live : s.live ≡ live_codes m) (tokens : List Token) (h : EachProper tokens) where
  creates : (relation : Name) (method : ℕ) (schema : List Column) (key : List Name) → Spells (command.Create relation method schema key) tokens
      → IsPassed (extensions_of m) s (command.Create relation method schema key) → IsPosedRelation m relation method schema key
  creates relation method schema key spelled p =
      let a = split tokens h spelled in
      let b = split a.back a.back_proper a.is_back in
      let c = split b.back b.back_proper b.is_back in
      let d = split c.back c.back_proper c.is_back in
      let e = split d.back d.back_proper d.is_back in
      let word = named relation b in
      let list = listed_in column IsReadColumn column_in schema e.front e.front_proper e.is_front in
      let keys = key_in key e.back e.back_proper e.is_back in
      let there = passed_code s.live.methods method p.coded in
      record {
        outlives = single.outlive method;
        lasting = λ counted. is_other s.live.methods method 3 there (no_method m s live 3 single.no_temp) (counts_temp method counted);
        wide = record { some = list.0; few = list.1 };
        named = (word_stored relation word).0;
        columns = columns_stored schema list.1 list.2;
        names = names_stored key keys.few keys.words;
        short = omega (arith, word_len relation word);
        small = omega (arith, list.1, keys.few, columns_len schema list.2, key_len key keys.words);
      }

  attaches : (relation name : Name) (rule : Rule) → Spells (command.Attach relation name rule) tokens → IsPassed (extensions_of m) s (command.Attach relation name rule)
      → IsPosedRule relation name rule
  attaches relation name rule spelled p =
      let a = split tokens h spelled in
      let read = rule_in relation name a.back a.back_proper rule a.is_back in
      let there = passed_code s.live.attachments (rule_code rule) p.coded in
      let no_join = is_other s.live.attachments (rule_code rule) 3 there (no_attachment m s live 3 single.no_joins) in
      let no_reference = is_other s.live.attachments (rule_code rule) 6 there (no_attachment m s live 6 single.no_references) in
      let alone = is_alone relation rule no_join no_reference in
      let limits = or_parts (is_large_rule rule || is_crowded (view s) relation rule) (has_large_descriptor relation rule (with_rule (view s) relation name rule)) p.within in
      let stored = read.stored (or_parts (is_large_rule rule) (is_crowded (view s) relation rule) limits.0).0 in
      let own = (found_first (relation_at (view s)) relation (other_relations rule) p.there).0 in
      record {
        joinless = alone.0;
        main = read.main;
        single = alone.1;
        storable = record {
          coded = refl;
          storable = stored.0;
          limited = stored.1;
          counted = short_rule (view s) relation name rule own.0 own.1 no_join no_reference limits.1;
        };
        named = word_stored name read.places.1;
        label = omega (arith, word_len name read.places.1);
        short = omega (arith, word_len relation read.places.0);
      }

  detaches : (relation name : Name) → Spells (command.Detach relation name) tokens → IsOfNoMirror name
  detaches relation name spelled other label same =
      let a = split tokens h spelled in
      no_dot name other label (place_in relation name a.back a.back_proper a.is_back).1 same

proper : (line : List ℕ) (c : Command) (is : IsCommand line c) → EachProper (tokens_of is.tokens)
proper line c is = row_proper 0 line is.tokens (Whole is.column) is.is_row

pub read-posed : ReadIsPosed
read-posed m s line (command.Create relation method schema key) single live item none =
    creates m s single live (tokens_of item.1.tokens) (proper line (command.Create relation method schema key) item.1) relation method schema key item.1.spelled
    (passed (extensions_of m) s (command.Create relation method schema key) none)
read-posed m s line (command.Attach relation name rule) single live item none =
    attaches m s single live (tokens_of item.1.tokens) (proper line (command.Attach relation name rule) item.1) relation name rule item.1.spelled
    (passed (extensions_of m) s (command.Attach relation name rule) none)
read-posed m s line (command.Detach relation name) single live item none =
    detaches m s single live (tokens_of item.1.tokens) (proper line (command.Detach relation name) item.1) relation name item.1.spelled
read-posed m s line (command.Show relation) single live item none = tt
read-posed m s line (command.Drop relation) single live item none = tt
read-posed m s line (command.Register method code) single live item none = tt
read-posed m s line (command.Retire method code) single live item none = tt
read-posed m s line command.Begin single live item none = tt
read-posed m s line command.Commit single live item none = tt
read-posed m s line command.Abort single live item none = tt
read-posed m s line (command.Savepoint name) single live item none = tt
read-posed m s line (command.Rollback name) single live item none = tt
read-posed m s line (command.Insert relation values) single live item none = tt
read-posed m s line (command.Delete relation at) single live item none = tt
read-posed m s line (command.Update relation at values) single live item none = tt
read-posed m s line (command.Act action) single live item none = tt
read-posed m s line (command.Get relation at) single live item none = tt
read-posed m s line (command.Scan relation after limit) single live item none = tt
read-posed m s line (command.Lookup relation name values) single live item none = tt
read-posed m s line (command.Range relation name low high) single live item none = tt
read-posed m s line (command.Entries relation name) single live item none = tt
read-posed m s line command.Tables single live item none = tt
read-posed m s line command.Checkpoint single live item none = tt
