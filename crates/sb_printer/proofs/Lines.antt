-- The text of a command, piece after piece as the grammar has it.
use Rattle.std.proofs.Common.{◌≡◌, ℕ, zero, suc, ◌≤◌, List, [], ◌∷◌, ◌++◌, codes, refl, sym, ◌∙◌, ap, subst, inl, inr, Bool, true, false, cond, append_assoc, Option, Some, None, ℤ, pos, negsuc, arith, length}
use Rattle.std.specs.Prelude.{map, ◌==◌}
use Rattle.std.proofs.lemmas.List.{append-nil}
use Rattle.std.specs.Fmt.{decimal, signed_decimal}
use Rattle.std.proofs.lemmas.Bool.{eqb-true, eq-eqb, ne_eqb, le-ltb}
use Rattle.sb_value.specs.declared.schema.Column.{Column}
use Rattle.sb_value.specs.declared.schema.Kind.{Kind}
use Rattle.sb_value.specs.declared.schema.Kind.TheVariants as kind
use Rattle.sb_value.specs.declared.value.Value.{Value}
use Rattle.sb_value.specs.declared.value.Value.TheVariants as value
use Rattle.sb_pred.specs.declared.predicate.Term.{Term}
use Rattle.sb_pred.specs.declared.predicate.Term.TheVariants.{Const, New, Old}
use Rattle.sb_rule.specs.declared.rule.Side.TheVariants.{Main, Mirror}
use Rattle.sb_rule.specs.declared.rule.Mode.{Mode}
use Rattle.sb_rule.specs.declared.rule.Mode.TheVariants.{Restrict, Cascade}
use Rattle.sb_rule.specs.declared.rule.Event.{Event}
use Rattle.sb_rule.specs.declared.rule.Event.TheVariants as event
use Rattle.sb_rule.specs.declared.action.Action.{Action}
use Rattle.sb_rule.specs.declared.action.Action.TheVariants as action
use Rattle.sb_rule.specs.declared.rule.Rule.{Rule}
use Rattle.sb_rule.specs.declared.rule.Rule.TheVariants.{TreeIndex, HashIndex, JoinIndex, Stats, Check, Refers, Trigger, Foreign}
use Rattle.sb_language.specs.Lang.{◌⨾◌, nothing, none, just}
use Rattle.sb_tokens.specs.declared.token.Sign.TheVariants.{Open, Close, Comma, Equal}
use Rattle.sb_tokens.specs.declared.token.Token.{Token}
use Rattle.sb_tokens.specs.declared.token.Token.TheVariants as token
use Rattle.sb_tokens.specs.declared.token.Ending.TheVariants.{Whole}
use Rattle.sb_tokens.specs.Rows.{tokens_of}
use Rattle.sb_grammar.specs.Grammar as grammar
use Rattle.sb_grammar.specs.Grammar.{Spells}
use Rattle.sb_grammar.specs.Columns.{IsCommand, IsItem, Says}
use Rattle.sb_plain.specs.declared.command.Command.{Command}
use Rattle.sb_plain.specs.declared.command.Command.TheVariants as command
use Rattle.sb_plain.specs.Values.{key_text, value_text, listed}
use Rattle.sb_plain.specs.Printing.{also_if, bare_term, full_term, pair_text, where_text, action_text, mode_text, event_text, on_text, rule_text, limit_text, column_text, method_text, key_columns_text, sort_text, after_text, most_text, values_text, command_text}
use Rattle.sb_printer.proofs.Printed.{AreRow, EachProper, Keeps, KeepsTrail, Prints, Trails, row_proper, row_placed, prints_weaker, keeps_token, keeps_then, keeps_trail, keeps_behind, no_trail, space_trail, dot_trail, two_trails, keeps_brackets, brackets_trail, comma_between, word_between, keeps_items}
use Rattle.sb_printer.proofs.Trees.{and_word, keeps_predicate}

-- ---- words, numbers and values
keeps_nothing : (text : List ℕ) → Keeps nothing text
keeps_nothing text = record { of = λ tokens h s. absurd s }

keeps_word : (w : List ℕ) → Keeps (grammar.word w) w
keeps_word w = keeps_token (token.Word w)

keeps_name : (n : List ℕ) → Keeps (grammar.name n) n
keeps_name n = record { of = λ tokens h s. prints_weaker (just (token.Word n)) (grammar.name n) n (λ ts e. (s.0, e)) ((keeps_token (token.Word n)).of tokens h s.1) }

keeps_key : (k : List ℕ) → Keeps (grammar.key k) (key_text k)
keeps_key k = keeps_token (token.Key k)

keeps_int : (z : ℤ) → Keeps (just (token.Int z)) (signed_decimal z)
keeps_int z = keeps_token (token.Int z)

keeps_constant : (v : Value) → Keeps (grammar.constant v) (value_text v)
keeps_constant (value.Int n) = keeps_token (token.Int n)
keeps_constant (value.Text s) = keeps_token (token.Text s)

keeps_number : (low high n : ℕ) → Keeps (grammar.number_between low high n) (decimal n)
keeps_number low high n = record { of = λ tokens h s. prints_weaker (just (token.Int (pos n))) (grammar.number_between low high n) (decimal n) (λ ts e. (s.0, s.1, e)) ((keeps_int (pos n)).of tokens h s.2) }

keeps_positive : (z : ℤ) → Keeps (grammar.positive z) (signed_decimal z)
keeps_positive (pos zero) = keeps_nothing (signed_decimal (pos zero))
keeps_positive (pos (suc n)) = keeps_int (pos (suc n))
keeps_positive (negsuc n) = keeps_nothing (signed_decimal (negsuc n))

if_trail : (w : List ℕ) (q : Bool) → KeepsTrail (grammar.word_if w q) (also_if q w)
if_trail w true = space_trail (keeps_word w)
if_trail w false = no_trail

-- ---- lists
keeps_listed : {A : Type 0} (P : A → List Token → Type 0) (f : A → List ℕ) → ((x : A) → Keeps (P x) (f x)) → (xs : List A) → Keeps (grammar.listed P xs) (listed (map f xs))
keeps_listed P f k xs = keeps_brackets (keeps_items 15 (token.Sign Comma) (codes ", ") P f comma_between k xs)

same_names : (ns : List (List ℕ)) → map (λ n. n) ns ≡ ns
same_names [] = refl
same_names (n ∷ ns) = ap (λ ms. n ∷ ms) (same_names ns)

keeps_names : (ns : List (List ℕ)) → Keeps (grammar.names ns) (listed ns)
keeps_names ns = subst (λ ms. Keeps (grammar.names ns) (listed ms)) (same_names ns) (keeps_listed grammar.name (λ n. n) keeps_name ns)

keeps_constants : (vs : List Value) → Keeps (grammar.constants vs) (values_text vs)
keeps_constants vs = keeps_listed grammar.constant value_text keeps_constant vs

keeps_place : (relation label : List ℕ) → Keeps (grammar.place relation label) (on_text label relation)
keeps_place relation label = keeps_then (keeps_name label) (keeps_then (keeps_word (codes "on")) (keeps_name relation))

-- ---- terms
keeps_constant_term : (t : Term) → Keeps (grammar.constant_term t) (full_term t)
keeps_constant_term (Const v) = keeps_constant v
keeps_constant_term (New column) = keeps_nothing (full_term (New column))
keeps_constant_term (Old column) = keeps_nothing (full_term (Old column))

keeps_bare_term : (t : Term) → Keeps (grammar.bare_term t) (bare_term t)
keeps_bare_term (Const v) = keeps_constant v
keeps_bare_term (New column) = keeps_name column
keeps_bare_term (Old column) = keeps_nothing (bare_term (Old column))

keeps_full_term : (t : Term) → Keeps (grammar.full_term t) (full_term t)
keeps_full_term (Const v) = keeps_constant v
keeps_full_term (New column) = keeps_trail (keeps_word (codes "new")) (dot_trail (keeps_name column))
keeps_full_term (Old column) = keeps_trail (keeps_word (codes "old")) (dot_trail (keeps_name column))

-- ---- actions
keeps_pair : (term : Term → List Token → Type 0) → ((t : Term) → Keeps (term t) (full_term t)) → (p : List ℕ × Term) → Keeps (grammar.pair term p) (pair_text p)
keeps_pair term k p = keeps_then (keeps_name p.0) (keeps_then (keeps_token (token.Sign Equal)) (k p.1))

where_trail : (term : Term → List Token → Type 0) → ((t : Term) → Keeps (term t) (full_term t)) → (ps : List (List ℕ × Term)) → KeepsTrail (grammar.matching term ps) (where_text ps)
where_trail term k [] = no_trail
where_trail term k (p ∷ ps) =
    space_trail (keeps_then (keeps_word (codes "where")) (keeps_items 3 (token.Word (codes "and")) (codes " and ") (grammar.pair term) pair_text (word_between (codes "and") and_word) (keeps_pair term k) (p ∷ ps)))

keeps_matching_action : (term : Term → List Token → Type 0) → ((t : Term) → Keeps (term t) (full_term t)) → (a : Action) → Keeps (grammar.matching_action term a) (action_text a)
keeps_matching_action term k (action.Insert relation terms) = keeps_nothing (action_text (action.Insert relation terms))
keeps_matching_action term k (action.Delete relation ps) =
    keeps_behind relation (where_text ps) (keeps_word (codes "delete")) (keeps_trail (keeps_name relation) (where_trail term k ps))
keeps_matching_action term k (action.Set relation column new ps) =
    keeps_behind _ (where_text ps) (keeps_word (codes "set")) (keeps_behind _ (where_text ps) (keeps_name relation) (keeps_behind _ (where_text ps) (keeps_name column)
    (keeps_behind _ (where_text ps) (keeps_token (token.Sign Equal)) (keeps_trail (k new) (where_trail term k ps)))))
keeps_matching_action term k (action.Add relation column new ps) =
    keeps_behind _ (where_text ps) (keeps_word (codes "add")) (keeps_behind _ (where_text ps) (keeps_name relation) (keeps_behind _ (where_text ps) (keeps_name column)
    (keeps_behind _ (where_text ps) (keeps_word (codes "by")) (keeps_trail (k new) (where_trail term k ps)))))

keeps_triggered : (a : Action) → Keeps (grammar.triggered a) (action_text a)
keeps_triggered (action.Insert relation terms) =
    keeps_then (keeps_word (codes "insert")) (keeps_then (keeps_name relation) (keeps_then (keeps_word (codes "values")) (keeps_listed grammar.full_term full_term keeps_full_term terms)))
keeps_triggered (action.Delete relation ps) = keeps_matching_action grammar.full_term keeps_full_term (action.Delete relation ps)
keeps_triggered (action.Set relation column new ps) = keeps_matching_action grammar.full_term keeps_full_term (action.Set relation column new ps)
keeps_triggered (action.Add relation column new ps) = keeps_matching_action grammar.full_term keeps_full_term (action.Add relation column new ps)

-- ---- pieces in a row
from_left : (P Q R : List Token → Type 0) (ts : List Token) → ((P ⨾ Q) ⨾ R) ts → (P ⨾ Q ⨾ R) ts
from_left P Q R ts s = record {
  front = s.is_front.front;
  back = s.is_front.back ++ s.back;
  is_front = s.is_front.is_front;
  is_back = record { front = s.is_front.back; back = s.back; is_front = s.is_front.is_back; is_back = s.is_back; whole = refl };
  whole = s.whole ∙ ap (λ us. us ++ s.back) s.is_front.whole ∙ append_assoc s.is_front.front s.is_front.back s.back;
}

from_right : (P Q R : List Token → Type 0) (ts : List Token) → (P ⨾ Q ⨾ R) ts → ((P ⨾ Q) ⨾ R) ts
from_right P Q R ts s = record {
  front = s.front ++ s.is_back.front;
  back = s.is_back.back;
  is_front = record { front = s.front; back = s.is_back.front; is_front = s.is_front; is_back = s.is_back.is_front; whole = refl };
  is_back = s.is_back.is_back;
  whole = s.whole ∙ ap (λ us. s.front ++ us) s.is_back.whole ∙ sym (append_assoc s.front s.is_back.front s.is_back.back);
}

-- behind the first piece
later : (P Q R : List Token → Type 0) (ts : List Token) → ((us : List Token) → Q us → R us) → (P ⨾ Q) ts → (P ⨾ R) ts
later P Q R ts f s = record { front = s.front; back = s.back; is_front = s.is_front; is_back = f s.back s.is_back; whole = s.whole }

-- a piece in brackets, and another behind it
keeps_flat : {P Q : List Token → Type 0} {a b : List ℕ} → Keeps P a → Keeps Q b → Keeps (grammar.mark Open ⨾ P ⨾ grammar.mark Close ⨾ Q) ((40 ∷ (a ++ 41 ∷ [])) ++ codes " " ++ b)
keeps_flat {P} {Q} {a} {b} p q = record {
  of = λ tokens h s.
      let open_one = grammar.mark Open in
      let close_one = grammar.mark Close in
      let s2 = from_right open_one (P ⨾ close_one) Q tokens (later open_one (P ⨾ close_one ⨾ Q) ((P ⨾ close_one) ⨾ Q) tokens (from_right P close_one Q) s) in
      prints_weaker ((open_one ⨾ P ⨾ close_one) ⨾ Q) (open_one ⨾ P ⨾ close_one ⨾ Q) ((40 ∷ (a ++ 41 ∷ [])) ++ codes " " ++ b)
      (λ ts r. later open_one ((P ⨾ close_one) ⨾ Q) (P ⨾ close_one ⨾ Q) ts (from_left P close_one Q) (from_left open_one (P ⨾ close_one) Q ts r))
      ((keeps_then (keeps_brackets p) q).of tokens h s2);
}

-- ---- attachments
keeps_mode : (m : Mode) → Keeps (grammar.mode m) (mode_text m)
keeps_mode Restrict = keeps_word (codes "restrict")
keeps_mode Cascade = keeps_word (codes "cascade")

keeps_event : (e : Event) → Keeps (grammar.event_word e) (event_text e)
keeps_event event.Insert = keeps_word (codes "insert")
keeps_event event.Delete = keeps_word (codes "delete")
keeps_event event.Update = keeps_word (codes "update")

keeps_attachment : (relation label : List ℕ) (r : Rule) → Keeps (grammar.attachment relation label r) (rule_text relation label r)
keeps_attachment relation label (TreeIndex columns unique) =
    keeps_behind _ (also_if unique (codes "unique")) (keeps_word (codes "treeindex")) (keeps_behind _ (also_if unique (codes "unique")) (keeps_place relation label)
    (keeps_trail (keeps_names columns) (if_trail (codes "unique") unique)))
keeps_attachment relation label (HashIndex columns) =
    keeps_then (keeps_word (codes "hashindex")) (keeps_then (keeps_place relation label) (keeps_names columns))
keeps_attachment relation label (JoinIndex Main columns other others) =
    keeps_then (keeps_word (codes "joinindex")) (keeps_then (keeps_place relation label) (keeps_then (keeps_names columns)
    (keeps_then (keeps_word (codes "with")) (keeps_then (keeps_name other) (keeps_names others)))))
keeps_attachment relation label (JoinIndex Mirror columns other others) = keeps_nothing (rule_text relation label (JoinIndex Mirror columns other others))
keeps_attachment relation label (Stats column low width) =
    keeps_then (keeps_word (codes "stats")) (keeps_then (keeps_place relation label) (keeps_flat (keeps_name column)
    (keeps_then (keeps_word (codes "low")) (keeps_then (keeps_int low) (keeps_then (keeps_word (codes "width")) (keeps_positive width))))))
keeps_attachment relation label (Check pred deferred) =
    keeps_behind _ (also_if deferred (codes "deferred")) (keeps_word (codes "check")) (keeps_behind _ (also_if deferred (codes "deferred")) (keeps_place relation label)
    (keeps_trail (keeps_predicate grammar.bare_term bare_term keeps_bare_term pred) (if_trail (codes "deferred") deferred)))
keeps_attachment relation label (Refers Main columns other others how deferred) =
    let tail = also_if deferred (codes "deferred") in
    keeps_behind _ tail (keeps_word (codes "refers")) (keeps_behind _ tail (keeps_place relation label) (keeps_behind _ tail (keeps_names columns) (keeps_behind _ tail (keeps_word (codes "to"))
    (keeps_behind _ tail (keeps_name other) (keeps_behind _ tail (keeps_names others) (keeps_trail (keeps_mode how) (if_trail (codes "deferred") deferred)))))))
keeps_attachment relation label (Refers Mirror columns other others how deferred) = keeps_nothing (rule_text relation label (Refers Mirror columns other others how deferred))
keeps_attachment relation label (Trigger on pred act deferred) =
    let tail = also_if deferred (codes "deferred") in
    keeps_behind _ tail (keeps_word (codes "trigger")) (keeps_behind _ tail (keeps_place relation label) (keeps_behind _ tail (keeps_word (codes "after")) (keeps_behind _ tail (keeps_event on)
    (keeps_behind _ tail (keeps_word (codes "when")) (keeps_behind _ tail (keeps_predicate grammar.full_term full_term keeps_full_term pred)
    (keeps_behind _ tail (keeps_word (codes "do")) (keeps_trail (keeps_triggered act) (if_trail (codes "deferred") deferred))))))))
keeps_attachment relation label (Foreign code desc) =
    keeps_then (keeps_word (codes "code")) (keeps_then (keeps_number 1000 65535 code) (keeps_then (keeps_place relation label) (keeps_then (keeps_word (codes "desc")) (keeps_key desc))))

-- ---- relations
method_other : (code : ℕ) → 1000 ≤ code → method_text code ≡ codes "method " ++ decimal code
method_other code h =
    let one : (code == 1) ≡ false = ne_eqb code 1 (λ e. omega arith) in
    let two : (code == 2) ≡ false = ne_eqb code 2 (λ e. omega arith) in
    let three : (code == 3) ≡ false = ne_eqb code 3 (λ e. omega arith) in
    let other = codes "method " ++ decimal code in
    ap (λ p. cond p (codes "heap") (cond (code == 2) (codes "tree") (cond (code == 3) (codes "temp") other))) one
    ∙ ap (λ p. cond p (codes "tree") (cond (code == 3) (codes "temp") other)) two
    ∙ ap (λ p. cond p (codes "temp") other) three

method_of : (code : ℕ) (tokens : List Token) → EachProper tokens → grammar.method code tokens → Prints (grammar.method code) (method_text code)
method_of code tokens h (inl s) =
    subst (λ text. Prints (grammar.method code) text) (ap method_text (sym s.0)) (prints_weaker (grammar.word (codes "heap")) (grammar.method code) (codes "heap") (λ ts e. inl (s.0, e)) ((keeps_word (codes "heap")).of tokens h s.1))
method_of code tokens h (inr (inl s)) =
    subst (λ text. Prints (grammar.method code) text) (ap method_text (sym s.0)) (prints_weaker (grammar.word (codes "tree")) (grammar.method code) (codes "tree") (λ ts e. inr (inl (s.0, e))) ((keeps_word (codes "tree")).of tokens h s.1))
method_of code tokens h (inr (inr (inl s))) =
    subst (λ text. Prints (grammar.method code) text) (ap method_text (sym s.0)) (prints_weaker (grammar.word (codes "temp")) (grammar.method code) (codes "temp") (λ ts e. inr (inr (inl (s.0, e)))) ((keeps_word (codes "temp")).of tokens h s.1))
method_of code tokens h (inr (inr (inr s))) =
    subst (λ text. Prints (grammar.method code) text) (sym (method_other code s.is_back.0))
    (prints_weaker (grammar.word (codes "method") ⨾ grammar.foreign_code code) (grammar.method code) (codes "method " ++ decimal code) (λ ts e. inr (inr (inr e)))
    ((keeps_then (keeps_word (codes "method")) (keeps_number 1000 65535 code)).of tokens h s))

keeps_method : (code : ℕ) → Keeps (grammar.method code) (method_text code)
keeps_method code = record { of = method_of code }

trails_weaker : (P Q : List Token → Type 0) (a : List ℕ) → ((ts : List Token) → P ts → Q ts) → Trails P a → Trails Q a
trails_weaker P Q a f t = record { prints = prints_weaker P Q a f t.prints; ends = t.ends }

limit_of : (limit : ℕ) (q : Bool) → (limit == 255) ≡ q → (tokens : List Token) → EachProper tokens → grammar.text_limit limit tokens → Trails (grammar.text_limit limit) (cond q [] (codes "(" ++ decimal limit ++ codes ")"))
limit_of limit true e tokens h s =
    trails_weaker none (grammar.text_limit limit) [] (λ ts n. inl (eqb-true limit 255 e, n)) (no_trail.of [] tt refl)
limit_of limit false e tokens h (inl s) = absurd (let k = eq-eqb limit 255 s.0 in cc)
limit_of limit false e tokens h (inr s) =
    trails_weaker _ (grammar.text_limit limit) (codes "(" ++ decimal limit ++ codes ")") (λ ts r. inr r) ((brackets_trail (keeps_number 1 255 limit)).of tokens h s)

limit_trail : (limit : ℕ) → KeepsTrail (grammar.text_limit limit) (limit_text limit)
limit_trail limit = record { of = limit_of limit (limit == 255) refl }

keeps_int_kind : (limit : ℕ) → Keeps (grammar.kind_with kind.Int limit) (codes "int")
keeps_int_kind limit = record { of = λ tokens h s. prints_weaker (grammar.word (codes "int")) (grammar.kind_with kind.Int limit) (codes "int") (λ ts e. (s.0, e)) ((keeps_word (codes "int")).of tokens h s.1) }

keeps_kind : (n : List ℕ) (k : Kind) (limit : ℕ) → Keeps (grammar.name n ⨾ grammar.kind_with k limit) (elim k [ kind.Int ↦ n ++ codes " int" | kind.Text ↦ n ++ codes " text" ++ limit_text limit ])
keeps_kind n kind.Int limit = keeps_trail (keeps_name n) (space_trail (keeps_int_kind limit))
keeps_kind n kind.Text limit =
    subst (Keeps (grammar.name n ⨾ grammar.kind_with kind.Text limit)) (sym (append_assoc n (codes " text") (limit_text limit)))
    (keeps_trail (keeps_name n) (space_trail (keeps_trail (keeps_word (codes "text")) (limit_trail limit))))

keeps_column : (c : Column) → Keeps (grammar.column c) (column_text c)
keeps_column c = keeps_kind c.name c.kind c.limit

key_trail : (columns : List (List ℕ)) → KeepsTrail (grammar.key_columns columns) (key_columns_text columns)
key_trail [] = no_trail
key_trail (n ∷ ns) = space_trail (keeps_then (keeps_word (codes "key")) (keeps_names (n ∷ ns)))

-- ---- commands
keeps_sort : (is_method : Bool) → Keeps (grammar.sort is_method) (sort_text is_method)
keeps_sort true = keeps_word (codes "method")
keeps_sort false = keeps_word (codes "attachment")

after_trail : (key : Option (List ℕ)) → KeepsTrail (grammar.optional grammar.after_key key) (after_text key)
after_trail None = no_trail
after_trail (Some key) = space_trail (keeps_then (keeps_word (codes "after")) (keeps_key key))

most_trail : (limit : Option ℕ) → KeepsTrail (grammar.optional grammar.row_limit limit) (most_text limit)
most_trail None = no_trail
most_trail (Some n) = space_trail (keeps_then (keeps_word (codes "limit")) (keeps_number 0 1000000 n))

keeps_command : (c : Command) → Keeps (Spells c) (command_text c)
keeps_command (command.Create relation code schema columns) =
    let tail = key_columns_text columns in
    keeps_behind _ tail (keeps_word (codes "create")) (keeps_behind _ tail (keeps_name relation) (keeps_behind _ tail (keeps_word (codes "using"))
    (keeps_behind _ tail (keeps_method code) (keeps_trail (keeps_listed grammar.column column_text keeps_column schema) (key_trail columns)))))
keeps_command (command.Drop relation) = keeps_then (keeps_word (codes "drop")) (keeps_name relation)
keeps_command (command.Attach relation label rule) = keeps_then (keeps_word (codes "attach")) (keeps_attachment relation label rule)
keeps_command (command.Detach relation label) = keeps_then (keeps_word (codes "detach")) (keeps_place relation label)
keeps_command (command.Register is_method code) = keeps_then (keeps_word (codes "register")) (keeps_then (keeps_sort is_method) (keeps_number 1 65535 code))
keeps_command (command.Retire is_method code) = keeps_then (keeps_word (codes "retire")) (keeps_then (keeps_sort is_method) (keeps_number 1 65535 code))
keeps_command command.Begin = keeps_word (codes "begin")
keeps_command command.Commit = keeps_word (codes "commit")
keeps_command command.Abort = keeps_word (codes "abort")
keeps_command (command.Savepoint label) = keeps_then (keeps_word (codes "savepoint")) (keeps_name label)
keeps_command (command.Rollback label) = keeps_then (keeps_word (codes "rollback")) (keeps_name label)
keeps_command (command.Insert relation values) = keeps_then (keeps_word (codes "insert")) (keeps_then (keeps_name relation) (keeps_then (keeps_word (codes "values")) (keeps_constants values)))
keeps_command (command.Delete relation at) = keeps_then (keeps_word (codes "delete")) (keeps_then (keeps_name relation) (keeps_key at))
keeps_command (command.Update relation at values) =
    keeps_then (keeps_word (codes "update")) (keeps_then (keeps_name relation) (keeps_then (keeps_key at) (keeps_then (keeps_word (codes "values")) (keeps_constants values))))
keeps_command (command.Act act) = keeps_matching_action grammar.constant_term keeps_constant_term act
keeps_command (command.Get relation at) = keeps_then (keeps_word (codes "get")) (keeps_then (keeps_name relation) (keeps_key at))
keeps_command (command.Scan relation after limit) =
    subst (Keeps (Spells (command.Scan relation after limit))) (sym (append_assoc (codes "scan" ++ codes " " ++ relation) (after_text after) (most_text limit)))
    (keeps_behind relation (after_text after ++ most_text limit) (keeps_word (codes "scan")) (keeps_trail (keeps_name relation) (two_trails (after_trail after) (most_trail limit))))
keeps_command (command.Lookup relation label values) = keeps_then (keeps_word (codes "lookup")) (keeps_then (keeps_place relation label) (keeps_constants values))
keeps_command (command.Range relation label low high) =
    keeps_then (keeps_word (codes "range")) (keeps_then (keeps_place relation label) (keeps_then (keeps_word (codes "from")) (keeps_then (keeps_constants low)
    (keeps_then (keeps_word (codes "to")) (keeps_constants high)))))
keeps_command (command.Entries relation label) = keeps_then (keeps_word (codes "entries")) (keeps_place relation label)
keeps_command (command.Show relation) = keeps_then (keeps_word (codes "show")) (keeps_name relation)
keeps_command command.Tables = keeps_word (codes "tables")
keeps_command command.Checkpoint = keeps_word (codes "checkpoint")

-- ---- whole lines
pub text_is_line : (line : List ℕ) (c : Command) → IsCommand line c → IsCommand (command_text c) c
text_is_line line c i =
    let text = command_text c in
    let p = (keeps_command c).of (tokens_of i.tokens) (row_proper 0 line i.tokens (Whole i.column) i.is_row) i.spelled in
    let row : AreRow text p.tokens = subst (λ s. AreRow s p.tokens) (append-nil text) (subst (AreRow (text ++ [])) (append-nil p.tokens) (p.are_in [] [] tt refl)) in
    let at = row_placed 0 text p.tokens row in
    record { tokens = at.placed; column = at.column; is_row = at.is_row; spelled = subst (Spells c) (sym at.same) p.spelled }

pub text_is_item : (line : List ℕ) (c : Command) → IsCommand line c → length (command_text c) ≤ 4096 → IsItem (command_text c) (Says c)
text_is_item line c i h = (le-ltb 4096 (length (command_text c)) h, text_is_line line c i)
