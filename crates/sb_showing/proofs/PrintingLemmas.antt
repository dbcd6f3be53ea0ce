-- The text of a command is UTF-8, where what it names can be stored.
use Rattle.std.proofs.Common.{ℕ, ◌^◌, ◌<◌, codes, ◌==◌, List, [], ◌∷◌, ◌++◌, map, All, IsUtf8, refl, arith}
use Rattle.std.specs.Fmt.{decimal, signed_decimal}
use Rattle.std.proofs.lemmas.Str.{IsUtf8-append, IsUtf8-nil}
use Rattle.sb_value.specs.declared.schema.Kind.{Kind}
use Rattle.sb_value.specs.declared.schema.Kind.TheVariants as kind
use Rattle.sb_value.specs.declared.schema.Column.{Column}
use Rattle.sb_pred.specs.declared.predicate.Op.{Op}
use Rattle.sb_pred.specs.declared.predicate.Op.TheVariants.{Eq, Ne, Lt, Le, Gt, Ge}
use Rattle.sb_pred.specs.declared.predicate.Term.{Term}
use Rattle.sb_pred.specs.declared.predicate.Term.TheVariants.{Const, New, Old}
use Rattle.sb_pred.specs.Spelling.{IsStorableName, IsStorablePred, IsStorableTerm}
use Rattle.sb_pred.specs.Tree.{Tree, Always, Compare, Both, Either, Fails}
use Rattle.sb_rule.specs.declared.action.Action.{Action}
use Rattle.sb_rule.specs.declared.action.Action.TheVariants as action
use Rattle.sb_rule.specs.declared.rule.Event.{Event}
use Rattle.sb_rule.specs.declared.rule.Event.TheVariants as event
use Rattle.sb_rule.specs.declared.rule.Mode.{Mode}
use Rattle.sb_rule.specs.declared.rule.Mode.TheVariants.{Restrict, Cascade}
use Rattle.sb_rule.specs.declared.rule.Rule.{Rule}
use Rattle.sb_rule.specs.declared.rule.Rule.TheVariants.{TreeIndex, HashIndex, JoinIndex, Stats, Check, Refers, Trigger, Foreign}
use Rattle.sb_rule.specs.Spelling.{IsStorableAction, IsStorablePair, IsStorableRule, rule_code}
use Rattle.sb_relation.specs.Db.{Name}
use Rattle.sb_catalog.specs.Descriptors.{IsLimit, IsStorableColumn}
use Rattle.sb_plain.specs.declared.command.Command.{Command}
use Rattle.sb_plain.specs.declared.command.Command.TheVariants as command
use Rattle.sb_plain.specs.Values.{joined, key_text, listed}
use Rattle.sb_plain.specs.Printing.{also_if, bare_term, full_term, op_text, is_either, is_grouped, in_brackets_if, pred_text, spaced, pair_text, where_text, action_text, mode_text, event_text, on_text, rule_text, limit_text, column_text, method_text, key_columns_text, command_text}
use Rattle.sb_showing.specs.Lines.{IsStorableCommand}
use Rattle.sb_showing.proofs.TextLemmas.{AreUtf8-map, AreUtf8-names, utf8-also, utf8-brackets, utf8-cond, utf8-decimal, utf8-joined, utf8-key, utf8-listed, utf8-signed, utf8-spaced, utf8-value, utf8-word}

-- ---- predicates
bare-utf8 : (t : Term) → IsStorableTerm t → IsUtf8 (bare_term t)
bare-utf8 (Const v) is = utf8-value v is
bare-utf8 (New name) is = is.0
bare-utf8 (Old name) is = IsUtf8-append (codes "old.") name (utf8-word (codes "old.") refl) is.0

full-utf8 : (t : Term) → IsStorableTerm t → IsUtf8 (full_term t)
full-utf8 (Const v) is = utf8-value v is
full-utf8 (New name) is = IsUtf8-append (codes "new.") name (utf8-word (codes "new.") refl) is.0
full-utf8 (Old name) is = IsUtf8-append (codes "old.") name (utf8-word (codes "old.") refl) is.0

op-utf8 : (op : Op) → IsUtf8 (op_text op)
op-utf8 Eq = utf8-word (codes "=") refl
op-utf8 Ne = utf8-word (codes "<>") refl
op-utf8 Lt = utf8-word (codes "<") refl
op-utf8 Le = utf8-word (codes "<=") refl
op-utf8 Gt = utf8-word (codes ">") refl
op-utf8 Ge = utf8-word (codes ">=") refl

pred-utf8 : (term : Term → List ℕ) → ((t : Term) → IsStorableTerm t → IsUtf8 (term t)) → (p : Tree) → IsStorablePred p → IsUtf8 (pred_text term p)
pred-utf8 term each Always is = utf8-word (codes "always") refl
pred-utf8 term each (Compare op a b) is = utf8-spaced (term a ∷ op_text op ∷ term b ∷ []) (each a is.0, (op-utf8 op, (each b is.1, tt)))
pred-utf8 term each (Both p q) is =
    utf8-spaced (in_brackets_if (is_either p) (pred_text term p) ∷ codes "and" ∷ in_brackets_if (is_grouped q) (pred_text term q) ∷ [])
    (utf8-brackets (is_either p) (pred_text term p) (pred-utf8 term each p is.0), (utf8-word (codes "and") refl, (utf8-brackets (is_grouped q) (pred_text term q) (pred-utf8 term each q is.1), tt)))
pred-utf8 term each (Either p q) is =
    utf8-spaced (pred_text term p ∷ codes "or" ∷ in_brackets_if (is_either q) (pred_text term q) ∷ [])
    (pred-utf8 term each p is.0, (utf8-word (codes "or") refl, (utf8-brackets (is_either q) (pred_text term q) (pred-utf8 term each q is.1), tt)))
pred-utf8 term each (Fails p) is =
    utf8-spaced (codes "not" ∷ in_brackets_if (is_grouped p) (pred_text term p) ∷ [])
    (utf8-word (codes "not") refl, (utf8-brackets (is_grouped p) (pred_text term p) (pred-utf8 term each p is), tt))

-- ---- actions
pair-utf8 : (pair : Name × Term) → IsStorablePair pair → IsUtf8 (pair_text pair)
pair-utf8 (name, term) is = utf8-spaced (name ∷ codes "=" ∷ full_term term ∷ []) (is.0.0, (utf8-word (codes "=") refl, (full-utf8 term is.1, tt)))

where-utf8 : (pairs : List (Name × Term)) → All IsStorablePair pairs → IsUtf8 (where_text pairs)
where-utf8 [] all = IsUtf8-nil
where-utf8 (pair ∷ pairs) all =
    IsUtf8-append (codes " where ") (joined (codes " and ") (map pair_text (pair ∷ pairs))) (utf8-word (codes " where ") refl)
    (utf8-joined (codes " and ") (map pair_text (pair ∷ pairs)) (utf8-word (codes " and ") refl) (AreUtf8-map IsStorablePair pair_text pair-utf8 (pair ∷ pairs) all))

action-utf8 : (act : Action) → IsStorableAction act → IsUtf8 (action_text act)
action-utf8 (action.Insert relation terms) is =
    utf8-spaced (codes "insert" ∷ relation ∷ codes "values" ∷ listed (map full_term terms) ∷ [])
    (utf8-word (codes "insert") refl, (is.0.0, (utf8-word (codes "values") refl, (utf8-listed (map full_term terms) (AreUtf8-map IsStorableTerm full_term full-utf8 terms is.1.1), tt))))
action-utf8 (action.Delete relation pairs) is =
    IsUtf8-append (spaced (codes "delete" ∷ relation ∷ [])) (where_text pairs)
    (utf8-spaced (codes "delete" ∷ relation ∷ []) (utf8-word (codes "delete") refl, (is.0.0, tt))) (where-utf8 pairs is.1.1)
action-utf8 (action.Set relation column term pairs) is =
    IsUtf8-append (spaced (codes "set" ∷ relation ∷ column ∷ codes "=" ∷ full_term term ∷ [])) (where_text pairs)
    (utf8-spaced (codes "set" ∷ relation ∷ column ∷ codes "=" ∷ full_term term ∷ [])
    (utf8-word (codes "set") refl, (is.0.0, (is.1.0, (utf8-word (codes "=") refl, (full-utf8 term is.2, tt))))))
    (where-utf8 pairs is.3.1)
action-utf8 (action.Add relation column term pairs) is =
    IsUtf8-append (spaced (codes "add" ∷ relation ∷ column ∷ codes "by" ∷ full_term term ∷ [])) (where_text pairs)
    (utf8-spaced (codes "add" ∷ relation ∷ column ∷ codes "by" ∷ full_term term ∷ [])
    (utf8-word (codes "add") refl, (is.0.0, (is.1.0, (utf8-word (codes "by") refl, (full-utf8 term is.2, tt))))))
    (where-utf8 pairs is.3.1)

-- ---- rules
mode-utf8 : (mode : Mode) → IsUtf8 (mode_text mode)
mode-utf8 Restrict = utf8-word (codes "restrict") refl
mode-utf8 Cascade = utf8-word (codes "cascade") refl

event-utf8 : (on : Event) → IsUtf8 (event_text on)
event-utf8 event.Insert = utf8-word (codes "insert") refl
event-utf8 event.Delete = utf8-word (codes "delete") refl
event-utf8 event.Update = utf8-word (codes "update") refl

on-utf8 : (name relation : Name) → IsUtf8 name → IsUtf8 relation → IsUtf8 (on_text name relation)
on-utf8 name relation u v = utf8-spaced (name ∷ codes "on" ∷ relation ∷ []) (u, (utf8-word (codes "on") refl, (v, tt)))

rule-utf8 : (relation name : Name) (rule : Rule) → IsUtf8 relation → IsUtf8 name → rule_code rule < 2 ^ 16 → IsStorableRule rule → IsUtf8 (rule_text relation name rule)
rule-utf8 relation name (TreeIndex columns unique) u v small is =
    IsUtf8-append (spaced (codes "treeindex" ∷ on_text name relation ∷ listed columns ∷ [])) (also_if unique (codes "unique"))
    (utf8-spaced (codes "treeindex" ∷ on_text name relation ∷ listed columns ∷ [])
    (utf8-word (codes "treeindex") refl, (on-utf8 name relation v u, (utf8-listed columns (AreUtf8-names columns is.1), tt))))
    (utf8-also unique (codes "unique") (utf8-word (codes "unique") refl))
rule-utf8 relation name (HashIndex columns) u v small is =
    utf8-spaced (codes "hashindex" ∷ on_text name relation ∷ listed columns ∷ [])
    (utf8-word (codes "hashindex") refl, (on-utf8 name relation v u, (utf8-listed columns (AreUtf8-names columns is.1), tt)))
rule-utf8 relation name (JoinIndex side columns other others) u v small is =
    utf8-spaced (codes "joinindex" ∷ on_text name relation ∷ listed columns ∷ codes "with" ∷ other ∷ listed others ∷ []) (
      utf8-word (codes "joinindex") refl,
      (
        on-utf8 name relation v u,
        (
          utf8-listed columns (AreUtf8-names columns is.0.1),
          (utf8-word (codes "with") refl, (is.1.0, (utf8-listed others (AreUtf8-names others is.2.1), tt))),
        ),
      ),
    )
rule-utf8 relation name (Stats column low width) u v small is =
    utf8-spaced (codes "stats" ∷ on_text name relation ∷ listed (column ∷ []) ∷ codes "low" ∷ signed_decimal low ∷ codes "width" ∷ signed_decimal width ∷ []) (
      utf8-word (codes "stats") refl,
      (
        on-utf8 name relation v u,
        (
          utf8-listed (column ∷ []) (is.0.0, tt),
          (utf8-word (codes "low") refl, (utf8-signed low is.1, (utf8-word (codes "width") refl, (utf8-signed width is.2.0, tt)))),
        ),
      ),
    )
rule-utf8 relation name (Check pred deferred) u v small is =
    IsUtf8-append (spaced (codes "check" ∷ on_text name relation ∷ pred_text bare_term pred ∷ [])) (also_if deferred (codes "deferred"))
    (utf8-spaced (codes "check" ∷ on_text name relation ∷ pred_text bare_term pred ∷ [])
    (utf8-word (codes "check") refl, (on-utf8 name relation v u, (pred-utf8 bare_term bare-utf8 pred is, tt))))
    (utf8-also deferred (codes "deferred") (utf8-word (codes "deferred") refl))
rule-utf8 relation name (Refers side columns other others mode deferred) u v small is =
    IsUtf8-append (spaced (codes "refers" ∷ on_text name relation ∷ listed columns ∷ codes "to" ∷ other ∷ listed others ∷ mode_text mode ∷ [])) (also_if deferred (codes "deferred"))
    (utf8-spaced (codes "refers" ∷ on_text name relation ∷ listed columns ∷ codes "to" ∷ other ∷ listed others ∷ mode_text mode ∷ []) (
      utf8-word (codes "refers") refl,
      (
        on-utf8 name relation v u,
        (
          utf8-listed columns (AreUtf8-names columns is.0.1),
          (utf8-word (codes "to") refl, (is.1.0, (utf8-listed others (AreUtf8-names others is.2.1), (mode-utf8 mode, tt)))),
        ),
      ),
    ))
    (utf8-also deferred (codes "deferred") (utf8-word (codes "deferred") refl))
rule-utf8 relation name (Trigger on pred act deferred) u v small is =
    IsUtf8-append
    (spaced (codes "trigger" ∷ on_text name relation ∷ codes "after" ∷ event_text on ∷ codes "when" ∷ pred_text full_term pred ∷ codes "do" ∷ action_text act ∷ []))
    (also_if deferred (codes "deferred"))
    (utf8-spaced (codes "trigger" ∷ on_text name relation ∷ codes "after" ∷ event_text on ∷ codes "when" ∷ pred_text full_term pred ∷ codes "do" ∷ action_text act ∷ []) (
      utf8-word (codes "trigger") refl,
      (
        on-utf8 name relation v u,
        (
          utf8-word (codes "after") refl,
          (
            event-utf8 on,
            (utf8-word (codes "when") refl, (pred-utf8 full_term full-utf8 pred is.0, (utf8-word (codes "do") refl, (action-utf8 act is.1, tt)))),
          ),
        ),
      ),
    ))
    (utf8-also deferred (codes "deferred") (utf8-word (codes "deferred") refl))
rule-utf8 relation name (Foreign code desc) u v small is =
    utf8-spaced (codes "code" ∷ decimal code ∷ on_text name relation ∷ codes "desc" ∷ key_text desc ∷ [])
    (utf8-word (codes "code") refl, (utf8-decimal code small, (on-utf8 name relation v u, (utf8-word (codes "desc") refl, (utf8-key desc, tt)))))

-- ---- relations
limit-utf8 : (limit : ℕ) → limit < 256 → IsUtf8 (limit_text limit)
limit-utf8 limit small =
    utf8-cond (limit == 255) [] (codes "(" ++ decimal limit ++ codes ")") IsUtf8-nil
    (IsUtf8-append (codes "(" ++ decimal limit) (codes ")") (IsUtf8-append (codes "(") (decimal limit) (utf8-word (codes "(") refl) (utf8-decimal limit (omega arith))) (utf8-word (codes ")") refl))

column-utf8 : (c : Column) → IsStorableColumn c → IsUtf8 (column_text c)
column-utf8 c is = by c.kind is.1
  where
    by : (k : Kind) → IsLimit k c.limit → IsUtf8 (elim k [ kind.Int ↦ c.name ++ codes " int" | kind.Text ↦ c.name ++ codes " text" ++ limit_text c.limit ])
    by kind.Int none = IsUtf8-append c.name (codes " int") is.0.0 (utf8-word (codes " int") refl)
    by kind.Text small =
        IsUtf8-append (c.name ++ codes " text") (limit_text c.limit) (IsUtf8-append c.name (codes " text") is.0.0 (utf8-word (codes " text") refl)) (limit-utf8 c.limit small)

method-utf8 : (method : ℕ) → method < 2 ^ 16 → IsUtf8 (method_text method)
method-utf8 method small =
    utf8-cond (method == 1) (codes "heap") _ (utf8-word (codes "heap") refl)
    (utf8-cond (method == 2) (codes "tree") _ (utf8-word (codes "tree") refl)
    (utf8-cond (method == 3) (codes "temp") (codes "method " ++ decimal method) (utf8-word (codes "temp") refl)
    (IsUtf8-append (codes "method ") (decimal method) (utf8-word (codes "method ") refl) (utf8-decimal method small))))

key-utf8 : (names : List Name) → All IsStorableName names → IsUtf8 (key_columns_text names)
key-utf8 [] all = IsUtf8-nil
key-utf8 (name ∷ names) all = IsUtf8-append (codes " key ") (listed (name ∷ names)) (utf8-word (codes " key ") refl) (utf8-listed (name ∷ names) (AreUtf8-names (name ∷ names) all))

-- ---- commands
pub command-utf8 : (c : Command) → IsStorableCommand c → IsUtf8 (command_text c)
command-utf8 (command.Create relation method schema key) is =
    IsUtf8-append (spaced (codes "create" ∷ relation ∷ codes "using" ∷ method_text method ∷ listed (map column_text schema) ∷ [])) (key_columns_text key)
    (utf8-spaced (codes "create" ∷ relation ∷ codes "using" ∷ method_text method ∷ listed (map column_text schema) ∷ []) (
      utf8-word (codes "create") refl,
      (
        is.0,
        (
          utf8-word (codes "using") refl,
          (
            method-utf8 method is.1,
            (utf8-listed (map column_text schema) (AreUtf8-map IsStorableColumn column_text column-utf8 schema is.2.1), tt),
          ),
        ),
      ),
    ))
    (key-utf8 key is.3.1)
command-utf8 (command.Attach relation name rule) is =
    utf8-spaced (codes "attach" ∷ rule_text relation name rule ∷ []) (utf8-word (codes "attach") refl, (rule-utf8 relation name rule is.0 is.1.0 is.2 is.3, tt))
command-utf8 _ is = absurd is
