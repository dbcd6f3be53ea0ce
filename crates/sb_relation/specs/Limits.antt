-- How much a relation's descriptor may hold.
use Rattle.std.specs.Prelude.{ℕ, ◌+◌, nat_le, nat_lt, Bool, false, cond, ◌||◌, List, length, Some, None, sum_by}
use Rattle.std.specs.List.{list_any}
use Rattle.std.specs.Str.{bytes_eq}
use Rattle.sb_value.specs.declared.value.Value.TheVariants.{Text}
use Rattle.sb_pred.specs.declared.predicate.Term.{Term}
use Rattle.sb_pred.specs.declared.predicate.Term.TheVariants.{Const}
use Rattle.sb_pred.specs.Tree.{Tree, Always, Compare, Both, Either, Fails, node_count}
use Rattle.sb_pred.specs.Spelling.{name_spelling}
use Rattle.sb_rule.specs.declared.action.Action.{Action}
use Rattle.sb_rule.specs.declared.action.Action.TheVariants as action
use Rattle.sb_rule.specs.declared.rule.Rule.{Rule}
use Rattle.sb_rule.specs.declared.rule.Rule.TheVariants.{JoinIndex, Check, Refers, Trigger}
use Rattle.sb_rule.specs.Spelling.{names_spelling, rule_spelling}
use Rattle.sb_relation.specs.Db.{Name, Relation, Db, relation_at}

-- the bytes of a relation's descriptor: its numbers, its columns and key, and each attachment with its rule
abbrev pub descriptor_len : Relation → ℕ
descriptor_len r =
    10 + sum_by (λ c. length (name_spelling c.name) + 2) r.schema + length (names_spelling r.key)
    + sum_by (λ a. 10 + length (name_spelling a.name) + length (rule_spelling a.rule)) r.attachments

-- a text of more than 255 bytes
abbrev pub is_long_text : Term → Bool
is_long_text (Const (Text s)) = nat_lt 255 (length s)
is_long_text _ = false

abbrev pub has_long_text : Tree → Bool
has_long_text Always = false
has_long_text (Compare op a b) = is_long_text a || is_long_text b
has_long_text (Both p q) = has_long_text p || has_long_text q
has_long_text (Either p q) = has_long_text p || has_long_text q
has_long_text (Fails p) = has_long_text p

abbrev pub has_long_pair : List (Name × Term) → Bool
has_long_pair pairs = list_any (λ pair. is_long_text pair.1) pairs

abbrev pub has_long_term : Action → Bool
has_long_term (action.Insert relation terms) = list_any is_long_text terms
has_long_term (action.Delete relation pairs) = has_long_pair pairs
has_long_term (action.Set relation column term pairs) = is_long_text term || has_long_pair pairs
has_long_term (action.Add relation column term pairs) = is_long_text term || has_long_pair pairs

-- more than 32 nodes, or a long text
abbrev pub is_large_rule : Rule → Bool
is_large_rule (Check pred deferred) = nat_lt 32 (node_count pred) || has_long_text pred
is_large_rule (Trigger on pred act deferred) = nat_lt 32 (node_count pred) || has_long_text pred || has_long_term act
is_large_rule _ = false

abbrev pub attached_at : Db → Name → ℕ
attached_at db name = elim (relation_at db name) [ None ↦ 0 | Some r ↦ length r.attachments ]

-- a 17th attachment, on either relation of the rule
abbrev pub is_crowded : Db → Name → Rule → Bool
is_crowded db name (JoinIndex side columns other others) = nat_le 16 (attached_at db name) || nat_le 16 (attached_at db other)
is_crowded db name (Refers side columns other others mode deferred) =
    cond (bytes_eq name other) (nat_le 15 (attached_at db name)) (nat_le 16 (attached_at db name) || nat_le 16 (attached_at db other))
is_crowded db name _ = nat_le 16 (attached_at db name)

-- the relation has a descriptor of more than 1,900 bytes
abbrev pub is_large_at : Db → Name → Bool
is_large_at db name = elim (relation_at db name) [ None ↦ false | Some r ↦ nat_lt 1900 (descriptor_len r) ]

-- of the database as the rule would leave it
abbrev pub has_large_descriptor : Name → Rule → Db → Bool
has_large_descriptor name (JoinIndex side columns other others) db = is_large_at db name || is_large_at db other
has_large_descriptor name (Refers side columns other others mode deferred) db = is_large_at db name || is_large_at db other
has_large_descriptor name _ db = is_large_at db name
