-- Attachments by their kinds: a word, a place, and the rule behind it.
use Rattle.std.specs.Prelude.{ℕ, codes, List, Bool, ℤ}
use Rattle.std.specs.Borrow.{Bor}
use Rattle.sb_pred.specs.Tree.{Tree}
use Rattle.sb_rule.specs.declared.rule.Side.TheVariants.{Main}
use Rattle.sb_rule.specs.declared.rule.Mode.{Mode}
use Rattle.sb_rule.specs.declared.action.Action.{Action}
use Rattle.sb_rule.specs.declared.rule.Rule.{Rule}
use Rattle.sb_rule.specs.declared.rule.Rule.TheVariants.{TreeIndex, HashIndex, JoinIndex, Stats, Check, Refers, Trigger}
use Rattle.sb_plain.specs.declared.command.Command.{Command}
use Rattle.sb_plain.specs.declared.command.Command.TheVariants as command
use Rattle.sb_tokens.specs.declared.token.Sign.TheVariants.{Open, Close}
use Rattle.sb_tokens.specs.declared.token.Token.{Token}
use Rattle.sb_tokens.specs.declared.token.Placed.{Placed}
use Rattle.sb_tokens.specs.Rows.{tokens_of}
use Rattle.sb_phrases.specs.declared.form.Form.TheVariants.{Bare, Full}
use Rattle.sb_reader.specs.declared.kind.RuleKind.{RuleKind}
use Rattle.sb_reader.specs.declared.kind.RuleKind.TheVariants as kind
use Rattle.sb_phrases.specs.Phrases.{◌⟫◌, mapping, Reader, word_at, mark_at, name_at, int_at, positive_at, word_if_at, names_at, place_at}
use Rattle.sb_reader.specs.Commands.{predicate_at, triggered_at, mode_at, event_at, tree_index_at, hash_index_at, join_index_at, stats_at, check_at, refers_at, trigger_at}

-- ---- what readers hand back, as reading gives it
-- a value behind a word
abbrev pub keyed_beside : {A : Type 0} → A × Bor (List Placed) → (Unit {0} × A) × List Token
keyed_beside read = ((tt, read.0), tokens_of read.1.now)

-- two values, each behind a word
abbrev pub twice_keyed_beside : {A B : Type 0} → (A × B) × Bor (List Placed) → (Unit {0} × (A × (Unit {0} × B))) × List Token
twice_keyed_beside read = ((tt, (read.0.0, (tt, read.0.1))), tokens_of read.1.now)

-- ---- rules, behind the words and places of their attachments
-- NAMES [unique]
unfoldable pub tree_rule_at : Reader Rule
tree_rule_at = mapping (λ x. TreeIndex x.0 x.1) (names_at ⟫ word_if_at (codes "unique"))

unfoldable pub hash_rule_at : Reader Rule
hash_rule_at = mapping (λ columns. HashIndex columns) names_at

-- NAMES with NAME NAMES
unfoldable pub join_rule_at : Reader Rule
join_rule_at = mapping (λ x. JoinIndex Main x.0 x.1.1.0 x.1.1.1) (names_at ⟫ word_at (codes "with") ⟫ name_at ⟫ names_at)

-- low NUMBER width NUMBER
unfoldable pub buckets_at : Reader (Unit {0} × (ℤ × (Unit {0} × ℤ)))
buckets_at = word_at (codes "low") ⟫ int_at ⟫ word_at (codes "width") ⟫ positive_at

-- ( NAME ) BUCKETS
unfoldable pub stats_rule_at : Reader Rule
stats_rule_at = mapping (λ x. Stats x.1.0 x.1.1.1.1.0 x.1.1.1.1.1.1) (mark_at Open ⟫ name_at ⟫ mark_at Close ⟫ buckets_at)

-- PREDICATE [deferred]
unfoldable pub check_rule_at : Reader Rule
check_rule_at = mapping (λ x. Check x.0 x.1) (predicate_at Bare ⟫ word_if_at (codes "deferred"))

-- NAMES MODE [deferred]
unfoldable pub target_at : Reader (List (List ℕ) × (Mode × Bool))
target_at = names_at ⟫ mode_at ⟫ word_if_at (codes "deferred")

-- NAMES to NAME TARGET
unfoldable pub refers_rule_at : Reader Rule
refers_rule_at = mapping (λ x. Refers Main x.0 x.1.1.0 x.1.1.1.0 x.1.1.1.1.0 x.1.1.1.1.1) (names_at ⟫ word_at (codes "to") ⟫ name_at ⟫ target_at)

-- do ACTION [deferred]
unfoldable pub deed_at : Reader (Unit {0} × (Action × Bool))
deed_at = word_at (codes "do") ⟫ triggered_at ⟫ word_if_at (codes "deferred")

-- when PREDICATE DEED
unfoldable pub guarded_at : Reader (Unit {0} × (Tree × (Unit {0} × (Action × Bool))))
guarded_at = word_at (codes "when") ⟫ predicate_at Full ⟫ deed_at

-- after EVENT GUARDED
unfoldable pub trigger_rule_at : Reader Rule
trigger_rule_at = mapping (λ x. Trigger x.1.0 x.1.1.1.0 x.1.1.1.1.1.0 x.1.1.1.1.1.1) (word_at (codes "after") ⟫ event_at ⟫ guarded_at)

-- ---- by the kind
abbrev pub word_of : RuleKind → List ℕ
word_of kind.TreeIndex = codes "treeindex"
word_of kind.HashIndex = codes "hashindex"
word_of kind.JoinIndex = codes "joinindex"
word_of kind.Stats = codes "stats"
word_of kind.Check = codes "check"
word_of kind.Refers = codes "refers"
word_of kind.Trigger = codes "trigger"

unfoldable pub rule_of : RuleKind → Reader Rule
rule_of kind.TreeIndex = tree_rule_at
rule_of kind.HashIndex = hash_rule_at
rule_of kind.JoinIndex = join_rule_at
rule_of kind.Stats = stats_rule_at
rule_of kind.Check = check_rule_at
rule_of kind.Refers = refers_rule_at
rule_of kind.Trigger = trigger_rule_at

-- the word of the kind, a place, and the rule
unfoldable pub attached_at : RuleKind → Reader Command
attached_at k = mapping (λ x. command.Attach x.1.0.1.1 x.1.0.0 x.1.1) (word_at (word_of k) ⟫ place_at ⟫ rule_of k)

-- the attachment of the kind, as the grammar has it
abbrev pub attachment_of : RuleKind → Reader Command
attachment_of kind.TreeIndex = tree_index_at
attachment_of kind.HashIndex = hash_index_at
attachment_of kind.JoinIndex = join_index_at
attachment_of kind.Stats = stats_at
attachment_of kind.Check = check_at
attachment_of kind.Refers = refers_at
attachment_of kind.Trigger = trigger_at
