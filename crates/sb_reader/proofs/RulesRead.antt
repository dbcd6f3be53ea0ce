-- An attachment is a word, a place and a rule.
use Rattle.std.proofs.Common.{◌≡◌, ℕ, List, codes, refl, Ok, Err}
use Rattle.sb_rule.specs.declared.rule.Side.TheVariants.{Main}
use Rattle.sb_rule.specs.declared.rule.Rule.{Rule}
use Rattle.sb_rule.specs.declared.rule.Rule.TheVariants.{TreeIndex, HashIndex, JoinIndex, Stats, Check, Refers, Trigger}
use Rattle.sb_plain.specs.declared.command.Command.{Command}
use Rattle.sb_plain.specs.declared.command.Command.TheVariants as command
use Rattle.sb_tokens.specs.declared.token.Sign.TheVariants.{Open, Close}
use Rattle.sb_tokens.specs.declared.token.Token.{Token}
use Rattle.sb_language.specs.Reading.{Read, paired, and_then, mapped}
use Rattle.sb_phrases.specs.declared.form.Form.TheVariants.{Bare}
use Rattle.sb_reader.specs.declared.kind.RuleKind.{RuleKind}
use Rattle.sb_reader.specs.declared.kind.RuleKind.TheVariants as kind
use Rattle.sb_phrases.specs.Phrases.{◌⟫◌, Reader, word_at, mark_at, name_at, word_if_at, names_at, place_at}
use Rattle.sb_reader.specs.Commands.{predicate_at, event_at, tree_index_at, hash_index_at, join_index_at, stats_at, check_at, refers_at, trigger_at}
use Rattle.sb_reader.specs.Rules.{tree_rule_at, hash_rule_at, join_rule_at, buckets_at, stats_rule_at, check_rule_at, target_at, refers_rule_at, deed_at, guarded_at, trigger_rule_at, rule_of, attached_at, attachment_of}

abbrev Site : Type 0
Site = List ℕ × (Unit {0} × List ℕ)

-- the command of what was read, where the rule is yet to be made, and where it is made
abbrev made : {A : Type 0} → (A → Rule) → Unit {0} × (Site × A) → Command
made g x = command.Attach x.1.0.1.1 x.1.0.0 (g x.1.1)

abbrev attach : Unit {0} × (Site × Rule) → Command
attach x = command.Attach x.1.0.1.1 x.1.0.0 x.1.1

rule_apart : {A : Type 0} (u : Unit {0}) (s : Site) (g : A → Rule) (r : Read Token A) → mapped (made g) (paired u (paired s r)) ≡ mapped attach (paired u (paired s (mapped g r)))
rule_apart u s g (Ok x) = refl
rule_apart u s g (Err l) = refl

place_apart : {A : Type 0} (u : Unit {0}) (p : Read Token Site) (g : A → Rule) (R : Reader A) → mapped (made g) (paired u (and_then p R)) ≡ mapped attach (paired u (and_then p (λ ts. mapped g (R ts))))
place_apart u (Ok x) g R = rule_apart u x.0 g (R x.1)
place_apart u (Err l) g R = refl

apart : {A : Type 0} (w : Read Token (Unit {0})) (g : A → Rule) (R : Reader A) → mapped (made g) (and_then w (place_at ⟫ R)) ≡ mapped attach (and_then w (place_at ⟫ (λ ts. mapped g (R ts))))
apart (Ok x) g R = place_apart x.0 (place_at x.1) g R
apart (Err l) g R = refl

pub same_of : (k : RuleKind) (ts : List Token) → attachment_of k ts ≡ attached_at k ts
unfolding attached_at rule_of tree_index_at hash_index_at join_index_at stats_at check_at refers_at trigger_at tree_rule_at hash_rule_at join_rule_at buckets_at stats_rule_at check_rule_at target_at refers_rule_at deed_at guarded_at trigger_rule_at
same_of kind.TreeIndex ts = apart (word_at (codes "treeindex") ts) (λ x. TreeIndex x.0 x.1) (names_at ⟫ word_if_at (codes "unique"))
same_of kind.HashIndex ts = apart (word_at (codes "hashindex") ts) (λ columns. HashIndex columns) names_at
same_of kind.JoinIndex ts = apart (word_at (codes "joinindex") ts) (λ x. JoinIndex Main x.0 x.1.1.0 x.1.1.1) (names_at ⟫ word_at (codes "with") ⟫ name_at ⟫ names_at)
same_of kind.Stats ts = apart (word_at (codes "stats") ts) (λ x. Stats x.1.0 x.1.1.1.1.0 x.1.1.1.1.1.1) (mark_at Open ⟫ name_at ⟫ mark_at Close ⟫ buckets_at)
same_of kind.Check ts = apart (word_at (codes "check") ts) (λ x. Check x.0 x.1) (predicate_at Bare ⟫ word_if_at (codes "deferred"))
same_of kind.Refers ts = apart (word_at (codes "refers") ts) (λ x. Refers Main x.0 x.1.1.0 x.1.1.1.0 x.1.1.1.1.0 x.1.1.1.1.1) (names_at ⟫ word_at (codes "to") ⟫ name_at ⟫ target_at)
same_of kind.Trigger ts = apart (word_at (codes "trigger") ts) (λ x. Trigger x.1.0 x.1.1.1.0 x.1.1.1.1.1.0 x.1.1.1.1.1.1) (word_at (codes "after") ⟫ event_at ⟫ guarded_at)
