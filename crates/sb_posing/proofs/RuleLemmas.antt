-- Which rules a line attaches.
use Rattle.std.proofs.Common.{◌≡◌, ℕ, Bool, false, List, None, refl}
use Rattle.std.specs.Prelude.{nat_lt, ◌||◌, ℤ}
use Rattle.std.proofs.lemmas.Bool.{ltb-false, or_parts}
use Rattle.sb_pred.specs.Tree.{Tree, node_count}
use Rattle.sb_rule.specs.declared.action.Action.{Action}
use Rattle.sb_rule.specs.declared.rule.Event.{Event}
use Rattle.sb_rule.specs.declared.rule.Mode.{Mode}
use Rattle.sb_rule.specs.declared.rule.Side.TheVariants.{Main, Mirror}
use Rattle.sb_rule.specs.declared.rule.Rule.{Rule}
use Rattle.sb_rule.specs.declared.rule.Rule.TheVariants.{TreeIndex, HashIndex, JoinIndex, Stats, Check, Refers, Trigger, Foreign}
use Rattle.sb_rule.specs.Spelling.{IsStorableRule, IsWithinLimits}
use Rattle.sb_relation.specs.Build.{main_of}
use Rattle.sb_relation.specs.Limits.{has_long_term, has_long_text, is_large_rule}
use Rattle.sb_tokens.specs.declared.token.Token.{Token}
use Rattle.sb_grammar.specs.Grammar.{attachment, bare_term, full_term}
use Rattle.sb_printer.proofs.Fronts.{IsWord}
use Rattle.sb_printer.proofs.Printed.{EachProper}
use Rattle.sb_posing.proofs.PieceLemmas.{named, names_in, number_in, place_in, split, width_in, word_stored}
use Rattle.sb_posing.proofs.PredicateLemmas.{bare_in, full_in, predicate_in}
use Rattle.sb_posing.proofs.ActionLemmas.{triggered_in}

-- A rule that a line attaches to the relation under the label: both are words, it is no mirror, and it can be stored where it isn't large.
pub record IsAttached (relation label : List ℕ) (rule : Rule) : Type 0 where
  pub places : IsWord relation × IsWord label
  pub main : main_of relation rule ≡ None
  pub stored : is_large_rule rule ≡ false → IsStorableRule rule × IsWithinLimits rule

module _ (relation label : List ℕ) (tokens : List Token) (h : EachProper tokens) where
  tree_in : (columns : List (List ℕ)) (unique : Bool) → attachment relation label (TreeIndex columns unique) tokens → IsAttached relation label (TreeIndex columns unique)
  tree_in columns unique s =
      let a = split tokens h s in
      let b = split a.back a.back_proper a.is_back in
      let c = split b.back b.back_proper b.is_back in
      record {
        places = place_in relation label b.front b.front_proper b.is_front;
        main = refl;
        stored = λ small. (names_in columns c.front c.front_proper c.is_front, tt);
      }

  hash_in : (columns : List (List ℕ)) → attachment relation label (HashIndex columns) tokens → IsAttached relation label (HashIndex columns)
  hash_in columns s =
      let a = split tokens h s in
      let b = split a.back a.back_proper a.is_back in
      record {
        places = place_in relation label b.front b.front_proper b.is_front;
        main = refl;
        stored = λ small. (names_in columns b.back b.back_proper b.is_back, tt);
      }

  join_in : (columns : List (List ℕ)) (other : List ℕ) (others : List (List ℕ)) → attachment relation label (JoinIndex Main columns other others) tokens
      → IsAttached relation label (JoinIndex Main columns other others)
  join_in columns other others s =
      let a = split tokens h s in
      let b = split a.back a.back_proper a.is_back in
      let c = split b.back b.back_proper b.is_back in
      let d = split c.back c.back_proper c.is_back in
      let e = split d.back d.back_proper d.is_back in
      record {
        places = place_in relation label b.front b.front_proper b.is_front;
        main = refl;
        stored = λ small. (
          (names_in columns c.front c.front_proper c.is_front, word_stored other (named other e), names_in others e.back e.back_proper e.is_back),
          tt,
        );
      }

  stats_in : (column : List ℕ) (low width : ℤ) → attachment relation label (Stats column low width) tokens → IsAttached relation label (Stats column low width)
  stats_in column low width s =
      let a = split tokens h s in
      let b = split a.back a.back_proper a.is_back in
      let c = split b.back b.back_proper b.is_back in
      let d = split c.back c.back_proper c.is_back in
      let e = split d.back d.back_proper d.is_back in
      let f = split e.back e.back_proper e.is_back in
      let g = split f.back f.back_proper f.is_back in
      let k = split g.back g.back_proper g.is_back in
      record {
        places = place_in relation label b.front b.front_proper b.is_front;
        main = refl;
        stored = λ small. (
          (word_stored column (named column d), number_in low g.front g.front_proper g.is_front, width_in width k.back k.back_proper k.is_back),
          tt,
        );
      }

  check_in : (pred : Tree) (deferred : Bool) → attachment relation label (Check pred deferred) tokens → IsAttached relation label (Check pred deferred)
  check_in pred deferred s =
      let a = split tokens h s in
      let b = split a.back a.back_proper a.is_back in
      let c = split b.back b.back_proper b.is_back in
      record {
        places = place_in relation label b.front b.front_proper b.is_front;
        main = refl;
        stored = λ small.
            let parts = or_parts (nat_lt 32 (node_count pred)) (has_long_text pred) small in
            (predicate_in bare_term bare_in pred c.front c.front_proper c.is_front parts.1, ltb-false 32 (node_count pred) parts.0);
      }

  reference_in : (columns : List (List ℕ)) (other : List ℕ) (others : List (List ℕ)) (how : Mode) (deferred : Bool)
      → attachment relation label (Refers Main columns other others how deferred) tokens → IsAttached relation label (Refers Main columns other others how deferred)
  reference_in columns other others how deferred s =
      let a = split tokens h s in
      let b = split a.back a.back_proper a.is_back in
      let c = split b.back b.back_proper b.is_back in
      let d = split c.back c.back_proper c.is_back in
      let e = split d.back d.back_proper d.is_back in
      let f = split e.back e.back_proper e.is_back in
      record {
        places = place_in relation label b.front b.front_proper b.is_front;
        main = refl;
        stored = λ small. (
          (names_in columns c.front c.front_proper c.is_front, word_stored other (named other e), names_in others f.front f.front_proper f.is_front),
          tt,
        );
      }

  trigger_in : (on : Event) (pred : Tree) (act : Action) (deferred : Bool) → attachment relation label (Trigger on pred act deferred) tokens
      → IsAttached relation label (Trigger on pred act deferred)
  trigger_in on pred act deferred s =
      let a = split tokens h s in
      let b = split a.back a.back_proper a.is_back in
      let c = split b.back b.back_proper b.is_back in
      let d = split c.back c.back_proper c.is_back in
      let e = split d.back d.back_proper d.is_back in
      let f = split e.back e.back_proper e.is_back in
      let g = split f.back f.back_proper f.is_back in
      let k = split g.back g.back_proper g.is_back in
      record {
        places = place_in relation label b.front b.front_proper b.is_front;
        main = refl;
        stored = λ small.
            let all = or_parts (nat_lt 32 (node_count pred) || has_long_text pred) (has_long_term act) small in
            let parts = or_parts (nat_lt 32 (node_count pred)) (has_long_text pred) all.0 in (
              (predicate_in full_term full_in pred f.front f.front_proper f.is_front parts.1, triggered_in act k.front k.front_proper k.is_front all.1),
              ltb-false 32 (node_count pred) parts.0,
            );
      }

  foreign_in : (code : ℕ) (desc : List ℕ) → attachment relation label (Foreign code desc) tokens → IsAttached relation label (Foreign code desc)
  foreign_in code desc s =
      let a = split tokens h s in
      let b = split a.back a.back_proper a.is_back in
      let c = split b.back b.back_proper b.is_back in
      record { places = place_in relation label c.front c.front_proper c.is_front; main = refl; stored = λ small. (tt, b.is_front.0) }

  pub rule_in : (rule : Rule) → attachment relation label rule tokens → IsAttached relation label rule
  rule_in (TreeIndex columns unique) s = tree_in columns unique s
  rule_in (HashIndex columns) s = hash_in columns s
  rule_in (JoinIndex Main columns other others) s = join_in columns other others s
  rule_in (JoinIndex Mirror columns other others) s = absurd s
  rule_in (Stats column low width) s = stats_in column low width s
  rule_in (Check pred deferred) s = check_in pred deferred s
  rule_in (Refers Main columns other others how deferred) s = reference_in columns other others how deferred s
  rule_in (Refers Mirror columns other others how deferred) s = absurd s
  rule_in (Trigger on pred act deferred) s = trigger_in on pred act deferred s
  rule_in (Foreign code desc) s = foreign_in code desc s
