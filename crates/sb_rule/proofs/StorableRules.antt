-- What can be stored is short, so a rule that was read can be written again.
use Rattle.std.proofs.Common.{List}
use Rattle.sb_pred.proofs.Storable.{IsShortTerm_from_storable, IsShortPred_from_storable}
use Rattle.sb_pred.specs.Spelling.{IsShortTerm, IsStorableName, IsStorableTerm}
use Rattle.sb_pred.specs.declared.predicate.Term.{Term}
use Rattle.sb_rule.specs.Rows.{Name}
use Rattle.sb_rule.specs.declared.action.Action.{Action}
use Rattle.sb_rule.specs.declared.action.Action.TheVariants as action
use Rattle.sb_rule.specs.declared.rule.Rule.{Rule}
use Rattle.sb_rule.specs.declared.rule.Rule.TheVariants.{TreeIndex, HashIndex, JoinIndex, Stats, Check, Refers, Trigger, Foreign}
use Rattle.sb_rule.specs.Spelling.{IsShortList, IsShortName, IsShortPair, IsShortAction, IsShortRule, IsStorablePair, IsStorableAction, IsStorableRule}

short_names : (names : List Name) → IsShortList IsStorableName names → IsShortList IsShortName names
short_names names h = (h.0, λ k d l. (h.1 k d l).1)

short_terms : (terms : List Term) → IsShortList IsStorableTerm terms → IsShortList IsShortTerm terms
short_terms terms h = (h.0, λ k d l. IsShortTerm_from_storable _ (h.1 k d l))

short_pairs : (pairs : List (Name × Term)) → IsShortList IsStorablePair pairs → IsShortList IsShortPair pairs
short_pairs pairs h = (h.0, λ k d l. ((h.1 k d l).0.1, IsShortTerm_from_storable _ (h.1 k d l).1))

short_action : (a : Action) → IsStorableAction a → IsShortAction a
short_action (action.Insert relation terms) h = (h.0.1, short_terms terms h.1)
short_action (action.Delete relation pairs) h = (h.0.1, short_pairs pairs h.1)
short_action (action.Set relation column term pairs) h = (h.0.1, h.1.1, IsShortTerm_from_storable term h.2, short_pairs pairs h.3)
short_action (action.Add relation column term pairs) h = (h.0.1, h.1.1, IsShortTerm_from_storable term h.2, short_pairs pairs h.3)

pub IsShortRule_from_storable : (rule : Rule) → IsStorableRule rule → IsShortRule rule
IsShortRule_from_storable (TreeIndex columns unique) h = short_names columns h
IsShortRule_from_storable (HashIndex columns) h = short_names columns h
IsShortRule_from_storable (JoinIndex side columns other others) h = (short_names columns h.0, h.1.1, short_names others h.2)
IsShortRule_from_storable (Stats column low width) h = (h.0.1, h.2.1)
IsShortRule_from_storable (Check pred deferred) h = IsShortPred_from_storable pred h
IsShortRule_from_storable (Refers side columns other others mode deferred) h = (short_names columns h.0, h.1.1, short_names others h.2)
IsShortRule_from_storable (Trigger event pred a deferred) h = (IsShortPred_from_storable pred h.0, short_action a h.1)
IsShortRule_from_storable (Foreign code desc) h = tt
