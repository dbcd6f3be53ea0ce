use Rattle.std.proofs.Common.{◌+◌, ◌*◌, codes, length}
use Rattle.sb_pred.specs.Tree.{Both, Either}
use Rattle.sb_phrases.specs.Phrases.{is_word, conjunction_at, disjunction_at, unit_at}
use Rattle.sb_tokens.specs.Rows.{tokens_of}
use Rattle.sb_phrases.proofs.Loops.{GroupedSoFar}
use Rattle.sb_phrases.proofs.predicates.+reader.Given as goal

abbrev pub decreases-read_unit : goal.decreases-read_unit
decreases-read_unit l = 3 * l.depth

abbrev pub decreases-read_conjunction : goal.decreases-read_conjunction
decreases-read_conjunction l = 3 * l.depth + 1

abbrev pub decreases-read_disjunction : goal.decreases-read_disjunction
decreases-read_disjunction l = 3 * l.depth + 2

abbrev pub invariant-read_conjunction-loop-behind : goal.invariant-read_conjunction-loop-behind
invariant-read_conjunction-loop-behind l = GroupedSoFar Both (is_word (codes "and")) (unit_at l.form l.depth) (conjunction_at (unit_at l.form l.depth) (tokens_of l.tokens)) l.pred (tokens_of l.rest)

abbrev pub decreases-read_conjunction-loop-behind : goal.decreases-read_conjunction-loop-behind
decreases-read_conjunction-loop-behind l = length (tokens_of l.rest)

abbrev pub invariant-read_disjunction-loop-behind : goal.invariant-read_disjunction-loop-behind
invariant-read_disjunction-loop-behind l = GroupedSoFar Either (is_word (codes "or")) (conjunction_at (unit_at l.form l.depth)) (disjunction_at (unit_at l.form l.depth) (tokens_of l.tokens)) l.pred (tokens_of l.rest)

abbrev pub decreases-read_disjunction-loop-behind : goal.decreases-read_disjunction-loop-behind
decreases-read_disjunction-loop-behind l = length (tokens_of l.rest)
