-- Predicates without where they lie in memory.
use Rattle.std.specs.Prelude.{ℕ, ◌+◌}
use Rattle.sb_pred.specs.declared.predicate.Op.{Op}
use Rattle.sb_pred.specs.declared.predicate.Term.{Term}

-- a predicate: one that holds of each row, a comparison of two terms, or one made of others
pub data Tree : Type 0 where
  Always : Tree
  Compare : Op → Term → Term → Tree
  Both : Tree → Tree → Tree
  Either : Tree → Tree → Tree
  Fails : Tree → Tree

-- how many nodes a predicate has; its terms are none
abbrev pub node_count : Tree → ℕ
node_count Always = 1
node_count (Compare op a b) = 1
node_count (Both p q) = node_count p + node_count q + 1
node_count (Either p q) = node_count p + node_count q + 1
node_count (Fails p) = node_count p + 1
