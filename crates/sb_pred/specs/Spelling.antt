-- The spelling of a predicate in stored bytes, and which predicates have one.
use Rattle.std.specs.Prelude.{◌≡◌, ℕ, ◌+◌, ◌≤◌, List, [], ◌∷◌, ◌++◌, length, drop, IsUtf8}
use Rattle.sb_value.specs.Spelling.{value_spelling, IsShort, IsStorable}
use Rattle.sb_pred.specs.declared.predicate.Term.{Term}
use Rattle.sb_pred.specs.declared.predicate.Term.TheVariants.{Const, New, Old}
use Rattle.sb_pred.specs.Op.{op_code}
use Rattle.sb_pred.specs.Tree.{Tree, Always, Compare, Both, Either, Fails, node_count}

-- a name: its length in one byte, and its bytes
abbrev pub name_spelling : List ℕ → List ℕ
name_spelling name = length name ∷ name

-- 0 and a value, 1 and a new column's name, or 2 and an old one's
abbrev pub term_spelling : Term → List ℕ
term_spelling (Const v) = 0 ∷ value_spelling v
term_spelling (New name) = 1 ∷ name_spelling name
term_spelling (Old name) = 2 ∷ name_spelling name

-- a byte that says which node it is, and its parts
abbrev pub pred_spelling : Tree → List ℕ
pred_spelling Always = 0 ∷ []
pred_spelling (Compare op a b) = 1 ∷ op_code op ∷ term_spelling a ++ term_spelling b
pred_spelling (Both p q) = 2 ∷ pred_spelling p ++ pred_spelling q
pred_spelling (Either p q) = 3 ∷ pred_spelling p ++ pred_spelling q
pred_spelling (Fails p) = 4 ∷ pred_spelling p

-- the text or name of a term has at most 255 bytes
abbrev pub IsShortTerm : Term → Type 0
IsShortTerm (Const v) = IsShort v
IsShortTerm (New name) = length name ≤ 255
IsShortTerm (Old name) = length name ≤ 255

-- so it is with each term of a predicate
abbrev pub IsShortPred : Tree → Type 0
IsShortPred Always = Unit {0}
IsShortPred (Compare op a b) = IsShortTerm a × IsShortTerm b
IsShortPred (Both p q) = IsShortPred p × IsShortPred q
IsShortPred (Either p q) = IsShortPred p × IsShortPred q
IsShortPred (Fails p) = IsShortPred p

-- a name that can be stored: UTF-8 of at most 255 bytes
abbrev pub IsStorableName : List ℕ → Type 0
IsStorableName name = IsUtf8 name × (length name ≤ 255)

abbrev pub IsStorableTerm : Term → Type 0
IsStorableTerm (Const v) = IsStorable v
IsStorableTerm (New name) = IsStorableName name
IsStorableTerm (Old name) = IsStorableName name

-- each value and name in a predicate can be stored
abbrev pub IsStorablePred : Tree → Type 0
IsStorablePred Always = Unit {0}
IsStorablePred (Compare op a b) = IsStorableTerm a × IsStorableTerm b
IsStorablePred (Both p q) = IsStorablePred p × IsStorablePred q
IsStorablePred (Either p q) = IsStorablePred p × IsStorablePred q
IsStorablePred (Fails p) = IsStorablePred p

-- the bytes from one place to another spell a predicate of at most 32 nodes
pub record SpellsPred (bytes : List ℕ) (at : ℕ) (end : ℕ) (p : Tree) : Type 0 where
  pub spelled : drop at bytes ≡ pred_spelling p ++ drop end bytes
  pub ends : end ≡ at + length (pred_spelling p)
  pub storable : IsStorablePred p
  pub small : node_count p ≤ 32
