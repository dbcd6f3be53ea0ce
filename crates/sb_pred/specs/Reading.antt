-- What the readers of the parts of a predicate find at the front of some bytes.
use Rattle.std.specs.Prelude.{◌≡◌, ℕ, ◌+◌, ◌≤◌, List, ◌∷◌, ◌++◌, Option, Some, None}
use denote.Ref.{Bor}
use Rattle.sb_pred.specs.declared.predicate.Op.{Op}
use Rattle.sb_pred.specs.declared.predicate.Term.{Term}
use Rattle.sb_pred.specs.Op.{op_code}
use Rattle.sb_pred.specs.Tree.{Tree, node_count}
use Rattle.sb_pred.specs.Spelling.{term_spelling, pred_spelling, IsStorableTerm, IsStorablePred}

-- what is found at the front of some bytes and the bytes behind it, or none where no front spells one
abbrev pub Finds : {X : Type 0} → (X → Type 0) → (X → List ℕ) → List ℕ → Option (X × Bor (List ℕ)) → Type 0
Finds {X} IsFit spelling bytes None = (x : X) (rest : List ℕ) → IsFit x → bytes ≡ spelling x ++ rest → ⊥
Finds IsFit spelling bytes (Some (x, rest)) = IsFit x × (bytes ≡ spelling x ++ rest.now)

abbrev pub IsStorableComparison : Op × Term × Term → Type 0
IsStorableComparison (op, a, b) = IsStorableTerm a × IsStorableTerm b

-- a comparison without its first byte
abbrev pub comparison_spelling : Op × Term × Term → List ℕ
comparison_spelling (op, a, b) = op_code op ∷ term_spelling a ++ term_spelling b

-- a predicate that can be stored, of at most so many nodes
abbrev pub IsSmall : ℕ → Tree → Type 0
IsSmall limit p = IsStorablePred p × (node_count p ≤ limit)

-- two predicates that can be stored, of at most so many nodes together
abbrev pub AreSmall : ℕ → Tree × Tree → Type 0
AreSmall limit (p, q) = IsStorablePred p × IsStorablePred q × (node_count p + node_count q ≤ limit)

abbrev pub pair_spelling : Tree × Tree → List ℕ
pair_spelling (p, q) = pred_spelling p ++ pred_spelling q
