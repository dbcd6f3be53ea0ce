-- What can't stand at the front of some bytes, from what its parts say.
use Rattle.std.proofs.Common.{◌≡◌, ℕ, ◌+◌, ◌-◌, ◌^◌, ◌<◌, ◌≤◌, List, [], ◌∷◌, ◌++◌, length, take, drop, get_or, min, sym, ap, ◌∙◌, length-append, arith, Option, Some}
use Rattle.std.proofs.Math.ListN.{length-drop}
use Rattle.std.proofs.Math.Seq.{take-length}
use Rattle.sb_pred.specs.declared.predicate.Op.{Op}
use Rattle.sb_pred.specs.declared.predicate.Term.{Term}
use Rattle.sb_pred.specs.Tree.{Tree, Always, Compare, Both, Either, Fails, node_count}
use Rattle.sb_pred.specs.Spelling.{term_spelling, pred_spelling, IsStorableTerm, IsStorablePred, SpellsPred}
use Rattle.sb_pred.specs.Reading.{IsStorableComparison, comparison_spelling, IsSmall, AreSmall, pair_spelling}
use Rattle.sb_pred.proofs.Fronts.{term_spelling-front, pred_spelling-front}

-- the bytes by their first one and the others
pub first_and_rest : (bytes : List ℕ) (tag : ℕ) → 1 ≤ length bytes → get_or bytes 0 0 ≡ tag
    → bytes ≡ tag ∷ take (length bytes - 1) (drop 1 bytes)
first_and_rest [] tag l e = absurd (omega arith)
first_and_rest (b ∷ bytes) tag l e =
    let one : length (b ∷ bytes) - 1 ≡ length bytes = omega arith in
    let first : b ≡ tag = e in
    let rest : take (length (b ∷ bytes) - 1) bytes ≡ bytes = ap (λ n. take n bytes) one ∙ take-length bytes in
    cc

-- where no term stands behind an operator's first term, no comparison stands
pub no_second_term : (bytes behind : List ℕ) (a : Term) → IsStorableTerm a → bytes ≡ term_spelling a ++ behind
    → ((b : Term) (rest : List ℕ) → IsStorableTerm b → behind ≡ term_spelling b ++ rest → ⊥)
    → (c d : Term) (rest : List ℕ) → IsStorableTerm c → IsStorableTerm d → bytes ≡ term_spelling c ++ (term_spelling d ++ rest) → ⊥
no_second_term bytes behind a f e none c d rest g h k =
    let same : (a ≡ c) × (behind ≡ term_spelling d ++ rest) = term_spelling-front a c behind (term_spelling d ++ rest) f g (sym e ∙ k) in
    none d rest h same.1

-- where no predicate of the nodes left stands behind the first, no two predicates stand
pub no_second_pred : (limit counted : ℕ) (bytes behind : List ℕ) (p : Tree)
    → IsStorablePred p → node_count p ≤ limit → limit < 2 ^ 32 → counted ≡ min (node_count p) 4294967295
    → bytes ≡ pred_spelling p ++ behind
    → ((q : Tree) (rest : List ℕ) → IsSmall (limit - counted) q → behind ≡ pred_spelling q ++ rest → ⊥)
    → (q r : Tree) (rest : List ℕ) → AreSmall limit (q, r) → bytes ≡ pred_spelling q ++ (pred_spelling r ++ rest) → ⊥
no_second_pred limit counted bytes behind p f small l n e none q r rest g k =
    let same : (p ≡ q) × (behind ≡ pred_spelling r ++ rest) = pred_spelling-front p q behind (pred_spelling r ++ rest) f g.0 (sym e ∙ k) in
    let count : node_count p ≡ node_count q = ap node_count same.0 in
    let sum : node_count q + node_count r ≤ limit = g.2 in
    let left : node_count r ≤ limit - counted = omega arith in
    none r rest (g.1, left) same.1

-- each predicate has a node
pub some_node : (p : Tree) → 1 ≤ node_count p
some_node Always = omega arith
some_node (Compare op a b) = omega arith
some_node (Both p q) = omega arith
some_node (Either p q) = omega arith
some_node (Fails p) = omega arith

-- the first byte of a predicate is at most 4
pub first_byte : (p : Tree) (bytes rest : List ℕ) → bytes ≡ pred_spelling p ++ rest → (1 ≤ length bytes) × (get_or bytes 0 0 ≤ 4)
first_byte Always bytes rest e = let l = ap (length {A = ℕ}) e in let b = ap (λ s. get_or s 0 0) e in (omega arith, omega arith)
first_byte (Compare op a b) bytes rest e = let l = ap (length {A = ℕ}) e in let b = ap (λ s. get_or s 0 0) e in (omega arith, omega arith)
first_byte (Both p q) bytes rest e = let l = ap (length {A = ℕ}) e in let b = ap (λ s. get_or s 0 0) e in (omega arith, omega arith)
first_byte (Either p q) bytes rest e = let l = ap (length {A = ℕ}) e in let b = ap (λ s. get_or s 0 0) e in (omega arith, omega arith)
first_byte (Fails p) bytes rest e = let l = ap (length {A = ℕ}) e in let b = ap (λ s. get_or s 0 0) e in (omega arith, omega arith)

-- behind the first byte of a node its parts have to stand
pub no_compare : (limit : ℕ) (bytes body : List ℕ) → bytes ≡ 1 ∷ body
    → ((y : Op × Term × Term) (rest : List ℕ) → IsStorableComparison y → body ≡ comparison_spelling y ++ rest → ⊥)
    → (p : Tree) (rest : List ℕ) → IsSmall limit p → bytes ≡ pred_spelling p ++ rest → ⊥
no_compare limit bytes body e none (Compare op a b) rest f k = none (op, a, b) rest f.0 (cc)
no_compare limit bytes body e none _ rest f k = cc

pub no_both : (limit : ℕ) (bytes body : List ℕ) → bytes ≡ 2 ∷ body
    → ((y : Tree × Tree) (rest : List ℕ) → AreSmall (limit - 1) y → body ≡ pair_spelling y ++ rest → ⊥)
    → (p : Tree) (rest : List ℕ) → IsSmall limit p → bytes ≡ pred_spelling p ++ rest → ⊥
no_both limit bytes body e none (Both p q) rest f k =
    let left : node_count p + node_count q ≤ limit - 1 = omega (arith, f.1) in
    none (p, q) rest (f.0.0, f.0.1, left) (cc)
no_both limit bytes body e none _ rest f k = cc

pub no_either : (limit : ℕ) (bytes body : List ℕ) → bytes ≡ 3 ∷ body
    → ((y : Tree × Tree) (rest : List ℕ) → AreSmall (limit - 1) y → body ≡ pair_spelling y ++ rest → ⊥)
    → (p : Tree) (rest : List ℕ) → IsSmall limit p → bytes ≡ pred_spelling p ++ rest → ⊥
no_either limit bytes body e none (Either p q) rest f k =
    let left : node_count p + node_count q ≤ limit - 1 = omega (arith, f.1) in
    none (p, q) rest (f.0.0, f.0.1, left) (cc)
no_either limit bytes body e none _ rest f k = cc

pub no_fails : (limit : ℕ) (bytes body : List ℕ) → bytes ≡ 4 ∷ body
    → ((p : Tree) (rest : List ℕ) → IsSmall (limit - 1) p → body ≡ pred_spelling p ++ rest → ⊥)
    → (p : Tree) (rest : List ℕ) → IsSmall limit p → bytes ≡ pred_spelling p ++ rest → ⊥
no_fails limit bytes body e none (Fails p) rest f k =
    let left : node_count p ≤ limit - 1 = omega (arith, f.1) in
    none p rest (f.0, left) (cc)
no_fails limit bytes body e none _ rest f k = cc

-- all that is left of some bytes from a place on
pub all_behind : (bytes : List ℕ) (at : ℕ) → take (length bytes - at) (drop at bytes) ≡ drop at bytes
all_behind bytes at = rw (← length-drop at bytes) (take-length (drop at bytes))

-- no predicate stands behind the last byte
pub none_behind : (bytes : List ℕ) (at end : ℕ) (p : Tree) → length bytes < at → SpellsPred bytes at end p → ⊥
none_behind bytes at end p past s =
    let front = first_byte p (drop at bytes) (drop end bytes) s.spelled in
    omega (arith, past, front.0, length-drop at bytes)

-- the predicate that was found at a place is the only one that stands there
pub alone : (bytes behind : List ℕ) (at end : ℕ) (p q : Tree) → at ≤ length bytes → IsStorablePred p
    → take (length bytes - at) (drop at bytes) ≡ pred_spelling p ++ behind → SpellsPred bytes at end q
    → ◌≡◌ {A = Option (Tree × ℕ)} (Some (p, length bytes - length behind)) (Some (q, end))
alone bytes behind at end p q l f e s =
    let here : drop at bytes ≡ pred_spelling p ++ behind = sym (all_behind bytes at) ∙ e in
    let same : (p ≡ q) × (behind ≡ drop end bytes) =
    pred_spelling-front p q behind (drop end bytes) f s.storable (sym here ∙ s.spelled) in
    let spelled : length (pred_spelling p) ≡ length (pred_spelling q) = ap (λ t. length (pred_spelling t)) same.0 in
    let sizes : length (drop at bytes) ≡ length (pred_spelling p) + length behind = ap (length {A = ℕ}) here ∙ length-append (pred_spelling p) behind in
    let place : length bytes - length behind ≡ end = omega (arith, s.ends, length-drop at bytes) in
    λ i. Some (same.0 i, place i)
