-- No spelling begins another, so what a front of some bytes spells and what follows it are one.
use Rattle.std.proofs.Common.{◌≡◌, ℕ, List, [], ◌∷◌, ◌++◌, length, refl, sym, ap, ◌∙◌, append_assoc, arith, ℤ, FitsSigned}
use Rattle.std.specs.Int.{to_be_bytes, from_be_bytes, cast_unsigned, cast_signed, w64}
use Rattle.std.proofs.lemmas.Nat.{from_be_bytes-to_be_bytes_8}
use Rattle.std.proofs.lemmas.Int.{to_z-of_z}
use Rattle.std.proofs.Math.Facts.{Fits-of_z}
use Rattle.sb_value.specs.declared.value.Value.{Value}
use Rattle.sb_value.specs.declared.value.Value.TheVariants.{Int, Text}
use Rattle.sb_value.specs.Spelling.{value_spelling, IsStorable}
use Rattle.sb_pred.specs.declared.predicate.Op.{Op}
use Rattle.sb_pred.specs.declared.predicate.Term.{Term}
use Rattle.sb_pred.specs.declared.predicate.Term.TheVariants.{Const, New, Old}
use Rattle.sb_pred.specs.Op.{op_code, op_at, op_at-op_code}
use Rattle.sb_pred.specs.Tree.{Tree, Always, Compare, Both, Either, Fails}
use Rattle.sb_pred.specs.Spelling.{name_spelling, term_spelling, pred_spelling, IsStorableTerm, IsStorablePred}

-- of two rows of bytes of one length neither goes on behind the other
pub one_length : (s t x y : List ℕ) → length s ≡ length t → s ++ x ≡ t ++ y → (s ≡ t) × (x ≡ y)
one_length [] [] x y l e = (refl, e)
one_length [] (b ∷ t) x y l e = absurd (omega arith)
one_length (a ∷ s) [] x y l e = absurd (omega arith)
one_length (a ∷ s) (b ∷ t) x y l e =
    let rest : (s ≡ t) × (x ≡ y) = one_length s t x y (omega arith) (cc) in
    (cc, rest.1)

pub op_code-injective : (o r : Op) → op_code o ≡ op_code r → o ≡ r
op_code-injective o r e = sym (op_at-op_code o) ∙ ap op_at e ∙ op_at-op_code r

pub number_bytes-injective : (m n : ℤ) → FitsSigned w64 m → FitsSigned w64 n
    → to_be_bytes w64 (cast_unsigned w64 m) ≡ to_be_bytes w64 (cast_unsigned w64 n) → m ≡ n
number_bytes-injective m n f g e =
    let back : cast_unsigned w64 m ≡ cast_unsigned w64 n =
    sym (from_be_bytes-to_be_bytes_8 (cast_unsigned w64 m) (Fits-of_z f).fits) ∙ ap (from_be_bytes w64) e ∙ from_be_bytes-to_be_bytes_8 (cast_unsigned w64 n) (Fits-of_z g).fits
    in
    sym (to_z-of_z w64 m f) ∙ ap (cast_signed w64) back ∙ to_z-of_z w64 n g

pub name_spelling-front : (s t x y : List ℕ) → name_spelling s ++ x ≡ name_spelling t ++ y → (s ≡ t) × (x ≡ y)
name_spelling-front s t x y e = one_length s t x y (cc) (cc)

pub value_spelling-front : (v w : Value) (x y : List ℕ) → IsStorable v → IsStorable w
    → value_spelling v ++ x ≡ value_spelling w ++ y → (v ≡ w) × (x ≡ y)
value_spelling-front (Int m) (Int n) x y f g e =
    let same : (to_be_bytes w64 (cast_unsigned w64 m) ≡ to_be_bytes w64 (cast_unsigned w64 n)) × (x ≡ y) =
    one_length (to_be_bytes w64 (cast_unsigned w64 m)) (to_be_bytes w64 (cast_unsigned w64 n)) x y refl (cc)
    in
    (ap Int (number_bytes-injective m n f g same.0), same.1)
value_spelling-front (Int m) (Text t) x y f g e = absurd (cc)
value_spelling-front (Text s) (Int n) x y f g e = absurd (cc)
value_spelling-front (Text s) (Text t) x y f g e =
    let same : (s ≡ t) × (x ≡ y) = one_length s t x y (cc) (cc) in
    (ap Text same.0, same.1)

pub term_spelling-front : (a b : Term) (x y : List ℕ) → IsStorableTerm a → IsStorableTerm b
    → term_spelling a ++ x ≡ term_spelling b ++ y → (a ≡ b) × (x ≡ y)
term_spelling-front (Const v) (Const w) x y f g e =
    let same : (v ≡ w) × (x ≡ y) = value_spelling-front v w x y f g (cc) in
    (ap Const same.0, same.1)
term_spelling-front (New s) (New t) x y f g e =
    let same : (s ≡ t) × (x ≡ y) = name_spelling-front s t x y (cc) in
    (ap New same.0, same.1)
term_spelling-front (Old s) (Old t) x y f g e =
    let same : (s ≡ t) × (x ≡ y) = name_spelling-front s t x y (cc) in
    (ap Old same.0, same.1)
term_spelling-front _ _ x y f g e = absurd (cc)

pub pred_spelling-front : (p q : Tree) (x y : List ℕ) → IsStorablePred p → IsStorablePred q
    → pred_spelling p ++ x ≡ pred_spelling q ++ y → (p ≡ q) × (x ≡ y)
pred_spelling-front Always Always x y f g e = (refl, cc)
pred_spelling-front (Compare o a b) (Compare r c d) x y f g e =
    let op : o ≡ r = op_code-injective o r (cc) in
    let terms : term_spelling a ++ (term_spelling b ++ x) ≡ term_spelling c ++ (term_spelling d ++ y) =
    cc (append_assoc (term_spelling a) (term_spelling b) x, append_assoc (term_spelling c) (term_spelling d) y) in
    let left : (a ≡ c) × (term_spelling b ++ x ≡ term_spelling d ++ y) = term_spelling-front a c _ _ f.0 g.0 terms in
    let right : (b ≡ d) × (x ≡ y) = term_spelling-front b d x y f.1 g.1 left.1 in
    (cc, right.1)
pred_spelling-front (Both p q) (Both r s) x y f g e =
    let preds : pred_spelling p ++ (pred_spelling q ++ x) ≡ pred_spelling r ++ (pred_spelling s ++ y) =
    cc (append_assoc (pred_spelling p) (pred_spelling q) x, append_assoc (pred_spelling r) (pred_spelling s) y) in
    let left : (p ≡ r) × (pred_spelling q ++ x ≡ pred_spelling s ++ y) = pred_spelling-front p r _ _ f.0 g.0 preds in
    let right : (q ≡ s) × (x ≡ y) = pred_spelling-front q s x y f.1 g.1 left.1 in
    (cc, right.1)
pred_spelling-front (Either p q) (Either r s) x y f g e =
    let preds : pred_spelling p ++ (pred_spelling q ++ x) ≡ pred_spelling r ++ (pred_spelling s ++ y) =
    cc (append_assoc (pred_spelling p) (pred_spelling q) x, append_assoc (pred_spelling r) (pred_spelling s) y) in
    let left : (p ≡ r) × (pred_spelling q ++ x ≡ pred_spelling s ++ y) = pred_spelling-front p r _ _ f.0 g.0 preds in
    let right : (q ≡ s) × (x ≡ y) = pred_spelling-front q s x y f.1 g.1 left.1 in
    (cc, right.1)
pred_spelling-front (Fails p) (Fails r) x y f g e =
    let same : (p ≡ r) × (x ≡ y) = pred_spelling-front p r x y f g (cc) in
    (ap Fails same.0, same.1)
pred_spelling-front _ _ x y f g e = absurd (cc)
