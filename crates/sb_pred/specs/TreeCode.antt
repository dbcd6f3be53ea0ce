-- Predicates written as rows of signs, so that a proof can tell two of them apart.
use Rattle.std.specs.Prelude.{◌≡◌, ℕ, ℤ, Bool, true, false, List, [], ◌∷◌, ◌++◌, refl, ◌⊎◌}
use Rattle.std.specs.Coded.{Coded, code_by, coded_list, coded×, coded⊎, coded_ℕ, coded_ℤ, coded_bool}
use Rattle.std.proofs.Common.{sym, ◌∙◌, ap, append_assoc, inl, inr}
use Rattle.sb_value.specs.declared.value.Value.TheVariants.{Int, Text}
use Rattle.sb_pred.specs.declared.predicate.Op.{Op}
use Rattle.sb_pred.specs.declared.predicate.Term.{Term}
use Rattle.sb_pred.specs.declared.predicate.Term.TheVariants.{Const, New, Old}
use Rattle.sb_pred.specs.Op.{op_code, op_at, op_at-op_code}
use Rattle.sb_pred.specs.Tree.{Tree, Always, Compare, Both, Either, Fails}

-- a term, by which of the four it is
abbrev Flat : Type 0
Flat = (ℤ ⊎ List ℕ) ⊎ (List ℕ ⊎ List ℕ)

abbrev flat : Term → Flat
flat (Const (Int n)) = inl (inl n)
flat (Const (Text s)) = inl (inr s)
flat (New s) = inr (inl s)
flat (Old s) = inr (inr s)

abbrev unflat : Flat → Term
unflat (inl (inl n)) = Const (Int n)
unflat (inl (inr s)) = Const (Text s)
unflat (inr (inl s)) = New s
unflat (inr (inr s)) = Old s

unflat-flat : (t : Term) → unflat (flat t) ≡ t
unflat-flat (Const (Int n)) = refl
unflat-flat (Const (Text s)) = refl
unflat-flat (New s) = refl
unflat-flat (Old s) = refl

abbrev flat_code : Coded Flat
flat_code = coded⊎ (coded⊎ coded_ℤ (coded_list coded_ℕ)) (coded⊎ (coded_list coded_ℕ) (coded_list coded_ℕ))

-- one sign: what stands at a node, without the predicates under it
pub data Sign : Type 0 where
  Truth : Sign
  Comparison : Op → Term → Term → Sign
  Conjunction : Sign
  Disjunction : Sign
  Negation : Sign

-- a sign, by which of the five it is
abbrev FlatSign : Type 0
FlatSign = (Bool × Bool) ⊎ (ℕ × (Flat × Flat))

abbrev flat_sign : Sign → FlatSign
flat_sign Truth = inl (false, false)
flat_sign (Comparison o a b) = inr (op_code o, (flat a, flat b))
flat_sign Conjunction = inl (true, false)
flat_sign Disjunction = inl (true, true)
flat_sign Negation = inl (false, true)

abbrev sign_of : FlatSign → Sign
sign_of (inl (false, false)) = Truth
sign_of (inl (true, false)) = Conjunction
sign_of (inl (true, true)) = Disjunction
sign_of (inl (false, true)) = Negation
sign_of (inr (o, (a, b))) = Comparison (op_at o) (unflat a) (unflat b)

pub sign_of-flat_sign : (s : Sign) → sign_of (flat_sign s) ≡ s
sign_of-flat_sign Truth = refl
sign_of-flat_sign (Comparison o a b) = λ i. Comparison (op_at-op_code o i) (unflat-flat a i) (unflat-flat b i)
sign_of-flat_sign Conjunction = refl
sign_of-flat_sign Disjunction = refl
sign_of-flat_sign Negation = refl

abbrev sign_code : Coded Sign
sign_code = code_by FlatSign (coded⊎ (coded× coded_bool coded_bool) (coded× coded_ℕ (coded× flat_code flat_code))) flat_sign sign_of sign_of-flat_sign

-- the signs of a tree, each behind those of its parts
abbrev signs : Tree → List Sign
signs Always = Truth ∷ []
signs (Compare o a b) = Comparison o a b ∷ []
signs (Both a b) = signs a ++ (signs b ++ Conjunction ∷ [])
signs (Either a b) = signs a ++ (signs b ++ Disjunction ∷ [])
signs (Fails a) = signs a ++ Negation ∷ []

-- a sign takes its parts from the trees so far, the last of them first
abbrev placed : Sign → List Tree → List Tree
placed (Comparison o a b) ts = Compare o a b ∷ ts
placed Conjunction (b ∷ a ∷ ts) = Both a b ∷ ts
placed Disjunction (b ∷ a ∷ ts) = Either a b ∷ ts
placed Negation (a ∷ ts) = Fails a ∷ ts
placed _ ts = Always ∷ ts

abbrev built : List Sign → List Tree → List Tree
built [] ts = ts
built (s ∷ rest) ts = built rest (placed s ts)

abbrev first_tree : List Tree → Tree
first_tree [] = Always
first_tree (t ∷ ts) = t

built-signs : (t : Tree) (rest : List Sign) (ts : List Tree) → built (signs t ++ rest) ts ≡ built rest (t ∷ ts)
built-signs Always rest ts = refl
built-signs (Compare o a b) rest ts = refl
built-signs (Both a b) rest ts =
    ap (λ s. built s ts)
    (append_assoc (signs a) (signs b ++ Conjunction ∷ []) rest ∙ ap (λ s. signs a ++ s) (append_assoc (signs b) (Conjunction ∷ []) rest))
    ∙ built-signs a (signs b ++ (Conjunction ∷ rest)) ts ∙ built-signs b (Conjunction ∷ rest) (a ∷ ts)
built-signs (Either a b) rest ts =
    ap (λ s. built s ts)
    (append_assoc (signs a) (signs b ++ Disjunction ∷ []) rest ∙ ap (λ s. signs a ++ s) (append_assoc (signs b) (Disjunction ∷ []) rest))
    ∙ built-signs a (signs b ++ (Disjunction ∷ rest)) ts ∙ built-signs b (Disjunction ∷ rest) (a ∷ ts)
built-signs (Fails a) rest ts = ap (λ s. built s ts) (append_assoc (signs a) (Negation ∷ []) rest) ∙ built-signs a (Negation ∷ rest) ts

append-nil : {A : Type 0} (xs : List A) → xs ++ [] ≡ xs
append-nil [] = refl
append-nil (x ∷ xs) = ap (λ ys. x ∷ ys) (append-nil xs)

abbrev tree_back : List Sign → Tree
tree_back s = first_tree (built s [])

pub tree_same : (t : Tree) → tree_back (signs t) ≡ t
tree_same t = ap tree_back (sym (append-nil (signs t))) ∙ ap first_tree (built-signs t [] [])

abbrev pub tree_code : Coded Tree
tree_code = code_by (List Sign) (coded_list sign_code) signs tree_back tree_same
