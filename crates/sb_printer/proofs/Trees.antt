-- Predicates: how deep their text is at most, and that it is a predicate of the language.
use Rattle.std.proofs.Common.{◌≡◌, ℕ, zero, suc, ◌≤◌, List, [], ◌∷◌, ◌++◌, codes, refl, sym, ◌∙◌, ap, subst, inl, inr, Bool, true, false, arith, append_assoc}
use Rattle.std.specs.Prelude.{max}
use Rattle.std.specs.List.{fold}
use Rattle.std.proofs.lemmas.List.{append-nil}
use Rattle.sb_pred.specs.declared.predicate.Op.{Op}
use Rattle.sb_pred.specs.declared.predicate.Op.TheVariants.{Eq, Ne, Lt, Le, Gt, Ge}
use Rattle.sb_pred.specs.declared.predicate.Term.{Term}
use Rattle.sb_pred.specs.Tree.{Tree, Always, Compare, Both, Either, Fails}
use Rattle.sb_language.specs.Lang.{◌⨾◌, just, many, grouped}
use Rattle.sb_tokens.specs.declared.token.Token.{Token}
use Rattle.sb_tokens.specs.declared.token.Token.TheVariants as token
use Rattle.sb_grammar.specs.Grammar.{word, mark, sign_of, plain_unit, conjunction, disjunction, negation, unit_within, predicate}
use Rattle.sb_plain.specs.Printing.{op_text, is_either, is_grouped, in_brackets_if, pred_text}
use Rattle.sb_printer.proofs.Fronts.{IsWord}
use Rattle.sb_printer.proofs.Printed.{EachProper, Prints, Keeps, parts, inner, AreRow, prints_token, prints_then, prints_brackets, prints_weaker, word_between}

-- ---- how many brackets and `not` are open at once in the text
abbrev bracket : Bool → ℕ → ℕ
bracket true n = suc n
bracket false n = n

abbrev need : Tree → ℕ
need Always = 0
need (Compare op a b) = 0
need (Both p q) = max (bracket (is_either p) (need p)) (bracket (is_grouped q) (need q))
need (Either p q) = max (need p) (bracket (is_either q) (need q))
need (Fails p) = suc (bracket (is_grouped p) (need p))

one_more : (q : Bool) (n : ℕ) → bracket q n ≤ suc n
one_more true n = omega arith
one_more false n = omega arith

at_least : (q : Bool) (n : ℕ) → n ≤ bracket q n
at_least true n = omega arith
at_least false n = omega arith

fewer_brackets : (p : Tree) (n : ℕ) → bracket (is_either p) n ≤ bracket (is_grouped p) n
fewer_brackets Always n = omega arith
fewer_brackets (Compare op a b) n = omega arith
fewer_brackets (Both p q) n = omega arith
fewer_brackets (Either p q) n = omega arith
fewer_brackets (Fails p) n = omega arith

-- ---- what is grouped
-- where it holds of the first, and each other one keeps it
others_hold : {A : Type 0} (C U : A → Type 0) (group : A → A → A) (sign : Token) (P : A → List Token → Type 0) → ((x y : A) → C x → U y → C (group x y)) → ((y : A) (ts : List Token) → EachProper ts → P y ts → U y) →
    (others : List A) (x : A) (ts : List Token) → EachProper ts → C x → many sign P others ts → C (fold group x others)
others_hold C U group sign P more each [] x ts h c s = c
others_hold C U group sign P more each (y ∷ ys) x ts h c s =
    let a = parts (just sign) (P y ⨾ many sign P ys) ts h s in
    let b = parts (P y) (many sign P ys) a.back a.back_proper a.is_back in
    others_hold C U group sign P more each ys (group x y) b.back b.back_proper (more x y c (each y b.front b.front_proper b.is_front)) b.is_back

group_holds : {A : Type 0} (C U : A → Type 0) (group : A → A → A) (sign : Token) (P : A → List Token → Type 0) → ((x y : A) → C x → U y → C (group x y)) → ((x : A) → U x → C x) → ((y : A) (ts : List Token) → EachProper ts → P y ts → U y) →
    (whole : A) (ts : List Token) → EachProper ts → grouped group sign P whole ts → C whole
group_holds C U group sign P more one each whole ts h s =
    let a = parts (P s.first) (many sign P s.others) ts h s.spelled in
    subst C (sym s.is) (others_hold C U group sign P more each s.others s.first a.back a.back_proper (one s.first (each s.first a.front a.front_proper a.is_front)) a.is_back)

-- one more behind it
many_more : {A : Type 0} (sign : Token) (P : A → List Token → Type 0) (xs : List A) (b : A) (ts us : List Token) → many sign P xs ts → P b us → many sign P (xs ++ b ∷ []) (ts ++ sign ∷ us)
many_more sign P [] b ts us e p =
    subst (λ vs. many sign P (b ∷ []) (vs ++ sign ∷ us)) (sym e)
    (record { front = sign ∷ []; back = us; is_front = refl; is_back = record { front = us; back = []; is_front = p; is_back = refl; whole = sym (append-nil us) }; whole = refl })
many_more sign P (x ∷ xs) b ts us s p = record {
  front = s.front;
  back = s.back ++ sign ∷ us;
  is_front = s.is_front;
  is_back = record {
    front = s.is_back.front;
    back = s.is_back.back ++ sign ∷ us;
    is_front = s.is_back.is_front;
    is_back = many_more sign P xs b s.is_back.back us s.is_back.is_back p;
    whole = ap (λ vs. vs ++ sign ∷ us) s.is_back.whole ∙ append_assoc s.is_back.front s.is_back.back (sign ∷ us);
  };
  whole = ap (λ vs. vs ++ sign ∷ us) s.whole ∙ append_assoc s.front s.back (sign ∷ us);
}

fold_more : {A : Type 0} (group : A → A → A) (x b : A) (xs : List A) → fold group x (xs ++ b ∷ []) ≡ group (fold group x xs) b
fold_more group x b [] = refl
fold_more group x b (y ∷ ys) = fold_more group (group x y) b ys

group_more : {A : Type 0} (group : A → A → A) (sign : Token) (P : A → List Token → Type 0) (a b : A) (ts us : List Token) → grouped group sign P a ts → P b us → grouped group sign P (group a b) (ts ++ sign ∷ us)
group_more group sign P a b ts us s p = record {
  first = s.first;
  others = s.others ++ b ∷ [];
  is = ap (λ x. group x b) s.is ∙ sym (fold_more group s.first b s.others);
  spelled = record {
    front = s.spelled.front;
    back = s.spelled.back ++ sign ∷ us;
    is_front = s.spelled.is_front;
    is_back = many_more sign P s.others b s.spelled.back us s.spelled.is_back p;
    whole = ap (λ vs. vs ++ sign ∷ us) s.spelled.whole ∙ append_assoc s.spelled.front s.spelled.back (sign ∷ us);
  };
}

group_one : {A : Type 0} (group : A → A → A) (sign : Token) (P : A → List Token → Type 0) (a : A) (ts : List Token) → P a ts → grouped group sign P a ts
group_one group sign P a ts p = record { first = a; others = []; is = refl; spelled = record { front = ts; back = []; is_front = p; is_back = refl; whole = sym (append-nil ts) } }

prints_one : {A : Type 0} (group : A → A → A) (sign : Token) (P : A → List Token → Type 0) (a : A) (text : List ℕ) → Prints (P a) text → Prints (grouped group sign P a) text
prints_one group sign P a text p = prints_weaker (P a) (grouped group sign P a) text (group_one group sign P a) p

prints_more : {A : Type 0} (group : A → A → A) (w : List ℕ) (P : A → List Token → Type 0) (a b : A) (x y : List ℕ) → IsWord w → Prints (grouped group (token.Word w) P a) x → Prints (P b) y →
    Prints (grouped group (token.Word w) P (group a b)) ((x ++ codes " ") ++ ((w ++ codes " ") ++ y))
prints_more group w P a b x y h p q =
    let s = word_between w h in
    let whole : (rest : List ℕ) → ((x ++ 32 ∷ []) ++ ((w ++ 32 ∷ []) ++ y)) ++ rest ≡ x ++ ((32 ∷ (w ++ 32 ∷ [])) ++ (y ++ rest)) =
    λ rest. ap (λ s. s ++ rest) (append_assoc x (32 ∷ []) ((w ++ 32 ∷ []) ++ y)) ∙ append_assoc x (32 ∷ ((w ++ 32 ∷ []) ++ y)) rest ∙ ap (λ s. x ++ (32 ∷ s)) (append_assoc (w ++ 32 ∷ []) y rest) in
    record {
      tokens = p.tokens ++ token.Word w ∷ q.tokens;
      spelled = group_more group (token.Word w) P a b p.tokens q.tokens p.spelled q.spelled;
      are_in = λ rest us e r. subst (λ s. AreRow s ((p.tokens ++ token.Word w ∷ q.tokens) ++ us)) (sym (whole rest))
          (subst (λ ts. AreRow (x ++ ((32 ∷ (w ++ 32 ∷ [])) ++ (y ++ rest))) ts) (sym (append_assoc p.tokens (token.Word w ∷ q.tokens) us))
          (p.are_in ((32 ∷ (w ++ 32 ∷ [])) ++ (y ++ rest)) (token.Word w ∷ (q.tokens ++ us)) (inl refl) (s.row (y ++ rest) (q.tokens ++ us) (q.are_in rest us e r))));
    }

-- ---- words
always_word : IsWord (codes "always")
always_word = record { letter = refl; each = (refl, (refl, (refl, (refl, (refl, (refl, tt)))))); short = refl }

not_word : IsWord (codes "not")
not_word = record { letter = refl; each = (refl, (refl, (refl, tt))); short = refl }

pub and_word : IsWord (codes "and")
and_word = record { letter = refl; each = (refl, (refl, (refl, tt))); short = refl }

or_word : IsWord (codes "or")
or_word = record { letter = refl; each = (refl, (refl, tt)); short = refl }

prints_op : (op : Op) → Prints (mark (sign_of op)) (op_text op)
prints_op Eq = prints_token (token.Sign (sign_of Eq)) tt
prints_op Ne = prints_token (token.Sign (sign_of Ne)) tt
prints_op Lt = prints_token (token.Sign (sign_of Lt)) tt
prints_op Le = prints_token (token.Sign (sign_of Le)) tt
prints_op Gt = prints_token (token.Sign (sign_of Gt)) tt
prints_op Ge = prints_token (token.Sign (sign_of Ge)) tt

-- ---- from the tokens to the tree
-- the text of each term is one
abbrev TermsPrint : (Term → List Token → Type 0) → (Term → List ℕ) → Tree → Type 0
TermsPrint term text Always = Unit {0}
TermsPrint term text (Compare op a b) = Prints (term a) (text a) × Prints (term b) (text b)
TermsPrint term text (Both p q) = TermsPrint term text p × TermsPrint term text q
TermsPrint term text (Either p q) = TermsPrint term text p × TermsPrint term text q
TermsPrint term text (Fails p) = TermsPrint term text p

-- what a text needs where a unit may stand, a conjunction, or a whole predicate
record AsUnit (term : Term → List Token → Type 0) (text : Term → List ℕ) (n : ℕ) (p : Tree) : Type 0 where
  within : bracket (is_grouped p) (need p) ≤ n
  terms : TermsPrint term text p

record AsConjunction (term : Term → List Token → Type 0) (text : Term → List ℕ) (n : ℕ) (p : Tree) : Type 0 where
  within : bracket (is_either p) (need p) ≤ n
  terms : TermsPrint term text p

record AsPredicate (term : Term → List Token → Type 0) (text : Term → List ℕ) (n : ℕ) (p : Tree) : Type 0 where
  within : need p ≤ n
  terms : TermsPrint term text p

conjunction_as : (term : Term → List Token → Type 0) (text : Term → List ℕ) (n : ℕ) (unit : Tree → List Token → Type 0) → ((p : Tree) (ts : List Token) → EachProper ts → unit p ts → AsUnit term text n p) →
    (p : Tree) (ts : List Token) → EachProper ts → conjunction unit p ts → AsConjunction term text n p
conjunction_as term text n unit each = group_holds (AsConjunction term text n) (AsUnit term text n) Both (token.Word (codes "and")) unit
    (λ x y c u. record { within = let h = c.within in let k = u.within in omega arith; terms = (c.terms, u.terms) })
    (λ x u. record { within = let h = u.within in let k = fewer_brackets x (need x) in omega arith; terms = u.terms })
    each

predicate_as : (term : Term → List Token → Type 0) (text : Term → List ℕ) (n : ℕ) (unit : Tree → List Token → Type 0) → ((p : Tree) (ts : List Token) → EachProper ts → unit p ts → AsUnit term text n p) →
    (p : Tree) (ts : List Token) → EachProper ts → disjunction unit p ts → AsPredicate term text n p
predicate_as term text n unit each = group_holds (AsPredicate term text n) (AsConjunction term text n) Either (token.Word (codes "or")) (conjunction unit)
    (λ x y c u. record { within = let h = c.within in let k = u.within in omega arith; terms = (c.terms, u.terms) })
    (λ x u. record { within = let h = u.within in let k = at_least (is_either x) (need x) in omega arith; terms = u.terms })
    (conjunction_as term text n unit each)

plain_as : (term : Term → List Token → Type 0) (text : Term → List ℕ) (n : ℕ) → ((a : Term) → Keeps (term a) (text a)) → (p : Tree) (ts : List Token) → EachProper ts → plain_unit term p ts → AsUnit term text n p
plain_as term text n k Always ts h s = record { within = omega arith; terms = tt }
plain_as term text n k (Compare op a b) ts h s =
    let x = parts (term a) (mark (sign_of op) ⨾ term b) ts h s in
    let y = parts (mark (sign_of op)) (term b) x.back x.back_proper x.is_back in
    record { within = omega arith; terms = ((k a).of x.front x.front_proper x.is_front, (k b).of y.back y.back_proper y.is_back) }
plain_as term text n k (Both p q) ts h s = absurd s
plain_as term text n k (Either p q) ts h s = absurd s
plain_as term text n k (Fails p) ts h s = absurd s

negation_as : (term : Term → List Token → Type 0) (text : Term → List ℕ) (n : ℕ) (unit : Tree → List Token → Type 0) → ((p : Tree) (ts : List Token) → EachProper ts → unit p ts → AsUnit term text n p) →
    (p : Tree) (ts : List Token) → EachProper ts → negation unit p ts → AsUnit term text (suc n) p
negation_as term text n unit each Always ts h s = absurd s
negation_as term text n unit each (Compare op a b) ts h s = absurd s
negation_as term text n unit each (Both p q) ts h s = absurd s
negation_as term text n unit each (Either p q) ts h s = absurd s
negation_as term text n unit each (Fails p) ts h s =
    let x = parts (word (codes "not")) (unit p) ts h s in
    let u = each p x.back x.back_proper x.is_back in
    record { within = let k = u.within in omega arith; terms = u.terms }

brackets_as : (term : Term → List Token → Type 0) (text : Term → List ℕ) (n : ℕ) (p : Tree) → AsPredicate term text n p → AsUnit term text (suc n) p
brackets_as term text n p d = record { within = let h = d.within in let k = one_more (is_grouped p) (need p) in omega arith; terms = d.terms }

unit_as : (term : Term → List Token → Type 0) (text : Term → List ℕ) (n : ℕ) → ((a : Term) → Keeps (term a) (text a)) → (p : Tree) (ts : List Token) → EachProper ts → unit_within term n p ts → AsUnit term text n p
unfolding unit_within
unit_as term text zero k p ts h s = plain_as term text zero k p ts h s
unit_as term text (suc n) k p ts h (inl s) = negation_as term text n (unit_within term n) (unit_as term text n k) p ts h s
unit_as term text (suc n) k p ts h (inr (inl s)) =
    let x = inner (disjunction (unit_within term n) p) ts h s in
    brackets_as term text n p (predicate_as term text n (unit_within term n) (unit_as term text n k) p x.front x.front_proper x.is_front)
unit_as term text (suc n) k p ts h (inr (inr s)) = plain_as term text (suc n) k p ts h s

-- ---- from the tree to its text
record IsPrinted (term : Term → List Token → Type 0) (text : Term → List ℕ) (p : Tree) : Type 0 where
  as_unit : (n : ℕ) → bracket (is_grouped p) (need p) ≤ n → Prints (unit_within term n p) (in_brackets_if (is_grouped p) (pred_text text p))
  as_conjunction : (n : ℕ) → bracket (is_either p) (need p) ≤ n → Prints (conjunction (unit_within term n) p) (in_brackets_if (is_either p) (pred_text text p))
  as_predicate : (n : ℕ) → need p ≤ n → Prints (disjunction (unit_within term n) p) (pred_text text p)

plain_within : (term : Term → List Token → Type 0) (n : ℕ) (p : Tree) (ts : List Token) → plain_unit term p ts → unit_within term n p ts
unfolding unit_within
plain_within term zero p ts s = s
plain_within term (suc n) p ts s = inr (inr s)

not_within : (term : Term → List Token → Type 0) (n : ℕ) (p : Tree) (ts : List Token) → (word (codes "not") ⨾ unit_within term n p) ts → unit_within term (suc n) (Fails p) ts
unfolding unit_within
not_within term n p ts s = inl s

one_conjunction : (unit : Tree → List Token → Type 0) (p : Tree) (a : List ℕ) → Prints (unit p) a → Prints (conjunction unit p) a
one_conjunction unit p a x = prints_one Both (token.Word (codes "and")) unit p a x

one_predicate : (unit : Tree → List Token → Type 0) (p : Tree) (a : List ℕ) → Prints (conjunction unit p) a → Prints (disjunction unit p) a
one_predicate unit p a x = prints_one Either (token.Word (codes "or")) (conjunction unit) p a x

in_brackets_within : (term : Term → List Token → Type 0) (n : ℕ) (p : Tree) (a : List ℕ) → ((m : ℕ) → need p ≤ m → Prints (disjunction (unit_within term m) p) a) → suc (need p) ≤ n →
    Prints (unit_within term n p) (40 ∷ (a ++ 41 ∷ []))
unfolding unit_within
in_brackets_within term zero p a f h = absurd (omega arith)
in_brackets_within term (suc m) p a f h =
    prints_weaker _ _ (40 ∷ (a ++ 41 ∷ [])) (λ ts s. inr (inl s)) (prints_brackets (disjunction (unit_within term m) p) a (f m (omega arith)))

-- a tree that is never in brackets
alone : (term : Term → List Token → Type 0) (text : Term → List ℕ) (p : Tree) → is_grouped p ≡ false → is_either p ≡ false → ((n : ℕ) → need p ≤ n → Prints (unit_within term n p) (pred_text text p)) → IsPrinted term text p
alone term text p g e f =
    let conjunction_of : (n : ℕ) → need p ≤ n → Prints (conjunction (unit_within term n) p) (pred_text text p) = λ n h. one_conjunction (unit_within term n) p (pred_text text p) (f n h) in
    record {
      as_unit = λ n h. subst (λ q. Prints (unit_within term n p) (in_brackets_if q (pred_text text p))) (sym g) (f n (subst (λ q. bracket q (need p) ≤ n) g h));
      as_conjunction = λ n h. subst (λ q. Prints (conjunction (unit_within term n) p) (in_brackets_if q (pred_text text p))) (sym e) (conjunction_of n (subst (λ q. bracket q (need p) ≤ n) e h));
      as_predicate = λ n h. one_predicate (unit_within term n) p (pred_text text p) (conjunction_of n h);
    }

not_text : (term : Term → List Token → Type 0) (text : Term → List ℕ) (p : Tree) (n : ℕ) → IsPrinted term text p → suc (bracket (is_grouped p) (need p)) ≤ n → Prints (unit_within term n (Fails p)) (pred_text text (Fails p))
not_text term text p zero x h = absurd (omega arith)
not_text term text p (suc m) x h =
    prints_weaker (word (codes "not") ⨾ unit_within term m p) (unit_within term (suc m) (Fails p)) (pred_text text (Fails p)) (not_within term m p)
    (prints_then (word (codes "not")) (unit_within term m p) (codes "not") (in_brackets_if (is_grouped p) (pred_text text p)) (prints_token (token.Word (codes "not")) not_word) (x.as_unit m (omega arith)))

compare_text : (term : Term → List Token → Type 0) (text : Term → List ℕ) (op : Op) (a b : Term) → Prints (term a) (text a) → Prints (term b) (text b) → Prints (plain_unit term (Compare op a b)) (pred_text text (Compare op a b))
compare_text term text op a b x y =
    prints_then (term a) (mark (sign_of op) ⨾ term b) (text a) (op_text op ++ codes " " ++ text b) x (prints_then (mark (sign_of op)) (term b) (op_text op) (text b) (prints_op op) y)

both_text : (term : Term → List Token → Type 0) (text : Term → List ℕ) (p q : Tree) (n : ℕ) → IsPrinted term text p → IsPrinted term text q → need (Both p q) ≤ n → Prints (conjunction (unit_within term n) (Both p q)) (pred_text text (Both p q))
both_text term text p q n x y h =
    prints_more Both (codes "and") (unit_within term n) p q (in_brackets_if (is_either p) (pred_text text p)) (in_brackets_if (is_grouped q) (pred_text text q)) and_word
    (x.as_conjunction n (omega arith)) (y.as_unit n (omega arith))

either_text : (term : Term → List Token → Type 0) (text : Term → List ℕ) (p q : Tree) (n : ℕ) → IsPrinted term text p → IsPrinted term text q → need (Either p q) ≤ n → Prints (disjunction (unit_within term n) (Either p q)) (pred_text text (Either p q))
either_text term text p q n x y h =
    prints_more Either (codes "or") (conjunction (unit_within term n)) p q (pred_text text p) (in_brackets_if (is_either q) (pred_text text q)) or_word
    (x.as_predicate n (omega arith)) (y.as_conjunction n (omega arith))

tree_printed : (term : Term → List Token → Type 0) (text : Term → List ℕ) (p : Tree) → TermsPrint term text p → IsPrinted term text p
tree_printed term text Always t = alone term text Always refl refl
    (λ n h. prints_weaker (plain_unit term Always) (unit_within term n Always) (codes "always") (plain_within term n Always) (prints_token (token.Word (codes "always")) always_word))
tree_printed term text (Compare op a b) t = alone term text (Compare op a b) refl refl
    (λ n h. prints_weaker (plain_unit term (Compare op a b)) (unit_within term n (Compare op a b)) (pred_text text (Compare op a b)) (plain_within term n (Compare op a b)) (compare_text term text op a b t.0 t.1))
tree_printed term text (Both p q) t =
    let x = tree_printed term text p t.0 in
    let y = tree_printed term text q t.1 in
    let whole : (n : ℕ) → need (Both p q) ≤ n → Prints (disjunction (unit_within term n) (Both p q)) (pred_text text (Both p q)) = λ n h. one_predicate (unit_within term n) (Both p q) (pred_text text (Both p q)) (both_text term text p q n x y h) in
    record { as_unit = λ n h. in_brackets_within term n (Both p q) (pred_text text (Both p q)) whole h; as_conjunction = λ n h. both_text term text p q n x y h; as_predicate = whole }
tree_printed term text (Either p q) t =
    let x = tree_printed term text p t.0 in
    let y = tree_printed term text q t.1 in
    let whole : (n : ℕ) → need (Either p q) ≤ n → Prints (disjunction (unit_within term n) (Either p q)) (pred_text text (Either p q)) = λ n h. either_text term text p q n x y h in
    let unit : (n : ℕ) → suc (need (Either p q)) ≤ n → Prints (unit_within term n (Either p q)) (40 ∷ (pred_text text (Either p q) ++ 41 ∷ [])) = λ n h. in_brackets_within term n (Either p q) (pred_text text (Either p q)) whole h in
    record { as_unit = unit; as_conjunction = λ n h. one_conjunction (unit_within term n) (Either p q) (40 ∷ (pred_text text (Either p q) ++ 41 ∷ [])) (unit n h); as_predicate = whole }
tree_printed term text (Fails p) t =
    let x = tree_printed term text p t in
    alone term text (Fails p) refl refl (λ n h. not_text term text p n x h)

-- the text of a predicate is one
pub keeps_predicate : (term : Term → List Token → Type 0) (text : Term → List ℕ) → ((a : Term) → Keeps (term a) (text a)) → (p : Tree) → Keeps (predicate term p) (pred_text text p)
keeps_predicate term text k p = record {
  of = λ tokens h s.
      let a = predicate_as term text 16 (unit_within term 16) (unit_as term text 16 k) p tokens h s in
      (tree_printed term text p a.terms).as_predicate 16 a.within;
}
