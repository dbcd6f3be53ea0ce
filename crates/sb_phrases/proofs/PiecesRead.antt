-- Words, signs, names, keys, values and numbers: parts of one token.
use Rattle.std.proofs.Common.{◌≡◌, ◌≤◌, ℕ, zero, suc, List, [], ◌∷◌, codes, refl, sym, ◌∙◌, ap, Bool, true, false, cond, ◌&&◌, Some, None, IfSome, ℤ, pos, negsuc, get_or, nat_eq, nat_le, arith}
use Rattle.std.specs.Str.{bytes_eq}
use Rattle.std.proofs.lemmas.Slice.Eq.{bytes_eq-Decides}
use Rattle.sb_value.specs.declared.value.Value.{Value}
use Rattle.sb_value.specs.declared.value.Value.TheVariants as value
use Rattle.sb_pred.specs.declared.predicate.Op.{Op}
use Rattle.sb_pred.specs.declared.predicate.Op.TheVariants.{Eq, Ne, Lt, Le, Gt, Ge}
use Rattle.sb_tokens.specs.declared.token.Sign.{Sign}
use Rattle.sb_tokens.specs.declared.token.Sign.TheVariants.{Open, Close, Comma, Dot, Equal, Unequal, Less, LessOrEqual, Greater, GreaterOrEqual}
use Rattle.sb_tokens.specs.declared.token.Token.{Token}
use Rattle.sb_tokens.specs.declared.token.Token.TheVariants as token
use Rattle.sb_language.specs.Words.{is_keyword}
use Rattle.sb_language.specs.Lang.{just}
use Rattle.sb_grammar.specs.Grammar.{Piece, word, mark, name, key, constant, number_between, positive, sign_of}
use Rattle.sb_language.proofs.Front.{Tests, heads}
use Rattle.sb_language.proofs.Choice.{Marked, Avoids}
use Rattle.sb_language.proofs.Parts.{Part, part_token, part_sign}
use Rattle.sb_phrases.specs.Phrases.{is_word, sign_number, is_mark, name_in, is_key, key_in, constant_in, int_in, above_zero, positive_in, between, number_in, op_of, op_in, word_at, mark_at, name_at, key_at, constant_at, int_at, positive_at, number_at, op_at}

-- ---- words
word_alone : (text : List ℕ) (t : Token) → is_word text t ≡ true → t ≡ token.Word text
word_alone text (token.Word found) e = ap (λ s. token.Word s) ((bytes_eq-Decides found text).0 e)
word_alone text (token.Int n) e = cc
word_alone text (token.Text s) e = cc
word_alone text (token.Key k) e = cc
word_alone text (token.Sign sign) e = cc

pub tests_word : (text : List ℕ) → Tests (is_word text) (token.Word text)
tests_word text = record { here = (bytes_eq-Decides text text).1 refl; alone = word_alone text }

abbrev pub Word : List ℕ → Unit {0} → Piece
Word text _ = word text

pub part_word : (text : List ℕ) → Part (Word text) (word_at text)
part_word text = part_sign (is_word text) (token.Word text) (tests_word text)

-- ---- signs
abbrev signs : List Sign
signs = Open ∷ Close ∷ Comma ∷ Dot ∷ Equal ∷ Unequal ∷ Less ∷ LessOrEqual ∷ Greater ∷ GreaterOrEqual ∷ []

abbrev sign_back : ℕ → Sign
sign_back n = get_or signs n Open

back_sign : (s : Sign) → sign_back (sign_number s) ≡ s
back_sign Open = refl
back_sign Close = refl
back_sign Comma = refl
back_sign Dot = refl
back_sign Equal = refl
back_sign Unequal = refl
back_sign Less = refl
back_sign LessOrEqual = refl
back_sign Greater = refl
back_sign GreaterOrEqual = refl

mark_alone : (sign : Sign) (t : Token) → is_mark sign t ≡ true → t ≡ token.Sign sign
mark_alone sign (token.Word found) e = cc
mark_alone sign (token.Int n) e = cc
mark_alone sign (token.Text s) e = cc
mark_alone sign (token.Key k) e = cc
mark_alone sign (token.Sign found) e = let h : sign_number found ≡ sign_number sign = grind arith in ap (λ s. token.Sign s) (sym (back_sign found) ∙ ap sign_back h ∙ back_sign sign)

pub tests_mark : (sign : Sign) → Tests (is_mark sign) (token.Sign sign)
tests_mark sign = record { here = (let n = sign_number sign in let h : nat_eq n n ≡ true = grind arith in h); alone = mark_alone sign }

abbrev pub Mark : Sign → Unit {0} → Piece
Mark sign _ = mark sign

pub part_mark : (sign : Sign) → Part (Mark sign) (mark_at sign)
part_mark sign = part_sign (is_mark sign) (token.Sign sign) (tests_mark sign)

-- ---- names
name_found : (found : List ℕ) (b : Bool) → is_keyword found ≡ b → IfSome (cond b None (Some found)) (λ text. name text (token.Word found ∷ []))
name_found found true e = tt
name_found found false e = (e, refl)

name_given : (t : Token) → IfSome (name_in t) (λ text. name text (t ∷ []))
name_given (token.Word found) = name_found found (is_keyword found) refl
name_given (token.Int n) = tt
name_given (token.Text s) = tt
name_given (token.Key k) = tt
name_given (token.Sign sign) = tt

r_is_name : is_keyword (codes "r") ≡ false
unfolding is_keyword
r_is_name = refl

pub part_name : Part name name_at
part_name = part_token name name_in (record { value = codes "r"; more = token.Word (codes "r") ∷ []; spelled = (r_is_name, refl) }) name_given
    (λ text us x. (token.Word text, x.1, ap (λ b. cond b None (Some text)) x.0))

-- ---- keys
key_given : (t : Token) → IfSome (key_in t) (λ k. key k (t ∷ []))
key_given (token.Word found) = tt
key_given (token.Int n) = tt
key_given (token.Text s) = tt
key_given (token.Key k) = refl
key_given (token.Sign sign) = tt

pub part_key : Part key key_at
part_key = part_token key key_in (record { value = []; more = token.Key [] ∷ []; spelled = refl }) key_given (λ k us x. (token.Key k, x, refl))

key_alone : (t : Token) → is_key t ≡ true → (k : List ℕ) × (t ≡ token.Key k)
key_alone (token.Word found) e = absurd (let h = e in cc)
key_alone (token.Int n) e = absurd (let h = e in cc)
key_alone (token.Text s) e = absurd (let h = e in cc)
key_alone (token.Key k) e = (k, refl)
key_alone (token.Sign sign) e = absurd (let h = e in cc)

pub marked_key : Marked key is_key
marked_key = record {
  heads = λ k us x. (token.Key k, [], x, refl);
  first = λ t e. let w = key_alone t e in record { value = w.0; more = []; spelled = ap (λ s. s ∷ []) w.1 };
}

-- ---- values
constant_given : (t : Token) → IfSome (constant_in t) (λ v. constant v (t ∷ []))
constant_given (token.Word found) = tt
constant_given (token.Int n) = refl
constant_given (token.Text s) = refl
constant_given (token.Key k) = tt
constant_given (token.Sign sign) = tt

constant_picked : (v : Value) (us : List Token) → constant v us → (t : Token) × (us ≡ t ∷ []) × (constant_in t ≡ Some v)
constant_picked (value.Int n) us x = (token.Int n, x, refl)
constant_picked (value.Text s) us x = (token.Text s, x, refl)

pub part_constant : Part constant constant_at
part_constant = part_token constant constant_in (record { value = value.Int (pos 0); more = token.Int (pos 0) ∷ []; spelled = refl }) constant_given constant_picked

-- ---- numbers
abbrev pub int : ℤ → Piece
int n = just (token.Int n)

int_given : (t : Token) → IfSome (int_in t) (λ n. int n (t ∷ []))
int_given (token.Word found) = tt
int_given (token.Int n) = refl
int_given (token.Text s) = tt
int_given (token.Key k) = tt
int_given (token.Sign sign) = tt

pub part_int : Part int int_at
part_int = part_token int int_in (record { value = pos 0; more = token.Int (pos 0) ∷ []; spelled = refl }) int_given (λ n us x. (token.Int n, x, refl))

above_given : (n : ℤ) → IfSome (above_zero n) (λ m. positive m (token.Int n ∷ []))
above_given (pos zero) = tt
above_given (pos (suc n)) = refl
above_given (negsuc n) = tt

positive_given : (t : Token) → IfSome (positive_in t) (λ n. positive n (t ∷ []))
positive_given (token.Word found) = tt
positive_given (token.Int n) = above_given n
positive_given (token.Text s) = tt
positive_given (token.Key k) = tt
positive_given (token.Sign sign) = tt

positive_picked : (n : ℤ) (us : List Token) → positive n us → (t : Token) × (us ≡ t ∷ []) × (positive_in t ≡ Some n)
positive_picked (pos zero) us x = absurd x
positive_picked (pos (suc n)) us x = (token.Int (pos (suc n)), x, refl)
positive_picked (negsuc n) us x = absurd x

pub part_positive : Part positive positive_at
part_positive = part_token positive positive_in (record { value = pos (suc zero); more = token.Int (pos (suc zero)) ∷ []; spelled = refl }) positive_given positive_picked

within_given : (low high n : ℕ) (b c : Bool) → nat_le low n ≡ b → nat_le n high ≡ c → IfSome (cond (b && c) (Some n) None) (λ m. number_between low high m (token.Int (pos n) ∷ []))
within_given low high n true true e f = ((let h : low ≤ n = grind arith in h), (let h : n ≤ high = grind arith in h), refl)
within_given low high n true false e f = tt
within_given low high n false c e f = tt

between_given : (low high : ℕ) (n : ℤ) → IfSome (between low high n) (λ m. number_between low high m (token.Int n ∷ []))
between_given low high (pos n) = within_given low high n (nat_le low n) (nat_le n high) refl refl
between_given low high (negsuc n) = tt

number_given : (low high : ℕ) (t : Token) → IfSome (number_in low high t) (λ m. number_between low high m (t ∷ []))
number_given low high (token.Word found) = tt
number_given low high (token.Int n) = between_given low high n
number_given low high (token.Text s) = tt
number_given low high (token.Key k) = tt
number_given low high (token.Sign sign) = tt

within_picked : (low high n : ℕ) → low ≤ n → n ≤ high → cond (nat_le low n && nat_le n high) (Some n) None ≡ Some n
within_picked low high n l h = let e : nat_le low n ≡ true = grind arith in let f : nat_le n high ≡ true = grind arith in ap (λ b. cond b (Some n) None) (ap (λ b. b && nat_le n high) e ∙ f)

pub part_number : (low high : ℕ) → low ≤ high → Part (number_between low high) (number_at low high)
part_number low high l = part_token (number_between low high) (number_in low high)
    (record { value = low; more = token.Int (pos low) ∷ []; spelled = ((let h : low ≤ low = omega arith in h), l, refl) })
    (number_given low high) (λ n us x. (token.Int (pos n), x.2, within_picked low high n x.0 x.1))

-- ---- how two sides are compared
abbrev pub Compared : Op → Piece
Compared op = mark (sign_of op)

sign_given : (sign : Sign) → IfSome (op_of sign) (λ op. Compared op (token.Sign sign ∷ []))
sign_given Open = tt
sign_given Close = tt
sign_given Comma = tt
sign_given Dot = tt
sign_given Equal = refl
sign_given Unequal = refl
sign_given Less = refl
sign_given LessOrEqual = refl
sign_given Greater = refl
sign_given GreaterOrEqual = refl

op_given : (t : Token) → IfSome (op_in t) (λ op. Compared op (t ∷ []))
op_given (token.Word found) = tt
op_given (token.Int n) = tt
op_given (token.Text s) = tt
op_given (token.Key k) = tt
op_given (token.Sign sign) = sign_given sign

op_back : (op : Op) → op_of (sign_of op) ≡ Some op
op_back Eq = refl
op_back Ne = refl
op_back Lt = refl
op_back Le = refl
op_back Gt = refl
op_back Ge = refl

pub part_op : Part Compared op_at
part_op = part_token Compared op_in (record { value = Eq; more = token.Sign Equal ∷ []; spelled = refl }) op_given (λ op us x. (token.Sign (sign_of op), x, op_back op))

-- ---- tokens that are no value, no name, and no column of a row
pub record Clear (p : Token → Bool) : Type 0 where
  pub ints : (n : ℤ) → p (token.Int n) ≡ false
  pub texts : (s : List ℕ) → p (token.Text s) ≡ false
  pub names : (text : List ℕ) → is_keyword text ≡ false → p (token.Word text) ≡ false
  pub new_word : p (token.Word (codes "new")) ≡ false
  pub old_word : p (token.Word (codes "old")) ≡ false

no_keyword : (text keyword : List ℕ) (b : Bool) → bytes_eq text keyword ≡ b → is_keyword keyword ≡ true → is_keyword text ≡ false → b ≡ false
no_keyword text keyword true e k n = absurd (let s : is_keyword text ≡ is_keyword keyword = ap is_keyword ((bytes_eq-Decides text keyword).0 e) in cc)
no_keyword text keyword false e k n = refl

pub clear_word : (keyword : List ℕ) → is_keyword keyword ≡ true → is_word keyword (token.Word (codes "new")) ≡ false → is_word keyword (token.Word (codes "old")) ≡ false → Clear (is_word keyword)
clear_word keyword k n o = record { ints = λ n. refl; texts = λ s. refl; names = λ text n. no_keyword text keyword (bytes_eq text keyword) refl k n; new_word = n; old_word = o }

pub clear_mark : (sign : Sign) → Clear (is_mark sign)
clear_mark sign = record { ints = λ n. refl; texts = λ s. refl; names = λ text n. refl; new_word = refl; old_word = refl }

pub first_token : (p : Token → Bool) (t u : Token) (m : List Token) → t ∷ m ≡ u ∷ [] → p u ≡ false → p t ≡ false
first_token p t u m e n = ap p (heads t u m [] e) ∙ n

pub avoids_constant : (p : Token → Bool) → Clear p → Avoids constant p
avoids_constant p c (value.Int n) t m x = first_token p t (token.Int n) m x (c.ints n)
avoids_constant p c (value.Text s) t m x = first_token p t (token.Text s) m x (c.texts s)
