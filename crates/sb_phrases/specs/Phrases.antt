-- Reading what commands are made of from the left: a line for each piece of the grammar.
use Rattle.std.specs.Prelude.{ℕ, zero, suc, codes, List, [], Bool, true, false, cond, ◌&&◌, nat_le, nat_eq, Option, Some, None, Ok, ℤ, pos, negsuc}
use Rattle.std.specs.Str.{bytes_eq}
use Rattle.sb_value.specs.declared.schema.Column.{Column}
use Rattle.sb_value.specs.declared.schema.Kind.{Kind}
use Rattle.sb_value.specs.declared.schema.Kind.TheVariants as kind
use Rattle.sb_value.specs.declared.value.Value.{Value}
use Rattle.sb_value.specs.declared.value.Value.TheVariants as value
use Rattle.sb_pred.specs.declared.predicate.Op.{Op}
use Rattle.sb_pred.specs.declared.predicate.Op.TheVariants.{Eq, Ne, Lt, Le, Gt, Ge}
use Rattle.sb_pred.specs.declared.predicate.Term.{Term}
use Rattle.sb_pred.specs.declared.predicate.Term.TheVariants.{Const, New, Old}
use Rattle.sb_pred.specs.Tree.{Tree, Always, Compare, Both, Either, Fails}
use Rattle.sb_tokens.specs.declared.token.Sign.{Sign}
use Rattle.sb_tokens.specs.declared.token.Sign.TheVariants.{Open, Close, Comma, Dot, Equal, Unequal, Less, LessOrEqual, Greater, GreaterOrEqual}
use Rattle.sb_tokens.specs.declared.token.Token.{Token}
use Rattle.sb_tokens.specs.declared.token.Token.TheVariants as token
use Rattle.sb_language.specs.Words.{is_keyword}
use Rattle.sb_language.specs.Reading.{Read, and_then, mapped, token_at, sign_at, or_else, items_at, grouped_at}
use Rattle.sb_phrases.specs.declared.form.Form.{Form}
use Rattle.sb_phrases.specs.declared.form.Form.TheVariants.{Constant, Bare, Full}

-- what reads a value at the front of some tokens
abbrev pub Reader : Type 0 → Type 0
Reader A = List Token → Read Token A

-- ---- how readers are put together
infixr 6 ◌⟫◌
-- the one, and the other behind it
abbrev pub ◌⟫◌ : {A B : Type 0} → Reader A → Reader B → Reader (A × B)
(R ⟫ S) ts = and_then (R ts) S

-- a function of the value
abbrev pub mapping : {A B : Type 0} → (A → B) → Reader A → Reader B
mapping f R ts = mapped f (R ts)

-- a value, for no token
abbrev pub leaving : {A : Type 0} → A → Reader A
leaving a ts = Ok (a, ts)

-- ---- what one token stands for
-- whether it is this word
abbrev pub is_word : List ℕ → Token → Bool
is_word text (token.Word found) = bytes_eq found text
is_word text (token.Int n) = false
is_word text (token.Text s) = false
is_word text (token.Key k) = false
is_word text (token.Sign sign) = false

abbrev pub sign_number : Sign → ℕ
sign_number Open = 0
sign_number Close = 1
sign_number Comma = 2
sign_number Dot = 3
sign_number Equal = 4
sign_number Unequal = 5
sign_number Less = 6
sign_number LessOrEqual = 7
sign_number Greater = 8
sign_number GreaterOrEqual = 9

-- whether it is this sign
abbrev pub is_mark : Sign → Token → Bool
is_mark sign (token.Word found) = false
is_mark sign (token.Int n) = false
is_mark sign (token.Text s) = false
is_mark sign (token.Key k) = false
is_mark sign (token.Sign found) = nat_eq (sign_number found) (sign_number sign)

-- a word that is no keyword
abbrev pub name_in : Token → Option (List ℕ)
name_in (token.Word found) = cond (is_keyword found) None (Some found)
name_in (token.Int n) = None
name_in (token.Text s) = None
name_in (token.Key k) = None
name_in (token.Sign sign) = None

-- a record key
abbrev pub key_in : Token → Option (List ℕ)
key_in (token.Word found) = None
key_in (token.Int n) = None
key_in (token.Text s) = None
key_in (token.Key k) = Some k
key_in (token.Sign sign) = None

abbrev pub is_key : Token → Bool
is_key (token.Word found) = false
is_key (token.Int n) = false
is_key (token.Text s) = false
is_key (token.Key k) = true
is_key (token.Sign sign) = false

-- a value
abbrev pub constant_in : Token → Option Value
constant_in (token.Word found) = None
constant_in (token.Int n) = Some (value.Int n)
constant_in (token.Text s) = Some (value.Text s)
constant_in (token.Key k) = None
constant_in (token.Sign sign) = None

-- a number
abbrev pub int_in : Token → Option ℤ
int_in (token.Word found) = None
int_in (token.Int n) = Some n
int_in (token.Text s) = None
int_in (token.Key k) = None
int_in (token.Sign sign) = None

-- a number above 0
abbrev pub above_zero : ℤ → Option ℤ
above_zero (pos zero) = None
above_zero (pos (suc n)) = Some (pos (suc n))
above_zero (negsuc n) = None

abbrev pub positive_in : Token → Option ℤ
positive_in (token.Word found) = None
positive_in (token.Int n) = above_zero n
positive_in (token.Text s) = None
positive_in (token.Key k) = None
positive_in (token.Sign sign) = None

-- a number between two others, both included
abbrev pub between : ℕ → ℕ → ℤ → Option ℕ
between low high (pos n) = cond (nat_le low n && nat_le n high) (Some n) None
between low high (negsuc n) = None

abbrev pub number_in : ℕ → ℕ → Token → Option ℕ
number_in low high (token.Word found) = None
number_in low high (token.Int n) = between low high n
number_in low high (token.Text s) = None
number_in low high (token.Key k) = None
number_in low high (token.Sign sign) = None

-- a value, or a column by its name
abbrev pub bare_in : Token → Option Term
bare_in (token.Word found) = cond (is_keyword found) None (Some (New found))
bare_in (token.Int n) = Some (Const (value.Int n))
bare_in (token.Text s) = Some (Const (value.Text s))
bare_in (token.Key k) = None
bare_in (token.Sign sign) = None

abbrev pub op_of : Sign → Option Op
op_of Open = None
op_of Close = None
op_of Comma = None
op_of Dot = None
op_of Equal = Some Eq
op_of Unequal = Some Ne
op_of Less = Some Lt
op_of LessOrEqual = Some Le
op_of Greater = Some Gt
op_of GreaterOrEqual = Some Ge

-- how two sides are compared
abbrev pub op_in : Token → Option Op
op_in (token.Word found) = None
op_in (token.Int n) = None
op_in (token.Text s) = None
op_in (token.Key k) = None
op_in (token.Sign sign) = op_of sign

-- ---- one token
abbrev pub word_at : List ℕ → Reader (Unit {0})
word_at text = sign_at (is_word text)

abbrev pub mark_at : Sign → Reader (Unit {0})
mark_at sign = sign_at (is_mark sign)

abbrev pub name_at : Reader (List ℕ)
name_at = token_at name_in

abbrev pub key_at : Reader (List ℕ)
key_at = token_at key_in

abbrev pub constant_at : Reader Value
constant_at = token_at constant_in

abbrev pub int_at : Reader ℤ
int_at = token_at int_in

abbrev pub positive_at : Reader ℤ
positive_at = token_at positive_in

abbrev pub number_at : ℕ → ℕ → Reader ℕ
number_at low high = token_at (number_in low high)

-- the code of an extension of another author
abbrev pub foreign_code_at : Reader ℕ
foreign_code_at = number_at 1000 65535

abbrev pub op_at : Reader Op
op_at = token_at op_in

-- ---- pieces of several tokens
-- a value, for this word
abbrev pub for_word : {A : Type 0} → List ℕ → A → Reader A
for_word text a = mapping (λ x. a) (word_at text)

-- whether the word comes
unfoldable pub word_if_at : List ℕ → Reader Bool
word_if_at text = or_else (is_word text) (for_word text true) (leaving false)

abbrev pub list_or_none_at : {A : Type 0} → (Token → Bool) → Reader (List A) → Reader (List A)
list_or_none_at p R = or_else p R (leaving [])

-- ( ITEM {, ITEM} )
unfoldable pub listed_at : {A : Type 0} → Reader A → Reader (List A)
listed_at R = mapping (λ x. x.1.0) (mark_at Open ⟫ items_at 15 (is_mark Comma) R ⟫ mark_at Close)

abbrev pub names_at : Reader (List (List ℕ))
names_at = listed_at name_at

abbrev pub constants_at : Reader (List Value)
constants_at = listed_at constant_at

-- NAME on NAME: the label of an attachment and its relation
unfoldable pub place_at : Reader (List ℕ × (Unit {0} × List ℕ))
place_at = name_at ⟫ word_at (codes "on") ⟫ name_at

-- ---- terms
unfoldable pub constant_term_at : Reader Term
constant_term_at = mapping (λ v. Const v) constant_at

-- new . NAME
unfoldable pub new_column_at : Reader Term
new_column_at = mapping (λ x. New x.1.1) (word_at (codes "new") ⟫ mark_at Dot ⟫ name_at)

-- old . NAME
unfoldable pub old_column_at : Reader Term
old_column_at = mapping (λ x. Old x.1.1) (word_at (codes "old") ⟫ mark_at Dot ⟫ name_at)

unfoldable pub full_term_at : Reader Term
full_term_at = or_else (is_word (codes "new")) new_column_at (or_else (is_word (codes "old")) old_column_at constant_term_at)

unfoldable pub term_at : Form → Reader Term
term_at Constant = constant_term_at
term_at Bare = token_at bare_in
term_at Full = full_term_at

-- ---- predicates
-- TERM OP TERM
unfoldable pub comparison_at : Form → Reader Tree
comparison_at form = mapping (λ x. Compare x.1.0 x.0 x.1.1) (term_at form ⟫ op_at ⟫ term_at form)

unfoldable pub always_at : Reader Tree
always_at = for_word (codes "always") Always

-- always, or TERM OP TERM
unfoldable pub plain_unit_at : Form → Reader Tree
plain_unit_at form = or_else (is_word (codes "always")) always_at (comparison_at form)

-- UNIT {and UNIT}
unfoldable pub conjunction_at : Reader Tree → Reader Tree
conjunction_at unit = grouped_at Both (is_word (codes "and")) unit

-- CONJUNCTION {or CONJUNCTION}
unfoldable pub disjunction_at : Reader Tree → Reader Tree
disjunction_at unit = grouped_at Either (is_word (codes "or")) (conjunction_at unit)

-- not UNIT
unfoldable pub negation_at : Reader Tree → Reader Tree
negation_at unit = mapping (λ x. Fails x.1) (word_at (codes "not") ⟫ unit)

-- ( DISJUNCTION )
unfoldable pub group_at : Reader Tree → Reader Tree
group_at unit = mapping (λ x. x.1.0) (mark_at Open ⟫ disjunction_at unit ⟫ mark_at Close)

-- what a predicate is made of, where so many more of not and ( may be open at once
unfoldable pub unit_at : Form → ℕ → Reader Tree
unit_at form zero = plain_unit_at form
unit_at form (suc n) =
    or_else (is_word (codes "not")) (negation_at (unit_at form n))
    (or_else (is_mark Open) (group_at (unit_at form n)) (plain_unit_at form))

-- ---- relations
-- heap, tree, temp, or that of another author
unfoldable pub method_at : Reader ℕ
method_at =
    or_else (is_word (codes "heap")) (for_word (codes "heap") 1)
    (or_else (is_word (codes "tree")) (for_word (codes "tree") 2)
    (or_else (is_word (codes "temp")) (for_word (codes "temp") 3) (mapping (λ x. x.1) (word_at (codes "method") ⟫ foreign_code_at))))

-- ( NUMBER )
unfoldable pub bound_at : Reader ℕ
bound_at = mapping (λ x. x.1.0) (mark_at Open ⟫ number_at 1 255 ⟫ mark_at Close)

unfoldable pub text_limit_at : Reader ℕ
text_limit_at = or_else (is_mark Open) bound_at (leaving 255)

-- int, or text with its limit
unfoldable pub kind_at : Reader (Kind × ℕ)
kind_at =
    or_else (is_word (codes "int")) (for_word (codes "int") (kind.Int, 0))
    (mapping (λ x. (kind.Text, x.1)) (word_at (codes "text") ⟫ text_limit_at))

unfoldable pub column_at : Reader Column
column_at = mapping (λ x. record { name = x.0; kind = x.1.0; limit = x.1.1 }) (name_at ⟫ kind_at)

-- key NAMES
unfoldable pub key_names_at : Reader (List (List ℕ))
key_names_at = mapping (λ x. x.1) (word_at (codes "key") ⟫ names_at)

unfoldable pub key_columns_at : Reader (List (List ℕ))
key_columns_at = list_or_none_at (is_word (codes "key")) key_names_at
