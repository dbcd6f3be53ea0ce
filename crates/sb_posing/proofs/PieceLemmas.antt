-- What is in pieces of the language whose tokens are proper.
use Rattle.std.proofs.Common.{◌≡◌, ℕ, zero, suc, ◌<◌, ◌≤◌, List, [], ◌∷◌, ◌++◌, length, All, true, true≢false, ℤ, pos, negsuc, sym, subst, arith}
use Rattle.std.specs.Prelude.{FitsSigned}
use Rattle.std.specs.Int.{w64}
use Rattle.std.specs.List.{fold}
use Rattle.std.specs.Str.{IsAscii}
use Rattle.std.proofs.lemmas.Bool.{leb-true}
use Rattle.std.proofs.lemmas.Bool.Decides.{nat_tests}
use Rattle.std.proofs.lemmas.Int.{ints}
use Rattle.std.proofs.lemmas.List.Elements.{All-nil, All-cons, All-weaker}
use Rattle.std.proofs.lemmas.Str.{IsUtf8-from_ascii}
use Rattle.sb_pred.specs.Spelling.{IsStorableName}
use Rattle.sb_rule.specs.Spelling.{IsShortList, IsWidth}
use Rattle.sb_tokens.specs.declared.token.Sign.TheVariants.{Comma}
use Rattle.sb_tokens.specs.declared.token.Token.{Token}
use Rattle.sb_tokens.specs.declared.token.Token.TheVariants as token
use Rattle.sb_tokens.specs.Tokens.{is_word_byte}
use Rattle.sb_language.specs.Lang.{◌⨾◌, just, many, more_items, items_up_to, grouped}
use Rattle.sb_grammar.specs.Grammar.{name, names, listed, place, positive}
use Rattle.sb_printer.proofs.Fronts.{Each, IsWord, IsNumber}
use Rattle.sb_printer.proofs.Printed.{EachProper, Parted, parts}

-- what a piece spells with proper tokens has it
abbrev pub Bounds : {A : Type 0} → (A → List Token → Type 0) → (A → Type 0) → Type 0
Bounds {A} P Q = (a : A) (tokens : List Token) → EachProper tokens → P a tokens → Q a

-- one piece behind another
pub split : {P Q : List Token → Type 0} (tokens : List Token) → EachProper tokens → (P ⨾ Q) tokens → Parted P Q
split {P} {Q} tokens h s = parts P Q tokens h s

-- ---- words
pub word_in : Bounds name IsWord
word_in text tokens h s = (subst EachProper s.1 h).0

pub named : {Q : List Token → Type 0} (text : List ℕ) → Parted (name text) Q → IsWord text
named text a = word_in text a.front a.front_proper a.is_front

pub word_len : (word : List ℕ) → IsWord word → length word ≤ 32
word_len word is = leb-true (length word) 32 is.short

byte_small : (b : ℕ) → is_word_byte b ≡ true → b < 128
byte_small b is = grind (arith, nat_tests)

ascii_more : (b : ℕ) (bytes : List ℕ) → is_word_byte b ≡ true → IsAscii bytes → IsAscii (b ∷ bytes)
ascii_more b bytes is ascii zero = byte_small b is
ascii_more b bytes is ascii (suc i) = ascii i

each_ascii : (bytes : List ℕ) → Each is_word_byte bytes → IsAscii bytes
each_ascii [] each = λ i. omega arith
each_ascii (b ∷ bytes) each = ascii_more b bytes each.0 (each_ascii bytes each.1)

pub word_stored : (word : List ℕ) → IsWord word → IsStorableName word
word_stored word is =
    let short : length word ≤ 32 = word_len word is in
    (IsUtf8-from_ascii word (each_ascii word is.each), omega arith)

dotless : (front back : List ℕ) → Each is_word_byte (front ++ 46 ∷ back) → ⊥
dotless [] back each = true≢false (sym each.0)
dotless (b ∷ front) back each = dotless front back each.1

-- a name with a dot is no word
pub no_dot : (word front back : List ℕ) → IsWord word → word ≡ front ++ 46 ∷ back → ⊥
no_dot word front back is same = dotless front back (subst (Each is_word_byte) same is.each)

-- the names of an attachment and its relation
pub place_in : (relation label : List ℕ) (tokens : List Token) → EachProper tokens → place relation label tokens → IsWord relation × IsWord label
place_in relation label tokens h s =
    let a = split tokens h s in
    let b = split a.back a.back_proper a.is_back in
    (word_in relation b.back b.back_proper b.is_back, named label a)

-- ---- numbers
number_fits : (n : ℤ) → IsNumber n → FitsSigned w64 n
number_fits (pos n) is = record { sfits = is }
number_fits (negsuc n) is = record { sfits = is }

pub number_in : (n : ℤ) (tokens : List Token) → EachProper tokens → just (token.Int n) tokens → FitsSigned w64 n
number_in n tokens h s = number_fits n (subst EachProper s h).0

pub width_in : Bounds positive IsWidth
width_in (pos zero) tokens h s = absurd s
width_in (pos (suc n)) tokens h s = (number_in (pos (suc n)) tokens h s, omega (arith, ints))
width_in (negsuc n) tokens h s = absurd s

-- ---- lists
module _ {A : Type 0} (P : A → List Token → Type 0) (Q : A → Type 0) (each : Bounds P Q) where
  more_in : (n : ℕ) (sign : Token) (items : List A) (tokens : List Token) → EachProper tokens → more_items n sign P items tokens → (length items ≤ n) × All Q items
  more_in n sign [] tokens h s = (omega arith, All-nil Q)
  more_in zero sign (x ∷ items) tokens h s = absurd s
  more_in (suc n) sign (x ∷ items) tokens h s =
      let a = split tokens h s in
      let b = split a.back a.back_proper a.is_back in
      let rest = more_in n sign items b.back b.back_proper b.is_back in
      (omega (arith, rest.0), All-cons Q x items (each x b.front b.front_proper b.is_front) rest.1)

  pub items_in : (n : ℕ) (sign : Token) (items : List A) (tokens : List Token) → EachProper tokens → items_up_to n sign P items tokens
      → (1 ≤ length items) × (length items ≤ suc n) × All Q items
  items_in n sign [] tokens h s = absurd s
  items_in n sign (x ∷ items) tokens h s =
      let a = split tokens h s in
      let rest = more_in n sign items a.back a.back_proper a.is_back in
      (omega arith, omega (arith, rest.0), All-cons Q x items (each x a.front a.front_proper a.is_front) rest.1)

  pub listed_in : (items : List A) (tokens : List Token) → EachProper tokens → listed P items tokens → (1 ≤ length items) × (length items ≤ 16) × All Q items
  listed_in items tokens h s =
      let a = split tokens h s in
      let b = split a.back a.back_proper a.is_back in
      items_in 15 (token.Sign Comma) items b.front b.front_proper b.is_front

pub names_stored : (labels : List (List ℕ)) → length labels ≤ 16 → All IsWord labels → IsShortList IsStorableName labels
names_stored labels few words = (omega (arith, few), All-weaker IsWord IsStorableName word_stored labels words)

pub names_in : Bounds names (IsShortList IsStorableName)
names_in labels tokens h s =
    let list = listed_in name IsWord word_in labels tokens h s in
    names_stored labels list.1 list.2

-- ---- groups
module _ {A : Type 0} (P : A → List Token → Type 0) (Q : A → Type 0) (each : Bounds P Q) (group : A → A → A) (sign : Token) (grouping : (a b : A) → Q a → Q b → Q (group a b)) where
  many_in : (others : List A) (first : A) (tokens : List Token) → EachProper tokens → Q first → many sign P others tokens → Q (fold group first others)
  many_in [] first tokens h q s = q
  many_in (x ∷ others) first tokens h q s =
      let a = split tokens h s in
      let b = split a.back a.back_proper a.is_back in
      many_in others (group first x) b.back b.back_proper (grouping first x q (each x b.front b.front_proper b.is_front)) b.is_back

  pub grouped_in : Bounds (grouped group sign P) Q
  grouped_in whole tokens h s =
      let a = split tokens h s.spelled in
      subst Q (sym s.is) (many_in s.others s.first a.back a.back_proper (each s.first a.front a.front_proper a.is_front) a.is_back)
