-- Pieces of the language and their texts, which put together are lines.
use Rattle.std.proofs.Common.{◌≡◌, ℕ, zero, suc, ◌+◌, List, [], ◌∷◌, ◌++◌, codes, refl, sym, ◌∙◌, ap, subst, inl, inr, ◌⊎◌, Bool, true, false, cond, Some, None, length, drop, take_while, arith, append_assoc}
use Rattle.std.specs.Prelude.{map}
use Rattle.std.specs.List.{flat_map}
use Rattle.std.proofs.lemmas.List.Sums.{take_while-cons}
use Rattle.std.proofs.lemmas.Bool.Decides.{nat_tests}
use Rattle.std.proofs.Math.Seq.{drop-append_seam}
use Rattle.sb_language.specs.Lang.{◌⨾◌, none, just, more_items, items_up_to}
use Rattle.sb_tokens.specs.declared.token.Sign.TheVariants.{Open, Close, Comma, Dot}
use Rattle.sb_tokens.specs.declared.token.Token.{Token}
use Rattle.sb_tokens.specs.declared.token.Token.TheVariants as token
use Rattle.sb_tokens.specs.declared.token.Placed.{Placed}
use Rattle.sb_tokens.specs.declared.token.Ending.{Ending}
use Rattle.sb_tokens.specs.declared.token.Ending.TheVariants.{Whole}
use Rattle.sb_tokens.specs.Tokens.{is_blank, front_token}
use Rattle.sb_tokens.specs.Rows.{blanks, behind_blanks, AreTokens, tokens_of}
use Rattle.sb_plain.specs.Values.{joined}
use Rattle.sb_printer.proofs.Joined.{joined_more}
use Rattle.sb_printer.proofs.Fronts.{Ends, IsWord, token_text, IsProper, printed_front}
use Rattle.sb_printer.proofs.Proper.{read_proper}

-- ---- blanks
blank_front : (b : ℕ) (bytes : List ℕ) → is_blank b ≡ true → behind_blanks (b ∷ bytes) ≡ behind_blanks bytes
blank_front b bytes e = ap (λ front. drop (length front) (b ∷ bytes)) (take_while-cons is_blank b bytes ∙ ap (λ p. cond p (b ∷ take_while is_blank bytes) []) e)

other_front : (b : ℕ) (bytes : List ℕ) → is_blank b ≡ false → behind_blanks (b ∷ bytes) ≡ b ∷ bytes
other_front b bytes e = ap (λ front. drop (length front) (b ∷ bytes)) (take_while-cons is_blank b bytes ∙ ap (λ p. cond p (b ∷ take_while is_blank bytes) []) e)

-- a blank begins no token
none_at_blank : (b : ℕ) (bytes : List ℕ) → (b ≡ 32) ⊎ (b ≡ 9) → front_token (b ∷ bytes) ≡ None
none_at_blank b bytes (inl e) = ap (λ c. front_token (c ∷ bytes)) e
none_at_blank b bytes (inr e) = ap (λ c. front_token (c ∷ bytes)) e

blank_is : (b : ℕ) → is_blank b ≡ true → (b ≡ 32) ⊎ (b ≡ 9)
blank_is b e = grind (arith, nat_tests)

token_at_front : (b : ℕ) (bytes : List ℕ) (t : Token) (len : ℕ) (q : Bool) → is_blank b ≡ q → front_token (b ∷ bytes) ≡ Some (t, len) → behind_blanks (b ∷ bytes) ≡ b ∷ bytes
token_at_front b bytes t len true e f = absurd (let g = none_at_blank b bytes (blank_is b e) in cc)
token_at_front b bytes t len false e f = other_front b bytes e

no_blanks : (bytes : List ℕ) (t : Token) (len : ℕ) → front_token bytes ≡ Some (t, len) → behind_blanks bytes ≡ bytes
no_blanks [] t len e = refl
no_blanks (b ∷ bytes) t len e = token_at_front b bytes t len (is_blank b) refl e

-- ---- the tokens of bytes, without their places
abbrev pub AreRow : List ℕ → List Token → Type 0
AreRow bytes [] = behind_blanks bytes ≡ []
AreRow bytes (t ∷ ts) = (len : ℕ) × (front_token (behind_blanks bytes) ≡ Some (t, len)) × AreRow (drop len (behind_blanks bytes)) ts

same_row : (bytes other : List ℕ) (ts : List Token) → behind_blanks bytes ≡ behind_blanks other → AreRow other ts → AreRow bytes ts
same_row bytes other [] e h = e ∙ h
same_row bytes other (t ∷ ts) e h = (h.0, ap front_token e ∙ h.1, subst (λ s. AreRow (drop h.0 s) ts) (sym e) h.2)

space_row : (bytes : List ℕ) (ts : List Token) → AreRow bytes ts → AreRow (32 ∷ bytes) ts
space_row bytes ts h = same_row (32 ∷ bytes) bytes ts (blank_front 32 bytes refl) h

token_row : (text rest : List ℕ) (t : Token) (ts : List Token) → front_token (text ++ rest) ≡ Some (t, length text) → AreRow rest ts → AreRow (text ++ rest) (t ∷ ts)
token_row text rest t ts e h =
    let b : behind_blanks (text ++ rest) ≡ text ++ rest = no_blanks (text ++ rest) t (length text) e in
    (length text, ap front_token b ∙ e, subst (λ s. AreRow s ts) (sym (ap (λ s. drop (length text) s) b ∙ drop-append_seam text rest)) h)

-- ---- with their places
pub record IsPlaced (before : ℕ) (bytes : List ℕ) (ts : List Token) : Type 0 where
  pub placed : List Placed
  pub column : ℕ
  pub is_row : AreTokens before bytes placed (Whole column)
  pub same : tokens_of placed ≡ ts

pub row_placed : (before : ℕ) (bytes : List ℕ) (ts : List Token) → AreRow bytes ts → IsPlaced before bytes ts
row_placed before bytes [] h = record { placed = []; column = before + length bytes + 1; is_row = (h, refl); same = refl }
row_placed before bytes (t ∷ ts) h =
    let rest = row_placed (before + blanks bytes + h.0) (drop h.0 (behind_blanks bytes)) ts h.2 in
    record {
      placed = record { token = t; column = before + blanks bytes + 1 } ∷ rest.placed;
      column = rest.column;
      is_row = (h.0, h.1, refl, rest.is_row);
      same = ap (λ us. t ∷ us) rest.same;
    }

-- ---- proper tokens
abbrev pub EachProper : List Token → Type 0
EachProper [] = Unit {0}
EachProper (t ∷ ts) = IsProper t × EachProper ts

pub row_proper : (before : ℕ) (bytes : List ℕ) (placed : List Placed) (ending : Ending) → AreTokens before bytes placed ending → EachProper (tokens_of placed)
row_proper before bytes [] ending h = tt
row_proper before bytes (t ∷ ts) ending h =
    (read_proper (behind_blanks bytes) t.token h.0 h.1, row_proper (before + blanks bytes + h.0) (drop h.0 (behind_blanks bytes)) ts ending h.3)

proper_front : (ts us : List Token) → EachProper (ts ++ us) → EachProper ts
proper_front [] us h = tt
proper_front (t ∷ ts) us h = (h.0, proper_front ts us h.1)

proper_back : (ts us : List Token) → EachProper (ts ++ us) → EachProper us
proper_back [] us h = h
proper_back (t ∷ ts) us h = proper_back ts us h.1

-- ---- texts
-- the text is these tokens, wherever it ends
abbrev pub AreIn : List ℕ → List Token → Type 0
AreIn text ts = (rest : List ℕ) (us : List Token) → Ends rest → AreRow rest us → AreRow (text ++ rest) (ts ++ us)

-- the text is some of the piece
pub record Prints (P : List Token → Type 0) (text : List ℕ) : Type 0 where
  pub tokens : List Token
  pub spelled : P tokens
  pub are_in : AreIn text tokens

-- so it is where the piece has some proper tokens
pub record Keeps (P : List Token → Type 0) (text : List ℕ) : Type 0 where
  pub of : (tokens : List Token) → EachProper tokens → P tokens → Prints P text

-- the text is some of the piece, and may stand directly behind a token
pub record Trails (P : List Token → Type 0) (text : List ℕ) : Type 0 where
  pub prints : Prints P text
  pub ends : (rest : List ℕ) → Ends rest → Ends (text ++ rest)

pub record KeepsTrail (P : List Token → Type 0) (text : List ℕ) : Type 0 where
  pub of : (tokens : List Token) → EachProper tokens → P tokens → Trails P text

-- ---- one token
pub prints_token : (t : Token) → IsProper t → Prints (just t) (token_text t)
prints_token t p = record { tokens = t ∷ []; spelled = refl; are_in = λ rest us e h. token_row (token_text t) rest t us (printed_front t rest p e) h }

first_proper : (t : Token) (ts : List Token) → ts ≡ t ∷ [] → EachProper ts → IsProper t
first_proper t ts e h = (subst EachProper e h).0

pub keeps_token : (t : Token) → Keeps (just t) (token_text t)
keeps_token t = record { of = λ tokens h e. prints_token t (first_proper t tokens e h) }

-- ---- two pieces, with a space between them
joins : (P Q : List Token → Type 0) (a b text : List ℕ) (p : Prints P a) (q : Prints Q b) → ((rest : List ℕ) (us : List Token) → Ends rest → AreRow (b ++ rest) (q.tokens ++ us) → AreRow (text ++ rest) (p.tokens ++ (q.tokens ++ us))) → Prints (P ⨾ Q) text
joins P Q a b text p q f = record {
  tokens = p.tokens ++ q.tokens;
  spelled = record { front = p.tokens; back = q.tokens; is_front = p.spelled; is_back = q.spelled; whole = refl };
  are_in = λ rest us e h. subst (λ ts. AreRow (text ++ rest) ts) (sym (append_assoc p.tokens q.tokens us)) (f rest us e (q.are_in rest us e h));
}

spaced_assoc : (a b rest : List ℕ) → ((a ++ 32 ∷ []) ++ b) ++ rest ≡ a ++ (32 ∷ (b ++ rest))
spaced_assoc a b rest = append_assoc (a ++ 32 ∷ []) b rest ∙ append_assoc a (32 ∷ []) (b ++ rest)

pub prints_then : (P Q : List Token → Type 0) (a b : List ℕ) → Prints P a → Prints Q b → Prints (P ⨾ Q) (a ++ codes " " ++ b)
prints_then P Q a b p q = joins P Q a b (a ++ codes " " ++ b) p q
    (λ rest us e h. subst (λ s. AreRow s (p.tokens ++ (q.tokens ++ us))) (sym (spaced_assoc a b rest)) (p.are_in (32 ∷ (b ++ rest)) (q.tokens ++ us) (inl refl) (space_row (b ++ rest) (q.tokens ++ us) h)))

pub prints_trail : (P Q : List Token → Type 0) (a b : List ℕ) → Prints P a → Trails Q b → Prints (P ⨾ Q) (a ++ b)
prints_trail P Q a b p q = joins P Q a b (a ++ b) p q.prints
    (λ rest us e h. subst (λ s. AreRow s (p.tokens ++ (q.prints.tokens ++ us))) (sym (append_assoc a b rest)) (p.are_in (b ++ rest) (q.prints.tokens ++ us) (q.ends rest e) h))

-- of a piece that was put together, both parts
pub record Parted (P Q : List Token → Type 0) : Type 0 where
  pub front : List Token
  pub back : List Token
  pub is_front : P front
  pub is_back : Q back
  pub front_proper : EachProper front
  pub back_proper : EachProper back

pub parts : (P Q : List Token → Type 0) (tokens : List Token) → EachProper tokens → (P ⨾ Q) tokens → Parted P Q
parts P Q tokens h s =
    let k : EachProper (s.front ++ s.back) = subst EachProper s.whole h in
    record { front = s.front; back = s.back; is_front = s.is_front; is_back = s.is_back; front_proper = proper_front s.front s.back k; back_proper = proper_back s.front s.back k }

pub keeps_then : {P Q : List Token → Type 0} {a b : List ℕ} → Keeps P a → Keeps Q b → Keeps (P ⨾ Q) (a ++ codes " " ++ b)
keeps_then {P} {Q} {a} {b} p q = record {
  of = λ tokens h s.
      let x = parts P Q tokens h s in
      prints_then P Q a b (p.of x.front x.front_proper x.is_front) (q.of x.back x.back_proper x.is_back);
}

pub keeps_trail : {P Q : List Token → Type 0} {a b : List ℕ} → Keeps P a → KeepsTrail Q b → Keeps (P ⨾ Q) (a ++ b)
keeps_trail {P} {Q} {a} {b} p q = record {
  of = λ tokens h s.
      let x = parts P Q tokens h s in
      prints_trail P Q a b (p.of x.front x.front_proper x.is_front) (q.of x.back x.back_proper x.is_back);
}

-- two pieces, of which the second has a trail
pub keeps_behind : {P Q : List Token → Type 0} {a : List ℕ} (b tail : List ℕ) → Keeps P a → Keeps Q (b ++ tail) → Keeps (P ⨾ Q) ((a ++ codes " " ++ b) ++ tail)
keeps_behind {P} {Q} {a} b tail p q = subst (Keeps (P ⨾ Q)) (sym (append_assoc (a ++ codes " ") b tail)) (keeps_then p q)

-- ---- trails
pub no_trail : KeepsTrail none []
no_trail = record { of = λ tokens h e. record { prints = record { tokens = []; spelled = refl; are_in = λ rest us f r. r }; ends = λ rest f. f } }

-- a piece behind a space
pub space_trail : {P : List Token → Type 0} {a : List ℕ} → Keeps P a → KeepsTrail P (32 ∷ a)
space_trail {P} {a} k = record {
  of = λ tokens h s.
      let p = k.of tokens h s in
      record { prints = record { tokens = p.tokens; spelled = p.spelled; are_in = λ rest us e r. space_row (a ++ rest) (p.tokens ++ us) (p.are_in rest us e r) }; ends = λ rest e. inl refl };
}

-- a piece behind a dot
pub dot_trail : {P : List Token → Type 0} {a : List ℕ} → Keeps P a → KeepsTrail (just (token.Sign Dot) ⨾ P) (46 ∷ a)
dot_trail {P} {a} k = record {
  of = λ tokens h s.
      let x = parts (just (token.Sign Dot)) P tokens h s in
      let p = k.of x.back x.back_proper x.is_back in
      record {
        prints = record {
          tokens = token.Sign Dot ∷ p.tokens;
          spelled = record { front = token.Sign Dot ∷ []; back = p.tokens; is_front = refl; is_back = p.spelled; whole = refl };
          are_in = λ rest us e r. token_row (46 ∷ []) (a ++ rest) (token.Sign Dot) (p.tokens ++ us) refl (p.are_in rest us e r);
        };
        ends = λ rest e. inr (inr (inr (inr refl)));
      };
}

pub two_trails : {P Q : List Token → Type 0} {a b : List ℕ} → KeepsTrail P a → KeepsTrail Q b → KeepsTrail (P ⨾ Q) (a ++ b)
two_trails {P} {Q} {a} {b} p q = record {
  of = λ tokens h s.
      let x = parts P Q tokens h s in
      let y = p.of x.front x.front_proper x.is_front in
      let z = q.of x.back x.back_proper x.is_back in
      record { prints = prints_trail P Q a b y.prints z; ends = λ rest e. subst Ends (sym (append_assoc a b rest)) (y.ends (b ++ rest) (z.ends rest e)) };
}

-- ---- brackets
open_row : (bytes : List ℕ) (ts : List Token) → AreRow bytes ts → AreRow (40 ∷ bytes) (token.Sign Open ∷ ts)
open_row bytes ts h = token_row (40 ∷ []) bytes (token.Sign Open) ts refl h

close_row : (bytes : List ℕ) (ts : List Token) → AreRow bytes ts → AreRow (41 ∷ bytes) (token.Sign Close ∷ ts)
close_row bytes ts h = token_row (41 ∷ []) bytes (token.Sign Close) ts refl h

abbrev pub in_brackets : (List Token → Type 0) → List Token → Type 0
in_brackets P = just (token.Sign Open) ⨾ P ⨾ just (token.Sign Close)

pub prints_brackets : (P : List Token → Type 0) (a : List ℕ) → Prints P a → Prints (in_brackets P) (40 ∷ (a ++ 41 ∷ []))
prints_brackets P a p = record {
  tokens = token.Sign Open ∷ (p.tokens ++ token.Sign Close ∷ []);
  spelled = record {
    front = token.Sign Open ∷ [];
    back = p.tokens ++ token.Sign Close ∷ [];
    is_front = refl;
    is_back = record { front = p.tokens; back = token.Sign Close ∷ []; is_front = p.spelled; is_back = refl; whole = refl };
    whole = refl;
  };
  are_in = λ rest us e h.
      open_row ((a ++ 41 ∷ []) ++ rest) ((p.tokens ++ token.Sign Close ∷ []) ++ us)
      (subst (λ s. AreRow s ((p.tokens ++ token.Sign Close ∷ []) ++ us)) (sym (append_assoc a (41 ∷ []) rest))
      (subst (λ ts. AreRow (a ++ 41 ∷ rest) ts) (sym (append_assoc p.tokens (token.Sign Close ∷ []) us))
      (p.are_in (41 ∷ rest) (token.Sign Close ∷ us) (inr (inr (inl refl))) (close_row rest us h))));
}

pub inner : (P : List Token → Type 0) (tokens : List Token) → EachProper tokens → in_brackets P tokens → Parted P (just (token.Sign Close))
inner P tokens h s =
    let x = parts (just (token.Sign Open)) (P ⨾ just (token.Sign Close)) tokens h s in
    parts P (just (token.Sign Close)) x.back x.back_proper x.is_back

pub keeps_brackets : {P : List Token → Type 0} {a : List ℕ} → Keeps P a → Keeps (in_brackets P) (40 ∷ (a ++ 41 ∷ []))
keeps_brackets {P} {a} k = record { of = λ tokens h s. let x = inner P tokens h s in prints_brackets P a (k.of x.front x.front_proper x.is_front) }

pub brackets_trail : {P : List Token → Type 0} {a : List ℕ} → Keeps P a → KeepsTrail (in_brackets P) (40 ∷ (a ++ 41 ∷ []))
brackets_trail k = record { of = λ tokens h s. record { prints = (keeps_brackets k).of tokens h s; ends = λ rest e. inr (inl refl) } }

-- ---- weaker pieces
pub prints_weaker : (P Q : List Token → Type 0) (a : List ℕ) → ((ts : List Token) → P ts → Q ts) → Prints P a → Prints Q a
prints_weaker P Q a f p = record { tokens = p.tokens; spelled = f p.tokens p.spelled; are_in = p.are_in }

-- ---- items
-- a text that stands between two items, which is one token
pub record IsBetween (sign : Token) (between : List ℕ) : Type 0 where
  pub ends : (rest : List ℕ) → Ends (between ++ rest)
  pub row : (rest : List ℕ) (us : List Token) → AreRow rest us → AreRow (between ++ rest) (sign ∷ us)

pub comma_between : IsBetween (token.Sign Comma) (codes ", ")
comma_between = record { ends = λ rest. inr (inr (inr (inl refl))); row = λ rest us h. token_row (44 ∷ []) (32 ∷ rest) (token.Sign Comma) us refl (space_row rest us h) }

pub word_between : (w : List ℕ) → IsWord w → IsBetween (token.Word w) (32 ∷ (w ++ 32 ∷ []))
word_between w h = record {
  ends = λ rest. inl refl;
  row = λ rest us r. space_row ((w ++ 32 ∷ []) ++ rest) (token.Word w ∷ us)
      (subst (λ s. AreRow s (token.Word w ∷ us)) (sym (append_assoc w (32 ∷ []) rest))
      (token_row w (32 ∷ rest) (token.Word w) us (printed_front (token.Word w) (32 ∷ rest) h (inl refl)) (space_row rest us r)));
}

more_trail : {A : Type 0} (n : ℕ) (sign : Token) (between : List ℕ) (P : A → List Token → Type 0) (f : A → List ℕ) → IsBetween sign between → ((x : A) → Keeps (P x) (f x)) → (xs : List A) →
    KeepsTrail (more_items n sign P xs) (flat_map (λ y. between ++ f y) xs)
more_trail n sign between P f s k [] = no_trail
more_trail zero sign between P f s k (x ∷ xs) = record { of = λ tokens h e. absurd e }
more_trail (suc n) sign between P f s k (x ∷ xs) = record {
  of = λ tokens h e.
      let tail = flat_map (λ y. between ++ f y) xs in
      let y = parts (just sign) (P x ⨾ more_items n sign P xs) tokens h e in
      let p = (keeps_trail (k x) (more_trail n sign between P f s k xs)).of y.back y.back_proper y.is_back in
      let whole : (rest : List ℕ) → ((between ++ f x) ++ tail) ++ rest ≡ between ++ ((f x ++ tail) ++ rest) = λ rest. ap (λ s. s ++ rest) (append_assoc between (f x) tail) ∙ append_assoc between (f x ++ tail) rest in
      record {
        prints = record {
          tokens = sign ∷ p.tokens;
          spelled = record { front = sign ∷ []; back = p.tokens; is_front = refl; is_back = p.spelled; whole = refl };
          are_in = λ rest us e r. subst (λ s. AreRow s (sign ∷ (p.tokens ++ us))) (sym (whole rest)) (s.row ((f x ++ tail) ++ rest) (p.tokens ++ us) (p.are_in rest us e r));
        };
        ends = λ rest e. subst Ends (sym (whole rest)) (s.ends ((f x ++ tail) ++ rest));
      };
}

pub keeps_items : {A : Type 0} (n : ℕ) (sign : Token) (between : List ℕ) (P : A → List Token → Type 0) (f : A → List ℕ) → IsBetween sign between → ((x : A) → Keeps (P x) (f x)) → (xs : List A) →
    Keeps (items_up_to n sign P xs) (joined between (map f xs))
keeps_items n sign between P f s k [] = record { of = λ tokens h e. absurd e }
keeps_items n sign between P f s k (x ∷ xs) =
    subst (Keeps (items_up_to n sign P (x ∷ xs))) (sym (joined_more between f x xs)) (keeps_trail (k x) (more_trail n sign between P f s k xs))
