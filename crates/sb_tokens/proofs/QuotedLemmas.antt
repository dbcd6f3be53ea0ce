-- Facts on what stands between quotes.
use Rattle.std.proofs.Common.{◌≡◌, ◌≢◌, ℕ, zero, suc, ◌+◌, ◌<◌, ◌≤◌, List, [], ◌∷◌, ◌++◌, refl, sym, ◌∙◌, ap, subst, Bool, true, false, cond, Option, Some, None, IfSome, length, drop, take, arith, get_or, append_assoc, length-drop, drop-cons, add-one}
use Rattle.std.specs.Prelude.{count_by, MatchOption}
use Rattle.std.specs.Str.{IsUtf8, IsAscii, IsValidUpTo, is_utf8}
use Rattle.std.proofs.Math.Seq.{take-add}
use Rattle.std.proofs.lemmas.List.{append-nil, take_more, take-take, take-append-drop, get_or-drop, get_or-take, length-take-le}
use Rattle.std.proofs.lemmas.List.Sums.{sum_by-cons}
use Rattle.std.proofs.lemmas.Str.{IsUtf8-from_is_utf8, is_utf8-from_IsUtf8, IsUtf8-append, IsUtf8-from_ascii, IsUtf8-take, IsCharBoundary-before_ascii}
use Rattle.std.proofs.lemmas.Bool.Decides.{nat_tests}
use Rattle.sb_tokens.specs.Tokens.{is_quote, ended, longer, or_else, text_behind}
use Rattle.sb_tokens.specs.Quoted.{with_byte, unquoted, longest_at, longest, IsValidFront, NoQuoteFrom}
use Rattle.sb_tokens.proofs.TokensLemmas.{text_reads}

-- ---- quotes
quote : (b : ℕ) → is_quote b ≡ true → b ≡ 39
quote b e = grind (arith, nat_tests)

-- ---- the last quote
-- the place of the last quote among the first bytes
abbrev pub IsLastBefore : ℕ → List ℕ → Option ℕ → Type 0
IsLastBefore i bytes place = MatchOption place ((k : ℕ) → k < i → get_or bytes k 0 ≢ 39) (λ n. (n < i) × (get_or bytes n 0 ≡ 39) × ((k : ℕ) → k < i → n < k → get_or bytes k 0 ≢ 39))

-- ---- the front that is UTF-8
pub front_valid : (bytes : List ℕ) (n : ℕ) → IsValidUpTo bytes n → IsValidFront bytes n
front_valid bytes n v = record { within = omega (arith, v.short); valid = v.front; most = λ m lt le. v.longest m lt }

-- ---- the text behind a quote is the longest of what stands between the quotes
abbrev longest_of : List ℕ → List ℕ × Bool → Option (List ℕ × ℕ)
longest_of text bytes = longest text bytes.0 bytes.1

at_quote : (text : List ℕ) (b : ℕ) (rest : Option (List ℕ × ℕ)) → is_quote b ≡ true → longest_at text b rest ≡ or_else (longer 2 rest) (ended text)
at_quote text b rest e = ap (λ p. cond p (or_else (longer 2 rest) (ended text)) (longer 1 rest)) e

at_other : (text : List ℕ) (b : ℕ) (rest : Option (List ℕ × ℕ)) → is_quote b ≡ false → longest_at text b rest ≡ longer 1 rest
at_other text b rest e = ap (λ p. cond p (or_else (longer 2 rest) (ended text)) (longer 1 rest)) e

last_byte : (text : List ℕ) (b : ℕ) (p : Bool) → is_quote b ≡ p → cond p (ended text) None ≡ longest_of text (cond p ([], true) (b ∷ [], false))
last_byte text b true e = refl
last_byte text b false e = sym (at_other text b None e)

next_byte : (text bytes : List ℕ) (b c : ℕ) (p q : Bool) → is_quote b ≡ p → is_quote c ≡ q → text_behind (text ++ 39 ∷ []) bytes ≡ longest_of (text ++ 39 ∷ []) (unquoted bytes) →
    text_behind (text ++ b ∷ []) (c ∷ bytes) ≡ longest_of (text ++ b ∷ []) (unquoted (c ∷ bytes)) →
    cond p (cond q (or_else (longer 2 (text_behind (text ++ 39 ∷ []) bytes)) (ended text)) (ended text)) (longer 1 (text_behind (text ++ b ∷ []) (c ∷ bytes)))
    ≡ longest_of text (cond p (cond q (with_byte c (unquoted bytes)) ([], true)) (with_byte b (unquoted (c ∷ bytes))))
next_byte text bytes b c true true e f doubled more =
    ap (λ found. or_else (longer 2 found) (ended text)) (doubled ∙ ap (λ x. longest_of (text ++ x ∷ []) (unquoted bytes)) (sym (quote c f)))
    ∙ sym (at_quote text c (longest_of (text ++ c ∷ []) (unquoted bytes)) f)
next_byte text bytes b c true false e f doubled more = refl
next_byte text bytes b c false q e f doubled more = ap (longer 1) more ∙ sym (at_other text b (longest_of (text ++ b ∷ []) (unquoted (c ∷ bytes))) e)

pub text_behind-longest : (text bytes : List ℕ) → text_behind text bytes ≡ longest text (unquoted bytes).0 (unquoted bytes).1
text_behind-longest text [] = refl
text_behind-longest text (b ∷ []) = last_byte text b (is_quote b) refl
text_behind-longest text (b ∷ c ∷ bytes) = next_byte text bytes b c (is_quote b) (is_quote c) refl refl (text_behind-longest (text ++ 39 ∷ []) bytes) (text_behind-longest (text ++ b ∷ []) (c ∷ bytes))

-- ---- texts that a quote ends
is_ended : (text : List ℕ) → IsUtf8 text → ended text ≡ Some (text, 1)
is_ended text u = ap (λ p. cond p (Some (text, 1)) None) (is_utf8-from_IsUtf8 text u)

not_utf8 : (text : List ℕ) (p : Bool) → is_utf8 text ≡ p → ¬ (IsUtf8 text) → is_utf8 text ≡ false
not_utf8 text true e n = absurd (n (IsUtf8-from_is_utf8 text e))
not_utf8 text false e n = e

not_ended : (text : List ℕ) → ¬ (IsUtf8 text) → ended text ≡ None
not_ended text n = ap (λ p. cond p (Some (text, 1)) None) (not_utf8 text (is_utf8 text) refl n)

-- where all of it isn't UTF-8, the quote at its end ends no text
not_whole : (front text : List ℕ) → ¬ (IsUtf8 (front ++ text)) → longest front text true ≡ longest front text false
not_whole front [] n = not_ended front (λ u. n (subst IsUtf8 (sym (append-nil front)) u))
not_whole front (b ∷ text) n = ap (longest_at front b) (not_whole (front ++ b ∷ []) text (λ u. n (subst IsUtf8 (append_assoc front (b ∷ []) text) u)))

-- a text that was found, with some bytes before it
found_at : (b n : ℕ) (front text : List ℕ) (rest : Option (List ℕ × ℕ)) (p : Bool) → is_quote b ≡ p → rest ≡ Some (text, n) → longest_at front b rest ≡ Some (text, cond p 1 0 + n + 1)
found_at b n front text rest true e f = let k : 2 + n ≡ 1 + n + 1 = omega arith in at_quote front b rest e ∙ ap (λ r. or_else (longer 2 r) (ended front)) f ∙ ap (λ m. Some (text, m)) k
found_at b n front text rest false e f = let k : 1 + n ≡ 0 + n + 1 = omega arith in at_other front b rest e ∙ ap (longer 1) f ∙ ap (λ m. Some (text, m)) k

found_behind : (front text rest : List ℕ) (p : Bool) → longest (front ++ text) rest p ≡ Some (front ++ text, 1) → longest front (text ++ rest) p ≡ Some (front ++ text, length text + count_by is_quote text + 1)
found_behind front [] rest p e = subst (λ s. longest s rest p ≡ Some (front ++ [], 1)) (append-nil front) e
found_behind front (b ∷ text) rest p e =
    let s = append_assoc front (b ∷ []) text in
    let more = found_behind (front ++ b ∷ []) text rest p (subst (λ t. longest t rest p ≡ Some (t, 1)) (sym s) e) in
    let n : cond (is_quote b) 1 0 + (length text + count_by is_quote text + 1) + 1 ≡ length (b ∷ text) + count_by is_quote (b ∷ text) + 1 = omega (arith, sum_by-cons (λ x. cond (is_quote x) 1 0) b text) in
    found_at b (length text + count_by is_quote text + 1) front ((front ++ b ∷ []) ++ text) (longest (front ++ b ∷ []) (text ++ rest) p) (is_quote b) refl more ∙ (λ i. Some (s i, n i))

-- ---- texts that end at a doubled quote
none_at : (front : List ℕ) (b : ℕ) (rest : Option (List ℕ × ℕ)) (p : Bool) → is_quote b ≡ p → rest ≡ None → (b ≡ 39 → ¬ (IsUtf8 front)) → longest_at front b rest ≡ None
none_at front b rest true e f n = at_quote front b rest e ∙ ap (λ r. or_else (longer 2 r) (ended front)) f ∙ not_ended front (n (quote b e))
none_at front b rest false e f n = at_other front b rest e ∙ ap (longer 1) f

none_longer : (front text : List ℕ) → ((m : ℕ) → m < length text → get_or text m 0 ≡ 39 → ¬ (IsUtf8 (front ++ take m text))) → longest front text false ≡ None
none_longer front [] n = refl
none_longer front (b ∷ text) n =
    let more = none_longer (front ++ b ∷ []) text (λ m h e u. n (suc m) (omega arith) e (subst IsUtf8 (append_assoc front (b ∷ []) (take m text)) u)) in
    none_at front b (longest (front ++ b ∷ []) text false) (is_quote b) refl more (λ e u. n 0 (omega arith) e (subst IsUtf8 (sym (append-nil front)) u))

IsAscii-quote : IsAscii (39 ∷ [])
IsAscii-quote zero = omega arith
IsAscii-quote (suc i) = omega arith

-- a text that is UTF-8 ends at a quote among the bytes at the front that are UTF-8
quote_valid : (bytes : List ℕ) (v j : ℕ) → IsValidFront bytes v → j < length bytes → get_or bytes j 0 ≡ 39 → IsUtf8 (take j bytes) → j < v
quote_valid bytes v j f h e u =
    let w : take (j + 1) bytes ≡ take j bytes ++ 39 ∷ [] = take_more bytes j 0 h ∙ ap (λ b. take j bytes ++ b ∷ []) e in
    let behind : IsUtf8 (take (j + 1) bytes) = subst IsUtf8 (sym w) (IsUtf8-append (take j bytes) (39 ∷ []) u (IsUtf8-from_ascii (39 ∷ []) IsAscii-quote)) in
    let most : v < j + 1 → ⊥ = λ lt. f.most (j + 1) lt (omega arith) behind in
    omega arith

none_from : (bytes : List ℕ) (v s : ℕ) → IsValidFront bytes v → s ≤ length bytes → NoQuoteFrom s (take v bytes) → longest (take s bytes) (drop s bytes) false ≡ None
none_from bytes v s f le n = none_longer (take s bytes) (drop s bytes)
    (λ m h e u.
    let lt : s + m < length bytes = omega (arith, length-drop s bytes) in
    let q : get_or bytes (s + m) 0 ≡ 39 = sym (get_or-drop s bytes m 0) ∙ e in
    let w = quote_valid bytes v (s + m) f lt q (subst IsUtf8 (sym (take-add s m bytes)) u) in
    n (s + m) (omega arith) (omega (arith, length-take-le v bytes f.within)) (get_or-take v bytes (s + m) 0 w ∙ q))

pub none_found : (bytes : List ℕ) (v : ℕ) → IsValidFront bytes v → NoQuoteFrom 0 (take v bytes) → longest [] bytes false ≡ None
none_found bytes v f n = none_from bytes v 0 f (omega arith) n

-- the front up to the last quote that a text may end at
pub shorter_utf8 : (bytes : List ℕ) (n : ℕ) → IsUtf8 bytes → n < length bytes → get_or bytes n 0 ≡ 39 → IsUtf8 (take n bytes)
shorter_utf8 bytes n u h e = IsUtf8-take bytes n u (IsCharBoundary-before_ascii bytes n h (omega arith))

pub shorter_found : (bytes : List ℕ) (v n : ℕ) → IsValidFront bytes v → n < length (take v bytes) → get_or (take v bytes) n 0 ≡ 39 → NoQuoteFrom (n + 1) (take v bytes) →
    longest [] bytes false ≡ Some (take n (take v bytes), length (take n (take v bytes)) + count_by is_quote (take n (take v bytes)) + 1)
shorter_found bytes v n f h e none =
    let lt : n < v = omega (arith, length-take-le v bytes f.within) in
    let s : take n (take v bytes) ≡ take n bytes = take-take n v bytes (omega arith) in
    let text = take n bytes in
    let rest = drop (n + 1) bytes in
    let q : get_or bytes n 0 ≡ 39 = sym (get_or-take v bytes n 0 lt) ∙ e in
    let u : IsUtf8 text = subst IsUtf8 s (shorter_utf8 (take v bytes) n f.valid h e) in
    let w : drop n bytes ≡ 39 ∷ rest = drop-cons bytes n 0 (omega arith) ∙ (λ i. q i ∷ drop (sym (add-one n) i) bytes) in
    let more : take (n + 1) bytes ≡ text ++ 39 ∷ [] = take_more bytes n 0 (omega arith) ∙ ap (λ b. text ++ b ∷ []) q in
    let longer_none : longest (text ++ 39 ∷ []) rest false ≡ None = ap (λ t. longest t rest false) (sym more) ∙ none_from bytes v (n + 1) f (omega arith) none in
    let here : longest text (39 ∷ rest) false ≡ Some (text, 1) = ap (λ r. or_else (longer 2 r) (ended text)) longer_none ∙ is_ended text u in
    let whole : longest [] (text ++ drop n bytes) false ≡ Some (text, length text + count_by is_quote text + 1) = found_behind [] text (drop n bytes) false (ap (λ r. longest text r false) w ∙ here) in
    ap (λ b. longest [] b false) (sym (take-append-drop n bytes)) ∙ whole ∙ ap (λ t. Some (t, length t + count_by is_quote t + 1)) (sym s)

-- ---- the text behind a quote, by what was read
abbrev Unquoted : List ℕ → List ℕ → Bool → Type 0
Unquoted bytes text p = (text, p) ≡ unquoted bytes

read_as : (bytes text : List ℕ) (p : Bool) → Unquoted bytes text p → text_behind [] bytes ≡ longest [] text p
read_as bytes text p e = text_behind-longest [] bytes ∙ ap (longest_of []) (sym e)

pub whole_text : (bytes text : List ℕ) → Unquoted bytes text true → IsUtf8 text → text_behind [] bytes ≡ Some (text, length text + count_by is_quote text + 1)
whole_text bytes text e u =
    read_as bytes text true e ∙ ap (λ t. longest [] t true) (sym (append-nil text)) ∙ found_behind [] text [] true (is_ended text u)

pub whole_reads : (bytes text : List ℕ) → Unquoted bytes text true → IsUtf8 text → length text + count_by is_quote text + 1 ≤ length bytes
whole_reads bytes text e u = subst (λ found. IfSome found (λ f. f.1 ≤ length bytes)) (whole_text bytes text e u) (text_reads [] bytes)

pub no_whole_text : (bytes text : List ℕ) → Unquoted bytes text true → ¬ (IsUtf8 text) → text_behind [] bytes ≡ longest [] text false
no_whole_text bytes text e n = read_as bytes text true e ∙ not_whole [] text n

pub no_end : (bytes text : List ℕ) → Unquoted bytes text false → text_behind [] bytes ≡ longest [] text false
no_end bytes text e = read_as bytes text false e

-- ---- reading byte after byte
-- what was read, with what stands behind it
abbrev pub behind : List ℕ → List ℕ × Bool → List ℕ × Bool
behind text rest = (text ++ rest.0, rest.1)
