-- Phrases that many commands have: a word and what stands behind it, lists, places, and what may be left out.
use Rattle.std.proofs.Common.{◌≡◌, ℕ, List, [], ◌∷◌, codes, refl, sym, ◌∙◌, ap, subst, inl, inr, Bool, true, false, arith}
use Rattle.sb_tokens.specs.declared.token.Sign.{Sign}
use Rattle.sb_tokens.specs.declared.token.Sign.TheVariants.{Open, Close, Comma}
use Rattle.sb_tokens.specs.declared.token.Token.{Token}
use Rattle.sb_tokens.specs.declared.token.Token.TheVariants as token
use Rattle.sb_language.specs.Lang.{◌⨾◌, items_up_to, more_items}
use Rattle.sb_language.specs.Reading.{items_at}
use Rattle.sb_grammar.specs.Grammar.{Piece, word, mark, name, word_if, foreign_code, listed, names, constants}
use Rattle.sb_language.proofs.Front.{Begins, Reads, Parted, heads}
use Rattle.sb_language.proofs.Choice.{Marked, Avoids, Image, Alike, marked_image, marked_sign, marked_alone, avoids_image, avoids_sign, avoids_same, reads_same}
use Rattle.sb_language.proofs.Parts.{Solid, Part, part_same, solid_pair}
use Rattle.sb_language.proofs.Lists.{reads_items, reads_list, parted_items}
use Rattle.sb_language.proofs.Stops.{Stops, stops_items, parted_stop}
use Rattle.sb_phrases.specs.Phrases.{Reader, is_word, is_mark, word_if_at, foreign_code_at, listed_at, names_at, constants_at, place_at}
use Rattle.sb_phrases.proofs.Joined.{Goes, then_part, ended_part, image_part, image_reads, OrNone, maybe_reads, maybe_avoids}
use Rattle.sb_phrases.proofs.PiecesRead.{tests_word, tests_mark, Word, Mark, part_word, part_mark, part_name, part_number, part_constant, first_token}

-- ---- a word, a sign or a name, and what stands behind it
abbrev pub Keyed : {B : Type 0} → List ℕ → (B → Piece) → Unit {0} × B → Piece
Keyed text Q x = word text ⨾ Q x.1

abbrev pub Signed : {B : Type 0} → Sign → (B → Piece) → Unit {0} × B → Piece
Signed sign Q x = mark sign ⨾ Q x.1

abbrev pub Named : {B : Type 0} → (B → Piece) → List ℕ × B → Piece
Named Q x = name x.0 ⨾ Q x.1

abbrev pub behind : {A : Type 0} → Unit {0} × A → A
behind x = x.1

pub marked_keyed : {A B : Type 0} (text : List ℕ) (Q : B → Piece) (f : Unit {0} × B → A) → Begins Q [] → Marked (Image f (Keyed text Q)) (is_word text)
marked_keyed text Q f some = marked_image f (Keyed text Q) (is_word text) (marked_sign (is_word text) (token.Word text) Q (tests_word text) some)

pub avoids_keyed : {A B : Type 0} (p : Token → Bool) (text : List ℕ) (Q : B → Piece) (f : Unit {0} × B → A) → p (token.Word text) ≡ false → Avoids (Image f (Keyed text Q)) p
avoids_keyed p text Q f e = avoids_image f (Keyed text Q) p (avoids_sign p (token.Word text) Q e)

pub solid_keyed : {A B : Type 0} (text : List ℕ) (Q : B → Piece) (f : Unit {0} × B → A) → Solid (Image f (Keyed text Q))
solid_keyed text Q f a x = solid_pair (Word text) Q (part_word text).solid x.source x.spelled

pub marked_word : {A : Type 0} (text : List ℕ) (f : Unit {0} → A) → Marked (Image f (Word text)) (is_word text)
marked_word text f = marked_image f (Word text) (is_word text) (marked_alone (is_word text) (token.Word text) (tests_word text))

pub avoids_word : {A : Type 0} (p : Token → Bool) (text : List ℕ) (f : Unit {0} → A) → p (token.Word text) ≡ false → Avoids (Image f (Word text)) p
avoids_word p text f e a t m x = first_token p t (token.Word text) m x.spelled e

-- ---- what may be left out
abbrev truth : Unit {0} → Bool
truth x = true

word_if_alike : (text : List ℕ) → Alike (OrNone false (Image truth (Word text))) (word_if text)
word_if_alike text = record { to = to; from = from }
  where
    to : (b : Bool) (us : List Token) → OrNone false (Image truth (Word text)) b us → word_if text b us
    to b us (inl x) = subst (λ c. word_if text c us) (sym x.is) x.spelled
    to b us (inr x) = subst (λ c. word_if text c us) (sym x.is) x.spelled

    from : (b : Bool) (us : List Token) → word_if text b us → OrNone false (Image truth (Word text)) b us
    from true us x = inl (record { source = tt; is = refl; spelled = x })
    from false us x = inr (record { source = tt; is = refl; spelled = x })

pub reads_word_if : (text : List ℕ) → Reads (word_if text) (word_if_at text)
unfolding word_if_at
reads_word_if text = reads_same (OrNone false (Image truth (Word text))) (word_if text) (word_if_at text) (word_if_alike text) (maybe_reads (is_word text) false (marked_word text truth) (image_reads truth (part_word text).reads))

pub avoids_word_if : (p : Token → Bool) (text : List ℕ) → p (token.Word text) ≡ false → Avoids (word_if text) p
avoids_word_if p text e = avoids_same (OrNone false (Image truth (Word text))) (word_if text) p (word_if_alike text) (maybe_avoids (Image truth (Word text)) false p (avoids_word p text truth e))

-- ---- ( ITEM {, ITEM} )
abbrev comma : Token
comma = token.Sign Comma

abbrev close : Token
close = token.Sign Close

abbrev Items : {A : Type 0} → (A → Piece) → List A → Piece
Items P = items_up_to 15 comma P

abbrev Closing : {A : Type 0} → (A → Piece) → List A × Unit {0} → Piece
Closing P x = Items P x.0 ⨾ mark Close

abbrev Bracketed : {A : Type 0} → (A → Piece) → Unit {0} × (List A × Unit {0}) → Piece
Bracketed P x = mark Open ⨾ Closing P x.1

abbrev inside : {A : Type 0} → Unit {0} × (List A × Unit {0}) → List A
inside x = x.1.0

solid_items : {A : Type 0} (P : A → Piece) → Solid P → Solid (Items P)
solid_items P s [] x = x
solid_items P s (a ∷ items) x = solid_pair P (more_items 15 comma P) s (a, items) x

listed_alike : {A : Type 0} (P : A → Piece) → Alike (Image inside (Bracketed P)) (listed P)
listed_alike P = record { to = λ items us x. subst (λ b. listed P b us) (sym x.is) x.spelled; from = λ items us x. record { source = (tt, (items, tt)); is = refl; spelled = x } }

bracketed : {A : Type 0} (P : A → Piece) (R : Reader A) → Reads (Items P) (items_at 15 (is_mark Comma) R) → Parted (Items P) (Mark Close) → Solid P → Part (listed P) (listed_at R)
unfolding listed_at
bracketed P R f c s = part_same (Image inside (Bracketed P)) (listed P) (listed_at R) (listed_alike P) (image_part inside (then_part (part_mark Open) (ended_part f c (solid_items P s) (part_mark Close))))

close_is_no_comma : close ≡ comma → ⊥
close_is_no_comma e = let f = ap (is_mark Comma) e in cc

pub part_listed : {A : Type 0} {P : A → Piece} {R : Reader A} → Part P R → Part (listed P) (listed_at R)
part_listed {A} {P} {R} f = bracketed P R (reads_items 15 (is_mark Comma) comma P R (tests_mark Comma) f) (parted_items 15 comma close P f.closed close_is_no_comma) f.solid

-- where items go on, but with no comma and no )
pub part_listed_open : {A : Type 0} (P : A → Piece) (R : Reader A) (k : Token → Bool) → Reads P R → Solid P → Goes P k → k comma ≡ false → k close ≡ false → Part (listed P) (listed_at R)
part_listed_open {A} P R k f s g kc kd =
    let stops : Stops P (λ t. k t ≡ false) = λ a b us h m n x y. (let e = g a b us h m x y in cc) in
    bracketed P R (reads_list 15 (is_mark Comma) comma P R (tests_mark Comma) (parted_stop P (λ t. k t ≡ false) comma stops kc) f)
    (λ a a2 b us h m n x y z. let e = heads h close n [] z in stops_items 15 P (λ t. k t ≡ false) comma h stops kc (ap k e ∙ kd) (λ i. close_is_no_comma (sym e ∙ i)) a a2 us m x y) s

pub part_names : Part names names_at
part_names = part_listed part_name

pub part_constants : Part constants constants_at
part_constants = part_listed part_constant

-- ---- the code of an extension of another author
pub part_foreign_code : Part foreign_code foreign_code_at
part_foreign_code = part_number 1000 65535 (omega arith)

-- ---- NAME on NAME
abbrev pub Site : Type 0
Site = List ℕ × (Unit {0} × List ℕ)

abbrev pub Place : Site → Piece
Place = Named (Keyed (codes "on") name)

pub part_place : Part Place place_at
unfolding place_at
part_place = then_part part_name (then_part (part_word (codes "on")) part_name)

-- a place, and what stands behind it
abbrev pub Sited : {B : Type 0} → (B → Piece) → Site × B → Piece
Sited Q x = Place x.0 ⨾ Q x.1
