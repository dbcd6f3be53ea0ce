-- Choices by the first word.
use Rattle.std.proofs.Common.{◌≡◌, ℕ, List, [], ◌∷◌, refl, sym, subst, inl, inr, Bool, true, false, cond}
use Rattle.std.specs.Str.{bytes_eq}
use Rattle.sb_tokens.specs.declared.token.Token.{Token}
use Rattle.sb_tokens.specs.declared.token.Token.TheVariants as token
use Rattle.sb_language.specs.Lang.{◌∣◌}
use Rattle.sb_language.specs.Reading.{or_else}
use Rattle.sb_grammar.specs.Grammar.{Piece, word}
use Rattle.sb_language.proofs.Front.{Reads}
use Rattle.sb_language.proofs.Choice.{Marked, Avoids, Image, marked_image, avoids_image, avoids_or, reads_same}
use Rattle.sb_phrases.specs.Phrases.{◌⟫◌, mapping, Reader, is_word, word_at}
use Rattle.sb_phrases.proofs.Joined.{then_reads, image_reads, or_reads}
use Rattle.sb_phrases.proofs.PiecesRead.{Word, part_word}
use Rattle.sb_phrases.proofs.PhrasesRead.{Keyed, marked_keyed, avoids_keyed, marked_word, avoids_word}

-- ---- one branch
-- the sentences of G that begin with this word
pub record Branch {A : Type 0} (G : A → Piece) (text : List ℕ) (P : A → Piece) (R : Reader A) : Type 0 where
  pub reads : Reads P R
  pub marked : Marked P (is_word text)
  pub avoids : (p : Token → Bool) → p (token.Word text) ≡ false → Avoids P p
  pub sound : (a : A) (us : List Token) → P a us → G a us

image_sound : {A B : Type 0} (G : B → Piece) (f : A → B) (P : A → Piece) → ((x : A) (us : List Token) → P x us → G (f x) us) → (b : B) (us : List Token) → Image f P b us → G b us
image_sound G f P s b us x = subst (λ c. G c us) (sym x.is) (s x.source us x.spelled)

-- a word and what stands behind it
pub keyed : {A B : Type 0} {G : A → Piece} {Q : B → Piece} {S : Reader B} (text : List ℕ) (f : Unit {0} × B → A) → ((x : Unit {0} × B) (us : List Token) → Keyed text Q x us → G (f x) us) → Reads Q S →
    Branch G text (Image f (Keyed text Q)) (mapping f (word_at text ⟫ S))
keyed {A} {B} {G} {Q} {S} text f s h = record {
  reads = image_reads f (then_reads (part_word text) h);
  marked = marked_keyed text Q f h.some;
  avoids = λ p e. avoids_keyed p text Q f e;
  sound = image_sound G f (Keyed text Q) s;
}

-- a word alone
pub alone : {A : Type 0} {G : A → Piece} (text : List ℕ) (f : Unit {0} → A) → ((us : List Token) → word text us → G (f tt) us) → Branch G text (Image f (Word text)) (mapping f (word_at text))
alone {A} {G} text f s = record {
  reads = image_reads f (part_word text).reads;
  marked = marked_word text f;
  avoids = λ p e. avoids_word p text f e;
  sound = image_sound G f (Word text) (λ x us y. s us y);
}

-- other values of a branch
pub branch_image : {A B : Type 0} {G : B → Piece} {H : A → Piece} {P : A → Piece} {R : Reader A} (text : List ℕ) (f : A → B) → ((x : A) (us : List Token) → P x us → G (f x) us) → Branch H text P R → Branch G text (Image f P) (mapping f R)
branch_image {A} {B} {G} {H} {P} {R} text f s b = record {
  reads = image_reads f b.reads;
  marked = marked_image f P (is_word text) b.marked;
  avoids = λ p e. avoids_image f P p (b.avoids p e);
  sound = image_sound G f P s;
}

-- ---- several
-- whether it is one of the words
abbrev pub among : List ℕ → List (List ℕ) → Bool
among text [] = false
among text (w ∷ words) = cond (bytes_eq w text) true (among text words)

-- the sentences of G that begin with one of these words
pub record Branches {A : Type 0} (G : A → Piece) (words : List (List ℕ)) (L : A → Piece) (R : Reader A) : Type 0 where
  pub reads : Reads L R
  pub avoids : (text : List ℕ) → among text words ≡ false → Avoids L (is_word text)
  pub sound : (a : A) (us : List Token) → L a us → G a us

not_first : (b c : Bool) → cond b true c ≡ false → b ≡ false
not_first true c e = e
not_first false c e = refl

not_behind : (b c : Bool) → cond b true c ≡ false → c ≡ false
not_behind true c e = absurd (let f = e in cc)
not_behind false c e = e

pub last : {A : Type 0} {G : A → Piece} {text : List ℕ} {P : A → Piece} {R : Reader A} → Branch G text P R → Branches G (text ∷ []) P R
last {A} {G} {text} {P} {R} b = record {
  reads = b.reads;
  avoids = λ other e. b.avoids (is_word other) (not_first (bytes_eq text other) false e);
  sound = b.sound;
}

pub or : {A : Type 0} {G : A → Piece} {words : List (List ℕ)} {text : List ℕ} {P L : A → Piece} {R S : Reader A} → Branch G text P R → Branches G words L S → among text words ≡ false →
    Branches G (text ∷ words) (λ a. P a ∣ L a) (or_else (is_word text) R S)
or {A} {G} {words} {text} {P} {L} {R} {S} b l e = record {
  reads = or_reads (is_word text) b.marked (l.avoids text e) b.reads l.reads;
  avoids = λ other f. avoids_or P L (is_word other) (b.avoids (is_word other) (not_first (bytes_eq text other) (among other words) f)) (l.avoids other (not_behind (bytes_eq text other) (among other words) f));
  sound = λ a us x. elim x as (λ _. G a us) [ inl y ↦ b.sound a us y | inr y ↦ l.sound a us y ];
}

-- where the branches are all of G
pub reads_branches : {A : Type 0} (G : A → Piece) (words : List (List ℕ)) (L : A → Piece) (R : Reader A) → Branches G words L R → ((a : A) (us : List Token) → G a us → L a us) → Reads G R
reads_branches G words L R l c = reads_same L G R (record { to = l.sound; from = c }) l.reads
