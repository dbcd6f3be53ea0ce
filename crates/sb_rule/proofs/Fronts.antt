-- No spelling of a part of a rule begins another of its kind, so what a front of some bytes spells and what follows it are one.
use Rattle.std.proofs.Common.{◌≡◌, ℕ, ◌<◌, List, [], ◌∷◌, ◌++◌, length, All, ℤ, FitsSigned, refl, sym, ap, ◌∙◌, append_assoc, arith}
use Rattle.std.specs.Int.{to_be_bytes, cast_unsigned, w64}
use Rattle.std.specs.List.{flat_map, AllByRecursion}
use Rattle.std.proofs.lemmas.List.Elements.{recursion_from_All}
use Rattle.sb_pred.specs.Spelling.{name_spelling, term_spelling, IsStorableName, IsStorableTerm}
use Rattle.sb_pred.proofs.Fronts.{one_length, number_bytes-injective, name_spelling-front, term_spelling-front}
use Rattle.sb_rule.specs.Spelling.{list_spelling, number_spelling, names_spelling, terms_spelling, pairs_spelling, pair_spelling, IsShortList, IsStorablePair}

-- no spelling begins another
abbrev pub NoneBegins : {X : Type 0} → (X → Type 0) → (X → List ℕ) → Type 0
NoneBegins {X} Fit spell = (v w : X) (x y : List ℕ) → Fit v → Fit w → spell v ++ x ≡ spell w ++ y → (v ≡ w) × (x ≡ y)

-- nothing of a kind stands at the front of some bytes
abbrev pub NoneStands : {X : Type 0} → (X → Type 0) → (X → List ℕ) → List ℕ → Type 0
NoneStands {X} Fit spell bytes = (v : X) (rest : List ℕ) → Fit v → bytes ≡ spell v ++ rest → ⊥

module _ {X Y : Type 0} (Fit : X → Type 0) (spell : X → List ℕ) (Next : Y → Type 0) (spell_next : Y → List ℕ) where
  -- two parts, one behind the other
  abbrev pub both : X × Y → List ℕ
  both (v, n) = spell v ++ spell_next n

  abbrev pub AreBoth : X × Y → Type 0
  AreBoth (v, n) = Fit v × Next n

  -- the second part found behind the first
  pub found_both : (bytes behind rest : List ℕ) (v : X) (n : Y) → bytes ≡ spell v ++ behind → behind ≡ spell_next n ++ rest → bytes ≡ both (v, n) ++ rest
  found_both bytes behind rest v n e k = e ∙ ap (λ b. spell v ++ b) k ∙ sym (append_assoc (spell v) (spell_next n) rest)

  -- where no first part stands, no two parts stand
  pub no_first : (bytes : List ℕ) → NoneStands Fit spell bytes → NoneStands AreBoth both bytes
  no_first bytes none (v, n) rest f e = none v (spell_next n ++ rest) f.0 (e ∙ append_assoc (spell v) (spell_next n) rest)

  -- where the first part stands and the second doesn't behind it, no two such parts stand
  pub no_second : NoneBegins Fit spell → (bytes behind : List ℕ) (v : X) → Fit v → bytes ≡ spell v ++ behind → NoneStands Next spell_next behind → NoneStands AreBoth both bytes
  no_second law bytes behind v f e none (w, n) rest g k =
      let same = law v w behind (spell_next n ++ rest) f g.0 (sym e ∙ k ∙ append_assoc (spell w) (spell_next n) rest) in
      none n rest g.1 same.1

  pub both_front : NoneBegins Fit spell → NoneBegins Next spell_next → NoneBegins AreBoth both
  both_front law next (v, n) (w, m) x y f g e =
      let first = law v w (spell_next n ++ x) (spell_next m ++ y) f.0 g.0 (sym (append_assoc (spell v) (spell_next n) x) ∙ e ∙ append_assoc (spell w) (spell_next m) y) in
      let second = next n m x y f.1 g.1 first.1 in
      (λ i. (first.0 i, second.0 i), second.1)

rows : {X : Type 0} (Fit : X → Type 0) (spell : X → List ℕ) → NoneBegins Fit spell
    → (us vs : List X) (x y : List ℕ) → length us ≡ length vs → AllByRecursion Fit us → AllByRecursion Fit vs
    → flat_map spell us ++ x ≡ flat_map spell vs ++ y → (us ≡ vs) × (x ≡ y)
rows Fit spell law [] [] x y l f g e = (refl, e)
rows Fit spell law [] (v ∷ vs) x y l f g e = absurd (omega arith)
rows Fit spell law (u ∷ us) [] x y l f g e = absurd (omega arith)
rows Fit spell law (u ∷ us) (v ∷ vs) x y l f g e =
    let first = law u v (flat_map spell us ++ x) (flat_map spell vs ++ y) f.0 g.0
    (sym (append_assoc (spell u) (flat_map spell us) x) ∙ e ∙ append_assoc (spell v) (flat_map spell vs) y) in
    let others = rows Fit spell law us vs x y (omega arith) f.1 g.1 first.1 in
    (cc (first.0, others.0), others.1)

-- lists of one length whose items go on to one row of bytes are one
pub rows_front : {X : Type 0} (Fit : X → Type 0) (spell : X → List ℕ) → NoneBegins Fit spell
    → (us vs : List X) (x y : List ℕ) → length us ≡ length vs → All Fit us → All Fit vs
    → flat_map spell us ++ x ≡ flat_map spell vs ++ y → (us ≡ vs) × (x ≡ y)
rows_front Fit spell law us vs x y l f g e =
    rows Fit spell law us vs x y l (recursion_from_All Fit us f) (recursion_from_All Fit vs g) e

stuck : {X : Type 0} (Fit : X → Type 0) (spell : X → List ℕ) → NoneBegins Fit spell
    → (us vs : List X) (x y : List ℕ) → length us < length vs → AllByRecursion Fit us → AllByRecursion Fit vs → NoneStands Fit spell x
    → flat_map spell us ++ x ≡ flat_map spell vs ++ y → ⊥
stuck Fit spell law us [] x y l f g none e = omega arith
stuck Fit spell law [] (v ∷ vs) x y l f g none e = none v (flat_map spell vs ++ y) g.0 (e ∙ append_assoc (spell v) (flat_map spell vs) y)
stuck Fit spell law (u ∷ us) (v ∷ vs) x y l f g none e =
    let first = law u v (flat_map spell us ++ x) (flat_map spell vs ++ y) f.0 g.0
    (sym (append_assoc (spell u) (flat_map spell us) x) ∙ e ∙ append_assoc (spell v) (flat_map spell vs) y) in
    stuck Fit spell law us vs x y (omega arith) f.1 g.1 none first.1

-- where no item stands behind those that were read, no longer list stands
pub no_more : {X : Type 0} (Fit : X → Type 0) (spell : X → List ℕ) → NoneBegins Fit spell
    → (us vs : List X) (bytes x y : List ℕ) → length us < length vs → All Fit us → All Fit vs → NoneStands Fit spell x
    → bytes ≡ flat_map spell us ++ x → bytes ≡ flat_map spell vs ++ y → ⊥
no_more Fit spell law us vs bytes x y l f g none e k =
    stuck Fit spell law us vs x y l (recursion_from_All Fit us f) (recursion_from_All Fit vs g) none (sym e ∙ k)

-- lists that are spelled with their numbers of items
pub list_front : {X : Type 0} (Fit : X → Type 0) (spell : X → List ℕ) → NoneBegins Fit spell → NoneBegins (IsShortList Fit) (list_spelling spell)
list_front Fit spell law us vs x y f g e =
    let long : length us ≡ length vs = cc in
    let items : flat_map spell us ++ x ≡ flat_map spell vs ++ y = cc in
    rows_front Fit spell law us vs x y long f.1 g.1 items

pub name_front : NoneBegins IsStorableName name_spelling
name_front s t x y f g e = name_spelling-front s t x y e

pub term_front : NoneBegins IsStorableTerm term_spelling
term_front a b x y f g e = term_spelling-front a b x y f g e

pub pair_front : NoneBegins IsStorablePair pair_spelling
pair_front = both_front IsStorableName name_spelling IsStorableTerm term_spelling name_front term_front

pub names_front : NoneBegins (IsShortList IsStorableName) names_spelling
names_front = list_front IsStorableName name_spelling name_front

pub terms_front : NoneBegins (IsShortList IsStorableTerm) terms_spelling
terms_front = list_front IsStorableTerm term_spelling term_front

pub pairs_front : NoneBegins (IsShortList IsStorablePair) pairs_spelling
pairs_front = list_front IsStorablePair pair_spelling pair_front

-- a number has 8 bytes
pub length-number : (n : ℤ) → length (number_spelling n) ≡ 8
unfolding number_spelling
length-number n = refl

pub number_front : NoneBegins (FitsSigned w64) number_spelling
unfolding number_spelling
number_front m n x y f g e =
    let same = one_length (to_be_bytes w64 (cast_unsigned w64 m)) (to_be_bytes w64 (cast_unsigned w64 n)) x y refl e in
    (number_bytes-injective m n f g same.0, same.1)
