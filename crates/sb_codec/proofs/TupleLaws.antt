-- A row of spelled values is one row.
use Rattle.std.proofs.Common.{◌≡◌, ◌≢◌, ℕ, ◌≤◌, ◌<◌, List, [], ◌∷◌, ◌++◌, length, map, take, All, refl, sym, ap, ◌∙◌, arith}
use Rattle.std.specs.List.{flat_map, AllByRecursion}
use Rattle.std.proofs.lemmas.List.{append-nil, length-append, nil_from_length}
use Rattle.std.proofs.lemmas.List.Elements.{recursion_from_All}
use Rattle.sb_value.specs.declared.value.Value.{Value}
use Rattle.sb_value.specs.Spelling.{value_spelling, IsStorable}
use Rattle.sb_codec.specs.Laws.{OneTuple}
use Rattle.sb_codec.proofs.Rows.{goes_on}
use Rattle.sb_codec.proofs.Spellings.{spelling_front}

-- all values are of one kind here
abbrev kindless : Value → ℕ
kindless v = 0

alike : (us vs : List Value) → length us ≤ length vs → map kindless us ≡ take (length us) (map kindless vs)
alike [] vs fits = refl
alike (u ∷ us) [] fits = absurd (omega arith)
alike (u ∷ us) (v ∷ vs) fits = ap (λ (l : List ℕ). 0 ∷ l) (alike us vs (omega arith))

-- a row that begins with these values goes on with what follows them
rest_of : (us vs : List Value) (x : List ℕ) → All IsStorable us → All IsStorable vs → length us ≤ length vs → flat_map value_spelling us ++ x ≡ flat_map value_spelling vs
    → (more : List Value) × (vs ≡ us ++ more) × (x ≡ flat_map value_spelling more) × AllByRecursion IsStorable more
rest_of us vs x us-good vs-good fits same =
    goes_on kindless IsStorable value_spelling (λ v w y z _ v-good w-good e. spelling_front v w y z v-good w-good e) us vs x (alike us vs fits)
    (recursion_from_All IsStorable us us-good) (recursion_from_All IsStorable vs vs-good) fits same

-- no row goes on where no value is spelled
pub stuck : (us vs : List Value) (bytes x : List ℕ) → All IsStorable us → All IsStorable vs → length us < length vs → bytes ≡ flat_map value_spelling us ++ x
    → ((v : Value) (rest : List ℕ) → IsStorable v → x ≢ value_spelling v ++ rest) → bytes ≡ flat_map value_spelling vs → ⊥
stuck us vs bytes x us-good vs-good fewer spelled none same =
    let rest = rest_of us vs x us-good vs-good (omega arith) (sym spelled ∙ same) in
    none_more rest.0 (omega (arith, ap length rest.1, length-append us rest.0)) rest.2 rest.3
  where
    none_more : (more : List Value) → 0 < length more → x ≡ flat_map value_spelling more → AllByRecursion IsStorable more → ⊥
    none_more [] some spelled-so good = omega arith
    none_more (v ∷ more) some spelled-so good = none v (flat_map value_spelling more) good.0 spelled-so

-- rows of one length that begin alike are one, and nothing follows
pub same_rows : (us vs : List Value) (x : List ℕ) → All IsStorable us → All IsStorable vs → length us ≡ length vs → flat_map value_spelling us ++ x ≡ flat_map value_spelling vs
    → (us ≡ vs) × (x ≡ [])
same_rows us vs x us-good vs-good long same =
    let rest = rest_of us vs x us-good vs-good (omega arith) same in
    let none : rest.0 ≡ [] = nil_from_length rest.0 (omega (arith, ap length rest.1, length-append us rest.0)) in
    (sym (rest.1 ∙ ap (λ (l : List Value). us ++ l) none ∙ append-nil us), rest.2 ∙ ap (flat_map value_spelling) none)

pub one_tuple : OneTuple
one_tuple xs ys xs-tuple ys-tuple same =
    let long : length xs ≡ length ys = cc in
    let rows : flat_map value_spelling xs ≡ flat_map value_spelling ys = cc in
    (same_rows xs ys [] xs-tuple.storable ys-tuple.storable long (append-nil (flat_map value_spelling xs) ∙ rows)).0
