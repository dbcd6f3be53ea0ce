-- A row of codes of given kinds is one row.
use Rattle.std.proofs.Common.{◌≡◌, ◌≢◌, ℕ, ◌≤◌, ◌<◌, List, [], ◌∷◌, ◌++◌, length, get_or, map, take, drop, All, sym, ap, ◌∙◌, add-zero, arith}
use Rattle.std.specs.List.{AllByRecursion}
use Rattle.std.proofs.lemmas.List.{append-nil, length-append, length-map, length-take-le, map-append, nil_from_length, drop_at, get_or-drop, take_all}
use Rattle.std.proofs.lemmas.List.Elements.{recursion_from_All}
use Rattle.sb_value.specs.declared.value.Value.{Value}
use Rattle.sb_value.specs.declared.schema.Kind.{Kind}
use Rattle.sb_value.specs.Code.{value_code, ordered_code}
use Rattle.sb_value.specs.Fits.{kind_of}
use Rattle.sb_codec.specs.Kinds.{AreOfKinds, IsProper}
use Rattle.sb_codec.proofs.Rows.{goes_on}
use Rattle.sb_codec.proofs.Codes.{code_front, in_range}

-- values of the first kinds, and what follows them in a row of all the kinds
rest_of : (us vs : List Value) (x : List ℕ) → map kind_of us ≡ take (length us) (map kind_of vs) → All IsProper us → All IsProper vs → length us ≤ length vs
    → ordered_code us ++ x ≡ ordered_code vs
    → (more : List Value) × (vs ≡ us ++ more) × (x ≡ ordered_code more) × AllByRecursion IsProper more
rest_of us vs x kinds us-good vs-good fits same =
    goes_on kind_of IsProper value_code (λ v w y z alike v-good w-good e. code_front v w y z alike (in_range v v-good) (in_range w w-good) e) us vs x kinds
    (recursion_from_All IsProper us us-good) (recursion_from_All IsProper vs vs-good) fits same

-- no row goes on where no value of the next kind has its code
pub stuck : (kinds : List Kind) (d : Kind) (us vs : List Value) (bytes x : List ℕ) (i : ℕ) → i < length kinds
    → map kind_of us ≡ take i kinds → AreOfKinds kinds vs → All IsProper us → All IsProper vs → bytes ≡ ordered_code us ++ x
    → ((v : Value) (rest : List ℕ) → kind_of v ≡ get_or kinds i d → IsProper v → x ≢ value_code v ++ rest) → bytes ≡ ordered_code vs → ⊥
stuck kinds d us vs bytes x i within us-kinds vs-kinds us-good vs-good coded none same =
    let us-long : length us ≡ i = sym (length-map us kind_of) ∙ ap length us-kinds ∙ length-take-le i kinds (omega arith) in
    let vs-long : length vs ≡ length kinds = sym (length-map vs kind_of) ∙ ap length vs-kinds in
    let front : map kind_of us ≡ take (length us) (map kind_of vs) = rw (us-long, vs-kinds) us-kinds in
    let rest = rest_of us vs x front us-good vs-good (omega arith) (sym coded ∙ same) in
    let joined : kinds ≡ map kind_of us ++ map kind_of rest.0 = sym vs-kinds ∙ ap (map kind_of) rest.1 ∙ map-append kind_of us rest.0 in
    let others : drop i kinds ≡ map kind_of rest.0 =
    ap (drop i) joined ∙ drop_at (map kind_of us) (map kind_of rest.0) i (length-map us kind_of ∙ us-long) in
    let next : get_or (map kind_of rest.0) 0 d ≡ get_or kinds i d =
    ap (λ (l : List Kind). get_or l 0 d) (sym others) ∙ get_or-drop i kinds 0 d ∙ ap (λ (n : ℕ). get_or kinds n d) (add-zero i) in
    none_more rest.0 (omega (arith, ap length rest.1, length-append us rest.0)) rest.2 rest.3 next
  where
    none_more : (more : List Value) → 0 < length more → x ≡ ordered_code more → AllByRecursion IsProper more → get_or (map kind_of more) 0 d ≡ get_or kinds i d → ⊥
    none_more [] some coded-so good next = omega arith
    none_more (v ∷ more) some coded-so good next = none v (ordered_code more) next good.0 coded-so

-- all the kinds are there, so nothing follows
pub same_rows : (kinds : List Kind) (us vs : List Value) (bytes x : List ℕ) → AreOfKinds kinds us → AreOfKinds kinds vs → All IsProper us → All IsProper vs
    → bytes ≡ ordered_code us ++ x → bytes ≡ ordered_code vs → (us ≡ vs) × (x ≡ [])
same_rows kinds us vs bytes x us-kinds vs-kinds us-good vs-good coded same =
    let us-long : length us ≡ length kinds = sym (length-map us kind_of) ∙ ap length us-kinds in
    let vs-long : length vs ≡ length kinds = sym (length-map vs kind_of) ∙ ap length vs-kinds in
    let front : map kind_of us ≡ take (length us) (map kind_of vs) = rw (us-kinds, vs-kinds, us-long) (sym (take_all (length kinds) kinds (omega arith))) in
    let rest = rest_of us vs x front us-good vs-good (omega arith) (sym coded ∙ same) in
    let none : rest.0 ≡ [] = nil_from_length rest.0 (omega (arith, ap length rest.1, length-append us rest.0)) in
    (sym (rest.1 ∙ ap (λ (l : List Value). us ++ l) none ∙ append-nil us), rest.2 ∙ ap ordered_code none)
