-- Rows of spellings of which none begins another of its kind.
use Rattle.std.proofs.Common.{◌≡◌, ℕ, ◌+◌, ◌≤◌, ◌<◌, List, [], ◌∷◌, ◌++◌, length, get_or, map, take, All, refl, sym, ap, ◌∙◌, append_assoc, subst, arith}
use Rattle.std.specs.List.{flat_map, AllByRecursion}
use Rattle.std.proofs.lemmas.List.{flat_map_more, take_more}
use Rattle.std.proofs.lemmas.List.Elements.{All-push}
use Rattle.std.proofs.lemmas.List.Folds.{length-flat_map-take}

module _ {V K : Type 0} (kind : V → K) (Good : V → Type 0) (spell : V → List ℕ) where
  -- no spelling begins another of its kind
  abbrev pub NoneBegins : Type 0
  NoneBegins = (v w : V) (x y : List ℕ) → kind v ≡ kind w → Good v → Good w → spell v ++ x ≡ spell w ++ y → (v ≡ w) × (x ≡ y)

  -- a row that begins with these values goes on with what follows them
  pub goes_on : NoneBegins → (us vs : List V) (x : List ℕ) → map kind us ≡ take (length us) (map kind vs) → AllByRecursion Good us → AllByRecursion Good vs
      → length us ≤ length vs → flat_map spell us ++ x ≡ flat_map spell vs → (more : List V) × (vs ≡ us ++ more) × (x ≡ flat_map spell more) × AllByRecursion Good more
  goes_on law [] vs x kinds us-good vs-good fits same = (vs, refl, same, vs-good)
  goes_on law (u ∷ us) [] x kinds us-good vs-good fits same = absurd (omega arith)
  goes_on law (u ∷ us) (v ∷ vs) x kinds us-good vs-good fits same =
      let joined : spell u ++ (flat_map spell us ++ x) ≡ spell v ++ flat_map spell vs = sym (append_assoc (spell u) (flat_map spell us) x) ∙ same in
      let split = law u v (flat_map spell us ++ x) (flat_map spell vs) (cc) us-good.0 vs-good.0 joined in
      let rest = goes_on law us vs x (cc) us-good.1 vs-good.1 (omega arith) split.1 in
      (rest.0, ap (λ (l : List V). v ∷ l) rest.1 ∙ ap (λ (f : V). f ∷ (us ++ rest.0)) (sym split.0), rest.2, rest.3)

-- what stands before an element, and that element, are no longer than the whole row
pub part_below : {V : Type 0} (spell : V → List ℕ) (items : List V) (i bound : ℕ) (v : V) → length (flat_map spell items) < bound → i < length items → v ≡ get_or items i v
    → length (flat_map spell (take i items)) + length (spell v) < bound
part_below spell items i bound v below within is =
    let part = length-flat_map-take spell items i v within in
    let here : length (spell v) ≡ length (spell (get_or items i v)) = ap (λ w. length (spell w)) is in
    omega arith

-- one more element of the row
pub row_more : {V : Type 0} (spell : V → List ℕ) (us : List V) (v : V) (bytes x y : List ℕ) → bytes ≡ flat_map spell us ++ x → x ≡ spell v ++ y
    → bytes ≡ flat_map spell (us ++ v ∷ []) ++ y
row_more spell us v bytes x y before here =
    before ∙ ap (λ (l : List ℕ). flat_map spell us ++ l) here ∙ sym (append_assoc (flat_map spell us) (spell v) y)
    ∙ ap (λ (l : List ℕ). l ++ y) (flat_map_more spell [] us v)

-- one more value is spelled behind those before it, and it is as good as they are
pub spelled_more : {V : Type 0} (Good : V → Type 0) (spell : V → List ℕ) (items : List V) (i : ℕ) (v : V) (start before after : List ℕ)
    → v ≡ get_or items i v → i < length items → All Good (take i items) → Good v
    → before ≡ start ++ flat_map spell (take i items) → after ≡ before ++ spell v
    → (after ≡ start ++ flat_map spell (take (i + 1) items)) × All Good (take (i + 1) items)
spelled_more Good spell items i v start before after is within all good was now =
    let more : take (i + 1) items ≡ take i items ++ v ∷ [] = take_more items i v within ∙ ap (λ x. take i items ++ x ∷ []) (sym is) in
    let grown : flat_map spell (take i items) ++ spell v ≡ flat_map spell (take (i + 1) items) =
    flat_map_more spell [] (take i items) v ∙ ap (flat_map spell) (sym more) in (
      now ∙ ap (λ b. b ++ spell v) was ∙ append_assoc start (flat_map spell (take i items)) (spell v) ∙ ap (λ b. start ++ b) grown,
      subst (All Good) (sym more) (All-push Good (take i items) v all good),
    )
