-- Joined items.
use Rattle.std.proofs.Common.{◌≡◌, ℕ, List, [], ◌∷◌, ◌++◌, sym, ◌∙◌, ap, append_assoc, Result, Ok, Err, OnOk}
use Rattle.std.specs.Prelude.{map}
use Rattle.std.specs.List.{flat_map}
use Rattle.std.proofs.lemmas.List.{append-nil}
use Rattle.sb_plain.specs.Values.{joined}

-- a first item, and the others, each behind what stands between them
pub joined_more : {A : Type 0} (between : List ℕ) (text : A → List ℕ) (x : A) (xs : List A) →
    joined between (map text (x ∷ xs)) ≡ text x ++ flat_map (λ y. between ++ text y) xs
joined_more between text x [] = sym (append-nil (text x))
joined_more between text x (y ∷ ys) =
    append_assoc (text x) between (joined between (map text (y ∷ ys))) ∙ ap (λ s. text x ++ (between ++ s)) (joined_more between text y ys) ∙ ap (λ s. text x ++ s) (sym (append_assoc between (text y) (flat_map (λ z. between ++ text z) ys)))

pub joined_whole : {A E : Type 0} (r : Result (Unit {0}) E) (old mid new between : List ℕ) (text : A → List ℕ) (items others : List A) (first : A) →
    items ≡ first ∷ others → mid ≡ old ++ text first → OnOk r (new ≡ mid ++ flat_map (λ y. between ++ text y) others) → OnOk r (new ≡ old ++ joined between (map text items))
joined_whole (Ok x) old mid new between text items others first e f h =
    let rest = flat_map (λ y. between ++ text y) others in
    h ∙ ap (λ s. s ++ rest) f ∙ append_assoc old (text first) rest
    ∙ ap (λ s. old ++ s) (sym (joined_more between text first others)) ∙ ap (λ xs. old ++ joined between (map text xs)) (sym e)
joined_whole (Err x) old mid new between text items others first e f h = tt
