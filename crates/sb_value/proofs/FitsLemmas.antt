-- The walks over columns and values, step by step.
use Rattle.std.proofs.Common.{◌≡◌, refl, ap, ◌∙◌, ℕ, suc, ◌+◌, ◌<◌, zero-add, arith, Bool, true, false, cond, List, [], ◌∷◌, length, drop, Option, Some, None, option_map}
use Rattle.std.proofs.Math.ListN.{drop_of_length-le, length-drop}
use Rattle.sb_value.specs.declared.value.Value.{Value}
use Rattle.sb_value.specs.declared.schema.Column.{Column}
use Rattle.sb_value.specs.Fits.{first_misfit, is_short_enough}

-- the misfits up to a place are settled: the first one is the first in what is left
abbrev pub FitsFrom : List Column → List Value → ℕ → Type 0
FitsFrom cs vs i = first_misfit cs vs ≡ option_map (λ n. n + i) (first_misfit (drop i cs) (drop i vs))

-- the texts up to a place are short enough
abbrev pub ShortFrom : List Column → List Value → ℕ → Type 0
ShortFrom cs vs i = is_short_enough cs vs ≡ is_short_enough (drop i cs) (drop i vs)

-- no misfit, by the first value and by those behind it
pub misfit_parts : (b : Bool) (rest : Option ℕ) → cond b (option_map suc rest) (Some 0) ≡ None → (b ≡ true) × (rest ≡ None)
misfit_parts true None is = (refl, refl)
misfit_parts true (Some n) is = absurd (cc)
misfit_parts false rest is = absurd (cc)

pub misfit_none : (b : Bool) (rest : Option ℕ) → b ≡ true → rest ≡ None → cond b (option_map suc rest) (Some 0) ≡ None
misfit_none b rest first behind = ap (λ (t : Bool). cond t (option_map suc rest) (Some 0)) first ∙ ap (option_map suc) behind

misfit_of_extra : (vs : List Value) → 0 < length vs → first_misfit [] vs ≡ Some 0
misfit_of_extra [] h = absurd (omega arith)
misfit_of_extra (v ∷ vs) h = refl

-- the values go on where the columns have ended
pub misfit_of_extra_at : (cs : List Column) (vs : List Value) (i : ℕ) → FitsFrom cs vs i → i ≡ length cs → length cs < length vs → first_misfit cs vs ≡ Some (length cs)
misfit_of_extra_at cs vs i h e lt =
    let ended : drop i cs ≡ [] = drop_of_length-le cs (omega arith) in
    let left : 0 < length (drop i vs) = simp length-drop (omega arith) in
    let here : first_misfit (drop i cs) (drop i vs) ≡ Some 0 = rw ended (misfit_of_extra (drop i vs) left) in
    h ∙ ap (option_map (λ n. n + i)) here ∙ ap Some (zero-add i ∙ e)
