-- Relations that outlive the run.
use Rattle.std.proofs.Common.{◌≡◌, ℕ, ◌==◌, nat_lt, Bool, true, false, cond, not, List, [], ◌∷◌, ◌++◌, map, Some, refl, sym, ap, subst, ◌∙◌, eqb-true}
use Rattle.std.proofs.lemmas.Option.{same_Some}
use Rattle.sb_relation.specs.Foreign.{MethodRules, method_rules}
use Rattle.sb_relation.specs.Keys.{Counted, keying_of}
use Rattle.sb_fold.specs.Extensions.{Extensions, is_durable_method, says_durable}
use Rattle.sb_ctx.specs.Method.{Method}
use Rattle.sb_registry.specs.Boxes.{Meanings, method_of}
use Rattle.sb_standing.specs.Tables.{Kept, KeepsTable}
use Rattle.sb_weights.specs.Rooms.{extensions_of}
use Rattle.sb_weights.specs.Weights.{LastingAreMeant}

-- the first live box of a code is the first of all boxes
first_box : (code : ℕ) (live spare : List Method) (box : Method) → method_of code live ≡ Some box
    → method_rules code (map (λ x. x.rules) (live ++ spare)) ≡ Some box.rules
first_box code [] spare box is = absurd (cc)
first_box code (x ∷ live) spare box is = by (x.rules.code == code) is (first_box code live spare box)
  where
    rest : List MethodRules
    rest = map (λ y. y.rules) (live ++ spare)

    by : (b : Bool) → cond b (Some x) (method_of code live) ≡ Some box → (method_of code live ≡ Some box → method_rules code rest ≡ Some box.rules)
        → cond b (Some x.rules) (method_rules code rest) ≡ Some box.rules
    by true is later = ap (λ (m : Method). Some m.rules) (same_Some x box is)
    by false is later = later is

-- a code that isn't temp's
no_temp : (method : ℕ) → (keying_of method ≡ Counted → ⊥) → not (method == 3) ≡ true
no_temp method lasting = by (method == 3) refl
  where
    by : (b : Bool) → method == 3 ≡ b → not b ≡ true
    by true is = absurd (lasting (ap keying_of (eqb-true method 3 is)))
    by false is = refl

-- a relation of a live storage method outlives the run where that says so and doesn't count its keys
pub outlives : (m : Meanings) (method : ℕ) (box : Method) → method_of method m.methods ≡ Some box → box.rules.durable ≡ true
    → (keying_of method ≡ Counted → ⊥) → is_durable_method (extensions_of m) method ≡ true
outlives m method box live durable lasting = by (nat_lt method 1000)
  where
    ext : Extensions
    ext = extensions_of m

    says : says_durable (method_rules method ext.boxes.methods) ≡ true
    says = ap says_durable (first_box method m.methods m.spare_methods box live) ∙ durable

    by : (b : Bool) → cond b (not (method == 3)) (says_durable (method_rules method ext.boxes.methods)) ≡ true
    by true = no_temp method lasting
    by false = says

pub lasting-are-meant : LastingAreMeant
lasting-are-meant m durable root s kept outlive lasting tables = λ i d below. one _ (lasting i d below) (tables.each i d below)
  where
    one : (k : Kept) → (keying_of k.descriptor.method ≡ Counted → ⊥) → KeepsTable m durable s k
        → is_durable_method (extensions_of m) k.relation.method ≡ true
    one k lasts keeps =
        subst (λ n. is_durable_method (extensions_of m) n ≡ true) keeps.is.method
        (outlives m k.descriptor.method keeps.rows.live.box keeps.rows.live.live (sym keeps.rows.live.may.durable ∙ outlive k.descriptor.method) lasts)
