-- Attachments of a descriptor and of its relation, of which the first that passes a test has the same code, name and rule.
use Rattle.std.proofs.Common.{◌≡◌, ◌==◌, ℕ, Bool, true, false, cond, List, [], ◌∷◌, map, Some, option_map, bytes_eq, refl, sym, ap, ◌∙◌}
use Rattle.std.specs.List.{find}
use Rattle.sb_rule.specs.declared.rule.Rule.{Rule}
use Rattle.sb_rule.specs.Spelling.{rule_code}
use Rattle.sb_relation.specs.Db as db
use Rattle.sb_catalog.specs.declared.descriptor.Attached.{Attached}
use Rattle.sb_catalog.specs.Descriptors.{described, standing}
use Rattle.sb_plain.specs.Refusing.{ties_to}

find-map : {X Y Z : Type 0} (f : X → Z) (h : Z → Y) (p : Z → Bool) (xs : List X) → option_map (λ x. h (f x)) (find (λ x. p (f x)) xs) ≡ option_map h (find p (map f xs))
find-map f h p [] = refl
find-map f h p (x ∷ xs) = elim (p (f x)) as (λ t. option_map (λ x. h (f x)) (cond t (Some x) (find (λ x. p (f x)) xs)) ≡ option_map h (cond t (Some (f x)) (find p (map f xs)))) [
  | true ↦ refl
  | false ↦ find-map f h p xs
]

alike_by : {Y : Type 0} (h : ℕ × db.Name × Rule → Y) (p : ℕ × db.Name × Rule → Bool) (own : List Attached) (attached : List db.Attached) → map described own ≡ map standing attached
    → option_map (λ a. h (described a)) (find (λ a. p (described a)) own) ≡ option_map (λ a. h (standing a)) (find (λ a. p (standing a)) attached)
alike_by h p own attached e = find-map described h p own ∙ ap (λ xs. option_map h (find p xs)) e ∙ sym (find-map standing h p attached)

-- the rule of a name, the name of what ties to a relation, and the name of what has a code
pub rule_alike : (name : db.Name) (own : List Attached) (attached : List db.Attached) → map described own ≡ map standing attached
    → option_map (λ a. a.rule) (find (λ a. bytes_eq a.name name) own) ≡ option_map (λ a. a.rule) (find (λ a. bytes_eq a.name name) attached)
rule_alike name own attached e = alike_by (λ a. a.2) (λ a. bytes_eq a.1 name) own attached e

pub tie_alike : (relation : db.Name) (own : List Attached) (attached : List db.Attached) → map described own ≡ map standing attached
    → option_map (λ a. a.name) (find (λ a. ties_to relation a.rule) own) ≡ option_map (λ a. a.name) (find (λ a. ties_to relation a.rule) attached)
tie_alike relation own attached e = alike_by (λ a. a.1) (λ a. ties_to relation a.2) own attached e

pub code_alike : (code : ℕ) (own : List Attached) (attached : List db.Attached) → map described own ≡ map standing attached
    → option_map (λ a. a.name) (find (λ a. a.code == code) own) ≡ option_map (λ a. a.name) (find (λ a. rule_code a.rule == code) attached)
code_alike code own attached e = alike_by (λ a. a.1) (λ a. a.0 == code) own attached e
