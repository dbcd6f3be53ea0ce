-- What is found among live and spare boxes.
use Rattle.std.proofs.Common.{◌≡◌, ℕ, ◌==◌, ◌||◌, Bool, true, false, cond, List, [], ◌∷◌, ◌++◌, map, Some, is_some, option_map, refl}
use Rattle.std.specs.List.{find, list_any}
use Rattle.std.specs.Option.{option_or}
use Rattle.sb_relation.specs.Foreign.{method_rules, attach_rules}
use Rattle.sb_registry.specs.Method.{Method}
use Rattle.sb_registry.specs.Attachment.{Attachment}
use Rattle.sb_registry.specs.Boxes.{Meanings, method_of, attachment_of}
use Rattle.sb_vectors.specs.Vectors.{has_box, codes_in}

-- ---- the rules of a code
rules_of_method : (code : ℕ) (methods : List Method) → method_rules code (map (λ x. x.rules) methods) ≡ option_map (λ x. x.rules) (method_of code methods)
rules_of_method code [] = refl
rules_of_method code (m ∷ methods) =
    elim (m.rules.code == code)
    as (λ t. cond t (Some m.rules) (method_rules code (map (λ x. x.rules) methods)) ≡ option_map (λ x. x.rules) (cond t (Some m) (method_of code methods)))
    [ true ↦ refl | false ↦ rules_of_method code methods ]

pub method_in_two : (code : ℕ) (live spare : List Method)
    → method_rules code (map (λ x. x.rules) (live ++ spare))
    ≡ option_or (option_map (λ x. x.rules) (method_of code live)) (option_map (λ x. x.rules) (method_of code spare))
method_in_two code [] spare = rules_of_method code spare
method_in_two code (m ∷ live) spare =
    elim (m.rules.code == code)
    as (λ t. cond t (Some m.rules) (method_rules code (map (λ x. x.rules) (live ++ spare)))
    ≡ option_or (option_map (λ x. x.rules) (cond t (Some m) (method_of code live))) (option_map (λ x. x.rules) (method_of code spare)))
    [ true ↦ refl | false ↦ method_in_two code live spare ]

rules_of_attachment : (code : ℕ) (others : List Attachment) → attach_rules code (map (λ x. x.rules) others) ≡ option_map (λ x. x.rules) (attachment_of code others)
rules_of_attachment code [] = refl
rules_of_attachment code (a ∷ others) =
    elim (a.rules.code == code)
    as (λ t. cond t (Some a.rules) (attach_rules code (map (λ x. x.rules) others)) ≡ option_map (λ x. x.rules) (cond t (Some a) (attachment_of code others)))
    [ true ↦ refl | false ↦ rules_of_attachment code others ]

pub rule_in_two : (code : ℕ) (live spare : List Attachment)
    → attach_rules code (map (λ x. x.rules) (live ++ spare))
    ≡ option_or (option_map (λ x. x.rules) (attachment_of code live)) (option_map (λ x. x.rules) (attachment_of code spare))
rule_in_two code [] spare = rules_of_attachment code spare
rule_in_two code (a ∷ live) spare =
    elim (a.rules.code == code)
    as (λ t. cond t (Some a.rules) (attach_rules code (map (λ x. x.rules) (live ++ spare)))
    ≡ option_or (option_map (λ x. x.rules) (cond t (Some a) (attachment_of code live))) (option_map (λ x. x.rules) (attachment_of code spare)))
    [ true ↦ refl | false ↦ rule_in_two code live spare ]

-- ---- the codes that there are
found_any : {M : Type 0} (code_in : M → ℕ) (code : ℕ) (boxes : List M) → is_some (find (λ m. code_in m == code) boxes) ≡ list_any (λ c. c == code) (map code_in boxes)
found_any code_in code [] = refl
found_any code_in code (m ∷ boxes) =
    elim (code_in m == code)
    as (λ t. is_some (cond t (Some m) (find (λ x. code_in x == code) boxes)) ≡ (t || list_any (λ c. c == code) (map code_in boxes)))
    [ true ↦ refl | false ↦ found_any code_in code boxes ]

pub has_box-codes : (m : Meanings) (live method : Bool) (code : ℕ) → has_box m live method code ≡ list_any (λ c. c == code) (codes_in m live method)
has_box-codes m true true code = found_any (λ (x : Method). x.rules.code) code m.methods
has_box-codes m true false code = found_any (λ (x : Attachment). x.rules.code) code m.attachments
has_box-codes m false true code = found_any (λ (x : Method). x.rules.code) code m.spare_methods
has_box-codes m false false code = found_any (λ (x : Attachment). x.rules.code) code m.spare_attachments
