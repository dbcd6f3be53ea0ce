-- Laws of descriptors.
use Rattle.std.proofs.Common.{◌≡◌, ℕ, ◌+◌, List, [], ◌∷◌, ◌++◌, length, map, sum_by, refl, sym, ap, ◌∙◌, arith}
use Rattle.std.specs.List.{flat_map}
use Rattle.std.proofs.lemmas.List.Concat.{length-flat_map}
use Rattle.std.proofs.lemmas.List.Sums.{sum_by-cons}
use Rattle.sb_value.specs.declared.schema.Column.{Column}
use Rattle.sb_pred.specs.Spelling.{name_spelling}
use Rattle.sb_rule.specs.Rows.{Name}
use Rattle.sb_rule.specs.declared.rule.Rule.{Rule}
use Rattle.sb_rule.specs.Spelling.{names_spelling, rule_spelling}
use Rattle.sb_relation.specs.Db.{Relation}
use Rattle.sb_relation.specs.Db
use Rattle.sb_relation.specs.Limits.{descriptor_len}
use Rattle.sb_catalog.specs.declared.descriptor.Attached.{Attached}
use Rattle.sb_catalog.specs.declared.descriptor.Descriptor.{Descriptor}
use Rattle.sb_catalog.specs.Descriptors.{column_spelling, columns_spelling, attached_spelling, attachments_spelling, descriptor_spelling, described, standing, IsStorableDescriptor, IsDescriptorOf}
use Rattle.sb_catalog.proofs.Counts.{length-column, length-attached, length-descriptor}
use Rattle.sb_catalog.proofs.Parts.{descriptor_front}

pub one_descriptor : (d e : Descriptor) → IsStorableDescriptor d → IsStorableDescriptor e → descriptor_spelling d ≡ descriptor_spelling e → d ≡ e
one_descriptor d e f g same = (descriptor_front d e [] [] f g (ap (λ b. b ++ []) same)).0

-- ---- sums over lists
sum_same : {X : Type 0} (f g : X → ℕ) → ((x : X) → f x ≡ g x) → (xs : List X) → sum_by f xs ≡ sum_by g xs
sum_same f g same [] = refl
sum_same f g same (x ∷ xs) = sum_by-cons f x xs ∙ ap (λ n. n + sum_by f xs) (same x) ∙ ap (λ n. g x + n) (sum_same f g same xs) ∙ sym (sum_by-cons g x xs)

sum_mapped : {X Y : Type 0} (f : Y → ℕ) (h : X → Y) (xs : List X) → sum_by f (map h xs) ≡ sum_by (λ x. f (h x)) xs
sum_mapped f h [] = refl
sum_mapped f h (x ∷ xs) = sum_by-cons f (h x) (map h xs) ∙ ap (λ n. f (h x) + n) (sum_mapped f h xs) ∙ sym (sum_by-cons (λ x. f (h x)) x xs)

-- what an attachment takes, by its code, name and rule
abbrev described_len : ℕ × Name × Rule → ℕ
described_len (code, name, rule) = 10 + length (name_spelling name) + length (rule_spelling rule)

columns_len : (columns : List Column) → length (columns_spelling columns) ≡ 1 + sum_by (λ c. length (name_spelling c.name) + 2) columns
columns_len columns =
    let bytes : length (flat_map column_spelling columns) ≡ sum_by (λ c. length (name_spelling c.name) + 2) columns =
    length-flat_map column_spelling columns ∙ sum_same (λ c. length (column_spelling c)) (λ c. length (name_spelling c.name) + 2) length-column columns in
    omega (arith, bytes)

attachments_len : (attachments : List Attached) → length (attachments_spelling attachments) ≡ 1 + sum_by described_len (map described attachments)
attachments_len attachments =
    let bytes : length (flat_map attached_spelling attachments) ≡ sum_by described_len (map described attachments) =
    length-flat_map attached_spelling attachments
    ∙ sum_same (λ a. length (attached_spelling a)) (λ a. described_len (described a)) length-attached attachments
    ∙ sym (sum_mapped described_len described attachments) in
    omega (arith, bytes)

pub is_as_long : (r : Relation) (d : Descriptor) → IsDescriptorOf r d → length (descriptor_spelling d) ≡ descriptor_len r
is_as_long r d h =
    let columns : sum_by (λ (c : Column). length (name_spelling c.name) + 2) d.schema ≡ sum_by (λ (c : Column). length (name_spelling c.name) + 2) r.schema =
    ap (sum_by (λ (c : Column). length (name_spelling c.name) + 2)) h.schema in
    let key : length (names_spelling d.key) ≡ length (names_spelling r.key) = ap (λ k. length (names_spelling k)) h.key in
    let attachments : sum_by described_len (map described d.attachments) ≡ sum_by (λ (a : Db.Attached). described_len (standing a)) r.attachments =
    ap (sum_by described_len) h.attachments ∙ sum_mapped described_len standing r.attachments in
    omega (arith, length-descriptor d, columns_len d.schema, attachments_len d.attachments, columns, key, attachments)
