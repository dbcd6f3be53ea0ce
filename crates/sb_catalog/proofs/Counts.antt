-- How long spellings are.
use Rattle.std.proofs.Common.{◌≡◌, ℕ, suc, ◌+◌, ◌*◌, ◌≤◌, List, [], ◌∷◌, ◌++◌, length, get_or, All, ◌∙◌, length-append, arith}
use Rattle.std.specs.List.{flat_map, AllByRecursion}
use Rattle.std.proofs.lemmas.List.Elements.{recursion_from_All}
use Rattle.std.proofs.Math.Nat.{suc-mul, mul-le-mul_right}
use Rattle.sb_value.specs.declared.schema.Column.{Column}
use Rattle.sb_pred.specs.Spelling.{name_spelling}
use Rattle.sb_rule.specs.Rows.{Name}
use Rattle.sb_rule.specs.Spelling.{list_spelling, names_spelling, rule_spelling, IsShortName}
use Rattle.sb_catalog.specs.declared.descriptor.Attached.{Attached}
use Rattle.sb_catalog.specs.declared.descriptor.Descriptor.{Descriptor}
use Rattle.sb_catalog.specs.Descriptors.{short_spelling, instance_spelling, attached_instance, method_instance, column_spelling, columns_spelling, counted_spelling, attached_spelling, attachments_spelling, descriptor_spelling, IsShortAttached, IsShortDescriptor}
use Rattle.sb_catalog.proofs.Numbers.{length-short, length-instance}

-- a list of spellings of at most so many bytes
each_at_most : {X : Type 0} (spell : X → List ℕ) (bound : ℕ) (items : List X) → AllByRecursion (λ x. length (spell x) ≤ bound) items
    → length (flat_map spell items) ≤ length items * bound
each_at_most spell bound [] h = omega arith
each_at_most spell bound (x ∷ items) h =
    let others : length (flat_map spell items) ≤ length items * bound = each_at_most spell bound items h.1 in
    let here : length (spell x) ≤ bound = h.0 in
    let sum : suc (length items) * bound ≡ bound + length items * bound = suc-mul (length items) bound ∙ omega arith in
    omega (arith, length-append (spell x) (flat_map spell items), others, here, sum)

pub list_at_most : {X : Type 0} (spell : X → List ℕ) (bound : ℕ) (items : List X) → length items ≤ 255 → All (λ x. length (spell x) ≤ bound) items
    → length (list_spelling spell items) ≤ 1 + 255 * bound
list_at_most spell bound items short each =
    let bytes = each_at_most spell bound items (recursion_from_All (λ x. length (spell x) ≤ bound) items each) in
    let most : length items * bound ≤ 255 * bound = mul-le-mul_right bound short in
    omega (arith, bytes, most)

length-name : (name : Name) → length (name_spelling name) ≡ 1 + length name
length-name name = omega arith

pub length-column : (c : Column) → length (column_spelling c) ≡ length (name_spelling c.name) + 2
length-column c = length-append (name_spelling c.name) _

pub length-attached : (a : Attached) → length (attached_spelling a) ≡ 10 + length (name_spelling a.name) + length (rule_spelling a.rule)
length-attached a =
    let rule = length-append (short_spelling (length (rule_spelling a.rule))) (rule_spelling a.rule) in
    let behind = length-append (name_spelling a.name) (counted_spelling a.rule) in
    let whole = length-append (instance_spelling (attached_instance a)) (name_spelling a.name ++ counted_spelling a.rule) in
    omega (arith, rule, behind, whole, length-short (length (rule_spelling a.rule)), length-instance (attached_instance a))

pub length-descriptor : (d : Descriptor) → length (descriptor_spelling d) ≡ 8 + length (columns_spelling d.schema) + length (names_spelling d.key) + length (attachments_spelling d.attachments)
length-descriptor d =
    let last = length-append (names_spelling d.key) (attachments_spelling d.attachments) in
    let behind = length-append (columns_spelling d.schema) (names_spelling d.key ++ attachments_spelling d.attachments) in
    let whole = length-append (instance_spelling (method_instance d)) (columns_spelling d.schema ++ (names_spelling d.key ++ attachments_spelling d.attachments)) in
    omega (arith, last, behind, whole, length-instance (method_instance d))

short_column : (c : Column) → IsShortName c.name → length (column_spelling c) ≤ 258
short_column c h = omega (arith, length-column c, h)

short_attached : (a : Attached) → IsShortAttached a → length (attached_spelling a) ≤ 65801
short_attached a h = omega (arith, length-attached a, h.0, h.1.1)

-- what can be written has fewer than 2^25 bytes
pub short_descriptor : (d : Descriptor) → IsShortDescriptor d → length (descriptor_spelling d) ≤ 17000000
short_descriptor d h =
    let columns = list_at_most column_spelling 258 d.schema h.columns.0 (λ k c l. short_column (get_or d.schema k c) (h.columns.1 k c l)) in
    let key = list_at_most name_spelling 256 d.key h.key.0 (λ k n l. omega (arith, h.key.1 k n l)) in
    let attachments = list_at_most attached_spelling 65801 d.attachments h.attachments.0 (λ k a l. short_attached (get_or d.attachments k a) (h.attachments.1 k a l)) in
    omega (arith, columns, key, attachments, length-descriptor d)
