-- What can't stand where a part of a descriptor is looked for, and parts that go on to one row of bytes.
use Rattle.std.proofs.Common.{◌≡◌, ℕ, ◌+◌, ◌≤◌, ◌<◌, List, [], ◌++◌, length, take, drop, refl, sym, ap, ◌∙◌, append_assoc, length-append, arith, subst, inl, inr}
use Rattle.std.proofs.lemmas.List.{append-nil, take-append-drop, length-take-le}
use Rattle.std.proofs.lemmas.Bool.{cases_lt}
use Rattle.sb_value.specs.declared.schema.Kind.{Kind}
use Rattle.sb_value.specs.declared.schema.Kind.TheVariants.{Int, Text}
use Rattle.sb_value.specs.declared.schema.Column.{Column}
use Rattle.sb_pred.specs.Spelling.{name_spelling, IsStorableName}
use Rattle.sb_pred.proofs.Fronts.{one_length}
use Rattle.sb_rule.specs.Rows.{Name}
use Rattle.sb_rule.specs.declared.rule.Rule.{Rule}
use Rattle.sb_rule.specs.declared.rule.Rule.TheVariants.{TreeIndex, HashIndex, JoinIndex, Stats, Check, Refers, Trigger, Foreign}
use Rattle.sb_rule.specs.Spelling.{names_spelling, rule_code, rule_spelling, IsShortList, SpellsRule}
use Rattle.sb_rule.proofs.Fronts.{NoneBegins, NoneStands, both, AreBoth, both_front, found_both, no_first, no_second, list_front, name_front, names_front}
use Rattle.sb_rule.proofs.Laws.{alone, stands}
use Rattle.sb_catalog.specs.declared.descriptor.Attached.{Attached}
use Rattle.sb_catalog.specs.declared.descriptor.Descriptor.{Descriptor}
use Rattle.sb_catalog.specs.Descriptors.{short_spelling, Instance, instance_spelling, attached_instance, method_instance, kind_byte, column_spelling, columns_spelling, counted_spelling, attached_spelling, attachments_spelling, descriptor_spelling, IsInstance, IsStorableColumn, IsCountedRule, IsStorableAttached, IsStorableDescriptor}
use Rattle.sb_catalog.specs.Reading.{IsShortNumber, IsType, type_spelling}
use Rattle.sb_catalog.proofs.Numbers.{short_front, instance_front}

-- ---- columns
kind_same : (a b : Kind) → kind_byte a ≡ kind_byte b → a ≡ b
kind_same Int Int e = refl
kind_same Text Text e = refl
kind_same _ _ e = absurd (omega (arith, e))

type_front : NoneBegins IsType type_spelling
type_front (k, m) (l, n) x y f g e =
    let kind = kind_same k l (cc) in
    let limit : m ≡ n = cc in
    (λ i. (kind i, limit i), cc)

pub no_type : (bytes behind : List ℕ) (name : Name) → IsStorableName name → bytes ≡ name_spelling name ++ behind
    → NoneStands IsType type_spelling behind → NoneStands IsStorableColumn column_spelling bytes
no_type bytes behind name f e none c rest fits k =
    no_second IsStorableName name_spelling IsType type_spelling name_front bytes behind name f e none (c.name, (c.kind, c.limit)) rest fits k

pub column_front : NoneBegins IsStorableColumn column_spelling
column_front c d x y f g e =
    let same = both_front IsStorableName name_spelling IsType type_spelling name_front type_front (c.name, (c.kind, c.limit)) (d.name, (d.kind, d.limit)) x y f g e in
    (λ i. record { name = (same.0 i).0; kind = (same.0 i).1.0; limit = (same.0 i).1.1 }, same.1)

pub columns_front : NoneBegins (IsShortList IsStorableColumn) columns_spelling
columns_front = list_front IsStorableColumn column_spelling column_front

-- ---- rules behind the number of their bytes
-- a rule of a code from 1,000 on is its bytes
foreign : (code : ℕ) (rule : Rule) → 1000 ≤ code → code ≡ rule_code rule → rule ≡ Foreign code (rule_spelling rule)
foreign code (Foreign c desc) high e = λ i. Foreign (sym e i) desc
foreign code (TreeIndex columns unique) high e = absurd (omega (arith, e))
foreign code (HashIndex columns) high e = absurd (omega (arith, e))
foreign code (JoinIndex side columns other others) high e = absurd (omega (arith, e))
foreign code (Stats column low width) high e = absurd (omega (arith, e))
foreign code (Check pred deferred) high e = absurd (omega (arith, e))
foreign code (Refers side columns other others mode deferred) high e = absurd (omega (arith, e))
foreign code (Trigger event pred action deferred) high e = absurd (omega (arith, e))

-- two rules of a code with one spelling are one
pub one_rule : (code : ℕ) (bytes : List ℕ) (rule other : Rule) → SpellsRule code bytes rule → SpellsRule code bytes other → rule ≡ other
one_rule code bytes rule other s t = elim (cases_lt code 1000) [
  | inl low ↦ (alone code bytes [] rule other low (s.coded, s.storable, s.limited) (stands code bytes rule s) t).0
  | inr high ↦ foreign code rule high s.coded ∙ ap (Foreign code) (sym s.spelled ∙ t.spelled) ∙ sym (foreign code other high t.coded)
]

spells_itself : (code : ℕ) (rule : Rule) → IsCountedRule code rule → SpellsRule code (rule_spelling rule) rule
spells_itself code rule f = record { coded = f.coded; spelled = refl; storable = f.storable; limited = f.limited }

counted_front : (code : ℕ) → NoneBegins (IsCountedRule code) counted_spelling
counted_front code r s x y f g e =
    let first = short_front (length (rule_spelling r)) (length (rule_spelling s)) (rule_spelling r ++ x) (rule_spelling s ++ y) (omega (arith, f.counted)) (omega (arith, g.counted))
    (sym (append_assoc (short_spelling (length (rule_spelling r))) (rule_spelling r) x) ∙ e ∙ append_assoc (short_spelling (length (rule_spelling s))) (rule_spelling s) y) in
    let second = one_length (rule_spelling r) (rule_spelling s) x y first.0 first.1 in
    let t : SpellsRule code (rule_spelling r) s = record { coded = g.coded; spelled = second.0; storable = g.storable; limited = g.limited } in
    (one_rule code (rule_spelling r) r s (spells_itself code r f) t, second.1)

-- a rule that stands behind the number of its bytes, where that number and what follows it were found
pub counted_behind : (code len : ℕ) (bytes behind rest : List ℕ) (rule : Rule) → IsShortNumber len → bytes ≡ short_spelling len ++ behind
    → IsCountedRule code rule → bytes ≡ counted_spelling rule ++ rest → (len ≡ length (rule_spelling rule)) × (behind ≡ rule_spelling rule ++ rest)
counted_behind code len bytes behind rest rule f e g k =
    short_front len (length (rule_spelling rule)) behind (rule_spelling rule ++ rest) f (omega (arith, g.counted))
    (sym e ∙ k ∙ append_assoc (short_spelling (length (rule_spelling rule))) (rule_spelling rule) rest)

pub too_few : (code len : ℕ) (bytes behind : List ℕ) → IsShortNumber len → bytes ≡ short_spelling len ++ behind → length behind < len
    → NoneStands (IsCountedRule code) counted_spelling bytes
too_few code len bytes behind f e few rule rest g k =
    let stands = counted_behind code len bytes behind rest rule f e g k in
    let long = ap (length {A = ℕ}) stands.1 ∙ length-append (rule_spelling rule) rest in
    omega (arith, stands.0, long)

-- so many bytes from the front on that spell no rule of the code
pub no_rule : (code len : ℕ) (bytes behind : List ℕ) → IsShortNumber len → bytes ≡ short_spelling len ++ behind → len ≤ length behind
    → ((rule : Rule) → SpellsRule code (take len behind) rule → ⊥) → NoneStands (IsCountedRule code) counted_spelling bytes
no_rule code len bytes behind f e within none rule rest g k =
    let stands = counted_behind code len bytes behind rest rule f e g k in
    let parts : take len behind ++ drop len behind ≡ rule_spelling rule ++ rest = take-append-drop len behind ∙ stands.1 in
    let same = one_length (take len behind) (rule_spelling rule) (drop len behind) rest (length-take-le len behind within ∙ stands.0) parts in
    none rule (record { coded = g.coded; spelled = same.0; storable = g.storable; limited = g.limited })

-- ---- attachments
abbrev named_parts : Name × Rule → List ℕ
named_parts (name, rule) = name_spelling name ++ counted_spelling rule

pub no_instance : (bytes : List ℕ) → NoneStands IsInstance instance_spelling bytes → NoneStands IsStorableAttached attached_spelling bytes
no_instance bytes none a rest f e =
    none (attached_instance a) (named_parts (a.name, a.rule) ++ rest) f.0 (e ∙ append_assoc (instance_spelling (attached_instance a)) (named_parts (a.name, a.rule)) rest)

-- what stands behind the instance of an attachment
behind_instance : (bytes behind rest : List ℕ) (i : Instance) (a : Attached) → IsInstance i → bytes ≡ instance_spelling i ++ behind → IsInstance (attached_instance a)
    → bytes ≡ attached_spelling a ++ rest → (i ≡ attached_instance a) × (behind ≡ name_spelling a.name ++ (counted_spelling a.rule ++ rest))
behind_instance bytes behind rest i a f e g k =
    let same = instance_front i (attached_instance a) behind (named_parts (a.name, a.rule) ++ rest) f g
    (sym e ∙ k ∙ append_assoc (instance_spelling (attached_instance a)) (named_parts (a.name, a.rule)) rest) in
    (same.0, same.1 ∙ append_assoc (name_spelling a.name) (counted_spelling a.rule) rest)

pub no_name : (bytes behind : List ℕ) (i : Instance) → IsInstance i → bytes ≡ instance_spelling i ++ behind
    → NoneStands IsStorableName name_spelling behind → NoneStands IsStorableAttached attached_spelling bytes
no_name bytes behind i f e none a rest g k =
    let next = behind_instance bytes behind rest i a f e g.0 k in
    none a.name (counted_spelling a.rule ++ rest) g.1 next.1

pub no_rule_behind : (bytes behind next : List ℕ) (i : Instance) (name : Name) → IsInstance i → bytes ≡ instance_spelling i ++ behind
    → IsStorableName name → behind ≡ name_spelling name ++ next
    → NoneStands (IsCountedRule i.0) counted_spelling next → NoneStands IsStorableAttached attached_spelling bytes
no_rule_behind bytes behind next i name f e h j none a rest g k =
    let first = behind_instance bytes behind rest i a f e g.0 k in
    let second = name_front name a.name next (counted_spelling a.rule ++ rest) h g.1 (sym j ∙ first.1) in
    let code : i.0 ≡ a.code = ap (λ (i : Instance). i.0) first.0 in
    none a.rule rest (subst (λ n. IsCountedRule n a.rule) (sym code) g.2) second.1

pub attached_front : NoneBegins IsStorableAttached attached_spelling
attached_front a b x y f g e =
    let bytes = attached_spelling a ++ x in
    let start : bytes ≡ instance_spelling (attached_instance a) ++ (named_parts (a.name, a.rule) ++ x) = append_assoc (instance_spelling (attached_instance a)) (named_parts (a.name, a.rule)) x in
    let first = behind_instance bytes (named_parts (a.name, a.rule) ++ x) y (attached_instance a) b f.0 start g.0 e in
    let second = name_front a.name b.name (counted_spelling a.rule ++ x) (counted_spelling b.rule ++ y) f.1 g.1 (sym (append_assoc (name_spelling a.name) (counted_spelling a.rule) x) ∙ first.1) in
    let code : a.code ≡ b.code = ap (λ (i : Instance). i.0) first.0 in
    let third = counted_front a.code a.rule b.rule x y f.2 (subst (λ n. IsCountedRule n b.rule) (sym code) g.2) second.1 in
    (λ i. record { code = (first.0 i).0; owner = (first.0 i).1; root = (first.0 i).2; name = second.0 i; rule = third.0 i }, third.1)

pub attachments_front : NoneBegins (IsShortList IsStorableAttached) attachments_spelling
attachments_front = list_front IsStorableAttached attached_spelling attached_front

-- ---- descriptors
abbrev Columns : Type 0
Columns = List Column

abbrev last_parts : List Name × List Attached → List ℕ
last_parts = both (IsShortList IsStorableName) names_spelling (IsShortList IsStorableAttached) attachments_spelling

abbrev AreLast : List Name × List Attached → Type 0
AreLast = AreBoth (IsShortList IsStorableName) names_spelling (IsShortList IsStorableAttached) attachments_spelling

abbrev columns_parts : Columns × (List Name × List Attached) → List ℕ
columns_parts = both (IsShortList IsStorableColumn) columns_spelling AreLast last_parts

abbrev AreColumns : Columns × (List Name × List Attached) → Type 0
AreColumns = AreBoth (IsShortList IsStorableColumn) columns_spelling AreLast last_parts

-- a descriptor by its parts
abbrev Parts : Type 0
Parts = Instance × (Columns × (List Name × List Attached))

abbrev parts_of : Descriptor → Parts
parts_of d = (method_instance d, (d.schema, (d.key, d.attachments)))

abbrev all_parts : Parts → List ℕ
all_parts = both IsInstance instance_spelling AreColumns columns_parts

abbrev AreParts : Parts → Type 0
AreParts = AreBoth IsInstance instance_spelling AreColumns columns_parts

are_parts : (d : Descriptor) → IsStorableDescriptor d → AreParts (parts_of d)
are_parts d f = (f.instance, (f.columns, (f.key, f.attachments)))

no_parts : (bytes : List ℕ) → NoneStands AreParts all_parts bytes → NoneStands IsStorableDescriptor descriptor_spelling bytes
no_parts bytes none d rest f e = none (parts_of d) rest (are_parts d f) e

pub no_method : (bytes : List ℕ) → NoneStands IsInstance instance_spelling bytes → NoneStands IsStorableDescriptor descriptor_spelling bytes
no_method bytes none = no_parts bytes (no_first IsInstance instance_spelling AreColumns columns_parts bytes none)

pub no_columns : (bytes behind : List ℕ) (i : Instance) → IsInstance i → bytes ≡ instance_spelling i ++ behind
    → NoneStands (IsShortList IsStorableColumn) columns_spelling behind → NoneStands IsStorableDescriptor descriptor_spelling bytes
no_columns bytes behind i f e none =
    no_parts bytes (
    no_second IsInstance instance_spelling AreColumns columns_parts instance_front bytes behind i f e
    (no_first (IsShortList IsStorableColumn) columns_spelling AreLast last_parts behind none)
    )

pub no_key : (bytes behind next : List ℕ) (i : Instance) (columns : Columns) → IsInstance i → bytes ≡ instance_spelling i ++ behind
    → IsShortList IsStorableColumn columns → behind ≡ columns_spelling columns ++ next
    → NoneStands (IsShortList IsStorableName) names_spelling next → NoneStands IsStorableDescriptor descriptor_spelling bytes
no_key bytes behind next i columns f e g h none =
    no_parts bytes (
    no_second IsInstance instance_spelling AreColumns columns_parts instance_front bytes behind i f e
    (
    no_second (IsShortList IsStorableColumn) columns_spelling AreLast last_parts columns_front behind next columns g h
    (no_first (IsShortList IsStorableName) names_spelling (IsShortList IsStorableAttached) attachments_spelling next none)
    )
    )

pub no_attachments : (bytes behind next last : List ℕ) (i : Instance) (columns : Columns) (key : List Name) → IsInstance i → bytes ≡ instance_spelling i ++ behind
    → IsShortList IsStorableColumn columns → behind ≡ columns_spelling columns ++ next → IsShortList IsStorableName key → next ≡ names_spelling key ++ last
    → NoneStands (IsShortList IsStorableAttached) attachments_spelling last → NoneStands IsStorableDescriptor descriptor_spelling bytes
no_attachments bytes behind next last i columns key f e g h j k none =
    no_parts bytes (
    no_second IsInstance instance_spelling AreColumns columns_parts instance_front bytes behind i f e
    (
    no_second (IsShortList IsStorableColumn) columns_spelling AreLast last_parts columns_front behind next columns g h
    (no_second (IsShortList IsStorableName) names_spelling (IsShortList IsStorableAttached) attachments_spelling names_front next last key j k none)
    )
    )

pub descriptor_found : (bytes behind next last rest : List ℕ) (d : Descriptor) → bytes ≡ instance_spelling (method_instance d) ++ behind → behind ≡ columns_spelling d.schema ++ next
    → next ≡ names_spelling d.key ++ last → last ≡ attachments_spelling d.attachments ++ rest → bytes ≡ descriptor_spelling d ++ rest
descriptor_found bytes behind next last rest d e f g h =
    found_both IsInstance instance_spelling AreColumns columns_parts bytes behind rest (method_instance d) (d.schema, (d.key, d.attachments)) e
    (found_both (IsShortList IsStorableColumn) columns_spelling AreLast last_parts behind next rest d.schema (d.key, d.attachments) f
    (found_both (IsShortList IsStorableName) names_spelling (IsShortList IsStorableAttached) attachments_spelling next last rest d.key d.attachments g h))

pub descriptor_front : NoneBegins IsStorableDescriptor descriptor_spelling
descriptor_front d q x y f g e =
    let same = both_front IsInstance instance_spelling AreColumns columns_parts instance_front
    (both_front (IsShortList IsStorableColumn) columns_spelling AreLast last_parts columns_front
    (both_front (IsShortList IsStorableName) names_spelling (IsShortList IsStorableAttached) attachments_spelling names_front attachments_front))
    (parts_of d) (parts_of q) x y (are_parts d f) (are_parts q g) e in (
      λ i. record {
        method = (same.0 i).0.0;
        owner = (same.0 i).0.1;
        root = (same.0 i).0.2;
        schema = (same.0 i).1.0;
        key = (same.0 i).1.1.0;
        attachments = (same.0 i).1.1.1;
      },
      same.1,
    )

-- where a descriptor stands at the front, one that all of the bytes spell is that one, and nothing follows it
pub only_one : (bytes behind : List ℕ) (found d : Descriptor) → IsStorableDescriptor found → bytes ≡ descriptor_spelling found ++ behind
    → IsStorableDescriptor d → bytes ≡ descriptor_spelling d → (found ≡ d) × (behind ≡ [])
only_one bytes behind found d f e g k = descriptor_front found d behind [] f g (sym e ∙ k ∙ sym (append-nil (descriptor_spelling d)))
