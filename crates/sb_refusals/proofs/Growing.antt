-- How large descriptors are with an attachment and its mirror.
use Rattle.std.proofs.Common.{◌≡◌, ℕ, ◌+◌, ◌<◌, min, nat_lt, nat_le, Bool, true, false, cond, ◌||◌, List, [], ◌∷◌, length, sum_by, Option, Some, None, bytes_eq, refl, sym, ap, subst, ◌∙◌, add-zero, arith}
use Rattle.std.specs.Cmp.Lexicographic.{nat_list_eq_equiv}
use Rattle.std.specs.FinMap.Entries.{find-put}
use Rattle.std.proofs.lemmas.Bool.Decides.{nat_tests}
use Rattle.std.proofs.lemmas.Cmp.{nat_list_cmp_total}
use Rattle.std.proofs.lemmas.List.Sums.{sum_by-cons}
use Rattle.std.proofs.lemmas.Map.Text.{is_eq-slice_cmp}
use Rattle.sb_value.specs.Equal.{bytes_same}
use Rattle.sb_value.specs.Order.{bytes_cmp}
use Rattle.sb_pred.specs.Spelling.{name_spelling}
use Rattle.sb_rule.specs.declared.rule.Mode.{Mode}
use Rattle.sb_rule.specs.declared.rule.Side.{Side}
use Rattle.sb_rule.specs.declared.rule.Side.TheVariants.{Main, Mirror}
use Rattle.sb_rule.specs.declared.rule.Rule.{Rule}
use Rattle.sb_rule.specs.declared.rule.Rule.TheVariants.{TreeIndex, HashIndex, JoinIndex, Stats, Check, Refers, Trigger, Foreign}
use Rattle.sb_rule.specs.Spelling.{rule_code, rule_spelling}
use Rattle.sb_relation.specs.Buckets.{standing_buckets}
use Rattle.sb_relation.specs.Build.{mirror_name, with_instance, with_attached, with_rule}
use Rattle.sb_relation.specs.Db.{Name, Attached, Relation, Db, relation_at, with_relation}
use Rattle.sb_relation.specs.Limits.{descriptor_len, is_large_at, has_large_descriptor}
use Rattle.sb_refusals.specs.Lengths.{attached_len, mirror_len, is_over}

abbrev len_of : Attached → ℕ
len_of a = 10 + length (name_spelling a.name) + length (rule_spelling a.rule)

-- one attachment more, at its place
sum_more : (new : Attached) (xs : List Attached) → sum_by len_of (with_instance new xs) ≡ len_of new + sum_by len_of xs
sum_more new [] = sum_by-cons len_of new []
sum_more new (a ∷ xs) = by (nat_le (rule_code a.rule) (rule_code new.rule)) (sum_more new xs)
  where
    by : (t : Bool) → sum_by len_of (with_instance new xs) ≡ len_of new + sum_by len_of xs
        → sum_by len_of (cond t (a ∷ with_instance new xs) (new ∷ a ∷ xs)) ≡ len_of new + sum_by len_of (a ∷ xs)
    by true more = omega (arith, sum_by-cons len_of a (with_instance new xs), sum_by-cons len_of a xs, more)
    by false more = sum_by-cons len_of new (a ∷ xs)

-- ---- relations by their names
found_put : (db : Db) (name x : Name) (r : Relation) → relation_at (with_relation db name r) x ≡ cond (bytes_eq x name) (Some r) (relation_at db x)
found_put db name x r = find-put bytes_cmp nat_list_cmp_total x name r db ∙ ap (λ (b : Bool). cond b (Some r) (relation_at db x)) (is_eq-slice_cmp x name)

same_name : (x y : Name) → bytes_eq x y ≡ true → x ≡ y
same_name x y e = (bytes_same x y).0 e

itself : (x : Name) → bytes_eq x x ≡ true
itself x = (bytes_same x x).1 refl

-- so many bytes more of a relation with one attachment more
grown : (r : Relation) (new : Attached) (n : ℕ)
    → nat_lt 1900 (descriptor_len (record r { attachments = with_instance new r.attachments }) + n) ≡ nat_lt 1900 (descriptor_len r + (len_of new + n))
grown r new n = ap (nat_lt 1900) (omega (arith, sum_more new r.attachments))

-- the database with an attachment more of a relation that may be there
abbrev placed : Db → Name → Name → Rule → Option Relation → Db
placed db name label rule o = elim o [
  | None ↦ db
  | Some r ↦ with_relation db name (record r { attachments = with_instance (record { name = label; rule = rule; buckets = standing_buckets rule r.rows }) r.attachments })
]

over_placed : (db : Db) (name label x : Name) (rule : Rule) (n : ℕ) (o : Option Relation) (t : Bool) → relation_at db name ≡ o → bytes_eq x name ≡ t
    → is_over (relation_at (placed db name label rule o) x) n ≡ is_over (relation_at db x) (cond t (attached_len label rule + n) n)
over_placed db name label x rule n None true is same =
    let here : relation_at db x ≡ None = ap (relation_at db) (same_name x name same) ∙ is in
    ap (λ (o : Option Relation). is_over o n) here ∙ sym (ap (λ (o : Option Relation). is_over o (attached_len label rule + n)) here)
over_placed db name label x rule n None false is same = refl
over_placed db name label x rule n (Some r) t is same =
    let new : Attached = record { name = label; rule = rule; buckets = standing_buckets rule r.rows } in
    let more : Relation = record r { attachments = with_instance new r.attachments } in
    ap (λ (o : Option Relation). is_over o n) (found_put db name x more ∙ ap (λ (b : Bool). cond b (Some more) (relation_at db x)) same)
    ∙ by t same
  where
    by : (t : Bool) → bytes_eq x name ≡ t
        → is_over (cond t (Some (record r { attachments = with_instance (record { name = label; rule = rule; buckets = standing_buckets rule r.rows }) r.attachments })) (relation_at db x)) n
        ≡ is_over (relation_at db x) (cond t (attached_len label rule + n) n)
    by true same =
        grown r (record { name = label; rule = rule; buckets = standing_buckets rule r.rows }) n
        ∙ sym (ap (λ (o : Option Relation). is_over o (attached_len label rule + n)) (ap (relation_at db) (same_name x name same) ∙ is))
    by false same = refl

over_attached : (db : Db) (name label x : Name) (rule : Rule) (n : ℕ)
    → is_over (relation_at (with_attached db name label rule) x) n ≡ is_over (relation_at db x) (cond (bytes_eq x name) (attached_len label rule + n) n)
over_attached db name label x rule n = over_placed db name label x rule n (relation_at db name) (bytes_eq x name) refl refl

large_over : (db : Db) (x : Name) → is_large_at db x ≡ is_over (relation_at db x) 0
large_over db x = elim (relation_at db x) as (λ o. (elim o as (λ _. Bool) [ None ↦ false | Some r ↦ nat_lt 1900 (descriptor_len r) ]) ≡ is_over o 0) [
  | None ↦ refl
  | Some r ↦ ap (nat_lt 1900) (sym (add-zero (descriptor_len r)))
]

-- ---- with an attachment, and with its mirror on another relation or on the same one
one_more : (db : Db) (relation name x : Name) (rule : Rule) → is_large_at (with_attached db relation name rule) x ≡ is_over (relation_at db x) (cond (bytes_eq x relation) (attached_len name rule + 0) 0)
one_more db relation name x rule = large_over (with_attached db relation name rule) x ∙ over_attached db relation name x rule 0

two_more : (db : Db) (relation other name label x : Name) (rule mirror : Rule)
    → is_large_at (with_attached (with_attached db relation name rule) other label mirror) x
    ≡ is_over (relation_at db x)
    (cond (bytes_eq x relation) (attached_len name rule + cond (bytes_eq x other) (attached_len label mirror + 0) 0) (cond (bytes_eq x other) (attached_len label mirror + 0) 0))
two_more db relation other name label x rule mirror =
    one_more (with_attached db relation name rule) other label x mirror
    ∙ over_attached db relation name x rule (cond (bytes_eq x other) (attached_len label mirror + 0) 0)

-- a relation that is tied to another or to itself, by the bytes that both get
abbrev pub tied_over : Db → Name → Name → ℕ → ℕ → Bool
tied_over db relation other n m =
    cond (bytes_eq relation other) (is_over (relation_at db relation) (n + m)) (is_over (relation_at db relation) n || is_over (relation_at db other) m)

twice : (b : Bool) → (b || b) ≡ b
twice true = refl
twice false = refl

both_over : (db : Db) (relation other : Name) (n m : ℕ) (t : Bool) → bytes_eq relation other ≡ t
    → (is_over (relation_at db relation) (cond (bytes_eq relation relation) (n + cond (bytes_eq relation other) m 0) (cond (bytes_eq relation other) m 0))
    || is_over (relation_at db other) (cond (bytes_eq other relation) (n + cond (bytes_eq other other) m 0) (cond (bytes_eq other other) m 0)))
    ≡ tied_over db relation other n m
both_over db relation other n m t same =
    let back : bytes_eq other relation ≡ t = nat_list_eq_equiv.symm other relation ∙ same in
    ap (λ b. is_over (relation_at db relation) (cond b (n + cond (bytes_eq relation other) m 0) (cond (bytes_eq relation other) m 0))
    || is_over (relation_at db other) (cond (bytes_eq other relation) (n + cond (bytes_eq other other) m 0) (cond (bytes_eq other other) m 0))) (itself relation)
    ∙ ap (λ b. is_over (relation_at db relation) (n + cond (bytes_eq relation other) m 0) || is_over (relation_at db other) (cond (bytes_eq other relation) (n + cond b m 0) (cond b m 0))) (itself other)
    ∙ ap (λ b. is_over (relation_at db relation) (n + cond b m 0) || is_over (relation_at db other) (cond (bytes_eq other relation) (n + m) m)) same
    ∙ ap (λ b. is_over (relation_at db relation) (n + cond t m 0) || is_over (relation_at db other) (cond b (n + m) m)) back
    ∙ by t same
    ∙ ap (λ b. cond b (is_over (relation_at db relation) (n + m)) (is_over (relation_at db relation) n || is_over (relation_at db other) m)) (sym same)
  where
    by : (t : Bool) → bytes_eq relation other ≡ t
        → (is_over (relation_at db relation) (n + cond t m 0) || is_over (relation_at db other) (cond t (n + m) m))
        ≡ cond t (is_over (relation_at db relation) (n + m)) (is_over (relation_at db relation) n || is_over (relation_at db other) m)
    by true same =
        ap (λ (x : Name). is_over (relation_at db relation) (n + m) || is_over (relation_at db x) (n + m)) (sym (same_name relation other same)) ∙ twice (is_over (relation_at db relation) (n + m))
    by false same = ap (λ k. is_over (relation_at db relation) k || is_over (relation_at db other) m) (add-zero n)

mirrored : (db : Db) (relation other name label : Name) (rule mirror : Rule)
    → tied_over db relation other (attached_len name rule) (attached_len label mirror)
    ≡ (is_large_at (with_attached (with_attached db relation name rule) other label mirror) relation || is_large_at (with_attached (with_attached db relation name rule) other label mirror) other)
mirrored db relation other name label rule mirror =
    sym (ap (λ a. a || is_large_at (with_attached (with_attached db relation name rule) other label mirror) other) (two_more db relation other name label relation rule mirror)
    ∙ ap (λ b. is_over (relation_at db relation)
    (cond (bytes_eq relation relation) (attached_len name rule + cond (bytes_eq relation other) (attached_len label mirror + 0) 0) (cond (bytes_eq relation other) (attached_len label mirror + 0) 0)) || b)
    (two_more db relation other name label other rule mirror)
    ∙ both_over db relation other (attached_len name rule) (attached_len label mirror + 0) (bytes_eq relation other) refl
    ∙ ap (tied_over db relation other (attached_len name rule)) (add-zero (attached_len label mirror)))

unmirrored : (db : Db) (relation other name : Name) (rule : Rule)
    → tied_over db relation other (attached_len name rule) 0
    ≡ (is_large_at (with_attached db relation name rule) relation || is_large_at (with_attached db relation name rule) other)
unmirrored db relation other name rule =
    sym (ap (λ a. a || is_large_at (with_attached db relation name rule) other) (one_more db relation name relation rule)
    ∙ ap (λ b. is_over (relation_at db relation) (cond (bytes_eq relation relation) (attached_len name rule + 0) 0) || b) (one_more db relation name other rule)
    ∙ ap (λ k. is_over (relation_at db relation) (cond (bytes_eq relation relation) k 0) || is_over (relation_at db other) (cond (bytes_eq other relation) k 0)) (add-zero (attached_len name rule))
    ∙ by (bytes_eq relation other) refl)
  where
    by : (t : Bool) → bytes_eq relation other ≡ t
        → (is_over (relation_at db relation) (cond (bytes_eq relation relation) (attached_len name rule) 0) || is_over (relation_at db other) (cond (bytes_eq other relation) (attached_len name rule) 0))
        ≡ tied_over db relation other (attached_len name rule) 0
    by t same =
        ap (λ b. is_over (relation_at db relation) (cond b (attached_len name rule) 0) || is_over (relation_at db other) (cond (bytes_eq other relation) (attached_len name rule) 0)) (itself relation)
        ∙ ap (λ b. is_over (relation_at db relation) (attached_len name rule) || is_over (relation_at db other) (cond b (attached_len name rule) 0)) (nat_list_eq_equiv.symm other relation ∙ same)
        ∙ cases t same
        ∙ ap (λ b. cond b (is_over (relation_at db relation) (attached_len name rule + 0)) (is_over (relation_at db relation) (attached_len name rule) || is_over (relation_at db other) 0)) (sym same)
      where
        cases : (t : Bool) → bytes_eq relation other ≡ t
            → (is_over (relation_at db relation) (attached_len name rule) || is_over (relation_at db other) (cond t (attached_len name rule) 0))
            ≡ cond t (is_over (relation_at db relation) (attached_len name rule + 0)) (is_over (relation_at db relation) (attached_len name rule) || is_over (relation_at db other) 0)
        cases true same =
            ap (λ (x : Name). is_over (relation_at db relation) (attached_len name rule) || is_over (relation_at db x) (attached_len name rule)) (sym (same_name relation other same))
            ∙ twice (is_over (relation_at db relation) (attached_len name rule)) ∙ ap (is_over (relation_at db relation)) (sym (add-zero (attached_len name rule)))
        cases false same = refl

-- ---- rules
joined : (db : Db) (relation name : Name) (side : Side) (columns : List Name) (other : Name) (others : List Name)
    → tied_over db relation other (attached_len name (JoinIndex side columns other others)) (mirror_len relation name (JoinIndex side columns other others))
    ≡ has_large_descriptor relation (JoinIndex side columns other others) (with_rule db relation name (JoinIndex side columns other others))
joined db relation name Main columns other others = mirrored db relation other name (mirror_name relation name) (JoinIndex Main columns other others) (JoinIndex Mirror others relation columns)
joined db relation name Mirror columns other others = unmirrored db relation other name (JoinIndex Mirror columns other others)

referred : (db : Db) (relation name : Name) (side : Side) (columns : List Name) (other : Name) (others : List Name) (mode : Mode) (deferred : Bool)
    → tied_over db relation other (attached_len name (Refers side columns other others mode deferred)) (mirror_len relation name (Refers side columns other others mode deferred))
    ≡ has_large_descriptor relation (Refers side columns other others mode deferred) (with_rule db relation name (Refers side columns other others mode deferred))
referred db relation name Main columns other others mode deferred =
    mirrored db relation other name (mirror_name relation name) (Refers Main columns other others mode deferred) (Refers Mirror others relation columns mode deferred)
referred db relation name Mirror columns other others mode deferred = unmirrored db relation other name (Refers Mirror columns other others mode deferred)

pub join_over : (db : Db) (relation name : Name) (rule : Rule) (side : Side) (columns : List Name) (other : Name) (others : List Name) → rule ≡ JoinIndex side columns other others
    → tied_over db relation other (attached_len name rule) (mirror_len relation name rule) ≡ has_large_descriptor relation rule (with_rule db relation name rule)
join_over db relation name rule side columns other others is =
    subst (λ (x : Rule). tied_over db relation other (attached_len name x) (mirror_len relation name x) ≡ has_large_descriptor relation x (with_rule db relation name x)) (sym is)
    (joined db relation name side columns other others)

pub reference_over : (db : Db) (relation name : Name) (rule : Rule) (side : Side) (columns : List Name) (other : Name) (others : List Name) (mode : Mode) (deferred : Bool)
    → rule ≡ Refers side columns other others mode deferred
    → tied_over db relation other (attached_len name rule) (mirror_len relation name rule) ≡ has_large_descriptor relation rule (with_rule db relation name rule)
reference_over db relation name rule side columns other others mode deferred is =
    subst (λ (x : Rule). tied_over db relation other (attached_len name x) (mirror_len relation name x) ≡ has_large_descriptor relation x (with_rule db relation name x)) (sym is)
    (referred db relation name side columns other others mode deferred)

-- a rule of one relation alone
alone : (db : Db) (relation name : Name) (rule : Rule) → is_over (relation_at db relation) (attached_len name rule) ≡ is_large_at (with_attached db relation name rule) relation
alone db relation name rule =
    sym (one_more db relation name relation rule ∙ ap (λ b. is_over (relation_at db relation) (cond b (attached_len name rule + 0) 0)) (itself relation)
    ∙ ap (is_over (relation_at db relation)) (add-zero (attached_len name rule)))

pub one_over : (db : Db) (relation name : Name) (rule : Rule)
    → ((side : Side) (columns : List Name) (other : Name) (others : List Name) → rule ≡ JoinIndex side columns other others → ⊥)
    → ((side : Side) (columns : List Name) (other : Name) (others : List Name) (mode : Mode) (deferred : Bool) → rule ≡ Refers side columns other others mode deferred → ⊥)
    → is_over (relation_at db relation) (attached_len name rule) ≡ has_large_descriptor relation rule (with_rule db relation name rule)
one_over db relation name (JoinIndex side columns other others) no_join no_reference = absurd (no_join side columns other others refl)
one_over db relation name (Refers side columns other others mode deferred) no_join no_reference = absurd (no_reference side columns other others mode deferred refl)
one_over db relation name (TreeIndex columns unique) no_join no_reference = alone db relation name (TreeIndex columns unique)
one_over db relation name (HashIndex columns) no_join no_reference = alone db relation name (HashIndex columns)
one_over db relation name (Stats column low width) no_join no_reference = alone db relation name (Stats column low width)
one_over db relation name (Check pred deferred) no_join no_reference = alone db relation name (Check pred deferred)
one_over db relation name (Trigger on pred act deferred) no_join no_reference = alone db relation name (Trigger on pred act deferred)
one_over db relation name (Foreign code desc) no_join no_reference = alone db relation name (Foreign code desc)

-- more than 1,900 bytes, counted up to a number that is greater
pub over_counted : (len more n now most counted : ℕ) → 1900 < most → counted ≡ min len most → more ≡ min n most → now ≡ min (counted + more) most → nat_lt 1900 now ≡ nat_lt 1900 (len + n)
over_counted len more n now most counted h e f g = grind (arith, nat_tests)
