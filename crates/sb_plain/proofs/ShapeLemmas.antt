-- What of a database the language's tests see: all but the rows and the numbers of buckets.
use Rattle.std.proofs.Common.{◌≡◌, ℕ, ◌+◌, Bool, true, false, not, List, [], ◌∷◌, map, length, Option, Some, None, option_map, is_none, refl, sym, ap, ◌∙◌}
use Rattle.std.specs.Prelude.{cond, sum_by, filter, nat_le, nat_lt}
use Rattle.std.specs.List.{find, fold}
use Rattle.std.specs.Str.{bytes_eq}
use Rattle.std.specs.declared.cmp.Ordering.{Ordering}
use Rattle.std.specs.declared.cmp.Ordering.TheVariants.{Less, Equal, Greater}
use Rattle.std.specs.Ordering.{eq_by_cmp}
use Rattle.std.specs.FinMap.Entries.{by_order}
use Rattle.std.proofs.lemmas.List.{length-map}
use Rattle.sb_value.specs.declared.schema.Column.{Column}
use Rattle.sb_value.specs.Order.{bytes_cmp}
use Rattle.sb_rule.specs.declared.rule.Rule.{Rule}
use Rattle.sb_pred.specs.Spelling.{name_spelling}
use Rattle.sb_rule.specs.Spelling.{rule_code, names_spelling, rule_spelling}
use Rattle.sb_relation.specs.Build.{mirror_name, mirror_of, with_instance, with_attached, with_mirror, with_rule}
use Rattle.sb_relation.specs.Buckets.{standing_buckets}
use Rattle.sb_relation.specs.Db.{Name, Attached, Relation, Db, relation_at, with_relation, schema_at}
use Rattle.sb_relation.specs.Limits.{descriptor_len, attached_at, is_large_at}
use Rattle.sb_fold.specs.Building.{rule_at, without_attached, without_mirror, without_rule}
use Rattle.sb_fold.specs.Extensions.{Extensions, is_durable_method, is_durable_at}

abbrev pub unbucketed : Attached → Attached
unbucketed a = record a { buckets = 0 }

abbrev pub shape_of : Relation → Relation
shape_of r = record r { rows = []; attachments = map unbucketed r.attachments }

abbrev pub shape : Db → Db
shape db = map (λ e. (e.0, shape_of e.1)) db

-- ---- lists of attachments
find-unbucketed : (label : Name) (items : List Attached) → find (λ a. bytes_eq a.name label) (map unbucketed items) ≡ option_map unbucketed (find (λ a. bytes_eq a.name label) items)
find-unbucketed label [] = refl
find-unbucketed label (a ∷ items) = of_test (bytes_eq a.name label) (find-unbucketed label items)
  where
    of_test : (b : Bool) → find (λ x. bytes_eq x.name label) (map unbucketed items) ≡ option_map unbucketed (find (λ x. bytes_eq x.name label) items)
        → cond b (Some (unbucketed a)) (find (λ x. bytes_eq x.name label) (map unbucketed items)) ≡ option_map unbucketed (cond b (Some a) (find (λ x. bytes_eq x.name label) items))
    of_test true rest = refl
    of_test false rest = rest

filter-unbucketed : (label : Name) (items : List Attached) → map unbucketed (filter (λ a. not (bytes_eq a.name label)) items) ≡ filter (λ a. not (bytes_eq a.name label)) (map unbucketed items)
filter-unbucketed label [] = refl
filter-unbucketed label (a ∷ items) = of_test (not (bytes_eq a.name label)) (filter-unbucketed label items)
  where
    of_test : (b : Bool) → map unbucketed (filter (λ x. not (bytes_eq x.name label)) items) ≡ filter (λ x. not (bytes_eq x.name label)) (map unbucketed items)
        → map unbucketed (cond b (a ∷ filter (λ x. not (bytes_eq x.name label)) items) (filter (λ x. not (bytes_eq x.name label)) items))
        ≡ cond b (unbucketed a ∷ filter (λ x. not (bytes_eq x.name label)) (map unbucketed items)) (filter (λ x. not (bytes_eq x.name label)) (map unbucketed items))
    of_test true rest = ap (λ (l : List Attached). unbucketed a ∷ l) rest
    of_test false rest = rest

instance-unbucketed : (new : Attached) (items : List Attached) → map unbucketed (with_instance new items) ≡ with_instance (unbucketed new) (map unbucketed items)
instance-unbucketed new [] = refl
instance-unbucketed new (a ∷ items) = of_test (nat_le (rule_code a.rule) (rule_code new.rule)) (instance-unbucketed new items)
  where
    of_test : (b : Bool) → map unbucketed (with_instance new items) ≡ with_instance (unbucketed new) (map unbucketed items)
        → map unbucketed (cond b (a ∷ with_instance new items) (new ∷ a ∷ items)) ≡ cond b (unbucketed a ∷ with_instance (unbucketed new) (map unbucketed items)) (unbucketed new ∷ unbucketed a ∷ map unbucketed items)
    of_test true rest = ap (λ (l : List Attached). unbucketed a ∷ l) rest
    of_test false rest = refl

bytes-unbucketed : (f : Name → Rule → ℕ) (before : ℕ) (items : List Attached) → fold (λ sum (a : Attached). sum + f a.name a.rule) before (map unbucketed items) ≡ fold (λ sum (a : Attached). sum + f a.name a.rule) before items
bytes-unbucketed f before [] = refl
bytes-unbucketed f before (a ∷ items) = bytes-unbucketed f (before + f a.name a.rule) items

-- ---- relations under their names
pub relation_at-shape : (db : Db) (name : Name) → relation_at (shape db) name ≡ option_map shape_of (relation_at db name)
relation_at-shape [] name = refl
relation_at-shape (e ∷ db) name = of_test (eq_by_cmp bytes_cmp name e.0) (relation_at-shape db name)
  where
    of_test : (b : Bool) → relation_at (shape db) name ≡ option_map shape_of (relation_at db name)
        → cond b (Some (shape_of e.1)) (relation_at (shape db) name) ≡ option_map shape_of (cond b (Some e.1) (relation_at db name))
    of_test true rest = refl
    of_test false rest = rest

pub shape-with_relation : (db : Db) (name : Name) (r : Relation) → shape (with_relation db name r) ≡ with_relation (shape db) name (shape_of r)
shape-with_relation [] name r = refl
shape-with_relation (e ∷ db) name r = of_order (bytes_cmp name e.0) (shape-with_relation db name r)
  where
    of_order : (o : Ordering) → shape (with_relation db name r) ≡ with_relation (shape db) name (shape_of r)
        → shape (by_order o ((name, r) ∷ e ∷ db) ((e.0, r) ∷ db) (e ∷ with_relation db name r))
        ≡ by_order o ((name, shape_of r) ∷ (e.0, shape_of e.1) ∷ shape db) ((e.0, shape_of r) ∷ shape db) ((e.0, shape_of e.1) ∷ with_relation (shape db) name (shape_of r))
    of_order Less rest = refl
    of_order Equal rest = refl
    of_order Greater rest = ap (λ (l : Db). (e.0, shape_of e.1) ∷ l) rest

-- ---- what two databases of one shape agree in
-- what sees of a relation its shape alone
through : {A : Type 0} (F : Option Relation → A) → ((o : Option Relation) → F (option_map shape_of o) ≡ F o) → (db db' : Db) (name : Name) → shape db ≡ shape db' → F (relation_at db name) ≡ F (relation_at db' name)
through F same db db' name e =
    sym (same (relation_at db name)) ∙ ap F (sym (relation_at-shape db name)) ∙ ap (λ (d : Db). F (relation_at d name)) e ∙ ap F (relation_at-shape db' name) ∙ same (relation_at db' name)

pub same_there : (db db' : Db) → shape db ≡ shape db' → (name : Name) → is_none (relation_at db name) ≡ is_none (relation_at db' name)
same_there db db' e name = through is_none of_one db db' name e
  where
    of_one : (o : Option Relation) → is_none (option_map shape_of o) ≡ is_none o
    of_one None = refl
    of_one (Some r) = refl

pub same_schema : (db db' : Db) → shape db ≡ shape db' → (name : Name) → schema_at db name ≡ schema_at db' name
same_schema db db' e name = through (λ o. elim o [ None ↦ [] | Some r ↦ r.schema ]) of_one db db' name e
  where
    of_one : (o : Option Relation) → (elim (option_map shape_of o) as (λ _. List Column) [ None ↦ [] | Some r ↦ r.schema ]) ≡ (elim o as (λ _. List Column) [ None ↦ [] | Some r ↦ r.schema ])
    of_one None = refl
    of_one (Some r) = refl

pub same_count : (db db' : Db) → shape db ≡ shape db' → (name : Name) → attached_at db name ≡ attached_at db' name
same_count db db' e name = through (λ o. elim o [ None ↦ 0 | Some r ↦ length r.attachments ]) of_one db db' name e
  where
    of_one : (o : Option Relation) → (elim (option_map shape_of o) as (λ _. ℕ) [ None ↦ 0 | Some r ↦ length r.attachments ]) ≡ (elim o as (λ _. ℕ) [ None ↦ 0 | Some r ↦ length r.attachments ])
    of_one None = refl
    of_one (Some r) = length-map r.attachments unbucketed

pub same_life : (ext : Extensions) (db db' : Db) → shape db ≡ shape db' → (name : Name) → is_durable_at ext db name ≡ is_durable_at ext db' name
same_life ext db db' e name = through (λ o. elim o [ None ↦ true | Some r ↦ is_durable_method ext r.method ]) of_one db db' name e
  where
    of_one : (o : Option Relation) → (elim (option_map shape_of o) as (λ _. Bool) [ None ↦ true | Some r ↦ is_durable_method ext r.method ]) ≡ (elim o as (λ _. Bool) [ None ↦ true | Some r ↦ is_durable_method ext r.method ])
    of_one None = refl
    of_one (Some r) = refl

descriptor_len-shape : (r : Relation) → descriptor_len (shape_of r) ≡ descriptor_len r
descriptor_len-shape r =
    ap (λ (n : ℕ). 10 + sum_by (λ c. length (name_spelling c.name) + 2) r.schema + length (names_spelling r.key) + n)
    (bytes-unbucketed (λ name rule. 10 + length (name_spelling name) + length (rule_spelling rule)) 0 r.attachments)

pub same_size : (db db' : Db) → shape db ≡ shape db' → (name : Name) → is_large_at db name ≡ is_large_at db' name
same_size db db' e name = through (λ o. elim o [ None ↦ false | Some r ↦ nat_lt 1900 (descriptor_len r) ]) of_one db db' name e
  where
    of_one : (o : Option Relation) → (elim (option_map shape_of o) as (λ _. Bool) [ None ↦ false | Some r ↦ nat_lt 1900 (descriptor_len r) ]) ≡ (elim o as (λ _. Bool) [ None ↦ false | Some r ↦ nat_lt 1900 (descriptor_len r) ])
    of_one None = refl
    of_one (Some r) = ap (nat_lt 1900) (descriptor_len-shape r)

-- the attachment of a label, but for its buckets
pub same_rule : (db db' : Db) → shape db ≡ shape db' → (name label : Name) → option_map unbucketed (rule_at db name label) ≡ option_map unbucketed (rule_at db' name label)
same_rule db db' e name label = through (λ o. option_map unbucketed (find (λ a. bytes_eq a.name label) (elim o [ None ↦ [] | Some r ↦ r.attachments ]))) of_one db db' name e
  where
    twice : (o : Option Attached) → option_map unbucketed (option_map unbucketed o) ≡ option_map unbucketed o
    twice None = refl
    twice (Some a) = refl

    of_one : (o : Option Relation)
        → option_map unbucketed (find (λ a. bytes_eq a.name label) (elim (option_map shape_of o) as (λ _. List Attached) [ None ↦ [] | Some r ↦ r.attachments ]))
        ≡ option_map unbucketed (find (λ a. bytes_eq a.name label) (elim o as (λ _. List Attached) [ None ↦ [] | Some r ↦ r.attachments ]))
    of_one None = refl
    of_one (Some r) = ap (option_map unbucketed) (find-unbucketed label r.attachments) ∙ twice (find (λ a. bytes_eq a.name label) r.attachments)

-- ---- databases with an attachment less
abbrev dropped : Db → Name → Name → Option Relation → Db
dropped db name label None = db
dropped db name label (Some r) = with_relation db name (record r { attachments = filter (λ a. not (bytes_eq a.name label)) r.attachments })

dropped-shape : (db : Db) (name label : Name) (o : Option Relation) → shape (dropped db name label o) ≡ dropped (shape db) name label (option_map shape_of o)
dropped-shape db name label None = refl
dropped-shape db name label (Some r) =
    shape-with_relation db name (record r { attachments = filter (λ a. not (bytes_eq a.name label)) r.attachments })
    ∙ ap (λ (items : List Attached). with_relation (shape db) name (record r { rows = []; attachments = items })) (filter-unbucketed label r.attachments)

without_attached-shape : (db : Db) (name label : Name) → shape (without_attached db name label) ≡ without_attached (shape db) name label
without_attached-shape db name label = dropped-shape db name label (relation_at db name) ∙ ap (dropped (shape db) name label) (sym (relation_at-shape db name))

without_mirror-shape : (relation label : Name) (mirror : Option (Name × Rule)) (db : Db) → shape (without_mirror relation label mirror db) ≡ without_mirror relation label mirror (shape db)
without_mirror-shape relation label None db = refl
without_mirror-shape relation label (Some (other, rule)) db = without_attached-shape db other (mirror_name relation label)

without_rule-shape : (db : Db) (name : Name) (a : Attached) → shape (without_rule db name a) ≡ without_rule (shape db) name a
without_rule-shape db name a =
    without_mirror-shape name a.name (mirror_of name a.rule) (without_attached db name a.name)
    ∙ ap (without_mirror name a.name (mirror_of name a.rule)) (without_attached-shape db name a.name)

pub same_without : (db db' : Db) → shape db ≡ shape db' → (name : Name) (a : Attached) → shape (without_rule db name a) ≡ shape (without_rule db' name a)
same_without db db' e name a = without_rule-shape db name a ∙ ap (λ (d : Db). without_rule d name a) e ∙ sym (without_rule-shape db' name a)

-- ---- databases with an attachment more
-- without buckets
abbrev added : Db → Name → Name → Rule → Option Relation → Db
added db name label rule None = db
added db name label rule (Some r) = with_relation db name (record r { attachments = with_instance (record { name = label; rule = rule; buckets = 0 }) r.attachments })

abbrev added_with : Db → Name → Name → Rule → Option Relation → Db
added_with db name label rule None = db
added_with db name label rule (Some r) = with_relation db name (record r { attachments = with_instance (record { name = label; rule = rule; buckets = standing_buckets rule r.rows }) r.attachments })

added-shape : (db : Db) (name label : Name) (rule : Rule) (o : Option Relation) → shape (added_with db name label rule o) ≡ added (shape db) name label rule (option_map shape_of o)
added-shape db name label rule None = refl
added-shape db name label rule (Some r) =
    shape-with_relation db name (record r { attachments = with_instance (record { name = label; rule = rule; buckets = standing_buckets rule r.rows }) r.attachments })
    ∙ ap (λ (items : List Attached). with_relation (shape db) name (record r { rows = []; attachments = items })) (instance-unbucketed (record { name = label; rule = rule; buckets = standing_buckets rule r.rows }) r.attachments)

with_attached-shape : (db : Db) (name label : Name) (rule : Rule) → shape (with_attached db name label rule) ≡ added (shape db) name label rule (relation_at (shape db) name)
with_attached-shape db name label rule = added-shape db name label rule (relation_at db name) ∙ ap (added (shape db) name label rule) (sym (relation_at-shape db name))

same_attached : (db db' : Db) → shape db ≡ shape db' → (name label : Name) (rule : Rule) → shape (with_attached db name label rule) ≡ shape (with_attached db' name label rule)
same_attached db db' e name label rule =
    with_attached-shape db name label rule ∙ ap (λ (d : Db). added d name label rule (relation_at d name)) e ∙ sym (with_attached-shape db' name label rule)

same_mirror : (relation label : Name) (mirror : Option (Name × Rule)) (db db' : Db) → shape db ≡ shape db' → shape (with_mirror db relation label mirror) ≡ shape (with_mirror db' relation label mirror)
same_mirror relation label None db db' e = e
same_mirror relation label (Some (other, rule)) db db' e = same_attached db db' e other (mirror_name relation label) rule

pub same_with : (db db' : Db) → shape db ≡ shape db' → (name label : Name) (rule : Rule) → shape (with_rule db name label rule) ≡ shape (with_rule db' name label rule)
same_with db db' e name label rule = same_mirror name label (mirror_of name rule) _ _ (same_attached db db' e name label rule)
