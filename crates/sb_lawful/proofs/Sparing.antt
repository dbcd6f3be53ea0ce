-- Databases without some attachments, which are named by where they stand.
use Rattle.std.proofs.Common.{◌≡◌, ◌+◌, Bool, true, false, not, ◌&&◌, ◌||◌, T, ◌⊎◌, inl, inr, List, [], ◌∷◌, Option, Some, None, option_map, refl, sym, ap, subst, ◌∙◌, arith}
use Rattle.std.specs.Prelude.{cond}
use Rattle.std.specs.List.{find}
use Rattle.std.specs.Str.{bytes_eq}
use Rattle.std.specs.FinMap.Entries.{is_sorted, is_sorted-put}
use Rattle.std.proofs.lemmas.Bool.{cond-true, cond-false}
use Rattle.std.proofs.lemmas.Cmp.{nat_list_cmp_total}
use Rattle.sb_value.specs.Equal.{bytes_same}
use Rattle.sb_value.specs.Order.{bytes_cmp}
use Rattle.sb_rule.specs.declared.rule.Rule.{Rule}
use Rattle.sb_relation.specs.Build.{mirror_name, mirror_of}
use Rattle.sb_relation.specs.Db.{Name, Attached, Relation, Db, relation_at, with_relation}
use Rattle.sb_fold.specs.Building.{rule_at, without_attached, without_mirror, without_mirror_of, without_rule, without_mirrors}
use Rattle.sb_fold.specs.Fold.{attachments_at}
use Rattle.sb_lawful.proofs.Items.{is_named, spared, find_spared, AreApart, filter_apart, Weight, weight, weight-spared, spared_none, spared_twice, itself, same_or_apart}
use Rattle.sb_lawful.proofs.Places.{relation_same, relation_other, items_in, with_items, IsAlike, weight_at}

-- the attachments at these places are gone
abbrev pub Places : Type 0
Places = Name → Name → Bool

abbrev pub spare : (Name → Bool) → Relation → Relation
spare gone r = record r { attachments = spared gone r.attachments }

pub record IsSpared (gone : Places) (db db' : Db) : Type 0 where
  pub at : (k : Name) → relation_at db' k ≡ option_map (spare (gone k)) (relation_at db k)

abbrev pub is_at : Name → Name → Places
is_at name label k l = bytes_eq k name && bytes_eq l label

-- ---- none, and more
none_spared : (o : Option Relation) → option_map (spare (λ l. false)) o ≡ o
none_spared None = refl
none_spared (Some r) = ap (λ (items : List Attached). Some (with_items items r)) (spared_none r.attachments)

pub spared_itself : (db : Db) → IsSpared (λ k l. false) db db
spared_itself db = record { at = λ k. sym (none_spared (relation_at db k)) }

pub spared_then : (g h : Places) (db mid db' : Db) → IsSpared g db mid → IsSpared h mid db' → IsSpared (λ k l. g k l || h k l) db db'
spared_then g h db mid db' first second = record { at = λ k. second.at k ∙ ap (option_map (spare (h k))) (first.at k) ∙ both k (relation_at db k) }
  where
    both : (k : Name) (o : Option Relation) → option_map (spare (h k)) (option_map (spare (g k)) o) ≡ option_map (spare (λ l. g k l || h k l)) o
    both k None = refl
    both k (Some r) = ap (λ (items : List Attached). Some (with_items items r)) (spared_twice (g k) (h k) r.attachments)

-- ---- one attachment
abbrev without_in : Db → Name → Name → Option Relation → Db
without_in db name label None = db
without_in db name label (Some r) = with_relation db name (spare (λ l. bytes_eq l label) r)

at_name : (db : Db) (name label : Name) (o : Option Relation) → relation_at db name ≡ o → (k : Name) → (k ≡ name) ⊎ (bytes_eq k name ≡ false)
    → relation_at (without_in db name label o) k ≡ option_map (spare (is_at name label k)) (relation_at db k)
at_name db name label None is k (inl same) =
    let none : relation_at db k ≡ None = ap (relation_at db) same ∙ is in
    none ∙ sym (ap (option_map (spare (is_at name label k))) none)
at_name db name label (Some r) is k (inl same) =
    ap (relation_at (with_relation db name (spare (λ l. bytes_eq l label) r))) same ∙ relation_same db name (spare (λ l. bytes_eq l label) r)
    ∙ ap (λ (b : Bool). Some (spare (λ l. b && bytes_eq l label) r)) (sym (ap (λ (n : Name). bytes_eq n name) same ∙ itself name))
    ∙ sym (ap (option_map (spare (is_at name label k))) (ap (relation_at db) same ∙ is))
at_name db name label None is k (inr differs) =
    sym (ap (λ (b : Bool). option_map (spare (λ l. b && bytes_eq l label)) (relation_at db k)) differs ∙ none_spared (relation_at db k))
at_name db name label (Some r) is k (inr differs) =
    relation_other db name (spare (λ l. bytes_eq l label) r) k differs
    ∙ sym (ap (λ (b : Bool). option_map (spare (λ l. b && bytes_eq l label)) (relation_at db k)) differs ∙ none_spared (relation_at db k))

pub spared_attached : (db : Db) (name label : Name) → IsSpared (is_at name label) db (without_attached db name label)
spared_attached db name label = record { at = λ k. at_name db name label (relation_at db name) refl k (same_or_apart k name) }

-- ---- mirrors
abbrev pub gone_mirror : Name → Name → Option (Name × Rule) → Places
gone_mirror name label None k l = false
gone_mirror name label (Some (other, rule)) k l = is_at other (mirror_name name label) k l

pub spared_mirror : (db : Db) (name label : Name) (mirror : Option (Name × Rule)) → IsSpared (gone_mirror name label mirror) db (without_mirror name label mirror db)
spared_mirror db name label None = spared_itself db
spared_mirror db name label (Some (other, rule)) = spared_attached db other (mirror_name name label)

abbrev pub gone_rule : Name → Attached → Places
gone_rule name a k l = is_at name a.name k l || gone_mirror name a.name (mirror_of name a.rule) k l

pub spared_rule : (db : Db) (name : Name) (a : Attached) → IsSpared (gone_rule name a) db (without_rule db name a)
spared_rule db name a =
    spared_then (is_at name a.name) (gone_mirror name a.name (mirror_of name a.rule)) db (without_attached db name a.name) (without_rule db name a) (spared_attached db name a.name)
    (spared_mirror (without_attached db name a.name) name a.name (mirror_of name a.rule))

abbrev pub gone_mirrors : Name → List Attached → Places
gone_mirrors name [] k l = false
gone_mirrors name (a ∷ items) k l = gone_mirror name a.name (mirror_of name a.rule) k l || gone_mirrors name items k l

pub spared_mirrors : (db : Db) (name : Name) (items : List Attached) → IsSpared (gone_mirrors name items) db (without_mirrors name items db)
spared_mirrors db name [] = spared_itself db
spared_mirrors db name (a ∷ items) =
    spared_then (gone_mirror name a.name (mirror_of name a.rule)) (gone_mirrors name items) db (without_mirror_of name a db) (without_mirrors name items (without_mirror_of name a db))
    (spared_mirror db name a.name (mirror_of name a.rule)) (spared_mirrors (without_mirror_of name a db) name items)

-- ---- in order
pub sorted_attached : (db : Db) (name label : Name) → T (is_sorted bytes_cmp db) → T (is_sorted bytes_cmp (without_attached db name label))
sorted_attached db name label rises = by (relation_at db name)
  where
    by : (o : Option Relation) → T (is_sorted bytes_cmp (without_in db name label o))
    by None = rises
    by (Some r) = is_sorted-put bytes_cmp nat_list_cmp_total name (spare (λ l. bytes_eq l label) r) db rises

pub sorted_mirror : (db : Db) (name label : Name) (mirror : Option (Name × Rule)) → T (is_sorted bytes_cmp db) → T (is_sorted bytes_cmp (without_mirror name label mirror db))
sorted_mirror db name label None rises = rises
sorted_mirror db name label (Some (other, rule)) rises = sorted_attached db other (mirror_name name label) rises

pub sorted_mirrors : (db : Db) (name : Name) (items : List Attached) → T (is_sorted bytes_cmp db) → T (is_sorted bytes_cmp (without_mirrors name items db))
sorted_mirrors db name [] rises = rises
sorted_mirrors db name (a ∷ items) rises = sorted_mirrors (without_mirror_of name a db) name items (sorted_mirror db name a.name (mirror_of name a.rule) rises)

-- ---- what is read of a database without some attachments
pub alike_spared : (gone : Places) (db db' : Db) → IsSpared gone db db' → (k : Name) → IsAlike db db' k
alike_spared gone db db' is k = sym (ap (option_map (with_items [])) (is.at k) ∙ by (relation_at db k))
  where
    by : (o : Option Relation) → option_map (with_items []) (option_map (spare (gone k)) o) ≡ option_map (with_items []) o
    by None = refl
    by (Some r) = refl

pub items_spared : (gone : Places) (db db' : Db) → IsSpared gone db db' → (k : Name) → attachments_at db' k ≡ spared (gone k) (attachments_at db k)
items_spared gone db db' is k = ap items_in (is.at k) ∙ by (relation_at db k)
  where
    by : (o : Option Relation) → items_in (option_map (spare (gone k)) o) ≡ spared (gone k) (items_in o)
    by None = refl
    by (Some r) = refl

pub rule_spared : (gone : Places) (db db' : Db) → IsSpared gone db db' → (k label : Name) → rule_at db' k label ≡ cond (gone k label) None (rule_at db k label)
rule_spared gone db db' is k label = ap (find (is_named label)) (items_spared gone db db' is k) ∙ find_spared (gone k) label (attachments_at db k)

pub spared_apart : (gone : Places) (db db' : Db) → IsSpared gone db db' → (k : Name) → AreApart (attachments_at db k) → AreApart (attachments_at db' k)
spared_apart gone db db' is k d = subst AreApart (sym (items_spared gone db db' is k)) (filter_apart (λ a. not (gone k a.name)) (attachments_at db k) d)

-- one that is found weighs what it weighs
pub weight_without : (w : Weight) (db : Db) (name label : Name) (a : Attached) → AreApart (attachments_at db name) → rule_at db name label ≡ Some a → (k : Name)
    → weight_at w (without_attached db name label) k + cond (bytes_eq k name) (w a.name a.rule) 0 ≡ weight_at w db k
weight_without w db name label a apart found k = by (same_or_apart k name)
  where
    items : attachments_at (without_attached db name label) k ≡ spared (λ l. bytes_eq k name && bytes_eq l label) (attachments_at db k)
    items = items_spared (is_at name label) db (without_attached db name label) (spared_attached db name label) k

    by : (k ≡ name) ⊎ (bytes_eq k name ≡ false) → weight_at w (without_attached db name label) k + cond (bytes_eq k name) (w a.name a.rule) 0 ≡ weight_at w db k
    by (inl same) =
        let here : bytes_eq k name ≡ true = (bytes_same k name).1 same in
        let less = ap (weight w) (items ∙ ap (λ (b : Bool). spared (λ l. b && bytes_eq l label) (attachments_at db k)) here ∙ ap (λ (n : Name). spared (λ l. bytes_eq l label) (attachments_at db n)) same) in
        let this = cond-true (bytes_eq k name) (w a.name a.rule) 0 here in
        let whole = weight-spared w label (attachments_at db name) a apart found in
        let old = ap (weight_at w db) same in
        omega arith
    by (inr differs) =
        let less = ap (weight w) (items ∙ ap (λ (b : Bool). spared (λ l. b && bytes_eq l label) (attachments_at db k)) differs ∙ spared_none (attachments_at db k)) in
        let this = cond-false (bytes_eq k name) (w a.name a.rule) 0 differs in
        omega arith
