-- Databases with one attachment more.
use Rattle.std.proofs.Common.{◌≡◌, ℕ, ◌+◌, false, T, ◌⊎◌, inl, inr, [], Option, Some, None, option_map, is_none, sym, ap, subst, ◌∙◌, arith}
use Rattle.std.specs.Prelude.{cond}
use Rattle.std.specs.List.{find}
use Rattle.std.specs.Str.{bytes_eq}
use Rattle.std.specs.FinMap.Entries.{is_sorted, is_sorted-put}
use Rattle.std.proofs.lemmas.Bool.{cond-true, cond-false}
use Rattle.std.proofs.lemmas.Cmp.{nat_list_cmp_total}
use Rattle.std.proofs.lemmas.Option.{same_Some}
use Rattle.sb_value.specs.Equal.{bytes_same}
use Rattle.sb_value.specs.Order.{bytes_cmp}
use Rattle.sb_rule.specs.declared.rule.Rule.{Rule}
use Rattle.sb_relation.specs.Buckets.{standing_buckets}
use Rattle.sb_relation.specs.Build.{with_instance, with_attached}
use Rattle.sb_relation.specs.Db.{Name, Attached, Relation, Db, relation_at, with_relation}
use Rattle.sb_fold.specs.Building.{rule_at}
use Rattle.sb_fold.specs.Fold.{attachments_at}
use Rattle.sb_lawful.proofs.Items.{is_named, find_instance, Weight, weight, weight-instance, itself, same_or_apart}
use Rattle.sb_lawful.proofs.Places.{relation_same, relation_other, items_in, with_items, IsAlike, IsThere, there_in, weight_at, attachments_in}

-- an instance of the rule stands under the name, with some buckets
pub record IsAdded (name label : Name) (rule : Rule) (db db' : Db) : Type 0 where
  pub buckets : ℕ
  pub old : Relation
  pub there : relation_at db name ≡ Some old
  pub here : relation_at db' name ≡ Some (with_items (with_instance (record { name = label; rule = rule; buckets = buckets }) old.attachments) old)
  pub elsewhere : (k : Name) → bytes_eq k name ≡ false → relation_at db' k ≡ relation_at db k

abbrev pub new_of : Name → Rule → ℕ → Attached
new_of label rule buckets = record { name = label; rule = rule; buckets = buckets }

abbrev with_in : Db → Name → Name → Rule → Option Relation → Db
with_in db name label rule None = db
with_in db name label rule (Some r) = with_relation db name (with_items (with_instance (new_of label rule (standing_buckets rule r.rows)) r.attachments) r)

pub is_added : (db : Db) (name label : Name) (rule : Rule) → is_none (relation_at db name) ≡ false → IsAdded name label rule db (with_attached db name label rule)
is_added db name label rule there =
    let found : IsThere (relation_at db name) = there_in (relation_at db name) there in
    let r : Relation = found.one in
    let more : Relation = with_items (with_instance (new_of label rule (standing_buckets rule r.rows)) r.attachments) r in
    subst (λ (o : Option Relation). IsAdded name label rule db (with_in db name label rule o)) (sym found.is) (record {
      buckets = standing_buckets rule r.rows;
      old = r;
      there = found.is;
      here = relation_same db name more;
      elsewhere = relation_other db name more;
    })

pub sorted_added : (db : Db) (name label : Name) (rule : Rule) → T (is_sorted bytes_cmp db) → T (is_sorted bytes_cmp (with_attached db name label rule))
sorted_added db name label rule rises = by (relation_at db name)
  where
    by : (o : Option Relation) → T (is_sorted bytes_cmp (with_in db name label rule o))
    by None = rises
    by (Some r) = is_sorted-put bytes_cmp nat_list_cmp_total name (with_items (with_instance (new_of label rule (standing_buckets rule r.rows)) r.attachments) r) db rises

module _ (name label : Name) (rule : Rule) (db db' : Db) (is : IsAdded name label rule db db') where
  pub alike_added : (k : Name) → IsAlike db db' k
  alike_added k = by (same_or_apart k name)
    where
      by : (k ≡ name) ⊎ (bytes_eq k name ≡ false) → IsAlike db db' k
      by (inl same) = subst (IsAlike db db') (sym same) (ap (option_map (with_items [])) is.there ∙ sym (ap (option_map (with_items [])) is.here))
      by (inr differs) = ap (option_map (with_items [])) (sym (is.elsewhere k differs))

  pub items_there : attachments_at db' name ≡ with_instance (new_of label rule is.buckets) (attachments_at db name)
  items_there = attachments_in db' name (with_items (with_instance (new_of label rule is.buckets) is.old.attachments) is.old) is.here ∙ sym (ap (with_instance (new_of label rule is.buckets)) (attachments_in db name is.old is.there))

  pub weight_added : (w : Weight) (k : Name) → weight_at w db' k ≡ weight_at w db k + cond (bytes_eq k name) (w label rule) 0
  weight_added w k = by (same_or_apart k name)
    where
      by : (k ≡ name) ⊎ (bytes_eq k name ≡ false) → weight_at w db' k ≡ weight_at w db k + cond (bytes_eq k name) (w label rule) 0
      by (inl same) =
          let more = ap (weight_at w db') same ∙ ap (weight w) items_there ∙ weight-instance w (new_of label rule is.buckets) (attachments_at db name) in
          let old = ap (weight_at w db) same in
          let this = cond-true (bytes_eq k name) (w label rule) 0 ((bytes_same k name).1 same) in
          omega arith
      by (inr differs) =
          let old = ap (λ (o : Option Relation). weight w (items_in o)) (is.elsewhere k differs) in
          let this = cond-false (bytes_eq k name) (w label rule) 0 differs in
          omega arith

  -- where the name was new
  module _ (new : rule_at db name label ≡ None) where
    pub rule_added : (l : Name) → rule_at db' name l ≡ cond (bytes_eq label l) (Some (new_of label rule is.buckets)) (rule_at db name l)
    rule_added l = ap (find (is_named l)) items_there ∙ find_instance (new_of label rule is.buckets) l (attachments_at db name) new

    pub rule_new : rule_at db' name label ≡ Some (new_of label rule is.buckets)
    rule_new = rule_added label ∙ cond-true (bytes_eq label label) (Some (new_of label rule is.buckets)) (rule_at db name label) (itself label)

    pub rule_elsewhere : (k l : Name) → bytes_eq k name ≡ false → rule_at db' k l ≡ rule_at db k l
    rule_elsewhere k l differs = ap (λ (o : Option Relation). find (is_named l) (items_in o)) (is.elsewhere k differs)

    -- what stood stands
    pub rule_kept : (k l : Name) (a : Attached) → rule_at db k l ≡ Some a → rule_at db' k l ≡ Some a
    rule_kept k l a found = by (same_or_apart k name) (same_or_apart label l)
      where
        by : (k ≡ name) ⊎ (bytes_eq k name ≡ false) → (label ≡ l) ⊎ (bytes_eq label l ≡ false) → rule_at db' k l ≡ Some a
        by (inr differs) other = rule_elsewhere k l differs ∙ found
        by (inl same) (inl again) =
            let none : rule_at db k l ≡ None = ap (λ (n : Name). rule_at db n l) same ∙ ap (rule_at db name) (sym again) ∙ new in
            absurd (cc)
        by (inl same) (inr differs) =
            ap (λ (n : Name). rule_at db' n l) same ∙ rule_added l ∙ cond-false (bytes_eq label l) (Some (new_of label rule is.buckets)) (rule_at db name l) differs
            ∙ ap (λ (n : Name). rule_at db n l) (sym same) ∙ found

    -- what stands stood, or is the new one
    pub rule_was : (k l : Name) (a : Attached) → rule_at db' k l ≡ Some a → (rule_at db k l ≡ Some a) ⊎ ((k ≡ name) × (a ≡ new_of label rule is.buckets))
    rule_was k l a found = by (same_or_apart k name) (same_or_apart label l)
      where
        by : (k ≡ name) ⊎ (bytes_eq k name ≡ false) → (label ≡ l) ⊎ (bytes_eq label l ≡ false) → (rule_at db k l ≡ Some a) ⊎ ((k ≡ name) × (a ≡ new_of label rule is.buckets))
        by (inr differs) other = inl (sym (rule_elsewhere k l differs) ∙ found)
        by (inl same) (inl again) =
            let here : rule_at db' k l ≡ Some (new_of label rule is.buckets) = ap (λ (n : Name). rule_at db' n l) same ∙ ap (rule_at db' name) (sym again) ∙ rule_new in
            inr (same, same_Some a (new_of label rule is.buckets) (sym found ∙ here))
        by (inl same) (inr differs) =
            inl (ap (λ (n : Name). rule_at db n l) same ∙ sym (cond-false (bytes_eq label l) (Some (new_of label rule is.buckets)) (rule_at db name l) differs) ∙ sym (rule_added l)
            ∙ ap (λ (n : Name). rule_at db' n l) (sym same) ∙ found)
