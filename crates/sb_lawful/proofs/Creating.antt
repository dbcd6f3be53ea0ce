-- A new relation leaves a lawful database.
use Rattle.std.proofs.Common.{◌≡◌, true, false, ◌⊎◌, inl, inr, [], ◌∷◌, map, Option, Some, None, option_map, is_none, is_some, refl, sym, ap, subst, ◌∙◌, get_or}
use Rattle.std.specs.Prelude.{All}
use Rattle.std.specs.List.{find}
use Rattle.std.specs.Option.{option_or}
use Rattle.std.specs.Str.{bytes_eq}
use Rattle.std.specs.FinMap.Entries.{is_sorted-put}
use Rattle.std.proofs.lemmas.Cmp.{nat_list_cmp_total}
use Rattle.std.proofs.lemmas.List.Elements.{All-nil, All-cons, All-head, All-tail}
use Rattle.std.proofs.lemmas.Option.{same_Some}
use Rattle.sb_value.specs.Order.{bytes_cmp}
use Rattle.sb_rule.specs.declared.rule.Rule.{Rule}
use Rattle.sb_relation.specs.Build.{mirror_name, mirror_of}
use Rattle.sb_relation.specs.Db.{Name, Attached, Relation, Db, relation_at, with_relation}
use Rattle.sb_relation.specs.Fits.{other_relations}
use Rattle.sb_fold.specs.Building.{rule_at, HasMirror}
use Rattle.sb_fold.specs.Extensions.{Extensions}
use Rattle.sb_fold.specs.Fold.{attachments_at}
use Rattle.sb_plain.specs.Lawful.{IsMirrorOf}
use Rattle.sb_plain.specs.Refusing.{some_where, first_twice}
use Rattle.sb_lawful.specs.Laws.{CreatedIsLawful}
use Rattle.sb_lawful.proofs.Items.{same_or_apart, weight, is_named}
use Rattle.sb_lawful.proofs.Places.{relation_same, relation_other, items_in, with_items, IsAlike}
use Rattle.sb_lawful.proofs.Standing.{may_stay, partner, within_same, partner_has, ThereIn}
use Rattle.sb_lawful.proofs.Attachable.{all_there, Stands}
use Rattle.sb_lawful.proofs.Placing.{IsMade, may_create, IsPlaced, IsWellPlaced, to_places, of_places}

pub unless_there : (o : Option Relation) (name : Name) (others : Option Name) → option_or (some_where (is_some o) name) others ≡ None → o ≡ None
unless_there None name others e = refl
unless_there (Some r) name others e = absurd (cc)

module _ (ext : Extensions) (db : Db) (name : Name) (r : Relation) (new : relation_at db name ≡ None) (empty : r.attachments ≡ []) where
  abbrev after : Db
  after = with_relation db name r

  items_same : (k : Name) → attachments_at after k ≡ attachments_at db k
  items_same k = by (same_or_apart k name)
    where
      by : (k ≡ name) ⊎ (bytes_eq k name ≡ false) → attachments_at after k ≡ attachments_at db k
      by (inl same) = ap (attachments_at after) same ∙ ap items_in (relation_same db name r) ∙ empty ∙ sym (ap items_in new) ∙ ap (attachments_at db) (sym same)
      by (inr differs) = ap items_in (relation_other db name r k differs)

  pub rule_same : (k label : Name) → rule_at after k label ≡ rule_at db k label
  rule_same k label = ap (find (is_named label)) (items_same k)

  -- what was there is another relation
  there_alike : (k : Name) → ThereIn db k → IsAlike db after k
  there_alike k there = by (same_or_apart k name)
    where
      by : (k ≡ name) ⊎ (bytes_eq k name ≡ false) → IsAlike db after k
      by (inl same) = let none : is_none (relation_at db k) ≡ true = ap is_none (ap (relation_at db) same ∙ new) in absurd (cc)
      by (inr differs) = ap (option_map (with_items [])) (sym (relation_other db name r k differs))

  stands_still : (k : Name) (rule : Rule) → Stands ext db k rule → Stands ext after k rule
  stands_still k rule stands =
      let there : All (ThereIn db) (k ∷ other_relations rule) = all_there db (k ∷ other_relations rule) stands.may.there in
      let partners : All (ThereIn db) (k ∷ partner (mirror_of k rule)) =
      All-cons (ThereIn db) k (partner (mirror_of k rule)) (All-head (ThereIn db) k (other_relations rule) there) (partner_has (ThereIn db) k rule (All-tail (ThereIn db) k (other_relations rule) there)) in
      record {
        may = may_stay db after ext k rule (λ j d below. there_alike (get_or (k ∷ other_relations rule) j d) (there j d below)) stands.may;
        within = λ j d below.
            let o : Name = get_or (k ∷ partner (mirror_of k rule)) j d in
            within_same db after o (there_alike o (partners j d below)) (λ w. ap (weight w) (items_same o)) (stands.within j d below);
      }

  mirror_still : (label : Name) (mirror : Option (Name × Rule)) → HasMirror db label mirror → HasMirror after label mirror
  mirror_still label None has = tt
  mirror_still label (Some (other, rule)) has = (has.0, rule_same other label ∙ has.1, has.2)

  main_still : (k : Name) (a : Attached) → IsMirrorOf db k a → IsMirrorOf after k a
  main_still k a is = record { other = is.other; main = is.main; stands = rule_same is.other is.main.name ∙ is.stands; label = is.label; mirror = is.mirror }

  pub well_placed : IsMade ext name r → IsWellPlaced ext db → IsWellPlaced ext after
  well_placed own is = record {
    rising = is_sorted-put bytes_cmp nat_list_cmp_total name r db is.rising;
    made = λ k q there. made k q there (same_or_apart k name);
    placed = λ k a found.
        let was : IsPlaced ext db k a = is.placed k a (sym (rule_same k a.name) ∙ found) in
        record { stands = λ main. stands_still k a.rule (was.stands main); mirrored = mirror_still (mirror_name k a.name) (mirror_of k a.rule) was.mirrored; main = λ mirror. main_still k a (was.main mirror) };
  }
    where
      made : (k : Name) (q : Relation) → relation_at after k ≡ Some q → (k ≡ name) ⊎ (bytes_eq k name ≡ false) → IsMade ext k q
      made k q there (inl same) =
          let it : r ≡ q = same_Some r q (sym (ap (relation_at after) same ∙ relation_same db name r) ∙ there) in
          subst (λ (n : Name). IsMade ext n q) (sym same) (subst (IsMade ext name) it own)
      made k q there (inr differs) = is.made k q (sym (relation_other db name r k differs) ∙ there)

pub created-lawful : CreatedIsLawful
created-lawful ext db name method schema key may lawful =
    let new : relation_at db name ≡ None = unless_there (relation_at db name) name (option_or (first_twice (map (λ c. c.name) schema)) (first_twice key)) may.new in
    let r : Relation = record { method = method; schema = schema; key = key; rows = []; attachments = [] } in
    of_places ext (with_relation db name r)
    (well_placed ext db name r new refl (record { created = may_create ext db [] name method schema key new refl may; in_order = refl; apart = tt; rising = tt; rows = All-nil _ }) (to_places ext db lawful))
