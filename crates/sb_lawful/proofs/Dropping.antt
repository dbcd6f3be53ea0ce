-- A lawful database is lawful without a relation and the mirrors of its attachments, where no other relation's attachment names it.
use Rattle.std.proofs.Common.{◌≡◌, Bool, true, false, not, ◌&&◌, ◌||◌, ◌⊎◌, inl, inr, List, [], ◌∷◌, Option, Some, None, option_map, refl, sym, ap, ◌∙◌}
use Rattle.std.specs.Prelude.{All, cond}
use Rattle.std.specs.List.{find}
use Rattle.std.specs.Str.{bytes_eq}
use Rattle.std.specs.FinMap.Entries.{is_sorted-where_key}
use Rattle.std.proofs.lemmas.Bool.{or_parts, or_left, or_right, not_from_false, true_from_ne_false}
use Rattle.std.proofs.lemmas.List.Elements.{All-nil, All-cons}
use Rattle.std.proofs.lemmas.Option.{same_Some}
use Rattle.sb_value.specs.Equal.{bytes_same}
use Rattle.sb_value.specs.Order.{bytes_cmp}
use Rattle.sb_value.proofs.Searches.{find-none}
use Rattle.sb_rule.specs.declared.rule.Rule.{Rule}
use Rattle.sb_rule.specs.declared.rule.Rule.TheVariants.{TreeIndex, HashIndex, JoinIndex, Stats, Check, Refers, Trigger, Foreign}
use Rattle.sb_rule.specs.declared.rule.Side.TheVariants.{Main, Mirror}
use Rattle.sb_relation.specs.Build.{mirror_name, mirror_of}
use Rattle.sb_relation.specs.Db.{Name, Attached, Relation, Db, relation_at}
use Rattle.sb_relation.specs.Fits.{relation_of, other_relations}
use Rattle.sb_fold.specs.Building.{rule_at, without_mirrors, without_relation}
use Rattle.sb_fold.specs.Extensions.{Extensions}
use Rattle.sb_fold.specs.Fold.{attachments_at}
use Rattle.sb_plain.specs.Printing.{is_mirror}
use Rattle.sb_plain.specs.Refusing.{ties_to, first_attached}
use Rattle.sb_plain.proofs.SoundLemmas.{all_at}
use Rattle.sb_lawful.specs.Laws.{DroppedIsLawful}
use Rattle.sb_lawful.proofs.Items.{same_or_apart, each_found}
use Rattle.sb_lawful.proofs.Places.{relation_without, rule_found}
use Rattle.sb_lawful.proofs.Sparing.{Places, spare, gone_mirrors, spared_mirrors, sorted_mirrors}
use Rattle.sb_lawful.proofs.Placing.{IsWellPlaced, all_apart, to_places, of_places}
use Rattle.sb_lawful.proofs.Mirrors.{or_true, same_bool, gone_mirrors_is, gone_mirrors_from, never_main, one_main}
use Rattle.sb_lawful.proofs.Thinning.{thinned_placed}

-- ---- what isn't in use
abbrev Meant : Type 0
Meant = Name → Attached → Bool

none_of : (is_meant : Meant) (db : Db) → first_attached is_meant db ≡ None → All (λ e. All (λ a. is_meant e.0 a ≡ false) e.1.attachments) db
none_of is_meant [] e = All-nil _
none_of is_meant ((name, r) ∷ db) e = by (find (is_meant name) r.attachments) refl e (none_of is_meant db)
  where
    by : (o : Option Attached) → find (is_meant name) r.attachments ≡ o → (elim o as (λ _. Option (Name × Name)) [ None ↦ first_attached is_meant db | Some a ↦ Some (name, a.name) ]) ≡ None
        → (first_attached is_meant db ≡ None → All (λ x. All (λ a. is_meant x.0 a ≡ false) x.1.attachments) db) → All (λ x. All (λ a. is_meant x.0 a ≡ false) x.1.attachments) ((name, r) ∷ db)
    by None is none rest = All-cons (λ x. All (λ a. is_meant x.0 a ≡ false) x.1.attachments) (name, r) db (find-none (is_meant name) r.attachments is) (rest none)
    by (Some a) is none rest = absurd (cc)

-- an attachment of another relation names this one
abbrev ties : Name → Meant
ties name k a = not (bytes_eq k name) && ties_to name a.rule

untied : (db : Db) (name : Name) → first_attached (ties name) db ≡ None → (k label : Name) (a : Attached) → bytes_eq k name ≡ false → rule_at db k label ≡ Some a → ties_to name a.rule ≡ false
untied db name e k label a other found =
    ap (λ (b : Bool). not b && ties_to name a.rule) (sym other)
    ∙ rule_found (λ x. ties name k x ≡ false) db k label a (λ r there. all_at (λ n q. All (λ x. ties name n x ≡ false) q.attachments) db k r (none_of (ties name) db e) there) found

-- a rule whose mirror is on a relation names it
mirror_ties : (name k : Name) (rule mirror : Rule) → mirror_of k rule ≡ Some (name, mirror) → ties_to name rule ≡ true
mirror_ties name k (JoinIndex Main columns o others) mirror e = (bytes_same o name).1 (ap (λ (m : Name × Rule). m.0) (same_Some (o, JoinIndex Mirror others k columns) (name, mirror) e))
mirror_ties name k (Refers Main columns o others mode deferred) mirror e = (bytes_same o name).1 (ap (λ (m : Name × Rule). m.0) (same_Some (o, Refers Mirror others k columns mode deferred) (name, mirror) e))
mirror_ties name k (JoinIndex Mirror columns o others) mirror e = absurd (cc)
mirror_ties name k (Refers Mirror columns o others mode deferred) mirror e = absurd (cc)
mirror_ties name k (TreeIndex columns unique) mirror e = absurd (cc)
mirror_ties name k (HashIndex columns) mirror e = absurd (cc)
mirror_ties name k (Stats column low width) mirror e = absurd (cc)
mirror_ties name k (Check pred deferred) mirror e = absurd (cc)
mirror_ties name k (Trigger on pred act deferred) mirror e = absurd (cc)
mirror_ties name k (Foreign code desc) mirror e = absurd (cc)

-- a main instance that doesn't name a relation names others
abbrev Left : Name → Name → Type 0
Left name other = not (bytes_eq other name) ≡ true

others_left : (name : Name) (rule : Rule) → is_mirror rule ≡ false → ties_to name rule ≡ false → All (Left name) (other_relations rule)
others_left name (JoinIndex Main columns o others) main e = All-cons (Left name) o [] (not_from_false (bytes_eq o name) e) (All-nil _)
others_left name (Refers Main columns o others mode deferred) main e = All-cons (Left name) o [] (not_from_false (bytes_eq o name) e) (All-nil _)
others_left name (Trigger on pred act deferred) main e = All-cons (Left name) (relation_of act) [] (not_from_false (bytes_eq (relation_of act) name) e) (All-nil _)
others_left name (JoinIndex Mirror columns o others) main e = absurd (cc)
others_left name (Refers Mirror columns o others mode deferred) main e = absurd (cc)
others_left name (TreeIndex columns unique) main e = All-nil _
others_left name (HashIndex columns) main e = All-nil _
others_left name (Stats column low width) main e = All-nil _
others_left name (Check pred deferred) main e = All-nil _
others_left name (Foreign code desc) main e = All-nil _

-- ---- what goes
module _ (ext : Extensions) (db : Db) (name : Name) (unused : first_attached (ties name) db ≡ None) (is : IsWellPlaced ext db) where
  abbrev items : List Attached
  items = attachments_at db name

  abbrev goes : Places
  goes k l = bytes_eq k name || gone_mirrors name items k l

  all_here : All (λ a. rule_at db name a.name ≡ Some a) items
  all_here = each_found items (all_apart ext db is.made name)

  forth : (k label : Name) (main : Attached) (other : Name) (rule : Rule) → rule_at db k label ≡ Some main → mirror_of k main.rule ≡ Some (other, rule) → goes k label ≡ true → goes other (mirror_name k label) ≡ true
  forth k label main other rule there e gone = by (or_true (bytes_eq k name) (gone_mirrors name items k label) gone)
    where
      by : (bytes_eq k name ≡ true) ⊎ (gone_mirrors name items k label ≡ true) → goes other (mirror_name k label) ≡ true
      by (inl it) =
          let same : k ≡ name = (bytes_same k name).0 it in
          or_right (bytes_eq other name) (gone_mirrors name items other (mirror_name k label))
          (ap (λ (n : Name). gone_mirrors name items other (mirror_name n label)) same
          ∙ gone_mirrors_from name label items main other rule (ap (λ (n : Name). rule_at db n label) (sym same) ∙ there) (ap (λ (n : Name). mirror_of n main.rule) (sym same) ∙ e))
      by (inr it) = let mirror = gone_mirrors_is db name k label items all_here it in absurd (never_main ext db is name mirror.0 k label main other rule mirror.1 there e)

  back : (k label : Name) (main : Attached) (other : Name) (rule : Rule) → rule_at db k label ≡ Some main → mirror_of k main.rule ≡ Some (other, rule) → goes other (mirror_name k label) ≡ true → goes k label ≡ true
  back k label main other rule there e gone = or_left (bytes_eq k name) (gone_mirrors name items k label) (by (or_true (bytes_eq other name) (gone_mirrors name items other (mirror_name k label)) gone) (same_or_apart k name))
    where
      by : (bytes_eq other name ≡ true) ⊎ (gone_mirrors name items other (mirror_name k label) ≡ true) → (k ≡ name) ⊎ (bytes_eq k name ≡ false) → bytes_eq k name ≡ true
      by it (inl same) = (bytes_same k name).1 same
      by (inl it) (inr differs) =
          let none : ties_to name main.rule ≡ false = untied db name unused k label main differs there in
          let some : ties_to name main.rule ≡ true = mirror_ties name k main.rule rule (e ∙ ap (λ (n : Name). Some (n, rule)) ((bytes_same other name).0 it)) in
          absurd (cc)
      by (inr it) (inr differs) = let mirror = gone_mirrors_is db name other (mirror_name k label) items all_here it in (bytes_same k name).1 (one_main ext db is name mirror.0 k label main other rule mirror.1 there e).0

  pub dropped_placed : IsWellPlaced ext (without_relation db name)
  dropped_placed =
      thinned_placed ext (λ k. not (bytes_eq k name)) goes db (without_relation db name)
      (record {
        rising = is_sorted-where_key bytes_cmp (λ k. not (bytes_eq k name)) (without_mirrors name items db) (sorted_mirrors db name items is.rising);
        at = λ k. relation_without (without_mirrors name items db) name k ∙ ap (λ (o : Option Relation). cond (not (bytes_eq k name)) o None) ((spared_mirrors db name items).at k) ∙ by k (bytes_eq k name);
      })
      (record {
        wholly = λ k label gone. or_left (bytes_eq k name) (gone_mirrors name items k label) (true_from_ne_false (bytes_eq k name) (λ differs. let left = not_from_false (bytes_eq k name) differs in absurd (cc)));
        twins = λ k label main other rule there e. same_bool (goes k label) (goes other (mirror_name k label)) (forth k label main other rule there e) (back k label main other rule there e);
        named = λ k a there stays main.
            others_left name a.rule main (untied db name unused k a.name a (or_parts (bytes_eq k name) (gone_mirrors name items k a.name) stays).0 there);
      }) is
    where
      by : (k : Name) (b : Bool) → cond (not b) (option_map (spare (gone_mirrors name items k)) (relation_at db k)) None ≡ cond (not b) (option_map (spare (λ l. b || gone_mirrors name items k l)) (relation_at db k)) None
      by k true = refl
      by k false = refl

pub dropped-lawful : DroppedIsLawful
dropped-lawful ext db name unused lawful = of_places ext (without_relation db name) (dropped_placed ext db name unused (to_places ext db lawful))
