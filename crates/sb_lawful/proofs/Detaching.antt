-- A lawful database is lawful without a main instance and its mirror, or without another attachment that is no mirror.
use Rattle.std.proofs.Common.{◌≡◌, true, false, ◌⊎◌, inl, inr, Some, refl, sym, ap, ◌∙◌}
use Rattle.std.proofs.lemmas.Bool.{or_left, or_right}
use Rattle.std.proofs.lemmas.Option.{same_Some}
use Rattle.sb_rule.specs.declared.rule.Rule.{Rule}
use Rattle.sb_relation.specs.Build.{mirror_name, mirror_of}
use Rattle.sb_relation.specs.Db.{Name, Attached, Db}
use Rattle.sb_fold.specs.Building.{rule_at, without_attached, without_rule}
use Rattle.sb_fold.specs.Extensions.{Extensions}
use Rattle.sb_fold.specs.Fold.{attachments_at}
use Rattle.sb_plain.specs.Printing.{is_mirror}
use Rattle.sb_lawful.specs.Laws.{DetachedIsLawful}
use Rattle.sb_lawful.proofs.Items.{found_name}
use Rattle.sb_lawful.proofs.Sparing.{is_at, gone_mirror, gone_rule, spared_rule, sorted_attached, sorted_mirror}
use Rattle.sb_lawful.proofs.Placing.{IsWellPlaced, to_places, of_places}
use Rattle.sb_lawful.proofs.Mirrors.{or_true, same_bool, mirror_is, at_parts, at_from, gone_mirror_from, gone_mirror_is, Mirrored, mirrored_at, never_main, one_main}
use Rattle.sb_lawful.proofs.Thinning.{thinned_placed}

module _ (ext : Extensions) (db : Db) (name : Name) (a : Attached) (found : rule_at db name a.name ≡ Some a) (no_mirror : is_mirror a.rule ≡ false) (is : IsWellPlaced ext db) where
  -- where a main instance goes, its mirror does
  forth : (k label : Name) (main : Attached) (other : Name) (rule : Rule) → rule_at db k label ≡ Some main → mirror_of k main.rule ≡ Some (other, rule) → gone_rule name a k label ≡ true → gone_rule name a other (mirror_name k label) ≡ true
  forth k label main other rule there e goes = by (or_true (is_at name a.name k label) (gone_mirror name a.name (mirror_of name a.rule) k label) goes)
    where
      by : (is_at name a.name k label ≡ true) ⊎ (gone_mirror name a.name (mirror_of name a.rule) k label ≡ true) → gone_rule name a other (mirror_name k label) ≡ true
      by (inl it) =
          let parts : (k ≡ name) × (label ≡ a.name) = at_parts name a.name k label it in
          let same : main ≡ a = same_Some main a (sym there ∙ ap (λ (n : Name). rule_at db n label) parts.0 ∙ ap (rule_at db name) parts.1 ∙ found) in
          let mirror : mirror_of name a.rule ≡ Some (other, rule) = ap (λ (n : Name). mirror_of n a.rule) (sym parts.0) ∙ ap (λ (x : Attached). mirror_of k x.rule) (sym same) ∙ e in
          or_right (is_at name a.name other (mirror_name k label)) (gone_mirror name a.name (mirror_of name a.rule) other (mirror_name k label))
          (gone_mirror_from name a.name (mirror_of name a.rule) other rule (mirror_name k label) mirror (ap (λ (n : Name). mirror_name n label) parts.0 ∙ ap (mirror_name name) parts.1))
      by (inr it) = absurd (never_main ext db is name a k label main other rule (gone_mirror_is db name a k label found it) there e)

  -- and the other way
  back : (k label : Name) (main : Attached) (other : Name) (rule : Rule) → rule_at db k label ≡ Some main → mirror_of k main.rule ≡ Some (other, rule) → gone_rule name a other (mirror_name k label) ≡ true → gone_rule name a k label ≡ true
  back k label main other rule there e goes = by (or_true (is_at name a.name other (mirror_name k label)) (gone_mirror name a.name (mirror_of name a.rule) other (mirror_name k label)) goes)
    where
      by : (is_at name a.name other (mirror_name k label) ≡ true) ⊎ (gone_mirror name a.name (mirror_of name a.rule) other (mirror_name k label) ≡ true) → gone_rule name a k label ≡ true
      by (inl it) =
          let parts : (other ≡ name) × (mirror_name k label ≡ a.name) = at_parts name a.name other (mirror_name k label) it in
          let mirror : Mirrored db other (mirror_name k label) rule = mirrored_at ext db is k label main other rule there e in
          let same : a ≡ mirror.one = same_Some a mirror.one (sym found ∙ ap (rule_at db name) (sym parts.1) ∙ ap (λ (n : Name). rule_at db n (mirror_name k label)) (sym parts.0) ∙ mirror.stands) in
          let one : is_mirror a.rule ≡ true = ap (λ (x : Attached). is_mirror x.rule) same ∙ ap is_mirror mirror.same ∙ mirror_is k main.rule other rule e in
          absurd (cc)
      by (inr it) =
          let parts : (k ≡ name) × (label ≡ a.name) = one_main ext db is name a k label main other rule (gone_mirror_is db name a other (mirror_name k label) found it) there e in
          or_left (is_at name a.name k label) (gone_mirror name a.name (mirror_of name a.rule) k label) (at_from name a.name k label parts.0 parts.1)

  pub detached_placed : IsWellPlaced ext (without_rule db name a)
  detached_placed =
      thinned_placed ext (λ k. true) (gone_rule name a) db (without_rule db name a)
      (record { rising = sorted_mirror (without_attached db name a.name) name a.name (mirror_of name a.rule) (sorted_attached db name a.name is.rising); at = (spared_rule db name a).at })
      (record {
        wholly = λ k label none. absurd (cc);
        twins = λ k label main other rule there e. same_bool (gone_rule name a k label) (gone_rule name a other (mirror_name k label)) (forth k label main other rule there e) (back k label main other rule there e);
        named = λ k x there stays main j d below. refl;
      }) is

pub detached-lawful : DetachedIsLawful
detached-lawful ext db name label a found no_mirror lawful =
    of_places ext (without_rule db name a) (detached_placed ext db name a (ap (rule_at db name) (found_name label (attachments_at db name) a found) ∙ found) no_mirror (to_places ext db lawful))
