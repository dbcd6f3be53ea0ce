-- A main instance could be attached over the database without it and its mirror exactly where its rule may stand in the database, and the relations of
-- both hold no more than they may.
use Rattle.std.proofs.Common.{◌≡◌, ℕ, ◌+◌, Bool, true, false, ◌||◌, List, ◌∷◌, length, Option, Some, None, is_none, is_some, refl, sym, ap, ◌∙◌, arith, length-append, get_or}
use Rattle.std.specs.Prelude.{All, cond}
use Rattle.std.specs.Option.{option_or}
use Rattle.std.specs.Str.{bytes_eq}
use Rattle.std.proofs.lemmas.Bool.{and_from, and_right, or_parts, or_from, or_left, cond-true, cond-false}
use Rattle.std.proofs.lemmas.List.Elements.{All-head, All-tail, All-weaker}
use Rattle.sb_value.specs.Equal.{bytes_same}
use Rattle.sb_value.proofs.Searches.{find-none}
use Rattle.sb_rule.specs.declared.rule.Rule.{Rule}
use Rattle.sb_relation.specs.Build.{mirror_name, mirror_of, with_rule}
use Rattle.sb_relation.specs.Db.{Name, Attached, Db, relation_at}
use Rattle.sb_relation.specs.Fits.{other_relations, first_missing}
use Rattle.sb_relation.specs.Limits.{is_large_rule, is_crowded, has_large_descriptor, attached_at}
use Rattle.sb_fold.specs.Building.{rule_at, without_attached, without_mirror, without_rule, HasMirror}
use Rattle.sb_fold.specs.Extensions.{Extensions}
use Rattle.sb_fold.specs.Fold.{attachments_at}
use Rattle.sb_plain.specs.declared.command.Command.TheVariants as command
use Rattle.sb_plain.specs.Lawful.{MayBe, MayBeAttached}
use Rattle.sb_plain.specs.Printing.{is_mirror}
use Rattle.sb_plain.specs.Refusing.{some_where, rule_twice}
use Rattle.sb_lawful.proofs.Items.{found_name, itself, AreApart, Weight}
use Rattle.sb_lawful.proofs.Places.{IsAlike, weight_at, one, attached_is}
use Rattle.sb_lawful.proofs.Sparing.{is_at, gone_rule, gone_mirror, spared_attached, spared_rule, alike_spared, rule_spared, spared_apart, weight_without}
use Rattle.sb_lawful.proofs.Standing.{MayStay, may_stay, IsWithin, partner, AreWithin, within_same, partner_has, mirror_weight, ThereIn, alike_with, weight_with, crowd, large, HasOneMore, within_of, of_within}

-- ---- what an attach is tested for
pub all_there : (db : Db) (names : List Name) → first_missing db names ≡ None → All (ThereIn db) names
all_there db names e = find-none (λ name. is_none (relation_at db name)) names e

-- the relation of a rule is there, and its mirror's
pub record IsTied (db : Db) (name : Name) (rule : Rule) : Type 0 where
  pub here : ThereIn db name
  pub there : All (ThereIn db) (partner (mirror_of name rule))

pub tied : (db : Db) (name : Name) (rule : Rule) → first_missing db (name ∷ other_relations rule) ≡ None → IsTied db name rule
tied db name rule e =
    let all : All (ThereIn db) (name ∷ other_relations rule) = all_there db (name ∷ other_relations rule) e in
    record { here = All-head (ThereIn db) name (other_relations rule) all; there = partner_has (ThereIn db) name rule (All-tail (ThereIn db) name (other_relations rule) all) }

one_more : (db : Db) (name label : Name) (rule : Rule) → IsTied db name rule → HasOneMore db (with_rule db name label rule) name (mirror_of name rule)
one_more db name label rule ties =
    by (mirror_of name rule) (λ k. attached_is (with_rule db name label rule) k ∙ weight_with db name label rule ties.here ties.there one k ∙ ap (λ n. n + cond (bytes_eq k name) 1 0 + mirror_weight one name label (mirror_of name rule) k) (sym (attached_is db k)))
  where
    after : Db
    after = with_rule db name label rule

    by : (mirror : Option (Name × Rule)) → ((k : Name) → attached_at after k ≡ attached_at db k + cond (bytes_eq k name) 1 0 + mirror_weight one name label mirror k) → HasOneMore db after name mirror
    by None more = more
    by (Some (other, m)) more = more

unless_twice : (b : Bool) (label : Name) (o : Option Name) → option_or (some_where b label) o ≡ None → o ≡ None
unless_twice true label o e = absurd (cc)
unless_twice false label o e = e

-- a rule that may be attached may stand where it is attached
pub may_stand : (ext : Extensions) (db : Db) (name label : Name) (rule : Rule) → is_mirror rule ≡ false → MayBe ext db (command.Attach name label rule)
    → MayStay ext db name rule × AreWithin (with_rule db name label rule) name rule
may_stand ext db name label rule main may =
    let after : Db = with_rule db name label rule in
    let limits = or_parts (is_large_rule rule || is_crowded db name rule) (has_large_descriptor name rule after) may.within in
    let sizes = or_parts (is_large_rule rule) (is_crowded db name rule) limits.0 in (
      record { there = may.there; twice = unless_twice (is_some (rule_at db name label)) label (rule_twice rule) may.new; named = may.named; fits = may.fits; alike = may.alike; small = sizes.0 },
      within_of db after name (mirror_of name rule) (one_more db name label rule (tied db name rule may.there))
          (sym (crowd ext db name rule main may.alike) ∙ sizes.1) (sym (large after name rule main) ∙ limits.1),
    )

-- and the other way, where its name is new
pub stand_may : (ext : Extensions) (db : Db) (name label : Name) (rule : Rule) → is_mirror rule ≡ false → rule_at db name label ≡ None → MayStay ext db name rule
    → AreWithin (with_rule db name label rule) name rule → MayBe ext db (command.Attach name label rule)
stand_may ext db name label rule main new may within =
    let after : Db = with_rule db name label rule in
    let limits = of_within db after name (mirror_of name rule) (one_more db name label rule (tied db name rule may.there)) within in
    record {
      there = may.there;
      new = ap (λ (o : Option Attached). option_or (some_where (is_some o) label) (rule_twice rule)) new ∙ may.twice;
      named = may.named;
      fits = may.fits;
      alike = may.alike;
      within =
          or_from (is_large_rule rule || is_crowded db name rule) (has_large_descriptor name rule after)
          (or_from (is_large_rule rule) (is_crowded db name rule) may.small (crowd ext db name rule main may.alike ∙ limits.0)) (large after name rule main ∙ limits.1);
    }

-- ---- the database without an instance, and with it again
-- a mirror's name is longer than that of its main instance
pub mirror_other : (name label : Name) → bytes_eq (mirror_name name label) label ≡ false
mirror_other name label = by (bytes_eq (mirror_name name label) label) refl
  where
    by : (b : Bool) → bytes_eq (mirror_name name label) label ≡ b → b ≡ false
    by true e =
        let same : length (mirror_name name label) ≡ length label = ap length ((bytes_same (mirror_name name label) label).0 e) in
        let long : length (mirror_name name label) ≡ length name + length (46 ∷ label) = length-append name (46 ∷ label) in
        absurd (omega arith)
    by false e = refl

-- the mirror stands in a database without the main instance
mirror_left : (db : Db) (name label : Name) (mirror : Option (Name × Rule)) → HasMirror db (mirror_name name label) mirror → HasMirror (without_attached db name label) (mirror_name name label) mirror
mirror_left db name label None has = tt
mirror_left db name label (Some (other, rule)) has = (
  has.0,
  rule_spared (is_at name label) db (without_attached db name label) (spared_attached db name label) other (mirror_name name label)
      ∙ cond-false (is_at name label other (mirror_name name label)) None (rule_at db other (mirror_name name label)) (and_right (bytes_eq other name) (bytes_eq (mirror_name name label) label) (mirror_other name label))
      ∙ has.1,
  has.2,
)

mirror_gone : (w : Weight) (db : Db) (name label : Name) (mirror : Option (Name × Rule)) → ((k : Name) → AreApart (attachments_at db k)) → HasMirror db (mirror_name name label) mirror → (k : Name)
    → weight_at w (without_mirror name label mirror db) k + mirror_weight w name label mirror k ≡ weight_at w db k
mirror_gone w db name label None apart has k = omega arith
mirror_gone w db name label (Some (other, rule)) apart has k =
    let named : has.0.name ≡ mirror_name name label = found_name (mirror_name name label) (attachments_at db other) has.0 has.1 in
    let same = has.2 in
    let weighs : w has.0.name has.0.rule ≡ w (mirror_name name label) rule = λ i. w (named i) (same i) in
    ap (λ (n : ℕ). weight_at w (without_mirror name label (Some (other, rule)) db) k + cond (bytes_eq k other) n 0) (sym weighs) ∙ weight_without w db other (mirror_name name label) has.0 (apart other) has.1 k

module _ (db : Db) (name : Name) (a : Attached) (apart : (k : Name) → AreApart (attachments_at db k)) (found : rule_at db name a.name ≡ Some a) (mirror : HasMirror db (mirror_name name a.name) (mirror_of name a.rule)) where
  pub new_again : rule_at (without_rule db name a) name a.name ≡ None
  new_again =
      rule_spared (gone_rule name a) db (without_rule db name a) (spared_rule db name a) name a.name
      ∙ cond-true (gone_rule name a name a.name) None (rule_at db name a.name)
      (or_left (is_at name a.name name a.name) (gone_mirror name a.name (mirror_of name a.rule) name a.name) (and_from (bytes_eq name name) (bytes_eq a.name a.name) (itself name) (itself a.name)))

  pub alike_less : (k : Name) → IsAlike db (without_rule db name a) k
  alike_less = alike_spared (gone_rule name a) db (without_rule db name a) (spared_rule db name a)

  less : (w : Weight) (k : Name) → weight_at w (without_rule db name a) k + cond (bytes_eq k name) (w a.name a.rule) 0 + mirror_weight w name a.name (mirror_of name a.rule) k ≡ weight_at w db k
  less w k =
      let first = weight_without w db name a.name a apart_here found k in
      let second =
      mirror_gone w (without_attached db name a.name) name a.name (mirror_of name a.rule) (λ j. spared_apart (is_at name a.name) db (without_attached db name a.name) (spared_attached db name a.name) j (apart j))
      (mirror_left db name a.name (mirror_of name a.rule) mirror) k in
      omega arith
    where
      apart_here : AreApart (attachments_at db name)
      apart_here = apart name

  -- what is attached again weighs what it did
  pub weight_again : IsTied (without_rule db name a) name a.rule → (w : Weight) (k : Name) → weight_at w (with_rule (without_rule db name a) name a.name a.rule) k ≡ weight_at w db k
  weight_again ties w k = weight_with (without_rule db name a) name a.name a.rule ties.here ties.there w k ∙ less w k

-- ---- main instances
-- a rule that stands
pub record Stands (ext : Extensions) (db : Db) (name : Name) (rule : Rule) : Type 0 where
  pub may : MayStay ext db name rule
  pub within : AreWithin db name rule

module _ (ext : Extensions) (db : Db) (name : Name) (a : Attached) (apart : (k : Name) → AreApart (attachments_at db k)) (found : rule_at db name a.name ≡ Some a)
    (mirror : HasMirror db (mirror_name name a.name) (mirror_of name a.rule)) (main : is_mirror a.rule ≡ false) where
  pub to_stands : MayBeAttached ext db name a → Stands ext db name a.rule
  to_stands may =
      let less : Db = without_rule db name a in
      let more : Db = with_rule less name a.name a.rule in
      let stood : MayStay ext less name a.rule × AreWithin more name a.rule = may_stand ext less name a.name a.rule main (may main) in
      let ties : IsTied less name a.rule = tied less name a.rule stood.0.there in
      let alike : (k : Name) → IsAlike db less k = alike_less db name a apart found mirror in
      record {
        may = may_stay less db ext name a.rule (λ j d below. sym (alike (get_or (name ∷ other_relations a.rule) j d))) stood.0;
        within =
            All-weaker (IsWithin more) (IsWithin db)
            (λ k is. within_same more db k (sym (alike k ∙ alike_with less name a.name a.rule ties.here ties.there k)) (λ w. sym (weight_again db name a apart found mirror ties w k)) is)
            (name ∷ partner (mirror_of name a.rule)) stood.1;
      }

  pub from_stands : Stands ext db name a.rule → MayBeAttached ext db name a
  from_stands stands _ =
      let less : Db = without_rule db name a in
      let more : Db = with_rule less name a.name a.rule in
      let alike : (k : Name) → IsAlike db less k = alike_less db name a apart found mirror in
      let may : MayStay ext less name a.rule = may_stay db less ext name a.rule (λ j d below. alike (get_or (name ∷ other_relations a.rule) j d)) stands.may in
      let ties : IsTied less name a.rule = tied less name a.rule may.there in
      stand_may ext less name a.name a.rule main (new_again db name a apart found mirror) may
      (All-weaker (IsWithin db) (IsWithin more) (λ k is. within_same db more k (alike k ∙ alike_with less name a.name a.rule ties.here ties.there k) (λ w. weight_again db name a apart found mirror ties w k) is)
      (name ∷ partner (mirror_of name a.rule)) stands.within)
