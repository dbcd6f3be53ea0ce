-- Which rules may stand: what they need of columns, and how much their relations hold. So it is said of the database in which they stand, and it is
-- what an attach is tested for over the database without them.
use Rattle.std.proofs.Common.{◌≡◌, ℕ, ◌+◌, ◌≤◌, Bool, true, false, not, ◌&&◌, ◌||◌, ◌⊎◌, inl, inr, List, [], ◌∷◌, ◌++◌, Option, Some, None, is_none, refl, sym, ap, subst, ◌∙◌, arith, nat_le, leb-false}
use Rattle.std.specs.Prelude.{All, cond}
use Rattle.std.specs.Str.{bytes_eq}
use Rattle.std.proofs.lemmas.Bool.{or_parts, or_from, cond-true, cond-false, lt-leb}
use Rattle.std.proofs.lemmas.List.Elements.{All-nil, All-cons, All-head, All-tail, All-weaker}
use Rattle.sb_value.specs.declared.schema.Column.{Column}
use Rattle.sb_value.specs.Equal.{bytes_same}
use Rattle.sb_pred.specs.Typing.{term_kind, is_well_typed}
use Rattle.sb_rule.specs.declared.rule.Rule.{Rule}
use Rattle.sb_rule.specs.declared.rule.Rule.TheVariants.{TreeIndex, HashIndex, JoinIndex, Stats, Check, Refers, Trigger, Foreign}
use Rattle.sb_rule.specs.declared.rule.Side.TheVariants.{Main, Mirror}
use Rattle.sb_relation.specs.Build.{mirror_name, mirror_of, with_attached, with_mirror, with_rule}
use Rattle.sb_relation.specs.Db.{Name, Db, relation_at, schema_at}
use Rattle.sb_relation.specs.Fits.{relation_of, other_relations, first_missing, places_in, pred_places, action_places, rule_places, first_unnamed, kinds_at, are_one_kind, has_old, has_new, action_fits, rule_fits}
use Rattle.sb_relation.specs.Foreign.{AttachRules}
use Rattle.sb_relation.specs.Limits.{is_large_rule, is_crowded, has_large_descriptor, attached_at, is_large_at}
use Rattle.sb_fold.specs.Extensions.{Extensions, box_of}
use Rattle.sb_plain.specs.Printing.{is_mirror}
use Rattle.sb_plain.specs.Refusing.{rule_twice, unnamed, differ_in_life, is_mixed_rule}
use Rattle.sb_lawful.proofs.Items.{itself, same_or_apart, apart_turned, Weight}
use Rattle.sb_lawful.proofs.Places.{IsAlike, alike_there, alike_schema, alike_life, weight_at, one, size, attached_is, no_larger}
use Rattle.sb_lawful.proofs.Adding.{is_added, alike_added, weight_added}

-- ---- what a rule needs of columns
pub record MayStay (ext : Extensions) (db : Db) (name : Name) (rule : Rule) : Type 0 where
  pub there : first_missing db (name ∷ other_relations rule) ≡ None
  pub twice : rule_twice rule ≡ None
  pub named : unnamed (first_unnamed (rule_places db (schema_at db name) rule)) ≡ None
  pub fits : rule_fits (box_of ext rule) db (schema_at db name) rule ≡ true
  pub alike : is_mixed_rule ext db name rule ≡ false
  pub small : is_large_rule rule ≡ false

missing_alike : (db db' : Db) (names : List Name) → All (IsAlike db db') names → first_missing db names ≡ first_missing db' names
missing_alike db db' [] all = refl
missing_alike db db' (n ∷ names) all =
    let rest = missing_alike db db' names (All-tail (IsAlike db db') n names all) in
    λ i. cond (alike_there db db' n (All-head (IsAlike db db') n names all) i) (Some n) (rest i)

module _ (db db' : Db) where
  other_alike : (other : Name) → All (IsAlike db db') (other ∷ []) → schema_at db other ≡ schema_at db' other
  other_alike other all = alike_schema db db' other (All-head (IsAlike db db') other [] all)

  places_alike : (schema : List Column) (rule : Rule) → All (IsAlike db db') (other_relations rule) → rule_places db schema rule ≡ rule_places db' schema rule
  places_alike schema (JoinIndex side columns other others) all = ap (λ (s : List Column). places_in schema columns ++ places_in s others) (other_alike other all)
  places_alike schema (Refers side columns other others mode deferred) all = ap (λ (s : List Column). places_in schema columns ++ places_in s others) (other_alike other all)
  places_alike schema (Trigger on pred act deferred) all = ap (λ (s : List Column). pred_places schema pred ++ action_places s schema act) (other_alike (relation_of act) all)
  places_alike schema _ all = refl

  fits_alike : (box : Option AttachRules) (schema : List Column) (rule : Rule) → All (IsAlike db db') (other_relations rule) → rule_fits box db schema rule ≡ rule_fits box db' schema rule
  fits_alike box schema (JoinIndex side columns other others) all = ap (λ (s : List Column). are_one_kind (kinds_at schema columns) (kinds_at s others)) (other_alike other all)
  fits_alike box schema (Refers side columns other others mode deferred) all = ap (λ (s : List Column). are_one_kind (kinds_at schema columns) (kinds_at s others)) (other_alike other all)
  fits_alike box schema (Trigger on pred act deferred) all =
      ap (λ (s : List Column). is_well_typed schema (has_old on) (has_new on) pred && action_fits s (term_kind schema (has_old on) (has_new on)) act) (other_alike (relation_of act) all)
  fits_alike box schema _ all = refl

  differ_alike : (ext : Extensions) (a b : Name) → IsAlike db db' a → All (IsAlike db db') (b ∷ []) → differ_in_life ext db a b ≡ differ_in_life ext db' a b
  differ_alike ext a b first second =
      let one = alike_life ext db db' a first in
      let other = alike_life ext db db' b (All-head (IsAlike db db') b [] second) in
      λ i. cond (one i) (not (other i)) (other i)

  mixed_alike : (ext : Extensions) (name : Name) (rule : Rule) → IsAlike db db' name → All (IsAlike db db') (other_relations rule) → is_mixed_rule ext db name rule ≡ is_mixed_rule ext db' name rule
  mixed_alike ext name (JoinIndex side columns other others) it all = ap (λ (b : Bool). bytes_eq name other || b) (differ_alike ext name other it all)
  mixed_alike ext name (Refers side columns other others mode deferred) it all = differ_alike ext name other it all
  mixed_alike ext name (Trigger on pred act deferred) it all = differ_alike ext name (relation_of act) it all
  mixed_alike ext name _ it all = refl

  -- where the relations that the rule names have the same columns and lives
  pub may_stay : (ext : Extensions) (name : Name) (rule : Rule) → All (IsAlike db db') (name ∷ other_relations rule) → MayStay ext db name rule → MayStay ext db' name rule
  may_stay ext name rule all may =
      let it : IsAlike db db' name = All-head (IsAlike db db') name (other_relations rule) all in
      let others : All (IsAlike db db') (other_relations rule) = All-tail (IsAlike db db') name (other_relations rule) all in
      let schema : schema_at db name ≡ schema_at db' name = alike_schema db db' name it in
      record {
        there = sym (missing_alike db db' (name ∷ other_relations rule) all) ∙ may.there;
        twice = may.twice;
        named = sym (ap (λ places. unnamed (first_unnamed places)) (places_alike (schema_at db name) rule others ∙ ap (λ (s : List Column). rule_places db' s rule) schema)) ∙ may.named;
        fits = sym (fits_alike (box_of ext rule) (schema_at db name) rule others ∙ ap (λ (s : List Column). rule_fits (box_of ext rule) db' s rule) schema) ∙ may.fits;
        alike = sym (mixed_alike ext name rule it others) ∙ may.alike;
        small = may.small;
      }

-- ---- how much relations hold
pub record IsWithin (db : Db) (name : Name) : Type 0 where
  pub few : attached_at db name ≤ 16
  pub small : is_large_at db name ≡ false

-- the relation of the mirror
abbrev pub partner : Option (Name × Rule) → List Name
partner None = []
partner (Some (other, rule)) = other ∷ []

abbrev pub AreWithin : Db → Name → Rule → Type 0
AreWithin db name rule = All (IsWithin db) (name ∷ partner (mirror_of name rule))

pub within_lighter : (db db' : Db) (k : Name) → IsAlike db db' k → ((w : Weight) → weight_at w db' k ≤ weight_at w db k) → IsWithin db k → IsWithin db' k
within_lighter db db' k alike lighter is =
    let now = attached_is db' k in
    let then = attached_is db k in
    let less = lighter one in
    let few = is.few in
    record { few = omega arith; small = no_larger db db' k alike (lighter size) is.small }

pub within_same : (db db' : Db) (k : Name) → IsAlike db db' k → ((w : Weight) → weight_at w db' k ≡ weight_at w db k) → IsWithin db k → IsWithin db' k
within_same db db' k alike same is = within_lighter db db' k alike (λ w. let e = same w in omega arith) is

-- what all other relations of a rule have its mirror's relation has
pub partner_has : (P : Name → Type 0) (name : Name) (rule : Rule) → All P (other_relations rule) → All P (partner (mirror_of name rule))
partner_has P name (JoinIndex Main columns other others) all = all
partner_has P name (Refers Main columns other others mode deferred) all = all
partner_has P name (JoinIndex Mirror columns other others) all = All-nil _
partner_has P name (Refers Mirror columns other others mode deferred) all = All-nil _
partner_has P name (TreeIndex columns unique) all = All-nil _
partner_has P name (HashIndex columns) all = All-nil _
partner_has P name (Stats column low width) all = All-nil _
partner_has P name (Check pred deferred) all = All-nil _
partner_has P name (Trigger on pred act deferred) all = All-nil _
partner_has P name (Foreign code desc) all = All-nil _

-- ---- sums with and without a rule and its mirror
abbrev pub mirror_weight : Weight → Name → Name → Option (Name × Rule) → Name → ℕ
mirror_weight w name label None k = 0
mirror_weight w name label (Some (other, rule)) k = cond (bytes_eq k other) (w (mirror_name name label) rule) 0

abbrev pub ThereIn : Db → Name → Type 0
ThereIn db k = is_none (relation_at db k) ≡ false

pub alike_mirror : (db : Db) (name label : Name) (mirror : Option (Name × Rule)) → All (ThereIn db) (partner mirror) → (k : Name) → IsAlike db (with_mirror db name label mirror) k
alike_mirror db name label None there k = refl
alike_mirror db name label (Some (other, rule)) there k =
    alike_added other (mirror_name name label) rule db (with_attached db other (mirror_name name label) rule) (is_added db other (mirror_name name label) rule (All-head (ThereIn db) other [] there)) k

weight_mirror : (w : Weight) (db : Db) (name label : Name) (mirror : Option (Name × Rule)) → All (ThereIn db) (partner mirror) → (k : Name)
    → weight_at w (with_mirror db name label mirror) k ≡ weight_at w db k + mirror_weight w name label mirror k
weight_mirror w db name label None there k = omega arith
weight_mirror w db name label (Some (other, rule)) there k =
    weight_added other (mirror_name name label) rule db (with_attached db other (mirror_name name label) rule) (is_added db other (mirror_name name label) rule (All-head (ThereIn db) other [] there)) w k

-- with a rule, where its relations are there
module _ (db : Db) (name label : Name) (rule : Rule) (it : ThereIn db name) (there : All (ThereIn db) (partner (mirror_of name rule))) where
  pub alike_first : (k : Name) → IsAlike db (with_attached db name label rule) k
  alike_first = alike_added name label rule db (with_attached db name label rule) (is_added db name label rule it)

  pub still_there : All (ThereIn (with_attached db name label rule)) (partner (mirror_of name rule))
  still_there = All-weaker (ThereIn db) (ThereIn (with_attached db name label rule)) (λ k is. sym (alike_there db (with_attached db name label rule) k (alike_first k)) ∙ is) (partner (mirror_of name rule)) there

  pub alike_with : (k : Name) → IsAlike db (with_rule db name label rule) k
  alike_with k = alike_first k ∙ alike_mirror (with_attached db name label rule) name label (mirror_of name rule) still_there k

  pub weight_with : (w : Weight) (k : Name) → weight_at w (with_rule db name label rule) k ≡ weight_at w db k + cond (bytes_eq k name) (w label rule) 0 + mirror_weight w name label (mirror_of name rule) k
  weight_with w k =
      weight_mirror w (with_attached db name label rule) name label (mirror_of name rule) still_there k
      ∙ ap (λ (n : ℕ). n + mirror_weight w name label (mirror_of name rule) k) (weight_added name label rule db (with_attached db name label rule) (is_added db name label rule it) w k)

-- ---- limits of an attach
abbrev pub crowd_by : Db → Name → Option (Name × Rule) → Bool
crowd_by db name None = nat_le 16 (attached_at db name)
crowd_by db name (Some (other, rule)) = cond (bytes_eq name other) (nat_le 15 (attached_at db name)) (nat_le 16 (attached_at db name) || nat_le 16 (attached_at db other))

pub crowd : (ext : Extensions) (db : Db) (name : Name) (rule : Rule) → is_mirror rule ≡ false → is_mixed_rule ext db name rule ≡ false → is_crowded db name rule ≡ crowd_by db name (mirror_of name rule)
crowd ext db name (JoinIndex Main columns other others) main unmixed =
    sym (cond-false (bytes_eq name other) (nat_le 15 (attached_at db name)) (nat_le 16 (attached_at db name) || nat_le 16 (attached_at db other)) (or_parts (bytes_eq name other) (differ_in_life ext db name other) unmixed).0)
crowd ext db name (Refers Main columns other others mode deferred) main unmixed = refl
crowd ext db name (JoinIndex Mirror columns other others) main unmixed = absurd (cc)
crowd ext db name (Refers Mirror columns other others mode deferred) main unmixed = absurd (cc)
crowd ext db name (TreeIndex columns unique) main unmixed = refl
crowd ext db name (HashIndex columns) main unmixed = refl
crowd ext db name (Stats column low width) main unmixed = refl
crowd ext db name (Check pred deferred) main unmixed = refl
crowd ext db name (Trigger on pred act deferred) main unmixed = refl
crowd ext db name (Foreign code desc) main unmixed = refl

abbrev pub large_by : Db → Name → Option (Name × Rule) → Bool
large_by db name None = is_large_at db name
large_by db name (Some (other, rule)) = is_large_at db name || is_large_at db other

pub large : (db : Db) (name : Name) (rule : Rule) → is_mirror rule ≡ false → has_large_descriptor name rule db ≡ large_by db name (mirror_of name rule)
large db name (JoinIndex Main columns other others) main = refl
large db name (Refers Main columns other others mode deferred) main = refl
large db name (JoinIndex Mirror columns other others) main = absurd (cc)
large db name (Refers Mirror columns other others mode deferred) main = absurd (cc)
large db name (TreeIndex columns unique) main = refl
large db name (HashIndex columns) main = refl
large db name (Stats column low width) main = refl
large db name (Check pred deferred) main = refl
large db name (Trigger on pred act deferred) main = refl
large db name (Foreign code desc) main = refl

-- the second database has one attachment more on the relation, and one on the mirror's
abbrev pub HasOneMore : Db → Db → Name → Option (Name × Rule) → Type 0
HasOneMore db db' name None = (k : Name) → attached_at db' k ≡ attached_at db k + cond (bytes_eq k name) 1 0 + 0
HasOneMore db db' name (Some (other, rule)) = (k : Name) → attached_at db' k ≡ attached_at db k + cond (bytes_eq k name) 1 0 + cond (bytes_eq k other) 1 0

counts : (b : Bool) → b ≡ true → ◌≡◌ {A = ℕ} (cond b 1 0) 1
counts b e = cond-true b 1 0 e

counts_not : (b : Bool) → b ≡ false → ◌≡◌ {A = ℕ} (cond b 1 0) 0
counts_not b e = cond-false b 1 0 e

here : (k : Name) → ◌≡◌ {A = ℕ} (cond (bytes_eq k k) 1 0) 1
here k = counts (bytes_eq k k) (itself k)

pub within_of : (db db' : Db) (name : Name) (mirror : Option (Name × Rule)) → HasOneMore db db' name mirror → crowd_by db name mirror ≡ false → large_by db' name mirror ≡ false
    → All (IsWithin db') (name ∷ partner mirror)
within_of db db' name None more few small =
    let count = more name in
    let this = here name in
    let below = leb-false 16 (attached_at db name) few in
    All-cons (IsWithin db') name [] (record { few = omega arith; small = small }) (All-nil _)
within_of db db' name (Some (other, rule)) more few small = by (same_or_apart name other)
  where
    sizes : (is_large_at db' name ≡ false) × (is_large_at db' other ≡ false)
    sizes = or_parts (is_large_at db' name) (is_large_at db' other) small

    by : (name ≡ other) ⊎ (bytes_eq name other ≡ false) → All (IsWithin db') (name ∷ other ∷ [])
    by (inl same) =
        let both : bytes_eq name other ≡ true = (bytes_same name other).1 same in
        let count = more name in
        let this = here name in
        let that = counts (bytes_eq name other) both in
        let below = leb-false 15 (attached_at db name) (sym (cond-true (bytes_eq name other) (nat_le 15 (attached_at db name)) (nat_le 16 (attached_at db name) || nat_le 16 (attached_at db other)) both) ∙ few) in
        let first : IsWithin db' name = record { few = omega arith; small = sizes.0 } in
        All-cons (IsWithin db') name (other ∷ []) first (All-cons (IsWithin db') other [] (subst (IsWithin db') same first) (All-nil _))
    by (inr differs) =
        let parts =
        or_parts (nat_le 16 (attached_at db name)) (nat_le 16 (attached_at db other))
        (sym (cond-false (bytes_eq name other) (nat_le 15 (attached_at db name)) (nat_le 16 (attached_at db name) || nat_le 16 (attached_at db other)) differs) ∙ few) in
        let below = leb-false 16 (attached_at db name) parts.0 in
        let beneath = leb-false 16 (attached_at db other) parts.1 in
        let count = more name in
        let this = here name in
        let that = counts_not (bytes_eq name other) differs in
        let counted = more other in
        let here' = here other in
        let there' = counts_not (bytes_eq other name) (apart_turned name other differs) in
        All-cons (IsWithin db') name (other ∷ []) (record { few = omega arith; small = sizes.0 }) (All-cons (IsWithin db') other [] (record { few = omega arith; small = sizes.1 }) (All-nil _))

pub of_within : (db db' : Db) (name : Name) (mirror : Option (Name × Rule)) → HasOneMore db db' name mirror → All (IsWithin db') (name ∷ partner mirror)
    → (crowd_by db name mirror ≡ false) × (large_by db' name mirror ≡ false)
of_within db db' name None more all =
    let first = All-head (IsWithin db') name [] all in
    let count = more name in
    let this = here name in
    let few = first.few in
    (lt-leb 16 (attached_at db name) (omega arith), first.small)
of_within db db' name (Some (other, rule)) more all = (by (same_or_apart name other), or_from (is_large_at db' name) (is_large_at db' other) first.small second.small)
  where
    first : IsWithin db' name
    first = All-head (IsWithin db') name (other ∷ []) all

    second : IsWithin db' other
    second = All-head (IsWithin db') other [] (All-tail (IsWithin db') name (other ∷ []) all)

    by : (name ≡ other) ⊎ (bytes_eq name other ≡ false) → crowd_by db name (Some (other, rule)) ≡ false
    by (inl same) =
        let both : bytes_eq name other ≡ true = (bytes_same name other).1 same in
        let count = more name in
        let this = here name in
        let that = counts (bytes_eq name other) both in
        let few = first.few in
        cond-true (bytes_eq name other) (nat_le 15 (attached_at db name)) (nat_le 16 (attached_at db name) || nat_le 16 (attached_at db other)) both ∙ lt-leb 15 (attached_at db name) (omega arith)
    by (inr differs) =
        let few = first.few in
        let least = second.few in
        let count = more name in
        let this = here name in
        let that = counts_not (bytes_eq name other) differs in
        let counted = more other in
        let here' = here other in
        let there' = counts_not (bytes_eq other name) (apart_turned name other differs) in
        cond-false (bytes_eq name other) (nat_le 15 (attached_at db name)) (nat_le 16 (attached_at db name) || nat_le 16 (attached_at db other)) differs
        ∙ or_from (nat_le 16 (attached_at db name)) (nat_le 16 (attached_at db other)) (lt-leb 16 (attached_at db name) (omega arith)) (lt-leb 16 (attached_at db other) (omega arith))
