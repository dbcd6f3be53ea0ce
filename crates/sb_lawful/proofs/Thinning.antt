-- A lawful database without some relations and attachments is lawful, where main instances go with their mirrors, and no rule that stays names a relation
-- that goes.
use Rattle.std.proofs.Common.{◌≡◌, ℕ, ◌≤◌, ◌==◌, Bool, true, false, not, ◌&&◌, ◌||◌, T, List, [], ◌∷◌, length, nat_lt, Option, Some, None, option_map, refl, sym, ap, subst, ◌∙◌, arith}
use Rattle.std.specs.Prelude.{All, cond}
use Rattle.std.specs.List.{find, list_any}
use Rattle.std.specs.FinMap.Entries.{is_sorted}
use Rattle.std.proofs.lemmas.Bool.{or_parts, cond-true, cond-false}
use Rattle.std.proofs.lemmas.List.Elements.{All-cons, All-weaker}
use Rattle.std.proofs.lemmas.Option.{same_Some}
use Rattle.sb_value.specs.Order.{bytes_cmp}
use Rattle.sb_rule.specs.declared.rule.Rule.{Rule}
use Rattle.sb_relation.specs.Build.{mirror_name, mirror_of}
use Rattle.sb_relation.specs.Db.{Name, Key, Row, Attached, Relation, Db, relation_at, tree}
use Rattle.sb_relation.specs.Fits.{other_relations}
use Rattle.sb_relation.specs.Lawful.{is_long_row, is_long_code, is_long_for}
use Rattle.sb_relation.specs.Limits.{descriptor_len}
use Rattle.sb_fold.specs.Building.{rule_at, HasMirror}
use Rattle.sb_fold.specs.Extensions.{Extensions}
use Rattle.sb_plain.specs.Lawful.{IsMirrorOf, IsRowOf}
use Rattle.sb_plain.specs.Printing.{is_mirror}
use Rattle.sb_lawful.proofs.Items.{is_named, find_spared, spared, Weight, weight, weight-filter, filter_apart, filter_in_order, any_filter}
use Rattle.sb_lawful.proofs.Places.{items_in, with_items, IsAlike, weight_at}
use Rattle.sb_lawful.proofs.Sparing.{Places, spare}
use Rattle.sb_lawful.proofs.Standing.{may_stay, IsWithin, partner, within_lighter}
use Rattle.sb_lawful.proofs.Attachable.{Stands}
use Rattle.sb_lawful.proofs.Placing.{IsMade, IsPlaced, IsWellPlaced}

-- these relations are left, without the attachments that are gone
pub record IsThinned (left : Name → Bool) (gone : Places) (db db' : Db) : Type 0 where
  pub rising : T (is_sorted bytes_cmp db')
  pub at : (k : Name) → relation_at db' k ≡ cond (left k) (option_map (spare (gone k)) (relation_at db k)) None

-- what goes may go
pub record MayGo (left : Name → Bool) (gone : Places) (db : Db) : Type 0 where
  -- all attachments of a relation go with it
  pub wholly : (k label : Name) → left k ≡ false → gone k label ≡ true
  -- a main instance and its mirror go together
  pub twins : (k label : Name) (main : Attached) (other : Name) (rule : Rule) → rule_at db k label ≡ Some main → mirror_of k main.rule ≡ Some (other, rule) → gone k label ≡ gone other (mirror_name k label)
  -- the relations that a rule names are left
  pub named : (k : Name) (a : Attached) → rule_at db k a.name ≡ Some a → gone k a.name ≡ false → is_mirror a.rule ≡ false → All (λ other. left other ≡ true) (other_relations a.rule)

-- ---- relations for themselves
-- a row fits with other attachments, where it isn't too long for them
pub row_with : (r : Relation) (items : List Attached) (key : Key) (row : Row) → (list_any (λ a. is_long_for r.schema row a.rule) r.attachments ≡ false → list_any (λ a. is_long_for r.schema row a.rule) items ≡ false)
    → IsRowOf r key row → IsRowOf (with_items items r) key row
row_with r items key row keeps is =
    let parts = or_parts (is_long_row r.schema row || (r.method == tree && is_long_code r.schema r.key row)) (list_any (λ a. is_long_for r.schema row a.rule) r.attachments) is.short in
    record {
      stored = is.stored;
      short = ap (λ (b : Bool). is_long_row r.schema row || (r.method == tree && is_long_code r.schema r.key row) || b) (keeps parts.1 ∙ sym parts.1) ∙ is.short;
      keyed = is.keyed;
      coded = is.coded;
    }

made_less : (ext : Extensions) (name : Name) (gone : Name → Bool) (r : Relation) → IsMade ext name r → IsMade ext name (spare gone r)
made_less ext name gone r is =
    let keeps : Attached → Bool = λ a. not (gone a.name) in
    record {
      created = is.created;
      in_order = filter_in_order keeps r.attachments is.in_order;
      apart = filter_apart keeps r.attachments is.apart;
      rising = is.rising;
      rows = All-weaker (λ (row : Key × Row). IsRowOf r row.0 row.1) (λ (row : Key × Row). IsRowOf (spare gone r) row.0 row.1)
          (λ row. row_with r (spared gone r.attachments) row.0 row.1 (any_filter (λ a. is_long_for r.schema row.1 a.rule) keeps r.attachments)) r.rows is.rows;
    }

-- ---- one relation of a thinned database
made_in : (ext : Extensions) (k : Name) (b : Bool) (gone : Name → Bool) (o : Option Relation) → ((r : Relation) → o ≡ Some r → IsMade ext k r) → (q : Relation) → cond b (option_map (spare gone) o) None ≡ Some q → IsMade ext k q
made_in ext k true gone (Some r) made q e = subst (IsMade ext k) (same_Some (spare gone r) q e) (made_less ext k gone r (made r refl))
made_in ext k true gone None made q e = absurd (cc)
made_in ext k false gone o made q e = absurd (cc)

-- fewer attachments weigh no more
spare_lighter : (w : Weight) (gone : Name → Bool) (o : Option Relation) → weight w (items_in (option_map (spare gone) o)) ≤ weight w (items_in o)
spare_lighter w gone None = omega arith
spare_lighter w gone (Some r) = weight-filter w (λ a. not (gone a.name)) r.attachments

-- an attachment that is found in it
record WasThere (b : Bool) (g : Bool) (o : Option Attached) (a : Attached) : Type 0 where
  left : b ≡ true
  stays : g ≡ false
  found : o ≡ Some a

was_there : (b g : Bool) (o : Option Attached) (a : Attached) → cond b (cond g None o) None ≡ Some a → WasThere b g o a
was_there true true o a e = absurd (cc)
was_there true false o a e = record { left = refl; stays = refl; found = e }
was_there false g o a e = absurd (cc)

module _ (ext : Extensions) (left : Name → Bool) (gone : Places) (db db' : Db) (is : IsThinned left gone db db') (may : MayGo left gone db) where
  rule_thinned : (k label : Name) → rule_at db' k label ≡ cond (left k) (cond (gone k label) None (rule_at db k label)) None
  rule_thinned k label = ap (λ (o : Option Relation). find (is_named label) (items_in o)) (is.at k) ∙ by (left k) (relation_at db k)
    where
      by : (b : Bool) (o : Option Relation) → find (is_named label) (items_in (cond b (option_map (spare (gone k)) o) None)) ≡ cond b (cond (gone k label) None (find (is_named label) (items_in o))) None
      by true None = find_spared (gone k) label []
      by true (Some r) = find_spared (gone k) label r.attachments
      by false o = refl

  left_of : (k label : Name) → gone k label ≡ false → left k ≡ true
  left_of k label stays = by (left k) refl
    where
      by : (b : Bool) → left k ≡ b → b ≡ true
      by true e = refl
      by false e = let goes = may.wholly k label e in absurd (cc)

  -- what isn't gone is still found
  still : (k label : Name) (a : Attached) → rule_at db k label ≡ Some a → gone k label ≡ false → rule_at db' k label ≡ Some a
  still k label a found stays =
      rule_thinned k label ∙ cond-true (left k) (cond (gone k label) None (rule_at db k label)) None (left_of k label stays)
      ∙ cond-false (gone k label) None (rule_at db k label) stays ∙ found

  left_same : (k : Name) → left k ≡ true → relation_at db' k ≡ option_map (spare (gone k)) (relation_at db k)
  left_same k stays = is.at k ∙ cond-true (left k) (option_map (spare (gone k)) (relation_at db k)) None stays

  left_alike : (k : Name) → left k ≡ true → IsAlike db db' k
  left_alike k stays = sym (ap (option_map (with_items [])) (left_same k stays) ∙ by (relation_at db k))
    where
      by : (o : Option Relation) → option_map (with_items []) (option_map (spare (gone k)) o) ≡ option_map (with_items []) o
      by None = refl
      by (Some r) = refl

  -- a relation holds no more than before
  still_within : (k : Name) → IsWithin db k → IsWithin db' k
  still_within k within = by (left k) refl
    where
      by : (b : Bool) → left k ≡ b → IsWithin db' k
      by true e = within_lighter db db' k (left_alike k e) (λ w. lighter w e) within
        where
          lighter : (w : Weight) → left k ≡ true → weight_at w db' k ≤ weight_at w db k
          lighter w stays =
              let same = ap (λ (o : Option Relation). weight w (items_in o)) (left_same k stays) in
              let less = spare_lighter w (gone k) (relation_at db k) in
              omega arith
      by false e =
          let none : relation_at db' k ≡ None = is.at k ∙ cond-false (left k) (option_map (spare (gone k)) (relation_at db k)) None e in
          let count = ap (λ (o : Option Relation). elim o as (λ _. ℕ) [ None ↦ 0 | Some r ↦ length r.attachments ]) none in
          record { few = omega arith; small = ap (λ (o : Option Relation). elim o as (λ _. Bool) [ None ↦ false | Some r ↦ nat_lt 1900 (descriptor_len r) ]) none }

  mirror_still : (k : Name) (a : Attached) (mirror : Option (Name × Rule)) → mirror_of k a.rule ≡ mirror → rule_at db k a.name ≡ Some a → gone k a.name ≡ false → HasMirror db (mirror_name k a.name) mirror
      → HasMirror db' (mirror_name k a.name) mirror
  mirror_still k a None e found stays has = tt
  mirror_still k a (Some (other, rule)) e found stays has = (has.0, still other (mirror_name k a.name) has.0 has.1 (sym (may.twins k a.name a other rule found e) ∙ stays), has.2)

  main_still : (k : Name) (a : Attached) → gone k a.name ≡ false → IsMirrorOf db k a → IsMirrorOf db' k a
  main_still k a stays main = record {
    other = main.other;
    main = main.main;
    stands = still main.other main.main.name main.main main.stands (may.twins main.other main.main.name main.main k a.rule main.stands main.mirror ∙ ap (gone k) (sym main.label) ∙ stays);
    label = main.label;
    mirror = main.mirror;
  }

  pub thinned_placed : IsWellPlaced ext db → IsWellPlaced ext db'
  thinned_placed was = record {
    rising = is.rising;
    made = λ k q there. made_in ext k (left k) (gone k) (relation_at db k) (λ r is_r. was.made k r is_r) q (sym (is.at k) ∙ there);
    placed = λ k a found. placed k a (was_there (left k) (gone k a.name) (rule_at db k a.name) a (sym (rule_thinned k a.name) ∙ found));
  }
    where
      placed : (k : Name) (a : Attached) → WasThere (left k) (gone k a.name) (rule_at db k a.name) a → IsPlaced ext db' k a
      placed k a it =
          let old : IsPlaced ext db k a = was.placed k a it.found in
          record {
            stands = λ main. let stood : Stands ext db k a.rule = old.stands main in record {
              may = may_stay db db' ext k a.rule
                  (All-weaker (λ o. left o ≡ true) (IsAlike db db') left_alike (k ∷ other_relations a.rule) (All-cons (λ o. left o ≡ true) k (other_relations a.rule) it.left (may.named k a it.found it.stays main))) stood.may;
              within = All-weaker (IsWithin db) (IsWithin db') still_within (k ∷ partner (mirror_of k a.rule)) stood.within;
            };
            mirrored = mirror_still k a (mirror_of k a.rule) refl it.found it.stays old.mirrored;
            main = λ mirror. main_still k a it.stays (old.main mirror);
          }
