-- A lawful database is lawful with a rule that may be attached, and its mirror, where the names of both are new and no row is too long for it.
use Rattle.std.proofs.Common.{◌≡◌, ℕ, ◌+◌, Bool, true, false, T, ◌⊎◌, inl, inr, List, [], ◌∷◌, Option, Some, None, is_some, refl, sym, ap, subst, ◌∙◌, arith, get_or}
use Rattle.std.specs.Prelude.{All, cond}
use Rattle.std.specs.List.{find, list_any}
use Rattle.std.specs.Option.{option_or}
use Rattle.std.specs.Str.{bytes_eq}
use Rattle.std.specs.FinMap.Entries.{is_sorted}
use Rattle.std.proofs.lemmas.Bool.{or_parts, cond-false, true≢false}
use Rattle.std.proofs.lemmas.List.Elements.{All-nil, All-cons, All-head, All-tail, All-weaker}
use Rattle.std.proofs.lemmas.Option.{same_Some}
use Rattle.sb_value.specs.declared.schema.Column.{Column}
use Rattle.sb_value.specs.Equal.{bytes_same}
use Rattle.sb_value.specs.Order.{bytes_cmp}
use Rattle.sb_value.proofs.Searches.{find-none}
use Rattle.sb_rule.specs.declared.rule.Rule.{Rule}
use Rattle.sb_rule.specs.declared.rule.Rule.TheVariants.{TreeIndex, HashIndex, JoinIndex, Stats, Check, Refers, Trigger, Foreign}
use Rattle.sb_relation.specs.Build.{mirror_name, mirror_of, with_instance, with_attached, with_mirror, with_rule}
use Rattle.sb_relation.specs.Db.{Name, Key, Row, Rows, Attached, Relation, Db, relation_at}
use Rattle.sb_relation.specs.Fits.{other_relations}
use Rattle.sb_relation.specs.Lawful.{is_long_for}
use Rattle.sb_fold.specs.Building.{rule_at, has_long_row, HasMirror}
use Rattle.sb_fold.specs.Extensions.{Extensions}
use Rattle.sb_fold.specs.Fold.{attachments_at}
use Rattle.sb_plain.specs.declared.command.Command.TheVariants as command
use Rattle.sb_plain.specs.Lawful.{MayBe, IsMirrorOf}
use Rattle.sb_plain.specs.Printing.{is_mirror}
use Rattle.sb_plain.specs.Refusing.{some_where, rule_twice}
use Rattle.sb_lawful.specs.Laws.{IsFreeFor, IsMirrorFree, AttachedIsLawful}
use Rattle.sb_lawful.proofs.Items.{is_named, found_name, same_or_apart, instance_in_order, instance_apart, any_instance, Weight}
use Rattle.sb_lawful.proofs.Places.{with_items, IsAlike, weight_at, attachments_in}
use Rattle.sb_lawful.proofs.Adding.{IsAdded, new_of, is_added, sorted_added, rule_new, rule_kept, rule_was}
use Rattle.sb_lawful.proofs.Standing.{MayStay, may_stay, IsWithin, partner, AreWithin, within_same, mirror_weight, ThereIn, still_there, alike_with, weight_with}
use Rattle.sb_lawful.proofs.Attachable.{IsTied, tied, may_stand, mirror_other, Stands}
use Rattle.sb_lawful.proofs.Placing.{IsMade, IsPlaced, IsWellPlaced, to_places, of_places}
use Rattle.sb_lawful.proofs.Mirrors.{mirror_is, mirror_none}
use Rattle.sb_lawful.proofs.Thinning.{row_with}

-- ---- relations for themselves
none_any : {A : Type 0} (test : A → Bool) (xs : List A) → list_any test xs ≡ false → All (λ x. test x ≡ false) xs
none_any test [] e = All-nil _
none_any test (x ∷ xs) e = let parts = or_parts (test x) (list_any test xs) e in All-cons (λ y. test y ≡ false) x xs parts.0 (none_any test xs parts.1)

-- no row of the relation is too long for the rule
abbrev AreShort : Db → Name → Rule → Type 0
AreShort db name rule = (r : Relation) → relation_at db name ≡ Some r → All (λ row. is_long_for r.schema row.1 rule ≡ false) r.rows

are_short : (db : Db) (name : Name) (rule : Rule) → has_long_row db name rule ≡ false → AreShort db name rule
are_short db name rule e r there =
    none_any (λ row. is_long_for r.schema row.1 rule) r.rows
    (sym (ap (λ (o : Option Relation). list_any (λ row. is_long_for (elim o as (λ _. List Column) [ None ↦ [] | Some q ↦ q.schema ]) row.1 rule) (elim o as (λ _. Rows) [ None ↦ [] | Some q ↦ q.rows ])) there) ∙ e)

-- a mirror keeps no code of a row
mirror_short : (schema : List Column) (row : Row) (rule : Rule) → is_mirror rule ≡ true → is_long_for schema row rule ≡ false
mirror_short schema row (JoinIndex side columns o others) e = refl
mirror_short schema row (Refers side columns o others mode deferred) e = refl
mirror_short schema row (TreeIndex columns unique) e = absurd (cc)
mirror_short schema row (HashIndex columns) e = absurd (cc)
mirror_short schema row (Stats column low width) e = refl
mirror_short schema row (Check pred deferred) e = refl
mirror_short schema row (Trigger on pred act deferred) e = refl
mirror_short schema row (Foreign code desc) e = refl

abbrev AllMade : Extensions → Db → Type 0
AllMade ext db = (k : Name) (r : Relation) → relation_at db k ≡ Some r → IsMade ext k r

made_more : (ext : Extensions) (name label : Name) (rule : Rule) (db db' : Db) → IsAdded name label rule db db' → rule_at db name label ≡ None → AreShort db name rule → AllMade ext db → AllMade ext db'
made_more ext name label rule db db' is new short made k q there = by (same_or_apart k name)
  where
    one : Attached
    one = new_of label rule is.buckets

    own : IsMade ext name is.old
    own = made name is.old is.there

    more : IsMade ext name (with_items (with_instance one is.old.attachments) is.old)
    more = record {
      created = own.created;
      in_order = instance_in_order one is.old.attachments own.in_order;
      apart = instance_apart one is.old.attachments (find-none (is_named label) is.old.attachments (sym (ap (find (is_named label)) (attachments_in db name is.old is.there)) ∙ new)) own.apart;
      rising = own.rising;
      rows = λ j d below.
          let row : Key × Row = get_or is.old.rows j d in
          row_with is.old (with_instance one is.old.attachments) row.0 row.1 (any_instance (λ a. is_long_for is.old.schema row.1 a.rule) one is.old.attachments (short is.old is.there j d below)) (own.rows j d below);
    }

    by : (k ≡ name) ⊎ (bytes_eq k name ≡ false) → IsMade ext k q
    by (inl same) =
        let it : with_items (with_instance one is.old.attachments) is.old ≡ q = same_Some (with_items (with_instance one is.old.attachments) is.old) q (sym (ap (relation_at db') same ∙ is.here) ∙ there) in
        subst (λ (n : Name). IsMade ext n q) (sym same) (subst (IsMade ext name) it more)
    by (inr differs) = made k q (sym (is.elsewhere k differs) ∙ there)

-- ---- a rule and its mirror
-- what stood stands, and besides the new instance and its mirror alone
pub record IsWith (db db' : Db) (name label : Name) (rule : Rule) : Type 0 where
  pub buckets : ℕ
  pub stands : rule_at db' name label ≡ Some (new_of label rule buckets)
  pub mirrored : HasMirror db' (mirror_name name label) (mirror_of name rule)
  pub kept : (k l : Name) (a : Attached) → rule_at db k l ≡ Some a → rule_at db' k l ≡ Some a
  pub was : (k l : Name) (a : Attached) → rule_at db' k l ≡ Some a → (rule_at db k l ≡ Some a) ⊎ (((k ≡ name) × (a ≡ new_of label rule buckets)) ⊎ (IsMirrorOf db' k a × (is_mirror a.rule ≡ true)))

-- the mirror's name is new beside the main instance, too
free_still : (name label : Name) (rule : Rule) (db first : Db) → IsAdded name label rule db first → rule_at db name label ≡ None → (other : Name) → rule_at db other (mirror_name name label) ≡ None
    → rule_at first other (mirror_name name label) ≡ None
free_still name label rule db first is new other free = by (rule_at first other (mirror_name name label)) refl
  where
    by : (o : Option Attached) → rule_at first other (mirror_name name label) ≡ o → o ≡ None
    by None e = refl
    by (Some a) e = absurd (never (rule_was name label rule db first is new other (mirror_name name label) a e))
      where
        never : (rule_at db other (mirror_name name label) ≡ Some a) ⊎ ((other ≡ name) × (a ≡ new_of label rule is.buckets)) → ⊥
        never (inl stood) = absurd (cc)
        never (inr it) =
            let named : label ≡ mirror_name name label = ap (λ (x : Attached). x.name) (sym it.1) ∙ found_name (mirror_name name label) (attachments_at first other) a e in
            let one : bytes_eq (mirror_name name label) label ≡ true = (bytes_same (mirror_name name label) label).1 (sym named) in
            let two = mirror_other name label in
            absurd (cc)

with_both : (name label : Name) (rule : Rule) (db first : Db) → IsAdded name label rule db first → rule_at db name label ≡ None → is_mirror rule ≡ false → (mirror : Option (Name × Rule)) → mirror_of name rule ≡ mirror
    → All (ThereIn first) (partner mirror) → IsFreeFor db (mirror_name name label) mirror → IsWith db (with_mirror first name label mirror) name label rule
with_both name label rule db first is new main None e there free = record {
  buckets = is.buckets;
  stands = rule_new name label rule db first is new;
  mirrored = subst (HasMirror first (mirror_name name label)) (sym e) tt;
  kept = rule_kept name label rule db first is new;
  was = λ k l a found. by k l a (rule_was name label rule db first is new k l a found);
}
  where
    by : (k l : Name) (a : Attached) → (rule_at db k l ≡ Some a) ⊎ ((k ≡ name) × (a ≡ new_of label rule is.buckets))
        → (rule_at db k l ≡ Some a) ⊎ (((k ≡ name) × (a ≡ new_of label rule is.buckets)) ⊎ (IsMirrorOf first k a × (is_mirror a.rule ≡ true)))
    by k l a (inl stood) = inl stood
    by k l a (inr it) = inr (inl it)
with_both name label rule db first is new main (Some (other, mirror)) e there free = record {
  buckets = is.buckets;
  stands = stands;
  mirrored = subst (HasMirror after called) (sym e) (new_of called mirror second.buckets, rule_new other called mirror first after second unnamed, refl);
  kept = λ k l a found. rule_kept other called mirror first after second unnamed k l a (rule_kept name label rule db first is new k l a found);
  was = λ k l a found. by k l a (rule_was other called mirror first after second unnamed k l a found);
}
  where
    called : Name
    called = mirror_name name label

    after : Db
    after = with_attached first other called mirror

    second : IsAdded other called mirror first after
    second = is_added first other called mirror (All-head (ThereIn first) other [] there)

    unnamed : rule_at first other called ≡ None
    unnamed = free_still name label rule db first is new other free

    stands : rule_at after name label ≡ Some (new_of label rule is.buckets)
    stands = rule_kept other called mirror first after second unnamed name label (new_of label rule is.buckets) (rule_new name label rule db first is new)

    Was : Name → Name → Attached → Type 0
    Was k l a = (rule_at db k l ≡ Some a) ⊎ (((k ≡ name) × (a ≡ new_of label rule is.buckets)) ⊎ (IsMirrorOf after k a × (is_mirror a.rule ≡ true)))

    of_first : (k l : Name) (a : Attached) → (rule_at db k l ≡ Some a) ⊎ ((k ≡ name) × (a ≡ new_of label rule is.buckets)) → Was k l a
    of_first k l a (inl stood) = inl stood
    of_first k l a (inr it) = inr (inl it)

    by : (k l : Name) (a : Attached) → (rule_at first k l ≡ Some a) ⊎ ((k ≡ other) × (a ≡ new_of called mirror second.buckets)) → Was k l a
    by k l a (inl stood) = of_first k l a (rule_was name label rule db first is new k l a stood)
    by k l a (inr it) = inr (inr (
      record {
        other = name;
        main = new_of label rule is.buckets;
        stands = stands;
        label = ap (λ (x : Attached). x.name) it.1;
        mirror = e ∙ (λ i. Some (sym it.0 i, (sym it.1 i).rule));
      },
      ap (λ (x : Attached). is_mirror x.rule) it.1 ∙ mirror_is name rule other mirror e,
    ))

-- ---- what relations hold afterwards
within_more : (db db' : Db) (name label : Name) (rule : Rule) (mirror : Option (Name × Rule)) → ((k : Name) → IsAlike db db' k)
    → ((w : Weight) (k : Name) → weight_at w db' k ≡ weight_at w db k + cond (bytes_eq k name) (w label rule) 0 + mirror_weight w name label mirror k) → All (IsWithin db') (name ∷ partner mirror)
    → (k : Name) → IsWithin db k → IsWithin db' k
within_more db db' name label rule None alike weights all k within = by (same_or_apart k name)
  where
    by : (k ≡ name) ⊎ (bytes_eq k name ≡ false) → IsWithin db' k
    by (inl same) = subst (IsWithin db') (sym same) (All-head (IsWithin db') name [] all)
    by (inr differs) = within_same db db' k (alike k) (λ w. let more = weights w k in let none = cond-false (bytes_eq k name) (w label rule) 0 differs in omega arith) within
within_more db db' name label rule (Some (other, mirror)) alike weights all k within = by (same_or_apart k name) (same_or_apart k other)
  where
    by : (k ≡ name) ⊎ (bytes_eq k name ≡ false) → (k ≡ other) ⊎ (bytes_eq k other ≡ false) → IsWithin db' k
    by (inl same) _ = subst (IsWithin db') (sym same) (All-head (IsWithin db') name (other ∷ []) all)
    by (inr _) (inl same) = subst (IsWithin db') (sym same) (All-head (IsWithin db') other [] (All-tail (IsWithin db') name (other ∷ []) all))
    by (inr differs) (inr apart) = within_same db db' k (alike k) (λ w.
        let more = weights w k in
        let none = cond-false (bytes_eq k name) (w label rule) 0 differs in
        let neither = cond-false (bytes_eq k other) (w (mirror_name name label) mirror) 0 apart in
        omega arith) within

-- ---- the database with the rule
module _ (ext : Extensions) (db : Db) (name label : Name) (rule : Rule) (may : MayBe ext db (command.Attach name label rule)) (main : is_mirror rule ≡ false) (new : rule_at db name label ≡ None)
    (free : IsMirrorFree db name label rule) (is : IsWellPlaced ext db) where
  abbrev first : Db
  first = with_attached db name label rule

  abbrev after : Db
  after = with_rule db name label rule

  pub ties : IsTied db name rule
  ties = tied db name rule may.there

  added : IsAdded name label rule db first
  added = is_added db name label rule ties.here

  pub both : IsWith db after name label rule
  both = with_both name label rule db first added new main (mirror_of name rule) refl (still_there db name label rule ties.here ties.there) free

  pub alike : (k : Name) → IsAlike db after k
  alike = alike_with db name label rule ties.here ties.there

  stood : MayStay ext db name rule × AreWithin after name rule
  stood = may_stand ext db name label rule main may

  stands_still : (k : Name) (other : Rule) → Stands ext db k other → Stands ext after k other
  stands_still k other stands = record {
    may = may_stay db after ext k other (λ j d below. alike (get_or (k ∷ other_relations other) j d)) stands.may;
    within = All-weaker (IsWithin db) (IsWithin after) (within_more db after name label rule (mirror_of name rule) alike (weight_with db name label rule ties.here ties.there) stood.1) (k ∷ partner (mirror_of k other)) stands.within;
  }

  mirror_still : (l : Name) (mirror : Option (Name × Rule)) → HasMirror db l mirror → HasMirror after l mirror
  mirror_still l None has = tt
  mirror_still l (Some (other, m)) has = (has.0, both.kept other l has.0 has.1, has.2)

  -- the new instance
  abbrev one : Attached
  one = new_of label rule both.buckets

  one_placed : IsPlaced ext after name one
  one_placed = record {
    stands = λ _. record { may = may_stay db after ext name rule (λ j d below. alike (get_or (name ∷ other_relations rule) j d)) stood.0; within = stood.1 };
    mirrored = both.mirrored;
    main = λ mirror. absurd (true≢false (sym mirror ∙ main));
  }

  placed : (k : Name) (a : Attached) → (rule_at db k a.name ≡ Some a) ⊎ (((k ≡ name) × (a ≡ new_of label rule both.buckets)) ⊎ (IsMirrorOf after k a × (is_mirror a.rule ≡ true))) → IsPlaced ext after k a
  placed k a (inl found) =
      let was : IsPlaced ext db k a = is.placed k a found in
      record {
        stands = λ m. stands_still k a.rule (was.stands m);
        mirrored = mirror_still (mirror_name k a.name) (mirror_of k a.rule) was.mirrored;
        main = λ m. let it : IsMirrorOf db k a = was.main m in record { other = it.other; main = it.main; stands = both.kept it.other it.main.name it.main it.stands; label = it.label; mirror = it.mirror };
      }
  placed k a (inr (inl it)) = subst (IsPlaced ext after k) (sym it.1) (subst (λ (n : Name). IsPlaced ext after n (new_of label rule both.buckets)) (sym it.0) one_placed)
  placed k a (inr (inr it)) = record {
    stands = λ m. absurd (true≢false (sym it.1 ∙ m));
    mirrored = subst (HasMirror after (mirror_name k a.name)) (sym (mirror_none a.rule it.1 k)) tt;
    main = λ m. it.0;
  }

  rising_both : (mirror : Option (Name × Rule)) → T (is_sorted bytes_cmp (with_mirror first name label mirror))
  rising_both None = sorted_added db name label rule is.rising
  rising_both (Some (other, m)) = sorted_added first other (mirror_name name label) m (sorted_added db name label rule is.rising)

  made_first : has_long_row db name rule ≡ false → AllMade ext first
  made_first short = made_more ext name label rule db first added new (are_short db name rule short) is.made

  made_both : has_long_row db name rule ≡ false → (mirror : Option (Name × Rule)) → mirror_of name rule ≡ mirror → All (ThereIn first) (partner mirror) → IsFreeFor db (mirror_name name label) mirror
      → AllMade ext (with_mirror first name label mirror)
  made_both short None e there unnamed = made_first short
  made_both short (Some (other, m)) e there unnamed =
      made_more ext other (mirror_name name label) m first (with_attached first other (mirror_name name label) m) (is_added first other (mirror_name name label) m (All-head (ThereIn first) other [] there))
      (free_still name label rule db first added new other unnamed) (λ r _ j d below. mirror_short r.schema (get_or r.rows j d).1 m (mirror_is name rule other m e)) (made_first short)

  pub attached_placed : has_long_row db name rule ≡ false → IsWellPlaced ext after
  attached_placed short = record {
    rising = rising_both (mirror_of name rule);
    made = made_both short (mirror_of name rule) refl (still_there db name label rule ties.here ties.there) free;
    placed = λ k a found. placed k a (both.was k a.name a found);
  }

pub unless_taken : (o : Option Attached) (label : Name) (others : Option Name) → option_or (some_where (is_some o) label) others ≡ None → o ≡ None
unless_taken None label others e = refl
unless_taken (Some a) label others e = absurd (cc)

pub attached-lawful : AttachedIsLawful
attached-lawful ext db name label rule may main free short lawful =
    of_places ext (with_rule db name label rule) (attached_placed ext db name label rule may main (unless_taken (rule_at db name label) label (rule_twice rule) may.new) free (to_places ext db lawful) short)
