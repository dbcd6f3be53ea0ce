-- Databases with a relation or a rule more or less: which rules hold.
use Rattle.std.proofs.Common.{◌≡◌, ℕ, Bool, true, false, not, ◌&&◌, List, [], ◌∷◌, ◌⊎◌, inl, inr, cond, Option, Some, None, option_map, refl, sym, ap, subst, ◌∙◌, get_or}
use Rattle.std.specs.Prelude.{All, nat_le}
use Rattle.std.specs.List.{find, list_any}
use Rattle.std.specs.Str.{bytes_eq}
use Rattle.std.specs.FinMap.Entries.{where_key}
use Rattle.std.proofs.lemmas.List.Elements.{All-nil, All-cons, All-head, All-tail, All-filter, All-weaker}
use Rattle.sb_value.specs.Order.{bytes_cmp}
use Rattle.sb_value.proofs.Searches.{find-none}
use Rattle.sb_rule.specs.declared.rule.Side.TheVariants.{Main, Mirror}
use Rattle.sb_rule.specs.declared.rule.Rule.{Rule}
use Rattle.sb_rule.specs.declared.rule.Rule.TheVariants.{TreeIndex, HashIndex, JoinIndex, Stats, Check, Refers, Trigger, Foreign}
use Rattle.sb_rule.specs.Spelling.{rule_code}
use Rattle.sb_relation.specs.Buckets.{standing_buckets}
use Rattle.sb_relation.specs.Build.{mirror_name, mirror_of, with_instance, with_attached, with_mirror, with_rule}
use Rattle.sb_relation.specs.Db.{Name, Key, Row, Attached, Relation, Db, relation_at, with_relation}
use Rattle.sb_relation.specs.Rules.{has_values}
use Rattle.sb_fold.specs.Building.{without_mirrors, without_rule, without_relation}
use Rattle.sb_fold.specs.Extensions.{Extensions}
use Rattle.sb_fold.specs.Fold.{attachments_at}
use Rattle.sb_plain.specs.Printing.{is_mirror}
use Rattle.sb_plain.specs.Refusing.{ties_to, first_attached}
use Rattle.sb_plain.proofs.SoundLemmas.{all_at, HoldsAt}
use Rattle.sb_deferred.proofs.RelationLemmas.{rows_of, schema_of, attachments_of, relation_same, relation_other, same_read}
use Rattle.sb_lawful.proofs.Items.{itself, same_or_apart}
use Rattle.sb_lawful.proofs.Places.{relation_without}
use Rattle.sb_lawful.proofs.Sparing.{Places, spare, IsSpared, gone_rule, spared_rule, gone_mirrors, spared_mirrors, items_spared}
use Rattle.sb_sound.proofs.Holding.{IsOfOurs, HoldsMain, HoldMains, IsSameAt, SameParents, same_parents, ParentsStay, parents_stay, main_stays}

-- the relation there is the same
same_relation : (db after : Db) (name : Name) → relation_at after name ≡ relation_at db name → IsSameAt db after name
same_relation db after name same = record { rows = ap rows_of same; schema = ap schema_of same }

module _ (ext : Extensions) (meant : Rule → Bool) (of : IsOfOurs meant) where
  abbrev Mains : Db → Type 0
  Mains db = HoldMains ext meant db

  abbrev AllMain : Db → Name → List Attached → Type 0
  AllMain db name items = All (λ a. HoldsMain ext meant db name a.rule) items

  -- where the rows and the rules of a relation are the same, and so are the parents
  stay_at : (db after : Db) (name : Name) → relation_at after name ≡ relation_at db name → All (λ a. ParentsStay db after a.rule) (attachments_at db name) → AllMain db name (attachments_at db name)
      → AllMain after name (attachments_at after name)
  stay_at db after name same parents holds =
      subst (AllMain after name) (sym (ap attachments_of same))
      (λ k d below. main_stays ext meant of db after name (get_or (attachments_at db name) k d).rule (same_relation db after name same) (parents k d below) (holds k d below))

  -- ---- a new relation without rows and rules
  created_parents : (db : Db) (name : Name) (r : Relation) → relation_at db name ≡ None → r.rows ≡ [] → (other : Name) → SameParents db (with_relation db name r) other
  created_parents db name r new none other = by (same_or_apart other name)
    where
      by : (other ≡ name) ⊎ (bytes_eq other name ≡ false) → SameParents db (with_relation db name r) other
      by (inr differs) = same_parents db (with_relation db name r) other (same_relation db (with_relation db name r) other (relation_other db name r other differs))
      by (inl same) = λ others values.
          let here : rows_of (relation_at (with_relation db name r) other) ≡ [] = ap (λ (n : Name). rows_of (relation_at (with_relation db name r) n)) same ∙ ap rows_of (relation_same db name r) ∙ none in
          let before : rows_of (relation_at db other) ≡ [] = ap (λ (n : Name). rows_of (relation_at db n)) same ∙ ap rows_of new in
          ap (list_any (λ (e : Key × Row). has_values (schema_of (relation_at (with_relation db name r) other)) others values e.1)) here
          ∙ sym (ap (list_any (λ (e : Key × Row). has_values (schema_of (relation_at db other)) others values e.1)) before)

  pub created : (db : Db) (name : Name) (r : Relation) → relation_at db name ≡ None → r.rows ≡ [] → r.attachments ≡ [] → Mains db → Mains (with_relation db name r)
  created db name r new no_rows no_rules holds = record { each = λ n. by n (same_or_apart n name) }
    where
      by : (n : Name) → (n ≡ name) ⊎ (bytes_eq n name ≡ false) → AllMain (with_relation db name r) n (attachments_at (with_relation db name r) n)
      by n (inl same) =
          subst (AllMain (with_relation db name r) n)
          (sym (ap (λ (m : Name). attachments_of (relation_at (with_relation db name r) m)) same ∙ ap attachments_of (relation_same db name r) ∙ no_rules)) (All-nil _)
      by n (inr differs) =
          stay_at db (with_relation db name r) n (relation_other db name r n differs)
          (λ k d below. parents_stay db (with_relation db name r) (get_or (attachments_at db n) k d).rule (created_parents db name r new no_rows)) (holds.each n)

  -- ---- rules that go
  spared_same : (gone : Places) (db after : Db) → IsSpared gone db after → (n : Name) → IsSameAt db after n
  spared_same gone db after is n = record { rows = ap rows_of (is.at n) ∙ rows (relation_at db n); schema = ap schema_of (is.at n) ∙ columns (relation_at db n) }
    where
      rows : (o : Option Relation) → rows_of (option_map (spare (gone n)) o) ≡ rows_of o
      rows None = refl
      rows (Some r) = refl

      columns : (o : Option Relation) → schema_of (option_map (spare (gone n)) o) ≡ schema_of o
      columns None = refl
      columns (Some r) = refl

  pub spared_mains : (gone : Places) (db after : Db) → IsSpared gone db after → Mains db → Mains after
  spared_mains gone db after is holds = record {
    each = λ n.
        subst (AllMain after n) (sym (items_spared gone db after is n))
        (All-filter (λ a. not (gone n a.name)) (λ (a : Attached). HoldsMain ext meant after n a.rule) (attachments_at db n)
        (All-weaker (λ (a : Attached). HoldsMain ext meant db n a.rule) (λ (a : Attached). HoldsMain ext meant after n a.rule)
        (λ a main.
        main_stays ext meant of db after n a.rule (spared_same gone db after is n) (parents_stay db after a.rule (λ other. same_parents db after other (spared_same gone db after is other))) main)
        (attachments_at db n) (holds.each n)));
  }

  pub detached : (db : Db) (name : Name) (a : Attached) → Mains db → Mains (without_rule db name a)
  detached db name a holds = spared_mains (gone_rule name a) db (without_rule db name a) (spared_rule db name a) holds

  -- ---- a relation that goes, to which no other refers
  abbrev ties : Name → Name → Attached → Bool
  ties name k a = not (bytes_eq k name) && ties_to name a.rule

  none_of : (is_meant : Name → Attached → Bool) (db : Db) → first_attached is_meant db ≡ None → All (λ e. All (λ a. is_meant e.0 a ≡ false) e.1.attachments) db
  none_of is_meant [] e = All-nil _
  none_of is_meant ((name, r) ∷ db) e = by (find (is_meant name) r.attachments) refl e (none_of is_meant db)
    where
      by : (o : Option Attached) → find (is_meant name) r.attachments ≡ o → (elim o as (λ _. Option (Name × Name)) [ None ↦ first_attached is_meant db | Some a ↦ Some (name, a.name) ]) ≡ None
          → (first_attached is_meant db ≡ None → All (λ x. All (λ a. is_meant x.0 a ≡ false) x.1.attachments) db) → All (λ x. All (λ a. is_meant x.0 a ≡ false) x.1.attachments) ((name, r) ∷ db)
      by None is none rest = All-cons (λ x. All (λ a. is_meant x.0 a ≡ false) x.1.attachments) (name, r) db (find-none (is_meant name) r.attachments is) (rest none)
      by (Some a) is none rest = absurd (cc)

  untied : (db : Db) (name : Name) → first_attached (ties name) db ≡ None → (n : Name) → All (λ a. ties name n a ≡ false) (attachments_at db n)
  untied db name unused n = by (relation_at db n) refl
    where
      by : (o : Option Relation) → relation_at db n ≡ o → All (λ a. ties name n a ≡ false) (attachments_of o)
      by None there = All-nil _
      by (Some r) there = all_at (λ k q. All (λ a. ties name k a ≡ false) q.attachments) db n r (none_of (ties name) db unused) there

  left : (db : Db) (name : Name) → Db
  left db name = where_key bytes_cmp (λ other. not (bytes_eq other name)) db

  left_at : (db : Db) (name n : Name) → bytes_eq n name ≡ false → relation_at (left db name) n ≡ relation_at db n
  unfolding left
  left_at db name n differs = relation_without db name n ∙ ap (λ (b : Bool). cond (not b) (relation_at db n) None) differs

  gone_at : (db : Db) (name n : Name) → n ≡ name → relation_at (left db name) n ≡ None
  unfolding left
  gone_at db name n same = relation_without db name n ∙ ap (λ (b : Bool). cond (not b) (relation_at db n) None) (ap (λ (m : Name). bytes_eq m name) same ∙ itself name)

  left_parents : (db : Db) (name n : Name) → bytes_eq n name ≡ false → (label : Name) (buckets : ℕ) (rule : Rule) → ties name n (record { name = label; rule = rule; buckets = buckets }) ≡ false → ParentsStay db (left db name) rule
  left_parents db name n differs label buckets (Refers Main columns other others mode deferred) free =
      same_parents db (left db name) other (same_relation db (left db name) other (left_at db name other (ap (λ (b : Bool). not b && bytes_eq other name) (sym differs) ∙ free)))
  left_parents db name n differs label buckets _ free = tt

  left_mains : (db : Db) (name : Name) → ((n : Name) → All (λ a. ties name n a ≡ false) (attachments_at db n)) → Mains db → Mains (left db name)
  left_mains db name free holds = record { each = λ n. by n (same_or_apart n name) }
    where
      by : (n : Name) → (n ≡ name) ⊎ (bytes_eq n name ≡ false) → AllMain (left db name) n (attachments_at (left db name) n)
      by n (inl same) = subst (AllMain (left db name) n) (sym (ap attachments_of (gone_at db name n same))) (All-nil _)
      by n (inr differs) =
          stay_at db (left db name) n (left_at db name n differs)
          (All-weaker (λ (a : Attached). ties name n a ≡ false) (λ (a : Attached). ParentsStay db (left db name) a.rule) (λ a it. left_parents db name n differs a.name a.buckets a.rule it) (attachments_at db n) (free n))
          (holds.each n)

  pub dropped : (db : Db) (name : Name) → first_attached (ties name) db ≡ None → Mains db → Mains (without_relation db name)
  unfolding left
  dropped db name unused holds =
      let items : List Attached = attachments_at db name in
      let mid : Db = without_mirrors name items db in
      let is : IsSpared (gone_mirrors name items) db mid = spared_mirrors db name items in
      left_mains mid name
      (λ n.
      subst (All (λ (a : Attached). ties name n a ≡ false)) (sym (items_spared (gone_mirrors name items) db mid is n))
      (All-filter (λ a. not (gone_mirrors name items n a.name)) (λ (a : Attached). ties name n a ≡ false) (attachments_at db n) (untied db name unused n)))
      (spared_mains (gone_mirrors name items) db mid is holds)

  -- ---- a rule that comes
  all_with : (P : Attached → Type 0) (new : Attached) (items : List Attached) → P new → All P items → All P (with_instance new items)
  all_with P new [] p all = All-cons P new [] p all
  all_with P new (a ∷ items) p all = by (nat_le (rule_code a.rule) (rule_code new.rule)) (all_with P new items p (All-tail P a items all))
    where
      by : (b : Bool) → All P (with_instance new items) → All P (cond b (a ∷ with_instance new items) (new ∷ a ∷ items))
      by true rest = All-cons P a (with_instance new items) (All-head P a items all) rest
      by false rest = All-cons P new (a ∷ items) p all

  abbrev new_one : Name → Rule → Relation → Attached
  new_one label rule r = record { name = label; rule = rule; buckets = standing_buckets rule r.rows }

  abbrev grown : Name → Rule → Relation → Relation
  grown label rule r = record r { attachments = with_instance (new_one label rule r) r.attachments }

  abbrev with_one : Db → Name → Name → Rule → Option Relation → Db
  with_one db name label rule None = db
  with_one db name label rule (Some r) = with_relation db name (grown label rule r)

  one_more : (db : Db) (name label : Name) (rule : Rule) → HoldsMain ext meant db name rule → Mains db → (o : Option Relation) → relation_at db name ≡ o → Mains (with_one db name label rule o)
  one_more db name label rule new holds None there = holds
  one_more db name label rule new holds (Some r) there = record { each = λ n. by n (same_or_apart n name) }
    where
      after : Db
      after = with_relation db name (grown label rule r)

      same : (n : Name) → IsSameAt db after n
      same n = record { rows = same_read rows_of db name r (grown label rule r) there refl n; schema = same_read schema_of db name r (grown label rule r) there refl n }

      still : (n : Name) (x : Rule) → HoldsMain ext meant db n x → HoldsMain ext meant after n x
      still n x main = main_stays ext meant of db after n x (same n) (parents_stay db after x (λ other. same_parents db after other (same other))) main

      all_still : (n : Name) (items : List Attached) → AllMain db n items → AllMain after n items
      all_still n items all = All-weaker (λ (a : Attached). HoldsMain ext meant db n a.rule) (λ (a : Attached). HoldsMain ext meant after n a.rule) (λ a main. still n a.rule main) items all

      own : AllMain after name (attachments_at after name)
      own =
          subst (AllMain after name) (sym (ap attachments_of (relation_same db name (grown label rule r))))
          (all_with (λ (a : Attached). HoldsMain ext meant after name a.rule) (new_one label rule r) r.attachments (still name rule new)
          (all_still name r.attachments (subst (AllMain db name) (ap attachments_of there) (holds.each name))))

      by : (n : Name) → (n ≡ name) ⊎ (bytes_eq n name ≡ false) → AllMain after n (attachments_at after n)
      by n (inl is) = subst (λ (m : Name). AllMain after m (attachments_at after m)) (sym is) own
      by n (inr differs) = subst (AllMain after n) (sym (ap attachments_of (relation_other db name (grown label rule r) n differs))) (all_still n (attachments_at db n) (holds.each n))

  with_main : (db : Db) (name label : Name) (rule : Rule) → HoldsMain ext meant db name rule → Mains db → Mains (with_attached db name label rule)
  with_main db name label rule new holds = one_more db name label rule new holds (relation_at db name) refl

  abbrev IsMirror : Option (Name × Rule) → Type 0
  IsMirror None = Unit {0}
  IsMirror (Some (other, rule)) = is_mirror rule ≡ true

  mirror_is : (name : Name) (rule : Rule) → IsMirror (mirror_of name rule)
  mirror_is name (JoinIndex Main columns other others) = refl
  mirror_is name (JoinIndex Mirror columns other others) = tt
  mirror_is name (Refers Main columns other others mode deferred) = refl
  mirror_is name (Refers Mirror columns other others mode deferred) = tt
  mirror_is name (TreeIndex columns unique) = tt
  mirror_is name (HashIndex columns) = tt
  mirror_is name (Stats column low width) = tt
  mirror_is name (Check pred deferred) = tt
  mirror_is name (Trigger on pred act deferred) = tt
  mirror_is name (Foreign code desc) = tt

  with_its_mirror : (db : Db) (name label : Name) (mirror : Option (Name × Rule)) → IsMirror mirror → Mains db → Mains (with_mirror db name label mirror)
  with_its_mirror db name label None is holds = holds
  with_its_mirror db name label (Some (other, rule)) is holds = with_main db other (mirror_name name label) rule (λ m main. absurd (cc)) holds

  pub attached_mains : (db : Db) (name label : Name) (rule : Rule) → HoldsAt ext db name rule → Mains db → Mains (with_rule db name label rule)
  attached_mains db name label rule new holds =
      with_its_mirror (with_attached db name label rule) name label (mirror_of name rule) (mirror_is name rule) (with_main db name label rule (λ m main. new) holds)
