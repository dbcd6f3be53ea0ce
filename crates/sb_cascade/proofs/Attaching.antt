-- Attaching, detaching and creating leave the rules that may stand.
use Rattle.std.proofs.Common.{◌≡◌, Bool, true, false, ◌&&◌, cond, List, [], ◌∷◌, ◌++◌, Option, Some, None, refl, sym, ap, subst, ◌∙◌}
use Rattle.std.specs.Prelude.{All, filter, is_none, not, nat_le}
use Rattle.std.specs.List.{find}
use Rattle.std.specs.FinMap.Entries.{find-put}
use Rattle.std.specs.Ordering.{eq_by_cmp}
use Rattle.std.specs.Str.{bytes_eq}
use Rattle.std.proofs.lemmas.Cmp.{nat_list_cmp_total}
use Rattle.std.proofs.lemmas.List.Elements.{All-nil, All-cons, All-head, All-tail, All-filter, All-weaker}
use Rattle.sb_value.specs.declared.schema.Column.{Column}
use Rattle.sb_value.specs.declared.schema.Kind.{Kind}
use Rattle.sb_value.specs.declared.schema.Kind.TheVariants as kind
use Rattle.sb_value.specs.Order.{bytes_cmp}
use Rattle.sb_pred.specs.Typing.{term_kind, is_one_kind, is_well_typed}
use Rattle.sb_rule.specs.declared.rule.Rule.{Rule}
use Rattle.sb_rule.specs.declared.rule.Rule.TheVariants.{TreeIndex, HashIndex, JoinIndex, Stats, Check, Refers, Trigger, Foreign}
use Rattle.sb_rule.specs.declared.rule.Side.TheVariants.{Main, Mirror}
use Rattle.sb_rule.specs.Spelling.{rule_code}
use Rattle.sb_relation.specs.Build.{mirror_name, mirror_of, with_instance, with_attached, with_mirror}
use Rattle.sb_relation.specs.Buckets.{standing_buckets}
use Rattle.sb_relation.specs.Db.{Name, Attached, Relation, Db, relation_at, with_relation, schema_at}
use Rattle.sb_relation.specs.Fits.{MayStand, Places, relation_of, first_missing, first_unnamed, places_in, pred_places, action_places, kinds_at, are_one_kind, has_old, has_new, action_fits}
use Rattle.sb_relation.specs.Foreign.{AttachRules}
use Rattle.sb_fold.specs.Building.{without_attached, without_mirror}
use Rattle.sb_fold.specs.Fold.{attachments_at}
use Rattle.sb_cascade.specs.Fitting.{AllMayStand}
use Rattle.sb_cascade.specs.FittingLaws.{AttachedMayStand, DetachedMayStand, CreatedMayStand}
use Rattle.sb_cascade.proofs.Commanding.{with_items, same_items, same_attached, stays_there}
use Rattle.sb_cascade.proofs.Staying.{SameColumns, still_stands}

abbrev BoxOf : Type 0
BoxOf = Rule → Option AttachRules

-- ---- the rules of a relation with other attachments
abbrev Stands : BoxOf → Db → List Column → List Attached → Type 0
Stands box db schema items = All (λ a. MayStand (box a.rule) db schema a.rule) items

-- those that stood stand over the same columns
all_still : (box : BoxOf) (db other : Db) → SameColumns db other → (schema : List Column) (items : List Attached) → Stands box db schema items → Stands box other schema items
all_still box db other same schema items all =
    All-weaker (λ (a : Attached). MayStand (box a.rule) db schema a.rule) (λ (a : Attached). MayStand (box a.rule) other schema a.rule)
    (λ a stands. still_stands (box a.rule) db other same schema a.rule stands) items all

abbrev StandsIn : BoxOf → Db → Option Relation → Type 0
StandsIn box db o = Stands box db (elim o [ None ↦ [] | Some r ↦ r.schema ]) (elim o [ None ↦ [] | Some r ↦ r.attachments ])

items_stand : (box : BoxOf) (db : Db) (name : Name) (items : Relation → List Attached) → AllMayStand box db
    → ((r : Relation) → relation_at db name ≡ Some r → Stands box db r.schema r.attachments → Stands box db r.schema (items r)) → AllMayStand box (with_items db name items (relation_at db name))
items_stand box db name items may turned other = of_relation (relation_at db name) refl (same_items db name items)
  where
    of_relation : (o : Option Relation) → relation_at db name ≡ o → SameColumns db (with_items db name items o) → StandsIn box (with_items db name items o) (relation_at (with_items db name items o) other)
    of_relation None there same = may other
    of_relation (Some r) there same = subst (StandsIn box after) (sym (find-put bytes_cmp nat_list_cmp_total other name q db)) (of_test (eq_by_cmp bytes_cmp other name))
      where
        q : Relation
        q = record r { attachments = items r }

        after : Db
        after = with_relation db name q

        of_test : (b : Bool) → StandsIn box after (cond b (Some q) (relation_at db other))
        of_test true = all_still box db after same r.schema (items r) (turned r there (subst (StandsIn box db) there (may name)))
        of_test false = all_still box db after same (schema_at db other) (attachments_at db other) (may other)

-- ---- one more
all_with : (P : Attached → Type 0) (new : Attached) (items : List Attached) → P new → All P items → All P (with_instance new items)
all_with P new [] p all = All-cons P new [] p all
all_with P new (a ∷ items) p all = of_test (nat_le (rule_code a.rule) (rule_code new.rule)) (all_with P new items p (All-tail P a items all))
  where
    of_test : (b : Bool) → All P (with_instance new items) → All P (cond b (a ∷ with_instance new items) (new ∷ a ∷ items))
    of_test true rest = All-cons P a (with_instance new items) (All-head P a items all) rest
    of_test false rest = All-cons P new (a ∷ items) p all

attached_stands : (box : BoxOf) (db : Db) (name label : Name) (rule : Rule) → AllMayStand box db → MayStand (box rule) db (schema_at db name) rule → AllMayStand box (with_attached db name label rule)
attached_stands box db name label rule may stands =
    items_stand box db name (λ r. with_instance (record { name = label; rule = rule; buckets = standing_buckets rule r.rows }) r.attachments) may
    (λ r there all.
    all_with (λ a. MayStand (box a.rule) db r.schema a.rule) (record { name = label; rule = rule; buckets = standing_buckets rule r.rows }) r.attachments
    (subst (λ (s : List Column). MayStand (box rule) db s rule) (ap (λ (o : Option Relation). elim o as (λ _. List Column) [ None ↦ [] | Some q ↦ q.schema ]) there) stands) all)

-- ---- the mirror of a rule that may stand may stand
none_left : {A : Type 0} (test : A → Bool) (xs ys : List A) → find test (xs ++ ys) ≡ None → (find test xs ≡ None) × (find test ys ≡ None)
none_left test [] ys e = (refl, e)
none_left {A = A} test (x ∷ xs) ys e = of_test (test x) e (none_left test xs ys)
  where
    of_test : (b : Bool) → cond b (Some x) (find test (xs ++ ys)) ≡ None → (find test (xs ++ ys) ≡ None → (find test xs ≡ None) × (find test ys ≡ None))
        → (cond b (Some x) (find test xs) ≡ None) × (find test ys ≡ None)
    of_test true is rest = absurd (cc)
    of_test false is rest = rest is

none_in : {A : Type 0} (test : A → Bool) (xs ys : List A) → find test xs ≡ None → find test ys ≡ None → find test (xs ++ ys) ≡ None
none_in test [] ys e f = f
none_in {A = A} test (x ∷ xs) ys e f = of_test (test x) e (λ g. none_in test xs ys g f)
  where
    of_test : (b : Bool) → cond b (Some x) (find test xs) ≡ None → (find test xs ≡ None → find test (xs ++ ys) ≡ None) → cond b (Some x) (find test (xs ++ ys)) ≡ None
    of_test true is rest = absurd (cc)
    of_test false is rest = rest is

swapped : (xs ys : Places) → first_unnamed (xs ++ ys) ≡ None → first_unnamed (ys ++ xs) ≡ None
swapped xs ys e = let parts = none_left _ xs ys e in none_in _ ys xs parts.1 parts.0

one_turned : (a b : Option Kind) → is_one_kind a b ≡ is_one_kind b a
one_turned (Some kind.Int) (Some kind.Int) = refl
one_turned (Some kind.Text) (Some kind.Text) = refl
one_turned (Some kind.Int) (Some kind.Text) = refl
one_turned (Some kind.Text) (Some kind.Int) = refl
one_turned (Some kind.Int) None = refl
one_turned (Some kind.Text) None = refl
one_turned None (Some kind.Int) = refl
one_turned None (Some kind.Text) = refl
one_turned None None = refl

all_turned : (ks ls : List (Option Kind)) → are_one_kind ks ls ≡ are_one_kind ls ks
all_turned [] [] = refl
all_turned [] (l ∷ ls) = refl
all_turned (k ∷ ks) [] = refl
all_turned (k ∷ ks) (l ∷ ls) = λ i. one_turned k l i && all_turned ks ls i

abbrev MirrorStands : BoxOf → Db → Option (Name × Rule) → Type 0
MirrorStands box db None = Unit {0}
MirrorStands box db (Some (other, mirror)) = MayStand (box mirror) db (schema_at db other) mirror

mirror_stands : (box : BoxOf) (db : Db) (name : Name) (rule : Rule) → first_missing db (name ∷ []) ≡ None → MayStand (box rule) db (schema_at db name) rule → MirrorStands box db (mirror_of name rule)
mirror_stands box db name (JoinIndex Main columns other others) there stands = record {
  there = there;
  named = swapped (places_in (schema_at db name) columns) (places_in (schema_at db other) others) stands.named;
  fits = all_turned (kinds_at (schema_at db other) others) (kinds_at (schema_at db name) columns) ∙ stands.fits;
}
mirror_stands box db name (Refers Main columns other others mode deferred) there stands = record {
  there = there;
  named = swapped (places_in (schema_at db name) columns) (places_in (schema_at db other) others) stands.named;
  fits = all_turned (kinds_at (schema_at db other) others) (kinds_at (schema_at db name) columns) ∙ stands.fits;
}
mirror_stands box db name (JoinIndex Mirror columns other others) there stands = tt
mirror_stands box db name (Refers Mirror columns other others mode deferred) there stands = tt
mirror_stands box db name (TreeIndex columns unique) there stands = tt
mirror_stands box db name (HashIndex columns) there stands = tt
mirror_stands box db name (Stats column low width) there stands = tt
mirror_stands box db name (Check pred deferred) there stands = tt
mirror_stands box db name (Trigger on pred a deferred) there stands = tt
mirror_stands box db name (Foreign code desc) there stands = tt

with_mirror_stands : (box : BoxOf) (db : Db) (relation label : Name) (mirror : Option (Name × Rule)) → AllMayStand box db → MirrorStands box db mirror → AllMayStand box (with_mirror db relation label mirror)
with_mirror_stands box db relation label None may stands = may
with_mirror_stands box db relation label (Some (other, rule)) may stands = attached_stands box db other (mirror_name relation label) rule may stands

still_mirror : (box : BoxOf) (db other : Db) → SameColumns db other → (mirror : Option (Name × Rule)) → MirrorStands box db mirror → MirrorStands box other mirror
still_mirror box db other same None stands = tt
still_mirror box db other same (Some (name, rule)) stands =
    still_stands (box rule) db other same (schema_at other name) rule (subst (λ (s : List Column). MayStand (box rule) db s rule) (same.schema name) stands)

pub attached-may-stand : AttachedMayStand
attached-may-stand box db relation label rule may there stands =
    let first : Db = with_attached db relation label rule in
    with_mirror_stands box first relation label (mirror_of relation rule) (attached_stands box db relation label rule may stands)
    (still_mirror box db first (same_attached db relation label rule) (mirror_of relation rule) (mirror_stands box db relation rule there stands))

-- ---- one less
without_stands : (box : BoxOf) (db : Db) (name label : Name) → AllMayStand box db → AllMayStand box (without_attached db name label)
without_stands box db name label may =
    items_stand box db name (λ r. filter (λ a. not (bytes_eq a.name label)) r.attachments) may
    (λ r there all. All-filter (λ a. not (bytes_eq a.name label)) (λ a. MayStand (box a.rule) db r.schema a.rule) r.attachments all)

without_mirror_stands : (box : BoxOf) (db : Db) (relation label : Name) (mirror : Option (Name × Rule)) → AllMayStand box db → AllMayStand box (without_mirror relation label mirror db)
without_mirror_stands box db relation label None may = may
without_mirror_stands box db relation label (Some (other, rule)) may = without_stands box db other (mirror_name relation label) may

pub detached-may-stand : DetachedMayStand
detached-may-stand box db relation gone may =
    without_mirror_stands box (without_attached db relation gone.name) relation gone.name (mirror_of relation gone.rule) (without_stands box db relation gone.name may)

-- ---- a new relation
one_there : (box : Option AttachRules) (db : Db) (name : Name) (r : Relation) → relation_at db name ≡ None → (other : Name) → first_missing db (other ∷ []) ≡ None
    → (first_missing (with_relation db name r) (other ∷ []) ≡ None) × (schema_at (with_relation db name r) other ≡ schema_at db other)
one_there box db name r new other there =
    let same : relation_at (with_relation db name r) other ≡ relation_at db other = stays_there db name r new other there in (
      ap (λ (o : Option Relation). cond (is_none o) (Some other) None) same ∙ there,
      ap (λ (o : Option Relation). elim o as (λ _. List Column) [ None ↦ [] | Some q ↦ q.schema ]) same,
    )

still_created : (box : Option AttachRules) (db : Db) (name : Name) (r : Relation) → relation_at db name ≡ None → (schema : List Column) (rule : Rule) → MayStand box db schema rule
    → MayStand box (with_relation db name r) schema rule
still_created box db name r new schema (JoinIndex side columns other others) may =
    let there = one_there box db name r new other may.there in
    record {
      there = there.0;
      named = ap (λ (s : List Column). first_unnamed (places_in schema columns ++ places_in s others)) there.1 ∙ may.named;
      fits = ap (λ (s : List Column). are_one_kind (kinds_at schema columns) (kinds_at s others)) there.1 ∙ may.fits;
    }
still_created box db name r new schema (Refers side columns other others mode deferred) may =
    let there = one_there box db name r new other may.there in
    record {
      there = there.0;
      named = ap (λ (s : List Column). first_unnamed (places_in schema columns ++ places_in s others)) there.1 ∙ may.named;
      fits = ap (λ (s : List Column). are_one_kind (kinds_at schema columns) (kinds_at s others)) there.1 ∙ may.fits;
    }
still_created box db name r new schema (Trigger on pred a deferred) may =
    let there = one_there box db name r new (relation_of a) may.there in
    record {
      there = there.0;
      named = ap (λ (s : List Column). first_unnamed (pred_places schema pred ++ action_places s schema a)) there.1 ∙ may.named;
      fits = ap (λ (s : List Column). is_well_typed schema (has_old on) (has_new on) pred && action_fits s (term_kind schema (has_old on) (has_new on)) a) there.1 ∙ may.fits;
    }
still_created box db name r new schema (TreeIndex columns unique) may = record { there = refl; named = may.named; fits = may.fits }
still_created box db name r new schema (HashIndex columns) may = record { there = refl; named = may.named; fits = may.fits }
still_created box db name r new schema (Stats column low width) may = record { there = refl; named = may.named; fits = may.fits }
still_created box db name r new schema (Check pred deferred) may = record { there = refl; named = may.named; fits = may.fits }
still_created box db name r new schema (Foreign code desc) may = record { there = refl; named = may.named; fits = may.fits }

pub created-may-stand : CreatedMayStand
created-may-stand box db name r may new none other =
    subst (StandsIn box (with_relation db name r)) (sym (find-put bytes_cmp nat_list_cmp_total other name r db)) (of_test (eq_by_cmp bytes_cmp other name))
  where
    of_test : (b : Bool) → StandsIn box (with_relation db name r) (cond b (Some r) (relation_at db other))
    of_test true = subst (Stands box (with_relation db name r) r.schema) (sym none) (All-nil _)
    of_test false =
        All-weaker (λ (a : Attached). MayStand (box a.rule) db (schema_at db other) a.rule) (λ (a : Attached). MayStand (box a.rule) (with_relation db name r) (schema_at db other) a.rule)
        (λ a stands. still_created (box a.rule) db name r new (schema_at db other) a.rule stands) (attachments_at db other) (may other)
