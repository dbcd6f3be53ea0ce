-- Attaching, detaching and creating leave the columns of the relations that are there.
use Rattle.std.proofs.Common.{◌≡◌, Bool, true, false, cond, List, [], ◌∷◌, Option, Some, None, refl, sym, ap, ◌∙◌}
use Rattle.std.specs.Prelude.{filter, is_none, not}
use Rattle.std.specs.FinMap.Entries.{find-put}
use Rattle.std.specs.Ordering.{eq_by_cmp}
use Rattle.std.specs.Str.{bytes_eq}
use Rattle.std.proofs.lemmas.Cmp.{nat_list_cmp_total}
use Rattle.std.proofs.lemmas.Map.Text.{is_eq-slice_cmp}
use Rattle.sb_value.specs.declared.schema.Column.{Column}
use Rattle.sb_value.specs.Equal.{bytes_same}
use Rattle.sb_value.specs.Order.{bytes_cmp}
use Rattle.sb_pred.specs.Typing.{term_kind}
use Rattle.sb_rule.specs.declared.rule.Rule.{Rule}
use Rattle.sb_relation.specs.Build.{mirror_name, mirror_of, with_instance, with_attached, with_mirror, with_rule}
use Rattle.sb_relation.specs.Buckets.{standing_buckets}
use Rattle.sb_relation.specs.Db.{Name, Attached, Relation, Db, relation_at, with_relation, schema_at}
use Rattle.sb_relation.specs.Fits.{relation_of, first_missing, action_places, first_unnamed, action_fits}
use Rattle.sb_fold.specs.Building.{without_attached, without_mirror, without_rule}
use Rattle.sb_cascade.specs.FittingLaws.{AttachingStays, DetachingStays, CreatingStays}
use Rattle.sb_cascade.proofs.Staying.{SameColumns, itself, turned, then, after_put, still_fitting}

-- ---- a relation with other attachments
abbrev pub with_items : Db → Name → (Relation → List Attached) → Option Relation → Db
with_items db name items None = db
with_items db name items (Some r) = with_relation db name (record r { attachments = items r })

pub same_items : (db : Db) (name : Name) (items : Relation → List Attached) → SameColumns db (with_items db name items (relation_at db name))
same_items db name items = of_relation (relation_at db name) refl
  where
    of_relation : (o : Option Relation) → relation_at db name ≡ o → SameColumns db (with_items db name items o)
    of_relation None there = itself db
    of_relation (Some r) there = record {
      there = after_put is_none db name r (record r { attachments = items r }) there refl;
      schema = after_put (λ o. elim o [ None ↦ [] | Some q ↦ q.schema ]) db name r (record r { attachments = items r }) there refl;
    }

pub same_attached : (db : Db) (name label : Name) (rule : Rule) → SameColumns db (with_attached db name label rule)
same_attached db name label rule = same_items db name (λ r. with_instance (record { name = label; rule = rule; buckets = standing_buckets rule r.rows }) r.attachments)

same_mirror : (db : Db) (relation label : Name) (mirror : Option (Name × Rule)) → SameColumns db (with_mirror db relation label mirror)
same_mirror db relation label None = itself db
same_mirror db relation label (Some (other, rule)) = same_attached db other (mirror_name relation label) rule

same_with : (db : Db) (relation label : Name) (rule : Rule) → SameColumns db (with_rule db relation label rule)
same_with db relation label rule =
    then db (with_attached db relation label rule) (with_rule db relation label rule) (same_attached db relation label rule)
    (same_mirror (with_attached db relation label rule) relation label (mirror_of relation rule))

pub attaching-stays : AttachingStays
attaching-stays db relation label rule a = (
  still_fitting (with_rule db relation label rule) db (turned db (with_rule db relation label rule) (same_with db relation label rule)) a,
  still_fitting db (with_rule db relation label rule) (same_with db relation label rule) a,
)

same_detached : (db : Db) (name label : Name) → SameColumns db (without_attached db name label)
same_detached db name label = same_items db name (λ r. filter (λ a. not (bytes_eq a.name label)) r.attachments)

same_unmirrored : (db : Db) (relation label : Name) (mirror : Option (Name × Rule)) → SameColumns db (without_mirror relation label mirror db)
same_unmirrored db relation label None = itself db
same_unmirrored db relation label (Some (other, rule)) = same_detached db other (mirror_name relation label)

same_without : (db : Db) (relation : Name) (gone : Attached) → SameColumns db (without_rule db relation gone)
same_without db relation gone =
    then db (without_attached db relation gone.name) (without_rule db relation gone) (same_detached db relation gone.name)
    (same_unmirrored (without_attached db relation gone.name) relation gone.name (mirror_of relation gone.rule))

pub detaching-stays : DetachingStays
detaching-stays db relation gone a = (
  still_fitting (without_rule db relation gone) db (turned db (without_rule db relation gone) (same_without db relation gone)) a,
  still_fitting db (without_rule db relation gone) (same_without db relation gone) a,
)

-- ---- a new relation
-- what is there is another relation, which stays
pub stays_there : (db : Db) (name : Name) (r : Relation) → relation_at db name ≡ None → (other : Name) → first_missing db (other ∷ []) ≡ None → relation_at (with_relation db name r) other ≡ relation_at db other
stays_there db name r new other there = find-put bytes_cmp nat_list_cmp_total other name r db ∙ of_test (eq_by_cmp bytes_cmp other name) refl
  where
    missing : relation_at db other ≡ None → cond true (Some other) None ≡ None
    missing none = ap (λ (o : Option Relation). cond (is_none o) (Some other) None) (sym none) ∙ there

    of_test : (b : Bool) → eq_by_cmp bytes_cmp other name ≡ b → cond b (Some r) (relation_at db other) ≡ relation_at db other
    of_test true is = absurd (not_both (missing (ap (relation_at db) ((bytes_same other name).0 (sym (is_eq-slice_cmp other name) ∙ is)) ∙ new)))
      where
        not_both : Some other ≡ None → ⊥
        not_both e = cc
    of_test false is = refl

pub creating-stays : CreatingStays
creating-stays db name r a new fits =
    let same : relation_at (with_relation db name r) (relation_of a) ≡ relation_at db (relation_of a) = stays_there db name r new (relation_of a) fits.there in
    let columns : schema_at (with_relation db name r) (relation_of a) ≡ schema_at db (relation_of a) =
    ap (λ (o : Option Relation). elim o as (λ _. List Column) [ None ↦ [] | Some q ↦ q.schema ]) same in
    record {
      there = ap (λ (o : Option Relation). cond (is_none o) (Some (relation_of a)) None) same ∙ fits.there;
      named = ap (λ (s : List Column). first_unnamed (action_places s [] a)) columns ∙ fits.named;
      fits = ap (λ (s : List Column). action_fits s (term_kind [] false false) a) columns ∙ fits.fits;
    }
