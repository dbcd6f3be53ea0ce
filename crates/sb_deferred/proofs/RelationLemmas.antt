-- What is read of a database's relations after one of them is put or goes.
use Rattle.std.proofs.Common.{◌≡◌, Bool, true, false, not, cond, List, [], ◌∷◌, Option, Some, None, refl, sym, ap, subst, ◌∙◌}
use Rattle.std.specs.Prelude.{All}
use Rattle.std.specs.List.{find}
use Rattle.std.specs.Str.{bytes_eq}
use Rattle.std.specs.Ordering.{is_eq, eq_by_cmp}
use Rattle.std.specs.FinMap.Entries as entries
use Rattle.std.proofs.lemmas.Cmp.{tied_itself, nat_list_cmp_total}
use Rattle.std.proofs.lemmas.List.Elements.{All-head, All-tail}
use Rattle.std.proofs.lemmas.Map.Text.{is_eq-slice_cmp}
use Rattle.std.proofs.lemmas.Option.{same_Some}
use Rattle.sb_value.specs.declared.schema.Column.{Column}
use Rattle.sb_value.specs.Equal.{bytes_same}
use Rattle.sb_value.specs.Order.{bytes_cmp}
use Rattle.sb_rule.specs.declared.change.Change.{Change}
use Rattle.sb_relation.specs.Changes.{changed, changed_rows, with_change}
use Rattle.sb_relation.specs.Db.{Name, Rows, Attached, Relation, Db, relation_at, with_relation}
use Rattle.sb_fold.specs.Building.{rule_at}
use Rattle.sb_fold.specs.Fold.{attachments_at}
use Rattle.sb_deferred.proofs.RowLemmas.{tied}

-- ---- what is read of a relation that may be there
abbrev pub rows_of : Option Relation → Rows
rows_of None = []
rows_of (Some r) = r.rows

abbrev pub schema_of : Option Relation → List Column
schema_of None = []
schema_of (Some r) = r.schema

abbrev pub attachments_of : Option Relation → List Attached
attachments_of None = []
attachments_of (Some r) = r.attachments

-- ---- relations after one is put
pub relation_same : (db : Db) (name : Name) (q : Relation) → relation_at (with_relation db name q) name ≡ Some q
relation_same db name q =
    entries.find-put bytes_cmp nat_list_cmp_total name name q db ∙ ap (λ o. cond (is_eq o) (Some q) (relation_at db name)) (tied_itself nat_list_cmp_total name)

pub relation_other : (db : Db) (name : Name) (q : Relation) (other : Name) → bytes_eq other name ≡ false → relation_at (with_relation db name q) other ≡ relation_at db other
relation_other db name q other differs =
    entries.find-put bytes_cmp nat_list_cmp_total other name q db ∙ ap (λ (b : Bool). cond b (Some q) (relation_at db other)) (is_eq-slice_cmp other name ∙ differs)

-- a relation is put in place of one of which the same is read
pub same_read : {A : Type 0} (read : Option Relation → A) (db : Db) (name : Name) (r q : Relation) → relation_at db name ≡ Some r → read (Some q) ≡ read (Some r) → (other : Name)
    → read (relation_at (with_relation db name q) other) ≡ read (relation_at db other)
same_read {A = A} read db name r q there same other = by (bytes_eq other name) refl
  where
    by : (b : Bool) → bytes_eq other name ≡ b → read (relation_at (with_relation db name q) other) ≡ read (relation_at db other)
    by true is =
        let named : other ≡ name = (bytes_same other name).0 is in
        ap (λ (n : Name). read (relation_at (with_relation db name q) n)) named ∙ ap read (relation_same db name q) ∙ same ∙ ap read (sym there) ∙ ap (λ (n : Name). read (relation_at db n)) (sym named)
    by false is = ap read (relation_other db name q other is)

-- ---- relations after one goes
pub relation_gone : (db : Db) (name : Name) → relation_at (entries.where_key bytes_cmp (λ n. not (bytes_eq n name)) db) name ≡ None
relation_gone db name =
    entries.find-where_key bytes_cmp (λ n. not (bytes_eq n name)) name (λ n tie. ap (λ (x : Name). not (bytes_eq x name)) (sym (tied name n tie))) db
    ∙ ap (λ (b : Bool). cond (not b) (relation_at db name) None) ((bytes_same name name).1 refl)

pub relation_left : (db : Db) (name other : Name) → bytes_eq other name ≡ false → relation_at (entries.where_key bytes_cmp (λ n. not (bytes_eq n name)) db) other ≡ relation_at db other
relation_left db name other differs =
    entries.find-where_key bytes_cmp (λ n. not (bytes_eq n name)) other (λ n tie. ap (λ (x : Name). not (bytes_eq x name)) (sym (tied other n tie))) db
    ∙ ap (λ (b : Bool). cond (not b) (relation_at db other) None) differs

-- ---- attachments that are found
-- what holds of all holds of the one that is found
pub all_found : {A : Type 0} (P : A → Type 0) (test : A → Bool) (items : List A) (a : A) → All P items → find test items ≡ Some a → P a × (test a ≡ true)
all_found P test [] a all e = absurd (cc)
all_found {A = A} P test (x ∷ xs) a all e = by (test x) refl e (all_found P test xs a (All-tail P x xs all))
  where
    by : (b : Bool) → test x ≡ b → cond b (Some x) (find test xs) ≡ Some a → (find test xs ≡ Some a → P a × (test a ≡ true)) → P a × (test a ≡ true)
    by true is found rest = let same : x ≡ a = same_Some x a found in (subst P same (All-head P x xs all), ap test (sym same) ∙ is)
    by false is found rest = rest found

-- what holds of each attachment of a relation holds of the one with a name
pub rule_found : (P : Attached → Type 0) (db : Db) (relation label : Name) (a : Attached) → All P (attachments_at db relation) → rule_at db relation label ≡ Some a → P a × (a.name ≡ label)
rule_found P db relation label a all found =
    let it : P a × (bytes_eq a.name label ≡ true) = all_found P (λ x. bytes_eq x.name label) (attachments_at db relation) a all found in
    (it.0, (bytes_same a.name label).0 it.1)

-- what holds of each relation under its name holds of the one that is there
pub all_at : (P : Name → Relation → Type 0) (es : Db) (k : Name) (v : Relation) → All (λ e. P e.0 e.1) es → relation_at es k ≡ Some v → P k v
all_at P [] k v all e = absurd (cc)
all_at P (x ∷ es) k v all e = by (eq_by_cmp bytes_cmp k x.0) refl e (all_at P es k v (All-tail (λ y. P y.0 y.1) x es all))
  where
    by : (b : Bool) → eq_by_cmp bytes_cmp k x.0 ≡ b → cond b (Some x.1) (relation_at es k) ≡ Some v → (relation_at es k ≡ Some v → P k v) → P k v
    by true same is rest =
        let named : k ≡ x.0 = (bytes_same k x.0).0 (sym (is_eq-slice_cmp k x.0) ∙ same) in
        subst (λ (n : Name). P n v) (sym named) (subst (P x.0) (same_Some x.1 v is) (All-head (λ y. P y.0 y.1) x es all))
    by false other is rest = rest is

-- ---- a change
pub changed_is : (db : Db) (name : Name) (r : Relation) (c : Change) → relation_at db name ≡ Some r → changed db name c ≡ with_relation db name (with_change r c (changed_rows r.rows c))
changed_is db name r c there = ap (λ (o : Option Relation). elim o as (λ _. Db) [ None ↦ db | Some s ↦ with_relation db name (with_change s c (changed_rows s.rows c)) ]) there
