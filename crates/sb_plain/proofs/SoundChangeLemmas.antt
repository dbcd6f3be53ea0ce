-- A change of a relation whose rules are alone leaves a sound database.
use Rattle.std.proofs.Common.{◌≡◌, ℕ, Bool, true, false, not, ◌&&◌, ◌||◌, T, List, [], ◌∷◌, map, Option, Some, None, refl, sym, ap, subst, ◌∙◌}
use Rattle.std.specs.Prelude.{All, cond, get_or}
use Rattle.std.specs.List.{find, list_any, list_all}
use Rattle.std.specs.Str.{bytes_eq}
use Rattle.std.specs.declared.cmp.Ordering.{Ordering}
use Rattle.std.specs.declared.cmp.Ordering.TheVariants.{Less, Equal, Greater}
use Rattle.std.specs.Ordering.{is_eq, is_lt}
use Rattle.std.specs.FinMap.Entries.{by_order, put, is_sorted, below_all, find-put, is_sorted-put, is_sorted-where_key}
use Rattle.std.proofs.lemmas.Cmp.{tied_itself, nat_list_cmp_total}
use Rattle.std.proofs.lemmas.List.Elements.{All-nil, All-cons, All-head, All-tail, All-map}
use Rattle.std.proofs.lemmas.Map.Text.{is_eq-slice_cmp}
use Rattle.std.proofs.lemmas.Option.{same_Some}
use Rattle.std.proofs.lemmas.Bool.{not-true}
use Rattle.sb_value.specs.declared.schema.Column.{Column}
use Rattle.sb_value.specs.Equal.{bytes_same}
use Rattle.sb_value.specs.Order.{bytes_cmp}
use Rattle.sb_pred.specs.Truth.{truth}
use Rattle.sb_rule.specs.declared.change.Change.{Change}
use Rattle.sb_rule.specs.declared.change.Change.TheVariants as change
use Rattle.sb_rule.specs.declared.rule.Mode.{Mode}
use Rattle.sb_rule.specs.declared.rule.Side.TheVariants.{Main, Mirror}
use Rattle.sb_rule.specs.declared.rule.Rule.{Rule}
use Rattle.sb_rule.specs.declared.rule.Rule.TheVariants.{TreeIndex, HashIndex, JoinIndex, Stats, Check, Refers, Trigger, Foreign}
use Rattle.sb_relation.specs.Buckets.{grown}
use Rattle.sb_relation.specs.Build.{mirror_name, mirror_of}
use Rattle.sb_relation.specs.Changes.{changed_rows, with_change, changed, of_new}
use Rattle.sb_relation.specs.Db.{Name, Row, Rows, Attached, Relation, Db, relation_at, with_relation, rows_at, schema_at, values_in, without_row}
use Rattle.sb_relation.specs.Rules.{has_values, is_unique, admits}
use Rattle.sb_relation.proofs.RuleLaws.{mirrors-mirror}
use Rattle.sb_relation.specs.Laws.{is_foreign}
use Rattle.sb_fold.specs.Building.{rule_at, HasMirror}
use Rattle.sb_fold.specs.Extensions.{Extensions, box_of}
use Rattle.sb_fold.specs.Fold.{attachments_at, vetoing}
use Rattle.sb_plain.specs.Laws.{ChangesKeepSound}
use Rattle.sb_plain.specs.Lawful.{IsMirrorOf, IsLawfulRelation, IsLawful, IsSoundNow, AreAlone, is_alone, is_deferred}
use Rattle.sb_plain.specs.Printing.{is_mirror}
use Rattle.sb_plain.proofs.ChangeLemmas.{changed_in}
use Rattle.sb_plain.proofs.SoundLemmas.{all_found, all_at, attached, HoldsAt}
use Rattle.sb_plain.proofs.UniqueLemmas.{tied, differs_less, differs_greater, head_of, rest_of, all_put, all_filter, is_other, unique_put, unique_filter}

-- ---- relations after a change of one
relation_same : (db : Db) (name : Name) (q : Relation) → relation_at (with_relation db name q) name ≡ Some q
relation_same db name q = find-put bytes_cmp nat_list_cmp_total name name q db ∙ ap (λ o. cond (is_eq o) (Some q) (relation_at db name)) (tied_itself nat_list_cmp_total name)

relation_other : (db : Db) (name : Name) (q : Relation) (other : Name) → bytes_eq other name ≡ false → relation_at (with_relation db name q) other ≡ relation_at db other
relation_other db name q other differs =
    find-put bytes_cmp nat_list_cmp_total other name q db ∙ ap (λ (b : Bool). cond b (Some q) (relation_at db other)) (is_eq-slice_cmp other name ∙ differs)

rows_along : (o p : Option Relation) → o ≡ p → (elim o as (λ _. Rows) [ None ↦ [] | Some q ↦ q.rows ]) ≡ (elim p as (λ _. Rows) [ None ↦ [] | Some q ↦ q.rows ])
rows_along o p e = ap (λ (x : Option Relation). elim x as (λ _. Rows) [ None ↦ [] | Some q ↦ q.rows ]) e

schema_along : (o p : Option Relation) → o ≡ p → (elim o as (λ _. List Column) [ None ↦ [] | Some q ↦ q.schema ]) ≡ (elim p as (λ _. List Column) [ None ↦ [] | Some q ↦ q.schema ])
schema_along o p e = ap (λ (x : Option Relation). elim x as (λ _. List Column) [ None ↦ [] | Some q ↦ q.schema ]) e

-- what holds of each one with another key holds of those with greater ones
above : {X : Type 0} (P : List ℕ → X → Type 0) (k : List ℕ) (es : List (List ℕ × X)) → T (below_all bytes_cmp k es) → All (λ e. bytes_eq e.0 k ≡ false → P e.0 e.1) es → All (λ e. P e.0 e.1) es
above P k [] below all = All-nil _
above P k (e ∷ es) below all =
    All-cons (λ x. P x.0 x.1) e es (All-head (λ x. bytes_eq x.0 k ≡ false → P x.0 x.1) e es all (differs_less k e.0 (head_of (is_lt (bytes_cmp k e.0)) (below_all bytes_cmp k es) below)))
    (above P k es (rest_of (is_lt (bytes_cmp k e.0)) (below_all bytes_cmp k es) below) (All-tail (λ x. bytes_eq x.0 k ≡ false → P x.0 x.1) e es all))

-- what holds of each other one, and of the new one
put_others : {X : Type 0} (P : List ℕ → X → Type 0) (k : List ℕ) (v : X) (es : List (List ℕ × X)) → T (is_sorted bytes_cmp es) → All (λ e. bytes_eq e.0 k ≡ false → P e.0 e.1) es → P k v
    → All (λ e. P e.0 e.1) (put bytes_cmp k v es)
put_others P k v [] rises all new = All-cons (λ e. P e.0 e.1) (k, v) [] new (All-nil _)
put_others {X = X} P k v (e ∷ es) rises all new =
    of_order (bytes_cmp k e.0) refl (is_sorted-put bytes_cmp nat_list_cmp_total k v (e ∷ es) rises)
    (put_others P k v es (rest_of (below_all bytes_cmp e.0 es) (is_sorted bytes_cmp es) rises) (All-tail (λ x. bytes_eq x.0 k ≡ false → P x.0 x.1) e es all) new)
  where
    of_order : (o : Ordering) → bytes_cmp k e.0 ≡ o → T (is_sorted bytes_cmp (by_order o ((k, v) ∷ e ∷ es) ((e.0, v) ∷ es) (e ∷ put bytes_cmp k v es))) → All (λ x. P x.0 x.1) (put bytes_cmp k v es)
        → All (λ x. P x.0 x.1) (by_order o ((k, v) ∷ e ∷ es) ((e.0, v) ∷ es) (e ∷ put bytes_cmp k v es))
    of_order Less is sorted rest = All-cons (λ x. P x.0 x.1) (k, v) (e ∷ es) new (above P k (e ∷ es) (head_of (below_all bytes_cmp k (e ∷ es)) (is_sorted bytes_cmp (e ∷ es)) sorted) all)
    of_order Equal is sorted rest =
        All-cons (λ x. P x.0 x.1) (e.0, v) es (subst (λ (n : List ℕ). P n v) (tied k e.0 is) new)
        (above P k es (subst (λ (n : List ℕ). T (below_all bytes_cmp n es)) (sym (tied k e.0 is)) (head_of (below_all bytes_cmp e.0 es) (is_sorted bytes_cmp es) sorted)) (All-tail (λ x. bytes_eq x.0 k ≡ false → P x.0 x.1) e es all))
    of_order Greater is sorted rest = All-cons (λ x. P x.0 x.1) e (put bytes_cmp k v es) (All-head (λ x. bytes_eq x.0 k ≡ false → P x.0 x.1) e es all (differs_greater k e.0 is)) rest

-- ---- rules of the changed relation
abbrev IsMeant : Rule → Type 0
IsMeant rule = (not (is_foreign rule) && not (is_deferred rule)) ≡ true

unique_after : (r : Relation) (columns : List Name) (c : Change) → T (is_sorted bytes_cmp r.rows) → is_unique r.schema columns r.rows ≡ true
    → of_new c (λ key new. not (list_any (is_other r.schema columns key new) (changed_rows r.rows c))) ≡ true → is_unique r.schema columns (changed_rows r.rows c) ≡ true
unique_after r columns (change.Insert key new) rises unique admitted = unique_put r.schema columns key new r.rows rises unique (not-true _ admitted)
unique_after r columns (change.Delete key old) rises unique admitted = unique_filter r.schema columns (λ row. not (bytes_eq row.0 key)) r.rows unique
unique_after r columns (change.Update from old to new) rises unique admitted =
    unique_put r.schema columns to new (without_row r.rows from) (is_sorted-where_key bytes_cmp (λ k. not (bytes_eq k from)) r.rows rises) (unique_filter r.schema columns (λ row. not (bytes_eq row.0 from)) r.rows unique)
    (not-true _ admitted)

each_after : (test : Row → Bool) (rows : Rows) (c : Change) → list_all (λ row. test row.1) rows ≡ true → of_new c (λ key new. test new) ≡ true → list_all (λ row. test row.1) (changed_rows rows c) ≡ true
each_after test rows (change.Insert key new) all admitted = all_put test key new rows all admitted
each_after test rows (change.Delete key old) all admitted = all_filter (λ row. test row.1) (λ row. not (bytes_eq row.0 key)) rows all
each_after test rows (change.Update from old to new) all admitted = all_put test to new (without_row rows from) (all_filter (λ row. test row.1) (λ row. not (bytes_eq row.0 from)) rows all) admitted

-- what stands before and after
record Turns (db after : Db) (name : Name) (r : Relation) (c : Change) : Type 0 where
  schema : schema_at db name ≡ r.schema
  rows : rows_at db name ≡ r.rows
  schema_then : schema_at after name ≡ r.schema
  rows_then : rows_at after name ≡ changed_rows r.rows c
  rises : T (is_sorted bytes_cmp r.rows)

own_rule : (ext : Extensions) (db after : Db) (name : Name) (r : Relation) (c : Change) → Turns db after name r c → (rule : Rule) → is_alone rule ≡ true → (IsMeant rule → HoldsAt ext db name rule)
    → admits (box_of ext rule) after name rule c ≡ true → IsMeant rule → HoldsAt ext after name rule
own_rule ext db after name r c turns (TreeIndex columns false) alone held admitted meant = refl
own_rule ext db after name r c turns (TreeIndex columns true) alone held admitted meant =
    (λ i. is_unique (turns.schema_then i) columns (turns.rows_then i))
    ∙ unique_after r columns c turns.rises ((λ i. is_unique (sym turns.schema i) columns (sym turns.rows i)) ∙ held refl)
    ((λ i. of_new c (λ key new. not (list_any (λ row. not (bytes_eq row.0 key) && has_values (sym turns.schema_then i) columns (values_in (sym turns.schema_then i) new columns) row.1) (sym turns.rows_then i)))) ∙ admitted)
own_rule ext db after name r c turns (HashIndex columns) alone held admitted meant = refl
own_rule ext db after name r c turns (JoinIndex side columns other others) alone held admitted meant = refl
own_rule ext db after name r c turns (Stats column low width) alone held admitted meant = refl
own_rule ext db after name r c turns (Check pred true) alone held admitted meant = absurd (cc)
own_rule ext db after name r c turns (Check pred false) alone held admitted meant =
    (λ i. list_all (λ row. truth (turns.schema_then i) None (Some row.1) pred) (turns.rows_then i))
    ∙ each_after (λ row. truth r.schema None (Some row) pred) r.rows c ((λ i. list_all (λ row. truth (sym turns.schema i) None (Some row.1) pred) (sym turns.rows i)) ∙ held refl)
    ((λ i. of_new c (λ key new. truth (sym turns.schema_then i) None (Some new) pred)) ∙ admitted)
own_rule ext db after name r c turns (Refers side columns other others mode deferred) alone held admitted meant = absurd (cc)
own_rule ext db after name r c turns (Trigger on pred act deferred) alone held admitted meant = absurd (cc)
own_rule ext db after name r c turns (Foreign code desc) alone held admitted meant = absurd (cc)

admits_all : (ext : Extensions) (db : Db) (name : Name) (c : Change) (items : List Attached) → vetoing ext db name c items ≡ None → All (λ a. admits (box_of ext a.rule) db name a.rule c ≡ true) items
admits_all ext db name c [] none = All-nil _
admits_all ext db name c (a ∷ items) none = of_test (admits (box_of ext a.rule) db name a.rule c) refl none (admits_all ext db name c items)
  where
    of_test : (b : Bool) → admits (box_of ext a.rule) db name a.rule c ≡ b → cond b (vetoing ext db name c items) (Some a.name) ≡ None
        → (vetoing ext db name c items ≡ None → All (λ x. admits (box_of ext x.rule) db name x.rule c ≡ true) items) → All (λ x. admits (box_of ext x.rule) db name x.rule c ≡ true) (a ∷ items)
    of_test true is passed rest = All-cons (λ x. admits (box_of ext x.rule) db name x.rule c ≡ true) a items is (rest passed)
    of_test false is passed rest = absurd (cc)

-- ---- rules of other relations
-- each attachment of a relation by its label
alone_at : (db : Db) (name : Name) (r : Relation) → relation_at db name ≡ Some r → AreAlone r → (label : Name) (a : Attached) → rule_at db name label ≡ Some a → is_alone a.rule ≡ true
alone_at db name r there alone label a found =
    all_found (λ x. is_alone x.rule ≡ true) (λ x. bytes_eq x.name label) r.attachments a alone
    (ap (λ (o : Option Relation). find (λ x. bytes_eq x.name label) (elim o as (λ _. List Attached) [ None ↦ [] | Some q ↦ q.attachments ])) (sym there) ∙ found)

-- so no refers has that relation for its parent, and none for its child
no_parent : (db : Db) (name : Name) (r : Relation) → relation_at db name ≡ Some r → AreAlone r → (child label : Name) (columns others : List Name) (other : Name) (mode : Mode) (deferred : Bool)
    → HasMirror db label (mirror_of child (Refers Main columns other others mode deferred)) → other ≡ name → ⊥
no_parent db name r there alone child label columns others other mode deferred has same =
    let one : is_alone has.0.rule ≡ true = alone_at db name r there alone label has.0 (subst (λ (n : Name). rule_at db n label ≡ Some has.0) same has.1) in
    let two : is_alone has.0.rule ≡ false = ap is_alone has.2 in
    cc

no_child : (db : Db) (name : Name) (r : Relation) → relation_at db name ≡ Some r → AreAlone r → (parent label : Name) (buckets : ℕ) (columns others : List Name) (other : Name) (mode : Mode) (deferred : Bool)
    → IsMirrorOf db parent (attached label (Refers Mirror columns other others mode deferred) buckets) → other ≡ name → ⊥
no_child db name r there alone parent label buckets columns others other mode deferred is same =
    let pair : ◌≡◌ {A = Name × Rule} (other, Refers Main others parent columns mode deferred) (is.other, is.main.rule) =
    same_Some _ _ (mirrors-mirror is.other parent is.main.rule (Refers Mirror columns other others mode deferred) is.mirror) in
    let at : is.other ≡ name = sym (ap (λ (p : Name × Rule). p.0) pair) ∙ same in
    let one : is_alone is.main.rule ≡ true = alone_at db name r there alone is.main.name is.main (subst (λ (n : Name). rule_at db n is.main.name ≡ Some is.main) at is.stands) in
    let two : false ≡ is_alone is.main.rule = ap (λ (p : Name × Rule). is_alone p.1) pair in
    cc

same_at : (db : Db) (name : Name) (q : Relation) (other : Name) → (other ≡ name → ⊥) → relation_at (with_relation db name q) other ≡ relation_at db other
same_at db name q other apart = of_test (bytes_eq other name) refl
  where
    of_test : (b : Bool) → bytes_eq other name ≡ b → relation_at (with_relation db name q) other ≡ relation_at db other
    of_test true is = absurd (apart ((bytes_same other name).0 is))
    of_test false is = relation_other db name q other is

other_rule : (ext : Extensions) (db : Db) (name : Name) (q r : Relation) → relation_at db name ≡ Some r → AreAlone r → (n : Name) → bytes_eq n name ≡ false → (label : Name) (rule : Rule) (buckets : ℕ)
    → HasMirror db (mirror_name n label) (mirror_of n rule) → (is_mirror rule ≡ true → IsMirrorOf db n (attached label rule buckets)) → (IsMeant rule → HoldsAt ext db n rule)
    → IsMeant rule → HoldsAt ext (with_relation db name q) n rule
other_rule ext db name q r there alone n differs label (TreeIndex columns unique) buckets has is held meant =
    let at : relation_at (with_relation db name q) n ≡ relation_at db n = relation_other db name q n differs in
    (λ i. not unique || is_unique (schema_along _ _ at i) columns (rows_along _ _ at i)) ∙ held meant
other_rule ext db name q r there alone n differs label (HashIndex columns) buckets has is held meant = refl
other_rule ext db name q r there alone n differs label (JoinIndex side columns other others) buckets has is held meant = refl
other_rule ext db name q r there alone n differs label (Stats column low width) buckets has is held meant = refl
other_rule ext db name q r there alone n differs label (Check pred deferred) buckets has is held meant =
    let at : relation_at (with_relation db name q) n ≡ relation_at db n = relation_other db name q n differs in
    (λ i. list_all (λ row. truth (schema_along _ _ at i) None (Some row.1) pred) (rows_along _ _ at i)) ∙ held meant
other_rule ext db name q r there alone n differs label (Refers Main columns other others mode deferred) buckets has is held meant =
    let at : relation_at (with_relation db name q) n ≡ relation_at db n = relation_other db name q n differs in
    let to : relation_at (with_relation db name q) other ≡ relation_at db other =
    same_at db name q other (no_parent db name r there alone n (mirror_name n label) columns others other mode deferred has) in
    (λ i. list_all (λ row. list_any (λ p. has_values (schema_along _ _ to i) others (values_in (schema_along _ _ at i) row.1 columns) p.1) (rows_along _ _ to i)) (rows_along _ _ at i)) ∙ held meant
other_rule ext db name q r there alone n differs label (Refers Mirror columns other others mode deferred) buckets has is held meant =
    let at : relation_at (with_relation db name q) n ≡ relation_at db n = relation_other db name q n differs in
    let to : relation_at (with_relation db name q) other ≡ relation_at db other =
    same_at db name q other (no_child db name r there alone n label buckets columns others other mode deferred (is refl)) in
    (λ i. list_all (λ row. list_any (λ p. has_values (schema_along _ _ at i) columns (values_in (schema_along _ _ to i) row.1 others) p.1) (rows_along _ _ at i)) (rows_along _ _ to i)) ∙ held meant
other_rule ext db name q r there alone n differs label (Trigger on pred act deferred) buckets has is held meant = refl
other_rule ext db name q r there alone n differs label (Foreign code desc) buckets has is held meant = absurd (cc)

-- ---- the whole database
abbrev Held : Extensions → Db → Name → Relation → Type 0
Held ext db name r = All (λ a. IsMeant a.rule → HoldsAt ext db name a.rule) r.attachments

keeps : (ext : Extensions) (db : Db) (name : Name) (r : Relation) (c : Change) → relation_at db name ≡ Some r → AreAlone r → IsLawful ext db → IsSoundNow ext db
    → vetoing ext (with_relation db name (with_change r c (changed_rows r.rows c))) name c (attachments_at (with_relation db name (with_change r c (changed_rows r.rows c))) name) ≡ None
    → IsSoundNow ext (with_relation db name (with_change r c (changed_rows r.rows c)))
keeps ext db name r c there alone lawful now none =
    let rows : Rows = changed_rows r.rows c in
    let items : List Attached = map (grown c rows) r.attachments in
    let after : Db = with_relation db name (with_change r c rows) in
    let same : relation_at after name ≡ Some (with_change r c rows) = relation_same db name (with_change r c rows) in
    let turns : Turns db after name r c = record {
      schema = schema_along _ _ there;
      rows = rows_along _ _ there;
      schema_then = schema_along _ _ same;
      rows_then = rows_along _ _ same;
      rises = (all_at (IsLawfulRelation ext db) db name r lawful.relations there).rising;
    } in
    let those : attachments_at after name ≡ items = ap (λ (o : Option Relation). elim o as (λ _. List Attached) [ None ↦ [] | Some q ↦ q.attachments ]) same in
    let admitted : All (λ a. admits (box_of ext a.rule) after name a.rule c ≡ true) items = admits_all ext after name c items (ap (vetoing ext after name c) (sym those) ∙ none) in
    let held : All (λ a. IsMeant a.rule → HoldsAt ext db name a.rule) items = All-map (λ a. IsMeant a.rule → HoldsAt ext db name a.rule) (grown c rows) r.attachments (all_at (Held ext db) db name r now there) in
    let calm : All (λ a. is_alone a.rule ≡ true) items = All-map (λ a. is_alone a.rule ≡ true) (grown c rows) r.attachments alone in
    put_others (Held ext after) name (with_change r c rows) db lawful.rising
    (λ k d below differs. λ j a within.
    let e : Name × Relation = get_or db k d in
    let x : Attached = get_or e.1.attachments j a in
    other_rule ext db name (with_change r c rows) r there alone e.0 differs x.name x.rule x.buckets ((lawful.relations k d below).mirrored j a within) ((lawful.relations k d below).mirrors j a within) (now k d below j a within))
    (λ j a within. own_rule ext db after name r c turns (get_or items j a).rule (calm j a within) (held j a within) (admitted j a within))

-- no attachment of the changed relation is another than alone
pub alone_after : (db : Db) (name : Name) (r : Relation) (c : Change) → relation_at db name ≡ Some r → AreAlone r → All (λ a. is_alone a.rule ≡ true) (attachments_at (changed db name c) name)
alone_after db name r c there alone =
    let rows : Rows = changed_rows r.rows c in
    let same : relation_at (with_relation db name (with_change r c rows)) name ≡ Some (with_change r c rows) = relation_same db name (with_change r c rows) in
    subst (λ (o : Option Relation). All (λ a. is_alone a.rule ≡ true) (attachments_at (changed_in db name c o) name)) (sym there)
    (subst (λ (o : Option Relation). All (λ a. is_alone a.rule ≡ true) (elim o as (λ _. List Attached) [ None ↦ [] | Some q ↦ q.attachments ])) (sym same)
    (All-map (λ a. is_alone a.rule ≡ true) (grown c rows) r.attachments alone))

pub schema_after : (db : Db) (name : Name) (r : Relation) (c : Change) → relation_at db name ≡ Some r → schema_at (changed db name c) name ≡ schema_at db name
schema_after db name r c there =
    let rows : Rows = changed_rows r.rows c in
    subst (λ (o : Option Relation). schema_at (changed_in db name c o) name ≡ (elim o as (λ _. List Column) [ None ↦ [] | Some q ↦ q.schema ])) (sym there)
    (schema_along _ _ (relation_same db name (with_change r c rows)))

pub changes-sound : ChangesKeepSound
changes-sound ext db name r c there alone lawful now =
    subst (λ (o : Option Relation). vetoing ext (changed_in db name c o) name c (attachments_at (changed_in db name c o) name) ≡ None → IsSoundNow ext (changed_in db name c o)) (sym there)
    (keeps ext db name r c there alone lawful now)
