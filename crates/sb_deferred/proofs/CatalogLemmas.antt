-- What waits tells which deferred rules may fail, when more waits, and when relations and rules come and go.
use Rattle.std.proofs.Common.{◌≡◌, Bool, true, false, not, ◌||◌, cond, List, [], ◌∷◌, Option, Some, None, refl, sym, ap, subst, ◌∙◌, get_or}
use Rattle.std.specs.Prelude.{All, filter, nat_le}
use Rattle.std.specs.List.{list_any}
use Rattle.std.specs.Str.{bytes_eq}
use Rattle.std.specs.FinMap.Entries.{where_key}
use Rattle.std.proofs.lemmas.Bool.{true≢false, or_left}
use Rattle.std.proofs.lemmas.List.Elements.{All-nil, All-cons, All-head, All-tail, All-same, All-weaker, All-filter}
use Rattle.sb_value.specs.declared.value.Value.{Value}
use Rattle.sb_value.specs.Equal.{bytes_same}
use Rattle.sb_value.specs.Order.{bytes_cmp}
use Rattle.sb_codec.specs.Tuples.{tuple_spelling}
use Rattle.sb_rule.specs.declared.rule.Side.TheVariants.{Main}
use Rattle.sb_rule.specs.declared.rule.Rule.{Rule}
use Rattle.sb_rule.specs.declared.rule.Rule.TheVariants.{JoinIndex, Refers}
use Rattle.sb_rule.specs.Spelling.{rule_code}
use Rattle.sb_relation.specs.Buckets.{standing_buckets}
use Rattle.sb_relation.specs.Build.{mirror_name, mirror_of, with_instance, with_attached, with_mirror}
use Rattle.sb_relation.specs.Db.{Name, Rows, Attached, Relation, Db, relation_at, with_relation, schema_at}
use Rattle.sb_relation.specs.Rules.{has_values, has_row_with}
use Rattle.sb_fold.specs.Building.{without_attached, without_mirror, without_mirror_of, without_mirrors}
use Rattle.sb_fold.specs.Fold.{attachments_at}
use Rattle.sb_fold.specs.Outcome.{Queue}
use Rattle.sb_deferred.specs.Complete.{is_either_waiting, tells_of, TellsOf, IsComplete}
use Rattle.sb_deferred.specs.CompleteLaws.{CompleteWithMore, CompleteWithARelation, CompleteWithARule, CompleteWithoutARule, is_child_of, CompleteWithoutARelation}
use Rattle.sb_deferred.proofs.RelationLemmas.{rows_of, schema_of, attachments_of, relation_same, relation_other, same_read, relation_gone, relation_left}
use Rattle.sb_deferred.proofs.TellingLemmas.{ParentsStay, tells_on, SameAt, NoneNew, same_goes_on, same_parents, tells_same, tells_holding}
use Rattle.sb_deferred.proofs.WaitingLemmas.{KeepsWaiting, keeps_behind}

-- ---- mirrors
abbrev IfMirror : (Name → Rule → Type 0) → Option (Name × Rule) → Type 0
IfMirror P None = Unit {0}
IfMirror P (Some (other, rule)) = P other rule

-- ---- the queue alone
itself : (db : Db) (n : Name) → SameAt db db n
itself db n = record { rows = refl; schema = refl }

pub more-complete : CompleteWithMore
more-complete db old new front complete relation = λ k d below.
    let a : Attached = get_or (attachments_at db relation) k d in
    tells_same db db old new relation a.name a.rule (itself db) (keeps_behind old new front) (complete relation k d below)

keeps_itself : (q : Queue) → KeepsWaiting q q
keeps_itself q relation name entry waits = waits

-- ---- a relation that comes
alike : (db after : Db) (n : Name) → relation_at after n ≡ relation_at db n → SameAt db after n
alike db after n same = record { rows = ap rows_of same; schema = ap schema_of same }

no_row : (db : Db) (name : Name) (others : List Name) (values : List Value) → relation_at db name ≡ None → has_row_with db name others values ≡ false
no_row db name others values new = ap (λ (rows : Rows). list_any (λ row. has_values (schema_at db name) others values row.1) rows) (ap rows_of new)

new_parents : (db : Db) (q : Queue) (name : Name) (r : Relation) → relation_at db name ≡ None → (relation label : Name) (rule : Rule) → ParentsStay db (with_relation db name r) q relation label rule
new_parents db q name r new relation label (Refers Main columns other others mode true) = λ values parent. by values parent (bytes_eq other name) refl
  where
    by : (values : List Value) → has_row_with db other others values ≡ true → (b : Bool) → bytes_eq other name ≡ b
        → (has_row_with (with_relation db name r) other others values || is_either_waiting q relation label other (tuple_spelling values)) ≡ true
    by values parent true same = absurd (true≢false (sym parent ∙ no_row db other others values (ap (relation_at db) ((bytes_same other name).0 same) ∙ new)))
    by values parent false differs =
        or_left (has_row_with (with_relation db name r) other others values) _
        (same_parents db (with_relation db name r) other others values (alike db (with_relation db name r) other (relation_other db name r other differs)) ∙ parent)
new_parents db q name r new relation label _ = tt

pub with-relation-complete : CompleteWithARelation
with-relation-complete db q name r new no_rows bare complete n = by (bytes_eq n name) refl
  where
    by : (b : Bool) → bytes_eq n name ≡ b → All (TellsOf (with_relation db name r) q n) (attachments_at (with_relation db name r) n)
    by true same =
        let none : attachments_at (with_relation db name r) n ≡ [] =
        ap (attachments_at (with_relation db name r)) ((bytes_same n name).0 same) ∙ ap attachments_of (relation_same db name r) ∙ bare in
        All-same (TellsOf (with_relation db name r) q n) (attachments_at (with_relation db name r) n) [] none (All-nil (TellsOf (with_relation db name r) q n))
    by false differs =
        let after : Db = with_relation db name r in
        let same : relation_at after n ≡ relation_at db n = relation_other db name r n differs in
        All-same (TellsOf after q n) (attachments_at after n) (attachments_at db n) (ap attachments_of same)
        (All-weaker (TellsOf db q n) (TellsOf after q n)
        (λ a tells. tells_on db after q q n a.name a.rule NoneNew (same_goes_on db after n (alike db after n same)) (keeps_itself q) (λ row none. absurd none) (new_parents db q name r new n a.name a.rule) tells)
        (attachments_at db n) (complete n))

-- ---- attachments that come and go
-- a relation with other attachments has the same rows
same_rows : (db : Db) (name : Name) (r : Relation) (items : List Attached) → relation_at db name ≡ Some r → (n : Name) → SameAt db (with_relation db name (record r { attachments = items })) n
same_rows db name r items there n = record {
  rows = same_read rows_of db name r (record r { attachments = items }) there refl n;
  schema = same_read schema_of db name r (record r { attachments = items }) there refl n;
}

-- what tells of each of them, when one relation's attachments are others
with_items : (db : Db) (q : Queue) (name : Name) (r : Relation) (items : List Attached) → relation_at db name ≡ Some r → All (TellsOf db q name) items → IsComplete db q
    → IsComplete (with_relation db name (record r { attachments = items })) q
with_items db q name r items there told complete n = by (bytes_eq n name) refl
  where
    after : Db
    after = with_relation db name (record r { attachments = items })

    on : (m : Name) (a : Attached) → TellsOf db q m a → TellsOf after q m a
    on m a tells = tells_same db after q q m a.name a.rule (same_rows db name r items there) (keeps_itself q) tells

    by : (b : Bool) → bytes_eq n name ≡ b → All (TellsOf after q n) (attachments_at after n)
    by true same =
        subst (λ (m : Name). All (TellsOf after q m) (attachments_at after m)) (sym ((bytes_same n name).0 same))
        (All-same (TellsOf after q name) (attachments_at after name) items (ap attachments_of (relation_same db name (record r { attachments = items })))
        (All-weaker (TellsOf db q name) (TellsOf after q name) (on name) items told))
    by false differs =
        All-same (TellsOf after q n) (attachments_at after n) (attachments_at db n) (ap attachments_of (relation_other db name (record r { attachments = items }) n differs))
        (All-weaker (TellsOf db q n) (TellsOf after q n) (on n) (attachments_at db n) (complete n))

all_with_instance : (P : Attached → Type 0) (new : Attached) (items : List Attached) → P new → All P items → All P (with_instance new items)
all_with_instance P new [] it all = All-cons P new [] it all
all_with_instance P new (a ∷ items) it all =
    by (nat_le (rule_code a.rule) (rule_code new.rule)) (all_with_instance P new items it (All-tail P a items all))
  where
    by : (b : Bool) → All P (with_instance new items) → All P (cond b (a ∷ with_instance new items) (new ∷ a ∷ items))
    by true rest = All-cons P a (with_instance new items) (All-head P a items all) rest
    by false rest = All-cons P new (a ∷ items) it all

abbrev attached_in : Db → Name → Name → Rule → Option Relation → Db
attached_in db relation name rule None = db
attached_in db relation name rule (Some r) =
    with_relation db relation (record r { attachments = with_instance (record { name = name; rule = rule; buckets = standing_buckets rule r.rows }) r.attachments })

there_of : (db : Db) (q : Queue) (name : Name) (r : Relation) → relation_at db name ≡ Some r → IsComplete db q → All (TellsOf db q name) r.attachments
there_of db q name r there complete = All-same (TellsOf db q name) r.attachments (attachments_at db name) (sym (ap attachments_of there)) (complete name)

with_attached_complete : (db : Db) (q : Queue) (relation name : Name) (rule : Rule) → tells_of db q relation name rule ≡ true → IsComplete db q → IsComplete (with_attached db relation name rule) q
with_attached_complete db q relation name rule tells complete = by (relation_at db relation) refl
  where
    by : (o : Option Relation) → relation_at db relation ≡ o → IsComplete (attached_in db relation name rule o) q
    by None is = complete
    by (Some r) is =
        let new : Attached = record { name = name; rule = rule; buckets = standing_buckets rule r.rows } in
        with_items db q relation r (with_instance new r.attachments) is (all_with_instance (TellsOf db q relation) new r.attachments tells (there_of db q relation r is complete)) complete

-- nothing has to wait for a mirror alone
mirror_tells : (db : Db) (q : Queue) (relation label : Name) (rule : Rule) → IfMirror (λ other mirror. tells_of db q other label mirror ≡ true) (mirror_of relation rule)
mirror_tells db q relation label (JoinIndex Main columns other others) = refl
mirror_tells db q relation label (Refers Main columns other others mode deferred) = refl
mirror_tells db q relation label _ = tt

with_mirror_complete : (db : Db) (q : Queue) (relation name : Name) (mirror : Option (Name × Rule)) → IfMirror (λ other rule. tells_of db q other (mirror_name relation name) rule ≡ true) mirror → IsComplete db q
    → IsComplete (with_mirror db relation name mirror) q
with_mirror_complete db q relation name None tells complete = complete
with_mirror_complete db q relation name (Some (other, rule)) tells complete = with_attached_complete db q other (mirror_name relation name) rule tells complete

pub with-rule-complete : CompleteWithARule
with-rule-complete box db q relation name rule held complete =
    with_mirror_complete (with_attached db relation name rule) q relation name (mirror_of relation rule) (mirror_tells (with_attached db relation name rule) q relation (mirror_name relation name) rule)
    (with_attached_complete db q relation name rule (tells_holding box db q relation name rule held) complete)

-- ---- that go
abbrev without_in : Db → Name → Name → Option Relation → Db
without_in db relation name None = db
without_in db relation name (Some r) = with_relation db relation (record r { attachments = filter (λ a. not (bytes_eq a.name name)) r.attachments })

without_attached_complete : (db : Db) (q : Queue) (relation name : Name) → IsComplete db q → IsComplete (without_attached db relation name) q
without_attached_complete db q relation name complete = by (relation_at db relation) refl
  where
    by : (o : Option Relation) → relation_at db relation ≡ o → IsComplete (without_in db relation name o) q
    by None is = complete
    by (Some r) is =
        let keeps : Attached → Bool = λ a. not (bytes_eq a.name name) in
        with_items db q relation r (filter keeps r.attachments) is (All-filter keeps (TellsOf db q relation) r.attachments (there_of db q relation r is complete)) complete

without_mirror_complete : (db : Db) (q : Queue) (relation name : Name) (mirror : Option (Name × Rule)) → IsComplete db q → IsComplete (without_mirror relation name mirror db) q
without_mirror_complete db q relation name None complete = complete
without_mirror_complete db q relation name (Some (other, rule)) complete = without_attached_complete db q other (mirror_name relation name) complete

pub without-rule-complete : CompleteWithoutARule
without-rule-complete db q relation a complete =
    without_mirror_complete (without_attached db relation a.name) q relation a.name (mirror_of relation a.rule) (without_attached_complete db q relation a.name complete)

without_mirrors_complete : (db : Db) (q : Queue) (relation : Name) (items : List Attached) → IsComplete db q → IsComplete (without_mirrors relation items db) q
without_mirrors_complete db q relation [] complete = complete
without_mirrors_complete db q relation (a ∷ items) complete =
    without_mirrors_complete (without_mirror_of relation a db) q relation items (without_mirror_complete db q relation a.name (mirror_of relation a.rule) complete)

-- ---- a relation that goes
-- what holds of each attachment of each relation, when some go
abbrev OfAll : (Name → Attached → Type 0) → Db → Type 0
OfAll P db = (n : Name) → All (P n) (attachments_at db n)

fewer_items : (P : Name → Attached → Type 0) (db : Db) (name : Name) (r : Relation) (items : List Attached) → All (P name) items → OfAll P db → OfAll P (with_relation db name (record r { attachments = items }))
fewer_items P db name r items each all n = by (bytes_eq n name) refl
  where
    after : Db
    after = with_relation db name (record r { attachments = items })

    by : (b : Bool) → bytes_eq n name ≡ b → All (P n) (attachments_at after n)
    by true same =
        subst (λ (m : Name). All (P m) (attachments_at after m)) (sym ((bytes_same n name).0 same))
        (All-same (P name) (attachments_at after name) items (ap attachments_of (relation_same db name (record r { attachments = items }))) each)
    by false differs = All-same (P n) (attachments_at after n) (attachments_at db n) (ap attachments_of (relation_other db name (record r { attachments = items }) n differs)) (all n)

fewer_attached : (P : Name → Attached → Type 0) (db : Db) (relation name : Name) → OfAll P db → OfAll P (without_attached db relation name)
fewer_attached P db relation name all = by (relation_at db relation) refl
  where
    by : (o : Option Relation) → relation_at db relation ≡ o → OfAll P (without_in db relation name o)
    by None is = all
    by (Some r) is =
        let keeps : Attached → Bool = λ a. not (bytes_eq a.name name) in
        fewer_items P db relation r (filter keeps r.attachments)
        (All-filter keeps (P relation) r.attachments (All-same (P relation) r.attachments (attachments_at db relation) (sym (ap attachments_of is)) (all relation))) all

fewer_mirrors : (P : Name → Attached → Type 0) (db : Db) (relation name : Name) (mirror : Option (Name × Rule)) → OfAll P db → OfAll P (without_mirror relation name mirror db)
fewer_mirrors P db relation name None all = all
fewer_mirrors P db relation name (Some (other, rule)) all = fewer_attached P db other (mirror_name relation name) all

fewer_of_all : (P : Name → Attached → Type 0) (db : Db) (relation : Name) (items : List Attached) → OfAll P db → OfAll P (without_mirrors relation items db)
fewer_of_all P db relation [] all = all
fewer_of_all P db relation (a ∷ items) all = fewer_of_all P (without_mirror_of relation a db) relation items (fewer_mirrors P db relation a.name (mirror_of relation a.rule) all)

-- another relation's attachment isn't a child of the relation that goes
abbrev IsUntied : Name → Name → Attached → Type 0
IsUntied name n a = (n ≡ name → ⊥) → is_child_of name a.rule ≡ false

left_parents : (db : Db) (q : Queue) (name relation label : Name) (rule : Rule) → is_child_of name rule ≡ false → ParentsStay db (where_key bytes_cmp (λ n. not (bytes_eq n name)) db) q relation label rule
left_parents db q name relation label (Refers Main columns other others mode true) untied =
    λ values parent. or_left (has_row_with (where_key bytes_cmp (λ n. not (bytes_eq n name)) db) other others values) _
    (same_parents db (where_key bytes_cmp (λ n. not (bytes_eq n name)) db) other others values (alike db (where_key bytes_cmp (λ n. not (bytes_eq n name)) db) other (relation_left db name other untied)) ∙ parent)
left_parents db q name relation label _ untied = tt

left_complete : (db : Db) (q : Queue) (name : Name) → OfAll (IsUntied name) db → IsComplete db q → IsComplete (where_key bytes_cmp (λ n. not (bytes_eq n name)) db) q
left_complete db q name untied complete n = by (bytes_eq n name) refl
  where
    after : Db
    after = where_key bytes_cmp (λ other. not (bytes_eq other name)) db

    by : (b : Bool) → bytes_eq n name ≡ b → All (TellsOf after q n) (attachments_at after n)
    by true same =
        let none : attachments_at after n ≡ [] = ap (attachments_at after) ((bytes_same n name).0 same) ∙ ap attachments_of (relation_gone db name) in
        All-same (TellsOf after q n) (attachments_at after n) [] none (All-nil (TellsOf after q n))
    by false differs =
        let left : relation_at after n ≡ relation_at db n = relation_left db name n differs in
        All-same (TellsOf after q n) (attachments_at after n) (attachments_at db n) (ap attachments_of left) (λ k d below.
        let a : Attached = get_or (attachments_at db n) k d in
        tells_on db after q q n a.name a.rule NoneNew (same_goes_on db after n (alike db after n left)) (keeps_itself q) (λ row none. absurd none)
        (left_parents db q name n a.name a.rule (untied n k d below (λ same. true≢false (sym ((bytes_same n name).1 same) ∙ differs)))) (complete n k d below))

pub without-relation-complete : CompleteWithoutARelation
without-relation-complete db q name untied complete =
    left_complete (without_mirrors name (attachments_at db name) db) q name
    (fewer_of_all (IsUntied name) db name (attachments_at db name) (λ n k d below other. untied n other k d below))
    (without_mirrors_complete db q name (attachments_at db name) complete)
