-- A change of rows leaves a lawful database.
use Rattle.std.proofs.Common.{◌≡◌, ℕ, ◌==◌, Bool, true, false, not, ◌&&◌, ◌||◌, T, List, [], ◌∷◌, ◌++◌, map, Option, Some, None, option_map, is_some, refl, sym, ap, subst, ◌∙◌}
use Rattle.std.specs.Prelude.{All, cond, nat_le}
use Rattle.std.specs.List.{find, list_any}
use Rattle.std.specs.Option.{option_or}
use Rattle.std.specs.Str.{bytes_eq}
use Rattle.std.specs.declared.cmp.Ordering.{Ordering}
use Rattle.std.specs.declared.cmp.Ordering.TheVariants.{Less, Equal, Greater}
use Rattle.std.specs.Ordering.{eq_by_cmp, is_lt}
use Rattle.std.specs.FinMap.Entries.{by_order, put, is_sorted, below_all, find-put, find-where_key, is_sorted-put, is_sorted-where_key, same_entries}
use Rattle.std.proofs.lemmas.Cmp.{nat_list_cmp_total}
use Rattle.std.proofs.lemmas.List.Elements.{All-nil, All-cons, All-head, All-tail, All-map, All-weaker, All-filter}
use Rattle.std.proofs.lemmas.Map.Text.{is_eq-slice_cmp}
use Rattle.std.proofs.lemmas.Option.{same_Some}
use Rattle.sb_value.specs.declared.schema.Column.{Column}
use Rattle.sb_value.specs.Equal.{bytes_same}
use Rattle.sb_value.specs.Order.{bytes_cmp}
use Rattle.sb_pred.specs.Typing.{term_kind, is_well_typed}
use Rattle.sb_rule.specs.declared.change.Change.{Change}
use Rattle.sb_rule.specs.declared.change.Change.TheVariants as change
use Rattle.sb_rule.specs.declared.rule.Rule.{Rule}
use Rattle.sb_rule.specs.declared.rule.Rule.TheVariants.{JoinIndex, Refers, Trigger}
use Rattle.sb_rule.specs.Spelling.{rule_code}
use Rattle.sb_relation.specs.Buckets.{grown}
use Rattle.sb_relation.specs.Build.{mirror_name, mirror_of}
use Rattle.sb_relation.specs.Changes.{changed_rows, with_change}
use Rattle.sb_relation.specs.Db.{Name, Key, Row, Rows, Attached, Relation, Db, relation_at, with_relation, schema_at, without_row, tree}
use Rattle.sb_relation.specs.Fits.{relation_of, other_relations, first_missing, places_in, pred_places, action_places, rule_places, first_unnamed, kinds_at, are_one_kind, has_old, has_new, action_fits, rule_fits}
use Rattle.sb_relation.specs.Foreign.{AttachRules}
use Rattle.sb_relation.specs.Lawful.{is_long_row, is_long_code, is_long_for}
use Rattle.sb_relation.specs.Limits.{is_large_rule, is_crowded, has_large_descriptor}
use Rattle.sb_fold.specs.Building.{rule_at, without_mirrors, without_rule, without_relation, HasMirror}
use Rattle.sb_fold.specs.Extensions.{Extensions, box_of}
use Rattle.sb_fold.specs.Fold.{attachments_at}
use Rattle.sb_plain.specs.declared.command.Command.TheVariants as command
use Rattle.sb_plain.specs.Laws.{ChangesLeaveLawful}
use Rattle.sb_plain.specs.Lawful.{MayBe, MayBeAttached, IsMirrorOf, is_in_order, IsRowOf, IsChangeOf, IsLawfulRelation, IsLawful}
use Rattle.sb_plain.specs.Printing.{is_mirror}
use Rattle.sb_plain.specs.Refusing.{first_twice, some_where, rule_twice, unnamed, differ_in_life, is_mixed_rule}
use Rattle.sb_plain.proofs.ShapeLemmas.{unbucketed, shape_of, shape, relation_at-shape, shape-with_relation, same_there, same_schema, same_count, same_life, same_size, same_rule, same_without, same_with}
use Rattle.sb_plain.proofs.SoundLemmas.{all_at}
use Rattle.sb_plain.proofs.UniqueLemmas.{tied}

-- ---- what tests of an attach see of a database
same_missing : (db db' : Db) → shape db ≡ shape db' → (names : List Name) → first_missing db names ≡ first_missing db' names
same_missing db db' e names = λ i. find (λ name. same_there db db' e name i) names

same_places : (db db' : Db) → shape db ≡ shape db' → (schema : List Column) (rule : Rule) → rule_places db schema rule ≡ rule_places db' schema rule
same_places db db' e schema (JoinIndex side columns other others) = ap (λ (s : List Column). places_in schema columns ++ places_in s others) (same_schema db db' e other)
same_places db db' e schema (Refers side columns other others mode deferred) = ap (λ (s : List Column). places_in schema columns ++ places_in s others) (same_schema db db' e other)
same_places db db' e schema (Trigger on pred act deferred) = ap (λ (s : List Column). pred_places schema pred ++ action_places s schema act) (same_schema db db' e (relation_of act))
same_places db db' e schema _ = refl

same_fits : (box : Option AttachRules) (db db' : Db) → shape db ≡ shape db' → (schema : List Column) (rule : Rule) → rule_fits box db schema rule ≡ rule_fits box db' schema rule
same_fits box db db' e schema (JoinIndex side columns other others) = ap (λ (s : List Column). are_one_kind (kinds_at schema columns) (kinds_at s others)) (same_schema db db' e other)
same_fits box db db' e schema (Refers side columns other others mode deferred) = ap (λ (s : List Column). are_one_kind (kinds_at schema columns) (kinds_at s others)) (same_schema db db' e other)
same_fits box db db' e schema (Trigger on pred act deferred) =
    ap (λ (s : List Column). is_well_typed schema (has_old on) (has_new on) pred && action_fits s (term_kind schema (has_old on) (has_new on)) act) (same_schema db db' e (relation_of act))
same_fits box db db' e schema _ = refl

same_differ : (ext : Extensions) (db db' : Db) → shape db ≡ shape db' → (a b : Name) → differ_in_life ext db a b ≡ differ_in_life ext db' a b
same_differ ext db db' e a b = λ i. cond (same_life ext db db' e a i) (not (same_life ext db db' e b i)) (same_life ext db db' e b i)

same_mixed : (ext : Extensions) (db db' : Db) → shape db ≡ shape db' → (name : Name) (rule : Rule) → is_mixed_rule ext db name rule ≡ is_mixed_rule ext db' name rule
same_mixed ext db db' e name (JoinIndex side columns other others) = ap (λ (b : Bool). bytes_eq name other || b) (same_differ ext db db' e name other)
same_mixed ext db db' e name (Refers side columns other others mode deferred) = same_differ ext db db' e name other
same_mixed ext db db' e name (Trigger on pred act deferred) = same_differ ext db db' e name (relation_of act)
same_mixed ext db db' e name _ = refl

same_crowded : (db db' : Db) → shape db ≡ shape db' → (name : Name) (rule : Rule) → is_crowded db name rule ≡ is_crowded db' name rule
same_crowded db db' e name (JoinIndex side columns other others) = λ i. nat_le 16 (same_count db db' e name i) || nat_le 16 (same_count db db' e other i)
same_crowded db db' e name (Refers side columns other others mode deferred) =
    λ i. cond (bytes_eq name other) (nat_le 15 (same_count db db' e name i)) (nat_le 16 (same_count db db' e name i) || nat_le 16 (same_count db db' e other i))
same_crowded db db' e name _ = ap (nat_le 16) (same_count db db' e name)

same_large : (db db' : Db) → shape db ≡ shape db' → (name : Name) (rule : Rule) → has_large_descriptor name rule db ≡ has_large_descriptor name rule db'
same_large db db' e name (JoinIndex side columns other others) = λ i. same_size db db' e name i || same_size db db' e other i
same_large db db' e name (Refers side columns other others mode deferred) = λ i. same_size db db' e name i || same_size db db' e other i
same_large db db' e name _ = same_size db db' e name

same_taken : (db db' : Db) → shape db ≡ shape db' → (name label : Name) → is_some (rule_at db name label) ≡ is_some (rule_at db' name label)
same_taken db db' e name label = sym (of_map (rule_at db name label)) ∙ ap is_some (same_rule db db' e name label) ∙ of_map (rule_at db' name label)
  where
    of_map : (o : Option Attached) → is_some (option_map unbucketed o) ≡ is_some o
    of_map None = refl
    of_map (Some a) = refl

pub may_attach : (ext : Extensions) (db db' : Db) → shape db ≡ shape db' → (name label : Name) (rule : Rule) → MayBe ext db (command.Attach name label rule) → MayBe ext db' (command.Attach name label rule)
may_attach ext db db' e name label rule may = record {
  there = sym (same_missing db db' e (name ∷ other_relations rule)) ∙ may.there;
  new = sym (ap (λ (b : Bool). option_or (some_where b label) (rule_twice rule)) (same_taken db db' e name label)) ∙ may.new;
  named =
      sym (ap (λ places. unnamed (first_unnamed places)) (same_places db db' e (schema_at db name) rule ∙ ap (λ (s : List Column). rule_places db' s rule) (same_schema db db' e name)))
      ∙ may.named;
  fits = sym (same_fits (box_of ext rule) db db' e (schema_at db name) rule ∙ ap (λ (s : List Column). rule_fits (box_of ext rule) db' s rule) (same_schema db db' e name)) ∙ may.fits;
  alike = sym (same_mixed ext db db' e name rule) ∙ may.alike;
  within = sym (λ i. is_large_rule rule || same_crowded db db' e name rule i || same_large _ _ (same_with db db' e name label rule) name rule i) ∙ may.within;
}

-- ---- a relation isn't there without itself
gone : (db : Db) (name : Name) → relation_at (without_relation db name) name ≡ None
gone db name =
    let others : Db = without_mirrors name (attachments_at db name) db in
    find-where_key bytes_cmp (λ other. not (bytes_eq other name)) name (λ other tie. ap (λ (n : Name). not (bytes_eq n name)) (sym (tied name other tie))) others
    ∙ ap (λ (b : Bool). cond (not b) (relation_at others name) None) ((bytes_same name name).1 refl)

may_create : (ext : Extensions) (db db' : Db) (name : Name) (method : ℕ) (schema : List Column) (key : List Name) → MayBe ext (without_relation db name) (command.Create name method schema key)
    → MayBe ext (without_relation db' name) (command.Create name method schema key)
may_create ext db db' name method schema key may = record {
  there = refl;
  new = ap (λ (o : Option Relation). option_or (some_where (is_some o) name) (option_or (first_twice (map (λ c. c.name) schema)) (first_twice key))) (gone db' name ∙ sym (gone db name)) ∙ may.new;
  named = may.named;
  fits = may.fits;
  alike = may.alike;
  within = may.within;
}

-- ---- attachments that are the same but for their buckets
all_back : (P : Attached → Type 0) (items : List Attached) → All P (map unbucketed items) → All (λ a. P (unbucketed a)) items
all_back P [] all = All-nil _
all_back P (a ∷ items) all = All-cons (λ x. P (unbucketed x)) a items (All-head P (unbucketed a) (map unbucketed items) all) (all_back P items (All-tail P (unbucketed a) (map unbucketed items) all))

all_alike : (P : Attached → Type 0) (items others : List Attached) → map unbucketed items ≡ map unbucketed others → All (λ a. P (unbucketed a)) items → All (λ a. P (unbucketed a)) others
all_alike P items others e all = all_back P others (subst (All P) e (All-map P unbucketed items all))

any-unbucketed : (test : Rule → Bool) (items : List Attached) → list_any (λ a. test a.rule) (map unbucketed items) ≡ list_any (λ a. test a.rule) items
any-unbucketed test [] = refl
any-unbucketed test (a ∷ items) = ap (λ (b : Bool). test a.rule || b) (any-unbucketed test items)

order-unbucketed : (items : List Attached) → is_in_order (map unbucketed items) ≡ is_in_order items
order-unbucketed [] = refl
order-unbucketed (a ∷ []) = refl
order-unbucketed (a ∷ b ∷ items) = ap (λ (t : Bool). nat_le (rule_code a.rule) (rule_code b.rule) && t) (order-unbucketed (b ∷ items))

names-unbucketed : (items : List Attached) → map (λ a. a.name) (map unbucketed items) ≡ map (λ a. a.name) items
names-unbucketed [] = refl
names-unbucketed (a ∷ items) = ap (λ (names : List Name). a.name ∷ names) (names-unbucketed items)

grown-unbucketed : (c : Change) (rows : Rows) (items : List Attached) → map unbucketed items ≡ map unbucketed (map (grown c rows) items)
grown-unbucketed c rows [] = refl
grown-unbucketed c rows (a ∷ items) = ap (λ (l : List Attached). unbucketed a ∷ l) (grown-unbucketed c rows items)

-- ---- mirrors
-- the same attachment, but for its buckets
record SameRule (db : Db) (name label : Name) (a : Attached) : Type 0 where
  one : Attached
  stands : rule_at db name label ≡ Some one
  same : unbucketed one ≡ unbucketed a

some_alike : (db : Db) (name label : Name) (a : Attached) (o : Option Attached) → rule_at db name label ≡ o → option_map unbucketed o ≡ Some (unbucketed a) → SameRule db name label a
some_alike db name label a None is e = absurd (cc)
some_alike db name label a (Some one) is e = record { one = one; stands = is; same = same_Some _ _ e }

rule_in : (db db' : Db) → shape db ≡ shape db' → (name label : Name) (a : Attached) → rule_at db name label ≡ Some a → SameRule db' name label a
rule_in db db' e name label a stands = some_alike db' name label a (rule_at db' name label) refl (sym (same_rule db db' e name label) ∙ ap (option_map unbucketed) stands)

has_mirror : (db db' : Db) → shape db ≡ shape db' → (label : Name) (mirror : Option (Name × Rule)) → HasMirror db label mirror → HasMirror db' label mirror
has_mirror db db' e label None has = tt
has_mirror db db' e label (Some (other, rule)) has =
    let found : SameRule db' other label has.0 = rule_in db db' e other label has.0 has.1 in
    (found.one, found.stands, ap (λ (a : Attached). a.rule) found.same ∙ has.2)

mirror_in : (db db' : Db) → shape db ≡ shape db' → (name : Name) (a : Attached) → IsMirrorOf db name a → IsMirrorOf db' name (unbucketed a)
mirror_in db db' e name a is =
    let found : SameRule db' is.other is.main.name is.main = rule_in db db' e is.other is.main.name is.main is.stands in
    let named : found.one.name ≡ is.main.name = ap (λ (x : Attached). x.name) found.same in
    record {
      other = is.other;
      main = found.one;
      stands = ap (rule_at db' is.other) named ∙ found.stands;
      label = is.label ∙ ap (mirror_name is.other) (sym named);
      mirror = ap (λ (x : Attached). mirror_of is.other x.rule) found.same ∙ is.mirror;
    }

with_buckets : (db : Db) (name : Name) (a : Attached) → IsMirrorOf db name (unbucketed a) → IsMirrorOf db name a
with_buckets db name a is = record { other = is.other; main = is.main; stands = is.stands; label = is.label; mirror = is.mirror }

-- ---- one relation
abbrev turned : Relation → Rows → List Attached → Relation
turned r rows items = record r { rows = rows; attachments = items }

row_of : (r : Relation) (rows : Rows) (items : List Attached) → map unbucketed r.attachments ≡ map unbucketed items → (key : Key) (row : Row) → IsRowOf r key row → IsRowOf (turned r rows items) key row
row_of r rows items e key row is = record {
  stored = is.stored;
  short =
      ap (λ (b : Bool). is_long_row r.schema row || (r.method == tree && is_long_code r.schema r.key row) || b)
      (sym (any-unbucketed (is_long_for r.schema row) items) ∙ ap (list_any (λ a. is_long_for r.schema row a.rule)) (sym e) ∙ any-unbucketed (is_long_for r.schema row) r.attachments)
      ∙ is.short;
  keyed = is.keyed;
  coded = is.coded;
}

lawful_relation : (ext : Extensions) (db db' : Db) (name : Name) (r : Relation) (rows : Rows) (items : List Attached) → shape db ≡ shape db' → map unbucketed r.attachments ≡ map unbucketed items
    → T (is_sorted bytes_cmp rows) → All (λ row. IsRowOf r row.0 row.1) rows → IsLawfulRelation ext db name r → IsLawfulRelation ext db' name (turned r rows items)
lawful_relation ext db db' name r rows items e alike rises each is = record {
  created = may_create ext db db' name r.method r.schema r.key is.created;
  attached =
      All-weaker (λ (a : Attached). MayBeAttached ext db name a) (λ (a : Attached). MayBeAttached ext db' name a)
      (λ a may main. may_attach ext (without_rule db name a) (without_rule db' name a) (same_without db db' e name a) name a.name a.rule (may main)) items
      (all_alike (MayBeAttached ext db name) r.attachments items alike is.attached);
  mirrored =
      All-weaker (λ (a : Attached). HasMirror db (mirror_name name a.name) (mirror_of name a.rule)) (λ (a : Attached). HasMirror db' (mirror_name name a.name) (mirror_of name a.rule))
      (λ a has. has_mirror db db' e (mirror_name name a.name) (mirror_of name a.rule) has) items
      (all_alike (λ a. HasMirror db (mirror_name name a.name) (mirror_of name a.rule)) r.attachments items alike is.mirrored);
  mirrors =
      All-weaker (λ (a : Attached). is_mirror a.rule ≡ true → IsMirrorOf db' name (unbucketed a)) (λ (a : Attached). is_mirror a.rule ≡ true → IsMirrorOf db' name a)
      (λ a of mirror. with_buckets db' name a (of mirror)) items
      (all_alike (λ a. is_mirror a.rule ≡ true → IsMirrorOf db' name a) r.attachments items alike
      (All-weaker (λ (a : Attached). is_mirror a.rule ≡ true → IsMirrorOf db name a) (λ (a : Attached). is_mirror a.rule ≡ true → IsMirrorOf db' name (unbucketed a))
      (λ a of mirror. mirror_in db db' e name a (of mirror)) r.attachments is.mirrors));
  in_order = sym (order-unbucketed items) ∙ ap is_in_order (sym alike) ∙ order-unbucketed r.attachments ∙ is.in_order;
  apart = ap first_twice (sym (names-unbucketed items) ∙ ap (map (λ (a : Attached). a.name)) (sym alike) ∙ names-unbucketed r.attachments) ∙ is.apart;
  rising = rises;
  rows = All-weaker (λ (row : Key × Row). IsRowOf r row.0 row.1) (λ (row : Key × Row). IsRowOf (turned r rows items) row.0 row.1) (λ row. row_of r rows items alike row.0 row.1) rows each;
}

-- ---- sorted lists
-- what holds of all under their keys, and of a new one
put_all : {X : Type 0} (P : List ℕ → X → Type 0) (k : List ℕ) (v : X) (es : List (List ℕ × X)) → All (λ e. P e.0 e.1) es → P k v → All (λ e. P e.0 e.1) (put bytes_cmp k v es)
put_all P k v [] all new = All-cons (λ e. P e.0 e.1) (k, v) [] new (All-nil _)
put_all {X = X} P k v (e ∷ es) all new = of_order (bytes_cmp k e.0) refl (put_all P k v es (All-tail (λ e. P e.0 e.1) e es all) new)
  where
    of_order : (o : Ordering) → bytes_cmp k e.0 ≡ o → All (λ x. P x.0 x.1) (put bytes_cmp k v es) → All (λ x. P x.0 x.1) (by_order o ((k, v) ∷ e ∷ es) ((e.0, v) ∷ es) (e ∷ put bytes_cmp k v es))
    of_order Less is rest = All-cons (λ x. P x.0 x.1) (k, v) (e ∷ es) new all
    of_order Equal is rest = All-cons (λ x. P x.0 x.1) (e.0, v) es (subst (λ (n : List ℕ). P n v) (tied k e.0 is) new) (All-tail (λ x. P x.0 x.1) e es all)
    of_order Greater is rest = All-cons (λ x. P x.0 x.1) e (put bytes_cmp k v es) (All-head (λ x. P x.0 x.1) e es all) rest

-- what stands already is put in vain
put_same : (db : Db) (name : Name) (r : Relation) → T (is_sorted bytes_cmp db) → relation_at db name ≡ Some r → with_relation db name r ≡ db
put_same db name r rises there =
    same_entries bytes_cmp nat_list_cmp_total tied (with_relation db name r) db (is_sorted-put bytes_cmp nat_list_cmp_total name r db rises) rises
    (λ other. find-put bytes_cmp nat_list_cmp_total other name r db ∙ of_test other (eq_by_cmp bytes_cmp other name) refl)
  where
    of_test : (other : Name) (b : Bool) → eq_by_cmp bytes_cmp other name ≡ b → cond b (Some r) (relation_at db other) ≡ relation_at db other
    of_test other true is = sym there ∙ ap (relation_at db) (sym ((bytes_same other name).0 (sym (is_eq-slice_cmp other name) ∙ is)))
    of_test other false is = refl

below-shape : (name : Name) (db : Db) → below_all bytes_cmp name (shape db) ≡ below_all bytes_cmp name db
below-shape name [] = refl
below-shape name (e ∷ db) = ap (λ (b : Bool). is_lt (bytes_cmp name e.0) && b) (below-shape name db)

sorted-shape : (db : Db) → is_sorted bytes_cmp (shape db) ≡ is_sorted bytes_cmp db
sorted-shape [] = refl
sorted-shape (e ∷ db) = λ i. below-shape e.0 db i && sorted-shape db i

-- ---- a change
changed_shape : (db : Db) (name : Name) (r : Relation) (rows : Rows) (items : List Attached) → T (is_sorted bytes_cmp db) → relation_at db name ≡ Some r → map unbucketed r.attachments ≡ map unbucketed items
    → shape db ≡ shape (with_relation db name (turned r rows items))
changed_shape db name r rows items rises there alike =
    sym (put_same (shape db) name (shape_of r) (subst T (sym (sorted-shape db)) rises) (relation_at-shape db name ∙ ap (option_map shape_of) there))
    ∙ ap (λ (as' : List Attached). with_relation (shape db) name (record r { rows = []; attachments = as' })) alike
    ∙ sym (shape-with_relation db name (turned r rows items))

rows_after : (r : Relation) (c : Change) → IsChangeOf r c → All (λ row. IsRowOf r row.0 row.1) r.rows → All (λ row. IsRowOf r row.0 row.1) (changed_rows r.rows c)
rows_after r (change.Insert key new) is all = put_all (IsRowOf r) key new r.rows all is
rows_after r (change.Delete key old) is all = All-filter (λ row. not (bytes_eq row.0 key)) (λ row. IsRowOf r row.0 row.1) r.rows all
rows_after r (change.Update from old to new) is all = put_all (IsRowOf r) to new (without_row r.rows from) (All-filter (λ row. not (bytes_eq row.0 from)) (λ row. IsRowOf r row.0 row.1) r.rows all) is

rising_after : (rows : Rows) (c : Change) → T (is_sorted bytes_cmp rows) → T (is_sorted bytes_cmp (changed_rows rows c))
rising_after rows (change.Insert key new) rises = is_sorted-put bytes_cmp nat_list_cmp_total key new rows rises
rising_after rows (change.Delete key old) rises = is_sorted-where_key bytes_cmp (λ k. not (bytes_eq k key)) rows rises
rising_after rows (change.Update from old to new) rises = is_sorted-put bytes_cmp nat_list_cmp_total to new (without_row rows from) (is_sorted-where_key bytes_cmp (λ k. not (bytes_eq k from)) rows rises)

abbrev pub changed_in : Db → Name → Change → Option Relation → Db
changed_in db name c None = db
changed_in db name c (Some r) = with_relation db name (with_change r c (changed_rows r.rows c))

changed_lawful : (ext : Extensions) (db : Db) (name : Name) (r : Relation) (c : Change) → relation_at db name ≡ Some r → IsChangeOf r c → IsLawful ext db → IsLawful ext (with_relation db name (with_change r c (changed_rows r.rows c)))
changed_lawful ext db name r c there is lawful =
    let rows : Rows = changed_rows r.rows c in
    let items : List Attached = map (grown c rows) r.attachments in
    let after : Db = with_relation db name (turned r rows items) in
    let alike : map unbucketed r.attachments ≡ map unbucketed items = grown-unbucketed c rows r.attachments in
    let e : shape db ≡ shape after = changed_shape db name r rows items lawful.rising there alike in
    let old : IsLawfulRelation ext db name r = all_at (IsLawfulRelation ext db) db name r lawful.relations there in
    record {
      rising = is_sorted-put bytes_cmp nat_list_cmp_total name (turned r rows items) db lawful.rising;
      relations = put_all (IsLawfulRelation ext after) name (turned r rows items) db
          (All-weaker (λ (x : Name × Relation). IsLawfulRelation ext db x.0 x.1) (λ (x : Name × Relation). IsLawfulRelation ext after x.0 x.1)
          (λ x one. lawful_relation ext db after x.0 x.1 x.1.rows x.1.attachments e refl one.rising one.rows one) db lawful.relations)
          (lawful_relation ext db after name r rows items e alike (rising_after r.rows c old.rising) (rows_after r c is old.rows) old);
    }

pub changes-lawful : ChangesLeaveLawful
changes-lawful ext db name r c there is lawful = subst (λ (o : Option Relation). IsLawful ext (changed_in db name c o)) (sym there) (changed_lawful ext db name r c there is lawful)
