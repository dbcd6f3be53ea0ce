-- A change that is admitted leaves what held, but for references of rows that go by what follows.
use Rattle.std.proofs.Common.{◌≡◌, ℕ, Bool, true, false, not, cond, ◌&&◌, ◌||◌, T, List, [], ◌∷◌, ◌++◌, ◌⊎◌, inl, inr, map, Option, Some, None, refl, sym, ap, subst, ◌∙◌, get_or}
use Rattle.std.specs.Prelude.{All}
use Rattle.std.specs.List.{find, flat_map, list_any, list_all}
use Rattle.std.specs.Str.{bytes_eq}
use Rattle.std.specs.FinMap.Entries.{is_sorted, is_sorted-where_key}
use Rattle.std.proofs.lemmas.Bool.{and_left, and_right, and_from, or_left, or_right, or_cases, not-true}
use Rattle.std.proofs.lemmas.List.Elements.{All-nil, All-cons, All-map}
use Rattle.std.proofs.lemmas.List.Folds.{list_any-append}
use Rattle.std.proofs.lemmas.Option.{same_Some}
use Rattle.sb_value.specs.declared.schema.Column.{Column}
use Rattle.sb_value.specs.declared.value.Value.{Value}
use Rattle.sb_value.specs.Equal.{bytes_same, tuple_same, tuple_eq_equiv}
use Rattle.sb_value.specs.Order.{bytes_cmp}
use Rattle.sb_pred.specs.Truth.{truth}
use Rattle.sb_rule.specs.Bound.{row_before, row_after}
use Rattle.sb_rule.specs.declared.action.Action.{Action}
use Rattle.sb_rule.specs.declared.change.Change.{Change}
use Rattle.sb_rule.specs.declared.change.Change.TheVariants as change
use Rattle.sb_rule.specs.declared.rule.Mode.{Mode}
use Rattle.sb_rule.specs.declared.rule.Mode.TheVariants.{Restrict, Cascade}
use Rattle.sb_rule.specs.declared.rule.Side.TheVariants.{Main, Mirror}
use Rattle.sb_rule.specs.declared.rule.Rule.{Rule}
use Rattle.sb_rule.specs.declared.rule.Rule.TheVariants.{TreeIndex, Check, Refers}
use Rattle.sb_relation.specs.Buckets.{grown}
use Rattle.sb_relation.specs.Build.{mirror_name}
use Rattle.sb_relation.specs.Changes.{changed, changed_rows, with_change, of_new}
use Rattle.sb_relation.specs.Db.{Name, Key, Row, Rows, Attached, Relation, Db, relation_at, with_relation, rows_at, schema_at, row_at, values_in, without_row}
use Rattle.sb_relation.specs.Fits.{kinds_at, are_one_kind}
use Rattle.sb_relation.specs.Rules.{has_values, has_row_with, values_at, is_unique, admits, cascade, delete_those, follows}
use Rattle.sb_fold.specs.Building.{rule_at, HasMirror}
use Rattle.sb_fold.specs.Extensions.{Extensions, box_of}
use Rattle.sb_fold.specs.Fold.{attachments_at, vetoing, following}
use Rattle.sb_fold.specs.Wishes.{is_match}
use Rattle.sb_cascade.proofs.Staying.{changed_columns}
use Rattle.sb_plain.specs.Lawful.{IsLawful}
use Rattle.sb_plain.proofs.SoundLemmas.{attached}
use Rattle.sb_plain.proofs.UniqueLemmas.{all_put, all_filter, is_other, unique_put, unique_filter}
use Rattle.sb_deferred.specs.Complete.{IsChangeOf}
use Rattle.sb_deferred.proofs.RelationLemmas.{rows_of, schema_of, attachments_of, relation_same, relation_other, rule_found, changed_is}
use Rattle.sb_deferred.proofs.RowLemmas.{IsOfOld, any_changed}
use Rattle.sb_lawful.proofs.Items.{itself, same_or_apart}
use Rattle.sb_sound_rows.proofs.Rows.{any_at, of_new_row, of_old_row, goes, was}
use Rattle.sb_sound_rows.proofs.Matching.{matches, pairs_with}
use Rattle.sb_sound_rows.proofs.Marks.{Marks, with_gone, covers, with_actions, HoldsBut, IsSoundBut, row_fits, IsPaired, all_paired, same_kinds}

-- ---- lists
any_flat : {A B : Type 0} (test : B → Bool) (f : A → List B) (p : A → Bool) (items : List A) (a : A) → find p items ≡ Some a → list_any test (f a) ≡ true → list_any test (flat_map f items) ≡ true
any_flat test f p [] a is some = absurd (cc)
any_flat {A = A} test f p (x ∷ items) a is some = by (p x) is (λ later. any_flat test f p items a later some)
  where
    by : (b : Bool) → cond b (Some x) (find p items) ≡ Some a → (find p items ≡ Some a → list_any test (flat_map f items) ≡ true) → list_any test (f x ++ flat_map f items) ≡ true
    by true here rest =
        list_any-append test (f x) (flat_map f items) ∙ or_left (list_any test (f x)) (list_any test (flat_map f items)) (ap (λ (y : A). list_any test (f y)) (same_Some x a here) ∙ some)
    by false later rest = list_any-append test (f x) (flat_map f items) ∙ or_right (list_any test (f x)) (list_any test (flat_map f items)) (rest later)

apart : (a : Bool) → a ≡ true → a ≡ false → ⊥
apart true e f = absurd (cc)
apart false e f = absurd (cc)

-- one of two, and a third between them
or_more : (a b c : Bool) → (a || c) ≡ true → (a || (b || c)) ≡ true
or_more true b c e = refl
or_more false true c e = refl
or_more false false c e = e

neither : (a b : Bool) → a ≡ false → b ≡ true → (a || not b) ≡ true → ⊥
neither true b e f some = absurd (cc)
neither false true e f some = absurd (cc)
neither false false e f some = absurd (cc)

admits_all : (ext : Extensions) (db : Db) (name : Name) (c : Change) (items : List Attached) → vetoing ext db name c items ≡ None → All (λ a. admits (box_of ext a.rule) db name a.rule c ≡ true) items
admits_all ext db name c [] none = All-nil _
admits_all ext db name c (a ∷ items) none = by (admits (box_of ext a.rule) db name a.rule c) refl none (admits_all ext db name c items)
  where
    by : (b : Bool) → admits (box_of ext a.rule) db name a.rule c ≡ b → cond b (vetoing ext db name c items) (Some a.name) ≡ None
        → (vetoing ext db name c items ≡ None → All (λ x. admits (box_of ext x.rule) db name x.rule c ≡ true) items) → All (λ x. admits (box_of ext x.rule) db name x.rule c ≡ true) (a ∷ items)
    by true is passed rest = All-cons (λ x. admits (box_of ext x.rule) db name x.rule c ≡ true) a items is (rest passed)
    by false is passed rest = absurd (cc)

-- ---- rules that see one relation's rows alone
unique_after : (schema : List Column) (rows : Rows) (columns : List Name) (c : Change) → T (is_sorted bytes_cmp rows) → is_unique schema columns rows ≡ true
    → of_new c (λ key new. not (list_any (is_other schema columns key new) (changed_rows rows c))) ≡ true → is_unique schema columns (changed_rows rows c) ≡ true
unique_after schema rows columns (change.Insert key new) rises unique admitted = unique_put schema columns key new rows rises unique (not-true _ admitted)
unique_after schema rows columns (change.Delete key old) rises unique admitted = unique_filter schema columns (λ row. not (bytes_eq row.0 key)) rows unique
unique_after schema rows columns (change.Update from old to new) rises unique admitted =
    unique_put schema columns to new (without_row rows from) (is_sorted-where_key bytes_cmp (λ k. not (bytes_eq k from)) rows rises)
    (unique_filter schema columns (λ row. not (bytes_eq row.0 from)) rows unique) (not-true _ admitted)

each_after : (test : Row → Bool) (rows : Rows) (c : Change) → list_all (λ row. test row.1) rows ≡ true → of_new c (λ key new. test new) ≡ true → list_all (λ row. test row.1) (changed_rows rows c) ≡ true
each_after test rows (change.Insert key new) all admitted = all_put test key new rows all admitted
each_after test rows (change.Delete key old) all admitted = all_filter (λ row. test row.1) (λ row. not (bytes_eq row.0 key)) rows all
each_after test rows (change.Update from old to new) all admitted = all_put test to new (without_row rows from) (all_filter (λ row. test row.1) (λ row. not (bytes_eq row.0 from)) rows all) admitted

module _ (ext : Extensions) (before : Db) (name : Name) (r : Relation) (c : Change) (there : relation_at before name ≡ Some r) (rises : T (is_sorted bytes_cmp r.rows)) (of : IsChangeOf r.rows c) (lawful : IsLawful ext (changed before name c)) (admitted : All (λ a. admits (box_of ext a.rule) (changed before name c) name a.rule c ≡ true) (attachments_at (changed before name c) name)) where
  abbrev after : Db
  after = changed before name c

  abbrev turned : Relation
  turned = with_change r c (changed_rows r.rows c)

  put : after ≡ with_relation before name turned
  put = changed_is before name r c there

  now : relation_at after name ≡ Some turned
  now = ap (λ (d : Db). relation_at d name) put ∙ relation_same before name turned

  others_stay : (n : Name) → bytes_eq n name ≡ false → relation_at after n ≡ relation_at before n
  others_stay n differs = ap (λ (d : Db). relation_at d n) put ∙ relation_other before name turned n differs

  columns_stay : (n : Name) → schema_at before n ≡ schema_at after n
  columns_stay n = (changed_columns before name c).schema n

  -- a row that is found is the new one, or was there and doesn't go
  abbrev IsNewOrOld : Name → Key → Row → Type 0
  IsNewOrOld n key row = ((n ≡ name) × (row_after c ≡ Some row)) ⊎ (((bytes_eq n name && goes c key) ≡ false) × (row_at (rows_at before n) key ≡ Some row))

  new_or_old : (n : Name) (key : Key) (row : Row) → row_at (rows_at after n) key ≡ Some row → IsNewOrOld n key row
  new_or_old n key row stands = by (same_or_apart n name)
    where
      by : (n ≡ name) ⊎ (bytes_eq n name ≡ false) → IsNewOrOld n key row
      by (inl same) =
          let here : row_at (changed_rows r.rows c) key ≡ Some row = ap (λ (o : Option Relation). row_at (rows_of o) key) (sym (ap (relation_at after) same ∙ now)) ∙ stands in
          elim (was r.rows c key row here) [
            | inl new ↦ inl (same, new)
            | inr old ↦ inr (and_right (bytes_eq n name) (goes c key) old.0, ap (λ (o : Option Relation). row_at (rows_of o) key) (ap (relation_at before) same ∙ there) ∙ old.1)
          ]
      by (inr differs) = inr (and_left (bytes_eq n name) (goes c key) differs, ap (λ (o : Option Relation). row_at (rows_of o) key) (sym (others_stay n differs)) ∙ stands)

  -- ---- a row whose parent goes
  module _ (n label : Name) (columns : List Name) (own : List Column) (others : List Name) (kinds : are_one_kind (kinds_at (schema_at after n) columns) (kinds_at own others) ≡ true) (key : Key) (row : Row) (stands : row_at (rows_at after n) key ≡ Some row) where
    abbrev values : List Value
    values = values_at after n columns row

    abbrev is_covered : Bool
    is_covered = list_any (λ x. covers (schema_at after n) x n row) (following after name c)

    some_own : has_row_with after n columns values ≡ true
    some_own = any_at (has_values (schema_at after n) columns values) (rows_at after n) key row stands (tuple_eq_equiv.refl values)

    abbrev is_match_of : Bool
    is_match_of = is_match (schema_at after n) (pairs_with columns values) row

    matched : is_match_of ≡ true
    matched = matches (schema_at after n) own row columns others (row_fits ext after lawful n key row stands) kinds

    -- the mirror doesn't admit the change, or makes the row go
    covered_by : (old : Row) → row_before c ≡ Some old → values_at after name others old ≡ values → has_row_with after name others values ≡ false → (a : Attached) → rule_at after name label ≡ Some a
        → admits (box_of ext a.rule) after name a.rule c ≡ true → (mode : Mode) → a.rule ≡ Refers Mirror others n columns mode false → is_covered ≡ true
    covered_by old stood same none a found passes Restrict is =
        let asked : admits (box_of ext (Refers Mirror others n columns Restrict false)) after name (Refers Mirror others n columns Restrict false) c ≡ true = ap (λ (rule : Rule). admits (box_of ext rule) after name rule c) (sym is) ∙ passes in
        let test = of_old_row (λ x. has_row_with after name others (values_at after name others x) || not (has_row_with after n columns (values_at after name others x))) c old asked stood in
        let still : (has_row_with after name others values || not (has_row_with after n columns values)) ≡ true =
        ap (λ (vs : List Value). has_row_with after name others vs || not (has_row_with after n columns vs)) (sym same) ∙ test in
        absurd (neither (has_row_with after name others values) (has_row_with after n columns values) none some_own still)
    covered_by old stood same none a found passes Cascade is =
        let follow : follows after name a.rule c ≡ delete_those n columns values ∷ [] =
        ap (λ (rule : Rule). follows after name rule c) is ∙ ap (λ (o : Option Row). cascade after name others n columns o) stood
        ∙ ap (λ (vs : List Value). cond (has_row_with after name others vs) [] (delete_those n columns vs ∷ [])) same
        ∙ ap (λ (b : Bool). cond b [] (delete_those n columns values ∷ [])) none in
        any_flat (λ x. covers (schema_at after n) x n row) (λ x. follows after name x.rule c) (λ x. bytes_eq x.name label) (attachments_at after name) a found
        (ap (λ (actions : List Action). list_any (λ x. covers (schema_at after n) x n row) actions) follow
        ∙ or_left (covers (schema_at after n) (delete_those n columns values) n row) false (and_from (bytes_eq n n) is_match_of (itself n) matched))

    of_mirror : (mode : Mode) → HasMirror after label (Some (name, Refers Mirror others n columns mode false)) → (old : Row) → row_before c ≡ Some old → values_at after name others old ≡ values
        → has_row_with after name others values ≡ false → is_covered ≡ true
    of_mirror mode has old stood same none =
        let found = rule_found (λ (a : Attached). admits (box_of ext a.rule) after name a.rule c ≡ true) after name label has.0 admitted has.1 in
        covered_by old stood same none has.0 has.1 found.0 mode has.2

    own_parent : (mode : Mode) → HasMirror after label (Some (name, Refers Mirror others n columns mode false)) → has_row_with before name others values ≡ true
        → (has_row_with after name others values || is_covered) ≡ true
    own_parent mode has parent =
        elim (any_changed (has_values (schema_at before name) others values) r.rows c rises of
        (ap (λ (o : Option Relation). list_any (λ (e : Key × Row). has_values (schema_at before name) others values e.1) (rows_of o)) (sym there) ∙ parent)) [
          | inl old ↦ by old (has_row_with after name others values) refl
          | inr some ↦ or_left (has_row_with after name others values) is_covered
              ((λ i. list_any (λ (e : Key × Row). has_values (sym (columns_stay name) i) others values e.1) (ap rows_of now i)) ∙ some)
        ]
      where
        by : IsOfOld (has_values (schema_at before name) others values) c → (b : Bool) → has_row_with after name others values ≡ b → (has_row_with after name others values || is_covered) ≡ true
        by old true is = or_left (has_row_with after name others values) is_covered is
        by old false is =
            or_right (has_row_with after name others values) is_covered
            (of_mirror mode has old.old old.stood
            (ap (λ (s : List Column). values_in s old.old others) (sym (columns_stay name)) ∙ (tuple_same (values_in (schema_at before name) old.old others) values).0 old.passes) is)

    -- a row that had a parent has one, or goes
    parent_stays : (other : Name) (mode : Mode) → HasMirror after label (Some (other, Refers Mirror others n columns mode false)) → has_row_with before other others (values_at before n columns row) ≡ true
        → (has_row_with after other others values || is_covered) ≡ true
    parent_stays other mode has parent = by (same_or_apart other name)
      where
        had : has_row_with before other others values ≡ true
        had = ap (λ (s : List Column). has_row_with before other others (values_in s row columns)) (sym (columns_stay n)) ∙ parent

        by : (other ≡ name) ⊎ (bytes_eq other name ≡ false) → (has_row_with after other others values || is_covered) ≡ true
        by (inl same) =
            subst (λ (o : Name). HasMirror after label (Some (o, Refers Mirror others n columns mode false)) → has_row_with before o others values ≡ true
            → (has_row_with after o others values || is_covered) ≡ true) (sym same) (λ has' parent'. own_parent mode has' parent') has had
        by (inr differs) =
            or_left (has_row_with after other others values) is_covered
            ((λ i. list_any (λ (e : Key × Row). has_values (sym (columns_stay other) i) others values e.1) (ap rows_of (others_stay other differs) i)) ∙ had)

  -- ---- each rule
  module _ (marks : Marks) where
    abbrev Before : Name → Rule → Type 0
    Before n rule = HoldsBut (with_gone marks name c) before n rule

    abbrev Then : Name → Rule → Type 0
    Then n rule = HoldsBut (with_actions after marks (following after name c)) after n rule

    unless_gone : (n : Name) (key : Key) (row : Row) → (bytes_eq n name && goes c key) ≡ false → with_gone marks name c n key row ≡ true → marks n key row ≡ true
    unless_gone n key row stays marked = elim (or_cases (marks n key row) (bytes_eq n name && goes c key) marked) [ inl it ↦ it | inr gone ↦ absurd (cc) ]

    refers_then : (n label : Name) (columns : List Name) (other : Name) (others : List Name) (mode : Mode) → HasMirror after label (Some (other, Refers Mirror others n columns mode false))
        → are_one_kind (kinds_at (schema_at after n) columns) (kinds_at (schema_at after other) others) ≡ true → Before n (Refers Main columns other others mode false)
        → ((row : Row) → n ≡ name → row_after c ≡ Some row → has_row_with after other others (values_at after n columns row) ≡ true) → Then n (Refers Main columns other others mode false)
    refers_then n label columns other others mode has kinds held comes = λ key row stands. by key row stands (new_or_old n key row stands)
      where
        Kept : Key → Row → Type 0
        Kept key row =
            (has_row_with after other others (values_at after n columns row) || with_actions after marks (following after name c) n key row) ≡ true

        old_one : (key : Key) (row : Row) → row_at (rows_at after n) key ≡ Some row → (bytes_eq n name && goes c key) ≡ false
            → (has_row_with before other others (values_at before n columns row) ≡ true) ⊎ (with_gone marks name c n key row ≡ true) → Kept key row
        old_one key row stands stays (inl parent) =
            or_more (has_row_with after other others (values_at after n columns row)) (marks n key row) (list_any (λ x. covers (schema_at after n) x n row) (following after name c))
            (parent_stays n label columns (schema_at after other) others kinds key row stands other mode has parent)
        old_one key row stands stays (inr marked) =
            or_right (has_row_with after other others (values_at after n columns row)) (with_actions after marks (following after name c) n key row)
            (or_left (marks n key row) (list_any (λ x. covers (schema_at after n) x n row) (following after name c)) (unless_gone n key row stays marked))

        by : (key : Key) (row : Row) → row_at (rows_at after n) key ≡ Some row → IsNewOrOld n key row → Kept key row
        by key row stands (inl new) = or_left (has_row_with after other others (values_at after n columns row)) (with_actions after marks (following after name c) n key row) (comes row new.0 new.1)
        by key row stands (inr old) =
            old_one key row stands old.0 (or_cases (has_row_with before other others (values_at before n columns row)) (with_gone marks name c n key row) (held key row old.1))

    other_then : (n : Name) → bytes_eq n name ≡ false → (label : Name) (buckets : ℕ) (rule : Rule) → IsPaired ext after n (attached label rule buckets) → Before n rule → Then n rule
    other_then n differs label buckets (Refers Main columns other others mode false) paired held =
        refers_then n (mirror_name n label) columns other others mode paired.mirror (same_kinds ext after n label buckets columns other others mode false paired.may) held
        (λ row same is. absurd (apart (bytes_eq n name) ((bytes_same n name).1 same) differs))
    other_then n differs label buckets (TreeIndex columns true) paired held =
        (λ i. is_unique (schema_of (others_stay n differs i)) columns (rows_of (others_stay n differs i))) ∙ held
    other_then n differs label buckets (Check pred false) paired held =
        (λ i. list_all (λ (e : Key × Row). truth (schema_of (others_stay n differs i)) None (Some e.1) pred) (rows_of (others_stay n differs i))) ∙ held
    other_then n differs label buckets _ paired held = tt

    own_then : (label : Name) (buckets : ℕ) (rule : Rule) → IsPaired ext after name (attached label rule buckets) → admits (box_of ext rule) after name rule c ≡ true → Before name rule → Then name rule
    own_then label buckets (Refers Main columns other others mode false) paired passes held =
        refers_then name (mirror_name name label) columns other others mode paired.mirror (same_kinds ext after name label buckets columns other others mode false paired.may) held
        (λ row same is. of_new_row (λ x. has_row_with after other others (values_at after name columns x)) c row passes is)
    own_then label buckets (TreeIndex columns true) paired passes held =
        (λ i. is_unique (schema_of (now i)) columns (rows_of (now i)))
        ∙ unique_after r.schema r.rows columns c rises ((λ i. is_unique (schema_of (sym there i)) columns (rows_of (sym there i))) ∙ held)
        ((λ i. of_new c (λ key new. not (list_any (λ (e : Key × Row). not (bytes_eq e.0 key) && has_values (schema_of (sym now i)) columns (values_in (schema_of (sym now i)) new columns) e.1) (rows_of (sym now i))))) ∙ passes)
    own_then label buckets (Check pred false) paired passes held =
        (λ i. list_all (λ (e : Key × Row). truth (schema_of (now i)) None (Some e.1) pred) (rows_of (now i)))
        ∙ each_after (λ row. truth r.schema None (Some row) pred) r.rows c ((λ i. list_all (λ (e : Key × Row). truth (schema_of (sym there i)) None (Some e.1) pred) (rows_of (sym there i))) ∙ held)
        ((λ i. of_new c (λ key new. truth (schema_of (sym now i)) None (Some new) pred)) ∙ passes)
    own_then label buckets _ paired passes held = tt

    -- ---- all of them
    all_then : IsSoundBut (with_gone marks name c) before → IsSoundBut (with_actions after marks (following after name c)) after
    all_then sound = record { each = λ n. by n (same_or_apart n name) }
      where
        own : All (λ a. Then name a.rule) (attachments_at after name)
        own =
            let stood : All (λ (a : Attached). Before name a.rule) r.attachments = subst (All (λ (a : Attached). Before name a.rule)) (ap attachments_of there) (sound.each name) in
            let grew : All (λ (a : Attached). Before name a.rule) (map (grown c (changed_rows r.rows c)) r.attachments) = All-map (λ (a : Attached). Before name a.rule) (grown c (changed_rows r.rows c)) r.attachments stood in
            let here : All (λ (a : Attached). Before name a.rule) (attachments_at after name) = subst (All (λ (a : Attached). Before name a.rule)) (sym (ap attachments_of now)) grew in
            λ k d below.
            let a : Attached = get_or (attachments_at after name) k d in
            own_then a.name a.buckets a.rule (all_paired ext after lawful name k d below) (admitted k d below) (here k d below)

        by : (n : Name) → (n ≡ name) ⊎ (bytes_eq n name ≡ false) → All (λ a. Then n a.rule) (attachments_at after n)
        by n (inl same) = subst (λ (m : Name). All (λ (a : Attached). Then m a.rule) (attachments_at after m)) (sym same) own
        by n (inr differs) =
            let here : All (λ (a : Attached). Before n a.rule) (attachments_at after n) = subst (All (λ (a : Attached). Before n a.rule)) (sym (ap attachments_of (others_stay n differs))) (sound.each n) in
            λ k d below.
            let a : Attached = get_or (attachments_at after n) k d in
            other_then n differs a.name a.buckets a.rule (all_paired ext after lawful n k d below) (here k d below)

pub changed_sound : (ext : Extensions) (before : Db) (name : Name) (r : Relation) (c : Change) (marks : Marks) → relation_at before name ≡ Some r → T (is_sorted bytes_cmp r.rows) → IsChangeOf r.rows c
    → IsLawful ext (changed before name c) → vetoing ext (changed before name c) name c (attachments_at (changed before name c) name) ≡ None → IsSoundBut (with_gone marks name c) before
    → IsSoundBut (with_actions (changed before name c) marks (following (changed before name c) name c)) (changed before name c)
changed_sound ext before name r c marks there rises of lawful passed sound =
    all_then ext before name r c there rises of lawful (admits_all ext (changed before name c) name c (attachments_at (changed before name c) name) passed) marks sound
