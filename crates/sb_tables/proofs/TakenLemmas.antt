-- The pages of what is taken off a database, against their bounds.
use Rattle.std.proofs.Common.{◌≡◌, ℕ, ◌+◌, ◌≤◌, Bool, true, false, not, cond, bytes_eq, true≢false, List, [], ◌∷◌, ◌++◌, length, map, Option, Some, None, All, inl, inr, refl, sym, ap, ◌∙◌, subst, arith}
use Rattle.std.specs.Prelude.{filter, sum_by}
use Rattle.std.specs.List.{find}
use Rattle.std.proofs.lemmas.List.Elements.{All-cons, All-filter, All-head, All-nil, All-same, All-tail, All-weaker}
use Rattle.std.proofs.lemmas.List.Filters.{sum_by-filter_both}
use Rattle.std.proofs.lemmas.List.Sums.{sum_by-append, sum_by-cons}
use Rattle.std.proofs.lemmas.Option.{same_Some}
use Rattle.sb_value.specs.Equal.{bytes_same}
use Rattle.sb_rule.specs.declared.rule.Rule.{Rule}
use Rattle.sb_rule.specs.declared.rule.Rule.TheVariants.{TreeIndex, HashIndex, JoinIndex, Stats, Check, Refers, Trigger, Foreign}
use Rattle.sb_rule.specs.declared.rule.Side.TheVariants.{Main, Mirror}
use Rattle.sb_relation.specs.Build.{mirror_name, mirror_of}
use Rattle.sb_relation.specs.Db.{Attached, Name, Relation, Db, relation_at, rows_at, schema_at, with_relation}
use Rattle.sb_forms.specs.Pages.{ArePages, page_count}
use Rattle.sb_fold.specs.Bounds.{attached_bound, method_bound, rule_bound}
use Rattle.sb_fold.specs.Building.{bounds_at, rule_at, without_attached, without_mirror, without_mirror_of, without_mirrors, HasMirror}
use Rattle.sb_fold.specs.Extensions.{Extensions}
use Rattle.sb_fold.specs.Fold.{attachments_at}
use Rattle.sb_drive.specs.Slots.{Slots, owned}
use Rattle.sb_registry.specs.Boxes.{Meanings}
use Rattle.sb_catalog.specs.declared.descriptor.Attached as code
use Rattle.sb_catalog.specs.Descriptors.{described, standing}
use Rattle.sb_deferred.specs.Complete.{AreMirrored}
use Rattle.sb_deferred.proofs.RelationLemmas.{attachments_of, relation_other, relation_same, rows_of, rule_found, schema_of}
use Rattle.sb_standing.specs.Instances.{owners_of, rule_instance}
use Rattle.sb_standing.specs.Standing.{EachRule, HasPage, IsKept, IsOwner, Keeps, KeepsRules, Own, has_no_join, is_join, owners_named, without_named}
use Rattle.sb_standing.specs.Tables.{Kept, KeepsTable, db_of, kept_at, table_of}
use Rattle.sb_standing.proofs.FrameLemmas.{All-right}
use Rattle.sb_standing.proofs.KeptLemmas.{kept_at-all, kept_at-name, relation_at-none, relation_at-there}
use Rattle.sb_standing.proofs.OwnersLemmas.{All-among, All-from_among, catalogue_apart}
use Rattle.sb_standing.proofs.SplitLemmas.{no_joins}
use Rattle.sb_engine.specs.Opened.{IsDurable}
use Rattle.sb_engine.specs.Measures.{AreHeld, IsMeasure, IsWithin, measured}
use Rattle.sb_engine.specs.Working.{AreNamedApart, extensions_of}
use Rattle.sb_engine.proofs.Bounded.{are-bounded}
use Rattle.sb_engine.proofs.Coming.{bound-alike}
use Rattle.sb_engine.proofs.Measuring.{measured-same}
use Rattle.sb_engine.proofs.Weighing.{row_pages, rule_pages}
use Rattle.sb_tables.specs.Removal.{mirror_bounds, mirrors_bounds, taken_bounds}
use Rattle.sb_tables.proofs.WithoutLemmas.{IfTied, all-mirror, all-without, without_in}

-- ---- owners that are to go
-- a change of the catalogue leaves them
pub gone-stay : (f : ℕ → ℕ) (s t : Slots) (owners : List ℕ) → All IsOwner owners → ((o : ℕ) → (o ≡ 2 → ⊥) → owned t o ≡ owned s o) → measured f t owners ≡ measured f s owners
gone-stay f s t owners each others =
    measured-same f s t owners (All-weaker IsOwner (λ o. owned t o ≡ owned s o) (λ o is. others o (λ two. catalogue_apart o is (sym two))) owners each)

-- so does one that comes and had no pages
pub gone-beside : (f : ℕ → ℕ) (s t : Slots) (owners gone : List ℕ) (owner : ℕ) → ((n : ℕ) → owned s owner n ≡ []) → Own s owners gone
    → ((o : ℕ) → (o ≡ owner → ⊥) → (o ≡ 2 → ⊥) → owned t o ≡ owned s o) → measured f t gone ≡ measured f s gone
gone-beside f s t owners gone owner none own others =
    measured-same f s t gone (All-from_among (λ o. owned t o ≡ owned s o) gone
    (λ o among. of_page o (All-among IsOwner gone o (All-right IsOwner owners gone own.each) among) (All-among (HasPage s) gone o own.left among)))
  where
    of_page : (o : ℕ) → IsOwner o → HasPage s o → owned t o ≡ owned s o
    of_page o is (inl nobody) = subst (λ (n : ℕ). owned t n ≡ owned s n) (sym nobody) refl
    of_page o is (inr page) =
        others o (λ same. page.1 (ap (λ (x : ℕ). owned s x page.0) same ∙ none page.0)) (λ two. catalogue_apart o is (sym two))

-- ---- the pages of a relation's instances
module _ (f : ℕ → ℕ) (measure : IsMeasure f) (m : Meanings) (s : Slots) (pages : (o : ℕ) → ArePages (owned s o)) (db : Db) (k : Kept) where
  abbrev bound : Attached → ℕ
  bound a = f (attached_bound (extensions_of m) db k.name a)

  one_pages : (d : code.Attached) (a : Attached) → is_join a.rule ≡ false → IsKept m IsDurable s db k d a → f (page_count (owned s d.owner)) ≤ bound a
  one_pages d a none kept =
      measure.rises _ _ (rule_pages m (extensions_of m) s (rule_instance (IsDurable k.descriptor.method) k.name k.descriptor d) a db (are-bounded m) (pages d.owner) none kept)

  -- of all attachments
  all_pages : (ds : List code.Attached) (items : List Attached) → EachRule (IsKept m IsDurable s db k) ds items → All (λ a. is_join a.rule ≡ false) items
      → measured f s (map (λ d. d.owner) ds) ≤ sum_by bound items
  all_pages [] [] each none = omega arith
  all_pages [] (a ∷ items) each none = absurd each
  all_pages (d ∷ ds) [] each none = absurd each
  all_pages (d ∷ ds) (a ∷ items) each none =
      let here = one_pages d a (All-head (λ x. is_join x.rule ≡ false) a items none) each.0 in
      let rest = all_pages ds items each.1 (All-tail (λ x. is_join x.rule ≡ false) a items none) in
      omega (arith, here, rest, sum_by-cons (λ o. f (page_count (owned s o))) d.owner (map (λ x. x.owner) ds), sum_by-cons bound a items)

  -- of those of a name
  named_pages : (label : Name) (ds : List code.Attached) (items : List Attached) → map described ds ≡ map standing items → EachRule (IsKept m IsDurable s db k) ds items
      → All (λ a. is_join a.rule ≡ false) items
      → measured f s (map (λ d. d.owner) (filter (λ d. bytes_eq d.name label) ds)) ≤ sum_by bound (filter (λ a. bytes_eq a.name label) items)
  named_pages label [] [] same each none = omega arith
  named_pages label [] (a ∷ items) same each none = absurd each
  named_pages label (d ∷ ds) [] same each none = absurd each
  named_pages label (d ∷ ds) (a ∷ items) same each none =
      let one : described d ≡ standing a = cc in
      let rest : map described ds ≡ map standing items = cc in
      of_test (bytes_eq d.name label) (bytes_eq a.name label) (ap (λ t. bytes_eq t.1 label) one)
      (one_pages d a (All-head (λ x. is_join x.rule ≡ false) a items none) each.0)
      (named_pages label ds items rest each.1 (All-tail (λ x. is_join x.rule ≡ false) a items none))
    where
      left : List code.Attached
      left = filter (λ x. bytes_eq x.name label) ds

      right : List Attached
      right = filter (λ x. bytes_eq x.name label) items

      of_test : (b c : Bool) → b ≡ c → f (page_count (owned s d.owner)) ≤ bound a → measured f s (map (λ x. x.owner) left) ≤ sum_by bound right
          → measured f s (map (λ x. x.owner) (cond b (d ∷ left) left)) ≤ sum_by bound (cond c (a ∷ right) right)
      of_test true true is here rest =
          omega (arith, here, rest, sum_by-cons (λ o. f (page_count (owned s o))) d.owner (map (λ x. x.owner) left), sum_by-cons bound a right)
      of_test true false is here rest = absurd (cc)
      of_test false true is here rest = absurd (cc)
      of_test false false is here rest = rest

-- ---- the bounds of a relation and its attachments together
sum_by-over : {A : Type 0} (f : ℕ → ℕ) (h : A → ℕ) (xs : List A) → sum_by f (map h xs) ≡ sum_by (λ x. f (h x)) xs
sum_by-over f h [] = refl
sum_by-over f h (x ∷ xs) = omega (arith, sum_by-over f h xs, sum_by-cons f (h x) (map h xs), sum_by-cons (λ y. f (h y)) x xs)

bounds_is : (f : ℕ → ℕ) (ext : Extensions) (db : Db) (name : Name) (r : Relation) → relation_at db name ≡ Some r
    → sum_by f (bounds_at ext db name) ≡ f (method_bound ext r) + sum_by (λ a. f (attached_bound ext db name a)) r.attachments
bounds_is f ext db name r there =
    ap (λ (o : Option Relation). sum_by f (elim o as (λ _. List ℕ) [ None ↦ [] | Some x ↦ method_bound ext x ∷ map (attached_bound ext db name) x.attachments ])) there
    ∙ sum_by-cons f (method_bound ext r) (map (attached_bound ext db name) r.attachments)
    ∙ ap (λ (n : ℕ). f (method_bound ext r) + n) (sum_by-over f (attached_bound ext db name) r.attachments)

bounds_none : (f : ℕ → ℕ) (ext : Extensions) (db : Db) (name : Name) → relation_at db name ≡ None → sum_by f (bounds_at ext db name) ≡ 0
bounds_none f ext db name none =
    ap (λ (o : Option Relation). sum_by f (elim o as (λ _. List ℕ) [ None ↦ [] | Some x ↦ method_bound ext x ∷ map (attached_bound ext db name) x.attachments ])) none

-- ---- of a relation that is kept
module _ (m : Meanings) (root : ℕ) (s : Slots) (gone : List ℕ) (kept : List Kept) (keeps : Keeps m IsDurable root s gone kept) (pages : (o : ℕ) → ArePages (owned s o))
    (name : Name) (k : Kept) (at : kept_at kept name ≡ Some k) where
  abbrev ext : Extensions
  ext = extensions_of m

  named : k.name ≡ name
  named = kept_at-name kept name k at

  table : KeepsTable m IsDurable s k
  table = kept_at-all (KeepsTable m IsDurable s) kept name k keeps.tables.each at

  rules : KeepsRules m IsDurable s (db_of kept) k
  rules = kept_at-all (KeepsRules m IsDurable s (db_of kept)) kept name k keeps.rules at

  pub none-joined : All (λ a. is_join a.rule ≡ false) k.relation.attachments
  none-joined = no_joins k.relation.attachments (kept_at-all (λ x. has_no_join x ≡ true) kept name k keeps.joinless at)

  there : relation_at (db_of kept) name ≡ Some k.relation
  there = relation_at-there kept name k at

  -- those of the attachments of a name are within what is held aside for them
  pub taken-pages : (label : Name) → AreHeld s (owners_named label k.descriptor) (taken_bounds ext (db_of kept) name label)
  taken-pages label f measure =
      omega (
        arith,
        named_pages f measure m s pages (db_of kept) k label k.descriptor.attachments k.relation.attachments table.is.attachments rules none-joined,
        ap (λ (n : Name). sum_by (λ a. f (attached_bound ext (db_of kept) n a)) (filter (λ a. bytes_eq a.name label) k.relation.attachments)) named,
        ap (λ (o : Option Relation). sum_by (λ a. f (attached_bound ext (db_of kept) name a)) (filter (λ a. bytes_eq a.name label) (attachments_of o))) there,
        sum_by-over f (attached_bound ext (db_of kept) name) (filter (λ a. bytes_eq a.name label) (attachments_at (db_of kept) name)),
      )

  -- so are those of all its instances
  pub dropped-pages : AreHeld s (owners_of k.descriptor) (bounds_at ext (db_of kept) name)
  dropped-pages f measure =
      omega (
        arith,
        measure.rises _ _ (row_pages m ext s (table_of IsDurable k) k.relation (are-bounded m) (pages k.descriptor.owner) (sym table.is.method) table.rows),
        all_pages f measure m s pages (db_of kept) k k.descriptor.attachments k.relation.attachments rules none-joined,
        ap (λ (n : Name). sum_by (λ a. f (attached_bound ext (db_of kept) n a)) k.relation.attachments) named,
        sum_by-cons (λ o. f (page_count (owned s o))) k.descriptor.owner (map (λ d. d.owner) k.descriptor.attachments),
        bounds_is f ext (db_of kept) name k.relation there,
      )

-- ---- rules without pages
-- the bound is 0 over any rows
abbrev HasNoPages : Rule → Type 0
HasNoPages rule = (ext : Extensions) (db : Db) (name : Name) (buckets : ℕ) → rule_bound ext db name rule buckets ≡ 0

-- so it is of a mirror
mirror-pages : (n : Name) (rule : Rule) → IfTied (λ other mirror. HasNoPages mirror) (mirror_of n rule)
mirror-pages n (JoinIndex Main columns other others) = λ ext db name buckets. refl
mirror-pages n (Refers Main columns other others mode deferred) = λ ext db name buckets. refl
mirror-pages n (JoinIndex Mirror columns other others) = tt
mirror-pages n (Refers Mirror columns other others mode deferred) = tt
mirror-pages n (TreeIndex columns unique) = tt
mirror-pages n (HashIndex columns) = tt
mirror-pages n (Stats column low width) = tt
mirror-pages n (Check pred deferred) = tt
mirror-pages n (Trigger on pred a deferred) = tt
mirror-pages n (Foreign code desc) = tt

-- an attachment of this name has none
abbrev IsBare : Name → Attached → Type 0
IsBare label a = bytes_eq a.name label ≡ true → HasNoPages a.rule

none_taken : (f : ℕ → ℕ) → IsMeasure f → (ext : Extensions) (db : Db) (relation label : Name) (items : List Attached) → All (IsBare label) items
    → sum_by f (map (attached_bound ext db relation) (filter (λ a. bytes_eq a.name label) items)) ≡ 0
none_taken f measure ext db relation label [] bare = refl
none_taken f measure ext db relation label (a ∷ items) bare =
    of_test (bytes_eq a.name label) refl (none_taken f measure ext db relation label items (All-tail (IsBare label) a items bare))
  where
    left : List Attached
    left = filter (λ x. bytes_eq x.name label) items

    of_test : (b : Bool) → bytes_eq a.name label ≡ b → sum_by f (map (attached_bound ext db relation) left) ≡ 0
        → sum_by f (map (attached_bound ext db relation) (cond b (a ∷ left) left)) ≡ 0
    of_test true is rest =
        omega (
          arith,
          ap f (All-head (IsBare label) a items bare is ext db relation a.buckets),
          measure.none,
          rest,
          sum_by-cons f (attached_bound ext db relation a) (map (attached_bound ext db relation) left),
        )
    of_test false is rest = rest

-- what stands under the mirror's name of an attachment has none
abbrev IsBareMirror : Db → Name → Attached → Type 0
IsBareMirror db relation m = IfTied (λ other rule. All (IsBare (mirror_name relation m.name)) (attachments_at db other)) (mirror_of relation m.rule)

none_mirrors : (f : ℕ → ℕ) → IsMeasure f → (ext : Extensions) (relation : Name) (items : List Attached) (db : Db) → All (IsBareMirror db relation) items
    → sum_by f (mirrors_bounds ext relation items db) ≡ 0
none_mirrors f measure ext relation [] db bare = refl
none_mirrors f measure ext relation (m ∷ items) db bare =
    omega (
      arith,
      here (mirror_of relation m.rule) (All-head (IsBareMirror db relation) m items bare),
      sum_by-append f (mirror_bounds ext relation m.name (mirror_of relation m.rule) db) (mirrors_bounds ext relation items (without_mirror_of relation m db)),
      none_mirrors f measure ext relation items (without_mirror_of relation m db)
          (All-weaker (IsBareMirror db relation) (IsBareMirror (without_mirror_of relation m db) relation)
          (λ x before. still (mirror_name relation x.name) (mirror_of relation x.rule) before) items (All-tail (IsBareMirror db relation) m items bare)),
    )
  where
    here : (o : Option (Name × Rule)) → IfTied (λ other rule. All (IsBare (mirror_name relation m.name)) (attachments_at db other)) o → sum_by f (mirror_bounds ext relation m.name o db) ≡ 0
    here None is = refl
    here (Some (other, rule)) is = none_taken f measure ext db other (mirror_name relation m.name) (attachments_at db other) is

    still : (label : Name) (o : Option (Name × Rule)) → IfTied (λ other rule. All (IsBare label) (attachments_at db other)) o
        → IfTied (λ other rule. All (IsBare label) (attachments_at (without_mirror_of relation m db) other)) o
    still label None is = tt
    still label (Some (other, rule)) is = all-mirror (IsBare label) db relation m.name (mirror_of relation m.rule) other is

-- the one of a name that is found is the only one
only : (label : Name) (items : List Attached) (a : Attached) → find (λ x. bytes_eq x.name label) items ≡ Some a → length (filter (λ x. bytes_eq x.name label) items) ≤ 1
    → All (λ x. bytes_eq x.name label ≡ true → x ≡ a) items
only label [] a found few = All-nil _
only label (x ∷ items) a found few = of_test (bytes_eq x.name label) refl found few (only label items a)
  where
    Same : Attached → Type 0
    Same y = bytes_eq y.name label ≡ true → y ≡ a

    none : (others : List Attached) → length (filter (λ y. bytes_eq y.name label) others) ≤ 0 → All Same others
    none [] few = All-nil Same
    none (y ∷ others) few = of_none (bytes_eq y.name label) refl few (none others)
      where
        of_none : (b : Bool) → bytes_eq y.name label ≡ b
            → length (cond b (y ∷ filter (λ z. bytes_eq z.name label) others) (filter (λ z. bytes_eq z.name label) others)) ≤ 0
            → (length (filter (λ z. bytes_eq z.name label) others) ≤ 0 → All Same others) → All Same (y ∷ others)
        of_none true is few rest = absurd (omega (arith, few))
        of_none false is few rest = All-cons Same y others (λ yes. absurd (true≢false (sym yes ∙ is))) (rest few)

    of_test : (b : Bool) → bytes_eq x.name label ≡ b → cond b (Some x) (find (λ y. bytes_eq y.name label) items) ≡ Some a
        → length (cond b (x ∷ filter (λ y. bytes_eq y.name label) items) (filter (λ y. bytes_eq y.name label) items)) ≤ 1
        → (find (λ y. bytes_eq y.name label) items ≡ Some a → length (filter (λ y. bytes_eq y.name label) items) ≤ 1 → All Same items) → All Same (x ∷ items)
    of_test true is found few rest = All-cons Same x items (λ yes. same_Some x a found) (none items (omega (arith, few)))
    of_test false is found few rest = All-cons Same x items (λ yes. absurd (true≢false (sym yes ∙ is))) (rest found few)

-- so what is held aside for those of its name is its bound
one_taken : (f : Attached → ℕ) (label : Name) (items : List Attached) (a : Attached) → find (λ x. bytes_eq x.name label) items ≡ Some a
    → length (filter (λ x. bytes_eq x.name label) items) ≤ 1 → map f (filter (λ x. bytes_eq x.name label) items) ≡ f a ∷ []
one_taken f label [] a found few = absurd (cc)
one_taken f label (x ∷ items) a found few = of_test (bytes_eq x.name label) found few (one_taken f label items a)
  where
    left : List Attached
    left = filter (λ y. bytes_eq y.name label) items

    alone : (others : List Attached) → length others ≤ 0 → map f (x ∷ others) ≡ f x ∷ []
    alone [] few = refl
    alone (y ∷ others) few = absurd (omega (arith, few))

    of_test : (b : Bool) → cond b (Some x) (find (λ y. bytes_eq y.name label) items) ≡ Some a → length (cond b (x ∷ left) left) ≤ 1
        → (find (λ y. bytes_eq y.name label) items ≡ Some a → length left ≤ 1 → map f left ≡ f a ∷ []) → map f (cond b (x ∷ left) left) ≡ f a ∷ []
    of_test true found few rest = alone left (omega (arith, few)) ∙ ap (λ y. f y ∷ []) (same_Some x a found)
    of_test false found few rest = rest found few

pub taken-one : (ext : Extensions) (db : Db) (relation label : Name) (a : Attached) → AreNamedApart db → rule_at db relation label ≡ Some a
    → taken_bounds ext db relation label ≡ attached_bound ext db relation a ∷ []
taken-one ext db relation label a apart there =
    one_taken (attached_bound ext db relation) label (attachments_at db relation) a there (apart relation label)

-- nothing is held aside for what stands under a mirror's name
bare_mirror : (db : Db) (label other : Name) (rule : Rule) → AreNamedApart db → HasNoPages rule → HasMirror db label (Some (other, rule))
    → All (IsBare label) (attachments_at db other)
bare_mirror db label other rule apart bare has =
    All-weaker (λ x. bytes_eq x.name label ≡ true → x ≡ has.0) (IsBare label)
    (λ x same yes ext d n buckets.
    subst (λ (y : Attached). rule_bound ext d n y.rule buckets ≡ 0) (sym (same yes))
    (subst (λ (r : Rule). rule_bound ext d n r buckets ≡ 0) (sym has.2) (bare ext d n buckets)))
    (attachments_at db other) (only label (attachments_at db other) has.0 has.1 (apart other label))

-- nor for the mirrors of a relation's attachments
pub mirrors-none : (f : ℕ → ℕ) → IsMeasure f → (ext : Extensions) (db : Db) (name : Name) → AreMirrored db → AreNamedApart db
    → sum_by f (mirrors_bounds ext name (attachments_at db name) db) ≡ 0
mirrors-none f measure ext db name mirrored apart =
    none_mirrors f measure ext name (attachments_at db name) db
    (All-weaker (λ a. HasMirror db (mirror_name name a.name) (mirror_of name a.rule)) (IsBareMirror db name)
    (λ a has. of_mirror (mirror_name name a.name) (mirror_of name a.rule) (mirror-pages name a.rule) has) (attachments_at db name) (mirrored name))
  where
    of_mirror : (label : Name) (o : Option (Name × Rule)) → IfTied (λ other mirror. HasNoPages mirror) o → HasMirror db label o
        → IfTied (λ other rule. All (IsBare label) (attachments_at db other)) o
    of_mirror label None bare has = tt
    of_mirror label (Some (other, rule)) bare has = bare_mirror db label other rule apart bare has

-- nor for that of an attachment that has gone
pub mirror-none : (f : ℕ → ℕ) → IsMeasure f → (ext : Extensions) (db : Db) (relation name : Name) (a : Attached) → AreMirrored db → AreNamedApart db
    → rule_at db relation name ≡ Some a
    → IfTied (λ other rule. sum_by f (taken_bounds ext (without_attached db relation name) other (mirror_name relation name)) ≡ 0) (mirror_of relation a.rule)
mirror-none f measure ext db relation name a mirrored apart there =
    of_mirror (mirror_of relation a.rule) (mirror-pages relation a.rule)
    (subst (λ (n : Name). HasMirror db (mirror_name relation n) (mirror_of relation a.rule)) found.1 found.0)
  where
    found : HasMirror db (mirror_name relation a.name) (mirror_of relation a.rule) × (a.name ≡ name)
    found = rule_found (λ x. HasMirror db (mirror_name relation x.name) (mirror_of relation x.rule)) db relation name a (mirrored relation) there

    of_mirror : (o : Option (Name × Rule)) → IfTied (λ other mirror. HasNoPages mirror) o → HasMirror db (mirror_name relation name) o
        → IfTied (λ other rule. sum_by f (taken_bounds ext (without_attached db relation name) other (mirror_name relation name)) ≡ 0) o
    of_mirror None bare has = tt
    of_mirror (Some (other, rule)) bare has =
        none_taken f measure ext (without_attached db relation name) other (mirror_name relation name) (attachments_at (without_attached db relation name) other)
        (all-without (IsBare (mirror_name relation name)) db relation name other (bare_mirror db (mirror_name relation name) other rule apart bare has))

-- ---- bounds where attachments are taken off
items_alike : (f : ℕ → ℕ) (ext : Extensions) (a b : Db) (name : Name) → rows_at a name ≡ rows_at b name → schema_at a name ≡ schema_at b name → (items : List Attached)
    → All (λ x. is_join x.rule ≡ false) items → sum_by (λ x. f (attached_bound ext a name x)) items ≡ sum_by (λ x. f (attached_bound ext b name x)) items
items_alike f ext a b name rows columns [] none = omega arith
items_alike f ext a b name rows columns (x ∷ items) none =
    omega (
      arith,
      ap f (bound-alike ext a b name x.rule x.buckets rows columns (All-head (λ y. is_join y.rule ≡ false) x items none)),
      items_alike f ext a b name rows columns items (All-tail (λ y. is_join y.rule ≡ false) x items none),
      sum_by-cons (λ y. f (attached_bound ext a name y)) x items,
      sum_by-cons (λ y. f (attached_bound ext b name y)) x items,
    )

-- without attachments of a name those of a relation need no more
bounds-without : (f : ℕ → ℕ) (ext : Extensions) (db : Db) (other label name : Name) → All (λ x. is_join x.rule ≡ false) (attachments_at db name)
    → sum_by f (bounds_at ext (without_attached db other label) name) ≤ sum_by f (bounds_at ext db name)
bounds-without f ext db other label name none = of_relation (relation_at db other) refl (bytes_eq name other) refl
  where
    -- the same relation under another database
    alike : (x : Db) (o : Option Relation) → relation_at db name ≡ o → relation_at x name ≡ o → sum_by f (bounds_at ext x name) ≤ sum_by f (bounds_at ext db name)
    alike x None had has = omega (arith, bounds_none f ext db name had, bounds_none f ext x name has)
    alike x (Some r) had has =
        omega (
          arith,
          bounds_is f ext db name r had,
          bounds_is f ext x name r has,
          items_alike f ext x db name (ap rows_of has ∙ sym (ap rows_of had)) (ap schema_of has ∙ sym (ap schema_of had)) r.attachments
              (All-same (λ y. is_join y.rule ≡ false) r.attachments (attachments_at db name) (sym (ap attachments_of had)) none),
        )

    -- the relation with fewer attachments
    fewer : (x : Db) (r : Relation) → relation_at db name ≡ Some r → relation_at x name ≡ Some (record r { attachments = without_named label r.attachments })
        → sum_by f (bounds_at ext x name) ≤ sum_by f (bounds_at ext db name)
    fewer x r had has =
        let q : Relation = record r { attachments = without_named label r.attachments } in
        let rows : rows_at x name ≡ rows_at db name = ap rows_of has ∙ sym (ap rows_of had) in
        let columns : schema_at x name ≡ schema_at db name = ap schema_of has ∙ sym (ap schema_of had) in
        let own : method_bound ext q ≡ method_bound ext r = refl in
        let all = All-same (λ y. is_join y.rule ≡ false) r.attachments (attachments_at db name) (sym (ap attachments_of had)) none in
        omega (
          arith,
          own,
          bounds_is f ext db name r had,
          bounds_is f ext x name q has,
          items_alike f ext x db name rows columns (without_named label r.attachments)
              (All-filter (λ (a : Attached). not (bytes_eq a.name label)) (λ y. is_join y.rule ≡ false) r.attachments all),
          sum_by-filter_both (λ (a : Attached). bytes_eq a.name label) (λ (a : Attached). not (bytes_eq a.name label)) (λ a. refl) (λ a. f (attached_bound ext db name a)) r.attachments,
        )

    of_relation : (o : Option Relation) → relation_at db other ≡ o → (b : Bool) → bytes_eq name other ≡ b
        → sum_by f (bounds_at ext (without_in db other label o) name) ≤ sum_by f (bounds_at ext db name)
    of_relation None there b is = omega arith
    of_relation (Some r) there true is =
        let same : name ≡ other = (bytes_same name other).0 is in
        let q : Relation = record r { attachments = without_named label r.attachments } in
        fewer (with_relation db other q) r (ap (λ (n : Name). relation_at db n) same ∙ there)
        (ap (λ (n : Name). relation_at (with_relation db other q) n) same ∙ relation_same db other q)
    of_relation (Some r) there false is =
        alike (with_relation db other (record r { attachments = without_named label r.attachments })) (relation_at db name) refl
        (relation_other db other (record r { attachments = without_named label r.attachments }) name is)

-- nor without mirrors
pub bounds-mirrors : (f : ℕ → ℕ) (ext : Extensions) (relation : Name) (items : List Attached) (db : Db) (name : Name) → All (λ x. is_join x.rule ≡ false) (attachments_at db name)
    → sum_by f (bounds_at ext (without_mirrors relation items db) name) ≤ sum_by f (bounds_at ext db name)
bounds-mirrors f ext relation [] db name none = omega arith
bounds-mirrors f ext relation (m ∷ items) db name none =
    omega (
      arith,
      here (mirror_of relation m.rule),
      bounds-mirrors f ext relation items (without_mirror_of relation m db) name
          (all-mirror (λ x. is_join x.rule ≡ false) db relation m.name (mirror_of relation m.rule) name none),
    )
  where
    here : (o : Option (Name × Rule)) → sum_by f (bounds_at ext (without_mirror relation m.name o db) name) ≤ sum_by f (bounds_at ext db name)
    here None = omega arith
    here (Some (other, rule)) = bounds-without f ext db other (mirror_name relation m.name) name none

-- so for a relation that goes with its mirrors no more is held aside than its bounds
pub held-dropped : (m : Meanings) (root : ℕ) (s : Slots) (gone : List ℕ) (kept : List Kept) → Keeps m IsDurable root s gone kept → (aside : List ℕ) (db : Db) → db ≡ db_of kept → (name : Name)
    → AreMirrored db → AreNamedApart db
    → IsWithin ((aside ++ mirrors_bounds (extensions_of m) name (attachments_at db name) db) ++ bounds_at (extensions_of m) (without_mirrors name (attachments_at db name) db) name)
    (aside ++ bounds_at (extensions_of m) db name)
held-dropped m root s gone kept keeps aside db is name mirrored apart f measure =
    let mirrors = mirrors_bounds (extensions_of m) name (attachments_at db name) db in
    let left = bounds_at (extensions_of m) (without_mirrors name (attachments_at db name) db) name in
    omega (
      arith,
      mirrors-none f measure (extensions_of m) db name mirrored apart,
      bounds-mirrors f (extensions_of m) name (attachments_at db name) db name none,
      sum_by-append f (aside ++ mirrors) left,
      sum_by-append f aside mirrors,
      sum_by-append f aside (bounds_at (extensions_of m) db name),
    )
  where
    in_kept : (o : Option Kept) → kept_at kept name ≡ o → All (λ x. is_join x.rule ≡ false) (attachments_at (db_of kept) name)
    in_kept None at = All-same (λ x. is_join x.rule ≡ false) (attachments_at (db_of kept) name) [] (ap attachments_of (relation_at-none kept name at)) (All-nil _)
    in_kept (Some k) at =
        All-same (λ x. is_join x.rule ≡ false) (attachments_at (db_of kept) name) k.relation.attachments (ap attachments_of (relation_at-there kept name k at))
        (no_joins k.relation.attachments (kept_at-all (λ x. has_no_join x ≡ true) kept name k keeps.joinless at))

    none : All (λ x. is_join x.rule ≡ false) (attachments_at db name)
    none = subst (λ (x : Db). All (λ y. is_join y.rule ≡ false) (attachments_at x name)) (sym is) (in_kept (kept_at kept name) refl)
