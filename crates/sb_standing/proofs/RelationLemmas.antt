-- Relations that come and go.
use Rattle.std.proofs.Common.{◌≡◌, ℕ, ◌+◌, ◌<◌, Bool, true, false, cond, T, List, [], ◌∷◌, ◌++◌, map, All, Option, Some, None, is_none, option_map, bytes_eq, refl, sym, ap, subst, ◌∙◌, arith, inl, inr}
use Rattle.std.specs.FinMap.Entries.{put, is_sorted}
use Rattle.std.proofs.lemmas.List.Elements.{All-head, All-tail, All-cons, All-nil, All-append, All-weaker}
use Rattle.sb_value.specs.declared.schema.Column.{Column}
use Rattle.sb_value.specs.Equal.{bytes_same}
use Rattle.sb_value.specs.Order.{bytes_cmp}
use Rattle.sb_relation.specs.Db
use Rattle.sb_relation.specs.Db.{Name, Rows, Relation, Db, relation_at}
use Rattle.sb_relation.specs.Fits.{first_missing, other_relations}
use Rattle.sb_relation.specs.Lawful.{AreRows}
use Rattle.sb_rows.specs.Maps.{map_in}
use Rattle.sb_rows.specs.Attachment.{AreLawful}
use Rattle.sb_rows.specs.Boxes.{Meanings}
use Rattle.sb_rows.specs.Slots.{Slots, owned}
use Rattle.sb_rows.specs.Live.{HasRows}
use Rattle.sb_catalog.specs.declared.descriptor.Attached.{Attached}
use Rattle.sb_catalog.specs.declared.descriptor.Descriptor.{Descriptor}
use Rattle.sb_catalog.specs.Descriptors.{described, standing, IsDescriptorOf}
use Rattle.sb_standing.specs.Instances.{owners_of, rule_instance}
use Rattle.sb_standing.specs.Tables.{Kept, db_of, kept_at, put_kept, without_kept, KeepsOthers, table_of, KeepsTable, Tables}
use Rattle.sb_standing.specs.Standing.{EachRule, IsKept, KeepsRules, has_no_join, IsApartFrom, IsOwner, owners_in, HasPage, Keeps}
use Rattle.sb_standing.specs.TableLaws.{Comes, Created, Dropped, Freed}
use Rattle.sb_standing.proofs.KeptLemmas.{IsThere, relation_at-kept, relation_at-none, kept_at-all, kept_at-relation}
use Rattle.sb_standing.proofs.PutLemmas.{entries-put, rising-put, All-put, kept_at-put, entries-without, rising-without, All-without, kept_at-without}
use Rattle.sb_standing.proofs.TimesLemmas.{times, times-append, times_of, of_kept, times-put, times-without}
use Rattle.sb_standing.proofs.FrameLemmas.{EachRule-weaker, All-any, All-both, All-left, All-right, All-unmap, KeepsTable-same, KeepsRule-same, owners-each, same-owner, pages-all, pages-kept}
use Rattle.sb_standing.proofs.AlikeLemmas.{IsAlike, IsAlike-same, KeepsRule-alike}
use Rattle.sb_standing.proofs.GivenLemmas.{Comes-same, Own-comes, Own-moved, Freed-same, Own-freed}

-- ---- the rows of the relations are lawful
pub AreRows-kept : (m : Meanings) (durable : ℕ → Bool) (s : Slots) (k : Kept) → KeepsTable m durable s k → AreRows k.relation.schema k.relation.rows
AreRows-kept m durable s k keeps =
    subst (λ (c : List Column). AreRows c k.relation.rows) keeps.is.schema (keeps.rows.live.law.formed (table_of durable k) (owned s k.descriptor.owner) k.relation.rows keeps.rows.holds).lawful

pub AreLawful-kept : (m : Meanings) (durable : ℕ → Bool) (s : Slots) (kept : List Kept) → All (KeepsTable m durable s) kept → AreLawful (db_of kept)
AreLawful-kept m durable s kept each name r is =
    let there : IsThere kept name r = kept_at-relation kept name r is in
    subst (λ (x : Relation). AreRows x.schema x.rows) there.is (AreRows-kept m durable s there.kept_there (kept_at-all (KeepsTable m durable s) kept name there.kept_there each there.at))

-- ---- relations that are there
pub relation_at-put : (k : Kept) (kept : List Kept) (name : Name) → relation_at (db_of (put_kept k kept)) name ≡ cond (bytes_eq k.name name) (Some k.relation) (relation_at (db_of kept) name)
relation_at-put k kept name =
    relation_at-kept (put_kept k kept) name ∙ ap (option_map (λ (x : Kept). x.relation)) (kept_at-put k kept name)
    ∙ elim (bytes_eq k.name name) as (λ b. option_map (λ (x : Kept). x.relation) (cond b (Some k) (kept_at kept name)) ≡ cond b (Some k.relation) (relation_at (db_of kept) name)) [
      | true ↦ refl
      | false ↦ sym (relation_at-kept kept name)
    ]

-- a relation that is there is the same one once another has come
IsAlike-came : (k : Kept) (kept : List Kept) (name : Name) → kept_at kept k.name ≡ None → is_none (relation_at (db_of kept) name) ≡ false → IsAlike (db_of kept) (db_of (put_kept k kept)) name
IsAlike-came k kept name new there = IsAlike-same (db_of kept) (db_of (put_kept k kept)) name (relation_at-put k kept name ∙ by (bytes_eq k.name name) refl)
  where
    by : (b : Bool) → bytes_eq k.name name ≡ b → cond b (Some k.relation) (relation_at (db_of kept) name) ≡ relation_at (db_of kept) name
    by true same =
        let none : relation_at (db_of kept) name ≡ None = ap (relation_at (db_of kept)) (sym ((bytes_same k.name name).0 same)) ∙ relation_at-none kept k.name new in
        let is = sym (ap is_none none) ∙ there in absurd (cc)
    by false other = refl

all_there : (db : Db) (names : List Name) → first_missing db names ≡ None → All (λ name. is_none (relation_at db name) ≡ false) names
all_there db [] is = All-nil (λ (name : Name). is_none (relation_at db name) ≡ false)
all_there db (name ∷ names) is = by (is_none (relation_at db name)) refl is (all_there db names)
  where
    by : (b : Bool) → is_none (relation_at db name) ≡ b → cond b (Some name) (first_missing db names) ≡ None → (first_missing db names ≡ None → All (λ name. is_none (relation_at db name) ≡ false) names)
        → All (λ name. is_none (relation_at db name) ≡ false) (name ∷ names)
    by true gone none rest = absurd (cc)
    by false there none rest = All-cons (λ (name : Name). is_none (relation_at db name) ≡ false) name names there (rest none)

is_there : (o : Option Relation) (r : Relation) → o ≡ Some r → is_none o ≡ false
is_there o r is = ap is_none is

-- a rule of a relation that was there
KeepsRule-came : (m : Meanings) (durable : ℕ → Bool) (s : Slots) (k o : Kept) (kept : List Kept) (d : Attached) (a : Db.Attached) → kept_at kept k.name ≡ None → AreLawful (db_of (put_kept k kept)) →
    IsKept m durable s (db_of kept) o d a → IsKept m durable s (db_of (put_kept k kept)) o d a
KeepsRule-came m durable s k o kept d a new lawful keeps =
    let db = db_of kept in
    let after = db_of (put_kept k kept) in
    let inst = rule_instance (durable o.descriptor.method) o.name o.descriptor d in
    KeepsRule-alike m s inst a db after lawful
    (IsAlike-came k kept o.name new (is_there (relation_at db o.name) keeps.stands.relation keeps.stands.there))
    (All-weaker (λ (name : Name). is_none (relation_at db name) ≡ false) (IsAlike db after) (λ name there. IsAlike-came k kept name new there) (other_relations a.rule)
    (all_there db (other_relations a.rule) keeps.stands.may.there))
    keeps

-- the same of the relation's rules, where their pages stay
pub KeepsRules-by : (m : Meanings) (durable : ℕ → Bool) (s t : Slots) (db after : Db) (k : Kept) (D : Db.Attached → Type 0) →
    ((d : Attached) (a : Db.Attached) → D a → IsKept m durable s db k d a → IsKept m durable s after k d a) → All (λ o. owned t o ≡ owned s o) (owners_of k.descriptor) → All D k.relation.attachments →
    KeepsRules m durable s db k → KeepsRules m durable t after k
KeepsRules-by m durable s t db after k D step same each keeps =
    let IsSame : ℕ → Type 0 = λ o. owned t o ≡ owned s o in
    EachRule-weaker (IsKept m durable s db k) (IsKept m durable t after k) (λ (d : Attached). IsSame d.owner) D
    (λ d a stays of keeps. KeepsRule-same m s t (rule_instance (durable k.descriptor.method) k.name k.descriptor d) a after stays (step d a of keeps))
    k.descriptor.attachments k.relation.attachments (All-unmap IsSame (λ (d : Attached). d.owner) k.descriptor.attachments (All-tail IsSame k.descriptor.owner (map (λ a. a.owner) k.descriptor.attachments) same)) each keeps

-- ---- a relation that comes has no attachment
no_items : {X Y : Type 0} (f : X → Y) (xs : List X) → map f xs ≡ [] → xs ≡ []
no_items f [] is = refl
no_items f (x ∷ xs) is = absurd (cc)

pub none-described : (r : Relation) (d : Descriptor) → IsDescriptorOf r d → r.attachments ≡ [] → d.attachments ≡ []
none-described r d is none = no_items described d.attachments (is.attachments ∙ ap (map standing) none)

-- the owners that stood keep their pages
pub same-came : (m : Meanings) (durable : ℕ → Bool) (root : ℕ) (s t : Slots) (gone : List ℕ) (kept : List Kept) (owner : ℕ) → Keeps m durable root s gone kept → Comes s t owner →
    All (λ k. All (λ o. owned t o ≡ owned s o) (owners_of k.descriptor)) kept
same-came m durable root s t gone kept owner keeps comes =
    owners-each (λ o. owned t o ≡ owned s o) kept
    (All-both IsOwner (HasPage s) (λ o. owned t o ≡ owned s o) (λ o is has. Comes-same s t owner o comes is has) (owners_in kept) (All-left IsOwner (owners_in kept) gone keeps.own.each)
    (All-left (HasPage s) (owners_in kept) gone (pages-all m durable root s gone kept keeps)))

Tables-created : (m : Meanings) (durable : ℕ → Bool) (root : ℕ) (s t : Slots) (gone : List ℕ) (kept : List Kept) (k : Kept) → Keeps m durable root s gone kept → Created m durable root s t kept k →
    Tables m durable root t (put_kept k kept)
Tables-created m durable root s t gone kept k keeps created = record {
  rising = rising-put k kept keeps.tables.rising;
  catalogue = created.catalogue ∙ ap Some (sym (entries-put k kept));
  each =
      let IsSame : ℕ → Type 0 = λ o. owned t o ≡ owned s o in
      All-put (KeepsTable m durable t) k kept (record { is = created.is; storable = created.storable; named = created.named; wide = created.wide; rows = subst (λ (rows : Rows). HasRows m t (table_of durable k) rows) (sym created.rows) created.has })
      (All-both (λ (o : Kept). All IsSame (owners_of o.descriptor)) (KeepsTable m durable s) (KeepsTable m durable t)
      (λ o same table. KeepsTable-same m durable s t o (All-head IsSame o.descriptor.owner (map (λ a. a.owner) o.descriptor.attachments) same) table) kept
      (same-came m durable root s t gone kept k.descriptor.owner keeps created.comes) keeps.tables.each);
}

no_rules : (m : Meanings) (durable : ℕ → Bool) (s : Slots) (db : Db) (k : Kept) → k.descriptor.attachments ≡ [] → k.relation.attachments ≡ [] → KeepsRules m durable s db k
no_rules m durable s db k none no_attachments =
    subst (λ (ds : List Attached). EachRule (IsKept m durable s db k) ds k.relation.attachments) (sym none)
    (subst (λ (others : List Db.Attached). EachRule (IsKept m durable s db k) [] others) (sym no_attachments) tt)

times-created : (o : ℕ) (kept : List Kept) (gone : List ℕ) (k : Kept) → T (is_sorted bytes_cmp (db_of kept)) → kept_at kept k.name ≡ None → k.descriptor.attachments ≡ [] →
    times o (owners_in (put_kept k kept) ++ gone) ≡ times o (k.descriptor.owner ∷ []) + times o (owners_in kept ++ gone)
times-created o kept gone k rising new none =
    added (times o (owners_in (put_kept k kept))) (of_kept (times_of o) (kept_at kept k.name)) (times_of o k) (times o (owners_in kept)) (times o gone) (times o (k.descriptor.owner ∷ []))
    (times o (owners_in (put_kept k kept) ++ gone)) (times o (owners_in kept ++ gone))
    (times-put o k kept rising) (ap (of_kept (times_of o)) new) (ap (λ (ds : List Attached). times o (k.descriptor.owner ∷ map (λ a. a.owner) ds)) none)
    (times-append o (owners_in (put_kept k kept)) gone) (times-append o (owners_in kept) gone)
  where
    added : (a b c d e f g h : ℕ) → a + b ≡ c + d → b ≡ 0 → c ≡ f → g ≡ a + e → h ≡ d + e → g ≡ f + h
    added a b c d e f g h put no_old one front back = omega arith

pub Keeps-created : (m : Meanings) (durable : ℕ → Bool) (root : ℕ) (s t : Slots) (gone : List ℕ) (kept : List Kept) (k : Kept) → Keeps m durable root s gone kept → Created m durable root s t kept k →
    Keeps m durable root t gone (put_kept k kept)
Keeps-created m durable root s t gone kept k keeps created =
    let db = db_of kept in
    let after = db_of (put_kept k kept) in
    let tables = Tables-created m durable root s t gone kept k keeps created in
    let lawful = AreLawful-kept m durable t (put_kept k kept) tables.each in
    let none = none-described k.relation k.descriptor created.is created.attachments in
    let Stays : Kept → Type 0 = λ o. All (λ n. owned t n ≡ owned s n) (owners_of o.descriptor) in
    record {
      tables = tables;
      rules =
          All-put (KeepsRules m durable t after) k kept (no_rules m durable t after k none created.attachments)
          (All-both Stays (KeepsRules m durable s db) (KeepsRules m durable t after)
          (λ o same rules. KeepsRules-by m durable s t db after o (λ a. Unit {0}) (λ d a any keeps. KeepsRule-came m durable s k o kept d a created.new lawful keeps) same (All-any o.relation.attachments) rules) kept
          (same-came m durable root s t gone kept k.descriptor.owner keeps created.comes) keeps.rules);
      joinless = All-put (λ (o : Kept). has_no_join o ≡ true) k kept (ap (λ (l : List Db.Attached). has_no_join (record k { relation = record k.relation { attachments = l } })) created.attachments) keeps.joinless;
      own =
          Own-comes s t (owners_in kept) gone (owners_in (put_kept k kept)) k.descriptor.owner keeps.own (pages-all m durable root s gone kept keeps) created.comes
          (λ o. times-created o kept gone k keeps.tables.rising created.new none);
    }

-- ---- a relation that goes, with its attachments
IsAlike-went : (name : Name) (kept : List Kept) (n : Name) → bytes_eq n name ≡ false → IsAlike (db_of kept) (db_of (without_kept name kept)) n
IsAlike-went name kept n other =
    IsAlike-same (db_of kept) (db_of (without_kept name kept)) n
    (relation_at-kept (without_kept name kept) n ∙ ap (option_map (λ (k : Kept). k.relation)) (kept_at-without name kept n other) ∙ sym (relation_at-kept kept n))

KeepsRule-went : (m : Meanings) (durable : ℕ → Bool) (s : Slots) (name : Name) (o : Kept) (kept : List Kept) (d : Attached) (a : Db.Attached) → bytes_eq o.name name ≡ false → AreLawful (db_of (without_kept name kept)) →
    All (λ other. bytes_eq other name ≡ false) (other_relations a.rule) → IsKept m durable s (db_of kept) o d a → IsKept m durable s (db_of (without_kept name kept)) o d a
KeepsRule-went m durable s name o kept d a other lawful apart keeps =
    let db = db_of kept in
    let after = db_of (without_kept name kept) in
    KeepsRule-alike m s (rule_instance (durable o.descriptor.method) o.name o.descriptor d) a db after lawful (IsAlike-went name kept o.name other)
    (All-weaker (λ (n : Name). bytes_eq n name ≡ false) (IsAlike db after) (IsAlike-went name kept) (other_relations a.rule) apart) keeps

-- the pages of all owners but the catalogue stay
pub same-others : (s t : Slots) (kept : List Kept) → KeepsOthers 2 s t → All IsOwner (owners_in kept) → All (λ k. All (λ o. owned t o ≡ owned s o) (owners_of k.descriptor)) kept
same-others s t kept others each =
    owners-each (λ o. owned t o ≡ owned s o) kept
    (All-weaker IsOwner (λ o. owned t o ≡ owned s o) (λ o is. same-owner s t o is (λ some. others o (λ two. absurd (omega (arith, some, two))))) (owners_in kept) each)

times-dropped : (o : ℕ) (kept : List Kept) (gone : List ℕ) (name : Name) (k : Kept) → T (is_sorted bytes_cmp (db_of kept)) → kept_at kept name ≡ Some k →
    times o (owners_in (without_kept name kept) ++ (gone ++ owners_of k.descriptor)) ≡ times o (owners_in kept ++ gone)
times-dropped o kept gone name k rising there =
    added (times o (owners_in (without_kept name kept))) (of_kept (times_of o) (kept_at kept name)) (times o (owners_in kept)) (times_of o k) (times o gone) (times o (gone ++ owners_of k.descriptor))
    (times o (owners_in (without_kept name kept) ++ (gone ++ owners_of k.descriptor))) (times o (owners_in kept ++ gone))
    (times-without o name kept rising) (ap (of_kept (times_of o)) there)
    (times-append o gone (owners_of k.descriptor)) (times-append o (owners_in (without_kept name kept)) (gone ++ owners_of k.descriptor)) (times-append o (owners_in kept) gone)
  where
    added : (a b c d e f g h : ℕ) → a + b ≡ c → b ≡ d → f ≡ e + d → g ≡ a + f → h ≡ c + e → g ≡ h
    added a b c d e f g h all one aside front back = omega arith

pub Keeps-dropped : (m : Meanings) (durable : ℕ → Bool) (root : ℕ) (s t : Slots) (gone : List ℕ) (kept : List Kept) (name : Name) (k : Kept) → Keeps m durable root s gone kept → Dropped root s t kept name k →
    Keeps m durable root t (gone ++ owners_of k.descriptor) (without_kept name kept)
Keeps-dropped m durable root s t gone kept name k keeps dropped =
    let db = db_of kept in
    let after = db_of (without_kept name kept) in
    let IsSame : ℕ → Type 0 = λ o. owned t o ≡ owned s o in
    let Stays : Kept → Type 0 = λ o. All IsSame (owners_of o.descriptor) in
    let same = same-others s t kept dropped.others (All-left IsOwner (owners_in kept) gone keeps.own.each) in
    let IsOther : Kept → Type 0 = λ o. bytes_eq o.name name ≡ false in
    let each = All-both Stays (KeepsTable m durable s) (KeepsTable m durable t)
    (λ o stays table. KeepsTable-same m durable s t o (All-head IsSame o.descriptor.owner (map (λ a. a.owner) o.descriptor.attachments) stays) table) kept same keeps.tables.each in
    let Both : (Kept → Type 0) → Kept → Type 0 = λ P o. IsOther o × P o in
    let tables : Tables m durable root t (without_kept name kept) = record {
      rising = rising-without name kept keeps.tables.rising;
      catalogue = dropped.catalogue ∙ ap Some (sym (entries-without name kept));
      each = All-weaker (Both (KeepsTable m durable t)) (KeepsTable m durable t) (λ o both. both.1) (without_kept name kept) (All-without (KeepsTable m durable t) name kept each);
    } in
    let lawful = AreLawful-kept m durable t (without_kept name kept) tables.each in
    let Told : Kept → Type 0 = λ o. (IsOther o → IsApartFrom name o) × Stays o × KeepsRules m durable s db o in
    let told : All Told kept = All-both (λ (o : Kept). IsOther o → IsApartFrom name o) (λ (o : Kept). Stays o × KeepsRules m durable s db o) Told (λ o apart rest. (apart, rest.0, rest.1)) kept dropped.unnamed
    (All-both Stays (KeepsRules m durable s db) (λ (o : Kept). Stays o × KeepsRules m durable s db o) (λ o stays rules. (stays, rules)) kept same keeps.rules) in
    record {
      tables = tables;
      rules = All-weaker (Both Told) (KeepsRules m durable t after)
          (λ o both. KeepsRules-by m durable s t db after o (λ a. All (λ other. bytes_eq other name ≡ false) (other_relations a.rule))
          (λ d a apart keeps. KeepsRule-went m durable s name o kept d a both.0 lawful apart keeps) both.1.1 (both.1.0 both.0) both.1.2)
          (without_kept name kept) (All-without Told name kept told);
      joinless =
          All-weaker (Both (λ (o : Kept). has_no_join o ≡ true)) (λ (o : Kept). has_no_join o ≡ true) (λ o both. both.1) (without_kept name kept)
          (All-without (λ (o : Kept). has_no_join o ≡ true) name kept keeps.joinless);
      own =
          Own-moved s t (owners_in kept) gone (owners_in (without_kept name kept)) (gone ++ owners_of k.descriptor) keeps.own (λ o some. dropped.others o (λ two. absurd (omega (arith, some, two))))
          (All-append (HasPage s) gone (owners_of k.descriptor) keeps.own.left
          (pages-kept m durable s db k (kept_at-all (KeepsTable m durable s) kept name k keeps.tables.each dropped.there) (kept_at-all (KeepsRules m durable s db) kept name k keeps.rules dropped.there)))
          (λ o. times-dropped o kept gone name k keeps.tables.rising dropped.there);
    }

-- ---- pages that go
pub Keeps-freed : (m : Meanings) (durable : ℕ → Bool) (root : ℕ) (s t : Slots) (owner : ℕ) (gone : List ℕ) (kept : List Kept) → Keeps m durable root s (owner ∷ gone) kept → Freed s t owner → Keeps m durable root t gone kept
Keeps-freed m durable root s t owner gone kept keeps freed =
    let IsSame : ℕ → Type 0 = λ o. owned t o ≡ owned s o in
    let Stays : Kept → Type 0 = λ o. All IsSame (owners_of o.descriptor) in
    let same = owners-each IsSame kept (All-left IsSame (owners_in kept) gone (Freed-same s t owner (owners_in kept) gone keeps.own freed)) in
    let is = All-head IsOwner owner gone (All-right IsOwner (owners_in kept) (owner ∷ gone) keeps.own.each) in
    record {
      tables = record {
        rising = keeps.tables.rising;
        catalogue = ap (map_in root) (freed.others 2 (catalogues is)) ∙ keeps.tables.catalogue;
        each = All-both Stays (KeepsTable m durable s) (KeepsTable m durable t)
            (λ o stays table. KeepsTable-same m durable s t o (All-head IsSame o.descriptor.owner (map (λ a. a.owner) o.descriptor.attachments) stays) table) kept same keeps.tables.each;
      };
      rules = All-both Stays (KeepsRules m durable s (db_of kept)) (KeepsRules m durable t (db_of kept))
          (λ o stays rules. KeepsRules-by m durable s t (db_of kept) (db_of kept) o (λ a. Unit {0}) (λ d a any keeps. keeps) stays (All-any o.relation.attachments) rules) kept same keeps.rules;
      joinless = keeps.joinless;
      own = Own-freed s t owner (owners_in kept) gone keeps.own freed;
    }
  where
    catalogues : IsOwner owner → 2 ≡ owner → ⊥
    catalogues (inl none) two = absurd (omega (arith, none, two))
    catalogues (inr some) two = absurd (omega (arith, some, two))

-- ---- a new store
pub Keeps-new : (m : Meanings) (durable : ℕ → Bool) (root : ℕ) (s : Slots) → map_in root (owned s 2) ≡ Some [] → ((o : ℕ) → 2 < o → (n : ℕ) → owned s o n ≡ []) → Keeps m durable root s [] []
Keeps-new m durable root s empty none = record {
  tables = record { rising = tt; catalogue = empty; each = All-nil (KeepsTable m durable s) };
  rules = All-nil (KeepsRules m durable s []);
  joinless = All-nil (λ (k : Kept). has_no_join k ≡ true);
  own = record { apart = tt; each = All-nil IsOwner; left = All-nil (HasPage s); known = λ o some others n. none o some n };
}
