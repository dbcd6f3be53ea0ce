-- A change is asked of one attachment after the other.
use Rattle.std.proofs.Common.{◌≡◌, ℕ, suc, ◌+◌, ◌≤◌, Bool, true, false, true≢false, cond, T, List, [], ◌∷◌, ◌++◌, map, All, get_or, length, Some, bytes_eq, inl, inr, refl, sym, ap, subst, ◌∙◌, add-one}
use Rattle.std.specs.FinMap.Entries.{is_sorted}
use Rattle.std.specs.List.{slice_get}
use Rattle.std.proofs.lemmas.List.Elements.{All-weaker, All-map}
use Rattle.sb_value.specs.Equal.{bytes_same}
use Rattle.sb_value.specs.Order.{bytes_cmp}
use Rattle.sb_rule.specs.declared.change.Change.{Change}
use Rattle.sb_rule.specs.Rows.{Name}
use Rattle.sb_relation.specs.Buckets.{grown, next_buckets}
use Rattle.sb_relation.specs.Changes.{changed, changed_rows}
use Rattle.sb_relation.specs.Content.{Content}
use Rattle.sb_relation.specs.Db
use Rattle.sb_relation.specs.Db.{Rows, Relation, relation_at, rows_at}
use Rattle.sb_rows.specs.Maps.{map_in}
use Rattle.sb_rows.specs.Instance.{Instance}
use Rattle.sb_rows.specs.Attachment.{AreLawful}
use Rattle.sb_rows.specs.AttachAnswers.{Holds, content_over, content_after}
use Rattle.sb_rows.specs.Boxes.{Meanings}
use Rattle.sb_rows.specs.Slots.{Slots, owned}
use Rattle.sb_rows.specs.Live.{HasRows}
use Rattle.sb_catalog.specs.declared.descriptor.Attached.{Attached}
use Rattle.sb_catalog.specs.Descriptors.{IsDescriptorOf, standing}
use Rattle.sb_standing.specs.Asked.{Suits, IsKeptAfter, AsksRulesIf, AsksRules, Asks, change_kept, changed_kept}
use Rattle.sb_standing.specs.AskedLaws.{ArePages}
use Rattle.sb_standing.specs.Instances.{rule_instance, owners_of}
use Rattle.sb_standing.specs.Standing.{IsKept, KeepsRules, AreApart, IsAmong, IsOwner, has_no_join, is_join, owners_in, Own, Keeps}
use Rattle.sb_standing.specs.Tables.{Kept, KeepsOthers, KeepsTable, Tables, db_of, kept_at, table_of}
use Rattle.sb_standing.proofs.ChangedLemmas.{StandsOn-changed, content_over-changed, rows_at-there}
use Rattle.sb_standing.proofs.KeptChangedLemmas.{All-but, with_changed, change_kept-same, db_of-changed, entries-changed, joinless-changed, owners_in-changed, rising-before, rising-changed}
use Rattle.sb_standing.proofs.KeptLemmas.{kept_at-all, kept_at-name, relation_at-there}
use Rattle.sb_standing.proofs.LawfulLemmas.{AreLawful-tables}
use Rattle.sb_standing.proofs.OwnersLemmas.{All-among, AreApart-front, AreApart-within, AreElsewhere, IsApartFrom, IsElsewhere, among_front, attached_among, catalogue_apart, owners_of-among}
use Rattle.sb_standing.proofs.PagesLemmas.{pages-kept, KeepsTable-pages, IsKept-pages, KeepsRules-pages, Own-others, Tables-pages, Tables-same, IsKept-same, KeepsRules-same, Own-same}
use Rattle.sb_standing.proofs.SplitLemmas.{IsApart, AreApart-attached, EachRule-weaker, EachRule-map, SplitRules-at, SplitRules-end, SplitRules-length, SplitRules-step, SplitRules-weaker, no_joins, slice_get-among}

-- ---- where a relation has another name, and where it has this one
named : (kept : List Kept) (name : Name) (k : Kept) → kept_at kept name ≡ Some k → bytes_eq k.name name ≡ true
named kept name k at = (bytes_same k.name name).1 (kept_at-name kept name k at)

change_kept-named : (name : Name) (c : Change) (k : Kept) → bytes_eq k.name name ≡ true → change_kept name c k ≡ with_changed c k
change_kept-named name c k same = ap (λ b. cond b (with_changed c k) k) same

change_kept-other : (name : Name) (c : Change) (k : Kept) → bytes_eq k.name name ≡ false → change_kept name c k ≡ k
change_kept-other name c k other = ap (λ b. cond b (with_changed c k) k) other

-- ---- another relation's rules
-- no attachment of it has pages of the owner
apart_attached : (owner : ℕ) (k : Kept) → IsApartFrom owner k → All (IsApart owner) k.descriptor.attachments
apart_attached owner k apart =
    All-weaker (λ (d : Attached). IsAmong d.owner (map (λ a. a.owner) k.descriptor.attachments)) (IsApart owner) (λ d is. apart d.owner (inr is)) k.descriptor.attachments (attached_among k.descriptor.attachments)

-- an attachment of it is kept over the changed database too
IsKept-elsewhere : (m : Meanings) (durable : ℕ → Bool) (s : Slots) (db : Db.Db) (name : Name) (c : Change) (k : Kept) (d : Attached) (a : Db.Attached) → AreLawful (changed db name c) → (k.name ≡ name → ⊥) → is_join a.rule ≡ false →
    IsKept m durable s db k d a → IsKept m durable s (changed db name c) k d a
IsKept-elsewhere m durable s db name c k d a lawful other one kept = record {
  box = kept.box;
  live = kept.live;
  law = kept.law;
  code = kept.code;
  owner = kept.owner;
  stands = StandsOn-changed kept.box inst a.rule db name c kept.stands lawful;
  holds = subst (λ (content : Content). Holds kept.box inst (owned s d.owner) content) (sym (content_over-changed kept.box inst a.rule db name c a.buckets other one)) kept.holds;
}
  where
    inst : Instance
    inst = rule_instance (durable k.descriptor.method) k.name k.descriptor d

KeepsRules-elsewhere : (m : Meanings) (durable : ℕ → Bool) (s : Slots) (db : Db.Db) (name : Name) (c : Change) (k : Kept) → AreLawful (changed db name c) → bytes_eq k.name name ≡ false → has_no_join k ≡ true →
    KeepsRules m durable s db k → KeepsRules m durable s (changed db name c) k
KeepsRules-elsewhere m durable s db name c k lawful other joinless rules =
    EachRule-weaker (IsKept m durable s db k) (IsKept m durable s (changed db name c) k) (λ d. Unit {0}) (λ a. is_join a.rule ≡ false)
    (λ d a _ one kept. IsKept-elsewhere m durable s db name c k d a lawful (λ same. true≢false (sym ((bytes_same k.name name).1 same) ∙ other)) one kept)
    k.descriptor.attachments k.relation.attachments (λ i d in'. tt) (no_joins k.relation.attachments joinless) rules

-- ---- the descriptor after a change
standing-grown : (c : Change) (rows : Rows) (others : List Db.Attached) → map standing (map (grown c rows) others) ≡ map standing others
standing-grown c rows [] = refl
standing-grown c rows (a ∷ others) = ap (λ l. standing a ∷ l) (standing-grown c rows others)

IsDescriptorOf-changed : (k : Kept) (c : Change) → IsDescriptorOf k.relation k.descriptor → IsDescriptorOf (with_changed c k).relation k.descriptor
IsDescriptorOf-changed k c is = record {
  method = is.method;
  schema = is.schema;
  key = is.key;
  attachments = is.attachments ∙ sym (standing-grown c (changed_rows k.relation.rows c) k.relation.attachments);
}

-- ---- an owner of the relation's instances
-- what is so of an owner whose pages change: it is one of the relation's, and no other relation has it
record IsOf (kept : List Kept) (name : Name) (owner : ℕ) : Type 0 where
  among : IsAmong owner (owners_in kept)
  catalogue : ◌≡◌ {A = ℕ} 2 owner → ⊥
  elsewhere : All (IsElsewhere name owner) kept

IsOf-at : (s : Slots) (gone : List ℕ) (kept : List Kept) (name : Name) (k : Kept) (owner : ℕ) → Own s (owners_in kept) gone → kept_at kept name ≡ Some k → IsAmong owner (owners_of k.descriptor) → IsOf kept name owner
IsOf-at s gone kept name k owner own at is =
    let among = owners_of-among kept name k owner at is in
    record {
      among = among;
      catalogue = catalogue_apart owner (All-among IsOwner (owners_in kept ++ gone) owner own.each (among_front owner (owners_in kept) gone among));
      elsewhere = AreElsewhere kept name k owner (AreApart-front (owners_in kept) gone own.apart) at is;
    }

AreApart-of : (s : Slots) (gone : List ℕ) (kept : List Kept) (name : Name) (k : Kept) → Own s (owners_in kept) gone → kept_at kept name ≡ Some k → AreApart (owners_of k.descriptor)
AreApart-of s gone kept name k own at = AreApart-within kept name k (AreApart-front (owners_in kept) gone own.apart) at

-- ---- the beginning: the rows are changed, and none is asked yet
-- the tables stand for the changed database
Tables-first : (m : Meanings) (durable : ℕ → Bool) (root : ℕ) (s t : Slots) (gone : List ℕ) (kept : List Kept) (name : Name) (k : Kept) (c : Change) → Keeps m durable root s gone kept → kept_at kept name ≡ Some k →
    IsOf kept name k.descriptor.owner → KeepsOthers k.descriptor.owner s t → HasRows m t (table_of durable k) (changed_rows k.relation.rows c) → Tables m durable root t (changed_kept name c kept)
Tables-first m durable root s t gone kept name k c keeps at of others rows = record {
  rising = rising-changed name c kept keeps.tables.rising;
  catalogue = ap (map_in root) (others 2 of.catalogue) ∙ keeps.tables.catalogue ∙ ap Some (sym (entries-changed name c kept));
  each = All-map (KeepsTable m durable t) (change_kept name c) kept (All-but (λ x. KeepsTable m durable t (change_kept name c x)) kept name k keeps.tables.rising at here (λ i d in'. elsewhere (get_or kept i d) (of.elsewhere i d in') (keeps.tables.each i d in')));
}
  where
    was : KeepsTable m durable s k
    was = kept_at-all (KeepsTable m durable s) kept name k keeps.tables.each at

    here : KeepsTable m durable t (change_kept name c k)
    here = subst (KeepsTable m durable t) (sym (change_kept-named name c k (named kept name k at)))
        (record { is = IsDescriptorOf-changed k c was.is; storable = was.storable; named = was.named; wide = was.wide; rows = rows })

    elsewhere : (x : Kept) → IsElsewhere name k.descriptor.owner x → KeepsTable m durable s x → bytes_eq x.name name ≡ false → KeepsTable m durable t (change_kept name c x)
    elsewhere x apart table other = subst (KeepsTable m durable t) (sym (change_kept-other name c x other))
        (KeepsTable-pages m durable s t x (pages-kept k.descriptor.owner x.descriptor.owner s t others (apart other x.descriptor.owner (inl refl))) table)

AreLawful-changed : (m : Meanings) (durable : ℕ → Bool) (root : ℕ) (s : Slots) (before : List Kept) (name : Name) (c : Change) → Tables m durable root s (changed_kept name c before) → AreLawful (changed (db_of before) name c)
AreLawful-changed m durable root s before name c tables =
    subst AreLawful (db_of-changed name c before (rising-before name c before tables.rising)) (AreLawful-tables m durable root s (changed_kept name c before) tables)

pub Asks-first : (m : Meanings) (durable : ℕ → Bool) (root : ℕ) (s t : Slots) (gone : List ℕ) (kept : List Kept) (name : Name) (k : Kept) (c : Change) → Keeps m durable root s gone kept → kept_at kept name ≡ Some k →
    Suits k.relation c → KeepsOthers k.descriptor.owner s t → HasRows m t (table_of durable k) (changed_rows k.relation.rows c) → Asks m durable root t gone kept name c 0
Asks-first m durable root s t gone kept name k c keeps at suits others rows = record {
  relation = k.relation;
  there = relation_at-there kept name k at;
  suits = suits;
  tables = tables;
  rules = All-but (AsksRules m durable t db name c 0) kept name k keeps.tables.rising at here
      (λ i d in' other. elsewhere (get_or kept i d) (of.elsewhere i d in') (keeps.joinless i d in') (keeps.rules i d in') other);
  joinless = keeps.joinless;
  own = Own-others s t (owners_in kept) gone owner of.among others keeps.own;
}
  where
    db : Db.Db
    db = db_of kept

    owner : ℕ
    owner = k.descriptor.owner

    of : IsOf kept name owner
    of = IsOf-at s gone kept name k owner keeps.own at (inl refl)

    tables : Tables m durable root t (changed_kept name c kept)
    tables = Tables-first m durable root s t gone kept name k c keeps at of others rows

    here : AsksRules m durable t db name c 0 k
    here = subst (λ b. AsksRulesIf b m durable t db (changed db name c) c 0 k) (sym (named kept name k at))
        (KeepsRules-pages m durable owner s t db k others (AreApart-attached owner k.descriptor.attachments (AreApart-of s gone kept name k keeps.own at).0)
        (kept_at-all (KeepsRules m durable s db) kept name k keeps.rules at))

    elsewhere : (x : Kept) → IsElsewhere name owner x → has_no_join x ≡ true → KeepsRules m durable s db x → bytes_eq x.name name ≡ false → AsksRules m durable t db name c 0 x
    elsewhere x apart joinless rules other = subst (λ b. AsksRulesIf b m durable t db (changed db name c) c 0 x) (sym other)
        (KeepsRules-elsewhere m durable t db name c x (AreLawful-changed m durable root t kept name c tables) other joinless
        (KeepsRules-pages m durable owner s t db x others (apart_attached owner x (apart other)) rules))

-- ---- the attachments of the relation
Rules-at : (m : Meanings) (durable : ℕ → Bool) (root : ℕ) (s : Slots) (gone : List ℕ) (before : List Kept) (name : Name) (c : Change) (i : ℕ) (k : Kept) → Asks m durable root s gone before name c i → kept_at before name ≡ Some k →
    AsksRulesIf true m durable s (db_of before) (changed (db_of before) name c) c i k
Rules-at m durable root s gone before name c i k asks at =
    subst (λ b. AsksRulesIf b m durable s (db_of before) (changed (db_of before) name c) c i k) (named before name k at)
    (kept_at-all (AsksRules m durable s (db_of before) name c i) before name k asks.rules at)

-- the next one to be asked is kept over the database before
pub Asks-at : (m : Meanings) (durable : ℕ → Bool) (root : ℕ) (s : Slots) (gone : List ℕ) (before : List Kept) (name : Name) (c : Change) (i : ℕ) (k : Kept) (d : Attached) → Asks m durable root s gone before name c i →
    kept_at before name ≡ Some k → slice_get k.descriptor.attachments i ≡ Some d → (a : Db.Attached) × (slice_get k.relation.attachments i ≡ Some a) × IsKept m durable s (db_of before) k d a
Asks-at m durable root s gone before name c i k d asks at here =
    SplitRules-at (IsKeptAfter m durable s (changed (db_of before) name c) c k) (IsKept m durable s (db_of before) k) i k.descriptor.attachments k.relation.attachments d here (Rules-at m durable root s gone before name c i k asks at)

pub Asks-length : (m : Meanings) (durable : ℕ → Bool) (root : ℕ) (s : Slots) (gone : List ℕ) (before : List Kept) (name : Name) (c : Change) (i : ℕ) (k : Kept) → Asks m durable root s gone before name c i → kept_at before name ≡ Some k →
    length k.descriptor.attachments ≡ length k.relation.attachments
Asks-length m durable root s gone before name c i k asks at =
    SplitRules-length (IsKeptAfter m durable s (changed (db_of before) name c) c k) (IsKept m durable s (db_of before) k) i k.descriptor.attachments k.relation.attachments (Rules-at m durable root s gone before name c i k asks at)

-- ---- one more of them is asked
-- the content that the call left is that over the changed database
IsKept-asked : (m : Meanings) (durable : ℕ → Bool) (s t : Slots) (before : List Kept) (name : Name) (c : Change) (k : Kept) (d : Attached) (a : Db.Attached) → kept_at before name ≡ Some k → AreLawful (changed (db_of before) name c) →
    (kept : IsKept m durable s (db_of before) k d a) → Holds kept.box (rule_instance (durable k.descriptor.method) k.name k.descriptor d) (owned t d.owner)
    (content_after kept.box (rule_instance (durable k.descriptor.method) k.name k.descriptor d) a.rule (db_of before) a.buckets c) → IsKeptAfter m durable t (changed (db_of before) name c) c k d a
IsKept-asked m durable s t before name c k d a at lawful kept holds = record {
  box = kept.box;
  live = kept.live;
  law = kept.law;
  code = kept.code;
  owner = kept.owner;
  stands = StandsOn-changed kept.box inst a.rule db name c kept.stands lawful;
  holds = subst (λ (n : Name). Holds kept.box inst (owned t d.owner) (content_over kept.box inst a.rule (changed db n c) (next_buckets a.rule c (changed_rows k.relation.rows c) a.buckets))) on
      (subst (λ (rows : Rows). Holds kept.box inst (owned t d.owner) (content_over kept.box inst a.rule (changed db k.name c) (next_buckets a.rule c (changed_rows rows c) a.buckets))) rows holds);
}
  where
    db : Db.Db
    db = db_of before

    inst : Instance
    inst = rule_instance (durable k.descriptor.method) k.name k.descriptor d

    on : k.name ≡ name
    on = kept_at-name before name k at

    rows : rows_at db k.name ≡ k.relation.rows
    rows = ap (rows_at db) on ∙ rows_at-there db name k.relation (relation_at-there before name k at)

-- the tables keep their pages
Tables-next : (m : Meanings) (durable : ℕ → Bool) (root : ℕ) (s t : Slots) (before : List Kept) (name : Name) (c : Change) (k : Kept) (owner : ℕ) → Tables m durable root s (changed_kept name c before) → kept_at before name ≡ Some k →
    IsOf before name owner → (k.descriptor.owner ≡ owner → k.descriptor.owner ≡ 0) → KeepsOthers owner s t → Tables m durable root t (changed_kept name c before)
Tables-next m durable root s t before name c k owner tables at of apart others =
    Tables-pages m durable root s t (changed_kept name c before) (others 2 of.catalogue)
    (All-map StaysAt (change_kept name c) before (All-but (λ x. StaysAt (change_kept name c x)) before name k (rising-before name c before tables.rising) at here (λ i d in' other. elsewhere (get_or before i d) (of.elsewhere i d in' other)))) tables
  where
    StaysAt : Kept → Type 0
    StaysAt x = owned t x.descriptor.owner ≡ owned s x.descriptor.owner

    stays : (x : Kept) → (x.descriptor.owner ≡ owner → x.descriptor.owner ≡ 0) → StaysAt (change_kept name c x)
    stays x apart = subst (λ (o : ℕ). owned t o ≡ owned s o) (sym (change_kept-same (λ y. y.descriptor.owner) name c (λ y. refl) x)) (pages-kept owner x.descriptor.owner s t others apart)

    here : StaysAt (change_kept name c k)
    here = stays k apart

    elsewhere : (x : Kept) → IsApartFrom owner x → StaysAt (change_kept name c x)
    elsewhere x apart = stays x (apart x.descriptor.owner (inl refl))

pub Asks-next : (m : Meanings) (durable : ℕ → Bool) (root : ℕ) (s t : Slots) (gone : List ℕ) (before : List Kept) (name : Name) (c : Change) (i : ℕ) (k : Kept) (d : Attached) (a : Db.Attached) → Asks m durable root s gone before name c i →
    kept_at before name ≡ Some k → slice_get k.descriptor.attachments i ≡ Some d → slice_get k.relation.attachments i ≡ Some a → (kept : IsKept m durable s (db_of before) k d a) → KeepsOthers d.owner s t →
    Holds kept.box (rule_instance (durable k.descriptor.method) k.name k.descriptor d) (owned t d.owner)
    (content_after kept.box (rule_instance (durable k.descriptor.method) k.name k.descriptor d) a.rule (db_of before) a.buckets c) → Asks m durable root t gone before name c (i + 1)
Asks-next m durable root s t gone before name c i k d a asks at placed has kept others holds = record {
  relation = asks.relation;
  there = asks.there;
  suits = asks.suits;
  tables = tables;
  rules = subst (λ (n : ℕ). All (AsksRules m durable t db name c n) before) (sym (add-one i))
      (All-but (AsksRules m durable t db name c (suc i)) before name k rising at here (λ j x in' other. elsewhere (get_or before j x) (of.elsewhere j x in' other) (asks.rules j x in') other));
  joinless = asks.joinless;
  own = Own-others s t (owners_in before) gone owner of.among others asks.own;
}
  where
    db : Db.Db
    db = db_of before

    after : Db.Db
    after = changed db name c

    owner : ℕ
    owner = d.owner

    among : IsAmong owner (map (λ z. z.owner) k.descriptor.attachments)
    among = slice_get-among k.descriptor.attachments i d placed

    of : IsOf before name owner
    of = IsOf-at s gone before name k owner asks.own at (inr among)

    apart : AreApart (owners_of k.descriptor)
    apart = AreApart-of s gone before name k asks.own at

    rising : T (is_sorted bytes_cmp (db_of before))
    rising = rising-before name c before asks.tables.rising

    table_apart : k.descriptor.owner ≡ owner → k.descriptor.owner ≡ 0
    table_apart same = same ∙ All-among (λ o. (o ≡ k.descriptor.owner) → (o ≡ 0)) (map (λ z. z.owner) k.descriptor.attachments) owner apart.0 among (sym same)

    tables : Tables m durable root t (changed_kept name c before)
    tables = Tables-next m durable root s t before name c k owner asks.tables at of table_apart others

    here : AsksRules m durable t db name c (suc i) k
    here = subst (λ b. AsksRulesIf b m durable t db after c (suc i) k) (sym (named before name k at))
        (SplitRules-step (IsKeptAfter m durable s after c k) (IsKept m durable s db k) (IsKeptAfter m durable t after c k) (IsKept m durable t db k) d a
        (λ x y apart_from was. IsKept-pages m durable owner s t after k x (grown c (changed_rows k.relation.rows c) y) others apart_from was)
        (λ x y apart_from was. IsKept-pages m durable owner s t db k x y others apart_from was)
        (IsKept-asked m durable s t before name c k d a at (AreLawful-changed m durable root t before name c tables) kept holds)
        i k.descriptor.attachments k.relation.attachments apart.1 placed has (Rules-at m durable root s gone before name c i k asks at))

    elsewhere : (x : Kept) → IsApartFrom owner x → AsksRules m durable s db name c i x → bytes_eq x.name name ≡ false → AsksRules m durable t db name c (suc i) x
    elsewhere x apart_from rules other = subst (λ b. AsksRulesIf b m durable t db after c (suc i) x) (sym other)
        (KeepsRules-pages m durable owner s t after x others (apart_attached owner x apart_from)
        (subst (λ b. AsksRulesIf b m durable s db after c i x) other rules))

-- ---- the end: all of them were asked
KeepsRules-changed : (m : Meanings) (durable : ℕ → Bool) (s : Slots) (db : Db.Db) (c : Change) (k : Kept) (i : ℕ) → length k.descriptor.attachments ≤ i → (before : Db.Db) → AsksRulesIf true m durable s before db c i k →
    KeepsRules m durable s db (with_changed c k)
KeepsRules-changed m durable s db c k i end before rules =
    EachRule-map (IsKept m durable s db k) (grown c (changed_rows k.relation.rows c)) k.descriptor.attachments k.relation.attachments
    (SplitRules-end (IsKeptAfter m durable s db c k) (IsKept m durable s before k) i k.descriptor.attachments k.relation.attachments end rules)

pub Keeps-asked : (m : Meanings) (durable : ℕ → Bool) (root : ℕ) (s : Slots) (gone : List ℕ) (before : List Kept) (name : Name) (c : Change) (i : ℕ) (k : Kept) → Asks m durable root s gone before name c i → kept_at before name ≡ Some k →
    length k.descriptor.attachments ≤ i → Keeps m durable root s gone (changed_kept name c before)
Keeps-asked m durable root s gone before name c i k asks at end = record {
  tables = asks.tables;
  rules = subst (λ (db : Db.Db). All (KeepsRules m durable s db) (changed_kept name c before)) (sym (db_of-changed name c before rising))
      (All-map (KeepsRules m durable s after) (change_kept name c) before
      (All-but (λ x. KeepsRules m durable s after (change_kept name c x)) before name k rising at here (λ j x in' other. elsewhere (get_or before j x) (asks.rules j x in') other)));
  joinless = joinless-changed name c before asks.joinless;
  own = subst (λ (owners : List ℕ). Own s owners gone) (sym (owners_in-changed name c before)) asks.own;
}
  where
    db : Db.Db
    db = db_of before

    after : Db.Db
    after = changed db name c

    rising : T (is_sorted bytes_cmp (db_of before))
    rising = rising-before name c before asks.tables.rising

    here : KeepsRules m durable s after (change_kept name c k)
    here = subst (KeepsRules m durable s after) (sym (change_kept-named name c k (named before name k at)))
        (KeepsRules-changed m durable s after c k i end db (Rules-at m durable root s gone before name c i k asks at))

    elsewhere : (x : Kept) → AsksRules m durable s db name c i x → bytes_eq x.name name ≡ false → KeepsRules m durable s after (change_kept name c x)
    elsewhere x rules other = subst (KeepsRules m durable s after) (sym (change_kept-other name c x other))
        (subst (λ b. AsksRulesIf b m durable s db after c i x) other rules)

-- ---- a call that changes nothing
pub Keeps-same : (m : Meanings) (durable : ℕ → Bool) (root : ℕ) (s t : Slots) (gone : List ℕ) (kept : List Kept) → ArePages s t → Keeps m durable root s gone kept → Keeps m durable root t gone kept
Keeps-same m durable root s t gone kept same keeps = record {
  tables = Tables-same m durable root s t kept same keeps.tables;
  rules = All-weaker (KeepsRules m durable s (db_of kept)) (KeepsRules m durable t (db_of kept)) (λ k rules. KeepsRules-same m durable s t (db_of kept) k same rules) kept keeps.rules;
  joinless = keeps.joinless;
  own = Own-same s t (owners_in kept) gone same keeps.own;
}

AsksRules-same : (m : Meanings) (durable : ℕ → Bool) (s t : Slots) (before after : Db.Db) (c : Change) (i : ℕ) (k : Kept) → ArePages s t → (b : Bool) → AsksRulesIf b m durable s before after c i k → AsksRulesIf b m durable t before after c i k
AsksRules-same m durable s t before after c i k same true rules =
    SplitRules-weaker (IsKeptAfter m durable s after c k) (IsKept m durable s before k) (IsKeptAfter m durable t after c k) (IsKept m durable t before k) (λ d. Unit {0})
    (λ d a _ was. IsKept-same m durable s t after k d (grown c (changed_rows k.relation.rows c) a) same was) (λ d a _ was. IsKept-same m durable s t before k d a same was)
    i k.descriptor.attachments k.relation.attachments (λ j d in'. tt) rules
AsksRules-same m durable s t before after c i k same false rules = KeepsRules-same m durable s t after k same rules

pub Asks-same : (m : Meanings) (durable : ℕ → Bool) (root : ℕ) (s t : Slots) (gone : List ℕ) (before : List Kept) (name : Name) (c : Change) (i : ℕ) → ArePages s t → Asks m durable root s gone before name c i → Asks m durable root t gone before name c i
Asks-same m durable root s t gone before name c i same asks = record {
  relation = asks.relation;
  there = asks.there;
  suits = asks.suits;
  tables = Tables-same m durable root s t (changed_kept name c before) same asks.tables;
  rules = All-weaker (AsksRules m durable s (db_of before) name c i) (AsksRules m durable t (db_of before) name c i)
      (λ k rules. AsksRules-same m durable s t (db_of before) (changed (db_of before) name c) c i k same (bytes_eq k.name name) rules) before asks.rules;
  joinless = asks.joinless;
  own = Own-same s t (owners_in before) gone same asks.own;
}
