-- Rules that go.
use Rattle.std.proofs.Common.{◌≡◌, ℕ, suc, ◌+◌, ◌≤◌, ◌==◌, Bool, true, false, cond, not, ◌&&◌, List, [], ◌∷◌, ◌++◌, map, filter, length, bytes_eq, refl, ap, arith}
use Rattle.std.specs.List.{list_all}
use Rattle.std.specs.FinMap.Entries.{put}
use Rattle.std.proofs.lemmas.Bool.{and_parts}
use Rattle.std.proofs.lemmas.List.Elements.{All-head, All-append, All-filter, All-map}
use Rattle.std.proofs.lemmas.List.Sums.{length-filter, count_by-le-length}
use Rattle.sb_rule.specs.declared.rule.Rule.{Rule}
use Rattle.sb_relation.specs.Db
use Rattle.sb_relation.specs.Db.{Name}
use Rattle.sb_rows.specs.Boxes.{Meanings}
use Rattle.sb_rows.specs.Slots.{Slots, owned}
use Rattle.sb_catalog.specs.declared.descriptor.Attached.{Attached}
use Rattle.sb_catalog.specs.Descriptors.{described, standing, IsStorableDescriptor, IsStorableAttached}
use Rattle.sb_standing.specs.Tables.{Kept, db_of, put_kept, KeepsTable}
use Rattle.sb_standing.specs.Standing.{EachRule, IsKept, KeepsRules, is_join, has_no_join, without_described, without_named, detached_kept, owners_named, IsOwner, owners_in, HasPage, Keeps}
use Rattle.sb_standing.specs.TableLaws.{Detaches}
use Rattle.sb_standing.proofs.KeptLemmas.{kept_at-all}
use Rattle.sb_standing.proofs.TimesLemmas.{times, times-append, times_of}
use Rattle.sb_standing.proofs.FrameLemmas.{All-left, KeepsTable-same, pages-rules}
use Rattle.sb_standing.proofs.GivenLemmas.{Own-moved}
use Rattle.sb_standing.proofs.RelationLemmas.{same-others}
use Rattle.sb_standing.proofs.RuleLemmas.{Stays, heads, tails, Reset, KeepsRules-retaken, Keeps-reset, times-reset}

-- ---- both sides lose the attachments of a name
same_label : (label : Name) (x : Attached) (y : Db.Attached) → described x ≡ standing y → not (bytes_eq x.name label) ≡ not (bytes_eq y.name label)
same_label label x y one = ap (λ (e : ℕ × Name × Rule). not (bytes_eq e.1 label)) one

pub described-without : (label : Name) (ds : List Attached) (others : List Db.Attached) → map described ds ≡ map standing others →
    map described (without_described label ds) ≡ map standing (without_named label others)
described-without label [] [] same = refl
described-without label (x ∷ ds) [] same = absurd (cc)
described-without label [] (y ∷ others) same = absurd (cc)
described-without label (x ∷ ds) (y ∷ others) same =
    let one = heads (described x) (standing y) (map described ds) (map standing others) same in
    by (not (bytes_eq x.name label)) (not (bytes_eq y.name label)) (same_label label x y one) one (described-without label ds others (tails (described x) (standing y) (map described ds) (map standing others) same))
  where
    by : (b c : Bool) → b ≡ c → described x ≡ standing y → map described (without_described label ds) ≡ map standing (without_named label others)
        → map described (cond b (x ∷ without_described label ds) (without_described label ds)) ≡ map standing (cond c (y ∷ without_named label others) (without_named label others))
    by true true e one more = λ i. one i ∷ more i
    by false false e one more = more
    by true false e one more = absurd (cc)
    by false true e one more = absurd (cc)

pub EachRule-without : (P : Attached → Db.Attached → Type 0) (label : Name) (ds : List Attached) (others : List Db.Attached) → map described ds ≡ map standing others → EachRule P ds others →
    EachRule P (without_described label ds) (without_named label others)
EachRule-without P label [] [] same each = tt
EachRule-without P label (x ∷ ds) [] same each = absurd each
EachRule-without P label [] (y ∷ others) same each = absurd each
EachRule-without P label (x ∷ ds) (y ∷ others) same each =
    by (not (bytes_eq x.name label)) (not (bytes_eq y.name label)) (same_label label x y (heads (described x) (standing y) (map described ds) (map standing others) same))
    (EachRule-without P label ds others (tails (described x) (standing y) (map described ds) (map standing others) same) each.1)
  where
    by : (b c : Bool) → b ≡ c → EachRule P (without_described label ds) (without_named label others)
        → EachRule P (cond b (x ∷ without_described label ds) (without_described label ds)) (cond c (y ∷ without_named label others) (without_named label others))
    by true true e more = (each.0, more)
    by false false e more = more
    by true false e more = absurd (cc)
    by false true e more = absurd (cc)

no_join-without : (test : Db.Attached → Bool) (others : List Db.Attached) → list_all (λ (x : Db.Attached). not (is_join x.rule)) others ≡ true →
    list_all (λ (x : Db.Attached). not (is_join x.rule)) (filter test others) ≡ true
no_join-without test [] all = refl
no_join-without test (y ∷ others) all =
    let parts = and_parts (not (is_join y.rule)) (list_all (λ (x : Db.Attached). not (is_join x.rule)) others) all in
    elim (test y) as (λ b. list_all (λ (x : Db.Attached). not (is_join x.rule)) (cond b (y ∷ filter test others) (filter test others)) ≡ true) [
      | true ↦ λ i. parts.0 i && no_join-without test others parts.1 i
      | false ↦ no_join-without test others parts.1
    ]

-- its descriptor can be stored too
storable-without : (label : Name) (k : Kept) → IsStorableDescriptor k.descriptor → IsStorableDescriptor (detached_kept label k).descriptor
storable-without label k storable =
    let test : Attached → Bool = λ d. not (bytes_eq d.name label) in
    let less : length (filter test k.descriptor.attachments) ≤ 255 = omega (arith, storable.attachments.0, length-filter test k.descriptor.attachments, count_by-le-length test k.descriptor.attachments) in
    record { instance = storable.instance; columns = storable.columns; key = storable.key; attachments = (less, All-filter test IsStorableAttached k.descriptor.attachments storable.attachments.1) }

-- ---- their owners
times-split : (o : ℕ) (label : Name) (ds : List Attached) →
    times o (map (λ a. a.owner) (without_described label ds)) + times o (map (λ a. a.owner) (filter (λ d. bytes_eq d.name label) ds)) ≡ times o (map (λ a. a.owner) ds)
times-split o label [] = omega arith
times-split o label (x ∷ ds) =
    let rest = times-split o label ds in
    elim (bytes_eq x.name label)
    as (λ b. times o (map (λ a. a.owner) (cond (not b) (x ∷ without_described label ds) (without_described label ds)))
    + times o (map (λ a. a.owner) (cond b (x ∷ filter (λ d. bytes_eq d.name label) ds) (filter (λ d. bytes_eq d.name label) ds))) ≡ times o (x.owner ∷ map (λ a. a.owner) ds)) [
      | true ↦ right (o == x.owner) (times o (map (λ a. a.owner) (without_described label ds))) (times o (map (λ a. a.owner) (filter (λ d. bytes_eq d.name label) ds))) (times o (map (λ a. a.owner) ds)) rest
      | false ↦ left (o == x.owner) (times o (map (λ a. a.owner) (without_described label ds))) (times o (map (λ a. a.owner) (filter (λ d. bytes_eq d.name label) ds))) (times o (map (λ a. a.owner) ds)) rest
    ]
  where
    right : (b : Bool) (p q r : ℕ) → p + q ≡ r → p + cond b (suc q) q ≡ cond b (suc r) r
    right true p q r e = omega arith
    right false p q r e = e

    left : (b : Bool) (p q r : ℕ) → p + q ≡ r → cond b (suc p) p + q ≡ cond b (suc r) r
    left true p q r e = omega arith
    left false p q r e = e

times-detached : (o : ℕ) (label : Name) (k : Kept) → times_of o (detached_kept label k) + times o (owners_named label k.descriptor) ≡ times_of o k
times-detached o label k =
    left (o == k.descriptor.owner) (times o (map (λ a. a.owner) (without_described label k.descriptor.attachments))) (times o (owners_named label k.descriptor)) (times o (map (λ a. a.owner) k.descriptor.attachments))
    (times-split o label k.descriptor.attachments)
  where
    left : (b : Bool) (p q r : ℕ) → p + q ≡ r → cond b (suc p) p + q ≡ cond b (suc r) r
    left true p q r e = omega arith
    left false p q r e = e

-- ---- what stands
Reset-detached : (m : Meanings) (durable : ℕ → Bool) (root : ℕ) (s t : Slots) (gone : List ℕ) (kept : List Kept) (k : Kept) (label : Name) → Keeps m durable root s gone kept → Detaches root s t kept k label →
    Reset m durable root s t kept k (detached_kept label k)
Reset-detached m durable root s t gone kept k label keeps detaches =
    let stays = same-others s t kept detaches.others (All-left IsOwner (owners_in kept) gone keeps.own.each) in
    let IsSame : ℕ → Type 0 = λ o. owned t o ≡ owned s o in
    let same = kept_at-all (Stays s t) kept k.name k stays detaches.there in
    let table = KeepsTable-same m durable s t k (All-head IsSame k.descriptor.owner (map (λ a. a.owner) k.descriptor.attachments) same) (kept_at-all (KeepsTable m durable s) kept k.name k keeps.tables.each detaches.there) in
    record {
      takes = record { there = detaches.there; schema = refl; rows = refl };
      stays = stays;
      table = record {
        is = record { method = table.is.method; schema = table.is.schema; key = table.is.key; attachments = described-without label k.descriptor.attachments k.relation.attachments table.is.attachments };
        storable = storable-without label k table.storable;
        named = table.named;
        wide = table.wide;
        rows = table.rows;
      };
      catalogue = detaches.catalogue;
    }

pub Keeps-detached : (m : Meanings) (durable : ℕ → Bool) (root : ℕ) (s t : Slots) (gone : List ℕ) (kept : List Kept) (k : Kept) (label : Name) → Keeps m durable root s gone kept → Detaches root s t kept k label →
    Keeps m durable root t (gone ++ owners_named label k.descriptor) (put_kept (detached_kept label k) kept)
Keeps-detached m durable root s t gone kept k label keeps detaches =
    let new = detached_kept label k in
    let aside = gone ++ owners_named label k.descriptor in
    let db = db_of kept in
    let after = db_of (put_kept new kept) in
    let reset = Reset-detached m durable root s t gone kept k label keeps detaches in
    let table = kept_at-all (KeepsTable m durable s) kept k.name k keeps.tables.each detaches.there in
    let had = kept_at-all (KeepsRules m durable s db) kept k.name k keeps.rules detaches.there in
    let rules = KeepsRules-retaken m durable s t kept k new k reset.takes (kept_at-all (Stays s t) kept k.name k reset.stays detaches.there) had in
    let IsNamed : Attached → Bool = λ d. bytes_eq d.name label in
    Keeps-reset m durable root s t gone aside kept k new keeps reset
    (EachRule-without (IsKept m durable t after k) label k.descriptor.attachments k.relation.attachments table.is.attachments rules)
    (no_join-without (λ a. not (bytes_eq a.name label)) k.relation.attachments (kept_at-all (λ (o : Kept). has_no_join o ≡ true) kept k.name k keeps.joinless detaches.there))
    (Own-moved s t (owners_in kept) gone (owners_in (put_kept new kept)) aside keeps.own (λ o some. detaches.others o (λ two. absurd (omega (arith, some, two))))
    (All-append (HasPage s) gone (owners_named label k.descriptor) keeps.own.left
    (All-map (HasPage s) (λ (d : Attached). d.owner) (filter IsNamed k.descriptor.attachments) (All-filter IsNamed (λ (d : Attached). HasPage s d.owner) k.descriptor.attachments (pages-rules m durable s db k had))))
    (λ o. moved (times o (owners_in (put_kept new kept))) (times_of o k) (times_of o new) (times o (owners_in kept)) (times o (owners_named label k.descriptor)) (times o gone) (times o aside)
    (times o (owners_in (put_kept new kept) ++ aside)) (times o (owners_in kept ++ gone))
    (times-reset o kept k new keeps.tables.rising detaches.there) (times-detached o label k) (times-append o gone (owners_named label k.descriptor))
    (times-append o (owners_in (put_kept new kept)) aside) (times-append o (owners_in kept) gone)))
  where
    moved : (p q r u v w z x y : ℕ) → p + q ≡ r + u → r + v ≡ q → z ≡ w + v → x ≡ p + z → y ≡ u + w → x ≡ y
    moved p q r u v w z x y put new aside front back = omega arith
