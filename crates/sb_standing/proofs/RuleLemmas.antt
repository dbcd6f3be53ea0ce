-- Rules that come and go.
use Rattle.std.proofs.Common.{◌≡◌, ℕ, suc, ◌+◌, ◌==◌, nat_le, Bool, true, false, cond, not, ◌&&◌, T, List, [], ◌∷◌, ◌++◌, map, All, Option, Some, None, bytes_eq, refl, sym, ap, subst, ◌∙◌, arith}
use Rattle.std.specs.List.{list_all}
use Rattle.std.specs.FinMap.Entries.{put, is_sorted}
use Rattle.std.proofs.lemmas.Bool.{and_parts}
use Rattle.std.proofs.lemmas.List.Elements.{All-head}
use Rattle.sb_value.specs.Equal.{bytes_same}
use Rattle.sb_value.specs.Order.{bytes_cmp}
use Rattle.sb_node.specs.Entries.{key_cmp}
use Rattle.sb_rule.specs.declared.rule.Rule.{Rule}
use Rattle.sb_rule.specs.Spelling.{rule_code}
use Rattle.sb_relation.specs.Build.{with_instance, with_attached, with_rule, with_mirror, mirror_of}
use Rattle.sb_relation.specs.Buckets.{standing_buckets}
use Rattle.sb_relation.specs.Db
use Rattle.sb_relation.specs.Db.{Name, Relation, Db, relation_at, with_relation}
use Rattle.sb_rows.specs.Maps.{map_in}
use Rattle.sb_rows.specs.Boxes.{Meanings}
use Rattle.sb_rows.specs.Slots.{Slots, owned}
use Rattle.sb_catalog.specs.declared.descriptor.Attached.{Attached}
use Rattle.sb_catalog.specs.Descriptors.{descriptor_spelling, described, standing}
use Rattle.sb_standing.specs.Instances.{owners_of, rule_instance}
use Rattle.sb_standing.specs.Tables.{Kept, entry_of, db_of, kept_at, put_kept, KeepsTable, Tables}
use Rattle.sb_standing.specs.Standing.{EachRule, IsKept, KeepsRules, is_join, has_no_join, with_described, attached_kept, owners_in, Own, Keeps}
use Rattle.sb_standing.specs.TableLaws.{Attaches}
use Rattle.sb_standing.proofs.KeptLemmas.{relation_at-there, kept_at-all}
use Rattle.sb_standing.proofs.PutLemmas.{db_of-put, entries-put, rising-put, All-put}
use Rattle.sb_standing.proofs.TimesLemmas.{times, times-append, times_of, of_kept, times-put}
use Rattle.sb_standing.proofs.FrameLemmas.{All-any, All-both, KeepsTable-same, pages-all}
use Rattle.sb_standing.proofs.AlikeLemmas.{AreAlike, IsAlike, alike-itself, KeepsRule-all_alike}
use Rattle.sb_standing.proofs.GivenLemmas.{Own-comes}
use Rattle.sb_standing.proofs.RelationLemmas.{relation_at-put, KeepsRules-by, same-came}

-- ---- a relation with other attachments
-- it takes the place of the one of its name, with the same rows and columns
pub record Retakes (kept : List Kept) (k new : Kept) : Type 0 where
  pub there : kept_at kept new.name ≡ Some k
  pub schema : new.relation.schema ≡ k.relation.schema
  pub rows : new.relation.rows ≡ k.relation.rows

pub IsAlike-retaken : (kept : List Kept) (k new : Kept) → Retakes kept k new → (name : Name) → IsAlike (db_of kept) (db_of (put_kept new kept)) name
IsAlike-retaken kept k new takes name = record { alike = subst (λ (o : Option Relation). AreAlike (relation_at (db_of kept) name) o) (sym (relation_at-put new kept name)) (by (bytes_eq new.name name) refl) }
  where
    by : (b : Bool) → bytes_eq new.name name ≡ b → AreAlike (relation_at (db_of kept) name) (cond b (Some new.relation) (relation_at (db_of kept) name))
    by true same =
        let there : relation_at (db_of kept) name ≡ Some k.relation = ap (relation_at (db_of kept)) (sym ((bytes_same new.name name).0 same)) ∙ relation_at-there kept new.name k takes.there in
        subst (λ (o : Option Relation). AreAlike o (Some new.relation)) (sym there) (takes.schema, takes.rows)
    by false other = alike-itself (relation_at (db_of kept) name)

-- a rule that is kept over the database before is kept over the one with other attachments
pub IsKept-retaken : (m : Meanings) (durable : ℕ → Bool) (s : Slots) (kept : List Kept) (k new o : Kept) (d : Attached) (a : Db.Attached) → Retakes kept k new →
    IsKept m durable s (db_of kept) o d a → IsKept m durable s (db_of (put_kept new kept)) o d a
IsKept-retaken m durable s kept k new o d a takes keeps =
    KeepsRule-all_alike m s (rule_instance (durable o.descriptor.method) o.name o.descriptor d) a (db_of kept) (db_of (put_kept new kept)) (IsAlike-retaken kept k new takes) keeps

abbrev pub Stays : Slots → Slots → Kept → Type 0
Stays s t k = All (λ o. owned t o ≡ owned s o) (owners_of k.descriptor)

-- the rules of a relation over it, where their pages stay
pub KeepsRules-retaken : (m : Meanings) (durable : ℕ → Bool) (s t : Slots) (kept : List Kept) (k new o : Kept) → Retakes kept k new → Stays s t o →
    KeepsRules m durable s (db_of kept) o → KeepsRules m durable t (db_of (put_kept new kept)) o
KeepsRules-retaken m durable s t kept k new o takes same rules =
    KeepsRules-by m durable s t (db_of kept) (db_of (put_kept new kept)) o (λ a. Unit {0}) (λ d a any keeps. IsKept-retaken m durable s kept k new o d a takes keeps) same (All-any o.relation.attachments) rules

-- what stands where a relation has other attachments
pub record Reset (m : Meanings) (durable : ℕ → Bool) (root : ℕ) (s t : Slots) (kept : List Kept) (k new : Kept) : Type 0 where
  pub takes : Retakes kept k new
  pub stays : All (Stays s t) kept
  pub table : KeepsTable m durable t new
  pub catalogue : map_in root (owned t 2) ≡ Some (put key_cmp new.name (descriptor_spelling new.descriptor) (map entry_of kept))

pub Tables-reset : (m : Meanings) (durable : ℕ → Bool) (root : ℕ) (s t : Slots) (kept : List Kept) (k new : Kept) → Tables m durable root s kept → Reset m durable root s t kept k new →
    Tables m durable root t (put_kept new kept)
Tables-reset m durable root s t kept k new tables reset = record {
  rising = rising-put new kept tables.rising;
  catalogue = reset.catalogue ∙ ap Some (sym (entries-put new kept));
  each =
      let IsSame : ℕ → Type 0 = λ o. owned t o ≡ owned s o in
      All-put (KeepsTable m durable t) new kept reset.table
      (All-both (Stays s t) (KeepsTable m durable s) (KeepsTable m durable t)
      (λ o same table. KeepsTable-same m durable s t o (All-head IsSame o.descriptor.owner (map (λ a. a.owner) o.descriptor.attachments) same) table) kept
      reset.stays tables.each);
}

pub Keeps-reset : (m : Meanings) (durable : ℕ → Bool) (root : ℕ) (s t : Slots) (gone aside : List ℕ) (kept : List Kept) (k new : Kept) → Keeps m durable root s gone kept → Reset m durable root s t kept k new →
    KeepsRules m durable t (db_of (put_kept new kept)) new → has_no_join new ≡ true → Own t (owners_in (put_kept new kept)) aside → Keeps m durable root t aside (put_kept new kept)
Keeps-reset m durable root s t gone aside kept k new keeps reset rules joinless own =
    record {
      tables = Tables-reset m durable root s t kept k new keeps.tables reset;
      rules = All-put (KeepsRules m durable t (db_of (put_kept new kept))) new kept rules
          (All-both (Stays s t) (KeepsRules m durable s (db_of kept)) (KeepsRules m durable t (db_of (put_kept new kept))) (λ o same rules. KeepsRules-retaken m durable s t kept k new o reset.takes same rules) kept
          reset.stays keeps.rules);
      joinless = All-put (λ (o : Kept). has_no_join o ≡ true) new kept joinless keeps.joinless;
      own = own;
    }

-- how often an owner is there after it
pub times-reset : (o : ℕ) (kept : List Kept) (k new : Kept) → T (is_sorted bytes_cmp (db_of kept)) → kept_at kept new.name ≡ Some k →
    times o (owners_in (put_kept new kept)) + times_of o k ≡ times_of o new + times o (owners_in kept)
times-reset o kept k new rising there = subst (λ n. times o (owners_in (put_kept new kept)) + n ≡ times_of o new + times o (owners_in kept)) (ap (of_kept (times_of o)) there) (times-put o new kept rising)

-- ---- an attachment that comes
-- both sides have it in one place
described_first : (x d : Attached) (y a : Db.Attached) → described x ≡ standing y → described d ≡ standing a → nat_le x.code d.code ≡ nat_le (rule_code y.rule) (rule_code a.rule)
described_first x d y a one two = λ i. nat_le (ap (λ (e : ℕ × Name × Rule). e.0) one i) (ap (λ (e : ℕ × Name × Rule). e.0) two i)

pub heads : {X : Type 0} (x y : X) (xs ys : List X) → x ∷ xs ≡ y ∷ ys → x ≡ y
heads x y xs ys e = cc

pub tails : {X : Type 0} (x y : X) (xs ys : List X) → x ∷ xs ≡ y ∷ ys → xs ≡ ys
tails x y xs ys e = cc

pub described-with : (d : Attached) (a : Db.Attached) (ds : List Attached) (others : List Db.Attached) → described d ≡ standing a → map described ds ≡ map standing others →
    map described (with_described d ds) ≡ map standing (with_instance a others)
described-with d a [] [] new same = ap (λ e. e ∷ []) new
described-with d a (x ∷ ds) [] new same = absurd (cc)
described-with d a [] (y ∷ others) new same = absurd (cc)
described-with d a (x ∷ ds) (y ∷ others) new same =
    let one = heads (described x) (standing y) (map described ds) (map standing others) same in
    let rest = tails (described x) (standing y) (map described ds) (map standing others) same in
    by (nat_le x.code d.code) (nat_le (rule_code y.rule) (rule_code a.rule)) (described_first x d y a one new) one (described-with d a ds others new rest) rest
  where
    by : (b c : Bool) → b ≡ c → described x ≡ standing y → map described (with_described d ds) ≡ map standing (with_instance a others) → map described ds ≡ map standing others
        → map described (cond b (x ∷ with_described d ds) (d ∷ x ∷ ds)) ≡ map standing (cond c (y ∷ with_instance a others) (a ∷ y ∷ others))
    by true true e one more rest = λ i. one i ∷ more i
    by false false e one more rest = λ i. new i ∷ one i ∷ rest i
    by true false e one more rest = absurd (cc)
    by false true e one more rest = absurd (cc)

pub EachRule-with : (P : Attached → Db.Attached → Type 0) (d : Attached) (a : Db.Attached) (ds : List Attached) (others : List Db.Attached) → described d ≡ standing a → map described ds ≡ map standing others →
    P d a → EachRule P ds others →
    EachRule P (with_described d ds) (with_instance a others)
EachRule-with P d a [] [] new same is each = (is, tt)
EachRule-with P d a (x ∷ ds) [] new same is each = absurd each
EachRule-with P d a [] (y ∷ others) new same is each = absurd each
EachRule-with P d a (x ∷ ds) (y ∷ others) new same is each =
    by (nat_le x.code d.code) (nat_le (rule_code y.rule) (rule_code a.rule)) (described_first x d y a (heads (described x) (standing y) (map described ds) (map standing others) same) new)
    (EachRule-with P d a ds others new (tails (described x) (standing y) (map described ds) (map standing others) same) is each.1)
  where
    by : (b c : Bool) → b ≡ c → EachRule P (with_described d ds) (with_instance a others) → EachRule P (cond b (x ∷ with_described d ds) (d ∷ x ∷ ds)) (cond c (y ∷ with_instance a others) (a ∷ y ∷ others))
    by true true e more = (each.0, more)
    by false false e more = (is, each)
    by true false e more = absurd (cc)
    by false true e more = absurd (cc)

-- one owner more
times-described : (o : ℕ) (d : Attached) (ds : List Attached) → times o (map (λ a. a.owner) (with_described d ds)) ≡ times o (d.owner ∷ []) + times o (map (λ a. a.owner) ds)
times-described o d [] = omega arith
times-described o d (x ∷ ds) =
    elim (nat_le x.code d.code) as (λ b. times o (map (λ a. a.owner) (cond b (x ∷ with_described d ds) (d ∷ x ∷ ds))) ≡ times o (d.owner ∷ []) + times o (x.owner ∷ map (λ a. a.owner) ds)) [
      | true ↦ later (o == x.owner) (times o (map (λ a. a.owner) (with_described d ds))) (times o (d.owner ∷ [])) (times o (map (λ a. a.owner) ds)) (times-described o d ds)
      | false ↦ first (o == d.owner) (times o (x.owner ∷ map (λ a. a.owner) ds))
    ]
  where
    later : (b : Bool) (p q r : ℕ) → p ≡ q + r → cond b (suc p) p ≡ q + cond b (suc r) r
    later true p q r e = omega arith
    later false p q r e = e

    first : (b : Bool) (n : ℕ) → cond b (suc n) n ≡ cond b (suc 0) 0 + n
    first true n = omega arith
    first false n = omega arith

times-attached : (o : ℕ) (d : Attached) (a : Db.Attached) (k : Kept) → times_of o (attached_kept d a k) ≡ times o (d.owner ∷ []) + times_of o k
times-attached o d a k =
    later (o == k.descriptor.owner) (times o (map (λ a. a.owner) (with_described d k.descriptor.attachments))) (times o (d.owner ∷ [])) (times o (map (λ a. a.owner) k.descriptor.attachments))
    (times-described o d k.descriptor.attachments)
  where
    later : (b : Bool) (p q r : ℕ) → p ≡ q + r → cond b (suc p) p ≡ q + cond b (suc r) r
    later true p q r e = omega arith
    later false p q r e = e

no_join-with : (a : Db.Attached) (others : List Db.Attached) → is_join a.rule ≡ false → list_all (λ (x : Db.Attached). not (is_join x.rule)) others ≡ true →
    list_all (λ (x : Db.Attached). not (is_join x.rule)) (with_instance a others) ≡ true
no_join-with a [] is all = ap (λ b. not b && true) is
no_join-with a (y ∷ others) is all =
    elim (nat_le (rule_code y.rule) (rule_code a.rule)) as (λ b. list_all (λ (x : Db.Attached). not (is_join x.rule)) (cond b (y ∷ with_instance a others) (a ∷ y ∷ others)) ≡ true) [
      | true ↦ both (not (is_join y.rule)) _ (and_parts (not (is_join y.rule)) _ all).0 (no_join-with a others is (and_parts (not (is_join y.rule)) _ all).1)
      | false ↦ both (not (is_join a.rule)) _ (ap not is) all
    ]
  where
    both : (b c : Bool) → b ≡ true → c ≡ true → (b && c) ≡ true
    both b c one two = λ i. one i && two i

Reset-attached : (m : Meanings) (durable : ℕ → Bool) (root : ℕ) (s t : Slots) (gone : List ℕ) (kept : List Kept) (k : Kept) (d : Attached) (a : Db.Attached) → Keeps m durable root s gone kept →
    Attaches m durable root s t kept k d a →
    Reset m durable root s t kept k (attached_kept d a k)
Reset-attached m durable root s t gone kept k d a keeps attaches =
    let stays = same-came m durable root s t gone kept d.owner keeps attaches.comes in
    let IsSame : ℕ → Type 0 = λ o. owned t o ≡ owned s o in
    let same = kept_at-all (Stays s t) kept k.name k stays attaches.there in
    let table = KeepsTable-same m durable s t k (All-head IsSame k.descriptor.owner (map (λ a. a.owner) k.descriptor.attachments) same) (kept_at-all (KeepsTable m durable s) kept k.name k keeps.tables.each attaches.there) in
    record {
      takes = record { there = attaches.there; schema = refl; rows = refl };
      stays = stays;
      table = record {
        is = record { method = table.is.method; schema = table.is.schema; key = table.is.key; attachments = described-with d a k.descriptor.attachments k.relation.attachments attaches.is table.is.attachments };
        storable = attaches.storable;
        named = table.named;
        wide = table.wide;
        rows = table.rows;
      };
      catalogue = attaches.catalogue;
    }

pub Keeps-attached : (m : Meanings) (durable : ℕ → Bool) (root : ℕ) (s t : Slots) (gone : List ℕ) (kept : List Kept) (k : Kept) (d : Attached) (a : Db.Attached) → Keeps m durable root s gone kept →
    Attaches m durable root s t kept k d a →
    Keeps m durable root t gone (put_kept (attached_kept d a k) kept)
Keeps-attached m durable root s t gone kept k d a keeps attaches =
    let new = attached_kept d a k in
    let after = db_of (put_kept new kept) in
    let reset = Reset-attached m durable root s t gone kept k d a keeps attaches in
    let rules = KeepsRules-retaken m durable s t kept k new k reset.takes (kept_at-all (Stays s t) kept k.name k reset.stays attaches.there)
    (kept_at-all (KeepsRules m durable s (db_of kept)) kept k.name k keeps.rules attaches.there) in
    Keeps-reset m durable root s t gone gone kept k new keeps reset
    (EachRule-with (IsKept m durable t after k) d a k.descriptor.attachments k.relation.attachments attaches.is
    (kept_at-all (KeepsTable m durable s) kept k.name k keeps.tables.each attaches.there).is.attachments attaches.keeps rules)
    (no_join-with a k.relation.attachments attaches.joinless (kept_at-all (λ (o : Kept). has_no_join o ≡ true) kept k.name k keeps.joinless attaches.there))
    (Own-comes s t (owners_in kept) gone (owners_in (put_kept new kept)) d.owner keeps.own (pages-all m durable root s gone kept keeps) attaches.comes
    (λ o. more (times o (owners_in (put_kept new kept))) (times_of o k) (times_of o new) (times o (owners_in kept)) (times o (d.owner ∷ [])) (times o gone)
    (times o (owners_in (put_kept new kept) ++ gone)) (times o (owners_in kept ++ gone))
    (times-reset o kept k new keeps.tables.rising attaches.there) (times-attached o d a k) (times-append o (owners_in (put_kept new kept)) gone) (times-append o (owners_in kept) gone)))
  where
    more : (p q r u v w x y : ℕ) → p + q ≡ r + u → r ≡ v + q → x ≡ p + w → y ≡ u + w → x ≡ v + y
    more p q r u v w x y put new front back = omega arith

-- a rule that is kept over the database without it is kept over the one with it
pub IsKept-attached : (m : Meanings) (durable : ℕ → Bool) (s : Slots) (kept : List Kept) (k : Kept) (d : Attached) (a : Db.Attached) → kept_at kept k.name ≡ Some k →
    IsKept m durable s (db_of kept) k d a → IsKept m durable s (db_of (put_kept (attached_kept d a k) kept)) k d a
IsKept-attached m durable s kept k d a there keeps = IsKept-retaken m durable s kept k (attached_kept d a k) k d a (record { there = there; schema = refl; rows = refl }) keeps

-- ---- the database with the rule
pub db_of-attached : (kept : List Kept) (k : Kept) (d : Attached) (a : Db.Attached) → kept_at kept k.name ≡ Some k → a.buckets ≡ standing_buckets a.rule k.relation.rows →
    db_of (put_kept (attached_kept d a k) kept) ≡ with_attached (db_of kept) k.name a.name a.rule
db_of-attached kept k d a there counted =
    let with_it : ℕ → Relation → Db = λ buckets r.
    with_relation (db_of kept) k.name (record r { attachments = with_instance (record { name = a.name; rule = a.rule; buckets = buckets }) r.attachments }) in
    db_of-put (attached_kept d a k) kept ∙ (λ i. with_it (counted i) k.relation)
    ∙ sym (ap (λ (o : Option Relation). elim o as (λ _. Db) [ None ↦ db_of kept | Some r ↦ with_it (standing_buckets a.rule r.rows) r ]) (relation_at-there kept k.name k there))

-- it is the whole one where the rule has no mirror
pub with_rule-alone : (db : Db) (relation name : Name) (rule : Rule) → mirror_of relation rule ≡ None → with_rule db relation name rule ≡ with_attached db relation name rule
with_rule-alone db relation name rule single = ap (λ (o : Option (Name × Rule)). with_mirror (with_attached db relation name rule) relation name o) single
