-- Attachments by their names, when some come and go.
use Rattle.std.proofs.Common.{◌≡◌, ℕ, suc, ◌≤◌, arith, length, Bool, true, false, cond, not, true≢false, List, [], ◌∷◌, All, get_or, Option, Some, None, bytes_eq, refl, sym, ap, subst, ◌∙◌}
use Rattle.std.specs.Prelude.{filter, nat_le}
use Rattle.std.specs.List.{find}
use Rattle.std.proofs.lemmas.List.Elements.{All-cons, All-filter, All-head, All-tail, filter_passes}
use Rattle.std.proofs.lemmas.Option.{same_Some}
use Rattle.sb_value.specs.Equal.{bytes_same}
use Rattle.sb_rule.specs.declared.rule.Rule.{Rule}
use Rattle.sb_rule.specs.Spelling.{rule_code}
use Rattle.sb_relation.specs.Build.{with_attached, with_instance}
use Rattle.sb_relation.specs.Buckets.{standing_buckets}
use Rattle.sb_relation.specs.Db.{Name, Attached, Relation, Db, relation_at, with_relation}
use Rattle.sb_fold.specs.Building.{rule_at, without_attached}
use Rattle.sb_fold.specs.Fold.{attachments_at}
use Rattle.sb_deferred.proofs.RelationLemmas.{attachments_of, relation_other, relation_same}
use Rattle.sb_tables.specs.Working.{AreNamedApart}
use Rattle.sb_building.specs.Attaching.{new_attached}

-- ---- names
pub names_same : (a b : Name) → bytes_eq a b ≡ true → a ≡ b
names_same a b is = (bytes_same a b).0 is

pub names_itself : (a : Name) → bytes_eq a a ≡ true
names_itself a = (bytes_same a a).1 refl

-- ---- one that is found
pub found-all : (P : Attached → Type 0) (test : Attached → Bool) (items : List Attached) (a : Attached) → All P items → find test items ≡ Some a → P a
found-all P test [] a all is = absurd (cc)
found-all P test (x ∷ items) a all is = by (test x) is (found-all P test items a (All-tail P x items all))
  where
    by : (b : Bool) → cond b (Some x) (find test items) ≡ Some a → (find test items ≡ Some a → P a) → P a
    by true here rest = subst P (same_Some x a here) (All-head P x items all)
    by false there rest = rest there

-- ---- one comes
abbrev Finds : (Attached → Bool) → Attached → List Attached → Type 0
Finds test new items = (test new ≡ true → find test items ≡ None) → find test (with_instance new items) ≡ cond (test new) (Some new) (find test items)

find-with : (test : Attached → Bool) (new : Attached) (items : List Attached) → (test new ≡ true → find test items ≡ None) → find test (with_instance new items) ≡ cond (test new) (Some new) (find test items)
find-with test new [] none = refl
find-with test new (x ∷ items) none = by (nat_le (rule_code x.rule) (rule_code new.rule)) (test x) refl (λ free. find-with test new items free)
  where
    apart : Finds test new items → (b : Bool) → (test new ≡ true → cond b (Some x) (find test items) ≡ None) → (c : Bool) → test new ≡ c → cond b (Some x) (find test (with_instance new items)) ≡ cond c (Some new) (cond b (Some x) (find test items))
    apart rest true none true is = absurd (let e = none is in cc)
    apart rest true none false is = refl
    apart rest false none true is = rest none ∙ ap (λ c. cond c (Some new) (find test items)) is
    apart rest false none false is = rest none ∙ ap (λ c. cond c (Some new) (find test items)) is

    by : (t b : Bool) → test x ≡ b → Finds test new items → find test (cond t (x ∷ with_instance new items) (new ∷ x ∷ items)) ≡ cond (test new) (Some new) (cond (test x) (Some x) (find test items))
    by true b is rest = apart rest (test x) none (test new) refl
    by false b is rest = refl

pub All-with : (P : Attached → Type 0) (new : Attached) (items : List Attached) → P new → All P items → All P (with_instance new items)
All-with P new [] is all = All-cons P new [] is all
All-with P new (x ∷ items) is all = by (nat_le (rule_code x.rule) (rule_code new.rule)) (All-with P new items is (All-tail P x items all))
  where
    by : (t : Bool) → All P (with_instance new items) → All P (cond t (x ∷ with_instance new items) (new ∷ x ∷ items))
    by true rest = All-cons P x (with_instance new items) (All-head P x items all) rest
    by false rest = All-cons P new (x ∷ items) is all

abbrev attached_in : Db → Name → Name → Rule → Option Relation → Db
attached_in db name label rule None = db
attached_in db name label rule (Some r) = with_relation db name (record r { attachments = with_instance (record { name = label; rule = rule; buckets = standing_buckets rule r.rows }) r.attachments })

module _ (db : Db) (name label : Name) (rule : Rule) (r : Relation) (there : relation_at db name ≡ Some r) where
  abbrev after : Db
  after = with_attached db name label rule

  abbrev new : Attached
  new = new_attached label rule r

  put_there : after ≡ with_relation db name (record r { attachments = with_instance new r.attachments })
  put_there = ap (attached_in db name label rule) there

  own_items : attachments_at db name ≡ r.attachments
  own_items = ap attachments_of there

  -- the relation has one more, and others have theirs
  attachments-own : attachments_at after name ≡ with_instance new r.attachments
  attachments-own = ap (λ (d : Db). attachments_at d name) put_there ∙ ap attachments_of (relation_same db name (record r { attachments = with_instance new r.attachments }))

  attachments-other : (n : Name) → bytes_eq n name ≡ false → attachments_at after n ≡ attachments_at db n
  attachments-other n other = ap (λ (d : Db). attachments_at d n) put_there ∙ ap attachments_of (relation_other db name (record r { attachments = with_instance new r.attachments }) n other)

  pub All-attached : (P : Attached → Type 0) (n : Name) → (n ≡ name → P new) → All P (attachments_at db n) → All P (attachments_at after n)
  All-attached P n is all = by (bytes_eq n name) refl
    where
      by : (b : Bool) → bytes_eq n name ≡ b → All P (attachments_at after n)
      by true same =
          let on : n ≡ name = names_same n name same in
          subst (λ (l : List Attached). All P l) (sym (ap (attachments_at after) on ∙ attachments-own))
          (All-with P new r.attachments (is on) (subst (λ (l : List Attached). All P l) (ap (attachments_at db) on ∙ own_items) all))
      by false other = subst (λ (l : List Attached). All P l) (sym (attachments-other n other)) all

  module _ (free : rule_at db name label ≡ None) where
    none_of : (l : Name) → bytes_eq label l ≡ true → find (λ a. bytes_eq a.name l) r.attachments ≡ None
    none_of l same = subst (λ (n : Name). find (λ a. bytes_eq a.name n) r.attachments ≡ None) (names_same label l same) (ap (find (λ a. bytes_eq a.name label)) (sym own_items) ∙ free)

    rule_at-own : (l : Name) → rule_at after name l ≡ cond (bytes_eq label l) (Some new) (rule_at db name l)
    rule_at-own l =
        ap (find (λ a. bytes_eq a.name l)) attachments-own ∙ find-with (λ a. bytes_eq a.name l) new r.attachments (none_of l)
        ∙ ap (λ (items : List Attached). cond (bytes_eq label l) (Some new) (find (λ a. bytes_eq a.name l) items)) (sym own_items)

    -- it is found under its name
    pub rule_at-new : rule_at after name label ≡ Some new
    rule_at-new = rule_at-own label ∙ ap (λ b. cond b (Some new) (rule_at db name label)) (names_itself label)

    -- and what was found still is
    pub rule_at-still : (n l : Name) (a : Attached) → rule_at db n l ≡ Some a → rule_at after n l ≡ Some a
    rule_at-still n l a is = by (bytes_eq n name) refl
      where
        own : (b : Bool) → bytes_eq label l ≡ b → rule_at db name l ≡ Some a → cond b (Some new) (rule_at db name l) ≡ Some a
        own true same at = absurd (let none : rule_at db name l ≡ None = ap (λ (x : Name). rule_at db name x) (sym (names_same label l same)) ∙ free in cc)
        own false other at = at

        by : (b : Bool) → bytes_eq n name ≡ b → rule_at after n l ≡ Some a
        by true same =
            let on : n ≡ name = names_same n name same in
            ap (λ (x : Name). rule_at after x l) on ∙ rule_at-own l ∙ own (bytes_eq label l) refl (ap (λ (x : Name). rule_at db x l) (sym on) ∙ is)
        by false other = ap (find (λ a. bytes_eq a.name l)) (attachments-other n other) ∙ is

-- ---- names are apart
-- how many have a name
abbrev named_in : Name → List Attached → ℕ
named_in l items = length (filter (λ a. bytes_eq a.name l) items)

none_named : (l : Name) (items : List Attached) → find (λ a. bytes_eq a.name l) items ≡ None → named_in l items ≡ 0
none_named l [] none = refl
none_named l (x ∷ items) none = by (bytes_eq x.name l) none (none_named l items)
  where
    by : (b : Bool) → cond b (Some x) (find (λ a. bytes_eq a.name l) items) ≡ None → (find (λ a. bytes_eq a.name l) items ≡ None → named_in l items ≡ 0)
        → length (cond b (x ∷ filter (λ a. bytes_eq a.name l) items) (filter (λ a. bytes_eq a.name l) items)) ≡ 0
    by true is rest = absurd (cc)
    by false is rest = rest is

-- one more among them
named-with : (l : Name) (new : Attached) (items : List Attached) → named_in l (with_instance new items) ≡ named_in l (new ∷ items)
named-with l new [] = refl
named-with l new (x ∷ items) = by (nat_le (rule_code x.rule) (rule_code new.rule)) (named-with l new items)
  where
    swapped : (b c : Bool) → length (cond b (x ∷ cond c (new ∷ filter (λ a. bytes_eq a.name l) items) (filter (λ a. bytes_eq a.name l) items)) (cond c (new ∷ filter (λ a. bytes_eq a.name l) items) (filter (λ a. bytes_eq a.name l) items)))
        ≡ length (cond c (new ∷ cond b (x ∷ filter (λ a. bytes_eq a.name l) items) (filter (λ a. bytes_eq a.name l) items)) (cond b (x ∷ filter (λ a. bytes_eq a.name l) items) (filter (λ a. bytes_eq a.name l) items)))
    swapped true true = refl
    swapped true false = refl
    swapped false true = refl
    swapped false false = refl

    behind : (b : Bool) → named_in l (with_instance new items) ≡ named_in l (new ∷ items)
        → length (cond b (x ∷ filter (λ a. bytes_eq a.name l) (with_instance new items)) (filter (λ a. bytes_eq a.name l) (with_instance new items)))
        ≡ length (cond b (x ∷ filter (λ a. bytes_eq a.name l) (new ∷ items)) (filter (λ a. bytes_eq a.name l) (new ∷ items)))
    behind true rest = ap suc rest
    behind false rest = rest

    by : (t : Bool) → named_in l (with_instance new items) ≡ named_in l (new ∷ items) → named_in l (cond t (x ∷ with_instance new items) (new ∷ x ∷ items)) ≡ named_in l (new ∷ x ∷ items)
    by true rest = behind (bytes_eq x.name l) rest ∙ swapped (bytes_eq x.name l) (bytes_eq new.name l)
    by false rest = refl

-- a new name is its own alone
pub apart-attached : (db : Db) (name label : Name) (rule : Rule) (r : Relation) → relation_at db name ≡ Some r → rule_at db name label ≡ None → AreNamedApart db
    → AreNamedApart (with_attached db name label rule)
apart-attached db name label rule r there free apart n l = by (bytes_eq n name) refl
  where
    added : (b : Bool) → bytes_eq label l ≡ b
        → length (cond b (new db name label rule r there ∷ filter (λ a. bytes_eq a.name l) r.attachments) (filter (λ a. bytes_eq a.name l) r.attachments)) ≤ 1
    added true same = omega (arith, none_named l r.attachments (none_of db name label rule r there free l same))
    added false other = subst (λ (items : List Attached). named_in l items ≤ 1) (own_items db name label rule r there) (apart name l)

    by : (b : Bool) → bytes_eq n name ≡ b → named_in l (attachments_at (with_attached db name label rule) n) ≤ 1
    by true same =
        let on : n ≡ name = names_same n name same in
        let count = ap (λ (x : Name). named_in l (attachments_at (with_attached db name label rule) x)) on ∙ ap (named_in l) (attachments-own db name label rule r there)
        ∙ named-with l (new db name label rule r there) r.attachments in
        omega (arith, count, added (bytes_eq label l) refl)
    by false other = subst (λ (items : List Attached). named_in l items ≤ 1) (sym (attachments-other db name label rule r there n other)) (apart n l)

-- ---- those of a name go
find-without : (label l : Name) (items : List Attached) → (l ≡ label → ⊥) → find (λ a. bytes_eq a.name l) (filter (λ a. not (bytes_eq a.name label)) items) ≡ find (λ a. bytes_eq a.name l) items
find-without label l [] other = refl
find-without label l (x ∷ items) other = by (bytes_eq x.name label) refl (find-without label l items other)
  where
    skipped : (c : Bool) → bytes_eq x.name l ≡ c → x.name ≡ label → find (λ a. bytes_eq a.name l) items ≡ cond c (Some x) (find (λ a. bytes_eq a.name l) items)
    skipped true same is = absurd (other (sym (names_same x.name l same) ∙ is))
    skipped false apart is = refl

    by : (b : Bool) → bytes_eq x.name label ≡ b → find (λ a. bytes_eq a.name l) (filter (λ a. not (bytes_eq a.name label)) items) ≡ find (λ a. bytes_eq a.name l) items
        → find (λ a. bytes_eq a.name l) (cond (not b) (x ∷ filter (λ a. not (bytes_eq a.name label)) items) (filter (λ a. not (bytes_eq a.name label)) items))
        ≡ cond (bytes_eq x.name l) (Some x) (find (λ a. bytes_eq a.name l) items)
    by true same rest = rest ∙ skipped (bytes_eq x.name l) refl (names_same x.name label same)
    by false apart rest = ap (λ o. cond (bytes_eq x.name l) (Some x) o) rest

abbrev without_in : Db → Name → Name → Option Relation → Db
without_in db name label None = db
without_in db name label (Some r) = with_relation db name (record r { attachments = filter (λ a. not (bytes_eq a.name label)) r.attachments })

pub attachments-without : (db : Db) (name label : Name) → attachments_at (without_attached db name label) name ≡ filter (λ a. not (bytes_eq a.name label)) (attachments_at db name)
attachments-without db name label = by (relation_at db name) refl
  where
    by : (o : Option Relation) → relation_at db name ≡ o → attachments_at (without_in db name label o) name ≡ filter (λ a. not (bytes_eq a.name label)) (attachments_at db name)
    by None is = ap attachments_of is ∙ sym (ap (λ (o : Option Relation). filter (λ a. not (bytes_eq a.name label)) (attachments_of o)) is)
    by (Some r) is =
        ap attachments_of (relation_same db name (record r { attachments = filter (λ a. not (bytes_eq a.name label)) r.attachments }))
        ∙ sym (ap (λ (o : Option Relation). filter (λ a. not (bytes_eq a.name label)) (attachments_of o)) is)

pub attachments-apart : (db : Db) (name label n : Name) → bytes_eq n name ≡ false → attachments_at (without_attached db name label) n ≡ attachments_at db n
attachments-apart db name label n other = by (relation_at db name)
  where
    by : (o : Option Relation) → attachments_at (without_in db name label o) n ≡ attachments_at db n
    by None = refl
    by (Some r) = ap attachments_of (relation_other db name (record r { attachments = filter (λ a. not (bytes_eq a.name label)) r.attachments }) n other)

-- what another name finds, it still finds
pub rule_at-left : (db : Db) (name label n l : Name) (a : Attached) → (n ≡ name → l ≡ label → ⊥) → rule_at db n l ≡ Some a → rule_at (without_attached db name label) n l ≡ Some a
rule_at-left db name label n l a apart is = by (bytes_eq n name) refl
  where
    by : (b : Bool) → bytes_eq n name ≡ b → rule_at (without_attached db name label) n l ≡ Some a
    by true same =
        let on : n ≡ name = names_same n name same in
        ap (λ (x : Name). rule_at (without_attached db name label) x l) on ∙ ap (find (λ a. bytes_eq a.name l)) (attachments-without db name label)
        ∙ find-without label l (attachments_at db name) (apart on) ∙ ap (λ (x : Name). rule_at db x l) (sym on) ∙ is
    by false other = ap (find (λ a. bytes_eq a.name l)) (attachments-apart db name label n other) ∙ is

-- what is so of all is so of those that are left, which have other names there
abbrev pub IsLeft : Name → Name → Name → Attached → Type 0
IsLeft name label n a = n ≡ name → a.name ≡ label → ⊥

passed : (label : Name) (a : Attached) → not (bytes_eq a.name label) ≡ true → a.name ≡ label → ⊥
passed label a is same = by (bytes_eq a.name label) is ((bytes_same a.name label).1 same)
  where
    by : (b : Bool) → not b ≡ true → b ≡ true → ⊥
    by true against for_it = absurd (cc)
    by false against for_it = absurd (cc)

pub All-left : (P : Attached → Type 0) (db : Db) (name label n : Name) → All P (attachments_at db n) → All (λ a. P a × IsLeft name label n a) (attachments_at (without_attached db name label) n)
All-left P db name label n all = by (bytes_eq n name) refl
  where
    test : Attached → Bool
    test a = not (bytes_eq a.name label)

    by : (b : Bool) → bytes_eq n name ≡ b → All (λ a. P a × IsLeft name label n a) (attachments_at (without_attached db name label) n)
    by true same =
        let on : n ≡ name = names_same n name same in
        subst (λ (l : List Attached). All (λ a. P a × IsLeft name label n a) l) (sym (ap (attachments_at (without_attached db name label)) on ∙ attachments-without db name label ∙ ap (λ (x : Name). filter test (attachments_at db x)) (sym on)))
        (λ i d in'. (All-filter test P (attachments_at db n) all i d in', λ _ is. passed label (get_or (filter test (attachments_at db n)) i d) (filter_passes test (attachments_at db n) i d in') is))
    by false other =
        subst (λ (l : List Attached). All (λ a. P a × IsLeft name label n a) l) (sym (attachments-apart db name label n other))
        (λ i d in'. (all i d in', λ on. absurd (true≢false (sym ((bytes_same n name).1 on) ∙ other))))
