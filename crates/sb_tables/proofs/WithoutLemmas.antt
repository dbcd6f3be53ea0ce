-- What is read of a database's attachments once some are taken off.
use Rattle.std.proofs.Common.{◌≡◌, Bool, true, false, not, cond, List, [], ◌∷◌, Option, Some, None, refl, sym, ap, ◌∙◌}
use Rattle.std.specs.Prelude.{All}
use Rattle.std.specs.List.{find}
use Rattle.std.specs.Str.{bytes_eq}
use Rattle.std.proofs.lemmas.List.Elements.{All-nil, All-cons, All-head, All-tail, All-same, All-filter}
use Rattle.sb_value.specs.Equal.{bytes_same}
use Rattle.sb_rule.specs.declared.rule.Rule.{Rule}
use Rattle.sb_relation.specs.Build.{mirror_name, mirror_of}
use Rattle.sb_relation.specs.Db.{Name, Attached, Relation, Db, relation_at, with_relation}
use Rattle.sb_fold.specs.Building.{rule_at, without_attached, without_mirror, without_mirror_of, without_mirrors}
use Rattle.sb_fold.specs.Fold.{attachments_at}
use Rattle.sb_standing.specs.Standing.{without_named}
use Rattle.sb_deferred.proofs.RelationLemmas.{attachments_of, relation_same, relation_other}

-- ---- those of one name
abbrev pub without_in : Db → Name → Name → Option Relation → Db
without_in db other label None = db
without_in db other label (Some r) = with_relation db other (record r { attachments = without_named label r.attachments })

pub attachments-without : (db : Db) (other label n : Name) → attachments_at (without_attached db other label) n ≡ cond (bytes_eq n other) (without_named label (attachments_at db n)) (attachments_at db n)
attachments-without db other label n = of_relation (relation_at db other) refl (bytes_eq n other) refl
  where
    of_relation : (o : Option Relation) → relation_at db other ≡ o → (b : Bool) → bytes_eq n other ≡ b
        → attachments_at (without_in db other label o) n ≡ cond b (without_named label (attachments_at db n)) (attachments_at db n)
    of_relation None there true is =
        let none : attachments_at db n ≡ [] = ap attachments_of (ap (λ (x : Name). relation_at db x) ((bytes_same n other).0 is) ∙ there) in
        none ∙ ap (λ (items : List Attached). without_named label items) (sym none)
    of_relation None there false is = refl
    of_relation (Some r) there true is =
        let named : n ≡ other = (bytes_same n other).0 is in
        let q : Relation = record r { attachments = without_named label r.attachments } in
        let had : attachments_at db n ≡ r.attachments = ap attachments_of (ap (λ (x : Name). relation_at db x) named ∙ there) in
        ap (λ (x : Name). attachments_at (with_relation db other q) x) named ∙ ap attachments_of (relation_same db other q)
        ∙ ap (λ (items : List Attached). without_named label items) (sym had)
    of_relation (Some r) there false is = ap attachments_of (relation_other db other (record r { attachments = without_named label r.attachments }) n is)

-- what is so of all of a relation is so of those that are left
pub all-without : (P : Attached → Type 0) (db : Db) (other label n : Name) → All P (attachments_at db n) → All P (attachments_at (without_attached db other label) n)
all-without P db other label n all =
    All-same P (attachments_at (without_attached db other label) n) (cond (bytes_eq n other) (without_named label (attachments_at db n)) (attachments_at db n)) (attachments-without db other label n)
    (of_test (bytes_eq n other))
  where
    of_test : (b : Bool) → All P (cond b (without_named label (attachments_at db n)) (attachments_at db n))
    of_test true = All-filter (λ (a : Attached). not (bytes_eq a.name label)) P (attachments_at db n) all
    of_test false = all

none_named : (label : Name) (items : List Attached) → All (λ a. bytes_eq a.name label ≡ false) (without_named label items)
none_named label [] = All-nil _
none_named label (x ∷ items) = of_test (bytes_eq x.name label) refl (none_named label items)
  where
    of_test : (b : Bool) → bytes_eq x.name label ≡ b → All (λ a. bytes_eq a.name label ≡ false) (without_named label items)
        → All (λ a. bytes_eq a.name label ≡ false) (cond (not b) (x ∷ without_named label items) (without_named label items))
    of_test true is rest = rest
    of_test false is rest = All-cons (λ a. bytes_eq a.name label ≡ false) x (without_named label items) is rest

-- none of them is left
pub none-left : (db : Db) (other label : Name) → All (λ a. bytes_eq a.name label ≡ false) (attachments_at (without_attached db other label) other)
none-left db other label =
    All-same (λ a. bytes_eq a.name label ≡ false) (attachments_at (without_attached db other label) other) (without_named label (attachments_at db other))
    (attachments-without db other label other ∙ ap (λ (b : Bool). cond b (without_named label (attachments_at db other)) (attachments_at db other)) ((bytes_same other other).1 refl))
    (none_named label (attachments_at db other))

-- one of another name is found as before
find-without : (l label : Name) (items : List Attached) → (l ≡ label → ⊥) → find (λ a. bytes_eq a.name l) (without_named label items) ≡ find (λ a. bytes_eq a.name l) items
find-without l label [] apart = refl
find-without l label (x ∷ items) apart = of_tests (bytes_eq x.name label) refl (bytes_eq x.name l) refl (find-without l label items apart)
  where
    of_tests : (b : Bool) → bytes_eq x.name label ≡ b → (c : Bool) → bytes_eq x.name l ≡ c
        → find (λ a. bytes_eq a.name l) (without_named label items) ≡ find (λ a. bytes_eq a.name l) items
        → find (λ a. bytes_eq a.name l) (cond (not b) (x ∷ without_named label items) (without_named label items)) ≡ cond c (Some x) (find (λ a. bytes_eq a.name l) items)
    of_tests true is true at rest = absurd (apart (sym ((bytes_same x.name l).0 at) ∙ (bytes_same x.name label).0 is))
    of_tests true is false at rest = rest
    of_tests false is c at rest =
        ap (λ (t : Bool). cond t (Some x) (find (λ a. bytes_eq a.name l) (without_named label items))) at ∙ ap (λ (o : Option Attached). cond c (Some x) o) rest

pub rule_at-without : (db : Db) (other label o l : Name) → (o ≡ other → l ≡ label → ⊥) → rule_at (without_attached db other label) o l ≡ rule_at db o l
rule_at-without db other label o l apart =
    ap (λ (items : List Attached). find (λ a. bytes_eq a.name l) items) (attachments-without db other label o) ∙ of_test (bytes_eq o other) refl
  where
    of_test : (b : Bool) → bytes_eq o other ≡ b → find (λ a. bytes_eq a.name l) (cond b (without_named label (attachments_at db o)) (attachments_at db o)) ≡ rule_at db o l
    of_test true is = find-without l label (attachments_at db o) (apart ((bytes_same o other).0 is))
    of_test false is = refl

-- ---- mirrors
-- what is so of the mirror of a rule, or of the main instance, where it has one
abbrev pub IfTied : (Name → Rule → Type 0) → Option (Name × Rule) → Type 0
IfTied P None = Unit {0}
IfTied P (Some (other, rule)) = P other rule

pub all-mirror : (P : Attached → Type 0) (db : Db) (relation name : Name) (mirror : Option (Name × Rule)) (n : Name) → All P (attachments_at db n) → All P (attachments_at (without_mirror relation name mirror db) n)
all-mirror P db relation name None n all = all
all-mirror P db relation name (Some (other, rule)) n all = all-without P db other (mirror_name relation name) n all

pub all-mirrors : (P : Attached → Type 0) (relation : Name) (items : List Attached) (db : Db) (n : Name) → All P (attachments_at db n) → All P (attachments_at (without_mirrors relation items db) n)
all-mirrors P relation [] db n all = all
all-mirrors P relation (m ∷ items) db n all = all-mirrors P relation items (without_mirror_of relation m db) n (all-mirror P db relation m.name (mirror_of relation m.rule) n all)

rule_at-mirror : (db : Db) (relation name : Name) (mirror : Option (Name × Rule)) (o l : Name) → IfTied (λ other rule. o ≡ other → l ≡ mirror_name relation name → ⊥) mirror
    → rule_at (without_mirror relation name mirror db) o l ≡ rule_at db o l
rule_at-mirror db relation name None o l apart = refl
rule_at-mirror db relation name (Some (other, rule)) o l apart = rule_at-without db other (mirror_name relation name) o l apart

-- an attachment isn't the mirror of any of these
abbrev pub IsNoneOf : Name → Name → Name → Attached → Type 0
IsNoneOf relation o l m = IfTied (λ other rule. o ≡ other → l ≡ mirror_name relation m.name → ⊥) (mirror_of relation m.rule)

pub rule_at-mirrors : (relation : Name) (items : List Attached) (db : Db) (o l : Name) → All (IsNoneOf relation o l) items → rule_at (without_mirrors relation items db) o l ≡ rule_at db o l
rule_at-mirrors relation [] db o l apart = refl
rule_at-mirrors relation (m ∷ items) db o l apart =
    rule_at-mirrors relation items (without_mirror_of relation m db) o l (All-tail (IsNoneOf relation o l) m items apart)
    ∙ rule_at-mirror db relation m.name (mirror_of relation m.rule) o l (All-head (IsNoneOf relation o l) m items apart)

-- no attachment of the other relation has the name of the mirror
abbrev pub IsGoneIn : Db → Name → Attached → Type 0
IsGoneIn db relation m = IfTied (λ other rule. All (λ a. bytes_eq a.name (mirror_name relation m.name) ≡ false) (attachments_at db other)) (mirror_of relation m.rule)

pub gone-mirrors : (relation : Name) (items : List Attached) (db : Db) → All (IsGoneIn (without_mirrors relation items db) relation) items
gone-mirrors relation [] db = All-nil _
gone-mirrors relation (m ∷ items) db =
    All-cons (IsGoneIn (without_mirrors relation (m ∷ items) db) relation) m items (here (mirror_of relation m.rule)) (gone-mirrors relation items (without_mirror_of relation m db))
  where
    here : (o : Option (Name × Rule))
        → IfTied (λ other rule. All (λ a. bytes_eq a.name (mirror_name relation m.name) ≡ false) (attachments_at (without_mirrors relation items (without_mirror relation m.name o db)) other)) o
    here None = tt
    here (Some (other, rule)) =
        all-mirrors (λ a. bytes_eq a.name (mirror_name relation m.name) ≡ false) relation items (without_attached db other (mirror_name relation m.name)) other
        (none-left db other (mirror_name relation m.name))
