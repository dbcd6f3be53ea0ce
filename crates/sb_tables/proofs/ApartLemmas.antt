-- Names of attachments are apart once relations and attachments have come or gone.
use Rattle.std.proofs.Common.{◌≡◌, ℕ, ◌≤◌, Bool, true, false, not, cond, bytes_eq, List, [], ◌∷◌, length, Option, Some, None, refl, sym, ap, ◌∙◌, subst, arith}
use Rattle.std.specs.Prelude.{filter}
use Rattle.sb_value.specs.Equal.{bytes_same}
use Rattle.sb_rule.specs.declared.rule.Rule.{Rule}
use Rattle.sb_relation.specs.Build.{mirror_name, mirror_of}
use Rattle.sb_relation.specs.Db.{Attached, Name, Relation, Db, with_relation}
use Rattle.sb_fold.specs.Building.{without_attached, without_mirror, without_mirror_of, without_mirrors, without_relation}
use Rattle.sb_fold.specs.Fold.{attachments_at}
use Rattle.sb_deferred.proofs.RelationLemmas.{attachments_of, relation_gone, relation_left, relation_other, relation_same}
use Rattle.sb_standing.specs.Standing.{without_named}
use Rattle.sb_engine.specs.Working.{AreNamedApart}
use Rattle.sb_tables.proofs.WithoutLemmas.{attachments-without}

-- how many of these have a name
abbrev named_in : Name → List Attached → ℕ
named_in label items = length (filter (λ a. bytes_eq a.name label) items)

-- ---- a relation is put, or goes
module _ (db : Db) (name : Name) (r : Relation) (bare : r.attachments ≡ []) where
  pub apart-with : AreNamedApart db → AreNamedApart (with_relation db name r)
  apart-with apart relation label = of_name (bytes_eq relation name) refl
    where
      of_name : (b : Bool) → bytes_eq relation name ≡ b → named_in label (attachments_at (with_relation db name r) relation) ≤ 1
      of_name true is =
          let none : attachments_at (with_relation db name r) relation ≡ [] =
          ap (λ (x : Name). attachments_at (with_relation db name r) x) ((bytes_same relation name).0 is) ∙ ap attachments_of (relation_same db name r) ∙ bare in
          omega (arith, ap (named_in label) none)
      of_name false is =
          subst (λ (items : List Attached). named_in label items ≤ 1) (sym (ap attachments_of (relation_other db name r relation is))) (apart relation label)

-- ---- attachments go
-- there are no more of a name without those of another
fewer : (label other : Name) (items : List Attached) → named_in label (without_named other items) ≤ named_in label items
fewer label other [] = omega arith
fewer label other (a ∷ items) = of_tests (not (bytes_eq a.name other)) (bytes_eq a.name label) refl (fewer label other items)
  where
    left : List Attached
    left = without_named other items

    of_tests : (b c : Bool) → bytes_eq a.name label ≡ c → named_in label left ≤ named_in label items
        → named_in label (cond b (a ∷ left) left) ≤ length (cond c (a ∷ filter (λ x. bytes_eq x.name label) items) (filter (λ x. bytes_eq x.name label) items))
    of_tests true c is rest =
        subst (λ (t : Bool). length (cond t (a ∷ filter (λ x. bytes_eq x.name label) left) (filter (λ x. bytes_eq x.name label) left))
        ≤ length (cond c (a ∷ filter (λ x. bytes_eq x.name label) items) (filter (λ x. bytes_eq x.name label) items))) (sym is) (both c rest)
      where
        both : (t : Bool) → named_in label left ≤ named_in label items
            → length (cond t (a ∷ filter (λ x. bytes_eq x.name label) left) (filter (λ x. bytes_eq x.name label) left))
            ≤ length (cond t (a ∷ filter (λ x. bytes_eq x.name label) items) (filter (λ x. bytes_eq x.name label) items))
        both true rest = omega (arith, rest)
        both false rest = rest
    of_tests false true is rest = omega (arith, rest)
    of_tests false false is rest = rest

pub apart-without : (db : Db) (other label : Name) → AreNamedApart db → AreNamedApart (without_attached db other label)
apart-without db other label apart relation named =
    subst (λ (items : List Attached). named_in named items ≤ 1) (sym (attachments-without db other label relation)) (of_test (bytes_eq relation other))
  where
    of_test : (b : Bool) → named_in named (cond b (without_named label (attachments_at db relation)) (attachments_at db relation)) ≤ 1
    of_test true = omega (arith, apart relation named, fewer named label (attachments_at db relation))
    of_test false = apart relation named

-- so without mirrors
pub apart-mirror : (db : Db) (relation name : Name) (mirror : Option (Name × Rule)) → AreNamedApart db → AreNamedApart (without_mirror relation name mirror db)
apart-mirror db relation name None apart = apart
apart-mirror db relation name (Some (other, rule)) apart = apart-without db other (mirror_name relation name) apart

apart-mirrors : (relation : Name) (items : List Attached) (db : Db) → AreNamedApart db → AreNamedApart (without_mirrors relation items db)
apart-mirrors relation [] db apart = apart
apart-mirrors relation (m ∷ items) db apart =
    apart-mirrors relation items (without_mirror_of relation m db) (apart-mirror db relation m.name (mirror_of relation m.rule) apart)

-- and without a relation
pub apart-left : (db : Db) (name : Name) → AreNamedApart db → AreNamedApart (without_relation db name)
apart-left db name apart relation label = of_name (bytes_eq relation name) refl
  where
    bare : Db
    bare = without_mirrors name (attachments_at db name) db

    of_name : (b : Bool) → bytes_eq relation name ≡ b → named_in label (attachments_at (without_relation db name) relation) ≤ 1
    of_name true is =
        let none : attachments_at (without_relation db name) relation ≡ [] =
        ap (λ (x : Name). attachments_at (without_relation db name) x) ((bytes_same relation name).0 is) ∙ ap attachments_of (relation_gone bare name) in
        omega (arith, ap (named_in label) none)
    of_name false is =
        subst (λ (items : List Attached). named_in label items ≤ 1) (sym (ap attachments_of (relation_left bare name relation is)))
        (apart-mirrors name (attachments_at db name) db apart relation label)
