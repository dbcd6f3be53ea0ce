-- A state without relations is lawful, and so is one with two relations of a row each, of which one refers to the other.
use Rattle.std.proofs.Common.{◌≡◌, ℕ, true, false, codes, List, [], ◌∷◌, map, refl, arith, rules}
use Rattle.std.specs.Prelude.{All, pos}
use Rattle.std.proofs.lemmas.List.Elements.{All-nil, All-cons}
use Rattle.sb_pred.specs.declared.predicate.Op.TheVariants.{Ge}
use Rattle.sb_pred.specs.declared.predicate.Term.TheVariants.{Const, New}
use Rattle.sb_pred.specs.Tree.{Always, Compare}
use Rattle.sb_rule.specs.declared.action.Action.TheVariants as action
use Rattle.sb_rule.specs.declared.rule.Event.TheVariants as event
use Rattle.sb_rule.specs.declared.rule.Mode.TheVariants.{Restrict}
use Rattle.sb_rule.specs.declared.rule.Side.TheVariants.{Main, Mirror}
use Rattle.sb_rule.specs.declared.rule.Rule.{Rule}
use Rattle.sb_rule.specs.declared.rule.Rule.TheVariants.{TreeIndex, HashIndex, JoinIndex, Stats, Check, Refers, Trigger, Foreign}
use Rattle.sb_relation.specs.Build.{mirror_name, mirror_of}
use Rattle.sb_relation.specs.Db.{Attached, Relation, Db, int_column}
use Rattle.sb_fold.specs.Building.{HasMirror}
use Rattle.sb_plain.specs.Lawful.{MayBeAttached, IsMirrorOf, IsRowOf, IsLawfulRelation, IsLawful, IsSound, IsLawfulState, is_alone}
use Rattle.sb_plain.specs.Printing.{is_mirror}
use Rattle.sb_plain.proofs.Scripts.{no_extensions, start, int, key, slot}

-- ---- the first state
the_first : IsLawfulState no_extensions start
the_first = record {
  commits = All-cons (IsLawful no_extensions) [] [] (record { rising = tt; relations = All-nil _ }) (All-nil _);
  sound = All-cons (IsSound no_extensions) [] [] (All-nil _) (All-nil _);
  open_one = tt;
}

-- ---- dept (id), a tree, and emp (id, dept), a heap with an index, a check and a reference
abbrev works : Rule
works = Refers Main (codes "dept" ∷ []) (codes "dept") (codes "id" ∷ []) Restrict false

abbrev positive : Rule
positive = Check (Compare Ge (New (codes "id")) (Const (int 0))) false

abbrev index : Rule
index = TreeIndex (codes "id" ∷ []) true

abbrev named : List ℕ → Rule → Attached
named name rule = record { name = name; rule = rule; buckets = 0 }

abbrev mirror : Attached
mirror = named (codes "emp.w") (Refers Mirror (codes "id" ∷ []) (codes "emp") (codes "dept" ∷ []) Restrict false)

abbrev dept : Relation
dept = record { method = 2; schema = int_column (codes "id") ∷ []; key = codes "id" ∷ []; rows = (key 1, int 1 ∷ []) ∷ []; attachments = mirror ∷ [] }

abbrev emp : Relation
emp = record {
  method = 1;
  schema = int_column (codes "id") ∷ int_column (codes "dept") ∷ [];
  key = [];
  rows = (slot 2 0, int 10 ∷ int 1 ∷ []) ∷ [];
  attachments = named (codes "i") index ∷ named (codes "c") positive ∷ named (codes "w") works ∷ [];
}

abbrev company : Db
company = (codes "dept", dept) ∷ (codes "emp", emp) ∷ []

dept_is : IsLawfulRelation no_extensions company (codes "dept") dept
dept_is = record {
  created = record { there = refl; new = refl; named = refl; fits = refl; alike = refl; within = refl };
  attached = All-cons (MayBeAttached no_extensions company (codes "dept")) mirror [] (λ main. absurd (cc)) (All-nil _);
  mirrored = All-cons (λ a. HasMirror company (mirror_name (codes "dept") a.name) (mirror_of (codes "dept") a.rule)) mirror [] tt (All-nil _);
  mirrors = All-cons (λ a. is_mirror a.rule ≡ true → IsMirrorOf company (codes "dept") a) mirror []
      (λ is. record { other = codes "emp"; main = named (codes "w") works; stands = refl; label = refl; mirror = refl }) (All-nil _);
  in_order = refl;
  apart = refl;
  rising = tt;
  rows = All-cons (λ row. IsRowOf dept row.0 row.1) (key 1, int 1 ∷ []) [] (record {
    stored = record { tuple = record { some = omega arith; few = omega arith; storable = search rules }; fits = refl; short = refl };
    short = refl;
    keyed = refl;
    coded = λ two. refl;
  }) (All-nil _);
}

all_three : (P : Attached → Type 0) {a b c : Attached} → P a → P b → P c → All P (a ∷ b ∷ c ∷ [])
all_three P {a = a} {b = b} {c = c} p q r = All-cons P a (b ∷ c ∷ []) p (All-cons P b (c ∷ []) q (All-cons P c [] r (All-nil _)))

emp_is : IsLawfulRelation no_extensions company (codes "emp") emp
emp_is = record {
  created = record { there = refl; new = refl; named = refl; fits = refl; alike = refl; within = refl };
  attached = all_three (MayBeAttached no_extensions company (codes "emp")) {a = named (codes "i") index} {b = named (codes "c") positive} {c = named (codes "w") works} (λ main. record { there = refl; new = refl; named = refl; fits = refl; alike = refl; within = refl })
      (λ main. record { there = refl; new = refl; named = refl; fits = refl; alike = refl; within = refl }) (λ main. record { there = refl; new = refl; named = refl; fits = refl; alike = refl; within = refl });
  mirrored = all_three (λ a. HasMirror company (mirror_name (codes "emp") a.name) (mirror_of (codes "emp") a.rule)) {a = named (codes "i") index} {b = named (codes "c") positive} {c = named (codes "w") works} tt tt (mirror, refl, refl);
  mirrors = all_three (λ a. is_mirror a.rule ≡ true → IsMirrorOf company (codes "emp") a) {a = named (codes "i") index} {b = named (codes "c") positive} {c = named (codes "w") works} (λ is. absurd (cc)) (λ is. absurd (cc)) (λ is. absurd (cc));
  in_order = refl;
  apart = refl;
  rising = tt;
  rows = All-cons (λ row. IsRowOf emp row.0 row.1) (slot 2 0, int 10 ∷ int 1 ∷ []) [] (record {
    stored = record { tuple = record { some = omega arith; few = omega arith; storable = search rules }; fits = refl; short = refl };
    short = refl;
    keyed = refl;
    coded = λ two. absurd (cc);
  }) (All-nil _);
}

the_company : IsLawful no_extensions company
the_company = record {
  rising = tt;
  relations =
      All-cons (λ e. IsLawfulRelation no_extensions company e.0 e.1) (codes "dept", dept) ((codes "emp", emp) ∷ []) dept_is
      (All-cons (λ e. IsLawfulRelation no_extensions company e.0 e.1) (codes "emp", emp) [] emp_is (All-nil _));
}

-- ---- rules that are alone
which_are_alone :
    map is_alone
    (index ∷ HashIndex [] ∷ JoinIndex Main [] [] [] ∷ JoinIndex Mirror [] [] [] ∷ Stats [] (pos 0) (pos 1) ∷ positive ∷ works ∷ mirror.rule ∷ Trigger event.Insert Always (action.Delete [] []) false ∷ Foreign 1000 [] ∷ [])
    ≡ true ∷ true ∷ true ∷ true ∷ true ∷ true ∷ false ∷ false ∷ false ∷ true ∷ []
which_are_alone = refl
