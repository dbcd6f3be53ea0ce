-- A commit without waiting actions is sound: what isn't deferred held already, what is deferred is tested, and a mirror holds with its main instance.
use Rattle.std.proofs.Common.{◌≡◌, ℕ, Bool, true, false, not, ◌&&◌, List, [], ◌∷◌, Option, Some, None, refl, sym, subst, ◌∙◌}
use Rattle.std.specs.Prelude.{All, cond}
use Rattle.std.specs.List.{find}
use Rattle.std.specs.Str.{bytes_eq}
use Rattle.std.specs.FinMap.Entries as entries
use Rattle.std.specs.Ordering.{eq_by_cmp}
use Rattle.std.proofs.lemmas.List.Elements.{All-nil, All-cons, All-head, All-tail}
use Rattle.std.proofs.lemmas.Map.Text.{is_eq-slice_cmp}
use Rattle.std.proofs.lemmas.Option.{same_Some}
use Rattle.std.proofs.lemmas.Bool.{not-false}
use Rattle.sb_value.specs.Equal.{bytes_same}
use Rattle.sb_value.specs.Order.{bytes_cmp}
use Rattle.sb_value.proofs.Searches.{find-none}
use Rattle.sb_rule.specs.declared.rule.Side.TheVariants.{Main, Mirror}
use Rattle.sb_rule.specs.declared.rule.Rule.{Rule}
use Rattle.sb_rule.specs.declared.rule.Rule.TheVariants.{TreeIndex, HashIndex, JoinIndex, Stats, Check, Refers, Trigger, Foreign}
use Rattle.sb_relation.specs.Build.{main_of}
use Rattle.sb_relation.specs.Db.{Name, Attached, Relation, Db, relation_at}
use Rattle.sb_relation.specs.Rules.{holds}
use Rattle.sb_relation.proofs.RuleLaws.{mirrors-mirror}
use Rattle.sb_relation.specs.Laws.{is_foreign}
use Rattle.sb_fold.specs.Building.{rule_at}
use Rattle.sb_fold.specs.Extensions.{Extensions, box_of}
use Rattle.sb_fold.specs.Finish.{is_tested_late, fails_late, first_failing}
use Rattle.sb_plain.specs.Lawful.{IsMirrorOf, IsLawful, IsSound, IsSoundNow, is_deferred}
use Rattle.sb_plain.specs.Printing.{is_mirror}

-- ---- lists
-- what holds of all holds of the one that is found
pub all_found : {A : Type 0} (P : A → Type 0) (test : A → Bool) (items : List A) (a : A) → All P items → find test items ≡ Some a → P a
all_found P test [] a all e = absurd (cc)
all_found {A = A} P test (x ∷ xs) a all e = of_test (test x) e (all_found P test xs a (All-tail P x xs all))
  where
    of_test : (b : Bool) → cond b (Some x) (find test xs) ≡ Some a → (find test xs ≡ Some a → P a) → P a
    of_test true is rest = subst P (same_Some x a is) (All-head P x xs all)
    of_test false is rest = rest is

-- what holds of each entry under its key holds of the one that is there
pub all_at : {X : Type 0} (P : List ℕ → X → Type 0) (es : List (List ℕ × X)) (k : List ℕ) (v : X) → All (λ e. P e.0 e.1) es → entries.find bytes_cmp k es ≡ Some v → P k v
all_at P [] k v all e = absurd (cc)
all_at {X = X} P (x ∷ es) k v all e = of_test (eq_by_cmp bytes_cmp k x.0) refl e (all_at P es k v (All-tail (λ y. P y.0 y.1) x es all))
  where
    of_test : (b : Bool) → eq_by_cmp bytes_cmp k x.0 ≡ b → cond b (Some x.1) (entries.find bytes_cmp k es) ≡ Some v → (entries.find bytes_cmp k es ≡ Some v → P k v) → P k v
    of_test true same is rest =
        let named : k ≡ x.0 = (bytes_same k x.0).0 (sym (is_eq-slice_cmp k x.0) ∙ same) in
        subst (λ (n : List ℕ). P n v) (sym named) (subst (P x.0) (same_Some x.1 v is) (All-head (λ y. P y.0 y.1) x es all))
    of_test false other is rest = rest is

-- ---- what is tested at a commit
abbrev Passes : Extensions → Db → Name → Relation → Type 0
Passes ext db name r = All (λ a. fails_late ext db name a ≡ false) r.attachments

abbrev failing_or : Option (Name × Name) → Name → Option Attached → Option (Name × Name)
failing_or rest name None = rest
failing_or rest name (Some a) = Some (name, a.name)

all_pass : (ext : Extensions) (db others : Db) → first_failing ext db others ≡ None → All (λ e. Passes ext db e.0 e.1) others
all_pass ext db [] e = All-nil _
all_pass ext db ((name, r) ∷ others) e = of_found (find (fails_late ext db name) r.attachments) refl e (all_pass ext db others)
  where
    of_found : (found : Option Attached) → find (fails_late ext db name) r.attachments ≡ found
        → failing_or (first_failing ext db others) name found ≡ None
        → (first_failing ext db others ≡ None → All (λ e. Passes ext db e.0 e.1) others) → All (λ e. Passes ext db e.0 e.1) ((name, r) ∷ others)
    of_found None is none rest = All-cons (λ e. Passes ext db e.0 e.1) (name, r) others (find-none (fails_late ext db name) r.attachments is) (rest none)
    of_found (Some a) is none rest = absurd (cc)

late_at : (ext : Extensions) (db : Db) (other label : Name) (a : Attached) → All (λ e. Passes ext db e.0 e.1) db → rule_at db other label ≡ Some a → fails_late ext db other a ≡ false
late_at ext db other label a all e = of_relation (relation_at db other) refl e
  where
    of_relation : (r : Option Relation) → relation_at db other ≡ r → find (λ x. bytes_eq x.name label) (elim r [ None ↦ [] | Some q ↦ q.attachments ]) ≡ Some a → fails_late ext db other a ≡ false
    of_relation None is found = absurd (cc)
    of_relation (Some r) is found = all_found (λ x. fails_late ext db other x ≡ false) (λ x. bytes_eq x.name label) r.attachments a (all_at (Passes ext db) db other r all is) found

-- ---- one rule
abbrev pub attached : Name → Rule → ℕ → Attached
attached label rule buckets = record { name = label; rule = rule; buckets = buckets }

abbrev pub HoldsAt : Extensions → Db → Name → Rule → Type 0
HoldsAt ext db name rule = holds (box_of ext rule) db name rule ≡ true

of_rule : (ext : Extensions) (db : Db) → All (λ e. Passes ext db e.0 e.1) db → (name label : Name) (buckets : ℕ) (rule : Rule)
    → ((not (is_foreign rule) && not (is_deferred rule)) ≡ true → HoldsAt ext db name rule) → fails_late ext db name (attached label rule buckets) ≡ false
    → (is_mirror rule ≡ true → IsMirrorOf db name (attached label rule buckets)) → not (is_foreign rule) ≡ true → HoldsAt ext db name rule
of_rule ext db all name label buckets (TreeIndex columns unique) now late mirror ours = now refl
of_rule ext db all name label buckets (HashIndex columns) now late mirror ours = now refl
of_rule ext db all name label buckets (JoinIndex side columns other others) now late mirror ours = now refl
of_rule ext db all name label buckets (Stats column low width) now late mirror ours = now refl
of_rule ext db all name label buckets (Check pred false) now late mirror ours = now refl
of_rule ext db all name label buckets (Check pred true) now late mirror ours = not-false _ late
of_rule ext db all name label buckets (Refers side columns other others mode false) now late mirror ours = now refl
of_rule ext db all name label buckets (Refers Main columns other others mode true) now late mirror ours = not-false _ late
of_rule ext db all name label buckets (Refers Mirror columns other others mode true) now late mirror ours =
    let main : IsMirrorOf db name (attached label (Refers Mirror columns other others mode true) buckets) = mirror refl in
    let tie : main_of name (Refers Mirror columns other others mode true) ≡ Some (main.other, main.main.rule) = mirrors-mirror main.other name main.main.rule (Refers Mirror columns other others mode true) main.mirror in
    let same : (other, Refers Main others name columns mode true) ≡ (main.other, main.main.rule) = same_Some _ _ tie in
    not-false _ (subst (λ (m : Name × Rule). (is_tested_late m.1 && not (holds (box_of ext m.1) db m.0 m.1)) ≡ false) (sym same) (late_at ext db main.other main.main.name main.main all main.stands))
of_rule ext db all name label buckets (Trigger on pred act deferred) now late mirror ours = now refl
of_rule ext db all name label buckets (Foreign code desc) now late mirror ours = absurd (cc)

-- ---- all rules
pub commit_sound : (ext : Extensions) (db : Db) → IsLawful ext db → IsSoundNow ext db → first_failing ext db db ≡ None → IsSound ext db
commit_sound ext db lawful now none = λ k d below j a within.
    let passes = all_pass ext db db none in
    of_rule ext db passes _ _ _ _ (now k d below j a within) (passes k d below j a within) ((lawful.relations k d below).mirrors j a within)
