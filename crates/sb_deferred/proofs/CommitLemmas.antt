-- At first nothing has to wait, and at the commit no deferred rule fails where no entry does.
use Rattle.std.proofs.Common.{◌≡◌, ℕ, Bool, true, false, not, List, [], ◌∷◌, cond, Option, Some, None, refl, sym, ap, subst, ◌∙◌, get_or}
use Rattle.std.specs.Prelude.{All, Any}
use Rattle.std.specs.List.{find}
use Rattle.std.proofs.lemmas.Bool.{true≢false, false_from_ne_true, and_parts, not-true}
use Rattle.std.proofs.lemmas.List.Elements.{All-nil, All-cons, All-head, All-tail, All-weaker}
use Rattle.std.proofs.lemmas.List.Folds.{Any-from_list_any}
use Rattle.sb_value.proofs.Searches.{find-none}
use Rattle.sb_rule.specs.declared.rule.Rule.{Rule}
use Rattle.sb_relation.specs.Build.{mirror_name, mirror_of}
use Rattle.sb_relation.specs.Db.{Name, Attached, Relation, Db, relation_at}
use Rattle.sb_relation.specs.Rules.{holds, entry_fails}
use Rattle.sb_fold.specs.Extensions.{Extensions, box_of}
use Rattle.sb_fold.specs.Finish.{is_tested_late, fails_late, first_failing}
use Rattle.sb_fold.specs.Fold.{attachments_at}
use Rattle.sb_fold.specs.Outcome.{Entry, Queue, is_entry}
use Rattle.sb_fold.specs.Building.{HasMirror}
use Rattle.sb_deferred.specs.Complete.{IsWaiting, TellsOf}
use Rattle.sb_deferred.specs.CompleteLaws.{CompleteAtFirst, NoneFails, NoneFailsOf, NothingFails, NoEntryFails, NothingFailsAtAll}
use Rattle.sb_deferred.specs.Entries.{entry_same}
use Rattle.sb_deferred.specs.Waiting.{nothing, check_of}
use Rattle.sb_deferred.proofs.RelationLemmas.{attachments_of, rule_found, all_at}
use Rattle.sb_deferred.proofs.RowLemmas.{each_found}
use Rattle.sb_deferred.proofs.TellingLemmas.{tells_passing, holds_told}

-- ---- what is tested over whole relations
abbrev Passes : Extensions → Db → Name → Relation → Type 0
Passes ext db name r = All (λ a. fails_late ext db name a ≡ false) r.attachments

abbrev failing_or : Option (Name × Name) → Name → Option Attached → Option (Name × Name)
failing_or rest name None = rest
failing_or rest name (Some a) = Some (name, a.name)

all_pass : (ext : Extensions) (db others : Db) → first_failing ext db others ≡ None → All (λ e. Passes ext db e.0 e.1) others
all_pass ext db [] e = All-nil _
all_pass ext db ((name, r) ∷ others) e = of_found (find (fails_late ext db name) r.attachments) refl e (all_pass ext db others)
  where
    of_found : (found : Option Attached) → find (fails_late ext db name) r.attachments ≡ found → failing_or (first_failing ext db others) name found ≡ None
        → (first_failing ext db others ≡ None → All (λ e. Passes ext db e.0 e.1) others) → All (λ e. Passes ext db e.0 e.1) ((name, r) ∷ others)
    of_found None is none rest = All-cons (λ e. Passes ext db e.0 e.1) (name, r) others (find-none (fails_late ext db name) r.attachments is) (rest none)
    of_found (Some a) is none rest = absurd (cc)

none_where_all_pass : {A : Type 0} (test : A → Bool) (items : List A) → All (λ a. test a ≡ false) items → find test items ≡ None
none_where_all_pass test [] all = refl
none_where_all_pass test (x ∷ xs) all =
    ap (λ (b : Bool). cond b (Some x) (find test xs)) (All-head (λ a. test a ≡ false) x xs all) ∙ none_where_all_pass test xs (All-tail (λ a. test a ≡ false) x xs all)

none_failing : (ext : Extensions) (db others : Db) → All (λ e. Passes ext db e.0 e.1) others → first_failing ext db others ≡ None
none_failing ext db [] all = refl
none_failing ext db ((name, r) ∷ others) all =
    ap (failing_or (first_failing ext db others) name) (none_where_all_pass (fails_late ext db name) r.attachments (All-head (λ e. Passes ext db e.0 e.1) (name, r) others all))
    ∙ none_failing ext db others (All-tail (λ e. Passes ext db e.0 e.1) (name, r) others all)

-- ---- at first
pub first-complete : CompleteAtFirst
first-complete ext db none relation = by (relation_at db relation) refl
  where
    by : (o : Option Relation) → relation_at db relation ≡ o → All (TellsOf db nothing relation) (attachments_of o)
    by None is = All-nil _
    by (Some r) is =
        All-weaker (λ (a : Attached). fails_late ext db relation a ≡ false) (TellsOf db nothing relation) (λ a passes. tells_passing ext db nothing relation a passes) r.attachments
        (all_at (Passes ext db) db relation r (all_pass ext db db none) is)

-- ---- at the commit
pub nothing-fails : NothingFails
nothing-fails ext db q complete relation = λ k d below late none mirrored.
    let a : Attached = get_or (attachments_at db relation) k d in
    holds_told (box_of ext a.rule) db q relation a.name a.rule (complete relation k d below) late none mirrored

-- the mirror is an attachment for which no entry fails
none_of_mirror : (db : Db) (q : Queue) → ((relation : Name) → All (λ a. NoneFails db q relation a.name a.rule) (attachments_at db relation)) → (label : Name) (mirror : Option (Name × Rule)) → HasMirror db label mirror
    → NoneFailsOf db q label mirror
none_of_mirror db q none label None has = tt
none_of_mirror db q none label (Some (other, rule)) has =
    let it : NoneFails db q other has.0.name has.0.rule × (has.0.name ≡ label) = rule_found (λ a. NoneFails db q other a.name a.rule) db other label has.0 (none other) has.1 in
    subst (NoneFails db q other label) has.2 (subst (λ (n : Name). NoneFails db q other n has.0.rule) it.1 it.0)

passes_late : (ext : Extensions) (db : Db) (relation : Name) (a : Attached) → (is_tested_late a.rule ≡ true → holds (box_of ext a.rule) db relation a.rule ≡ true) → fails_late ext db relation a ≡ false
passes_late ext db relation a held = false_from_ne_true (fails_late ext db relation a) (λ fails.
    let parts = and_parts (is_tested_late a.rule) (not (holds (box_of ext a.rule) db relation a.rule)) fails in
    true≢false (sym (held parts.0) ∙ not-true (holds (box_of ext a.rule) db relation a.rule) parts.1))

-- what holds of each entry holds of one that waits
all_waiting : (P : Entry → Type 0) (q : Queue) → All P q.entries → (relation name : Name) (entry : List ℕ) → IsWaiting q relation name entry → P (check_of relation name entry)
all_waiting P q all relation name entry waits =
    let x : Entry = check_of relation name entry in
    let one : Any (λ (e : Entry). is_entry x e ≡ true) q.entries = Any-from_list_any (is_entry x) q.entries waits in
    subst P (one.3 ∙ sym ((entry_same x one.1).0 one.4)) (all one.0 one.1 one.2)

each_attachment : (db : Db) (q : Queue) → NoEntryFails db q → (relation : Name) → All (λ a. NoneFails db q relation a.name a.rule) (attachments_at db relation)
each_attachment db q none relation = λ k d below entry waits.
    let a : Attached = get_or (attachments_at db relation) k d in
    all_waiting (λ (e : Entry). All (λ (b : Attached). b.name ≡ e.name → entry_fails db e.relation b.rule e.entry ≡ false) (attachments_at db e.relation)) q none relation a.name entry waits k d below refl

pub nothing-fails-at-all : NothingFailsAtAll
nothing-fails-at-all ext db q rises mirrored complete no_entry = none_failing ext db db (λ j e within.
    let one : Name × Relation = get_or db j e in
    let there : relation_at db one.0 ≡ Some one.1 = each_found db rises j e within in
    let none : (relation : Name) → All (λ (a : Attached). NoneFails db q relation a.name a.rule) (attachments_at db relation) = each_attachment db q no_entry in
    subst (λ (o : Option Relation). All (λ a. fails_late ext db one.0 a ≡ false) (attachments_of o)) there (λ k d below.
    let a : Attached = get_or (attachments_at db one.0) k d in
    passes_late ext db one.0 a (λ late. nothing-fails ext db q complete one.0 k d below late (none one.0 k d below)
    (none_of_mirror db q none (mirror_name one.0 a.name) (mirror_of one.0 a.rule) (mirrored one.0 k d below)))))
