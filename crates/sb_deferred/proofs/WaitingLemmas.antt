-- What waits after more is put off.
use Rattle.std.proofs.Common.{◌≡◌, ℕ, Bool, true, false, cond, ◌||◌, List, [], ◌∷◌, ◌++◌, refl, sym, ap, subst, ◌∙◌, inl, inr, get_or}
use Rattle.std.specs.Prelude.{All, map}
use Rattle.std.specs.List.{list_any, flat_map}
use Rattle.std.proofs.lemmas.Bool.{true≢false, or_left, or_right, or_cases}
use Rattle.std.proofs.lemmas.List.Elements.{All-nil, All-cons}
use Rattle.std.proofs.lemmas.List.Folds.{list_any-append}
use Rattle.sb_rule.specs.declared.change.Change.{Change}
use Rattle.sb_relation.specs.Build.{mirror_name}
use Rattle.sb_relation.specs.Db.{Name, Attached, Db}
use Rattle.sb_relation.specs.Rules.{late_checks}
use Rattle.sb_fold.specs.Fold.{attachments_at, waiting_entries, queue_late}
use Rattle.sb_fold.specs.Outcome.{Entry, Queue, Going, is_entry, with_waiting}
use Rattle.sb_deferred.specs.Complete.{is_waiting, IsWaiting, is_either_waiting}
use Rattle.sb_deferred.specs.Entries.{entry_same}
use Rattle.sb_deferred.specs.Waiting.{check_of, IsFront}

-- ---- tests on lists that are joined
any_left : {A : Type 0} (test : A → Bool) (xs ys : List A) → list_any test xs ≡ true → list_any test (xs ++ ys) ≡ true
any_left test xs ys some = list_any-append test xs ys ∙ or_left (list_any test xs) _ some

any_right : {A : Type 0} (test : A → Bool) (xs ys : List A) → list_any test ys ≡ true → list_any test (xs ++ ys) ≡ true
any_right test xs ys some = list_any-append test xs ys ∙ or_right (list_any test xs) _ some

-- what is among an element's own is among all
any_of_each : {A B : Type 0} (f : A → List B) (items : List A) → All (λ a. (test : B → Bool) → list_any test (f a) ≡ true → list_any test (flat_map f items) ≡ true) items
any_of_each f [] = All-nil _
any_of_each {A = A} {B = B} f (a ∷ items) =
    let later = any_of_each f items in
    All-cons (λ (x : A). (test : B → Bool) → list_any test (f x) ≡ true → list_any test (f a ++ flat_map f items) ≡ true) a items
    (λ test some. any_left test (f a) (flat_map f items) some)
    (λ k d below test some. any_right test (f a) (flat_map f items) (later k d below test some))

-- ---- entries
-- what waits goes on waiting
still_waits : (x : Entry) (waiting more : List Entry) → list_any (is_entry x) waiting ≡ true → list_any (is_entry x) (with_waiting waiting more) ≡ true
still_waits x waiting [] waits = waits
still_waits x waiting (y ∷ more) waits =
    still_waits x (cond (list_any (is_entry y) waiting) waiting (waiting ++ y ∷ [])) more (by (list_any (is_entry y) waiting))
  where
    by : (b : Bool) → list_any (is_entry x) (cond b waiting (waiting ++ y ∷ [])) ≡ true
    by true = waits
    by false = any_left (is_entry x) waiting (y ∷ []) waits

-- what is put off waits
now_waits : (x : Entry) (waiting more : List Entry) → list_any (is_entry x) more ≡ true → list_any (is_entry x) (with_waiting waiting more) ≡ true
now_waits x waiting [] comes = absurd (true≢false (sym comes))
now_waits x waiting (y ∷ more) comes = by (is_entry x y) refl comes (now_waits x (cond (list_any (is_entry y) waiting) waiting (waiting ++ y ∷ [])) more)
  where
    put : (b : Bool) → list_any (is_entry y) waiting ≡ b → is_entry x y ≡ true → list_any (is_entry x) (cond b waiting (waiting ++ y ∷ [])) ≡ true
    put true is same = subst (λ (e : Entry). list_any (is_entry e) waiting ≡ true) (sym ((entry_same x y).0 same)) is
    put false is same = any_right (is_entry x) waiting (y ∷ []) (or_left (is_entry x y) false same)

    by : (b : Bool) → is_entry x y ≡ b → (b || list_any (is_entry x) more) ≡ true
        → (list_any (is_entry x) more ≡ true → list_any (is_entry x) (with_waiting (cond (list_any (is_entry y) waiting) waiting (waiting ++ y ∷ [])) more) ≡ true)
        → list_any (is_entry x) (with_waiting (cond (list_any (is_entry y) waiting) waiting (waiting ++ y ∷ [])) more) ≡ true
    by true is comes rest = still_waits x (cond (list_any (is_entry y) waiting) waiting (waiting ++ y ∷ [])) more (put (list_any (is_entry y) waiting) refl is)
    by false is comes rest = rest comes

-- ---- queues
-- all that waited still waits
abbrev pub KeepsWaiting : Queue → Queue → Type 0
KeepsWaiting q later = (relation name : Name) (entry : List ℕ) → IsWaiting q relation name entry → IsWaiting later relation name entry

pub keeps_behind : (old new : Queue) → IsFront old new → KeepsWaiting old new
keeps_behind old new front relation name entry waits =
    ap (list_any (is_entry (check_of relation name entry))) front.entries ∙ any_left (is_entry (check_of relation name entry)) old.entries front.later_entries waits

pub keeps_late : (name : Name) (c : Change) (g : Going) → KeepsWaiting g.queue (queue_late name c g).queue
keeps_late name c g relation label entry waits = still_waits (check_of relation label entry) g.queue.entries (waiting_entries g.db name c) waits

pub either_still : (q later : Queue) → KeepsWaiting q later → (relation name other : Name) (entry : List ℕ) → is_either_waiting q relation name other entry ≡ true
    → is_either_waiting later relation name other entry ≡ true
either_still q later keeps relation name other entry waits = elim (or_cases (is_waiting q relation name entry) (is_waiting q other (mirror_name relation name) entry) waits) [
  | inl own ↦ or_left (is_waiting later relation name entry) _ (keeps relation name entry own)
  | inr mirrored ↦ or_right (is_waiting later relation name entry) _ (keeps other (mirror_name relation name) entry mirrored)
]

-- the entry that an attachment of the changed relation puts off waits
abbrev pub PutsOff : Db → Queue → Name → Change → Attached → Type 0
PutsOff db later name c a = (entry : List ℕ) → late_checks db name a.rule c ≡ entry ∷ [] → IsWaiting later name a.name entry

pub each_puts_off : (name : Name) (c : Change) (g : Going) → All (PutsOff g.db (queue_late name c g).queue name c) (attachments_at g.db name)
each_puts_off name c g = λ k d below entry is.
    let a : Attached = get_or (attachments_at g.db name) k d in
    let x : Entry = check_of name a.name entry in
    now_waits x g.queue.entries (waiting_entries g.db name c)
    (any_of_each (λ (b : Attached). map (λ (e : List ℕ). check_of name b.name e) (late_checks g.db name b.rule c)) (attachments_at g.db name) k d below (is_entry x)
    (ap (λ (l : List (List ℕ)). list_any (is_entry x) (map (λ (e : List ℕ). check_of name a.name e) l)) is ∙ or_left (is_entry x x) false ((entry_same x x).1 refl)))
