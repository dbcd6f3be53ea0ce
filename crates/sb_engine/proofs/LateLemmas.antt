-- What waits as attachments are asked one by one.
use Rattle.std.proofs.Common.{◌≡◌, ℕ, zero, suc, ◌+◌, ◌<◌, ◌≤◌, cond, List, [], ◌∷◌, ◌++◌, length, map, take, drop, Some, None, refl, sym, ap, ◌∙◌, append_assoc, append-nil, length-append, get_or, arith}
use Rattle.std.specs.List.{flat_map, slice_get, list_any}
use Rattle.std.proofs.lemmas.Option.{same_Some}
use Rattle.sb_rule.specs.declared.action.Action.{Action}
use Rattle.sb_rule.specs.declared.change.Change.{Change}
use Rattle.sb_relation.specs.Db.{Name, Attached}
use Rattle.sb_relation.specs.Rules.{late_actions, late_checks}
use Rattle.sb_fold.specs.Fold.{attachments_at, queue_late}
use Rattle.sb_fold.specs.Outcome.{Entry, Going, Queue, is_entry, with_waiting}
use Rattle.sb_deferred.specs.Waiting.{IsFront, check_of, with_action, with_check}
use Rattle.sb_drive.specs.Spaces.{LeadsOn}
use Rattle.sb_engine.specs.declared.running.Work.{Work}
use Rattle.sb_engine.specs.Asking.{with_late}
use Rattle.sb_engine.specs.Working.{left_of, queue_first, queue_of}

-- ---- lists
take_one : {A : Type 0} (xs : List A) (i : ℕ) (x : A) → slice_get xs i ≡ Some x → take (suc i) xs ≡ take i xs ++ (x ∷ [])
take_one [] i x at = absurd (cc)
take_one {A} (y ∷ xs) zero x at = ap (λ (z : A). z ∷ []) (same_Some y x at)
take_one {A} (y ∷ xs) (suc i) x at = ap (λ (l : List A). y ∷ l) (take_one xs i x at)

take_whole : {A : Type 0} (xs : List A) (i : ℕ) → length xs ≤ i → take i xs ≡ xs
take_whole [] zero le = refl
take_whole [] (suc i) le = refl
take_whole (x ∷ xs) zero le = absurd (omega arith)
take_whole {A} (x ∷ xs) (suc i) le = ap (λ (l : List A). x ∷ l) (take_whole xs i (omega arith))

flat_one : {A B : Type 0} (f : A → List B) (xs : List A) (x : A) → flat_map f (xs ++ (x ∷ [])) ≡ flat_map f xs ++ f x
flat_one f [] x = append-nil (f x)
flat_one {A} {B} f (y ∷ xs) x = ap (λ (l : List B). f y ++ l) (flat_one f xs x) ∙ sym (append_assoc (f y) (flat_map f xs) (f x))

waiting_more : (waiting : List Entry) (first second : List Entry) → with_waiting waiting (first ++ second) ≡ with_waiting (with_waiting waiting first) second
waiting_more waiting [] second = refl
waiting_more waiting (e ∷ first) second = waiting_more (cond (list_any (is_entry e) waiting) waiting (waiting ++ e ∷ [])) first second

-- ---- one attachment more
pub queue_first-none : (name : Name) (c : Change) (g : Going) → queue_first 0 name c g ≡ g.queue
queue_first-none name c g = λ i. record { actions = append-nil g.queue.actions i; entries = g.queue.entries }

pub queue_first-more : (i : ℕ) (name : Name) (c : Change) (g : Going) (a : Attached) → slice_get (attachments_at g.db name) i ≡ Some a
    → with_late (queue_first i name c g) name a.name (late_actions g.db name a.rule c) (late_checks g.db name a.rule c) ≡ queue_first (i + 1) name c g
queue_first-more i name c g a at =
    let first = take i (attachments_at g.db name) in
    let next : suc i ≡ i + 1 = omega arith in
    let actions = λ (x : Attached). late_actions g.db name x.rule c in
    let entries = λ (x : Attached). map (λ entry. check_of name x.name entry) (late_checks g.db name x.rule c) in
    let one : queue_of (first ++ (a ∷ [])) name c g ≡ queue_first (i + 1) name c g = ap (λ (l : List Attached). queue_of l name c g) (sym (take_one (attachments_at g.db name) i a at)) ∙ ap (λ (n : ℕ). queue_first n name c g) next in
    let more_actions = ap (λ (l : List Action). g.queue.actions ++ l) (flat_one actions first a) ∙ sym (append_assoc g.queue.actions (flat_map actions first) (actions a)) in
    let more_entries = ap (λ (l : List Entry). with_waiting g.queue.entries l) (flat_one entries first a) ∙ waiting_more g.queue.entries (flat_map entries first) (entries a) in
    sym (λ j. record { actions = more_actions j; entries = more_entries j }) ∙ one

-- with all of them
pub queue_first-all : (i : ℕ) (name : Name) (c : Change) (g : Going) → length (attachments_at g.db name) ≤ i → queue_first i name c g ≡ (queue_late name c g).queue
queue_first-all i name c g all = ap (λ (l : List Attached). queue_of l name c g) (take_whole (attachments_at g.db name) i all)

-- ---- what is left of it
pub drop_more : {A : Type 0} (n : ℕ) (xs ys : List A) → n ≤ length xs → drop n (xs ++ ys) ≡ drop n xs ++ ys
drop_more zero xs ys le = refl
drop_more (suc n) [] ys le = absurd (omega arith)
drop_more (suc n) (x ∷ xs) ys le = drop_more n xs ys (omega arith)

pub left-late : (old new : Work) (name label : Name) (late : List Action) (checks : List (List ℕ)) → new.done ≡ old.done → old.done ≤ length old.queue.actions
    → new.queue ≡ with_late old.queue name label late checks → left_of new ≡ with_late (left_of old) name label late checks
left-late old new name label late checks done le is =
    let waits = ap (λ (n : ℕ). drop n new.queue.actions) done ∙ ap (λ (q : Queue). drop old.done q.actions) is ∙ drop_more old.done old.queue.actions late le in
    let entries = ap (λ (q : Queue). q.entries) is in
    λ j. record { actions = waits j; entries = entries j }

-- ---- what a call comes to
-- one that only looks, behind others
pub leads_more : {S : Type 0} (Leads : ℕ → S → S → Type 0) → ((k l : ℕ) (a b c : S) → Leads k a b → Leads l b c → Leads (k + l) a c) → (a b c : S) → LeadsOn Leads a b → Leads 0 b c → LeadsOn Leads a c
leads_more Leads on a b c first second = (first.0 + 0, on first.0 0 a b c first.1 second)

-- no less waits
pub within_front : (old new : Queue) (n : ℕ) → IsFront old new → n ≤ length old.actions → n ≤ length new.actions
within_front old new n front within = omega (arith, within, ap (λ (l : List Action). length l) front.actions, length-append old.actions front.later_actions)

-- the first of what is left
pub drop_first : {A : Type 0} (n : ℕ) (xs : List A) (x : A) → slice_get xs n ≡ Some x → drop n xs ≡ x ∷ drop (suc n) xs
drop_first n [] x at = absurd (cc)
drop_first {A} zero (y ∷ xs) x at = ap (λ (z : A). z ∷ xs) (same_Some y x at)
drop_first (suc n) (y ∷ xs) x at = drop_first n xs x at

pub drop_none : {A : Type 0} (n : ℕ) (xs : List A) → slice_get xs n ≡ None → drop n xs ≡ []
drop_none zero [] at = refl
drop_none (suc n) [] at = refl
drop_none zero (x ∷ xs) at = absurd (cc)
drop_none (suc n) (x ∷ xs) at = drop_none n xs at

-- ---- one by one
take_item : {A : Type 0} (xs : List A) (i : ℕ) (x : A) → i < length xs → x ≡ get_or xs i x → take (suc i) xs ≡ take i xs ++ (x ∷ [])
take_item [] i x lt is = absurd (omega arith)
take_item {A} (y ∷ xs) zero x lt is = ap (λ (z : A). z ∷ []) (sym is)
take_item {A} (y ∷ xs) (suc i) x lt is = ap (λ (l : List A). y ∷ l) (take_item xs i x (omega arith) is)

-- the first so many of some actions behind what waits
abbrev pub with_first : Queue → List Action → ℕ → Queue
with_first q late i = record { actions = q.actions ++ take i late; entries = q.entries }

pub first-none : (q : Queue) (late : List Action) → q ≡ with_first q late 0
first-none q late = λ j. record { actions = sym (append-nil q.actions) j; entries = q.entries }

pub first-all : (q : Queue) (late : List Action) (i : ℕ) → length late ≤ i → with_first q late i ≡ record { actions = q.actions ++ late; entries = q.entries }
first-all q late i all = ap (λ (l : List Action). record { actions = q.actions ++ l; entries = q.entries }) (take_whole late i all)

pub first-more : (base q new : Queue) (late : List Action) (i : ℕ) (x copy : Action) → i < length late → x ≡ get_or late i x → copy ≡ x → q ≡ with_first base late i → new ≡ with_action q copy
    → new ≡ with_first base late (i + 1)
first-more base q new late i x copy lt is same was put =
    let next : suc i ≡ i + 1 = omega arith in
    let items : (with_first base late i).actions ++ (copy ∷ []) ≡ base.actions ++ take (i + 1) late =
    append_assoc base.actions (take i late) (copy ∷ []) ∙ ap (λ (z : Action). base.actions ++ (take i late ++ (z ∷ []))) same
    ∙ ap (λ (l : List Action). base.actions ++ l) (sym (take_item late i x lt is) ∙ ap (λ (n : ℕ). take n late) next) in
    put ∙ ap (λ (w : Queue). with_action w copy) was ∙ (λ j. record { actions = items j; entries = base.entries })

-- the first so many of some entries
abbrev pub with_checks : Queue → Name → Name → List (List ℕ) → ℕ → Queue
with_checks q relation name checks i = with_late q relation name [] (take i checks)

pub checks-none : (q : Queue) (relation name : Name) (checks : List (List ℕ)) → q ≡ with_checks q relation name checks 0
checks-none q relation name checks = λ j. record { actions = sym (append-nil q.actions) j; entries = q.entries }

pub checks-all : (q : Queue) (relation name : Name) (checks : List (List ℕ)) (i : ℕ) → length checks ≤ i → with_checks q relation name checks i ≡ with_late q relation name [] checks
checks-all q relation name checks i all = ap (λ (l : List (List ℕ)). with_late q relation name [] l) (take_whole checks i all)

map_one : {A B : Type 0} (f : A → B) (xs : List A) (x : A) → map f (xs ++ (x ∷ [])) ≡ map f xs ++ (f x ∷ [])
map_one f [] x = refl
map_one {A} {B} f (y ∷ xs) x = ap (λ (l : List B). f y ∷ l) (map_one f xs x)

pub checks-more : (base q new : Queue) (relation name : Name) (checks : List (List ℕ)) (i : ℕ) (x copy : List ℕ) (owner label : Name) → i < length checks → x ≡ get_or checks i x → copy ≡ x → owner ≡ relation → label ≡ name
    → q ≡ with_checks base relation name checks i → new ≡ with_check q (check_of owner label copy) → new ≡ with_checks base relation name checks (i + 1)
checks-more base q new relation name checks i x copy owner label lt is same same_owner same_label was put =
    let f = λ (entry : List ℕ). check_of relation name entry in
    let next : suc i ≡ i + 1 = omega arith in
    let e : check_of owner label copy ≡ f x = ap (λ (n : Name). check_of n label copy) same_owner ∙ ap (λ (n : Name). check_of relation n copy) same_label ∙ ap f same in
    let entries : with_waiting (with_waiting base.entries (map f (take i checks))) (f x ∷ []) ≡ with_waiting base.entries (map f (take (i + 1) checks)) =
    sym (waiting_more base.entries (map f (take i checks)) (f x ∷ []))
    ∙ ap (λ (l : List Entry). with_waiting base.entries l) (sym (map_one f (take i checks) x) ∙ ap (λ (l : List (List ℕ)). map f l) (sym (take_item checks i x lt is) ∙ ap (λ (n : ℕ). take n checks) next)) in
    put ∙ ap (λ (w : Queue). with_check w (check_of owner label copy)) was ∙ ap (λ (x : Entry). with_check (with_checks base relation name checks i) x) e
    ∙ (λ j. record { actions = base.actions ++ []; entries = entries j })
