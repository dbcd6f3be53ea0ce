-- What is kept beside the pages, trimmed or cut to a point.
use Rattle.std.proofs.Common.{◌≡◌, ℕ, ◌≤◌, List, [], ◌++◌, length, take, drop, All, sym, ap, subst, ◌∙◌, arith}
use Rattle.std.proofs.Math.Seq.{take-length}
use Rattle.std.proofs.lemmas.List.{drop_all, length-append, length-drop, length-take-le, nil_from_length, take-append-le, take-take}
use Rattle.sb_rule.specs.declared.action.Action.{Action}
use Rattle.sb_fold.specs.Outcome.{Entry, Queue}
use Rattle.sb_deferred.specs.Waiting.{IsFront, IsWithin, mark_of, nothing}
use Rattle.sb_registry.specs.Boxes.{Meanings}
use Rattle.sb_map.specs.declared.place.Place.{Place}
use Rattle.sb_tables.specs.Tables.{Kept}
use Rattle.sb_tables.specs.OpenRelation.{OpenRelation}
use Rattle.sb_tables.specs.Opened.{IsOpen}
use Rattle.sb_txn.specs.Parts.{Parts}
use Rattle.sb_space.specs.Works as space
use Rattle.sb_tables.specs.Work.{Work}
use Rattle.sb_tables.specs.Working.{AreOpened, left_of}
use Rattle.sb_transactions.specs.declared.transactions.Point.{Point}
use Rattle.sb_transactions.specs.Transactions.{IsCutTo, IsNotBehind, IsTrimmed, IsUsable, last_open, waited_at}
use Rattle.sb_transactions.proofs.StayLemmas.{AreOpened-last, last_all, none_open}

pub Queue-same : (p q : Queue) → p.actions ≡ q.actions → p.entries ≡ q.entries → p ≡ q
Queue-same p q actions entries = λ i. record { actions = actions i; entries = entries i }

pub take_front : {A : Type 0} (n : ℕ) (old more new : List A) → new ≡ old ++ more → n ≤ length old → take n new ≡ take n old
take_front n old more new is less = ap (take n) is ∙ take-append-le n old more less

pub front_long : {A : Type 0} (old more new : List A) → new ≡ old ++ more → length old ≤ length new
front_long old more new is = omega (arith, ap length is, length-append old more)

-- ---- new, or trimmed
pub left_same : (old new : Work) → new.done ≡ old.done → new.queue ≡ old.queue → left_of new ≡ left_of old
left_same old new done queue = λ i. record { actions = drop (done i) (queue i).actions; entries = (queue i).entries }

-- a new one can be worked on
pub IsUsable-first : (m : Meanings) (place : Place) (tx : ℕ) (p : Parts) (w : Work) (ones : List OpenRelation) → space.Serves tx p → place.owner ≡ 2 → All (IsOpen m) ones → w.opened.items ≡ last_open ones
    → w.done ≡ 0 → IsUsable m place tx p w
IsUsable-first m place tx p w ones serves owner all opened done = record {
  ready = serves;
  owner = owner;
  opened = subst (λ (os : List OpenRelation). All (IsOpen m) os) (sym opened) (last_all (IsOpen m) ones all);
  within = omega arith;
}

-- so can one that was cut
pub IsUsable-none : (m : Meanings) (place : Place) (tx : ℕ) (p : Parts) (w : Work) → space.Serves tx p → place.owner ≡ 2 → w.opened.items ≡ [] → w.done ≤ length w.queue.actions → IsUsable m place tx p w
IsUsable-none m place tx p w serves owner none within = record { ready = serves; owner = owner; opened = none_open m w.opened.items none; within = within }

-- and one of which the last relations stay open
pub IsUsable-trimmed : (m : Meanings) (place : Place) (tx : ℕ) (p : Parts) (old new : Work) → IsTrimmed old new → IsUsable m place tx p old → IsUsable m place tx p new
IsUsable-trimmed m place tx p old new trimmed usable = record {
  ready = usable.ready;
  owner = usable.owner;
  opened = subst (λ (os : List OpenRelation). All (IsOpen m) os) (sym trimmed.opened) (last_all (IsOpen m) old.opened.items usable.opened);
  within = let done = trimmed.done in let long = ap (λ (q : Queue). length q.actions) trimmed.queue in let within = usable.within in omega arith;
}

pub trimmed_opened : (m : Meanings) (kept : List Kept) (old new : Work) → IsTrimmed old new → AreOpened m kept old.opened.items → AreOpened m kept new.opened.items
trimmed_opened m kept old new trimmed are =
    subst (λ (os : List OpenRelation). AreOpened m kept os) (sym trimmed.opened) (AreOpened-last m kept old.opened.items are)

-- ---- cut to a point
module _ (point : Point) (old new : Work) (queue : IsWithin point.queue old.queue) (cut : IsCutTo point old new) where
  pub cut_within : point.done ≤ point.queue.actions → new.done ≤ length new.queue.actions
  cut_within less =
      let done = cut.done in
      let long = ap (λ (xs : List Action). length xs) cut.actions in
      let short = length-take-le point.queue.actions old.queue.actions queue.actions in
      omega arith

  pub cut_left : left_of new ≡ waited_at point old.queue
  cut_left = λ i. record { actions = drop (cut.done i) (cut.actions i); entries = cut.entries i }

  module _ (one : Point) (less : IsNotBehind one point) where
    pub cut_gone : take one.gone new.gone.items ≡ take one.gone old.gone.items
    cut_gone = ap (take one.gone) cut.gone ∙ take-take one.gone point.gone old.gone.items less.gone

    pub cut_waited : waited_at one new.queue ≡ waited_at one old.queue
    cut_waited =
        let actions = ap (take one.queue.actions) cut.actions ∙ take-take one.queue.actions point.queue.actions old.queue.actions less.actions in
        let entries = ap (take one.queue.entries) cut.entries ∙ take-take one.queue.entries point.queue.entries old.queue.entries less.entries in
        λ i. record { actions = drop one.done (actions i); entries = entries i }

    pub cut_queue : IsWithin one.queue new.queue
    cut_queue = record {
      actions =
          let long = ap (λ (xs : List Action). length xs) cut.actions in
          let short = length-take-le point.queue.actions old.queue.actions queue.actions in
          let fewer = less.actions in
          omega arith;
      entries =
          let long = ap (λ (xs : List Entry). length xs) cut.entries in
          let short = length-take-le point.queue.entries old.queue.entries queue.entries in
          let fewer = less.entries in
          omega arith;
    }

    pub cut_long : point.gone ≤ length old.gone.items → one.gone ≤ length new.gone.items
    cut_long enough =
        let long = ap (λ (xs : List ℕ). length xs) cut.gone in
        let short = length-take-le point.gone old.gone.items enough in
        let fewer = less.gone in
        omega arith

-- ---- what came behind
module _ (point : Point) (old new : Queue) (front : IsFront old new) (within : IsWithin point.queue old) where
  pub front_within : IsWithin point.queue new
  front_within = record {
    actions = let long = front_long old.actions front.later_actions new.actions front.actions in let less = within.actions in omega arith;
    entries = let long = front_long old.entries front.later_entries new.entries front.entries in let less = within.entries in omega arith;
  }

  pub front_waited : waited_at point new ≡ waited_at point old
  front_waited =
      let actions = take_front point.queue.actions old.actions front.later_actions new.actions front.actions within.actions in
      let entries = take_front point.queue.entries old.entries front.later_entries new.entries front.entries within.entries in
      λ i. record { actions = drop point.done (actions i); entries = entries i }

-- ---- at a mark
pub mark_waited : (point : Point) (w : Work) → point.queue ≡ mark_of w.queue → point.done ≡ w.done → waited_at point w.queue ≡ left_of w
mark_waited point w queue done =
    let actions = ap (λ (n : ℕ). take n w.queue.actions) (λ i. (queue i).actions) ∙ take-length w.queue.actions in
    let entries = ap (λ (n : ℕ). take n w.queue.entries) (λ i. (queue i).entries) ∙ take-length w.queue.entries in
    λ i. record { actions = drop (done i) (actions i); entries = entries i }

-- ---- nothing is left
pub left_none : (w : Work) → length w.queue.actions ≤ w.done → length w.queue.entries ≡ 0 → left_of w ≡ nothing
left_none w actions entries = Queue-same (left_of w) nothing (drop_all w.done w.queue.actions actions) (nil_from_length w.queue.entries entries)

pub left_short : (w : Work) → left_of w ≡ nothing → (length w.queue.actions ≤ w.done) × (length w.queue.entries ≡ 0)
left_short w none = (
  let short = length-drop w.done w.queue.actions in let is = ap (λ (q : Queue). length q.actions) none in omega arith,
  ap (λ (q : Queue). length q.entries) none,
)
