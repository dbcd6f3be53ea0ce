-- Work at its begin, at a point, and back there.
use Rattle.std.proofs.Common.{◌≡◌, ℕ, ◌≤◌, false, List, [], length, take, drop, sym, ap, subst, ◌∙◌, arith}
use Rattle.std.proofs.Math.Seq.{take-length}
use Rattle.std.proofs.lemmas.List.Elements.{All-weaker}
use Rattle.sb_relation.specs.Db.{Db}
use Rattle.sb_fold.specs.Outcome.{Going, Queue}
use Rattle.sb_deferred.specs.Waiting.{mark_of, nothing}
use Rattle.sb_log.specs.declared.geometry.Geometry.{Geometry}
use Rattle.sb_registry.specs.Boxes.{Meanings}
use Rattle.sb_drive.specs.Slots.{Slots}
use Rattle.sb_drive.specs.Spaces.{Wanted}
use Rattle.sb_map.specs.declared.place.Place.{Place}
use Rattle.sb_tables.specs.Standing.{Keeps}
use Rattle.sb_tables.specs.OpenRelation.{OpenRelation}
use Rattle.sb_tables.specs.Opened.{IsDurable, IsOpen}
use Rattle.sb_txn.specs.Book.{standing_of}
use Rattle.sb_txn.specs.Parts.{Parts}
use Rattle.sb_space.specs.Table.{slots_in}
use Rattle.sb_space.specs.Transactions.{WasAt}
use Rattle.sb_space.specs.Works.{HasPages}
use Rattle.sb_space.specs.Works as space
use Rattle.sb_space.proofs.GoingBack.{WasAt-mark}
use Rattle.sb_tables.specs.Measures.{AreHeld, measured}
use Rattle.sb_tables.specs.Work.{Work}
use Rattle.sb_tables.specs.Working.{AreOpened, IsOpened, left_of}
use Rattle.sb_transactions.specs.declared.transactions.Point.{Point}
use Rattle.sb_transactions.specs.Transactions.{IsAt, IsCommitted, IsCutTo, IsFirst, IsNotBehind, IsPointOf, IsSettled, IsTrimmed, MayStayOpen, Rests, WasBegun, WasSo, last_open, unused}
use Rattle.sb_transactions.proofs.StayLemmas.{AreOpened-last, none_opened}
use Rattle.sb_transactions.proofs.WorkLemmas.{IsUsable-none, IsUsable-trimmed, cut_gone, cut_left, cut_long, cut_queue, cut_waited, cut_within, left_same, mark_waited, trimmed_opened}

-- ---- trimmed
pub IsAt-trimmed : (m : Meanings) (place : Place) (want : Wanted) (tx : ℕ) (g : Going) (p : Parts) (old new : Work) → IsTrimmed old new → IsAt m place want tx g p old → IsAt m place want tx (unused g) p new
IsAt-trimmed m place want tx g p old new trimmed at = record {
  usable = IsUsable-trimmed m place tx p old new trimmed at.usable;
  slots = at.slots;
  kept = at.kept;
  has = at.has;
  db = at.db;
  keeps = subst (λ (gone : List ℕ). Keeps m IsDurable place.root at.slots gone at.kept) (sym trimmed.gone) at.keeps;
  settled = at.settled;
  opened = trimmed_opened m at.kept old new trimmed at.opened;
  waits = left_same old new trimmed.done trimmed.queue ∙ at.waits;
  picked = trimmed.picks;
  gone = λ none. trimmed.gone ∙ at.gone none;
  aside = subst (λ (gone : List ℕ). AreHeld at.slots gone g.gone.durable) (sym trimmed.gone) at.aside;
}

-- ---- at the begin
module _ (m : Meanings) (root : ℕ) (want : Wanted) (db : Db) (tx : ℕ) (p q : Parts) (sizes : q.store.pool.geometry ≡ p.store.pool.geometry)
    (stays : (want : Wanted) (s : Slots) → HasPages want s p → HasPages want s q) (rests : Rests m root want db p) where
  same : p.store.pool.geometry.pages ≡ q.store.pool.geometry.pages
  same = ap (λ (g : Geometry). g.pages) (sym sizes)

  pub Rests-stays : Rests m root want db q
  Rests-stays = record {
    has = subst (λ (n : ℕ). HasPages want (slots_in n want) q) same (stays want (slots_in p.store.pool.geometry.pages want) rests.has);
    committed = subst (λ (n : ℕ). IsCommitted m root n want db) same rests.committed;
  }

  pub WasBegun-first : standing_of tx q.store.book.actives ≡ 0 → WasBegun m root want db tx q
  WasBegun-first none = record {
    was = subst (λ (n : ℕ). WasAt tx want (slots_in q.store.pool.geometry.pages want) n q) none (WasAt-mark tx want (slots_in q.store.pool.geometry.pages want) q Rests-stays.has);
    committed = Rests-stays.committed;
  }

pub IsAt-first : (m : Meanings) (place : Place) (want : Wanted) (tx : ℕ) (g : Going) (q : Parts) (w : Work) (ones : List OpenRelation) → space.Serves tx q → place.owner ≡ 2 → IsFirst g → Rests m place.root want g.db q
    → MayStayOpen m place.root q.store.pool.geometry.pages want ones → w.queue ≡ nothing → w.done ≡ 0 → w.gone.items ≡ [] → w.opened.items ≡ last_open ones → w.picks.items ≡ [] → IsAt m place want tx g q w
IsAt-first m place want tx g q w ones serves owner first rests stay queue done gone opened picks = record {
  usable = record { ready = serves; owner = owner; opened = All-weaker (IsOpened m rests.committed.kept) (IsOpen m) (λ one is. is.is) w.opened.items are; within = omega arith };
  slots = slots_in q.store.pool.geometry.pages want;
  kept = rests.committed.kept;
  has = rests.has;
  db = rests.committed.is;
  keeps = subst (λ (gone : List ℕ). Keeps m IsDurable place.root (slots_in q.store.pool.geometry.pages want) gone rests.committed.kept) (sym gone) rests.committed.keeps;
  settled = subst (λ (q : Queue). IsSettled m rests.committed.kept q) (sym first.queue) rests.committed.settled;
  opened = are;
  waits = left ∙ sym first.queue;
  picked = picks ∙ sym first.used;
  gone = λ _. gone;
  aside = λ f measure. omega (arith, ap (λ (l : List ℕ). measured f (slots_in q.store.pool.geometry.pages want) l) gone);
}
  where
    are : AreOpened m rests.committed.kept w.opened.items
    are = subst (λ (os : List OpenRelation). AreOpened m rests.committed.kept os) (sym opened) (AreOpened-last m rests.committed.kept ones (stay rests.committed.kept rests.committed.keeps.tables))

    left : left_of w ≡ nothing
    left = subst (λ (n : ℕ). (v : Queue) → v ≡ nothing → record { actions = drop n v.actions; entries = v.entries } ≡ nothing) (sym done) (λ v is. is) w.queue queue

-- ---- at a mark
module _ (tx : ℕ) (point : Point) (p : Parts) (w : Work) (changes : point.space.store.changes ≡ standing_of tx p.store.book.actives) (queue : point.queue ≡ mark_of w.queue) (done : point.done ≡ w.done)
    (gone : point.gone ≡ length w.gone.items) where
  pub IsPointOf-mark : w.done ≤ length w.queue.actions → IsPointOf tx point p w
  IsPointOf-mark within = record {
    changes = λ up. omega arith;
    queue = record { actions = let is : point.queue.actions ≡ length w.queue.actions = λ i. (queue i).actions in omega arith; entries = let is : point.queue.entries ≡ length w.queue.entries = λ i. (queue i).entries in omega arith };
    done = let is : point.queue.actions ≡ length w.queue.actions = λ i. (queue i).actions in omega arith;
    gone = omega arith;
  }

  pub WasSo-mark : (m : Meanings) (place : Place) (want : Wanted) (g : Going) → w.done ≤ length w.queue.actions → IsAt m place want tx g p w → WasSo m place want tx g point p w
  WasSo-mark m place want g within at = record {
    of = IsPointOf-mark within;
    slots = at.slots;
    kept = at.kept;
    was = subst (λ (n : ℕ). WasAt tx want at.slots n p) (sym changes) (WasAt-mark tx want at.slots p at.has);
    db = at.db;
    keeps = subst (λ (xs : List ℕ). Keeps m IsDurable place.root at.slots xs at.kept) (sym all) at.keeps;
    settled = at.settled;
    waited = mark_waited point w queue done ∙ at.waits;
    gone = λ none. all ∙ at.gone none;
    aside = subst (λ (xs : List ℕ). AreHeld at.slots xs g.gone.durable) (sym all) at.aside;
  }
    where
      all : take point.gone w.gone.items ≡ w.gone.items
      all = ap (λ (n : ℕ). take n w.gone.items) gone ∙ take-length w.gone.items

  -- no point of the work is behind it
  pub IsNotBehind-mark : p.store.book.down ≡ false → (one : Point) → IsPointOf tx one p w → IsNotBehind one point
  IsNotBehind-mark up one of = record {
    changes = let less = of.changes up in omega arith;
    actions = let less = of.queue.actions in let is : point.queue.actions ≡ length w.queue.actions = λ i. (queue i).actions in omega arith;
    entries = let less = of.queue.entries in let is : point.queue.entries ≡ length w.queue.entries = λ i. (queue i).entries in omega arith;
    gone = let less = of.gone in omega arith;
  }

-- ---- back at a point
module _ (tx : ℕ) (point : Point) (p q : Parts) (v w : Work) (of : IsPointOf tx point p v) (cut : IsCutTo point v w) where
  pub IsAt-back : ((want : Wanted) (s : Slots) → WasAt tx want s point.space.store.changes p → HasPages want s q) → space.Serves tx q
      → (m : Meanings) (place : Place) (want : Wanted) (g : Going) → place.owner ≡ 2 → WasSo m place want tx g point p v → IsAt m place want tx (unused g) q w
  IsAt-back back serves m place want g owner was = record {
    usable = IsUsable-none m place tx q w serves owner cut.opened (cut_within point v w of.queue cut of.done);
    slots = was.slots;
    kept = was.kept;
    has = back want was.slots was.was;
    db = was.db;
    keeps = subst (λ (xs : List ℕ). Keeps m IsDurable place.root was.slots xs was.kept) (sym cut.gone) was.keeps;
    settled = was.settled;
    opened = none_opened m was.kept w.opened.items cut.opened;
    waits = cut_left point v w of.queue cut ∙ was.waited;
    picked = cut.picks;
    gone = λ none. cut.gone ∙ was.gone none;
    aside = subst (λ (xs : List ℕ). AreHeld was.slots xs g.gone.durable) (sym cut.gone) was.aside;
  }

  -- points that aren't behind it stay
  module _ (standing : standing_of tx q.store.book.actives ≡ point.space.store.changes) (one : Point) (less : IsNotBehind one point) where
    pub IsPointOf-back : IsPointOf tx one p v → IsPointOf tx one q w
    IsPointOf-back is = record {
      changes = λ up. let fewer = less.changes in omega arith;
      queue = cut_queue point v w of.queue cut one less;
      done = is.done;
      gone = cut_long point v w of.queue cut one less of.gone;
    }

    pub WasSo-back : ((want : Wanted) (s : Slots) (n : ℕ) → n ≤ point.space.store.changes → WasAt tx want s n p → WasAt tx want s n q)
        → (m : Meanings) (place : Place) (want : Wanted) (g : Going) → WasSo m place want tx g one p v → WasSo m place want tx g one q w
    WasSo-back earlier m place want g was = record {
      of = IsPointOf-back was.of;
      slots = was.slots;
      kept = was.kept;
      was = earlier want was.slots one.space.store.changes less.changes was.was;
      db = was.db;
      keeps = subst (λ (xs : List ℕ). Keeps m IsDurable place.root was.slots xs was.kept) (sym (cut_gone point v w of.queue cut one less)) was.keeps;
      settled = was.settled;
      waited = cut_waited point v w of.queue cut one less ∙ was.waited;
      gone = λ none. cut_gone point v w of.queue cut one less ∙ was.gone none;
      aside = subst (λ (xs : List ℕ). AreHeld was.slots xs g.gone.durable) (sym (cut_gone point v w of.queue cut one less)) was.aside;
    }

-- the database at the begin stays too
pub WasBegun-through : (m : Meanings) (root : ℕ) (want : Wanted) (db : Db) (tx : ℕ) (p q : Parts) → q.store.pool.geometry ≡ p.store.pool.geometry
    → ((want : Wanted) (s : Slots) → WasAt tx want s 0 p → WasAt tx want s 0 q) → WasBegun m root want db tx p → WasBegun m root want db tx q
WasBegun-through m root want db tx p q sizes stays begun =
    let same : p.store.pool.geometry.pages ≡ q.store.pool.geometry.pages = ap (λ (g : Geometry). g.pages) (sym sizes) in
    record {
      was = subst (λ (n : ℕ). WasAt tx want (slots_in n want) 0 q) same (stays want (slots_in p.store.pool.geometry.pages want) begun.was);
      committed = subst (λ (n : ℕ). IsCommitted m root n want db) same begun.committed;
    }

-- and is there again when all changes were taken out
pub Rests-aborted : (m : Meanings) (root : ℕ) (want : Wanted) (db : Db) (tx : ℕ) (p q : Parts) → q.store.pool.geometry ≡ p.store.pool.geometry
    → ((want : Wanted) (s : Slots) → WasAt tx want s 0 p → HasPages want s q) → WasBegun m root want db tx p → Rests m root want db q
Rests-aborted m root want db tx p q sizes gives begun =
    let same : p.store.pool.geometry.pages ≡ q.store.pool.geometry.pages = ap (λ (g : Geometry). g.pages) (sym sizes) in
    record {
      has = subst (λ (n : ℕ). HasPages want (slots_in n want) q) same (gives want (slots_in p.store.pool.geometry.pages want) begun.was);
      committed = subst (λ (n : ℕ). IsCommitted m root n want db) same begun.committed;
    }
