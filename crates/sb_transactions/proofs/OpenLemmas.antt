-- A transaction that goes on where it was before a commit.
use Rattle.std.proofs.Common.{◌≡◌, ℕ, Bool, true, false, Option, Some, None, is_some, Err, IfSome, refl, sym, ap, subst, ◌∙◌}
use Rattle.std.proofs.lemmas.Bool.{false≢true}
use Rattle.sb_disk.specs.Disk.{Story}
use Rattle.sb_disk.specs.Moments.{LeavesOnly}
use Rattle.sb_disk.proofs.MomentLemmas.{and_then}
use Rattle.sb_images.specs.Images.{Restores}
use Rattle.sb_log.specs.declared.geometry.Geometry.{Geometry}
use Rattle.sb_relation.specs.Db.{Db}
use Rattle.sb_fold.specs.Outcome.{Going}
use Rattle.sb_fold.specs.declared.refusal.Refusal.{Refusal}
use Rattle.sb_registry.specs.Boxes.{Meanings}
use Rattle.sb_drive.specs.Spaces.{Wanted}
use Rattle.sb_map.specs.declared.place.Place.{Place}
use Rattle.sb_txn.specs.Clauses.{LeavesWanted}
use Rattle.sb_txn.specs.Parts.{Parts, parts}
use Rattle.sb_txn.specs.State.{State}
use Rattle.sb_space.specs.Works.{Works}
use Rattle.sb_tables.specs.Work.{Work}
use Rattle.sb_transactions.specs.declared.transactions.Point.{Point}
use Rattle.sb_transactions.specs.declared.transactions.Transaction.{Transaction}
use Rattle.sb_transactions.specs.Calls.{Remains}
use Rattle.sb_transactions.specs.Commits.{IsLed, StaysOpen}
use Rattle.sb_transactions.specs.Transactions.{IsAt, IsBack, IsNotBehind, IsPointOf, WasBegun, WasSo}
use Rattle.sb_transactions.proofs.CallLemmas.{up-earlier}

-- the same transaction
pub same-open : (o : Option Transaction) (a b : Transaction) → b.tx ≡ a.tx → IfSome o (λ t. t.tx ≡ b.tx) → IfSome o (λ t. t.tx ≡ a.tx)
same-open None a b same is = tt
same-open (Some t) a b same is = is ∙ same

-- what is so of one that goes on, where one does
pub goes-open : (o : Option Transaction) (P : Work → Type 0) → IfSome o (λ t. P t.work) → is_some o ≡ true → (x : Work) × P x
goes-open None P is goes = absurd (false≢true goes)
goes-open (Some t) P is goes = (t.work, is)

module _ {D : Type 0} (told : D → Option Story) (len faults : D → ℕ) (tx : ℕ) (d e f : D) (s t u : State) (v w : Work) (point : Point)
    (led : IsLed told len faults tx (record { disk = d; store = s }) (record { disk = e; store = t })) where
  abbrev old : Parts
  old = parts told len d s

  abbrev mid : Parts
  mid = parts told len e t

  abbrev new : Parts
  new = parts told len f u

  abbrev works : Works told len faults tx led.0 d e s t
  works = led.1

  -- a store that is up behind the work was up before it
  up-first : t.book.down ≡ false → s.book.down ≡ false
  up-first up = by s.book.down refl
    where
      by : (b : Bool) → s.book.down ≡ b → s.book.down ≡ false
      by false off = off
      by true on = absurd (false≢true (sym up ∙ ap (λ (x : State). x.book.down) (works.down on).1 ∙ on))

  leaves-open : t.book.down ≡ false → LeavesWanted mid new → LeavesWanted old new
  leaves-open up leaves = record {
    each = λ want now store.
        let turns = (works.makes up).pages want now store in
        and_then (told d) (told e) (told f) (Restores s.pool.geometry want) (works.leaves.each want now store)
        (subst (λ (x : Geometry). LeavesOnly (told e) (told f) (Restores x want)) works.geometry (leaves.each want turns.pages turns.store));
  }

  module _ (begun : t.book.down ≡ false → (m : Meanings) (root : ℕ) (want : Wanted) (db : Db) → WasBegun m root want db tx old → WasBegun m root want db tx mid)
      (points : (one : Point) → IsPointOf tx one old v → IsPointOf tx one mid w)
      (was : t.book.down ≡ false → (m : Meanings) (place : Place) (want : Wanted) (g : Going) (one : Point) → WasSo m place want tx g one old v → WasSo m place want tx g one mid w)
      (latest : s.book.down ≡ false → (one : Point) → IsPointOf tx one old v → IsNotBehind one point)
      (marked : (m : Meanings) (place : Place) (want : Wanted) (g : Going) → IsAt m place want tx g old v → WasSo m place want tx g point old v) where
    StaysOpen-back : (x : Work) → t.book.down ≡ false → LeavesWanted mid new → IsBack tx point mid new w x → StaysOpen tx old new v x
    StaysOpen-back x up leaves back = record {
      up = back.up;
      usable = back.usable;
      stays = λ m place want g at. back.back m place want g at.usable.owner (was up m place want g point (marked m place want g at));
      begun = λ m root want db is. back.begun m root want db (begun up m root want db is);
      points = λ one of. back.stand one (latest (up-first up) one of) (points one of);
      was = λ m place want g one so. back.earlier m place want g one (latest (up-first up) one so.of) (was up m place want g one so);
      wanted = λ want now store. let turns = (works.makes up).pages want now store in back.wanted want turns.pages turns.store;
      leaves = leaves-open up leaves;
    }

    pub stays-open : (o : Option Transaction) (q : Refusal) (tx' : ℕ) → tx' ≡ tx → Remains {T = Unit {0}} told len faults e f t u (Err q) → LeavesWanted mid new
        → IfSome o (λ x. IsBack tx' point mid new w x.work) → IfSome o (λ x. StaysOpen tx old new v x.work)
    stays-open None q tx' same remains leaves back = tt
    stays-open (Some x) q tx' same remains leaves back =
        let is = subst (λ (n : ℕ). IsBack n point mid new w x.work) same back in
        StaysOpen-back x.work (up-earlier told len faults e f t u (Err q) remains is.up) leaves is
