use Rattle.std.proofs.Common.{◌≡◌, ℕ, ◌+◌, false, List, [], ◌∷◌, ◌++◌, sym, ◌∙◌, ap, subst}
use Rattle.sb_txn.specs.Book.{ActiveTransaction, Book, new_transaction, begun_book}
use Rattle.sb_txn.specs.State.{State, together}
use Rattle.sb_txn.specs.Tied.{Holds}
use Rattle.sb_txn.specs.Parts.{stored}
use Rattle.sb_txn.proofs.BeginLemmas.{Holds-begin}
use Rattle.sb_txn.proofs.KeepsLemmas.{StaysReady-ok, StaysReady-up}
use Rattle.sb_txn.proofs.store.Store.begin.Goals as goal

pub returns-clause-begins : goal.returns-clause-begins
returns-clause-begins g c =
    let room = c.in_ok-make_room.ensures in
    let made = room.made in
    let begun = c.begin.ensures.actives in
    let number = c.begin.ensures.number in
    record {
      actives = ap (λ (b : Book). b.actives) begun ∙ ap (λ (l : List ActiveTransaction). l ++ new_transaction c.make_room.new.self.book.next ∷ []) made.actives ∙ ap (λ (n : ℕ). c.args.self.now.book.actives ++ new_transaction n ∷ []) (sym number);
      next = ap (λ (b : Book). b.next) begun ∙ ap (λ (n : ℕ). n + 1) (sym number);
      pages = λ want now store.
          let mid = made.pages want now store in (
            mid.0,
            mid.1,
            subst (λ (b : Book). Holds want now mid.0 mid.1 (stored (g.D.Disk.told c.make_room.new.disk) (g.D.Disk.len c.make_room.new.disk) c.make_room.new.self.journal c.make_room.new.self.pool b)) (sym begun)
                (Holds-begin want now (g.D.Disk.told c.make_room.new.disk) (g.D.Disk.len c.make_room.new.disk) c.make_room.new.self.journal c.make_room.new.self.pool c.make_room.new.self.book mid.0 mid.1 mid.2 room.few),
          );
      at_once = λ not.
          ap (λ (b : Book). together c.make_room.new.self.journal c.make_room.new.self.pool b) begun
          ∙ ap (λ (s : State). together s.journal s.pool (begun_book s.book)) (made.stays not);
      anew = λ takes.
          let done = made.empties takes in
          record {
            number = number ∙ ap (λ (b : Book). b.next) done.book;
            log = done.log;
            chunks = done.chunks;
            book = begun ∙ ap begun_book done.book;
          };
    }

pub returns-clause-keeps : goal.returns-clause-keeps
returns-clause-keeps g c =
    let room = c.in_ok-make_room.ensures in
    let begins = returns-clause-begins g c in
    let was_up : c.args.self.now.book.down ≡ false = StaysReady-up g.D.Disk.told g.D.Disk.len g.D.Disk.faults tt _ _ _ _ room.keeps in
    let still : c.begin.new.self.down ≡ false = ap (λ (b : Book). b.down) c.begin.ensures.actives ∙ room.up in
    StaysReady-ok g.D.Disk.told g.D.Disk.len g.D.Disk.faults _ c.args.disk.now c.make_room.new.disk
    c.args.self.now (together c.make_room.new.self.journal c.make_room.new.self.pool c.begin.new.self) was_up still room.keeps.size room.keeps.geometry room.keeps.later
    (λ _. let ready = c.requires.ready was_up in (ready.0, ready.1, begins.pages ready.0 ready.1 ready.2))
