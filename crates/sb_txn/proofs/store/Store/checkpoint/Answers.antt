use Rattle.std.proofs.Common.{◌≡◌, false, List, [], sym, ◌∙◌, ap, subst}
use Rattle.sb_journal.specs.State.{after_force}
use Rattle.sb_images.specs.Store.{IsStoreOn}
use Rattle.sb_txn.specs.Book.{ActiveTransaction, Book, views}
use Rattle.sb_txn.specs.State.{together}
use Rattle.sb_txn.specs.Tied.{Holds}
use Rattle.sb_txn.specs.Parts.{stored}
use Rattle.sb_txn.proofs.BeginLemmas.{Holds-checkpoint, used-closed}
use Rattle.sb_txn.proofs.KeepsLemmas.{LeavesWanted-none, StaysReady-ok}
use Rattle.sb_txn.proofs.store.Store.checkpoint.Goals as goal

pub returns-then-is_down-clause-any_moment : goal.returns-then-is_down-clause-any_moment
returns-then-is_down-clause-any_moment g c = LeavesWanted-none _

pub returns-in-Ok-clause-checkpoints : goal.returns-in-Ok-clause-checkpoints
returns-in-Ok-clause-checkpoints g c =
    let call = c.in-Ok.ensures in
    let up : c.args.self.now.book.down ≡ false = sym c.is_down.ensures ∙ c.if-is_down.false in
    let none = c.requires.none up in
    let closed = used-closed (after_force c.args.self.now.journal) c.checkpoint.new.journal call.journal in
    record {
      actives = ap (λ (b : Book). b.actives) c.empty.ensures ∙ none;
      book = c.empty.ensures;
      log = closed.0;
      chunks = closed.1;
      pages = λ want now store.
          let was = subst (λ (l : List ActiveTransaction). IsStoreOn want now (g.D.Disk.told c.args.disk.now) c.args.self.now.journal c.args.self.now.pool.geometry store.0 store.1 (views l)) none store.2.store in
          subst (λ (b : Book). Holds want now [] [] (stored (g.D.Disk.told c.checkpoint.new.disk) (g.D.Disk.len c.checkpoint.new.disk) c.checkpoint.new.journal c.checkpoint.new.pool b)) (sym c.empty.ensures)
          (Holds-checkpoint want now (g.D.Disk.told c.args.disk.now) (g.D.Disk.told c.checkpoint.new.disk) (g.D.Disk.len c.args.disk.now) (g.D.Disk.len c.checkpoint.new.disk) c.args.self.now.journal c.checkpoint.new.journal c.args.self.now.pool c.checkpoint.new.pool c.args.self.now.book store.0 store.1
          store.2 none call.journal call.pool (call.store want now store.0 store.1 was store.2.tied store.2.pages) call.serves call.agrees (call.pages now store.2.pages));
    }

pub returns-in-Ok-clause-keeps : goal.returns-in-Ok-clause-keeps
returns-in-Ok-clause-keeps g c =
    let up : c.args.self.now.book.down ≡ false = sym c.is_down.ensures ∙ c.if-is_down.false in
    let still : c.empty.new.self.down ≡ false = ap (λ (b : Book). b.down) c.empty.ensures ∙ up in
    let kept = c.in-Ok.ensures.keeps in
    StaysReady-ok g.D.Disk.told g.D.Disk.len g.D.Disk.faults tt c.args.disk.now c.checkpoint.new.disk
    c.args.self.now (together c.checkpoint.new.journal c.checkpoint.new.pool c.empty.new.self) up still kept.size kept.geometry kept.later
    (λ _. let ready = c.requires.ready up in (ready.0, ready.1, ([], [], (returns-in-Ok-clause-checkpoints g c).pages ready.0 ready.1 ready.2)))
