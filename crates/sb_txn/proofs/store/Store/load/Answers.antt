use Rattle.std.proofs.Common.{◌≡◌, ℕ, false, List, ◌++◌, refl, sym, ◌∙◌}
use Rattle.sb_images.proofs.StoreLemmas.{IsStoreOn-ready}
use Rattle.sb_log.specs.Records.{Record}
use Rattle.sb_txn.specs.Book.{views}
use Rattle.sb_txn.specs.Clauses.{HoldsAll}
use Rattle.sb_txn.specs.Parts.{parts}
use Rattle.sb_txn.specs.Tied.{Holds}
use Rattle.sb_txn.specs.State.{together}
use Rattle.sb_txn.proofs.KeepsLemmas.{LeavesWanted-none, StaysReady-ok}
use Rattle.sb_txn.proofs.TiedLemmas.{HoldsAll-kept}
use Rattle.sb_txn.proofs.store.Store.load.Goals as goal

pub returns-then-is_down-clause-any_moment : goal.returns-then-is_down-clause-any_moment
returns-then-is_down-clause-any_moment g c = LeavesWanted-none _

pub returns-in-Err-clause-any_moment : goal.returns-in-Err-clause-any_moment
returns-in-Err-clause-any_moment g c = record {
  each = λ want now store.
      (c.load.ensures.images want store.0 store.1 (IsStoreOn-ready want now _ c.args.self.now.journal c.args.self.now.pool.geometry store.0 store.1 (views c.args.self.now.book.actives) store.2.store) store.2.tied).leaves;
}

pub returns-in-Ok-clause-any_moment : goal.returns-in-Ok-clause-any_moment
returns-in-Ok-clause-any_moment g c = record {
  each = λ want now store.
      (c.load.ensures.images want store.0 store.1 (IsStoreOn-ready want now _ c.args.self.now.journal c.args.self.now.pool.geometry store.0 store.1 (views c.args.self.now.book.actives) store.2.store) store.2.tied).leaves;
}

pub returns-in-Ok-clause-loads : goal.returns-in-Ok-clause-loads
returns-in-Ok-clause-loads g c =
    let old = parts g.D.Disk.told g.D.Disk.len c.args.disk.now c.args.self.now in
    let new = parts g.D.Disk.told g.D.Disk.len c.load.new.disk (together c.load.new.journal c.load.new.self c.args.self.now.book) in
    let logged : (want now : ℕ → List ℕ) (opened pending : List Record) → Holds want now opened pending old → HoldsAll want now (opened ++ pending) new = λ want now opened pending holds.
    let call = c.in-Ok.ensures in
    let ready = IsStoreOn-ready want now (g.D.Disk.told c.args.disk.now) c.args.self.now.journal c.args.self.now.pool.geometry opened pending (views c.args.self.now.book.actives) holds.store in
    HoldsAll-kept want now (g.D.Disk.told c.args.disk.now) (g.D.Disk.told c.load.new.disk) (g.D.Disk.len c.args.disk.now) (g.D.Disk.len c.load.new.disk) c.args.self.now.journal c.load.new.journal c.args.self.now.pool c.load.new.self c.args.self.now.book opened pending holds
    call.keeps.geometry call.pages (call.images want opened pending ready holds.tied).ready call.journal call.keeps.serves call.keeps.agrees in
    record {
      book = refl;
      pages = λ want now store. let h = logged want now store.0 store.1 store.2 in (h.0, h.1, h.2);
      logged = logged;
      journal = c.in-Ok.ensures.journal;
    }

pub returns-in-Ok-clause-keeps : goal.returns-in-Ok-clause-keeps
returns-in-Ok-clause-keeps g c =
    let up : c.args.self.now.book.down ≡ false = sym c.is_down.ensures ∙ c.if-is_down.false in
    let loads = returns-in-Ok-clause-loads g c in
    StaysReady-ok g.D.Disk.told g.D.Disk.len g.D.Disk.faults tt _ _ _ _ up up c.in-Ok.ensures.keeps.size c.in-Ok.ensures.keeps.geometry c.in-Ok.ensures.keeps.later
    (λ _. let ready = c.requires.ready up in (ready.0, ready.1, loads.pages ready.0 ready.1 ready.2))
