use Rattle.std.proofs.Common.{ℕ, List, ◌++◌, refl, ◌∙◌}
use Rattle.sb_images.proofs.StoreLemmas.{IsStoreOn-ready}
use Rattle.sb_pool.specs.Pages.{with_bytes}
use Rattle.sb_txn.specs.Ahead.{IsAhead}
use Rattle.sb_txn.specs.Book.{views}
use Rattle.sb_txn.specs.Clauses.{HoldsAll}
use Rattle.sb_txn.specs.Parts.{parts}
use Rattle.sb_txn.specs.State.{together}
use Rattle.sb_txn.proofs.AheadLemmas.{HoldsAll-written}
use Rattle.sb_txn.proofs.KeepsLemmas.{StaysReady-ok}
use Rattle.sb_txn.proofs.store.Store.write_range.Goals as goal

pub returns-in-Err-clause-any_moment : goal.returns-in-Err-clause-any_moment
returns-in-Err-clause-any_moment g c = record {
  each = λ want now ahead.
      (c.write.ensures.images want ahead.opened ahead.pending
      (IsStoreOn-ready want (with_bytes c.args.page c.args.offset c.args.bytes.now now) _ c.args.self.now.journal c.args.self.now.pool.geometry ahead.opened ahead.pending (views c.args.self.now.book.actives) ahead.leans.store)
      ahead.leans.tied ahead.covered).leaves;
}

pub returns-in-Ok-clause-any_moment : goal.returns-in-Ok-clause-any_moment
returns-in-Ok-clause-any_moment g c = record {
  each = λ want now ahead.
      (c.write.ensures.images want ahead.opened ahead.pending
      (IsStoreOn-ready want (with_bytes c.args.page c.args.offset c.args.bytes.now now) _ c.args.self.now.journal c.args.self.now.pool.geometry ahead.opened ahead.pending (views c.args.self.now.book.actives) ahead.leans.store)
      ahead.leans.tied ahead.covered).leaves;
}

pub returns-in-Ok-clause-written : goal.returns-in-Ok-clause-written
returns-in-Ok-clause-written g c =
    let old = parts g.D.Disk.told g.D.Disk.len c.args.disk.now c.args.self.now in
    let new = parts g.D.Disk.told g.D.Disk.len c.write.new.disk (together c.write.new.journal c.write.new.self c.args.self.now.book) in
    let logged : (want now : ℕ → List ℕ) (ahead : IsAhead want now c.args.page c.args.offset c.args.bytes.now old) → HoldsAll want (with_bytes c.args.page c.args.offset c.args.bytes.now now) (ahead.opened ++ ahead.pending) new = λ want now ahead.
    let call = c.in-Ok.ensures in
    let ready = IsStoreOn-ready want (with_bytes c.args.page c.args.offset c.args.bytes.now now) (g.D.Disk.told c.args.disk.now) c.args.self.now.journal c.args.self.now.pool.geometry ahead.opened ahead.pending (views c.args.self.now.book.actives) ahead.leans.store in
    HoldsAll-written want now (g.D.Disk.told c.args.disk.now) (g.D.Disk.told c.write.new.disk) (g.D.Disk.len c.args.disk.now) (g.D.Disk.len c.write.new.disk) c.args.self.now.journal c.write.new.journal c.args.self.now.pool c.write.new.self c.args.self.now.book
    ahead.opened ahead.pending c.args.page c.args.offset c.args.bytes.now ahead.leans
    call.keeps.geometry call.written (call.images want ahead.opened ahead.pending ready ahead.leans.tied ahead.covered).ready call.journal call.keeps.serves call.keeps.agrees in
    record {
      book = refl;
      journal = c.in-Ok.ensures.journal;
      pages = λ want now ahead. let h = logged want now ahead in (h.0, h.1, h.2);
      logged = logged;
    }

pub returns-in-Ok-clause-keeps : goal.returns-in-Ok-clause-keeps
returns-in-Ok-clause-keeps g c =
    let written = returns-in-Ok-clause-written g c in
    let ahead = c.requires.ahead in
    StaysReady-ok g.D.Disk.told g.D.Disk.len g.D.Disk.faults tt _ _ _ _ c.requires.up c.requires.up c.in-Ok.ensures.keeps.size c.in-Ok.ensures.keeps.geometry c.in-Ok.ensures.keeps.later
    (λ _. (ahead.0, with_bytes c.args.page c.args.offset c.args.bytes.now ahead.1, written.pages ahead.0 ahead.1 ahead.2))
