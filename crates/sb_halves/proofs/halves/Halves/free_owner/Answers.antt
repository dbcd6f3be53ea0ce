use Rattle.std.proofs.Common.{ap, sym, ◌∙◌}
use Rattle.sb_txn.specs.declared.store.Tx.{Tx}
use Rattle.sb_space.specs.Table.{table_len}
use Rattle.sb_space.specs.View.{lent}
use Rattle.sb_halves.proofs.OneHalf.{IsLent, freed-volatile, idle, savepoints-durable, works-volatile}
use Rattle.sb_halves.proofs.halves.Halves.free_owner.Goals as goal

pub returns-then-durable-clause-savepoints : goal.returns-then-durable-clause-savepoints
returns-then-durable-clause-savepoints g c =
    let is : IsLent c.args.disk.now c.args.self.now.durable.store c.args.tx.now.durable.store.number (lent c.new-pages.result) =
    record { store_is = c.new-pages.ensures.store; disk_is = c.new-pages.ensures.disk; tx_is = ap (λ (t : Tx). t.number) c.new-pages.ensures.tx } in
    let leads = c.free_owner.ensures.calls.leads in
    let same = c.disk-1.given.1 (sym (leads.disk ∙ c.new-pages.ensures.same_disk)) in
    savepoints-durable g.D.Disk.told g.D.Disk.len g.D.Disk.faults (lent c.free_owner.new.self) is _ same c.args.self.now.volatile (table_len c.new-pages.result.store.now.pool.geometry.pages) leads

pub returns-else-durable-clause-pages : goal.returns-else-durable-clause-pages
returns-else-durable-clause-pages g c =
    let call = c.free_owner-else-durable in
    freed-volatile g.D.Disk.told g.D.Disk.len g.D.Disk.faults c.args.disk.now c.args.self.now.durable.store c.args.tx.now.durable.store.number c.args.self.now.volatile call.new.self
    c.args.durable c.if-durable.false c.args.owner call.result call.ensures.pages

pub returns-else-durable-clause-works : goal.returns-else-durable-clause-works
returns-else-durable-clause-works g c =
    let call = c.free_owner-else-durable in
    works-volatile g.D.Disk.told g.D.Disk.len g.D.Disk.faults c.args.disk.now c.args.self.now.durable.store c.args.tx.now.durable.store.number c.args.self.now.volatile call.new.self
    c.args.durable c.if-durable.false (table_len c.args.self.now.durable.store.pool.geometry.pages) call.result _ call.ensures.pages call.ensures.fails

pub returns-else-durable-clause-any_moment : goal.returns-else-durable-clause-any_moment
returns-else-durable-clause-any_moment g c = idle g.D.Disk.told g.D.Disk.len g.D.Disk.faults c.args.disk.now c.args.self.now.durable.store
