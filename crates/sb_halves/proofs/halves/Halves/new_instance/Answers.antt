use Rattle.std.proofs.Common.{ap, sym, ◌∙◌}
use Rattle.sb_txn.specs.declared.store.Tx.{Tx}
use Rattle.sb_space.specs.View.{lent}
use Rattle.sb_halves.proofs.OneHalf.{IsLent, full-volatile, idle, least-durable, made-durable, made-volatile, owner-durable, owner-volatile, root-durable, root-volatile, same-durable, savepoints-durable, works-volatile}
use Rattle.sb_halves.proofs.halves.Halves.new_instance.Goals as goal

pub returns-then-durable-clause-made : goal.returns-then-durable-clause-made
returns-then-durable-clause-made g c =
    let is : IsLent c.args.disk.now c.args.self.now.durable.store c.args.tx.now.durable.store.number (lent c.new-pages.result) =
    record { store_is = c.new-pages.ensures.store; disk_is = c.new-pages.ensures.disk; tx_is = ap (λ (t : Tx). t.number) c.new-pages.ensures.tx } in
    let same = c.disk-1.given.1 (sym (c.new_instance.ensures.calls.leads.disk ∙ c.new-pages.ensures.same_disk)) in
    made-durable g.D.Disk.told g.D.Disk.len g.D.Disk.faults (lent c.new_instance.new.self) is _ same c.args.self.now.volatile c.args.durable c.if-durable.true c.new_instance.result c.new_instance.ensures.made

pub returns-then-durable-clause-owner : goal.returns-then-durable-clause-owner
returns-then-durable-clause-owner g c =
    let is : IsLent c.args.disk.now c.args.self.now.durable.store c.args.tx.now.durable.store.number (lent c.new-pages.result) =
    record { store_is = c.new-pages.ensures.store; disk_is = c.new-pages.ensures.disk; tx_is = ap (λ (t : Tx). t.number) c.new-pages.ensures.tx } in
    let same = c.disk-1.given.1 (sym (c.new_instance.ensures.calls.leads.disk ∙ c.new-pages.ensures.same_disk)) in
    owner-durable g.D.Disk.told g.D.Disk.len g.D.Disk.faults (lent c.new_instance.new.self) is _ same c.args.self.now.volatile c.args.durable c.if-durable.true c.new_instance.result c.new_instance.ensures.made

pub returns-then-durable-clause-root : goal.returns-then-durable-clause-root
returns-then-durable-clause-root g c =
    let is : IsLent c.args.disk.now c.args.self.now.durable.store c.args.tx.now.durable.store.number (lent c.new-pages.result) =
    record { store_is = c.new-pages.ensures.store; disk_is = c.new-pages.ensures.disk; tx_is = ap (λ (t : Tx). t.number) c.new-pages.ensures.tx } in
    let same = c.disk-1.given.1 (sym (c.new_instance.ensures.calls.leads.disk ∙ c.new-pages.ensures.same_disk)) in
    root-durable g.D.Disk.told g.D.Disk.len g.D.Disk.faults (lent c.new_instance.new.self) is _ same c.args.self.now.volatile c.args.durable c.if-durable.true c.new_instance.result c.new_instance.ensures.made

pub returns-then-durable-clause-least : goal.returns-then-durable-clause-least
returns-then-durable-clause-least g c =
    let is : IsLent c.args.disk.now c.args.self.now.durable.store c.args.tx.now.durable.store.number (lent c.new-pages.result) =
    record { store_is = c.new-pages.ensures.store; disk_is = c.new-pages.ensures.disk; tx_is = ap (λ (t : Tx). t.number) c.new-pages.ensures.tx } in
    let same = c.disk-1.given.1 (sym (c.new_instance.ensures.calls.leads.disk ∙ c.new-pages.ensures.same_disk)) in
    λ on. least-durable g.D.Disk.told g.D.Disk.len g.D.Disk.faults (lent c.new_instance.new.self) is _ same c.args.self.now.volatile c.new_instance.result c.new_instance.ensures.made

pub returns-then-durable-clause-same : goal.returns-then-durable-clause-same
returns-then-durable-clause-same g c =
    let is : IsLent c.args.disk.now c.args.self.now.durable.store c.args.tx.now.durable.store.number (lent c.new-pages.result) =
    record { store_is = c.new-pages.ensures.store; disk_is = c.new-pages.ensures.disk; tx_is = ap (λ (t : Tx). t.number) c.new-pages.ensures.tx } in
    let same = c.disk-1.given.1 (sym (c.new_instance.ensures.calls.leads.disk ∙ c.new-pages.ensures.same_disk)) in
    same-durable g.D.Disk.told g.D.Disk.len g.D.Disk.faults (lent c.new_instance.new.self) is _ same c.args.self.now.volatile c.args.durable c.if-durable.true c.new_instance.result c.new_instance.ensures.same

pub returns-then-durable-clause-savepoints : goal.returns-then-durable-clause-savepoints
returns-then-durable-clause-savepoints g c =
    let is : IsLent c.args.disk.now c.args.self.now.durable.store c.args.tx.now.durable.store.number (lent c.new-pages.result) =
    record { store_is = c.new-pages.ensures.store; disk_is = c.new-pages.ensures.disk; tx_is = ap (λ (t : Tx). t.number) c.new-pages.ensures.tx } in
    let leads = c.new_instance.ensures.calls.leads in
    let same = c.disk-1.given.1 (sym (leads.disk ∙ c.new-pages.ensures.same_disk)) in
    savepoints-durable g.D.Disk.told g.D.Disk.len g.D.Disk.faults (lent c.new_instance.new.self) is _ same c.args.self.now.volatile 2 leads

pub returns-else-durable-clause-made : goal.returns-else-durable-clause-made
returns-else-durable-clause-made g c =
    let call = c.new_instance-else-durable in
    made-volatile g.D.Disk.told g.D.Disk.len g.D.Disk.faults c.args.disk.now c.args.self.now.durable.store c.args.tx.now.durable.store.number c.args.self.now.volatile call.new.self
    c.args.durable c.if-durable.false call.result call.ensures.made

pub returns-else-durable-clause-owner : goal.returns-else-durable-clause-owner
returns-else-durable-clause-owner g c =
    let call = c.new_instance-else-durable in
    owner-volatile g.D.Disk.told g.D.Disk.len g.D.Disk.faults c.args.disk.now c.args.self.now.durable.store c.args.tx.now.durable.store.number c.args.self.now.volatile call.new.self
    c.args.durable c.if-durable.false call.result call.ensures.owner

pub returns-else-durable-clause-root : goal.returns-else-durable-clause-root
returns-else-durable-clause-root g c =
    let call = c.new_instance-else-durable in
    root-volatile g.D.Disk.told g.D.Disk.len g.D.Disk.faults c.args.disk.now c.args.self.now.durable.store c.args.tx.now.durable.store.number c.args.self.now.volatile call.new.self
    c.args.durable c.if-durable.false call.result call.ensures.root

pub returns-else-durable-clause-full : goal.returns-else-durable-clause-full
returns-else-durable-clause-full g c =
    let call = c.new_instance-else-durable in
    full-volatile g.D.Disk.told g.D.Disk.len g.D.Disk.faults c.args.disk.now c.args.self.now.durable.store c.args.tx.now.durable.store.number c.args.self.now.volatile call.new.self
    c.args.durable c.if-durable.false call.result call.ensures.full

pub returns-else-durable-clause-works : goal.returns-else-durable-clause-works
returns-else-durable-clause-works g c =
    let call = c.new_instance-else-durable in
    works-volatile g.D.Disk.told g.D.Disk.len g.D.Disk.faults c.args.disk.now c.args.self.now.durable.store c.args.tx.now.durable.store.number c.args.self.now.volatile call.new.self
    c.args.durable c.if-durable.false 2 call.result _ call.ensures.same call.ensures.fails

pub returns-else-durable-clause-any_moment : goal.returns-else-durable-clause-any_moment
returns-else-durable-clause-any_moment g c = idle g.D.Disk.told g.D.Disk.len g.D.Disk.faults c.args.disk.now c.args.self.now.durable.store
