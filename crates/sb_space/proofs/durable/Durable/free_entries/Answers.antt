use Rattle.std.proofs.Common.{ℕ, ◌<◌, List, ap, sym, subst, ◌∙◌, arith}
use Rattle.sb_space.specs.Durable.{parts_in}
use Rattle.sb_space.specs.Instances.{AreCleared}
use Rattle.sb_space.specs.View.{lent}
use Rattle.sb_space.specs.Table.{table_len}
use Rattle.sb_space.proofs.Calling.{Calls-then, UnlessDown-map}
use Rattle.sb_space.proofs.Clearing.{cleared-result}
use Rattle.sb_space.proofs.Looking.{HasPages-still, held-now}
use Rattle.sb_space.proofs.durable.Durable.free_entries.Goals as goal

pub returns-clause-pages : goal.returns-clause-pages
returns-clause-pages g c =
    let told = g.D.Disk.told in
    let len = g.D.Disk.len in
    let owner = c.args.owner in
    let page = c.args.page in
    let calls = c.in_ok-load.ensures.calls in
    let a = lent c.args.self.now in
    let b = lent c.load.new.self in
    let sizes = ap (λ x. x.pages) calls.leads.works.geometry in
    let within = subst (λ n. page < table_len n) (sym sizes) c.requires.page in
    UnlessDown-map c.set_bytes.result _ _ (λ made want s has. made want s (HasPages-still told len g.D.Disk.faults a b want s calls.leads calls.up has))
    (cleared-result (parts_in told len b) (parts_in told len (lent c.set_bytes.new.self)) owner page c.clear_owner.new.table c.set_bytes.result (ap (λ x. x.pages) c.set_bytes.ensures.calls.leads.works.geometry) within c.requires.owner
    (λ want s has. subst (λ (bytes : List ℕ). AreCleared owner bytes c.clear_owner.new.table)
    (c.copy_from_slice.ensures.after ∙ held-now want s (parts_in told len b) has page _ (omega (arith, within)) c.held.ensures.bytes) c.clear_owner.ensures) c.set_bytes.ensures.stands)

pub returns-clause-calls : goal.returns-clause-calls
returns-clause-calls g c =
    Calls-then g.D.Disk.told g.D.Disk.len g.D.Disk.faults 0 1 (lent c.args.self.now) (lent c.load.new.self) (lent c.set_bytes.new.self) c.in_ok-load.field-0 c.set_bytes.result c.in_ok-load.ensures.calls c.set_bytes.ensures.calls
