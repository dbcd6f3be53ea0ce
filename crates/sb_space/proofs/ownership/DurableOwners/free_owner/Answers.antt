use Rattle.std.proofs.Common.{arith}
use Rattle.sb_space.specs.Durable.{parts_in}
use Rattle.sb_space.specs.Table.{table_len}
use Rattle.sb_space.specs.View.{lent}
use Rattle.sb_space.proofs.Calling.{UnlessDown-map}
use Rattle.sb_space.proofs.Coming.{Leaves-ended}
use Rattle.sb_space.proofs.ownership.DurableOwners.free_owner.Goals as goal

pub returns-clause-pages : goal.returns-clause-pages
returns-clause-pages g c = UnlessDown-map c.free_owner.result _ _
    (λ ends want s has. Leaves-ended (λ d. parts_in g.D.Disk.told g.D.Disk.len (lent d)) want s c.args.owner c.free_owner.new.self c.free_owner.result (ends want s has))
    c.free_owner.ensures.pages

pub returns-clause-leads : goal.returns-clause-leads
returns-clause-leads g c =
    let few = c.requires.ready.few in
    record { changes = table_len c.args.self.now.store.now.pool.geometry.pages; within = omega (arith, few); leads = c.free_owner.ensures.calls.leads }
