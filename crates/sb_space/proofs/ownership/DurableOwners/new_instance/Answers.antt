use Rattle.std.proofs.Common.{arith}
use Rattle.std.proofs.lemmas.Result.{IfOk-weaker, IfErr-weaker}
use Rattle.sb_owners.specs.Instances.{IsUnbroken}
use Rattle.sb_space.specs.Durable.{parts_in}
use Rattle.sb_space.specs.Instances.{IsNewFault}
use Rattle.sb_space.specs.View.{lent}
use Rattle.sb_space.proofs.Coming.{HasCome-new, IsUnbroken-new}
use Rattle.sb_space.proofs.ownership.DurableOwners.new_instance.Goals as goal

pub returns-clause-made : goal.returns-clause-made
returns-clause-made g c = IfOk-weaker c.new_instance.result _ _
    (λ made new want s has. HasCome-new (λ d. parts_in g.D.Disk.told g.D.Disk.len (lent d)) want s made.0 c.new_instance.new.self c.args.self.now.store.now.pool.geometry.pages made.1 (new want s has))
    c.new_instance.ensures.made

pub returns-clause-owner : goal.returns-clause-owner
returns-clause-owner g c = IfOk-weaker c.new_instance.result _ _ (λ made new want s has. (new want s has).least) c.new_instance.ensures.made

pub returns-clause-root : goal.returns-clause-root
returns-clause-root g c = IfOk-weaker c.new_instance.result _ _ (λ made new want s has. (new want s has).free) c.new_instance.ensures.made

pub returns-clause-undamaged : goal.returns-clause-undamaged
returns-clause-undamaged g c = IfErr-weaker c.new_instance.result IsNewFault IsUnbroken IsUnbroken-new c.new_instance.ensures.err

pub returns-clause-leads : goal.returns-clause-leads
returns-clause-leads g c = record { changes = 2; within = omega arith; leads = c.new_instance.ensures.calls.leads }
