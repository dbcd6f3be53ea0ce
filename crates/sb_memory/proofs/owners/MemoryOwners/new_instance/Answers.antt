use Rattle.std.proofs.Common.{[], sym, subst}
use Rattle.sb_drive.specs.Instances.{IsLeastFree, IsLeastOwner}
use Rattle.sb_drive.specs.Slots.{Slots}
use Rattle.sb_memory.proofs.Memories.{HasCome-memory}
use Rattle.sb_memory.proofs.owners.MemoryOwners.new_instance.Goals as goal

pub returns-clause-made : goal.returns-clause-made
returns-clause-made c = λ want s has. HasCome-memory want s _ c.in-Ok.made.0 c.in-Ok.made.1 c.args.self.now c.new_instance.new.self
    c.in-Ok.ensures.owner c.in-Ok.ensures.pages c.in-Ok.ensures.others c.are_pages.ensures.has has

pub returns-clause-owner : goal.returns-clause-owner
returns-clause-owner c = λ want s has. subst (λ (t : Slots). IsLeastOwner t [] c.in-Ok.made.0) (sym has.are) c.in-Ok.ensures.owner

pub returns-clause-root : goal.returns-clause-root
returns-clause-root c = λ want s has. subst (λ (t : Slots). IsLeastFree t c.in-Ok.made.1) (sym has.are) c.in-Ok.ensures.root
