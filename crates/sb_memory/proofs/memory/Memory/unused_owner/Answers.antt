use Rattle.std.proofs.Common.{refl, sym, ◌∙◌, true≢false, arith}
use Rattle.sb_drive.specs.Instances.{IsUsed}
use Rattle.sb_memory.specs.Contents.{slots}
use Rattle.sb_memory.proofs.SearchLemmas.{one-more, IsLeastOwner-unused}
use Rattle.sb_memory.proofs.memory.Memory.unused_owner.Goals as goal

pub loop-owner-preserved : goal.loop-owner-preserved
loop-owner-preserved c = one-more (IsUsed (slots c.args.self.now.now) c.args.taken.now) 3 c.loop-owner.owner c.loop-owner.invariant (c.if-not-is_used.ensures.0 refl)

pub returns-then-not-is_used : goal.returns-then-not-is_used
returns-then-not-is_used c =
    IsLeastOwner-unused (slots c.args.self.now.now) c.args.taken.now c.loop-owner.owner (omega arith)
    (λ used. absurd (true≢false (sym (c.is_used.ensures.1 used) ∙ c.if-not-is_used.true))) c.loop-owner.invariant
