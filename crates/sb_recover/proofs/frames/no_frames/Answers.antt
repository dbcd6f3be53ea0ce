use Rattle.std.proofs.Common.{ℕ, ◌+◌, List, sym, subst, Vec, Global}
use Rattle.sb_recover.specs.Frames.{texts, NoneHeld}
use Rattle.sb_recover.proofs.FrameLemmas.{NoneHeld-more}
use Rattle.sb_recover.proofs.frames.no_frames.Goals as goal

pub loop-preserved : goal.loop-preserved
loop-preserved c =
    subst (λ (vs : List (Vec ℕ Global)). NoneHeld (c.loop.counter + 1) (texts vs)) (sym c.in_ok-push.ensures.items)
    (NoneHeld-more c.loop.counter c.loop.frames.items c.new.result c.new.ensures.items c.loop.invariant)
