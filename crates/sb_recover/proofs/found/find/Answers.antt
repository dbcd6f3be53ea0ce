use Rattle.std.proofs.Common.{ℕ, List, take, sym, subst}
use Rattle.sb_recover.specs.Frames.{texts}
use Rattle.sb_recover.specs.Found.{FoundIn}
use Rattle.sb_recover.proofs.ChunkLemmas.{FoundIn-none, FoundIn-more, texts-next}
use Rattle.sb_recover.proofs.found.find.Goals as goal

pub loop-chunk-init : goal.loop-chunk-init
loop-chunk-init c = FoundIn-none c.args.pages _ c.new.ensures.items c.new-2.ensures.empty c.new-3.ensures.empty c.in_ok-no_frames.ensures

pub loop-chunk-preserved : goal.loop-chunk-preserved
loop-chunk-preserved c =
    subst (λ (l : List (List ℕ)). FoundIn c.args.pages l c.take_chunk.new.found)
    (sym (texts-next c.args.chunks.now c.loop-chunk.chunk-index c.chunk-item.result c.deref.result.now c.loop-chunk-test.true c.chunk-item.is c.deref.ensures.value))
    (FoundIn-more c.args.pages (texts (take c.loop-chunk.chunk-index c.args.chunks.now)) c.deref.result.now c.loop-chunk.found c.take_chunk.new.found c.loop-chunk.invariant c.in_ok-take_chunk.ensures)
