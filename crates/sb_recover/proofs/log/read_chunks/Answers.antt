use Rattle.std.proofs.Common.{◌≡◌, ◌+◌, ◌++◌, ◌∷◌, [], ℕ, Option, List, Vec, Global, length, length-append, sym, ◌∙◌, ap, subst, arith}
use Rattle.sb_disk.specs.Disk.{Story}
use Rattle.sb_journal.specs.State.{State}
use Rattle.sb_recover.specs.BadLog.{AreShort, ChunkIs}
use Rattle.sb_recover.specs.Frames.{texts}
use Rattle.sb_recover.proofs.FrameLemmas.{texts-append}
use Rattle.sb_recover.proofs.LogLemmas.{FirstChunks, FirstChunks-more, AreChunks-first, AreShort-more}
use Rattle.sb_recover.proofs.log.read_chunks.Goals as goal

pub loop-i-preserved : goal.loop-i-preserved
loop-i-preserved g c =
    let so_far = c.loop-i.invariant in
    let lt = c.loop-i-test.true in let end = c.chunks-i-end.ensures in
    let is : ChunkIs (g.D.Disk.told c.args.disk.now) c.args.journal.now c.loop-i.i c.in_ok-chunk.chunk.items =
    subst (λ (t : Option Story). ChunkIs t c.args.journal.now c.loop-i.i c.in_ok-chunk.chunk.items) so_far.reads.story
    (subst (λ (j : State). ChunkIs (g.D.Disk.told c.loop-i.disk) j c.loop-i.i c.in_ok-chunk.chunk.items) so_far.journal c.in_ok-chunk.ensures.chunk) in
    let all : texts c.add.new.chunks.items ≡ texts c.loop-i.chunks.items ++ c.in_ok-chunk.chunk.items ∷ [] =
    ap texts c.in_ok-add.ensures ∙ texts-append c.loop-i.chunks.items (c.in_ok-chunk.chunk ∷ []) in
    let later = so_far.reads.later in let more = c.read_chunk.ensures.reads.later in
    let long = ap (λ (l : List (Vec ℕ Global)). length l) c.in_ok-add.ensures in let parts = length-append c.loop-i.chunks.items (c.in_ok-chunk.chunk ∷ []) in let count = so_far.count in
    record {
      first = subst (λ (l : List (List ℕ)). FirstChunks (g.D.Disk.told c.args.disk.now) c.args.journal.now (c.loop-i.i + 1) l) (sym all)
          (FirstChunks-more (g.D.Disk.told c.args.disk.now) c.args.journal.now c.loop-i.i (texts c.loop-i.chunks.items) c.in_ok-chunk.chunk.items (omega (arith, lt, end)) is so_far.first);
      short = subst (λ (l : List (List ℕ)). AreShort l) (sym all) (AreShort-more (texts c.loop-i.chunks.items) c.in_ok-chunk.chunk.items so_far.short c.in_ok-chunk.ensures.short);
      count = omega (arith, long, parts, count);
      journal = c.in_ok-chunk.ensures.kept ∙ so_far.journal;
      reads = record { story = c.read_chunk.ensures.reads.story ∙ so_far.reads.story; size = c.read_chunk.ensures.reads.size ∙ so_far.reads.size; later = omega (arith, later, more) };
    }

pub returns-clause-chunks : goal.returns-clause-chunks
returns-clause-chunks g c =
    let past = c.loop-i-test.false in let most = c.loop-i.auto.i-end in let end = c.chunks-i-end.ensures in
    AreChunks-first (g.D.Disk.told c.args.disk.now) c.args.journal.now c.loop-i.i (texts c.loop-i.chunks.items) (omega (arith, past, most, end)) c.loop-i.invariant.first
