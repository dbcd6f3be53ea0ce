use Rattle.std.proofs.Common.{◌≡◌, ℕ, List, length, sym, ap, subst, arith}
use Rattle.std.proofs.lemmas.List.{with_items_is}
use Rattle.sb_recover.specs.BadLog.{ChunkIs}
use Rattle.sb_recover.proofs.LogLemmas.{ChunkIs-reads}
use Rattle.sb_recover.proofs.log.read_chunk.Goals as goal

pub returns-clause-chunk : goal.returns-clause-chunk
returns-clause-chunk g c =
    let v : length c.deref_mut.result.now ≡ length c.in_ok-bytes.bytes.items = ap (λ (l : List ℕ). length l) c.deref_mut.ensures.value in
    let l = c.in_ok-bytes.ensures.len in let ok = c.in_ok-bytes.bytes.ok.0 in let kept = c.read_chunk.auto.buffer in let n = c.chunk_len.ensures in
    subst (λ (b : List ℕ). ChunkIs (g.D.Disk.told c.args.disk.now) c.args.journal.now c.args.i b) (sym (with_items_is c.in_ok-bytes.bytes c.read_chunk.new.buffer (omega (arith, v, ok, kept))))
    (ChunkIs-reads (g.D.Disk.told c.args.disk.now) c.args.journal.now c.args.i c.read_chunk.new.buffer c.requires.chunk (omega (arith, v, l, ok, kept, n)) c.in_ok-read_chunk.ensures.read)
