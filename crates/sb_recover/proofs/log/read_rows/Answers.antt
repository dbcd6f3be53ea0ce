use Rattle.std.proofs.Common.{ℕ, List, Vec, Global, ◌∙◌, subst}
use Rattle.sb_recover.specs.BadLog.{IsFirstBad}
use Rattle.sb_recover.specs.Frames.{texts}
use Rattle.sb_recover.proofs.FrameLemmas.{length-texts}
use Rattle.sb_recover.proofs.LogLemmas.{RowsErr-bad}
use Rattle.sb_recover.proofs.log.read_rows.Goals as goal

pub returns-in-Err-clause-refused : goal.returns-in-Err-clause-refused
returns-in-Err-clause-refused g c =
    let bad = subst (λ (vs : List (Vec ℕ Global)). IsFirstBad (texts vs) c.in-Err.fault) c.deref.ensures.value c.in-Err.ensures.bad in
    RowsErr-bad (g.D.Disk.told c.args.disk.now) c.args.journal.now (texts c.in_ok-chunks.chunks.items) c.in-Err.fault c.in_ok-chunks.ensures.chunks
    (length-texts c.in_ok-chunks.chunks.items ∙ c.in_ok-chunks.ensures.count) bad
