use Rattle.std.proofs.Common.{List, ℕ, subst, arith}
use Rattle.std.proofs.lemmas.List.{take_rest}
use Rattle.sb_log.specs.Records.{Begins}
use Rattle.sb_log.specs.Rec.{record_of}
use Rattle.sb_log.proofs.RowLemmas.{IsCounted-more, IsCounted-few}
use Rattle.sb_log.proofs.counting.count_records.Goals as goal

pub overflow_add-count : goal.overflow_add-count
overflow_add-count c = omega (arith, IsCounted-few _ _ _ c.loop-at.invariant.counted, c.loop-at-test.true, c.requires)

pub loop-at-preserved : goal.loop-at-preserved
loop-at-preserved c =
    let chunk = c.args.chunk.now in
    let r = record_of c.in-Some.field-0-0 in
    record {
      counted = IsCounted-more chunk c.loop-at.at c.loop-at.count r c.in-Some.len c.loop-at.invariant.counted
          (subst (λ (l : List ℕ). Begins l r c.in-Some.len) (take_rest chunk c.loop-at.at) c.in-Some.ensures.found);
    }
