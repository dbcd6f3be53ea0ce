use Rattle.std.proofs.Common.{◌<◌, length, arith}
use Rattle.std.proofs.lemmas.Result.{err_from_is_err_and}
use Rattle.sb_kernel.proofs.Partly.{Partly-more, GivenFront-partly}
use Rattle.sb_kernel.proofs.writing.write_all.Goals as goal

pub loop-rest-preserved : goal.loop-rest-preserved
loop-rest-preserved g c = record {
  partly = rw c.split_at.ensures.back (Partly-more _ _ _ _ _ _ c.loop-rest.invariant.partly c.in_ok-count.ensures.held);
  later = omega (arith, c.loop-rest.invariant.later, c.write.ensures.cause.later);
}

pub returns-in_err-count-clause-wrote : goal.returns-in_err-count-clause-wrote
returns-in_err-count-clause-wrote g c =
    let p = err_from_is_err_and c.from_residual.result c.from_residual.ensures.1 in
    let some : 0 < length c.loop-rest.rest.now = grind (arith, c.is_empty.ensures, c.loop-rest-test.true) in
    rw p.1 (GivenFront-partly _ _ _ c.args.bytes.now c.loop-rest.rest.now c.loop-rest.invariant.partly some c.in_err-count.ensures.err)
