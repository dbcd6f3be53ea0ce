use Rattle.std.proofs.Common.{ℕ, drop, ap, sym, ◌∙◌, arith}
use Rattle.std.proofs.Math.Seq.{drop-length}
use Rattle.sb_space.proofs.Ranges.{drop-further}
use Rattle.sb_space.proofs.changing.behind_differences.Goals as goal

pub loop-end-init : goal.loop-end-init
loop-end-init c = record {
  within = omega arith;
  same = drop-length c.args.a.now ∙ sym (ap (λ (n : ℕ). drop n c.args.b.now) c.requires ∙ drop-length c.args.b.now);
}

pub bounds-a-end : goal.bounds-a-end
bounds-a-end c = omega (arith, c.loop-end-test.true, c.loop-end.invariant.within)

pub bounds-b-end : goal.bounds-b-end
bounds-b-end c = omega (arith, c.loop-end-test.true, c.loop-end.invariant.within, c.requires)

pub loop-end-preserved : goal.loop-end-preserved
loop-end-preserved c = record {
  within = omega (arith, c.loop-end.invariant.within);
  same = drop-further c.args.a.now c.args.b.now c.loop-end.end c.loop-end-test.true c.loop-end.invariant.within c.requires c.loop-end.invariant.same c.if-a-end.true;
}

pub returns-else-a-end-clause-same : goal.returns-else-a-end-clause-same
returns-else-a-end-clause-same c = c.loop-end.invariant.same

pub returns-after-loop-end-clause-same : goal.returns-after-loop-end-clause-same
returns-after-loop-end-clause-same c = c.loop-end.invariant.same
