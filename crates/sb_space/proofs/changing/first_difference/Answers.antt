use Rattle.std.proofs.Common.{◌≡◌, ℕ, take, length, refl, ap, sym, ◌∙◌, arith}
use Rattle.sb_space.proofs.Ranges.{take-further}
use Rattle.sb_space.proofs.changing.first_difference.Goals as goal

pub loop-i-init : goal.loop-i-init
loop-i-init c = record { same = refl }

pub returns-then-a-i-clause-same : goal.returns-then-a-i-clause-same
returns-then-a-i-clause-same c = c.loop-i.invariant.same

pub loop-i-preserved : goal.loop-i-preserved
loop-i-preserved c = record { same = take-further c.args.a.now c.args.b.now c.loop-i.i c.loop-i-test.true c.requires c.loop-i.invariant.same c.if-a-i.false }

pub returns-clause-same : goal.returns-clause-same
returns-clause-same c =
    let at : c.loop-i.i ≡ length c.args.a.now = omega (arith, c.loop-i-test.false, c.loop-i.auto.i-end) in
    ap (λ (n : ℕ). take n c.args.a.now) (sym at) ∙ c.loop-i.invariant.same ∙ ap (λ (n : ℕ). take n c.args.b.now) at
