use Rattle.std.proofs.Common.{rules, ◌≡◌, subst, ℕ}
use Rattle.sb_recover.specs.Laying.{IsGate}
use Rattle.sb_recover.proofs.FormattingLemmas.{LeavesOnly-none, LeavesOnly-shut}
use Rattle.sb_recover.proofs.formatting.shut.Goals as goal

pub returns-then-gate-eq-OPEN-clause-any_moment : goal.returns-then-gate-eq-OPEN-clause-any_moment
returns-then-gate-eq-OPEN-clause-any_moment g c = λ settled.
    let is_open : c.args.gate ≡ 165 = search rules in
    LeavesOnly-shut c.set_gate.result (g.D.Disk.len c.args.disk.now) (g.D.Disk.clock c.args.disk.now) _ _ (g.met.D.Disk.fits c.args.disk.now) c.requires.len
    (subst (λ (gate : ℕ). IsGate (g.D.Disk.told c.args.disk.now) gate) is_open c.requires.gate) c.set_gate.ensures.ran c.set_gate.ensures.ran_err settled c.requires.none

pub returns-clause-any_moment : goal.returns-clause-any_moment
returns-clause-any_moment g c = λ settled. LeavesOnly-none _ settled c.requires.none
