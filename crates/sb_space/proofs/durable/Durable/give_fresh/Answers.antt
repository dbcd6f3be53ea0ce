use Rattle.std.proofs.Common.{refl, sym, ap, subst, ◌∙◌}
use Rattle.sb_space.specs.Owners.{IsFree}
use Rattle.sb_txn.proofs.ResultLemmas.{IfErr-from}
use Rattle.sb_space.specs.View.{lent}
use Rattle.sb_space.proofs.Calling.{Calls-full}
use Rattle.sb_space.proofs.Looking.{IsFull-down}
use Rattle.sb_space.proofs.durable.Durable.give_fresh.Goals as goal

pub returns-in_err-n-clause-full : goal.returns-in_err-n-clause-full
returns-in_err-n-clause-full g c =
    IfErr-from c.from_residual.result c.in_err-n.field-0.0 _ c.from_residual.ensures.1
    (λ want s has. IsFull-down c.args.self.now.store.now.pool.geometry.pages s c.args.ctx.now c.in_err-n.field-0.0 c.in_err-n.ensures.err)

pub returns-in_default-clause-full : goal.returns-in_default-clause-full
returns-in_default-clause-full g c = λ want s has.
    let total = c.args.self.now.store.now.pool.geometry.pages in
    let none = subst (IsFree total s c.args.ctx.now) c.in_default.is (c.in_ok-n.ensures.found want s has) in
    (refl, record { total_is = c.pages-total.ensures; all = refl; each = none })

pub returns-in_default-clause-calls : goal.returns-in_default-clause-calls
returns-in_default-clause-calls g c =
    let geometry = c.in_ok-n.ensures.calls.leads.works.geometry in
    Calls-full g.D.Disk.told g.D.Disk.len g.D.Disk.faults {U = Unit {0}} 0 (lent c.args.self.now) (lent c.free_page.new.self) _ c.pages-total.result (c.pages-total.ensures ∙ sym (ap (λ x. x.pages) geometry)) c.in_ok-n.ensures.calls

pub returns-clause-given : goal.returns-clause-given
returns-clause-given g c = λ want s has.
    let total = c.args.self.now.store.now.pool.geometry.pages in
    (c.in-Some.n, subst (IsFree total s c.args.ctx.now) c.in-Some.is (c.in_ok-n.ensures.found want s has), c.in_ok-give_fresh.ensures.ok)
