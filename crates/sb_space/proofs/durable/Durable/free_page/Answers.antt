use Rattle.std.proofs.Common.{◌≡◌, ◌∙◌, true, sym, ap, arith}
use Rattle.sb_ctx.specs.View.{holds_fresh}
use Rattle.sb_space.specs.View.{lent}
use Rattle.sb_space.proofs.Calling.{Calls-none, Calls-then, Calls-from, Calls-ok}
use Rattle.sb_space.proofs.Looking.{HasPages-still, below_next}
use Rattle.sb_space.proofs.durable.Durable.free_page.Goals as goal
use Rattle.sb_space.proofs.durable.Durable.free_page.Goals.{else-branch-eq0-via-then-branch-eq0+else-not-holds_fresh, else-branch-eq0-via-else-branch-eq0}

pub loop-n-init : goal.loop-n-init
loop-n-init g c = record {
  calls = Calls-none g.D.Disk.told g.D.Disk.len g.D.Disk.faults tt (lent c.args.self.now) c.requires.ready;
  used = λ want s has m less. absurd (omega (arith, less));
}

pub owner_of-requires-clause-ready : goal.owner_of-requires-clause-ready
owner_of-requires-clause-ready g c = c.loop-n.invariant.calls.ready

pub owner_of-requires-clause-page : goal.owner_of-requires-clause-page
owner_of-requires-clause-page g c =
    let sizes = ap (λ x. x.pages) c.loop-n.invariant.calls.leads.works.geometry in
    omega (arith, sizes, c.loop-n-test.true, c.pages-n-end.ensures)

pub returns-in_err-owner_of-clause-calls : goal.returns-in_err-owner_of-clause-calls
returns-in_err-owner_of-clause-calls g c =
    let a = lent c.args.self.now in
    let b = lent c.loop-n.self in
    let d = lent c.owner_of.new.self in
    Calls-from g.D.Disk.told g.D.Disk.len g.D.Disk.faults 0 a d c.in_err-owner_of.field-0.0 c.from_residual.result c.from_residual.ensures.1
    (Calls-then g.D.Disk.told g.D.Disk.len g.D.Disk.faults 0 0 a b d tt _ c.loop-n.invariant.calls c.in_err-owner_of.ensures.calls)

pub returns-then-not-holds_fresh-clause-found : goal.returns-then-not-holds_fresh-clause-found
returns-then-not-holds_fresh-clause-found g c = λ want s has.
    let calls = c.loop-n.invariant.calls in
    let middle = HasPages-still g.D.Disk.told g.D.Disk.len g.D.Disk.faults (lent c.args.self.now) (lent c.loop-n.self) want s calls.leads calls.up has in
    record {
      below = omega (arith, c.loop-n-test.true, c.pages-n-end.ensures);
      free = sym (c.in_ok-owner_of.ensures.owner want s middle) ∙ c.if-branch-eq0.true;
      new = sym c.holds_fresh.ensures ∙ c.if-not-holds_fresh.true;
      least = c.loop-n.invariant.used want s has;
    }

pub returns-then-not-holds_fresh-clause-calls : goal.returns-then-not-holds_fresh-clause-calls
returns-then-not-holds_fresh-clause-calls g c =
    let a = lent c.args.self.now in
    let b = lent c.loop-n.self in
    let d = lent c.owner_of.new.self in
    Calls-ok g.D.Disk.told g.D.Disk.len g.D.Disk.faults 0 a d c.in_ok-owner_of.field-0 _
    (Calls-then g.D.Disk.told g.D.Disk.len g.D.Disk.faults 0 0 a b d tt _ c.loop-n.invariant.calls c.in_ok-owner_of.ensures.calls)

pub loop-n-preserved : goal.loop-n-preserved
loop-n-preserved g c =
    let a = lent c.args.self.now in
    let b = lent c.loop-n.self in
    let d = lent c.owner_of.new.self in
    let calls = c.loop-n.invariant.calls in
    record {
      calls = Calls-ok g.D.Disk.told g.D.Disk.len g.D.Disk.faults 0 a d c.in_ok-owner_of.field-0 tt
          (Calls-then g.D.Disk.told g.D.Disk.len g.D.Disk.faults 0 0 a b d tt _ calls c.in_ok-owner_of.ensures.calls);
      used = λ want s has. below_next c.loop-n.n (λ m. (s m).0 ≡ 0 → holds_fresh c.args.ctx.now m ≡ true) (c.loop-n.invariant.used want s has) (λ free.
          let middle = HasPages-still g.D.Disk.told g.D.Disk.len g.D.Disk.faults a b want s calls.leads calls.up has in
          elim c.else-branch-eq0.branch [
            | else-branch-eq0-via-then-branch-eq0+else-not-holds_fresh w ↦ sym w.holds_fresh.ensures ∙ w.if-not-holds_fresh.false
            | else-branch-eq0-via-else-branch-eq0 w ↦ absurd (w.if-branch-eq0.false (c.in_ok-owner_of.ensures.owner want s middle ∙ free))
          ]);
    }

pub returns-clause-found : goal.returns-clause-found
returns-clause-found g c = λ want s has m less. c.loop-n.invariant.used want s has m (omega (arith, less, c.loop-n-test.false, c.pages-n-end.ensures))

pub returns-clause-calls : goal.returns-clause-calls
returns-clause-calls g c = Calls-ok g.D.Disk.told g.D.Disk.len g.D.Disk.faults 0 (lent c.args.self.now) (lent c.loop-n.self) tt _ c.loop-n.invariant.calls
