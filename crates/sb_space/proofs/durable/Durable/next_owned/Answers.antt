use Rattle.std.proofs.Common.{◌≡◌, ◌≤◌, [], subst, arith}
use Rattle.sb_drive.specs.Slots.{owned}
use Rattle.sb_space.specs.Durable.{parts_in}
use Rattle.sb_space.specs.Owners.{IsOwned}
use Rattle.sb_space.specs.View.{lent}
use Rattle.sb_space.proofs.Calling.{Calls-none, Calls-then, Calls-from, Calls-ok}
use Rattle.sb_space.proofs.Looking.{HasPages-still, below_next, IsNext-found, IsNext-none}
use Rattle.sb_space.proofs.durable.Durable.next_owned.Goals as goal

pub loop-n-init : goal.loop-n-init
loop-n-init g c = record {
  calls = Calls-none g.D.Disk.told g.D.Disk.len g.D.Disk.faults tt (lent c.args.self.now) c.requires.ready;
  none = λ want s has m less from. absurd (omega (arith, less, from));
}

pub is_owned-requires : goal.is_owned-requires
is_owned-requires g c = record { ready = c.loop-n.invariant.calls.ready }

pub returns-in_err-is_owned-clause-calls : goal.returns-in_err-is_owned-clause-calls
returns-in_err-is_owned-clause-calls g c =
    let a = lent c.args.self.now in
    let b = lent c.loop-n.self in
    let d = lent c.is_owned.new.self in
    Calls-from g.D.Disk.told g.D.Disk.len g.D.Disk.faults 0 a d c.in_err-is_owned.field-0.0 c.from_residual.result c.from_residual.ensures.1
    (Calls-then g.D.Disk.told g.D.Disk.len g.D.Disk.faults 0 0 a b d tt _ c.loop-n.invariant.calls c.in_err-is_owned.ensures.calls)

pub returns-then-branch-clause-next : goal.returns-then-branch-clause-next
returns-then-branch-clause-next g c = λ want s has.
    let calls = c.loop-n.invariant.calls in
    let middle = HasPages-still g.D.Disk.told g.D.Disk.len g.D.Disk.faults (lent c.args.self.now) (lent c.loop-n.self) want s calls.leads calls.up has in
    IsNext-found want s (parts_in g.D.Disk.told g.D.Disk.len (lent c.args.self.now)) has c.args.owner c.args.low c.behind-first.result c.loop-n.n c.behind-first.ensures c.requires.ready.few c.loop-n.auto.n (omega (arith, c.loop-n-test.true, c.pages-n-end.ensures))
    (subst (IsOwned s c.args.owner c.loop-n.n) c.if-branch.true (c.in_ok-is_owned.ensures.owned want s middle)) (c.loop-n.invariant.none want s has)

pub returns-then-branch-clause-calls : goal.returns-then-branch-clause-calls
returns-then-branch-clause-calls g c =
    let a = lent c.args.self.now in
    let b = lent c.loop-n.self in
    let d = lent c.is_owned.new.self in
    Calls-ok g.D.Disk.told g.D.Disk.len g.D.Disk.faults 0 a d c.in_ok-is_owned.field-0 _
    (Calls-then g.D.Disk.told g.D.Disk.len g.D.Disk.faults 0 0 a b d tt _ c.loop-n.invariant.calls c.in_ok-is_owned.ensures.calls)

pub loop-n-preserved : goal.loop-n-preserved
loop-n-preserved g c =
    let a = lent c.args.self.now in
    let b = lent c.loop-n.self in
    let d = lent c.is_owned.new.self in
    let calls = c.loop-n.invariant.calls in
    record {
      calls = Calls-ok g.D.Disk.told g.D.Disk.len g.D.Disk.faults 0 a d c.in_ok-is_owned.field-0 tt
          (Calls-then g.D.Disk.told g.D.Disk.len g.D.Disk.faults 0 0 a b d tt _ calls c.in_ok-is_owned.ensures.calls);
      none = λ want s has. below_next c.loop-n.n (λ m. c.behind-first.result ≤ m → owned s c.args.owner m ≡ []) (c.loop-n.invariant.none want s has) (λ from.
          let middle = HasPages-still g.D.Disk.told g.D.Disk.len g.D.Disk.faults a b want s calls.leads calls.up has in
          subst (IsOwned s c.args.owner c.loop-n.n) c.if-branch.false (c.in_ok-is_owned.ensures.owned want s middle));
    }

pub returns-clause-next : goal.returns-clause-next
returns-clause-next g c = λ want s has.
    IsNext-none want s (parts_in g.D.Disk.told g.D.Disk.len (lent c.args.self.now)) has c.args.owner c.args.low c.behind-first.result c.loop-n.n c.behind-first.ensures c.requires.ready.few
    (omega (arith, c.loop-n-test.false, c.pages-n-end.ensures)) (c.loop-n.invariant.none want s has)

pub returns-clause-calls : goal.returns-clause-calls
returns-clause-calls g c = Calls-ok g.D.Disk.told g.D.Disk.len g.D.Disk.faults 0 (lent c.args.self.now) (lent c.loop-n.self) tt _ c.loop-n.invariant.calls
