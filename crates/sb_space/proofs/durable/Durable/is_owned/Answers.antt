use Rattle.std.proofs.Common.{false, arith}
use Rattle.sb_space.specs.Durable.{parts_in}
use Rattle.sb_space.specs.View.{lent}
use Rattle.sb_space.proofs.Calling.{Calls-none}
use Rattle.sb_space.proofs.Looking.{IsOwned-low, IsOwned-beyond, IsOwned-looked}
use Rattle.sb_space.proofs.durable.Durable.is_owned.Goals as goal
use Rattle.sb_space.proofs.durable.Durable.is_owned.Goals.{then-owner-lt-FIRST_OWNER-via-then-owner-lt-FIRST_OWNER, then-owner-lt-FIRST_OWNER-via-else-owner-lt-FIRST_OWNER+then-n-pages}

pub returns-then-owner-lt-FIRST_OWNER-clause-owned : goal.returns-then-owner-lt-FIRST_OWNER-clause-owned
returns-then-owner-lt-FIRST_OWNER-clause-owned g c = λ want s has.
    let p = parts_in g.D.Disk.told g.D.Disk.len (lent c.args.self.now) in
    elim c.then-owner-lt-FIRST_OWNER.branch [
      | then-owner-lt-FIRST_OWNER-via-then-owner-lt-FIRST_OWNER w ↦ IsOwned-low want s p has c.args.owner c.args.n w.if-owner-lt-FIRST_OWNER.true
      | then-owner-lt-FIRST_OWNER-via-else-owner-lt-FIRST_OWNER+then-n-pages w ↦ IsOwned-beyond want s p has c.args.owner c.args.n (omega (arith, w.if-n-pages.true, w.pages.ensures))
    ]

pub returns-then-owner-lt-FIRST_OWNER-clause-calls : goal.returns-then-owner-lt-FIRST_OWNER-clause-calls
returns-then-owner-lt-FIRST_OWNER-clause-calls g c = Calls-none g.D.Disk.told g.D.Disk.len g.D.Disk.faults false (lent c.args.self.now) c.requires.ready

pub returns-clause-owned : goal.returns-clause-owned
returns-clause-owned g c = λ want s has.
    let p = parts_in g.D.Disk.told g.D.Disk.len (lent c.args.self.now) in
    let high = c.if-owner-lt-FIRST_OWNER.false in
    let within = c.if-n-pages.false in
    let pages = c.pages.ensures in
    IsOwned-looked want s p has c.args.owner c.args.n c.in_ok-owner_of.field-0 high (omega (arith, within, pages)) (c.in_ok-owner_of.ensures.owner want s has)
