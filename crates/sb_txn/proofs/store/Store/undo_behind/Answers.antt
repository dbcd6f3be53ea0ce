use Rattle.std.proofs.Common.{◌≡◌, ◌<◌, ℕ, subst, arith}
use Rattle.sb_txn.specs.Book.{standing_of}
use Rattle.sb_txn.specs.Clauses.{GoesBack}
use Rattle.sb_txn.specs.Parts.{parts}
use Rattle.sb_txn.proofs.BackLemmas.{WentBack-none, leaves_now, WentBack-more, fewer_now}
use Rattle.sb_txn.proofs.store.Store.undo_behind.Goals as goal

pub loop-self-init : goal.loop-self-init
loop-self-init g c =
    WentBack-none g.D.Disk.told g.D.Disk.len g.D.Disk.faults c.args.disk.now c.args.self.now c.args.tx c.args.n c.requires.up c.requires.mark c.requires.ready

pub loop-self-smaller : goal.loop-self-smaller
loop-self-smaller g c =
    let so_far = c.loop-self.invariant in
    let some : c.args.n < standing_of c.args.tx c.loop-self.self.book.actives = omega arith in
    fewer_now g.D.Disk.told g.D.Disk.len g.D.Disk.faults c.args.disk.now c.loop-self.disk c.undo_last.new.disk c.args.self.now c.loop-self.self
    c.undo_last.new.self c.args.tx c.args.n so_far some c.undo_last.ensures.any_moment c.in_ok-undo_last.ensures.undoes

pub loop-self-preserved : goal.loop-self-preserved
loop-self-preserved g c =
    let so_far = c.loop-self.invariant in
    let some : c.args.n < standing_of c.args.tx c.loop-self.self.book.actives = omega arith in
    WentBack-more g.D.Disk.told g.D.Disk.len g.D.Disk.faults c.args.disk.now c.loop-self.disk c.undo_last.new.disk c.args.self.now c.loop-self.self
    c.undo_last.new.self c.args.tx c.args.n so_far some c.undo_last.ensures.any_moment c.in_ok-undo_last.ensures.undoes c.in_ok-undo_last.ensures.keeps

pub returns-in_err-undo_last-clause-any_moment : goal.returns-in_err-undo_last-clause-any_moment
returns-in_err-undo_last-clause-any_moment g c =
    let so_far = c.loop-self.invariant in
    let some : c.args.n < standing_of c.args.tx c.loop-self.self.book.actives = omega arith in
    leaves_now g.D.Disk.told g.D.Disk.len g.D.Disk.faults c.args.disk.now c.loop-self.disk c.undo_last.new.disk c.args.self.now c.loop-self.self
    c.undo_last.new.self c.args.tx c.args.n so_far some c.undo_last.ensures.any_moment

pub returns-clause-back : goal.returns-clause-back
returns-clause-back g c o is =
    let so_far = c.loop-self.invariant in
    let standing = so_far.standing in
    let least = so_far.least in
    let all : so_far.left ≡ c.args.n = omega arith in
    subst (λ (k : ℕ). GoesBack (parts g.D.Disk.told g.D.Disk.len c.args.disk.now c.args.self.now) (parts g.D.Disk.told g.D.Disk.len c.loop-self.disk c.loop-self.self) o k)
    all (so_far.undoes o is)
