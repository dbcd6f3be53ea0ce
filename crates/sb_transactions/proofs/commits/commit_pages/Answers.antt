use Rattle.sb_txn.specs.Parts.{parts}
use Rattle.sb_transactions.proofs.CallLemmas.{HasCause-of}
use Rattle.sb_transactions.proofs.CommitLemmas.{IsDone-commit, LeavesEither-commit}
use Rattle.sb_transactions.proofs.commits.commit_pages.Goals as goal

pub returns-in-Ok-clause-done : goal.returns-in-Ok-clause-done
returns-in-Ok-clause-done g c = λ m place want h at finished.
    let told = g.D.Disk.told in
    let len = g.D.Disk.len in
    IsDone-commit m place want c.args.transaction.tx.store.number h (parts told len c.args.disk.now c.args.space.now.store) c.args.transaction.work at finished
    (parts told len c.commit.new.disk c.commit.new.self.store) c.in-Ok.ensures.keeps.geometry c.in-Ok.ensures.commits c.in-Ok.ensures.any_moment

pub returns-in-Ok-clause-any_moment : goal.returns-in-Ok-clause-any_moment
returns-in-Ok-clause-any_moment g c = λ m place want h at finished.
    let told = g.D.Disk.told in
    let len = g.D.Disk.len in
    LeavesEither-commit m place want c.args.transaction.tx.store.number h (parts told len c.args.disk.now c.args.space.now.store) c.args.transaction.work at finished
    (parts told len c.commit.new.disk c.commit.new.self.store) c.in-Ok.ensures.any_moment

pub returns-in-Err-clause-any_moment : goal.returns-in-Err-clause-any_moment
returns-in-Err-clause-any_moment g c = λ m place want h at finished.
    let told = g.D.Disk.told in
    let len = g.D.Disk.len in
    LeavesEither-commit m place want c.args.transaction.tx.store.number h (parts told len c.args.disk.now c.args.space.now.store) c.args.transaction.work at finished
    (parts told len c.commit.new.disk c.commit.new.self.store) c.in-Err.ensures.any_moment

pub returns-in-Err-clause-cause : goal.returns-in-Err-clause-cause
returns-in-Err-clause-cause g c =
    rw c.refusal_of.ensures
    (HasCause-of g.D.Disk.told g.D.Disk.len g.D.Disk.faults c.args.disk.now c.commit.new.disk c.args.space.now.store c.commit.new.self.store c.in-Err.fault c.in-Err.ensures.err c.in-Err.ensures.keeps.fails)
