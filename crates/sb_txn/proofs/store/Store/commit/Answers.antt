use Rattle.std.proofs.Common.{◌≡◌, false, sym, ◌∙◌}
use Rattle.sb_txn.specs.Parts.{parts}
use Rattle.sb_txn.proofs.CalledLemmas.{transaction_with-one}
use Rattle.sb_txn.proofs.EndLemmas.{LeavesOne-commit, LeavesCommit-wanted, LeavesOne-wanted}
use Rattle.sb_txn.proofs.KeepsLemmas.{LeavesWanted-none}
use Rattle.sb_txn.proofs.store.Store.commit.Goals as goal

-- ---- the store is down
pub returns-then-is_down-clause-any_moment : goal.returns-then-is_down-clause-any_moment
returns-then-is_down-clause-any_moment g c o _ =
    let old = parts g.D.Disk.told g.D.Disk.len c.args.disk.now c.args.self.now in
    LeavesCommit-wanted old old o (LeavesWanted-none old)

pub returns-then-is_down-clause-alone : goal.returns-then-is_down-clause-alone
returns-then-is_down-clause-alone g c o _ =
    let old = parts g.D.Disk.told g.D.Disk.len c.args.disk.now c.args.self.now in
    LeavesOne-wanted old old (LeavesWanted-none old)

-- ---- it is up
pub returns-clause-alone : goal.returns-clause-alone
returns-clause-alone g c o is =
    let up : c.args.self.now.book.down ≡ false = sym c.is_down.ensures ∙ c.if-is_down.false in
    LeavesOne-commit (parts g.D.Disk.told g.D.Disk.len c.args.disk.now c.args.self.now) (parts g.D.Disk.told g.D.Disk.len c.commit_active.new.disk c.commit_active.new.self) o is
    (c.commit_active.ensures.any_moment o (transaction_with-one c.args.tx.number c.args.self.now.book.actives o is (c.requires.among up)))
