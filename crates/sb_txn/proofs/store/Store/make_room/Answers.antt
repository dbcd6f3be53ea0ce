use Rattle.sb_txn.specs.Parts.{parts}
use Rattle.sb_txn.specs.Steps.{TakesCheckpoint}
use Rattle.sb_txn.proofs.BeginLemmas.{MakesRoom-checkpoint}
use Rattle.sb_txn.proofs.KeepsLemmas.{LeavesWanted-none}
use Rattle.sb_txn.proofs.ResultLemmas.{OnOk-map}
use Rattle.sb_txn.proofs.store.Store.make_room.Goals as goal

pub returns-then-is_down-clause-any_moment : goal.returns-then-is_down-clause-any_moment
returns-then-is_down-clause-any_moment g c = LeavesWanted-none _

pub returns-then-takes_checkpoint-clause-made : goal.returns-then-takes_checkpoint-clause-made
returns-then-takes_checkpoint-clause-made g c =
    let takes : TakesCheckpoint c.args.self.now.journal c.args.self.now.book = c.takes_checkpoint.ensures.due c.if-takes_checkpoint.true in
    OnOk-map c.checkpoint.result _ _ (MakesRoom-checkpoint (parts g.D.Disk.told g.D.Disk.len c.args.disk.now c.args.self.now) (parts g.D.Disk.told g.D.Disk.len c.checkpoint.new.disk c.checkpoint.new.self) takes)
    c.checkpoint.ensures.checkpoints

pub returns-clause-any_moment : goal.returns-clause-any_moment
returns-clause-any_moment g c = LeavesWanted-none _
