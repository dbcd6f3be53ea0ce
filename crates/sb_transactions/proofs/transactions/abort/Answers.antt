use Rattle.sb_tables.specs.Refusals.{refusal_of}
use Rattle.sb_txn.specs.Parts.{parts}
use Rattle.sb_transactions.proofs.CallLemmas.{HasCause-of, IsOnlyFault-of, KeepsWanted-fault}
use Rattle.sb_transactions.proofs.transactions.abort.Goals as goal

pub returns-clause-cause : goal.returns-clause-cause
returns-clause-cause g c =
    rw c.refusal_of.ensures
    (HasCause-of g.D.Disk.told g.D.Disk.len g.D.Disk.faults c.args.disk.now c.abort.new.disk c.args.space.now.store c.abort.new.self.store c.in-Err.fault c.in-Err.ensures.err c.in-Err.ensures.keeps.fails)

pub returns-in-Ok-clause-any_moment : goal.returns-in-Ok-clause-any_moment
returns-in-Ok-clause-any_moment g c = record { leaves = c.in-Ok.ensures.any_moment; stays = λ up. c.in-Ok.ensures.wanted }

pub returns-clause-any_moment : goal.returns-clause-any_moment
returns-clause-any_moment g c =
    KeepsWanted-fault (refusal_of c.in-Err.fault) (parts g.D.Disk.told g.D.Disk.len c.args.disk.now c.args.space.now.store) (parts g.D.Disk.told g.D.Disk.len c.abort.new.disk c.abort.new.self.store) (IsOnlyFault-of g.D.Disk.told g.D.Disk.len g.D.Disk.faults c.args.disk.now c.abort.new.disk c.args.space.now.store c.abort.new.self.store c.in-Err.fault c.in-Err.ensures.err c.in-Err.ensures.keeps) c.in-Err.ensures.any_moment
