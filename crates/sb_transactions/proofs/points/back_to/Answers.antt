use Rattle.sb_tables.specs.Refusals.{refusal_of}
use Rattle.sb_txn.specs.Parts.{parts}
use Rattle.sb_transactions.proofs.CallLemmas.{HasCause-of, HasSpent-still, IsOnlyFault-of, KeepsWanted-fault, up_before}
use Rattle.sb_transactions.proofs.PointLemmas.{IsAt-back, WasSo-back}
use Rattle.sb_transactions.proofs.points.back_to.Goals as goal

pub returns-in-Ok-clause-back : goal.returns-in-Ok-clause-back
returns-in-Ok-clause-back g c =
    let told = g.D.Disk.told in
    let len = g.D.Disk.len in
    IsAt-back c.args.transaction.now.tx.store.number c.args.point (parts told len c.args.disk.now c.args.space.now.store) (parts told len c.back_to.new.disk c.back_to.new.self.store)
    c.args.transaction.now.work c.cut_work.new.work c.requires.point c.cut_work.ensures c.in-Ok.ensures.back c.back_to.ensures.serves

pub returns-in-Ok-clause-earlier : goal.returns-in-Ok-clause-earlier
returns-in-Ok-clause-earlier g c =
    let told = g.D.Disk.told in
    let len = g.D.Disk.len in
    λ m place want h one less was.
    WasSo-back c.args.transaction.now.tx.store.number c.args.point (parts told len c.args.disk.now c.args.space.now.store) (parts told len c.back_to.new.disk c.back_to.new.self.store)
    c.args.transaction.now.work c.cut_work.new.work c.requires.point c.cut_work.ensures c.in-Ok.ensures.standing one less c.in-Ok.ensures.earlier m place want h was

pub returns-in-Ok-clause-spent : goal.returns-in-Ok-clause-spent
returns-in-Ok-clause-spent g c =
    HasSpent-still c.args.space.now.store c.back_to.new.self.store c.in-Ok.ensures.keeps.geometry
    (up_before g.D.Disk.told g.D.Disk.len g.D.Disk.faults c.args.disk.now c.back_to.new.disk c.args.space.now.store c.back_to.new.self.store tt c.in-Ok.ensures.keeps) c.in-Ok.ensures.grows

pub returns-in-Err-clause-cause : goal.returns-in-Err-clause-cause
returns-in-Err-clause-cause g c =
    rw c.refusal_of.ensures
    (HasCause-of g.D.Disk.told g.D.Disk.len g.D.Disk.faults c.args.disk.now c.back_to.new.disk c.args.space.now.store c.back_to.new.self.store c.in-Err.fault c.in-Err.ensures.err c.in-Err.ensures.keeps.fails)

pub returns-in-Ok-clause-any_moment : goal.returns-in-Ok-clause-any_moment
returns-in-Ok-clause-any_moment g c = record { leaves = c.in-Ok.ensures.any_moment; stays = λ up. c.in-Ok.ensures.wanted }

pub returns-in-Err-clause-any_moment : goal.returns-in-Err-clause-any_moment
returns-in-Err-clause-any_moment g c =
    KeepsWanted-fault (refusal_of c.in-Err.fault) (parts g.D.Disk.told g.D.Disk.len c.args.disk.now c.args.space.now.store) (parts g.D.Disk.told g.D.Disk.len c.back_to.new.disk c.back_to.new.self.store) (IsOnlyFault-of g.D.Disk.told g.D.Disk.len g.D.Disk.faults c.args.disk.now c.back_to.new.disk c.args.space.now.store c.back_to.new.self.store c.in-Err.fault c.in-Err.ensures.err c.in-Err.ensures.keeps) c.in-Err.ensures.any_moment
