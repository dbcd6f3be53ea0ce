use Rattle.std.proofs.Common.{◌≡◌, ℕ, Option, Ok, IfSome, is_some, sym, ap, ◌∙◌, subst}
use Rattle.sb_plain.specs.declared.reply.Reply.{Reply}
use Rattle.sb_txn.specs.Parts.{parts}
use Rattle.sb_space.specs.declared.transactions.Tx.{Tx}
use Rattle.sb_space.specs.Works.{Serves}
use Rattle.sb_session.specs.Transaction.{Transaction}
use Rattle.sb_session.specs.Commits.{StaysOpen}
use Rattle.sb_statements.specs.Statements.{answer_of}
use Rattle.sb_execution.specs.Endings.{EndsAlone}
use Rattle.sb_execution.proofs.AloneLemmas.{EndsAlone-committed}
use Rattle.sb_execution.proofs.AloneCommit.{EndsAlone-let_go, EndsAlone-not_let_go, EndsAlone-over}
use Rattle.sb_execution.proofs.outside.commit_answer.Goals as goal

pub returns-in-Ok-clause-ended : goal.returns-in-Ok-clause-ended
returns-in-Ok-clause-ended g c =
    let told = g.D.Disk.told in
    let len = g.D.Disk.len in
    let faults = g.D.Disk.faults in
    let m = g.B.Boxes.meanings c.args.boxes.now in
    let place = c.args.place in
    let e = c.args.disk.now in
    let t = c.args.space.now.store in
    let tx = c.args.transaction.tx.store.number in
    let w = c.args.transaction.work in
    let v = c.commit.new.disk in
    let vs = c.commit.new.space.store in
    λ k d s ones has.
    let opened = c.in-Ok.committed.opened.items in
    subst (λ (r : Reply). EndsAlone told len faults m place k d v s vs ones opened (Ok r)) (sym c.replied.ensures)
    (EndsAlone-committed told len faults m place k d e s t tx w ones (answer_of c.args.answer) has v vs c.in-Ok.committed c.in-Ok.committed.picks.items opened c.in-Ok.ensures.remains
    (c.in-Ok.ensures.none tt) c.in-Ok.ensures.done)

pub abort-requires : goal.abort-requires
abort-requires g c =
    let told = g.D.Disk.told in
    let len = g.D.Disk.len in
    let here = parts told len c.args.disk.now c.args.space.now.store in
    let between = parts told len c.commit.new.disk c.commit.new.space.store in
    let tx = c.args.transaction.tx.store.number in
    let same : c.in-Some.kept.tx ≡ c.args.transaction.tx = subst (λ (o : Option Transaction). IfSome o (λ t. t.tx ≡ c.args.transaction.tx)) c.in-Some.is c.in-Err.ensures.tx in
    let stays : StaysOpen tx here between c.args.transaction.work c.in-Some.kept.work = subst (λ (o : Option Transaction). IfSome o (λ t. StaysOpen tx here between c.args.transaction.work t.work)) c.in-Some.is c.in-Err.ensures.stays in
    record {
      serves = subst (λ (n : ℕ). Serves n between) (sym (ap (λ (a : Tx). a.store.number) same))
          (stays.usable (g.B.Boxes.meanings c.args.boxes.now) c.args.place c.requires.usable.owner).ready;
    }

pub returns-in-Ok-abort-clause-ended : goal.returns-in-Ok-abort-clause-ended
returns-in-Ok-abort-clause-ended g c =
    let told = g.D.Disk.told in
    let len = g.D.Disk.len in
    let faults = g.D.Disk.faults in
    let m = g.B.Boxes.meanings c.args.boxes.now in
    let place = c.args.place in
    let e = c.args.disk.now in
    let t = c.args.space.now.store in
    let tx = c.args.transaction.tx.store.number in
    let w = c.args.transaction.work in
    let v = c.commit.new.disk in
    let vs = c.commit.new.space.store in
    let here = parts told len e t in
    let between = parts told len v vs in
    let same : c.in-Some.kept.tx ≡ c.args.transaction.tx = subst (λ (o : Option Transaction). IfSome o (λ t. t.tx ≡ c.args.transaction.tx)) c.in-Some.is c.in-Err.ensures.tx in
    let stays : StaysOpen tx here between w c.in-Some.kept.work = subst (λ (o : Option Transaction). IfSome o (λ t. StaysOpen tx here between w t.work)) c.in-Some.is c.in-Err.ensures.stays in
    λ k d s ones has.
    EndsAlone-let_go told len faults m place k d e v s t vs tx w ones (answer_of c.args.answer) has c.args.opened.now.items c.requires.none_open c.in-Err.uncommitted.refusal c.in-Err.ensures.remains c.in-Err.ensures.refused
    c.in-Some.kept.work stays c.abort.new.disk c.abort.new.space.store c.in-Ok-abort.ensures.any_moment (sym c.in-Err.ensures.wanting ∙ ap is_some c.in-Some.is)
    c.in-Ok-abort.ensures.remains c.in-Ok-abort.ensures.none c.in-Some.kept.tx.store.number (ap (λ (a : Tx). a.store.number) same) c.in-Ok-abort.ensures.rests

pub returns-in-Err-abort-clause-ended : goal.returns-in-Err-abort-clause-ended
returns-in-Err-abort-clause-ended g c =
    let told = g.D.Disk.told in
    let len = g.D.Disk.len in
    let faults = g.D.Disk.faults in
    let m = g.B.Boxes.meanings c.args.boxes.now in
    let place = c.args.place in
    let e = c.args.disk.now in
    let t = c.args.space.now.store in
    let tx = c.args.transaction.tx.store.number in
    let w = c.args.transaction.work in
    let v = c.commit.new.disk in
    let vs = c.commit.new.space.store in
    let here = parts told len e t in
    let between = parts told len v vs in
    let stays : StaysOpen tx here between w c.in-Some.kept.work = subst (λ (o : Option Transaction). IfSome o (λ t. StaysOpen tx here between w t.work)) c.in-Some.is c.in-Err.ensures.stays in
    λ k d s ones has.
    EndsAlone-not_let_go told len faults m place k d e v s t vs tx w ones (answer_of c.args.answer) has c.args.opened.now.items c.requires.none_open c.in-Err.uncommitted.refusal c.in-Err.ensures.remains c.in-Err.ensures.refused
    c.in-Some.kept.work stays c.abort.new.disk c.abort.new.space.store c.in-Err-abort.ensures.any_moment c.in-Err-abort.fault c.in-Err-abort.ensures.remains c.in-Err-abort.ensures.err

pub returns-in-None-clause-ended : goal.returns-in-None-clause-ended
returns-in-None-clause-ended g c =
    let told = g.D.Disk.told in
    let len = g.D.Disk.len in
    let faults = g.D.Disk.faults in
    let m = g.B.Boxes.meanings c.args.boxes.now in
    let place = c.args.place in
    let e = c.args.disk.now in
    let t = c.args.space.now.store in
    let tx = c.args.transaction.tx.store.number in
    let w = c.args.transaction.work in
    let v = c.commit.new.disk in
    let vs = c.commit.new.space.store in
    λ k d s ones has.
    EndsAlone-over told len faults m place k d e v s t vs tx w ones (answer_of c.args.answer) has c.args.opened.now.items c.requires.none_open c.in-Err.uncommitted.refusal c.in-Err.ensures.remains c.in-Err.ensures.refused
    c.in-Err.ensures.any_moment c.in-Err.ensures.kept (c.in-Err.ensures.none c.in-None.is) (c.in-Err.ensures.aborted c.in-None.is) c.in-Err.ensures.fault
