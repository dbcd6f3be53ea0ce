use Rattle.std.proofs.Common.{◌≡◌, ◌↔◌, ℕ, OnOk, IfErr, IsErrOf, List, length, subst}
use Rattle.sb_disk.specs.Disk.{WhereTold}
use Rattle.sb_journal.specs.State.{Appended, after_append}
use Rattle.sb_log.specs.Rec.{record_of}
use Rattle.sb_log.specs.Records.{spelling}
use Rattle.sb_images.proofs.CallLemmas.{LeavesOnly-append}
use Rattle.sb_txn.proofs.LogLemmas.{OnOk-logged, OnOk-pages, IsFault-room}
use Rattle.sb_journal.specs.Calls.{IsLogFull, log_full, AppendErr}
use Rattle.sb_txn.proofs.logging.append_rec.Goals as goal

pub returns-clause-any_moment : goal.returns-clause-any_moment
returns-clause-any_moment g c want geometry opened pending ready =
    LeavesOnly-append want c.args.journal.now geometry opened pending _ _ ready c.append.ensures.any_moment

pub returns-clause-store : goal.returns-clause-store
returns-clause-store g c =
    OnOk-logged c.args.journal.now c.append.new.self (record_of c.args.r.now) c.append.ensures.keeps.sound c.requires.sound c.append.result _ _
    (subst (λ (bytes : List ℕ). OnOk c.append.result (c.append.new.self ≡ after_append (length bytes) c.args.journal.now)) c.write_rec.ensures.written c.append.ensures.done)
    (subst (λ (bytes : List ℕ). OnOk c.append.result (WhereTold (g.D.Disk.told c.args.disk.now) (g.D.Disk.told c.append.new.disk) (Appended bytes c.args.journal.now c.append.new.self))) c.write_rec.ensures.written c.append.ensures.appended)

pub returns-clause-pages : goal.returns-clause-pages
returns-clause-pages g c =
    OnOk-pages c.args.journal.now c.append.new.self _ c.append.result (g.D.Disk.told c.args.disk.now) (g.D.Disk.told c.append.new.disk) c.append.ensures.appended

pub returns-clause-err : goal.returns-clause-err
returns-clause-err g c room =
    IsFault-room (length (spelling (record_of c.args.r.now))) c.args.disk.now c.append.new.disk c.args.journal.now c.append.new.self c.append.result
    (subst (λ (bytes : List ℕ). IfErr c.append.result (λ e. AppendErr e (length bytes) c.args.disk.now c.append.new.disk c.args.journal.now c.append.new.self)) c.write_rec.ensures.written c.append.ensures.refused)
    (subst (λ (bytes : List ℕ). IsErrOf c.append.result (log_full (length bytes) c.args.journal.now) ↔ IsLogFull (length bytes) c.args.journal.now) c.write_rec.ensures.written c.append.ensures.full) room
