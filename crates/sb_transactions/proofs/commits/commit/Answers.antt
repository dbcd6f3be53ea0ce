use Rattle.std.proofs.Common.{◌≡◌, ℕ, true, All, sym, ap, subst, ◌∙◌}
use Rattle.std.proofs.lemmas.Bool.{false≢true}
use Rattle.sb_cascade.specs.Runs.{is_room}
use Rattle.sb_txn.specs.Parts.{parts}
use Rattle.sb_space.specs.declared.transactions.Tx.{Tx}
use Rattle.sb_tables.specs.Opened.{IsOpen}
use Rattle.sb_tables.proofs.RefusedLemmas.{on_fault}
use Rattle.sb_transactions.specs.Calls.{Remains}
use Rattle.sb_transactions.specs.Commits.{is_wanting}
use Rattle.sb_transactions.specs.Transactions.{IsBack, IsPointOf, WasBegun}
use Rattle.sb_transactions.proofs.CallLemmas.{up-earlier}
use Rattle.sb_transactions.proofs.EndLemmas.{KeepsWanted-stopped, LeavesOldOrFinished-abort, LeavesOldOrFinished-commit, Remains-behind, Remains-stopped, StopsAt-stopped, done-commit, done-left, down-stopped, leaves-left, none-ended, only-ended, opened-ended, remains-ended, roomless-stopped, stops-commit, stops-left}
use Rattle.sb_transactions.proofs.OpenLemmas.{goes-open, same-open, stays-open}
use Rattle.sb_transactions.proofs.commits.commit.Goals as goal

pub returns-then-is_idle-clause-done : goal.returns-then-is_idle-clause-done
returns-then-is_idle-clause-done g c =
    let told = g.D.Disk.told in
    let len = g.D.Disk.len in
    let m = g.B.Boxes.meanings c.args.boxes.now in
    let tx = c.args.transaction.tx.store.number in
    let v = c.args.transaction.work in
    let d = c.args.disk.now in
    let s = c.args.space.now.store in
    let f = c.commit_pages.new.disk in
    let u = c.commit_pages.new.space.store in
    let r = c.commit_pages.result in
    let left = c.is_idle.ensures.0 c.if-is_idle.true in
    rw c.ended.ensures (done-left m c.args.place tx (parts told len d s) (parts told len f u) v left r c.commit_pages.ensures.done)

pub returns-then-is_idle-clause-opened : goal.returns-then-is_idle-clause-opened
returns-then-is_idle-clause-opened g c =
    let m = g.B.Boxes.meanings c.args.boxes.now in
    rw c.ended.ensures (opened-ended (All (IsOpen m)) c.args.transaction.work.opened.items c.commit_pages.result c.requires.usable.opened c.commit_pages.ensures.opened)

pub returns-then-is_idle-clause-refused : goal.returns-then-is_idle-clause-refused
returns-then-is_idle-clause-refused g c =
    let told = g.D.Disk.told in
    let len = g.D.Disk.len in
    let faults = g.D.Disk.faults in
    let m = g.B.Boxes.meanings c.args.boxes.now in
    let tx = c.args.transaction.tx.store.number in
    let v = c.args.transaction.work in
    let d = c.args.disk.now in
    let s = c.args.space.now.store in
    let f = c.commit_pages.new.disk in
    let u = c.commit_pages.new.space.store in
    let r = c.commit_pages.result in
    let left = c.is_idle.ensures.0 c.if-is_idle.true in
    rw c.ended.ensures (stops-left told len faults m c.args.place tx (parts told len d s) v (record { disk = d; store = s }) (record { disk = f; store = u }) r left c.commit_pages.ensures.err c.commit_pages.ensures.cause)

pub returns-then-is_idle-clause-fault : goal.returns-then-is_idle-clause-fault
returns-then-is_idle-clause-fault g c =
    let u = c.commit_pages.new.space.store in
    let r = c.commit_pages.result in
    rw c.ended.ensures (only-ended r u _ (λ q only. on_fault q (u.book.down ≡ true) (λ is. only.down)) c.commit_pages.ensures.err)

pub returns-then-is_idle-clause-wanting : goal.returns-then-is_idle-clause-wanting
returns-then-is_idle-clause-wanting g c =
    let u = c.commit_pages.new.space.store in
    let r = c.commit_pages.result in
    rw c.ended.ensures (only-ended r u _ (λ q only. sym (ap is_wanting only.is)) c.commit_pages.ensures.err)

pub returns-then-is_idle-clause-tx : goal.returns-then-is_idle-clause-tx
returns-then-is_idle-clause-tx g c =
    let u = c.commit_pages.new.space.store in
    let r = c.commit_pages.result in
    rw c.ended.ensures (only-ended r u _ (λ q only. tt) c.commit_pages.ensures.err)

pub returns-then-is_idle-clause-stays : goal.returns-then-is_idle-clause-stays
returns-then-is_idle-clause-stays g c =
    let u = c.commit_pages.new.space.store in
    let r = c.commit_pages.result in
    rw c.ended.ensures (only-ended r u _ (λ q only. tt) c.commit_pages.ensures.err)

pub returns-then-is_idle-clause-aborted : goal.returns-then-is_idle-clause-aborted
returns-then-is_idle-clause-aborted g c =
    let u = c.commit_pages.new.space.store in
    let r = c.commit_pages.result in
    rw c.ended.ensures (only-ended r u _ (λ q only none up. absurd (false≢true (sym up ∙ only.down))) c.commit_pages.ensures.err)

pub returns-then-is_idle-clause-none : goal.returns-then-is_idle-clause-none
returns-then-is_idle-clause-none g c =
    let u = c.commit_pages.new.space.store in
    let r = c.commit_pages.result in
    rw c.ended.ensures (none-ended r u c.commit_pages.ensures.none c.commit_pages.ensures.err)

pub returns-then-is_idle-clause-any_moment : goal.returns-then-is_idle-clause-any_moment
returns-then-is_idle-clause-any_moment g c =
    let told = g.D.Disk.told in
    let len = g.D.Disk.len in
    let m = g.B.Boxes.meanings c.args.boxes.now in
    let tx = c.args.transaction.tx.store.number in
    let v = c.args.transaction.work in
    let d = c.args.disk.now in
    let s = c.args.space.now.store in
    let f = c.commit_pages.new.disk in
    let u = c.commit_pages.new.space.store in
    let left = c.is_idle.ensures.0 c.if-is_idle.true in
    leaves-left m c.args.place tx (parts told len d s) (parts told len f u) v left c.commit_pages.ensures.any_moment

pub returns-then-is_idle-clause-kept : goal.returns-then-is_idle-clause-kept
returns-then-is_idle-clause-kept g c =
    rw c.ended.ensures (only-ended c.commit_pages.result c.commit_pages.new.space.store _ (λ q only not. absurd (not only.is)) c.commit_pages.ensures.err)

pub returns-then-is_idle-clause-room : goal.returns-then-is_idle-clause-room
returns-then-is_idle-clause-room g c =
    rw c.ended.ensures (only-ended c.commit_pages.result c.commit_pages.new.space.store _ (λ q only want h at paid none idle. ap is_room only.is) c.commit_pages.ensures.err)

pub returns-then-is_idle-clause-quiet : goal.returns-then-is_idle-clause-quiet
returns-then-is_idle-clause-quiet g c =
    let u = c.commit_pages.new.space.store in
    let r = c.commit_pages.result in
    rw c.ended.ensures (λ _. only-ended r u _ (λ q only. only) c.commit_pages.ensures.err)

pub returns-then-is_idle-clause-remains : goal.returns-then-is_idle-clause-remains
returns-then-is_idle-clause-remains g c =
    let told = g.D.Disk.told in
    let len = g.D.Disk.len in
    let faults = g.D.Disk.faults in
    let d = c.args.disk.now in
    let s = c.args.space.now.store in
    let f = c.commit_pages.new.disk in
    let u = c.commit_pages.new.space.store in
    let r = c.commit_pages.result in
    rw c.ended.ensures (remains-ended (λ q. Remains told len faults d f s u q) r c.commit_pages.ensures.remains)

pub returns-in-Ok-clause-done : goal.returns-in-Ok-clause-done
returns-in-Ok-clause-done g c =
    let told = g.D.Disk.told in
    let len = g.D.Disk.len in
    let faults = g.D.Disk.faults in
    let m = g.B.Boxes.meanings c.args.boxes.now in
    let tx = c.args.transaction.tx.store.number in
    let v = c.args.transaction.work in
    let d = c.args.disk.now in
    let s = c.args.space.now.store in
    let e = c.finish_work.new.disk in
    let t = c.finish_work.new.space.store in
    let w = c.finish_work.new.transaction.work in
    let next = c.finish_work.new.transaction.tx.store.number in
    let same = ap (λ (x : Tx). x.store.number) c.finish_work.ensures.tx in
    let led = c.finish_work.ensures.led in
    let f = c.commit_pages-in-Ok.new.disk in
    let u = c.commit_pages-in-Ok.new.space.store in
    let r = c.commit_pages-in-Ok.result in
    rw c.ended-in-Ok.ensures (done-commit told len faults m c.args.place tx d e f s t u w led v c.in-Ok.ensures.finished c.in-Ok.ensures.none r next same c.commit_pages-in-Ok.ensures.up c.commit_pages-in-Ok.ensures.done)

pub returns-in-Ok-clause-opened : goal.returns-in-Ok-clause-opened
returns-in-Ok-clause-opened g c =
    let m = g.B.Boxes.meanings c.args.boxes.now in
    rw c.ended-in-Ok.ensures
    (opened-ended (All (IsOpen m)) c.finish_work.new.transaction.work.opened.items c.commit_pages-in-Ok.result c.finish_work.ensures.usable.opened c.commit_pages-in-Ok.ensures.opened)

pub returns-in-Ok-clause-refused : goal.returns-in-Ok-clause-refused
returns-in-Ok-clause-refused g c =
    let told = g.D.Disk.told in
    let len = g.D.Disk.len in
    let faults = g.D.Disk.faults in
    let m = g.B.Boxes.meanings c.args.boxes.now in
    let tx = c.args.transaction.tx.store.number in
    let v = c.args.transaction.work in
    let d = c.args.disk.now in
    let s = c.args.space.now.store in
    let e = c.finish_work.new.disk in
    let t = c.finish_work.new.space.store in
    let w = c.finish_work.new.transaction.work in
    let led = c.finish_work.ensures.led in
    let f = c.commit_pages-in-Ok.new.disk in
    let u = c.commit_pages-in-Ok.new.space.store in
    let r = c.commit_pages-in-Ok.result in
    rw c.ended-in-Ok.ensures (stops-commit told len faults m c.args.place tx d e f s t u w led v c.in-Ok.ensures.finished c.in-Ok.ensures.none r c.commit_pages-in-Ok.ensures.err c.commit_pages-in-Ok.ensures.cause)

pub returns-in-Ok-clause-fault : goal.returns-in-Ok-clause-fault
returns-in-Ok-clause-fault g c =
    let u = c.commit_pages-in-Ok.new.space.store in
    let r = c.commit_pages-in-Ok.result in
    rw c.ended-in-Ok.ensures (only-ended r u _ (λ q only. on_fault q (u.book.down ≡ true) (λ is. only.down)) c.commit_pages-in-Ok.ensures.err)

pub returns-in-Ok-clause-wanting : goal.returns-in-Ok-clause-wanting
returns-in-Ok-clause-wanting g c =
    let u = c.commit_pages-in-Ok.new.space.store in
    let r = c.commit_pages-in-Ok.result in
    rw c.ended-in-Ok.ensures (only-ended r u _ (λ q only. sym (ap is_wanting only.is)) c.commit_pages-in-Ok.ensures.err)

pub returns-in-Ok-clause-tx : goal.returns-in-Ok-clause-tx
returns-in-Ok-clause-tx g c =
    let u = c.commit_pages-in-Ok.new.space.store in
    let r = c.commit_pages-in-Ok.result in
    rw c.ended-in-Ok.ensures (only-ended r u _ (λ q only. tt) c.commit_pages-in-Ok.ensures.err)

pub returns-in-Ok-clause-stays : goal.returns-in-Ok-clause-stays
returns-in-Ok-clause-stays g c =
    let u = c.commit_pages-in-Ok.new.space.store in
    let r = c.commit_pages-in-Ok.result in
    rw c.ended-in-Ok.ensures (only-ended r u _ (λ q only. tt) c.commit_pages-in-Ok.ensures.err)

pub returns-in-Ok-clause-aborted : goal.returns-in-Ok-clause-aborted
returns-in-Ok-clause-aborted g c =
    let u = c.commit_pages-in-Ok.new.space.store in
    let r = c.commit_pages-in-Ok.result in
    rw c.ended-in-Ok.ensures (only-ended r u _ (λ q only none up. absurd (false≢true (sym up ∙ only.down))) c.commit_pages-in-Ok.ensures.err)

pub returns-in-Ok-clause-none : goal.returns-in-Ok-clause-none
returns-in-Ok-clause-none g c =
    let u = c.commit_pages-in-Ok.new.space.store in
    let r = c.commit_pages-in-Ok.result in
    rw c.ended-in-Ok.ensures (none-ended r u c.commit_pages-in-Ok.ensures.none c.commit_pages-in-Ok.ensures.err)

pub returns-in-Ok-clause-any_moment : goal.returns-in-Ok-clause-any_moment
returns-in-Ok-clause-any_moment g c =
    let told = g.D.Disk.told in
    let len = g.D.Disk.len in
    let faults = g.D.Disk.faults in
    let m = g.B.Boxes.meanings c.args.boxes.now in
    let tx = c.args.transaction.tx.store.number in
    let v = c.args.transaction.work in
    let d = c.args.disk.now in
    let s = c.args.space.now.store in
    let e = c.finish_work.new.disk in
    let t = c.finish_work.new.space.store in
    let w = c.finish_work.new.transaction.work in
    let next = c.finish_work.new.transaction.tx.store.number in
    let same = ap (λ (x : Tx). x.store.number) c.finish_work.ensures.tx in
    let led = c.finish_work.ensures.led in
    let f = c.commit_pages-in-Ok.new.disk in
    let u = c.commit_pages-in-Ok.new.space.store in
    let r = c.commit_pages-in-Ok.result in
    λ want h at paid. LeavesOldOrFinished-commit told len faults m c.args.place tx d e f s t u w led want h (v, at) (c.in-Ok.ensures.finished want h at paid) c.in-Ok.ensures.none r next same c.commit_pages-in-Ok.ensures.remains c.commit_pages-in-Ok.ensures.any_moment

pub returns-in-Ok-clause-kept : goal.returns-in-Ok-clause-kept
returns-in-Ok-clause-kept g c =
    rw c.ended-in-Ok.ensures (only-ended c.commit_pages-in-Ok.result c.commit_pages-in-Ok.new.space.store _ (λ q only not. absurd (not only.is)) c.commit_pages-in-Ok.ensures.err)

pub returns-in-Ok-clause-room : goal.returns-in-Ok-clause-room
returns-in-Ok-clause-room g c =
    rw c.ended-in-Ok.ensures (only-ended c.commit_pages-in-Ok.result c.commit_pages-in-Ok.new.space.store _ (λ q only want h at paid none idle. ap is_room only.is) c.commit_pages-in-Ok.ensures.err)

pub returns-in-Ok-clause-remains : goal.returns-in-Ok-clause-remains
returns-in-Ok-clause-remains g c =
    let told = g.D.Disk.told in
    let len = g.D.Disk.len in
    let faults = g.D.Disk.faults in
    let m = g.B.Boxes.meanings c.args.boxes.now in
    let tx = c.args.transaction.tx.store.number in
    let d = c.args.disk.now in
    let s = c.args.space.now.store in
    let e = c.finish_work.new.disk in
    let t = c.finish_work.new.space.store in
    let w = c.finish_work.new.transaction.work in
    let led = c.finish_work.ensures.led in
    let f = c.commit_pages-in-Ok.new.disk in
    let u = c.commit_pages-in-Ok.new.space.store in
    let r = c.commit_pages-in-Ok.result in
    rw c.ended-in-Ok.ensures (remains-ended (λ q. Remains told len faults d f s u q) r (Remains-behind told len faults m c.args.place tx d e f s t u w led r r (λ is. is) c.commit_pages-in-Ok.ensures.remains))

pub returns-in-Err-clause-refused : goal.returns-in-Err-clause-refused
returns-in-Err-clause-refused g c =
    let told = g.D.Disk.told in
    let len = g.D.Disk.len in
    let faults = g.D.Disk.faults in
    let m = g.B.Boxes.meanings c.args.boxes.now in
    let tx = c.args.transaction.tx.store.number in
    let d = c.args.disk.now in
    let s = c.args.space.now.store in
    let e = c.finish_work.new.disk in
    let t = c.finish_work.new.space.store in
    let w = c.finish_work.new.transaction.work in
    let led = c.finish_work.ensures.led in
    let f = c.stop.new.disk in
    let u = c.stop.new.space.store in
    let q = c.stop.result.refusal in
    let next = c.finish_work.new.transaction.tx.store.number in
    λ want h at paid. StopsAt-stopped told len faults m c.args.place tx d e f s t u w led h c.in-Err.refusal (c.in-Err.ensures.refused want h at paid) q next c.mark-point.result
    (λ wants. goes-open c.stop.result.transaction (λ x. IsBack next c.mark-point.result (parts told len e t) (parts told len f u) w x) c.stop.ensures.back (c.stop.ensures.wanting ∙ wants))
    c.stop.ensures.remains c.stop.ensures.refused

pub returns-in-Err-clause-fault : goal.returns-in-Err-clause-fault
returns-in-Err-clause-fault g c =
    let told = g.D.Disk.told in
    let len = g.D.Disk.len in
    let faults = g.D.Disk.faults in
    let m = g.B.Boxes.meanings c.args.boxes.now in
    let tx = c.args.transaction.tx.store.number in
    let d = c.args.disk.now in
    let s = c.args.space.now.store in
    let e = c.finish_work.new.disk in
    let t = c.finish_work.new.space.store in
    let w = c.finish_work.new.transaction.work in
    let led = c.finish_work.ensures.led in
    let f = c.stop.new.disk in
    let u = c.stop.new.space.store in
    let q = c.stop.result.refusal in
    down-stopped told len faults m c.args.place tx d e f s t u w led c.in-Err.refusal q c.stop.ensures.refused c.in-Err.ensures.fault c.stop.ensures.remains

pub returns-in-Err-clause-tx : goal.returns-in-Err-clause-tx
returns-in-Err-clause-tx g c =
    let tx = c.args.transaction.tx.store.number in
    same-open c.stop.result.transaction c.args.transaction c.finish_work.new.transaction c.finish_work.ensures.tx c.stop.ensures.tx

pub returns-in-Err-clause-stays : goal.returns-in-Err-clause-stays
returns-in-Err-clause-stays g c =
    let told = g.D.Disk.told in
    let len = g.D.Disk.len in
    let faults = g.D.Disk.faults in
    let tx = c.args.transaction.tx.store.number in
    let v = c.args.transaction.work in
    let d = c.args.disk.now in
    let s = c.args.space.now.store in
    let e = c.finish_work.new.disk in
    let t = c.finish_work.new.space.store in
    let w = c.finish_work.new.transaction.work in
    let next = c.finish_work.new.transaction.tx.store.number in
    let same = ap (λ (x : Tx). x.store.number) c.finish_work.ensures.tx in
    let led = c.finish_work.ensures.led in
    let f = c.stop.new.disk in
    let u = c.stop.new.space.store in
    let q = c.stop.result.refusal in
    stays-open told len faults tx d e f s t u v w c.mark-point.result led c.finish_work.ensures.begun c.in-Err.ensures.points c.in-Err.ensures.was
    (λ up one of. c.mark-point.ensures.latest up one (told d) (len d) of) (λ k place want h at. c.mark-point.ensures.was k place want h (told d) (len d) at)
    c.stop.result.transaction q next same c.stop.ensures.remains c.stop.ensures.any_moment.leaves c.stop.ensures.back

pub returns-in-Err-clause-aborted : goal.returns-in-Err-clause-aborted
returns-in-Err-clause-aborted g c =
    let told = g.D.Disk.told in
    let len = g.D.Disk.len in
    let faults = g.D.Disk.faults in
    let tx = c.args.transaction.tx.store.number in
    let e = c.finish_work.new.disk in
    let t = c.finish_work.new.space.store in
    let same = ap (λ (x : Tx). x.store.number) c.finish_work.ensures.tx in
    let f = c.stop.new.disk in
    let u = c.stop.new.space.store in
    λ none up k root want db begun.
    c.stop.ensures.aborted none up k root want db (subst (λ (n : ℕ). WasBegun k root want db n (parts told len e t)) (sym same)
    (c.finish_work.ensures.begun (up-earlier told len faults e f t u _ c.stop.ensures.remains up) k root want db begun))

pub returns-in-Err-clause-any_moment : goal.returns-in-Err-clause-any_moment
returns-in-Err-clause-any_moment g c =
    let told = g.D.Disk.told in
    let len = g.D.Disk.len in
    let faults = g.D.Disk.faults in
    let m = g.B.Boxes.meanings c.args.boxes.now in
    let tx = c.args.transaction.tx.store.number in
    let v = c.args.transaction.work in
    let d = c.args.disk.now in
    let s = c.args.space.now.store in
    let e = c.finish_work.new.disk in
    let t = c.finish_work.new.space.store in
    let w = c.finish_work.new.transaction.work in
    let led = c.finish_work.ensures.led in
    let f = c.stop.new.disk in
    let u = c.stop.new.space.store in
    λ want h at paid. LeavesOldOrFinished-abort told len faults m c.args.place tx d e f s t u w led want h (v, at) _ c.stop.ensures.remains c.stop.ensures.any_moment.leaves

pub returns-in-Err-clause-kept : goal.returns-in-Err-clause-kept
returns-in-Err-clause-kept g c =
    let told = g.D.Disk.told in
    let len = g.D.Disk.len in
    let faults = g.D.Disk.faults in
    let m = g.B.Boxes.meanings c.args.boxes.now in
    let tx = c.args.transaction.tx.store.number in
    let d = c.args.disk.now in
    let s = c.args.space.now.store in
    let e = c.finish_work.new.disk in
    let t = c.finish_work.new.space.store in
    let w = c.finish_work.new.transaction.work in
    let led = c.finish_work.ensures.led in
    let f = c.stop.new.disk in
    let u = c.stop.new.space.store in
    λ not. KeepsWanted-stopped told len faults m c.args.place tx d e f s t u w led _ c.stop.ensures.remains c.stop.ensures.any_moment

pub returns-in-Err-clause-room : goal.returns-in-Err-clause-room
returns-in-Err-clause-room g c = λ want h at paid none idle.
    roomless-stopped g.D.Disk.faults c.in-Err.refusal c.stop.result.refusal (record { disk = c.stop.new.disk; store = c.stop.new.space.store }) c.stop.ensures.refused
    (c.in-Err.ensures.room want h at paid none idle)

pub returns-in-Err-clause-remains : goal.returns-in-Err-clause-remains
returns-in-Err-clause-remains g c =
    let told = g.D.Disk.told in
    let len = g.D.Disk.len in
    let faults = g.D.Disk.faults in
    let m = g.B.Boxes.meanings c.args.boxes.now in
    let tx = c.args.transaction.tx.store.number in
    let d = c.args.disk.now in
    let s = c.args.space.now.store in
    let e = c.finish_work.new.disk in
    let t = c.finish_work.new.space.store in
    let w = c.finish_work.new.transaction.work in
    let led = c.finish_work.ensures.led in
    let f = c.stop.new.disk in
    let u = c.stop.new.space.store in
    let q = c.stop.result.refusal in
    Remains-stopped told len faults m c.args.place tx d e f s t u w led q c.stop.ensures.remains

pub stop-requires-clause-point : goal.stop-requires-clause-point
stop-requires-clause-point g c =
    let told = g.D.Disk.told in
    let len = g.D.Disk.len in
    let tx = c.args.transaction.tx.store.number in
    let d = c.args.disk.now in
    let e = c.finish_work.new.disk in
    let t = c.finish_work.new.space.store in
    let w = c.finish_work.new.transaction.work in
    let same = ap (λ (x : Tx). x.store.number) c.finish_work.ensures.tx in
    subst (λ (n : ℕ). IsPointOf n c.mark-point.result (parts told len e t) w) (sym same) (c.in-Err.ensures.points c.mark-point.result (c.mark-point.ensures.of (told d) (len d)))
