use Rattle.std.proofs.Common.{length, sym, ◌∙◌, ap, subst}
use Rattle.sb_txn.specs.Book.{Book, AreClear, transaction_with, IsAmong, others}
use Rattle.sb_txn.specs.Parts.{parts}
use Rattle.sb_txn.proofs.KeepsLemmas.{StaysReady-up, LeavesWanted-then}
use Rattle.sb_txn.proofs.LoadedLemmas.{HasRoom-loaded, ChangeErr-room, ChangeErr-add, Changes-loaded}
use Rattle.sb_txn.proofs.ResultLemmas.{OnOk-map, OnOk-has, IfErr-map, IfErr-from}
use Rattle.sb_txn.proofs.store.Store.change.Goals as goal

pub returns-in_err-check_room-clause-refused : goal.returns-in_err-check_room-clause-refused
returns-in_err-check_room-clause-refused g c =
    let loads = c.in_ok-load.ensures.loads in
    let e = c.in_err-check_room.field-0.0 in
    IfErr-from c.from_residual-in_err-check_room.result e _ c.from_residual-in_err-check_room.ensures.1 (λ o is.
    ChangeErr-room (parts g.D.Disk.told g.D.Disk.len c.args.disk.now c.args.self.now) (parts g.D.Disk.told g.D.Disk.len c.load.new.disk c.load.new.self) loads
    o c.args.page (length c.args.bytes.now) e (c.in_err-check_room.ensures.err o (ap (λ (b : Book). transaction_with c.args.tx.now.number b.actives) loads.book ∙ is)))

pub returns-clause-changes : goal.returns-clause-changes
returns-clause-changes g c =
    let loads = c.in_ok-load.ensures.loads in
    OnOk-map c.add_change.result _ _ (λ changes o is.
    Changes-loaded (parts g.D.Disk.told g.D.Disk.len c.args.disk.now c.args.self.now) (parts g.D.Disk.told g.D.Disk.len c.load.new.disk c.load.new.self) loads
    (parts g.D.Disk.told g.D.Disk.len c.add_change.new.disk c.add_change.new.self) o c.args.owner c.args.page c.args.offset c.args.bytes.now
    c.requires.range c.load.ensures.any_moment (changes o (ap (λ (b : Book). transaction_with c.args.tx.now.number b.actives) loads.book ∙ is))) c.add_change.ensures.changes

pub returns-clause-room : goal.returns-clause-room
returns-clause-room g c =
    let loads = c.in_ok-load.ensures.loads in
    OnOk-has c.add_change.result _ (λ o is.
    HasRoom-loaded (parts g.D.Disk.told g.D.Disk.len c.args.disk.now c.args.self.now) (parts g.D.Disk.told g.D.Disk.len c.load.new.disk c.load.new.self) loads
    o c.args.page (length c.args.bytes.now) (c.in_ok-check_room.ensures.ok o (ap (λ (b : Book). transaction_with c.args.tx.now.number b.actives) loads.book ∙ is)))

pub returns-clause-refused : goal.returns-clause-refused
returns-clause-refused g c =
    let loads = c.in_ok-load.ensures.loads in
    IfErr-map c.add_change.result _ _ (λ e err o is.
    ChangeErr-add (parts g.D.Disk.told g.D.Disk.len c.args.disk.now c.args.self.now) (parts g.D.Disk.told g.D.Disk.len c.load.new.disk c.load.new.self) loads
    (parts g.D.Disk.told g.D.Disk.len c.add_change.new.disk c.add_change.new.self) o c.args.page (length c.args.bytes.now) e err) c.add_change.ensures.refused

pub returns-clause-any_moment : goal.returns-clause-any_moment
returns-clause-any_moment g c =
    LeavesWanted-then (parts g.D.Disk.told g.D.Disk.len c.args.disk.now c.args.self.now) (parts g.D.Disk.told g.D.Disk.len c.load.new.disk c.load.new.self)
    (parts g.D.Disk.told g.D.Disk.len c.add_change.new.disk c.add_change.new.self)
    (λ now. now) c.load.ensures.keeps.geometry c.in_ok-load.ensures.loads.pages c.load.ensures.any_moment c.add_change.ensures.any_moment

-- ---- the transaction is active still
pub check_room-requires-clause-among : goal.check_room-requires-clause-among
check_room-requires-clause-among g c =
    let loads = c.in_ok-load.ensures.loads in
    let up = StaysReady-up g.D.Disk.told g.D.Disk.len g.D.Disk.faults tt c.args.disk.now c.load.new.disk c.args.self.now c.load.new.self c.in_ok-load.ensures.keeps in
    subst (λ (b : Book). IsAmong c.args.tx.now.number b.actives) (sym loads.book) (c.requires.among up)

pub add_change-requires-clause-among : goal.add_change-requires-clause-among
add_change-requires-clause-among g c =
    let loads = c.in_ok-load.ensures.loads in
    let up = StaysReady-up g.D.Disk.told g.D.Disk.len g.D.Disk.faults tt c.args.disk.now c.load.new.disk c.args.self.now c.load.new.self c.in_ok-load.ensures.keeps in
    subst (λ (b : Book). IsAmong c.args.tx.now.number b.actives) (sym loads.book) (c.requires.among up)

pub add_change-requires-clause-apart : goal.add_change-requires-clause-apart
add_change-requires-clause-apart g c =
    let loads = c.in_ok-load.ensures.loads in
    let up = StaysReady-up g.D.Disk.told g.D.Disk.len g.D.Disk.faults tt c.args.disk.now c.load.new.disk c.args.self.now c.load.new.self c.in_ok-load.ensures.keeps in
    subst (λ (b : Book). AreClear c.args.page c.args.offset (length c.args.bytes.now) (others c.args.tx.now.number b.actives)) (sym loads.book) (c.requires.apart up)
