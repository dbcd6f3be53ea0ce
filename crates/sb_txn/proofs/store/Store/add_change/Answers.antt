use Rattle.std.proofs.Common.{[], length, refl, sym, ◌∙◌, ap, subst, arith}
use Rattle.std.proofs.lemmas.Bool.{false≢true}
use Rattle.sb_disk.specs.Causes.{Rose}
use Rattle.sb_log.specs.Records.{Changed, spelling}
use Rattle.sb_pool.specs.Pages.{bytes_or}
use Rattle.sb_txn.specs.Book.{Book}
use Rattle.sb_txn.specs.Clauses.{LeavesWanted, Changes}
use Rattle.sb_txn.specs.Parts.{Parts, parts}
use Rattle.sb_txn.specs.Logging.{HasSpace, records_len}
use Rattle.sb_txn.specs.State.{together}
use Rattle.sb_txn.proofs.CalledLemmas.{transaction_with-among, one_found}
use Rattle.sb_txn.proofs.EditLemmas.{LeavesChange, HasLogged, Edit, MayEdit, added-edit, HasSpace-edit, LeavesWanted-edit, IsAhead-edit, LeavesWanted-edited, Changes-edited, code_change, as_edit, HasLogged-as, AddErr-write}
use Rattle.sb_txn.proofs.EndLemmas.{standing_few}
use Rattle.sb_txn.proofs.KeepsLemmas.{LeavesWanted-none, StaysReady-fault, StaysReady-after}
use Rattle.sb_txn.proofs.ResultLemmas.{OnOk-map}
use Rattle.sb_txn.proofs.store.Store.add_change.Given.{Over}
use Rattle.sb_txn.proofs.store.Store.add_change.Goals as goal
use Rattle.sb_txn.proofs.store.Store.add_change.Goals.{In-Ok}

-- memory is wanting
pub returns-in_err-add_undo-clause-any_moment : goal.returns-in_err-add_undo-clause-any_moment
returns-in_err-add_undo-clause-any_moment g c =
    subst (λ (b : Book). LeavesWanted (parts g.D.Disk.told g.D.Disk.len c.args.disk.now c.args.self.now) (parts g.D.Disk.told g.D.Disk.len c.args.disk.now (together c.args.self.now.journal c.args.self.now.pool b)))
    (sym c.in_err-add_undo.ensures.err) (LeavesWanted-none _)

-- the changes of the transaction that stand are few
pub overflow_cast-n : goal.overflow_cast-n
overflow_cast-n g c =
    let few = standing_few (parts g.D.Disk.told g.D.Disk.len c.args.disk.now c.args.self.now) c.args.edit.now.tx c.requires.up c.requires.ready in
    omega (arith, few, c.standing_of-n.ensures)

-- a record isn't in the log
pub returns-in-Err : goal.returns-in-Err
returns-in-Err g c =
    let s = parts g.D.Disk.told g.D.Disk.len c.args.disk.now c.args.self.now in
    let edit = c.args.edit.now in
    let image = c.page-image.result.now in
    let change = code_change edit.tx edit.owner edit.page edit.offset image edit.bytes.now in
    let new = g.D.Disk.told c.log_change.new.disk in
    let ready = c.requires.ready c.requires.up in
    let found = transaction_with-among edit.tx s.store.book.actives c.requires.among in
    let e : Edit = record { tx = edit.tx; o = found.0; owner = edit.owner; page = edit.page; offset = edit.offset; image = image; bytes = edit.bytes.now } in
    let may : MayEdit s e = record { is = found.1; lt = c.requires.page; range = c.requires.range; long = c.page-image.ensures.long; has = c.requires.held; held = ap (λ h. bytes_or [] h) c.page-image.ensures.bytes; room = c.requires.room found.0 found.1; clear = c.requires.apart } in
    let wants = c.wants-wants.ensures found.0 found.1 in
    let call = c.in-Err.ensures in
    let leaves = as_edit s e c.wants-wants.result c.standing_of-n.result found.1 wants c.standing_of-n.ensures (LeavesChange s.told new s.store.journal s.store.pool.geometry)
    (record { each = λ want now opened pending rest. call.any_moment want now s.store.pool.geometry opened pending rest change refl }) in
    let rose = as_edit s e c.wants-wants.result c.standing_of-n.result found.1 wants c.standing_of-n.ensures
    (λ b ch. HasSpace (records_len b.wants (length (spelling (Changed ch)))) s.store.journal → Rose (g.D.Disk.faults c.args.disk.now) (g.D.Disk.faults c.log_change.new.disk)) call.logs.cause in
    record {
      changes = tt;
      refused = tt;
      any_moment = LeavesWanted-edit s e may new call.logs.tells leaves (g.D.Disk.len c.log_change.new.disk) c.log_change.new.journal c.fail.new.self;
      keeps = StaysReady-fault g.D.Disk.told g.D.Disk.len g.D.Disk.faults _ _ s.store (together c.log_change.new.journal s.store.pool c.fail.new.self) c.requires.up (ap (λ (b : Book). b.down) c.fail.ensures)
          call.stays.size refl call.stays.later (rose (HasSpace-edit s e may ready.0 ready.1 ready.2));
    }

-- ---- a change whose records are in the log
module _ (g : Over) where
  -- the store before them, the change, and that there is room for it
  abbrev before_at : In-Ok g → Parts
  before_at c = parts g.D.Disk.told g.D.Disk.len c.args.disk.now c.args.self.now

  abbrev edit_at : In-Ok g → Edit
  edit_at c =
      let edit = c.args.edit.now in
      let found = transaction_with-among edit.tx c.args.self.now.book.actives c.requires.among in
      record { tx = edit.tx; o = found.0; owner = edit.owner; page = edit.page; offset = edit.offset; image = c.page-image.result.now; bytes = edit.bytes.now }

  may_at : (c : In-Ok g) → MayEdit (before_at c) (edit_at c)
  may_at c =
      let found = transaction_with-among c.args.edit.now.tx c.args.self.now.book.actives c.requires.among in
      record { is = found.1; lt = c.requires.page; range = c.requires.range; long = c.page-image.ensures.long; has = c.requires.held; held = ap (λ h. bytes_or [] h) c.page-image.ensures.bytes; room = c.requires.room found.0 found.1; clear = c.requires.apart }

  logged_at : (c : In-Ok g) → HasLogged (before_at c) (edit_at c) (g.D.Disk.told c.log_change.new.disk) (g.D.Disk.len c.log_change.new.disk) c.log_change.new.journal c.add_undo.new.book
  logged_at c =
      let edit = c.args.edit.now in
      let s = c.args.self.now in
      let change = code_change edit.tx edit.owner edit.page edit.offset c.page-image.result.now edit.bytes.now in
      let found = transaction_with-among edit.tx s.book.actives c.requires.among in
      let call = c.in-Ok.ensures in
      HasLogged-as (before_at c) (edit_at c) c.wants-wants.result c.standing_of-n.result found.1 (c.wants-wants.ensures found.0 found.1) c.standing_of-n.ensures (g.D.Disk.told c.log_change.new.disk) (g.D.Disk.len c.log_change.new.disk) c.log_change.new.journal c.add_undo.new.book
      (record { each = λ want now opened pending rest. call.any_moment want now s.pool.geometry opened pending rest change refl }) (record { each = λ want now opened pending rest. call.store want now s.pool.geometry opened pending rest change refl })
      call.logs.done (added-edit (before_at c) (edit_at c) (may_at c) c.add_undo.new.book c.in_ok-add_undo.ensures.ok) call.logs.tells call.logs.elsewhere call.stays.stands call.stays.size

-- the records are in the log, and the bytes aren't in the page yet
pub write_range-requires-clause-up : goal.write_range-requires-clause-up
write_range-requires-clause-up g c =
    let found = transaction_with-among c.args.edit.now.tx c.args.self.now.book.actives c.requires.among in
    ap (λ (b : Book). b.down) (c.in_ok-add_undo.ensures.ok found.0 found.1) ∙ c.requires.up

pub write_range-requires-clause-ahead : goal.write_range-requires-clause-ahead
write_range-requires-clause-ahead g c =
    let at = (goal.at.write_range-requires-clause-ahead g c).In-Ok in
    let ready = c.requires.ready c.requires.up in
    (ready.0, ready.1, IsAhead-edit (before_at g at) (edit_at g at) (may_at g at) _ _ c.log_change.new.journal c.add_undo.new.book (logged_at g at) ready.0 ready.1 ready.2)

-- and now they are
pub returns-in-Ok : goal.returns-in-Ok
returns-in-Ok g c =
    let at = (goal.at.returns-in-Ok g c).In-Ok in
    let e = edit_at g at in
    let s = before_at g at in
    let ready = c.requires.ready c.requires.up in
    let call = c.in-Ok.ensures in
    let up_now = ap (λ (b : Book). b.down) (logged_at g at).added ∙ c.requires.up in
    let end = parts g.D.Disk.told g.D.Disk.len c.write_range.new.disk c.write_range.new.self in
    record {
      changes = OnOk-map c.write_range.result _ _ (λ caught o is.
          one_found (λ x. Changes s end x e.owner e.page e.offset e.bytes) e.tx s.store.book.actives e.o o (may_at g at).is is
          (Changes-edited (before_at g at) (edit_at g at) (may_at g at) _ _ c.log_change.new.journal c.add_undo.new.book (logged_at g at) end ready.0 ready.1 ready.2 caught)) c.write_range.ensures.written;
      refused = AddErr-write c.write_range.result _ _ c.write_range.ensures.err (λ e. false≢true (sym up_now ∙ c.write_range.ensures.keeps.only e));
      any_moment = LeavesWanted-edited (before_at g at) (edit_at g at) (may_at g at) _ _ c.log_change.new.journal c.add_undo.new.book (logged_at g at) end c.write_range.ensures.any_moment;
      keeps = StaysReady-after g.D.Disk.told g.D.Disk.len g.D.Disk.faults c.write_range.result _ _ _ s.store (together c.log_change.new.journal s.store.pool c.add_undo.new.book) _ c.requires.up up_now refl call.stays.size call.stays.later c.write_range.ensures.keeps;
    }
