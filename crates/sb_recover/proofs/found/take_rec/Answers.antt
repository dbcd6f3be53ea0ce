use Rattle.std.proofs.Common.{refl, arith}
use Rattle.sb_log.specs.Records.{IsRecord}
use Rattle.sb_log.specs.Rec.{record_of}
use Rattle.sb_recover.specs.declared.change.Change.{Change as Lent}
use Rattle.sb_recover.proofs.FoundLemmas.{Takes-begin, Takes-back, Takes-change, Takes-commit, Takes-image}
use Rattle.sb_recover.proofs.found.take_rec.Goals as goal

pub returns-in-Begin : goal.returns-in-Begin
returns-in-Begin c = rw c.in-Begin.is (Takes-begin c.args.found.now c.in-Begin.tx)

pub returns-in_ok-hold_image-in-Image : goal.returns-in_ok-hold_image-in-Image
returns-in_ok-hold_image-in-Image c =
    let is_record : IsRecord (record_of c.args.r) = c.requires in
    let fine = rw c.in-Image.is at is_record in
    rw c.in-Image.is (Takes-image c.args.found.now c.hold_image.new.frames c.in-Image.page c.in-Image.bytes.now c.in_ok-hold_image-in-Image.ensures fine.1 _ refl)

pub returns-in_ok-push-in-Change : goal.returns-in_ok-push-in-Change
returns-in_ok-push-in-Change c =
    let is_record : IsRecord (record_of c.args.r) = c.requires in
    let fine = rw c.in-Change.is at is_record in
    let change : Lent = record { tx = c.in-Change.tx; owner = c.in-Change.owner; page = c.in-Change.page; offset = c.in-Change.offset; before = c.in-Change.before; after = c.in-Change.after; index = c.count_of-index.result } in
    rw c.in-Change.is (Takes-change c.args.found.now c.insert.new.self c.push.new.self change c.saturating_add.result c.count_of-index.ensures c.saturating_add.ensures
    c.in_ok-insert-in-Change.ensures.updates c.in_ok-push-in-Change.ensures.items (let ok = c.args.found.now.changes.ok in omega (arith, ok)) _ refl fine.within)

pub returns-in_ok-cut-in-Back : goal.returns-in_ok-cut-in-Back
returns-in_ok-cut-in-Back c = rw c.in-Back.is (Takes-back c.args.found.now c.cut.new.counts c.in-Back.tx c.in-Back.n c.in_ok-cut-in-Back.ensures _ refl)

pub returns-in_ok-insert-in-Commit : goal.returns-in_ok-insert-in-Commit
returns-in_ok-insert-in-Commit c = rw c.in-Commit.is (Takes-commit c.args.found.now _ c.insert-in-Commit.new.self c.in-Commit.tx refl c.in_ok-insert-in-Commit.ensures.updates)
