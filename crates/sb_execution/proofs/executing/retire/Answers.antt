use Rattle.std.proofs.Common.{◌≡◌, Err, refl, sym, ap, ◌∙◌, subst}
use Rattle.sb_value.proofs.Truths.{is_some-none}
use Rattle.sb_plain.specs.declared.command.Command.{Command}
use Rattle.sb_plain.specs.declared.command.Command.TheVariants as command
use Rattle.sb_plain.specs.declared.reply.Reply.{Reply}
use Rattle.sb_plain.specs.declared.reply.Reply.TheVariants.{Refused}
use Rattle.sb_plain.specs.Licences.{may_want_room}
use Rattle.sb_plain.specs.Refusing.{is_misplaced, refused}
use Rattle.sb_fold.specs.declared.refusal.Refusal.TheVariants as refusal
use Rattle.sb_engine.specs.Working.{extensions_of}
use Rattle.sb_session.specs.declared.session.Session.{Session}
use Rattle.sb_session.specs.Ends.{Ends, reply_of}
use Rattle.sb_session.specs.Sessions.{HasFailed, IsFor, Lacks, sizes_of}
use Rattle.sb_session.proofs.Carried.{IsSame-itself}
use Rattle.sb_session.proofs.Commands.{Carried-misplaced}
use Rattle.sb_session.proofs.SameBoxes.{same-boxes, same-stays}
use Rattle.sb_statements.proofs.PassedLemmas.{passed}
use Rattle.sb_execution.specs.Endings.{Executed}
use Rattle.sb_execution.proofs.ExecLemmas.{Executed-kept, Executed-moved, leaves_still}
use Rattle.sb_execution.proofs.PagesLemmas.{room_roomless}
use Rattle.sb_execution.proofs.RetireLemmas.{Executed-tested}
use Rattle.sb_execution.proofs.SessionLemmas.{ends_alone, keeps_session, leaves_session, room_outside, runs_alone}
use Rattle.sb_execution.proofs.executing.retire.Goals as goal

-- in a transaction it has no place
pub returns-then-is_some-clause-ended : goal.returns-then-is_some-clause-ended
returns-then-is_some-clause-ended g c =
    let meanings = g.B.Boxes.meanings in
    let told = g.D.Disk.told in
    let len = g.D.Disk.len in
    let faults = g.D.Disk.faults in
    let x = c.args.session.now in
    let d = c.args.disk.now in
    let k = c.args.command.now in
    let did = Carried-misplaced meanings told len faults d x c.requires.runs c.requires.up k x (IsSame-itself meanings x)
    (λ s inside. ap (λ (k : Command). is_misplaced s k) c.requires.retires ∙ inside ∙ sym c.is_some.ensures ∙ c.if-is_some.true) in
    Executed-kept meanings told len faults k d d x x (Refused refusal.State) (same-boxes (meanings x.boxes)) did.keeps did.runs (λ want s for posed. did.ends want s for)
    (λ want s for posed. room_roomless (meanings x.boxes) (sizes_of x).pages s k refusal.State refl) (leaves_still told len d d x x refl refl)

-- no test refuses it
pub returns-in-Ok-clause-ended : goal.returns-in-Ok-clause-ended
returns-in-Ok-clause-ended g c =
    let meanings = g.B.Boxes.meanings in
    let told = g.D.Disk.told in
    let len = g.D.Disk.len in
    let faults = g.D.Disk.faults in
    let x = c.args.session.now in
    let d = c.args.disk.now in
    let k = c.args.command.now in
    let method = c.args.method in
    let code = c.args.code in
    let e = c.test_outside-tested.new.disk in
    let y : Session g.row.B.Denot = record { boxes = x.boxes; space = c.test_outside-tested.new.space; place = x.place; opened = x.opened; «open» = x.open; down = x.down } in
    let f = c.retire.new.disk in
    let z = c.retire.new.self in
    let did = c.retire.ensures in
    let none = is_some-none x.open (sym c.is_some.ensures ∙ c.if-is_some.false) in
    subst (λ (r : Reply). Executed meanings told len faults k d f x z r) (sym c.reply_of.ensures)
    (Executed-tested meanings told len faults k d e x y c.requires.runs c.requires.up none refl refl refl refl refl c.in-Ok.ensures.passes c.test_outside-tested.ensures.leaves (λ s. ap (may_want_room s) c.requires.retires) f z (reply_of c.retire.result) did.disk did.space did.same did.keeps did.runs
    (λ want s for none.
    subst (λ (k : Command). Ends (λ t. IsFor meanings told len want t f z) (Lacks (sizes_of y)) (HasFailed faults e f) (extensions_of (meanings x.boxes)) s k (reply_of c.retire.result)) (sym c.requires.retires)
    (did.ends want s for
    (passed (extensions_of (meanings x.boxes)) s (command.Retire method code)
    (sym (ap (λ (k : Command). refused (extensions_of (meanings x.boxes)) s k) c.requires.retires) ∙ none)).unused)))

-- a test refuses it, or a fault or want of memory
pub returns-in-Err-clause-ended : goal.returns-in-Err-clause-ended
returns-in-Err-clause-ended g c =
    let meanings = g.B.Boxes.meanings in
    let told = g.D.Disk.told in
    let len = g.D.Disk.len in
    let faults = g.D.Disk.faults in
    let x = c.args.session.now in
    let d = c.args.disk.now in
    let k = c.args.command.now in
    let e = c.test_outside-tested.new.disk in
    let y = c.told.new.session in
    let space = c.test_outside-tested.new.space in
    let did = c.told.ensures in
    let ended = c.in-Err.ensures.refused x.opened.items in
    let result = Err c.in-Err.refusal in
    let none = is_some-none x.open (sym c.is_some.ensures ∙ c.if-is_some.false) in
    let still = did.current ∙ none in
    let listed : y.opened.items ≡ x.opened.items = λ i. (did.opened i).items in
    Executed-moved meanings told len faults k d e x y c.told.result (same-stays (meanings x.boxes) (meanings y.boxes) (ap meanings did.boxes))
    (keeps_session meanings told len faults k d e x y c.requires.runs c.requires.up space did.space did.boxes did.place result c.told.result did.reply did.down ended.remains ended.fault)
    (runs_alone meanings told len faults k d e x y c.requires.runs c.requires.up space did.space did.boxes did.place result c.told.result did.reply did.down ended.remains none still x.opened.items listed ended
    (c.requires.runs.opened c.requires.up))
    (ends_alone meanings told len faults k d e x y c.requires.runs c.requires.up space did.space did.boxes did.place result c.told.result did.reply did.down ended.remains none still x.opened.items listed ended)
    (room_outside meanings told len faults k d e x y c.requires.runs c.requires.up space did.space did.boxes did.place result c.told.result did.reply did.down ended.remains none still x.opened.items listed ended)
    (λ never. leaves_session meanings told len faults k d e x y c.requires.runs c.requires.up space did.space did.boxes did.place result c.told.result did.reply did.down c.test_outside-tested.ensures.leaves)
