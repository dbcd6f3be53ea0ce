use Rattle.std.proofs.Common.{ℕ, refl, sym, ap, ◌∙◌, subst}
use Rattle.sb_txn.specs.Parts.{parts}
use Rattle.sb_space.specs.declared.transactions.Tx.{Tx}
use Rattle.sb_session.specs.Transactions.{IsPointOf, IsUsable}
use Rattle.sb_session.specs.declared.session.Open.{Open}
use Rattle.sb_execution.proofs.InsideWork.{EndsInside-back, EndsInside-down, EndsInside-failed, EndsInside-served}
use Rattle.sb_execution.proofs.inside.work_inside.Goals as goal

pub mark-point-requires : goal.mark-point-requires
mark-point-requires g c = record {
  within = (c.settle.ensures.usable (g.B.Boxes.meanings c.args.boxes.now) c.args.place (parts g.D.Disk.told g.D.Disk.len c.args.disk.now c.args.space.now.store) c.requires.goes.0).within;
}

pub back_to-requires-clause-point : goal.back_to-requires-clause-point
back_to-requires-clause-point g c =
    let told = g.D.Disk.told in
    let len = g.D.Disk.len in
    let e = c.serve_in-served.new.disk in
    let t = c.serve_in-served.new.space.store in
    let y = c.serve_in-served.new.transaction in
    let serves = c.serve_in-served.ensures in
    let point = c.mark-point.result in
    subst (λ (a : Tx). IsPointOf a.store.number point (parts told len e t) y.work) (sym serves.tx)
    (serves.stand point (c.mark-point.ensures.of (told c.args.disk.now) (len c.args.disk.now)))

pub returns-then-is_down : goal.returns-then-is_down
returns-then-is_down g c =
    let told = g.D.Disk.told in
    let len = g.D.Disk.len in
    let faults = g.D.Disk.faults in
    let m = g.B.Boxes.meanings c.args.boxes.now in
    let place = c.args.place in
    let d = c.args.disk.now in
    let s = c.args.space.now.store in
    let e = c.serve_in-served.new.disk in
    let t = c.serve_in-served.new.space.store in
    let o = c.args.current.now in
    let x = c.settle.new.transaction in
    let y = c.serve_in-served.new.transaction in
    let serves = c.serve_in-served.ensures in
    let now : Open = record { transaction = y; points = o.points } in
    EndsInside-down told len faults m place c.args.command.now c.requires.works d e s t o x y c.requires.up c.requires.goes c.settle.ensures.tx c.settle.ensures.trimmed c.settle.ensures.settled c.settle.ensures.usable
    serves.tx serves.usable serves.led serves.any_moment now (sym c.is_down.ensures ∙ c.if-is_down.true)

pub returns-else-is_down : goal.returns-else-is_down
returns-else-is_down g c =
    let told = g.D.Disk.told in
    let len = g.D.Disk.len in
    let faults = g.D.Disk.faults in
    let m = g.B.Boxes.meanings c.args.boxes.now in
    let place = c.args.place in
    let d = c.args.disk.now in
    let s = c.args.space.now.store in
    let e = c.serve_in-served.new.disk in
    let t = c.serve_in-served.new.space.store in
    let o = c.args.current.now in
    let x = c.settle.new.transaction in
    let y = c.serve_in-served.new.transaction in
    let serves = c.serve_in-served.ensures in
    let now : Open = record { transaction = record { tx = y.tx; work = c.reply_to.new.work }; points = o.points } in
    EndsInside-served told len faults m place c.args.command.now c.requires.works d e s t o x y c.requires.up c.requires.goes c.settle.ensures.tx c.settle.ensures.trimmed c.settle.ensures.settled c.settle.ensures.usable
    serves.tx serves.usable serves.led serves.any_moment serves.points serves.stand serves.begun
    c.deref.result.now c.deref.ensures.value c.in-Ok.served c.reply_to.result now (sym c.is_down.ensures ∙ c.if-is_down.false) c.in-Ok.ensures.served c.reply_to.ensures refl refl c.in-Ok.ensures.answer

pub returns-in-Ok-back_to : goal.returns-in-Ok-back_to
returns-in-Ok-back_to g c =
    let told = g.D.Disk.told in
    let len = g.D.Disk.len in
    let faults = g.D.Disk.faults in
    let m = g.B.Boxes.meanings c.args.boxes.now in
    let place = c.args.place in
    let d = c.args.disk.now in
    let s = c.args.space.now.store in
    let e = c.serve_in-served.new.disk in
    let t = c.serve_in-served.new.space.store in
    let o = c.args.current.now in
    let x = c.settle.new.transaction in
    let y = c.serve_in-served.new.transaction in
    let serves = c.serve_in-served.ensures in
    let f = c.back_to.new.disk in
    let u = c.back_to.new.space.store in
    let z = c.back_to.new.transaction in
    let now : Open = record { transaction = z; points = o.points } in
    let back = c.in-Ok-back_to.ensures in
    EndsInside-back told len faults m place c.args.command.now c.requires.works d e s t o x y c.requires.up c.requires.goes c.settle.ensures.tx c.settle.ensures.trimmed c.settle.ensures.settled c.settle.ensures.usable
    serves.tx serves.usable serves.led serves.any_moment serves.points serves.stand serves.begun
    c.mark-point.result f u z (λ up one of. c.mark-point.ensures.latest up one (told d) (len d) of) (λ k place want h at. c.mark-point.ensures.was k place want h (told d) (len d) at) back.any_moment
    back.remains back.tx back.back back.earlier back.stand back.begun back.usable back.spent c.requires.owner now c.deref.result.now c.deref.ensures.value refl refl c.in-Err.refusal c.in-Err.ensures.fault c.in-Err.ensures.refused

pub returns-in-Err-back_to : goal.returns-in-Err-back_to
returns-in-Err-back_to g c =
    let told = g.D.Disk.told in
    let len = g.D.Disk.len in
    let faults = g.D.Disk.faults in
    let m = g.B.Boxes.meanings c.args.boxes.now in
    let place = c.args.place in
    let d = c.args.disk.now in
    let s = c.args.space.now.store in
    let e = c.serve_in-served.new.disk in
    let t = c.serve_in-served.new.space.store in
    let o = c.args.current.now in
    let x = c.settle.new.transaction in
    let y = c.serve_in-served.new.transaction in
    let serves = c.serve_in-served.ensures in
    let f = c.back_to.new.disk in
    let u = c.back_to.new.space.store in
    let z = c.back_to.new.transaction in
    let now : Open = record { transaction = z; points = o.points } in
    let back = c.in-Err-back_to.ensures in
    EndsInside-failed told len faults m place c.args.command.now c.requires.works d e s t o x y c.requires.up c.requires.goes c.settle.ensures.tx c.settle.ensures.trimmed c.settle.ensures.settled c.settle.ensures.usable
    serves.tx serves.usable serves.led serves.any_moment serves.points serves.stand serves.begun
    c.mark-point.result f u z (λ up one of. c.mark-point.ensures.latest up one (told d) (len d) of) (λ k place want h at. c.mark-point.ensures.was k place want h (told d) (len d) at) back.any_moment
    now c.in-Err-back_to.fault back.remains back.err

-- ---- it can be called
pub serve_in-served-requires : goal.serve_in-served-requires
serve_in-served-requires g c =
    let m = g.B.Boxes.meanings c.args.boxes.now in
    let from = parts g.D.Disk.told g.D.Disk.len c.args.disk.now c.args.space.now.store in
    record {
      usable = subst (λ (n : ℕ). IsUsable m c.args.place n from c.settle.new.transaction.work) (ap (λ (t : Tx). t.store.number) (sym c.settle.ensures.tx))
          (c.settle.ensures.usable m c.args.place from c.requires.goes.0);
    }
