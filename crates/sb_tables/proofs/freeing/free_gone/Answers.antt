use Rattle.std.proofs.Common.{refl}
use Rattle.sb_drive.proofs.SpacesLemmas.{ArePages-few}
use Rattle.sb_tables.proofs.FreedLemmas.{refused_soundly, sound_store, stored_left}
use Rattle.sb_tables.proofs.StandsLemmas.{paid_freed, stands_freed}
use Rattle.sb_tables.proofs.freeing.free_gone.Goals as goal

pub returns-in-Ok-clause-freed : goal.returns-in-Ok-clause-freed
returns-in-Ok-clause-freed g c = λ h stands.
    let a = c.args.running.now in
    let m = g.B.Boxes.meanings a.boxes.now in
    let w = a.work.now in
    stands_freed g.S.PageSpace.has g.S.PageSpace.spent m a.place.root h a.space.now c.free_all.new.space w (record w { gone = c.free_all.new.gone }) stands
    (paid_freed g.S.PageSpace.has g.S.PageSpace.spent m a.place.root h a.space.now c.free_all.new.space w stands g.S.PageSpace.leads g.met.S.PageSpace.spends
    (λ n. ArePages-few stands.slots n (g.met.S.PageSpace.whole stands.want stands.slots a.space.now stands.has) (g.met.S.PageSpace.few stands.want stands.slots a.space.now stands.has)) c.free_all.ensures.leads)
    (c.in-Ok.ensures.freed m a.place.root stands.kept stands.want stands.slots stands.has stands.keeps) c.in-Ok.ensures.none refl refl refl

pub returns-in-Ok-clause-frees : goal.returns-in-Ok-clause-frees
returns-in-Ok-clause-frees g c =
    record { same_space = refl; same_work = refl; boxes = refl; place = refl; leads = (c.free_all.ensures.leads.changes, c.free_all.ensures.leads.leads); opened = refl; queue = refl; done = refl; picks = refl }

pub returns-in-Err-clause-refused : goal.returns-in-Err-clause-refused
returns-in-Err-clause-refused g c = rw c.refusal_of.ensures c.in-Err.ensures.refused

pub returns-in-Err-clause-cause : goal.returns-in-Err-clause-cause
returns-in-Err-clause-cause g c = rw c.refusal_of.ensures (refused_soundly g.S.PageSpace.fails c.in-Err.fault c.free_all.new.space c.in-Err.ensures.refused (sound_store c.in-Err.fault c.in-Err.ensures.stored))

pub returns-in-Err-clause-pages : goal.returns-in-Err-clause-pages
returns-in-Err-clause-pages g c = rw c.refusal_of.ensures (stored_left c.in-Err.fault c.in-Err.ensures.stored)

pub returns-in-Err-clause-idle : goal.returns-in-Err-clause-idle
returns-in-Err-clause-idle g c = c.in-Err.ensures.idle

pub returns-in-Err-clause-frees : goal.returns-in-Err-clause-frees
returns-in-Err-clause-frees g c =
    record { same_space = refl; same_work = refl; boxes = refl; place = refl; leads = (c.free_all.ensures.leads.changes, c.free_all.ensures.leads.leads); opened = refl; queue = refl; done = refl; picks = refl }

pub returns-in-Err-clause-paid : goal.returns-in-Err-clause-paid
returns-in-Err-clause-paid g c = λ h stands.
    let a = c.args.running.now in
    let m = g.B.Boxes.meanings a.boxes.now in
    paid_freed g.S.PageSpace.has g.S.PageSpace.spent m a.place.root h a.space.now c.free_all.new.space a.work.now stands g.S.PageSpace.leads g.met.S.PageSpace.spends
    (λ n. ArePages-few stands.slots n (g.met.S.PageSpace.whole stands.want stands.slots a.space.now stands.has) (g.met.S.PageSpace.few stands.want stands.slots a.space.now stands.has)) c.free_all.ensures.leads
