use Rattle.std.proofs.Common.{true, IfErr, sym, subst}
use Rattle.sb_ctx.specs.View.{View, dropped}
use Rattle.sb_drive.specs.declared.turns.Ask.{Ask}
use Rattle.sb_drive.specs.declared.turns.Ask.TheVariants.{Page, Fresh, After}
use Rattle.sb_drive.specs.Slots.{Slots}
use Rattle.sb_drive.specs.Spaces.{IsFull, IsGivenIn, Wanted}
use Rattle.sb_space.specs.Durable.{parts_in}
use Rattle.sb_space.specs.View.{lent}
use Rattle.sb_space.specs.Works.{HasPages}
use Rattle.sb_space.proofs.Calling.{UnlessDown-map}
use Rattle.sb_space.proofs.Looking.{HasPages-still, handed-on}
use Rattle.sb_space.proofs.space.DurablePageSpace.answer.Goals as goal

pub returns-in-Page-clause-given : goal.returns-in-Page-clause-given
returns-in-Page-clause-given g c =
    let p = parts_in g.D.Disk.told g.D.Disk.len (lent c.args.self.now) in
    handed-on c.give_page.result (λ v ask. (want : Wanted) (s : Slots) → HasPages want s p → IsGivenIn c.args.self.now.store.now.pool.geometry.pages s c.args.owner v ask c.give_page.new.ctx) c.drop_edits.new.self (dropped c.args.ctx.now) (Page c.in-Page.n) c.args.ask
    c.drop_edits.ensures c.in-Page.is c.give_page.ensures.given

pub returns-in-Page-clause-pages : goal.returns-in-Page-clause-pages
returns-in-Page-clause-pages g c =
    let a = lent c.args.self.now in
    let b = lent c.give_page.new.self in
    UnlessDown-map c.give_page.result _ _ (λ up want s has. HasPages-still g.D.Disk.told g.D.Disk.len g.D.Disk.faults a b want s c.give_page.ensures.calls.leads up has) c.give_page.ensures.calls.up

pub returns-in-Fresh-clause-given : goal.returns-in-Fresh-clause-given
returns-in-Fresh-clause-given g c =
    let p = parts_in g.D.Disk.told g.D.Disk.len (lent c.args.self.now) in
    handed-on c.give_fresh.result (λ v ask. (want : Wanted) (s : Slots) → HasPages want s p → IsGivenIn c.args.self.now.store.now.pool.geometry.pages s c.args.owner v ask c.give_fresh.new.ctx) c.drop_edits.new.self (dropped c.args.ctx.now) Fresh c.args.ask
    c.drop_edits.ensures c.in-Fresh.is c.give_fresh.ensures.given

pub returns-in-Fresh-clause-pages : goal.returns-in-Fresh-clause-pages
returns-in-Fresh-clause-pages g c =
    let a = lent c.args.self.now in
    let b = lent c.give_fresh.new.self in
    UnlessDown-map c.give_fresh.result _ _ (λ up want s has. HasPages-still g.D.Disk.told g.D.Disk.len g.D.Disk.faults a b want s c.give_fresh.ensures.calls.leads up has) c.give_fresh.ensures.calls.up

pub returns-in-After-clause-given : goal.returns-in-After-clause-given
returns-in-After-clause-given g c =
    let p = parts_in g.D.Disk.told g.D.Disk.len (lent c.args.self.now) in
    handed-on c.give_after.result (λ v ask. (want : Wanted) (s : Slots) → HasPages want s p → IsGivenIn c.args.self.now.store.now.pool.geometry.pages s c.args.owner v ask c.give_after.new.ctx) c.drop_edits.new.self (dropped c.args.ctx.now) (After c.in-After.low) c.args.ask
    c.drop_edits.ensures c.in-After.is c.give_after.ensures.given

pub returns-in-After-clause-pages : goal.returns-in-After-clause-pages
returns-in-After-clause-pages g c =
    let a = lent c.args.self.now in
    let b = lent c.give_after.new.self in
    UnlessDown-map c.give_after.result _ _ (λ up want s has. HasPages-still g.D.Disk.told g.D.Disk.len g.D.Disk.faults a b want s c.give_after.ensures.calls.leads up has) c.give_after.ensures.calls.up

pub returns-in-Fresh-clause-full : goal.returns-in-Fresh-clause-full
returns-in-Fresh-clause-full g c =
    let p = parts_in g.D.Disk.told g.D.Disk.len (lent c.args.self.now) in
    subst (λ (ask : Ask). IfErr c.give_fresh.result (λ e. (want : Wanted) (s : Slots) → HasPages want s p → IsFull true c.args.self.now.store.now.pool.geometry.pages s (dropped c.args.ctx.now) ask e)) (sym c.in-Fresh.is)
    (subst (λ (v : View). IfErr c.give_fresh.result (λ e. (want : Wanted) (s : Slots) → HasPages want s p → IsFull true c.args.self.now.store.now.pool.geometry.pages s v Fresh e)) c.drop_edits.ensures c.give_fresh.ensures.full)
