use Rattle.std.proofs.Common.{◌≡◌, Result, ap, sym, subst}
use Rattle.sb_drive.specs.declared.space.SpaceFault.{SpaceFault}
use Rattle.sb_drive.specs.Slots.{Slots, with_slot}
use Rattle.sb_drive.specs.Spaces.{UnlessDown, Wanted}
use Rattle.sb_forms.specs.Pages.{zeros}
use Rattle.sb_space.specs.Durable.{parts_in}
use Rattle.sb_space.specs.Stored.{if_ok}
use Rattle.sb_space.specs.View.{lent}
use Rattle.sb_space.specs.Works.{HasPages}
use Rattle.sb_space.proofs.Calling.{Calls-then, handed-is}
use Rattle.sb_space.proofs.Rewriting.{rooted, root-refused}
use Rattle.sb_space.proofs.durable.Durable.make_root.Goals as goal

pub returns-in_err-set_bytes-clause-pages : goal.returns-in_err-set_bytes-clause-pages
returns-in_err-set_bytes-clause-pages g c =
    let n = c.args.root in
    let owner = c.args.owner in
    let o = parts_in g.D.Disk.told g.D.Disk.len (lent c.args.self.now) in
    let p = parts_in g.D.Disk.told g.D.Disk.len (lent c.set_bytes.new.self) in
    let e = c.in_err-set_bytes.field-0.0 in
    subst (λ (r : Result (Unit {0}) SpaceFault). UnlessDown r ((want : Wanted) (s : Slots) → HasPages want s o → (s n).0 ≡ 0 → HasPages want (if_ok r (with_slot n (owner, zeros)) s) p))
    (sym (handed-is c.from_residual.result e c.from_residual.ensures.1))
    (root-refused o p n e (ap (λ x. x.pages) c.in_err-set_bytes.ensures.calls.leads.works.geometry) c.in_err-set_bytes.ensures.stands)

pub returns-clause-pages : goal.returns-clause-pages
unfolding zeros
returns-clause-pages g c =
    rooted (parts_in g.D.Disk.told g.D.Disk.len (lent c.args.self.now)) (parts_in g.D.Disk.told g.D.Disk.len (lent c.set_bytes.new.self)) (parts_in g.D.Disk.told g.D.Disk.len (lent c.set_owner.new.self))
    c.args.root c.args.owner zeros c.set_owner.result (ap (λ x. x.pages) c.in_ok-set_bytes.ensures.calls.leads.works.geometry) c.requires.page c.requires.owner c.in_ok-set_bytes.ensures.stands c.set_owner.ensures.bytes

pub returns-clause-calls : goal.returns-clause-calls
returns-clause-calls g c =
    Calls-then g.D.Disk.told g.D.Disk.len g.D.Disk.faults 1 1 (lent c.args.self.now) (lent c.set_bytes.new.self) (lent c.set_owner.new.self) c.in_ok-set_bytes.field-0 c.set_owner.result c.in_ok-set_bytes.ensures.calls c.set_owner.ensures.calls
