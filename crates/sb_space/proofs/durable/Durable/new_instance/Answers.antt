use Rattle.std.proofs.Common.{ℕ, [], Result, Err, OnErr, sym, subst}
use Rattle.sb_drive.specs.declared.space.SpaceFault.{SpaceFault}
use Rattle.sb_drive.specs.Slots.{Slots}
use Rattle.sb_drive.specs.Spaces.{UnlessDown, Wanted}
use Rattle.sb_drive.proofs.OwnedLemmas.{owned-new}
use Rattle.sb_space.specs.Durable.{parts_in}
use Rattle.sb_space.specs.View.{lent}
use Rattle.sb_space.specs.Works.{HasPages}
use Rattle.sb_space.proofs.Calling.{Calls-from, Calls-ok, Calls-then, UnlessDown-as, UnlessDown-map, handed-is}
use Rattle.sb_space.proofs.Looking.{HasPages-still}
use Rattle.sb_space.proofs.durable.Durable.new_instance.Goals as goal

pub returns-in_err-owner-clause-same : goal.returns-in_err-owner-clause-same
returns-in_err-owner-clause-same g c =
    let told = g.D.Disk.told in
    let len = g.D.Disk.len in
    let a = lent c.args.self.now in
    let b = lent c.next_instance.new.self in
    let calls = c.in_err-owner.ensures.calls in
    subst (λ (r : Result (ℕ × ℕ) SpaceFault). UnlessDown r ((want : Wanted) (s : Slots) → HasPages want s (parts_in told len a) → OnErr r (HasPages want s (parts_in told len b))))
    (sym (handed-is c.from_residual.result c.in_err-owner.field-0.0 c.from_residual.ensures.1))
    (UnlessDown-map {T = ℕ × ℕ} (Err c.in_err-owner.field-0.0) _ ((want : Wanted) (s : Slots) → HasPages want s (parts_in told len a) → HasPages want s (parts_in told len b))
    (λ up want s has. HasPages-still told len g.D.Disk.faults a b want s calls.leads up has) calls.up)

pub returns-in_err-make_root-clause-same : goal.returns-in_err-make_root-clause-same
returns-in_err-make_root-clause-same g c =
    let told = g.D.Disk.told in
    let len = g.D.Disk.len in
    let a = lent c.args.self.now in
    let b = lent c.next_instance.new.self in
    let d = lent c.make_root.new.self in
    let e = c.in_err-make_root.field-0.0 in
    let calls = c.in_ok-owner.ensures.calls in
    subst (λ (r : Result (ℕ × ℕ) SpaceFault). UnlessDown r ((want : Wanted) (s : Slots) → HasPages want s (parts_in told len a) → OnErr r (HasPages want s (parts_in told len d))))
    (sym (handed-is c.from_residual-in_err-make_root.result e c.from_residual-in_err-make_root.ensures.1))
    (UnlessDown-as (Unit {0}) (ℕ × ℕ) e ((want : Wanted) (s : Slots) → HasPages want s (parts_in told len a) → HasPages want s (parts_in told len d))
    (UnlessDown-map {T = Unit {0}} (Err e) _ ((want : Wanted) (s : Slots) → HasPages want s (parts_in told len a) → HasPages want s (parts_in told len d))
    (λ kept want s has. kept want s (HasPages-still told len g.D.Disk.faults a b want s calls.leads calls.up has) (c.in_ok-owner.ensures.root want s has).free) c.in_err-make_root.ensures.pages))

pub returns-in_err-make_root-clause-calls : goal.returns-in_err-make_root-clause-calls
returns-in_err-make_root-clause-calls g c =
    let told = g.D.Disk.told in
    let len = g.D.Disk.len in
    let faults = g.D.Disk.faults in
    let a = lent c.args.self.now in
    let b = lent c.next_instance.new.self in
    let d = lent c.make_root.new.self in
    Calls-from told len faults 2 a d c.in_err-make_root.field-0.0 c.from_residual-in_err-make_root.result c.from_residual-in_err-make_root.ensures.1
    (Calls-then told len faults 0 2 a b d (c.in_ok-owner.owner, c.in_ok-owner.root) _ c.in_ok-owner.ensures.calls c.in_err-make_root.ensures.calls)

pub returns-clause-made : goal.returns-clause-made
returns-clause-made g c = λ want s has.
    let calls = c.in_ok-owner.ensures.calls in
    let least = c.in_ok-owner.ensures.owner want s has in
    let free = c.in_ok-owner.ensures.root want s has in
    record {
      least = least;
      free = free;
      below = c.in_ok-owner.ensures.below;
      has = c.in_ok-make_root.ensures.pages want s (HasPages-still g.D.Disk.told g.D.Disk.len g.D.Disk.faults (lent c.args.self.now) (lent c.next_instance.new.self) want s calls.leads calls.up has) free.free;
      pages = owned-new s [] c.in_ok-owner.owner c.in_ok-owner.root least;
    }

pub returns-clause-calls : goal.returns-clause-calls
returns-clause-calls g c =
    let told = g.D.Disk.told in
    let len = g.D.Disk.len in
    let faults = g.D.Disk.faults in
    let a = lent c.args.self.now in
    let d = lent c.make_root.new.self in
    Calls-ok told len faults 2 a d c.in_ok-make_root.field-0 (c.in_ok-owner.owner, c.in_ok-owner.root)
    (Calls-then told len faults 0 2 a (lent c.next_instance.new.self) d (c.in_ok-owner.owner, c.in_ok-owner.root) _ c.in_ok-owner.ensures.calls c.in_ok-make_root.ensures.calls)
