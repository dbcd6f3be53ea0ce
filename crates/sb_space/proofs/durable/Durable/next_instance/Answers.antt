use Rattle.std.proofs.Common.{ℕ, Bool, List, length, Result, refl, sym, ap, subst, ◌∙◌}
use Rattle.std.proofs.lemmas.List.{take_at}
use Rattle.sb_drive.specs.declared.space.SpaceFault.{SpaceFault}
use Rattle.sb_drive.specs.declared.space.SpaceFault.TheVariants.{NoMemory}
use Rattle.sb_space.specs.Durable.{Calls, parts_in}
use Rattle.sb_space.specs.Instances.{AreMarked, IsFirstFree}
use Rattle.sb_space.specs.View.{lent}
use Rattle.sb_space.proofs.Calling.{Calls-none, Calls-full, Calls-memory, handed-is}
use Rattle.sb_space.proofs.Marking.{IsLeastFree-first, IsLeastOwner-unmarked, length-unmarked}
use Rattle.sb_space.proofs.durable.Durable.next_instance.Goals as goal

pub returns-in_err-marks-clause-calls : goal.returns-in_err-marks-clause-calls
returns-in_err-marks-clause-calls g c =
    let told = g.D.Disk.told in
    let len = g.D.Disk.len in
    let faults = g.D.Disk.faults in
    let a = lent c.args.self.now in
    subst (λ (r : Result (ℕ × ℕ) SpaceFault). Calls told len faults 0 a a r) (sym (handed-is c.from_residual.result NoMemory c.from_residual.ensures.1))
    (Calls-memory told len faults {U = ℕ × ℕ} 0 a a (tt {0}) (Calls-none told len faults (tt {0}) a c.requires.ready))

pub returns-in_default-clause-full : goal.returns-in_default-clause-full
returns-in_default-clause-full g c = λ want s has.
    let total = c.args.self.now.store.now.pool.geometry.pages in
    let none = subst (IsFirstFree total s) c.in_default.is (c.in_ok-root.ensures.free want s has) in (
      refl,
      record {
        total_is = c.pages-total.ensures ∙ ap (λ x. x.pages) c.in_ok-root.ensures.calls.leads.works.geometry;
        all = refl;
        each = λ m less free. absurd (none m less free);
      },
    )

pub returns-in_default-clause-calls : goal.returns-in_default-clause-calls
returns-in_default-clause-calls g c =
    Calls-full g.D.Disk.told g.D.Disk.len g.D.Disk.faults {U = ℕ × ℕ} 0 (lent c.args.self.now) (lent c.mark_owners.new.self) _ c.pages-total.result c.pages-total.ensures c.in_ok-root.ensures.calls

pub unused_owner-requires-clause-long : goal.unused_owner-requires-clause-long
unused_owner-requires-clause-long g c =
    let same = c.deref.ensures.value ∙ take_at c.mark_owners.new.marks _ c.in_ok-marks.marks.len (c.mark_owners.auto.marks ∙ c.deref_mut.ensures.len) in
    ap (λ (marks : List Bool). length marks) same ∙ c.mark_owners.auto.marks ∙ ap (λ (marks : List Bool). length marks) (c.deref_mut.ensures.value ∙ c.in_ok-marks.ensures) ∙ length-unmarked 65536

pub returns-clause-owner : goal.returns-clause-owner
returns-clause-owner g c = λ want s has.
    let same = c.deref.ensures.value ∙ take_at c.mark_owners.new.marks _ c.in_ok-marks.marks.len (c.mark_owners.auto.marks ∙ c.deref_mut.ensures.len) in
    IsLeastOwner-unmarked want s (parts_in g.D.Disk.told g.D.Disk.len (lent c.args.self.now)) has c.deref.result.now c.unused_owner.result
    (subst (λ (marks : List Bool). AreMarked c.args.self.now.store.now.pool.geometry.pages s marks) (sym same) (c.in_ok-root.ensures.marks want s has)) c.unused_owner.ensures

pub returns-clause-root : goal.returns-clause-root
returns-clause-root g c = λ want s has.
    let total = c.args.self.now.store.now.pool.geometry.pages in
    IsLeastFree-first total s c.in-Some.root c.requires.ready.few (subst (IsFirstFree total s) c.in-Some.is (c.in_ok-root.ensures.free want s has))
