use Rattle.std.proofs.Common.{Bool, List, length, sym, ap, subst, ◌∙◌}
use Rattle.std.proofs.lemmas.List.{take_at}
use Rattle.sb_txn.specs.Parts.{parts}
use Rattle.sb_space.proofs.Marking.{length-unmarked}
use Rattle.sb_opening.specs.Owners.{AreMarks}
use Rattle.sb_opening.proofs.OwnerLemmas.{OnlyLooks-wanting, known-marked, stray-marked}
use Rattle.sb_opening.proofs.owners.check_owners.Goals as goal

pub returns-in_err-marks-clause-looks : goal.returns-in_err-marks-clause-looks
returns-in_err-marks-clause-looks g c =
    OnlyLooks-wanting g.D.Disk.told g.D.Disk.len g.D.Disk.faults c.args.disk.now c.args.store.now c.from_residual.result c.from_residual.ensures.1 c.requires.ready

pub check_pages-requires-clause-long : goal.check_pages-requires-clause-long
check_pages-requires-clause-long g c =
    let same = c.as_slice.ensures.value ∙ take_at c.mark_owners.new.marks _ c.in_ok-marks.marks.len (c.mark_owners.auto.marks ∙ c.deref_mut.ensures.len) in
    ap (λ (marks : List Bool). length marks) same ∙ c.mark_owners.auto.marks ∙ ap (λ (marks : List Bool). length marks) (c.deref_mut.ensures.value ∙ c.in_ok-marks.ensures) ∙ length-unmarked 65536

pub returns-clause-known : goal.returns-clause-known
returns-clause-known g c =
    let same = c.as_slice.ensures.value ∙ take_at c.mark_owners.new.marks _ c.in_ok-marks.marks.len (c.mark_owners.auto.marks ∙ c.deref_mut.ensures.len) in
    known-marked c.as_slice.result.now c.args.owners.now (parts g.D.Disk.told g.D.Disk.len c.args.disk.now c.args.store.now)
    (subst (λ (marks : List Bool). AreMarks c.args.owners.now marks) (sym same) c.mark_owners.ensures) c.check_pages.result c.check_pages.ensures.known

pub returns-clause-stray : goal.returns-clause-stray
returns-clause-stray g c =
    let same = c.as_slice.ensures.value ∙ take_at c.mark_owners.new.marks _ c.in_ok-marks.marks.len (c.mark_owners.auto.marks ∙ c.deref_mut.ensures.len) in
    stray-marked c.as_slice.result.now c.args.owners.now (parts g.D.Disk.told g.D.Disk.len c.args.disk.now c.args.store.now)
    (subst (λ (marks : List Bool). AreMarks c.args.owners.now marks) (sym same) c.mark_owners.ensures) c.check_pages.result c.check_pages.ensures.stray

pub mark_owners-requires : goal.mark_owners-requires
mark_owners-requires g c = record { new = c.deref_mut.ensures.value ∙ c.in_ok-marks.ensures }
