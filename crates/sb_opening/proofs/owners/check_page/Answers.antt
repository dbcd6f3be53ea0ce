use Rattle.std.proofs.Common.{◌∙◌, refl, sym}
use Rattle.sb_drive.proofs.SpacesLemmas.{IfErr-passed}
use Rattle.sb_txn.specs.Parts.{parts}
use Rattle.sb_opening.proofs.OwnerLemmas.{IsKnown-found, IsStrayAt-down, OnlyLooks-asked, OnlyLooks-failed, OnlyLooks-stray, stray-found}
use Rattle.sb_opening.proofs.owners.check_page.Goals as goal

-- ---- it isn't answered
pub returns-in_err-owner-clause-stray : goal.returns-in_err-owner-clause-stray
returns-in_err-owner-clause-stray g c =
    let e = c.in_err-owner.field-0.0 in
    IfErr-passed c.from_residual.result e _ c.from_residual.ensures.1 (λ owners want s are has. IsStrayAt-down owners s c.args.n e c.in_err-owner.ensures.err)

pub returns-in_err-owner-clause-looks : goal.returns-in_err-owner-clause-looks
returns-in_err-owner-clause-looks g c =
    OnlyLooks-failed g.D.Disk.told g.D.Disk.len g.D.Disk.faults c.args.disk.now c.owner_of.new.disk c.args.store.now c.owner_of.new.store
    c.in_err-owner.field-0.0 c.from_residual.result c.from_residual.ensures.1 c.in_err-owner.ensures.err c.in_err-owner.ensures.looks

-- ---- its owner is that of no instance
pub returns-then-not-is_known-clause-stray : goal.returns-then-not-is_known-clause-stray
returns-then-not-is_known-clause-stray g c = λ owners want s are has.
    (refl, stray-found owners c.args.marks.now s (parts g.D.Disk.told g.D.Disk.len c.args.disk.now c.args.store.now) c.args.n c.in_ok-owner.owner are want has c.requires.page (c.in_ok-owner.ensures.owner want has.now has.stands) (sym c.is_known.ensures ∙ c.if-not-is_known.true))

pub returns-then-not-is_known-clause-looks : goal.returns-then-not-is_known-clause-looks
returns-then-not-is_known-clause-looks g c =
    OnlyLooks-stray g.D.Disk.told g.D.Disk.len g.D.Disk.faults c.args.disk.now c.owner_of.new.disk c.args.store.now c.owner_of.new.store c.in_ok-owner.owner _ c.in_ok-owner.ensures.looks

-- ---- or it is known
pub returns-clause-known : goal.returns-clause-known
returns-clause-known g c = λ owners want s are has.
    IsKnown-found owners c.args.marks.now s (parts g.D.Disk.told g.D.Disk.len c.args.disk.now c.args.store.now) c.args.n c.in_ok-owner.owner are want has c.requires.page (c.in_ok-owner.ensures.owner want has.now has.stands) (sym c.is_known.ensures ∙ c.if-not-is_known.false)

pub returns-clause-looks : goal.returns-clause-looks
returns-clause-looks g c =
    OnlyLooks-asked g.D.Disk.told g.D.Disk.len g.D.Disk.faults c.args.disk.now c.owner_of.new.disk c.args.store.now c.owner_of.new.store c.in_ok-owner.owner tt c.in_ok-owner.ensures.looks
