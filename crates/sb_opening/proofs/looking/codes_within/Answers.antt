use Rattle.std.proofs.Common.{◌∙◌, Ok, Err, List, ℕ, subst}
use Rattle.sb_drive.proofs.SpacesLemmas.{IfErr-passed}
use Rattle.sb_standing.specs.Standing.{owners_in}
use Rattle.sb_opening.specs.Looking.{fault_of}
use Rattle.sb_opening.specs.Owners.{HasNoStray, TellsStray}
use Rattle.sb_opening.proofs.OwnerLemmas.{LooksWithin-ok, LooksWithin-passed, LooksWithin-then, TellsStray-sound}
use Rattle.sb_opening.proofs.looking.codes_within.Goals as goal

-- ---- the catalogue is refused
pub returns-in_err-census-clause-stray : goal.returns-in_err-census-clause-stray
returns-in_err-census-clause-stray g c =
    let e = c.in_err-census.field-0.0 in
    IfErr-passed c.from_residual.result e _ c.from_residual.ensures.1
    (λ m want s kept has tables. TellsStray-sound s (owners_in kept) e (c.in_err-census.ensures.undamaged m want s kept has tables))

pub returns-in_err-census-clause-looks : goal.returns-in_err-census-clause-looks
returns-in_err-census-clause-looks g c =
    LooksWithin-passed g.D.Disk.told g.D.Disk.len g.D.Disk.faults c.args.tx.now.store.number c.args.disk.now c.census_within.new.disk c.args.space.now.store c.census_within.new.space.store
    c.in_err-census.field-0.0 c.from_residual.result c.from_residual.ensures.1 c.in_err-census.ensures.looks

-- ---- an owner is
pub check_owners-requires : goal.check_owners-requires
check_owners-requires g c = record { ready = c.in_ok-census.ensures.looks.ready.ready }

pub returns-in_err-check_owners-clause-stray : goal.returns-in_err-check_owners-clause-stray
returns-in_err-check_owners-clause-stray g c =
    let e = c.in_err-check_owners.field-0.0 in
    IfErr-passed c.from_residual-in_err-check_owners.result e _ c.from_residual-in_err-check_owners.ensures.1
    (λ m want s kept has tables.
    subst (λ (owners : List ℕ). TellsStray s owners (fault_of e)) (c.as_slice.ensures.value ∙ c.in_ok-census.ensures.owners m want s kept has tables)
    (c.in_err-check_owners.ensures.stray want s (c.in_ok-census.ensures.looks.same want s has)))

pub returns-in_err-check_owners-clause-looks : goal.returns-in_err-check_owners-clause-looks
returns-in_err-check_owners-clause-looks g c =
    let told = g.D.Disk.told in
    let len = g.D.Disk.len in
    let faults = g.D.Disk.faults in
    let tx = c.args.tx.now.store.number in
    let e = c.in_err-check_owners.field-0.0 in
    LooksWithin-passed told len faults tx c.args.disk.now c.check_owners.new.disk c.args.space.now.store c.check_owners.new.store
    e c.from_residual-in_err-check_owners.result c.from_residual-in_err-check_owners.ensures.1
    (LooksWithin-then told len faults tx c.args.disk.now c.census_within.new.disk c.check_owners.new.disk c.args.space.now.store c.census_within.new.space.store c.check_owners.new.store
    c.in_ok-census.census (Err e) c.in_ok-census.ensures.looks c.in_err-check_owners.ensures.looks)

-- ---- both are well
pub returns-clause-codes : goal.returns-clause-codes
returns-clause-codes g c = λ m want s kept has tables. c.in_ok-census.ensures.codes m want s kept has tables

pub returns-clause-known : goal.returns-clause-known
returns-clause-known g c = λ m want s kept has tables.
    subst (HasNoStray s) (c.as_slice.ensures.value ∙ c.in_ok-census.ensures.owners m want s kept has tables)
    (c.in_ok-check_owners.ensures.known want s (c.in_ok-census.ensures.looks.same want s has))

pub returns-clause-looks : goal.returns-clause-looks
returns-clause-looks g c =
    let told = g.D.Disk.told in
    let len = g.D.Disk.len in
    let faults = g.D.Disk.faults in
    let tx = c.args.tx.now.store.number in
    LooksWithin-ok told len faults tx c.args.disk.now c.check_owners.new.disk c.args.space.now.store c.check_owners.new.store (tt {0}) _
    (LooksWithin-then told len faults tx c.args.disk.now c.census_within.new.disk c.check_owners.new.disk c.args.space.now.store c.census_within.new.space.store c.check_owners.new.store
    c.in_ok-census.census (Ok tt) c.in_ok-census.ensures.looks c.in_ok-check_owners.ensures.looks)
