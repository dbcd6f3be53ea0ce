use Rattle.std.proofs.Common.{◌≡◌, ◌∙◌, ℕ, Err, List, sym, ap, subst}
use Rattle.sb_txn.specs.Parts.{parts}
use Rattle.sb_txn.proofs.ResultLemmas.{IfErr-from}
use Rattle.sb_opening.specs.declared.codes.Named.{Named}
use Rattle.sb_standing.specs.Standing.{owners_in}
use Rattle.sb_space.specs.Table.{slots_in}
use Rattle.sb_opening.specs.Naming.{HasLive, first_absent, named_in}
use Rattle.sb_opening.specs.Owners.{HasNoStray, TellsStray}
use Rattle.sb_opening.proofs.OpenLemmas.{CanRun-opened, IsFor-opened, MayRefuse-absent, MayRefuse-looked, MayRefuse-space, NamesEntry-space, NamesMissing-absent, NamesMissing-looked, NamesMissing-space, NamesTable-opened, NamesTable-space, OpeningErr-absent, OpeningErr-looked, OpeningErr-space, TellsStray-absent, fault-absent, fault-looked, fault-space, leaves-looked, over-catalogued, over-stored, sizes-opened, up-opened, wanted-opened}
use Rattle.sb_opening.proofs.OwnerLemmas.{AreKnown-all}
use Rattle.sb_opening.proofs.opening.open.Goals as goal

-- ---- the space isn't opened
pub returns-in_err-store-clause-missing : goal.returns-in_err-store-clause-missing
returns-in_err-store-clause-missing g c =
    IfErr-from c.from_residual.result c.in_err-store.field-0.0 _ c.from_residual.ensures.1
    (MayRefuse-space (g.D.Disk.told c.args.disk.now) (g.D.Disk.told c.open_store.new.disk) (g.B.Boxes.meanings c.args.boxes) c.in_err-store.field-0.0 c.in_err-store.ensures.damaged c.in_err-store.ensures.refused)

pub returns-in_err-store-clause-table : goal.returns-in_err-store-clause-table
returns-in_err-store-clause-table g c =
    IfErr-from c.from_residual.result c.in_err-store.field-0.0 _ c.from_residual.ensures.1
    (NamesTable-space (g.D.Disk.told c.args.disk.now) (g.D.Disk.told c.open_store.new.disk) c.in_err-store.field-0.0 c.in_err-store.ensures.damaged)

pub returns-in_err-store-clause-entry : goal.returns-in_err-store-clause-entry
returns-in_err-store-clause-entry g c =
    IfErr-from c.from_residual.result c.in_err-store.field-0.0 _ c.from_residual.ensures.1
    (NamesEntry-space (g.D.Disk.told c.args.disk.now) (g.D.Disk.told c.open_store.new.disk) c.in_err-store.field-0.0 c.in_err-store.ensures.damaged c.in_err-store.ensures.refused)

pub returns-in_err-store-clause-refused : goal.returns-in_err-store-clause-refused
returns-in_err-store-clause-refused g c =
    IfErr-from c.from_residual.result c.in_err-store.field-0.0 _ c.from_residual.ensures.1
    (OpeningErr-space (g.D.Disk.told c.args.disk.now) (g.D.Disk.told c.open_store.new.disk) c.in_err-store.field-0.0 c.in_err-store.ensures.any_moment c.in_err-store.ensures.refused)

pub returns-in_err-store-clause-absent : goal.returns-in_err-store-clause-absent
returns-in_err-store-clause-absent g c =
    IfErr-from c.from_residual.result c.in_err-store.field-0.0 _ c.from_residual.ensures.1
    (NamesMissing-space (g.B.Boxes.meanings c.args.boxes) (g.D.Disk.told c.args.disk.now) (g.D.Disk.told c.open_store.new.disk) c.in_err-store.field-0.0 c.in_err-store.ensures.refused)

pub returns-in_err-store-clause-fault : goal.returns-in_err-store-clause-fault
returns-in_err-store-clause-fault g c =
    fault-space c.from_residual.result (g.D.Disk.faults c.args.disk.now) (g.D.Disk.faults c.open_store.new.disk) c.in_err-store.field-0.0 c.from_residual.ensures.1
    (λ is. c.in_err-store.ensures.fault (ap (λ f. Err f) is))

-- ---- the look is refused
pub named_codes-requires-clause-ready : goal.named_codes-requires-clause-ready
named_codes-requires-clause-ready g c = c.in_ok-store.ensures.opened.ready

pub named_codes-requires-clause-up : goal.named_codes-requires-clause-up
named_codes-requires-clause-up g c =
    up-opened g.D.Disk.told g.D.Disk.len g.D.Disk.faults c.args.disk.now c.open_store.new.disk c.in_ok-store.store c.in_ok-store.ensures.opened c.in_ok-store.ensures.space

pub named_codes-requires-clause-none : goal.named_codes-requires-clause-none
named_codes-requires-clause-none g c = c.in_ok-store.ensures.space.none

pub named_codes-requires-clause-few : goal.named_codes-requires-clause-few
named_codes-requires-clause-few g c = c.in_ok-store.ensures.space.few

pub named_codes-requires-clause-owner : goal.named_codes-requires-clause-owner
named_codes-requires-clause-owner g c = ap (λ (r : ℕ × ℕ). r.0) c.catalogue-owner.ensures

pub returns-in_err-named-clause-any_moment : goal.returns-in_err-named-clause-any_moment
returns-in_err-named-clause-any_moment g c =
    leaves-looked g.D.Disk.told g.D.Disk.len g.D.Disk.faults c.args.disk.now c.open_store.new.disk c.in_ok-store.store c.in_ok-store.ensures.opened c.in_ok-store.ensures.space
    c.named_codes.new.disk c.named_codes.new.space.store c.in_err-named.ensures.look c.in_ok-store.ensures.any_moment

pub returns-in_err-named-clause-missing : goal.returns-in_err-named-clause-missing
returns-in_err-named-clause-missing g c =
    IfErr-from c.from_residual-in_err-named.result c.in_err-named.field-0.0 _ c.from_residual-in_err-named.ensures.1
    (λ m h want db stored.
    let e = c.in_err-named.field-0.0 in
    MayRefuse-looked (g.B.Boxes.meanings c.args.boxes) m (g.D.Disk.told c.args.disk.now) h want db stored (g.D.Disk.faults c.open_store.new.disk) (g.D.Disk.faults c.named_codes.new.disk) e c.in_err-named.ensures.err
    (over-stored g.D.Disk.told g.D.Disk.len g.D.Disk.faults c.args.disk.now c.open_store.new.disk c.in_ok-store.store c.in_ok-store.ensures.opened c.in_ok-store.ensures.space m h want db stored
    c.catalogue-owner.result.1 (λ s kept. TellsStray s (owners_in kept) e) (ap (λ (r : ℕ × ℕ). r.1) c.catalogue-owner.ensures) c.in_err-named.ensures.stray))

pub returns-in_err-named-clause-entry : goal.returns-in_err-named-clause-entry
returns-in_err-named-clause-entry g c =
    let e = c.in_err-named.field-0.0 in
    IfErr-from c.from_residual-in_err-named.result e _ c.from_residual-in_err-named.ensures.1
    (λ h want kept of table.
    over-catalogued g.D.Disk.told g.D.Disk.len g.D.Disk.faults c.args.disk.now c.open_store.new.disk c.in_ok-store.store c.in_ok-store.ensures.opened c.in_ok-store.ensures.space h want kept of
    c.catalogue-owner.result.1 (λ s ks. TellsStray s (owners_in ks) e) (ap (λ (r : ℕ × ℕ). r.1) c.catalogue-owner.ensures) c.in_err-named.ensures.stray)

pub returns-in_err-named-clause-table : goal.returns-in_err-named-clause-table
returns-in_err-named-clause-table g c =
    IfErr-from c.from_residual-in_err-named.result c.in_err-named.field-0.0 _ c.from_residual-in_err-named.ensures.1
    (NamesTable-opened g.D.Disk.told g.D.Disk.len g.D.Disk.faults c.args.disk.now c.open_store.new.disk c.in_ok-store.store c.in_ok-store.ensures.opened c.in_ok-store.ensures.space c.in_err-named.field-0.0)

pub returns-in_err-named-clause-refused : goal.returns-in_err-named-clause-refused
returns-in_err-named-clause-refused g c =
    IfErr-from c.from_residual-in_err-named.result c.in_err-named.field-0.0 _ c.from_residual-in_err-named.ensures.1
    (OpeningErr-looked g.D.Disk.told g.D.Disk.len g.D.Disk.faults c.args.disk.now c.open_store.new.disk c.in_ok-store.store c.in_ok-store.ensures.opened c.in_ok-store.ensures.space
    c.named_codes.new.disk c.named_codes.new.space.store c.in_err-named.ensures.look (g.D.Disk.faults c.open_store.new.disk) (g.D.Disk.faults c.named_codes.new.disk) c.in_err-named.field-0.0 c.in_err-named.ensures.err)

pub returns-in_err-named-clause-absent : goal.returns-in_err-named-clause-absent
returns-in_err-named-clause-absent g c =
    IfErr-from c.from_residual-in_err-named.result c.in_err-named.field-0.0 _ c.from_residual-in_err-named.ensures.1
    (NamesMissing-looked (g.B.Boxes.meanings c.args.boxes) (g.D.Disk.told c.args.disk.now) (g.D.Disk.faults c.open_store.new.disk) (g.D.Disk.faults c.named_codes.new.disk) c.in_err-named.field-0.0
    c.in_err-named.ensures.err)

pub returns-in_err-named-clause-fault : goal.returns-in_err-named-clause-fault
returns-in_err-named-clause-fault g c =
    fault-looked c.from_residual-in_err-named.result (g.D.Disk.faults c.args.disk.now) (g.D.Disk.faults c.open_store.new.disk) (g.D.Disk.faults c.named_codes.new.disk) c.in_err-named.field-0.0
    c.from_residual-in_err-named.ensures.1 c.in_ok-store.ensures.later c.in_err-named.ensures.err

-- ---- a box is missing
pub make_live-requires : goal.make_live-requires
make_live-requires g c = record { unique = c.requires.unique }

pub returns-in_err-make_live-clause-any_moment : goal.returns-in_err-make_live-clause-any_moment
returns-in_err-make_live-clause-any_moment g c =
    leaves-looked g.D.Disk.told g.D.Disk.len g.D.Disk.faults c.args.disk.now c.open_store.new.disk c.in_ok-store.store c.in_ok-store.ensures.opened c.in_ok-store.ensures.space
    c.named_codes.new.disk c.named_codes.new.space.store c.in_ok-named.ensures.look c.in_ok-store.ensures.any_moment

pub returns-in_err-make_live-clause-missing : goal.returns-in_err-make_live-clause-missing
returns-in_err-make_live-clause-missing g c =
    IfErr-from c.from_residual-in_err-make_live.result c.in_err-make_live.field-0.0 _ c.from_residual-in_err-make_live.ensures.1
    (λ m h want db stored.
    MayRefuse-absent (g.B.Boxes.meanings c.args.boxes) c.as_slice.result.now (named_in stored.committed.kept) c.in_err-make_live.field-0.0
    (c.as_slice.ensures.value
    ∙ over-stored g.D.Disk.told g.D.Disk.len g.D.Disk.faults c.args.disk.now c.open_store.new.disk c.in_ok-store.store c.in_ok-store.ensures.opened c.in_ok-store.ensures.space m h want db stored
    c.catalogue-owner.result.1 (λ s kept. c.in_ok-named.named.items ≡ named_in kept) (ap (λ (r : ℕ × ℕ). r.1) c.catalogue-owner.ensures) c.in_ok-named.ensures.named)
    c.in_err-make_live.ensures.refused)

pub returns-in_err-make_live-clause-table : goal.returns-in_err-make_live-clause-table
returns-in_err-make_live-clause-table g c =
    IfErr-from c.from_residual-in_err-make_live.result c.in_err-make_live.field-0.0 _ c.from_residual-in_err-make_live.ensures.1
    (NamesTable-opened g.D.Disk.told g.D.Disk.len g.D.Disk.faults c.args.disk.now c.open_store.new.disk c.in_ok-store.store c.in_ok-store.ensures.opened c.in_ok-store.ensures.space c.in_err-make_live.field-0.0)

pub returns-in_err-make_live-clause-entry : goal.returns-in_err-make_live-clause-entry
returns-in_err-make_live-clause-entry g c =
    let e = c.in_err-make_live.field-0.0 in
    IfErr-from c.from_residual-in_err-make_live.result e _ c.from_residual-in_err-make_live.ensures.1
    (λ h want kept of table.
    TellsStray-absent (slots_in h.pages want) (owners_in kept) _ e
    (over-catalogued g.D.Disk.told g.D.Disk.len g.D.Disk.faults c.args.disk.now c.open_store.new.disk c.in_ok-store.store c.in_ok-store.ensures.opened c.in_ok-store.ensures.space h want kept of
    c.catalogue-owner.result.1 (λ s ks. HasNoStray s (owners_in ks)) (ap (λ (r : ℕ × ℕ). r.1) c.catalogue-owner.ensures) c.in_ok-named.ensures.known)
    c.in_err-make_live.ensures.refused)

pub returns-in_err-make_live-clause-refused : goal.returns-in_err-make_live-clause-refused
returns-in_err-make_live-clause-refused g c =
    IfErr-from c.from_residual-in_err-make_live.result c.in_err-make_live.field-0.0 _ c.from_residual-in_err-make_live.ensures.1
    (OpeningErr-absent g.D.Disk.told g.D.Disk.len g.D.Disk.faults c.args.disk.now c.open_store.new.disk c.in_ok-store.store c.in_ok-store.ensures.opened c.in_ok-store.ensures.space
    c.named_codes.new.disk c.named_codes.new.space.store c.in_ok-named.ensures.look _ c.in_err-make_live.field-0.0 c.in_err-make_live.ensures.refused)

pub returns-in_err-make_live-clause-absent : goal.returns-in_err-make_live-clause-absent
returns-in_err-make_live-clause-absent g c =
    IfErr-from c.from_residual-in_err-make_live.result c.in_err-make_live.field-0.0 _ c.from_residual-in_err-make_live.ensures.1
    (NamesMissing-absent (g.B.Boxes.meanings c.args.boxes) c.as_slice.result.now (g.D.Disk.told c.args.disk.now) c.in_err-make_live.field-0.0 c.in_err-make_live.ensures.refused
    (λ h want kept of. c.as_slice.ensures.value
    ∙ over-catalogued g.D.Disk.told g.D.Disk.len g.D.Disk.faults c.args.disk.now c.open_store.new.disk c.in_ok-store.store c.in_ok-store.ensures.opened c.in_ok-store.ensures.space h want kept of
    c.catalogue-owner.result.1 (λ s ks. c.in_ok-named.named.items ≡ named_in ks) (ap (λ (r : ℕ × ℕ). r.1) c.catalogue-owner.ensures) c.in_ok-named.ensures.named))

pub returns-in_err-make_live-clause-fault : goal.returns-in_err-make_live-clause-fault
returns-in_err-make_live-clause-fault g c =
    fault-absent c.from_residual-in_err-make_live.result _ c.in_err-make_live.field-0.0 c.from_residual-in_err-make_live.ensures.1 c.in_err-make_live.ensures.refused

-- ---- the session
pub returns-clause-stands : goal.returns-clause-stands
returns-clause-stands g c = λ h want db stored.
    let named = c.as_slice.ensures.value
    ∙ over-stored g.D.Disk.told g.D.Disk.len g.D.Disk.faults c.args.disk.now c.open_store.new.disk c.in_ok-store.store c.in_ok-store.ensures.opened c.in_ok-store.ensures.space (g.B.Boxes.meanings c.args.boxes) h want db stored
    c.catalogue-owner.result.1 (λ s kept. c.in_ok-named.named.items ≡ named_in kept) (ap (λ (r : ℕ × ℕ). r.1) c.catalogue-owner.ensures) c.in_ok-named.ensures.named in
    IsFor-opened g.D.Disk.told g.D.Disk.len g.D.Disk.faults c.args.disk.now c.open_store.new.disk c.in_ok-store.store c.in_ok-store.ensures.opened c.in_ok-store.ensures.space
    g.B.Boxes.meanings c.make_live.new.boxes c.named_codes.new.disk c.named_codes.new.space.store _ c.new.result c.new.ensures.items c.in_ok-named.ensures.look.geometry c.in_ok-named.ensures.rests (g.B.Boxes.meanings c.args.boxes) h want db stored
    (ap (λ (r : ℕ × ℕ). r.1) c.catalogue-owner.ensures)
    (subst (λ (ns : List Named). HasLive (g.B.Boxes.meanings c.args.boxes) ns (g.B.Boxes.meanings c.make_live.new.boxes)) named c.in_ok-make_live.ensures.live)

pub returns-clause-live : goal.returns-clause-live
returns-clause-live g c = λ h want db stored.
    let named = c.as_slice.ensures.value
    ∙ over-stored g.D.Disk.told g.D.Disk.len g.D.Disk.faults c.args.disk.now c.open_store.new.disk c.in_ok-store.store c.in_ok-store.ensures.opened c.in_ok-store.ensures.space (g.B.Boxes.meanings c.args.boxes) h want db stored
    c.catalogue-owner.result.1 (λ s kept. c.in_ok-named.named.items ≡ named_in kept) (ap (λ (r : ℕ × ℕ). r.1) c.catalogue-owner.ensures) c.in_ok-named.ensures.named in
    subst (λ (ns : List Named). HasLive (g.B.Boxes.meanings c.args.boxes) ns (g.B.Boxes.meanings c.make_live.new.boxes)) named c.in_ok-make_live.ensures.live

pub returns-clause-runs : goal.returns-clause-runs
returns-clause-runs g c =
    CanRun-opened g.D.Disk.told g.D.Disk.len g.D.Disk.faults c.args.disk.now c.open_store.new.disk c.in_ok-store.store c.in_ok-store.ensures.opened c.in_ok-store.ensures.space
    g.B.Boxes.meanings c.make_live.new.boxes c.named_codes.new.disk c.named_codes.new.space.store _ c.new.result c.new.ensures.items c.in_ok-named.ensures.look.geometry c.in_ok-named.ensures.rests
    (ap (λ (r : ℕ × ℕ). r.0) c.catalogue-owner.ensures) (g.B.Boxes.meanings c.args.boxes) c.as_slice.result.now c.in_ok-make_live.ensures.live

pub returns-clause-wanted : goal.returns-clause-wanted
returns-clause-wanted g c =
    wanted-opened g.D.Disk.told g.D.Disk.len g.D.Disk.faults c.args.disk.now c.open_store.new.disk c.in_ok-store.store c.in_ok-store.ensures.opened c.in_ok-store.ensures.space
    (parts g.D.Disk.told g.D.Disk.len c.named_codes.new.disk c.named_codes.new.space.store) c.in_ok-named.ensures.rests

pub returns-clause-present : goal.returns-clause-present
returns-clause-present g c = λ h want kept of.
    let named = c.as_slice.ensures.value
    ∙ over-catalogued g.D.Disk.told g.D.Disk.len g.D.Disk.faults c.args.disk.now c.open_store.new.disk c.in_ok-store.store c.in_ok-store.ensures.opened c.in_ok-store.ensures.space h want kept of
    c.catalogue-owner.result.1 (λ s ks. c.in_ok-named.named.items ≡ named_in ks) (ap (λ (r : ℕ × ℕ). r.1) c.catalogue-owner.ensures) c.in_ok-named.ensures.named in
    ap (λ (ns : List Named). first_absent (g.B.Boxes.meanings c.args.boxes) ns) (sym named) ∙ c.in_ok-make_live.ensures.present

pub returns-clause-owners : goal.returns-clause-owners
returns-clause-owners g c = λ h want kept of.
    over-catalogued g.D.Disk.told g.D.Disk.len g.D.Disk.faults c.args.disk.now c.open_store.new.disk c.in_ok-store.store c.in_ok-store.ensures.opened c.in_ok-store.ensures.space h want kept of
    c.catalogue-owner.result.1 (λ s ks. HasNoStray s (owners_in ks)) (ap (λ (r : ℕ × ℕ). r.1) c.catalogue-owner.ensures) c.in_ok-named.ensures.known

pub returns-clause-known : goal.returns-clause-known
returns-clause-known g c = λ h want kept of.
    AreKnown-all (slots_in h.pages want) (owners_in kept)
    (over-catalogued g.D.Disk.told g.D.Disk.len g.D.Disk.faults c.args.disk.now c.open_store.new.disk c.in_ok-store.store c.in_ok-store.ensures.opened c.in_ok-store.ensures.space h want kept of
    c.catalogue-owner.result.1 (λ s ks. HasNoStray s (owners_in ks)) (ap (λ (r : ℕ × ℕ). r.1) c.catalogue-owner.ensures) c.in_ok-named.ensures.known)

pub returns-clause-any_moment : goal.returns-clause-any_moment
returns-clause-any_moment g c =
    leaves-looked g.D.Disk.told g.D.Disk.len g.D.Disk.faults c.args.disk.now c.open_store.new.disk c.in_ok-store.store c.in_ok-store.ensures.opened c.in_ok-store.ensures.space
    c.named_codes.new.disk c.named_codes.new.space.store c.in_ok-named.ensures.look c.in_ok-store.ensures.any_moment

pub returns-clause-sizes : goal.returns-clause-sizes
returns-clause-sizes g c =
    sizes-opened g.D.Disk.told g.D.Disk.len g.D.Disk.faults c.args.disk.now c.open_store.new.disk c.in_ok-store.store c.in_ok-store.ensures.opened c.in_ok-store.ensures.space
    c.named_codes.new.space.store c.in_ok-named.ensures.look.geometry
