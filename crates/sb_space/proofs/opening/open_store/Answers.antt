use Rattle.std.proofs.Common.{Option, refl, sym, subst}
use Rattle.sb_disk.specs.Disk.{Story}
use Rattle.sb_disk.specs.Moments.{LeavesOnly}
use Rattle.sb_images.specs.Images.{Restores}
use Rattle.sb_txn.specs.Parts.{parts}
use Rattle.sb_txn.proofs.ResultLemmas.{IfErr-from}
use Rattle.sb_space.proofs.OpeningLemmas.{handed-fault, IsFresh-opened, IsOpened-loads, IsSpace-looked, NamesDamage-looked, NamesDamage-opened, SpaceErr-looked, SpaceErr-opened, TableErr-fault}
use Rattle.sb_space.proofs.opening.open_store.Goals as goal

pub returns-in_err-store-clause-damaged : goal.returns-in_err-store-clause-damaged
returns-in_err-store-clause-damaged g c =
    IfErr-from c.from_residual.result c.in_err-store.field-0.0 _ c.from_residual.ensures.1 (NamesDamage-opened (g.D.Disk.told c.args.disk.now) (g.D.Disk.told c.open.new.disk) c.in_err-store.field-0.0 c.in_err-store.ensures.refused)

pub returns-in_err-store-clause-refused : goal.returns-in_err-store-clause-refused
returns-in_err-store-clause-refused g c =
    IfErr-from c.from_residual.result c.in_err-store.field-0.0 _ c.from_residual.ensures.1 (SpaceErr-opened (g.D.Disk.told c.args.disk.now) (g.D.Disk.told c.open.new.disk) c.in_err-store.field-0.0 c.in_err-store.ensures.refused)

pub look_through-requires : goal.look_through-requires
look_through-requires g c =
    let told = g.D.Disk.told in
    let len = g.D.Disk.len in
    let s = c.in_ok-store.store in
    let was = parts told len c.args.disk.now s in
    let a = parts told len c.open.new.disk s in
    IsFresh-opened was was a a refl c.in_ok-store.ensures.opened

pub returns-in_err-look_through-clause-any_moment : goal.returns-in_err-look_through-clause-any_moment
returns-in_err-look_through-clause-any_moment g c = λ want h mounted.
    subst (λ (x : Option Story). LeavesOnly (g.D.Disk.told c.args.disk.now) x (Restores h want)) (sym c.in_err-look_through.ensures.reads.story) (c.in_ok-store.ensures.any_moment want h mounted)

pub returns-in_err-look_through-clause-damaged : goal.returns-in_err-look_through-clause-damaged
returns-in_err-look_through-clause-damaged g c =
    let told = g.D.Disk.told in
    let len = g.D.Disk.len in
    let s = c.in_ok-store.store in
    let old = parts told len c.args.disk.now s in
    let a = parts told len c.open.new.disk s in
    IfErr-from c.from_residual-in_err-look_through.result c.in_err-look_through.field-0.0 _ c.from_residual-in_err-look_through.ensures.1
    (NamesDamage-looked (told c.args.disk.now) a (told c.look_through.new.disk) c.in_err-look_through.ensures.reads.story (g.D.Disk.faults c.open.new.disk) (g.D.Disk.faults c.look_through.new.disk) old refl c.in_ok-store.ensures.opened c.in_err-look_through.field-0.0 c.in_err-look_through.ensures.err)

pub returns-in_err-look_through-clause-refused : goal.returns-in_err-look_through-clause-refused
returns-in_err-look_through-clause-refused g c =
    let told = g.D.Disk.told in
    let len = g.D.Disk.len in
    let s = c.in_ok-store.store in
    let old = parts told len c.args.disk.now s in
    let a = parts told len c.open.new.disk s in
    IfErr-from c.from_residual-in_err-look_through.result c.in_err-look_through.field-0.0 _ c.from_residual-in_err-look_through.ensures.1
    (SpaceErr-looked (told c.args.disk.now) a (told c.look_through.new.disk) c.in_err-look_through.ensures.reads.story (g.D.Disk.faults c.open.new.disk) (g.D.Disk.faults c.look_through.new.disk) old refl c.in_ok-store.ensures.opened c.in_err-look_through.field-0.0 c.in_err-look_through.ensures.err)

pub returns-in_err-look_through-clause-fault : goal.returns-in_err-look_through-clause-fault
returns-in_err-look_through-clause-fault g c = λ is.
    let told = g.D.Disk.told in
    let len = g.D.Disk.len in
    let faults = g.D.Disk.faults in
    let a = parts told len c.open.new.disk c.in_ok-store.store in
    let e = c.in_err-look_through.field-0.0 in
    TableErr-fault a (faults c.args.disk.now) (faults c.open.new.disk) (faults c.look_through.new.disk) e c.in_ok-store.ensures.later c.in_err-look_through.ensures.err
    (handed-fault c.from_residual-in_err-look_through.result e c.from_residual-in_err-look_through.ensures.1 is)

pub returns-clause-opened : goal.returns-clause-opened
returns-clause-opened g c =
    let told = g.D.Disk.told in
    let len = g.D.Disk.len in
    let s = c.in_ok-store.store in
    let t = c.look_through.new.store in
    IsOpened-loads (parts told len c.args.disk.now s) (parts told len c.args.disk.now t) (parts told len c.open.new.disk s) (parts told len c.look_through.new.disk t) refl c.in_ok-store.ensures.opened c.in_ok-look_through.ensures.loads

pub returns-clause-space : goal.returns-clause-space
returns-clause-space g c =
    let told = g.D.Disk.told in
    let len = g.D.Disk.len in
    let s = c.in_ok-store.store in
    let t = c.look_through.new.store in
    let was = parts told len c.args.disk.now s in
    let a = parts told len c.open.new.disk s in
    IsSpace-looked a (parts told len c.look_through.new.disk t) c.in_ok-look_through.ensures.loads (IsFresh-opened was was a a refl c.in_ok-store.ensures.opened) c.in_ok-look_through.ensures.formed

pub returns-clause-any_moment : goal.returns-clause-any_moment
returns-clause-any_moment g c = λ want h mounted.
    subst (λ (x : Option Story). LeavesOnly (g.D.Disk.told c.args.disk.now) x (Restores h want)) (sym c.in_ok-look_through.ensures.reads.story) (c.in_ok-store.ensures.any_moment want h mounted)
