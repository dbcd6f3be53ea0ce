use Rattle.std.proofs.Common.{rules, ◌≤◌, Result, Ok, Err, OnOk}
use Rattle.sb_disk.proofs.MomentLemmas.{and_then}
use Rattle.sb_images.specs.Layout.{need}
use Rattle.sb_recover.proofs.FormattingLemmas.{KeepsStore-none, formatting, LeavesOnly-lay, LeavesOnly-open, IsNew-on}
use Rattle.sb_recover.proofs.formatting.make.Goals as goal

on_ok : {T E : Type 0} (result : Result T E) (A B : Type 0) → (A → B) → OnOk result A → OnOk result B
on_ok (Ok x) A B leads ok = leads ok
on_ok (Err e) A B leads ok = tt

pub returns-in_err-shut-clause-any_moment : goal.returns-in_err-shut-clause-any_moment
returns-in_err-shut-clause-any_moment g c = λ settled. formatting c.args.g _ _ (c.shut.ensures.any_moment settled)

pub returns-in_err-lay-clause-any_moment : goal.returns-in_err-lay-clause-any_moment
returns-in_err-lay-clause-any_moment g c = λ settled.
    formatting c.args.g _ _ (and_then _ _ _ _ (c.shut.ensures.any_moment settled)
    (LeavesOnly-lay _ _ _ _ c.in_ok-shut.ensures.shut settled c.lay.ensures.any_moment))

pub returns-clause-any_moment : goal.returns-clause-any_moment
returns-clause-any_moment g c = λ settled.
    let len = c.shut.ensures.len in
    let room = c.requires.room in
    and_then _ (g.D.Disk.told c.lay.new.disk) _ _
    (formatting c.args.g _ _ (and_then _ _ _ _ (c.shut.ensures.any_moment settled)
    (LeavesOnly-lay _ _ _ _ c.in_ok-shut.ensures.shut settled c.lay.ensures.any_moment)))
    (LeavesOnly-open c.args.g c.requires.sizes (g.D.Disk.len c.lay.new.disk) (g.D.Disk.clock c.lay.new.disk) (search rules) c.set_gate.result _ _ _
    (g.met.D.Disk.fits c.lay.new.disk) c.in_ok-lay.ensures.laid c.set_gate.ensures.ran c.set_gate.ensures.ran_err)

pub returns-clause-made : goal.returns-clause-made
returns-clause-made g c =
    let room : need c.args.g.pages c.args.g.log ≤ g.D.Disk.len c.lay.new.disk = search rules in
    on_ok c.set_gate.result _ _ (λ ran. IsNew-on c.args.g c.requires.sizes (g.D.Disk.len c.lay.new.disk) (g.D.Disk.clock c.lay.new.disk) room _ _ _ _
    (g.met.D.Disk.fits c.lay.new.disk) c.requires.none c.in_ok-shut.ensures.shut c.in_ok-lay.ensures.laid ran) c.set_gate.ensures.ran

-- ---- there was no store
pub returns-in_err-shut-clause-keeps_store : goal.returns-in_err-shut-clause-keeps_store
returns-in_err-shut-clause-keeps_store g c = KeepsStore-none _ _ c.requires.none

pub returns-in_err-lay-clause-keeps_store : goal.returns-in_err-lay-clause-keeps_store
returns-in_err-lay-clause-keeps_store g c = KeepsStore-none _ _ c.requires.none

pub returns-clause-keeps_store : goal.returns-clause-keeps_store
returns-clause-keeps_store g c = KeepsStore-none _ _ c.requires.none
