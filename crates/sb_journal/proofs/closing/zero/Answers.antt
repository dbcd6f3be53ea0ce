use Rattle.std.proofs.Common.{Result, Ok, Err, OnOk}
use Rattle.sb_disk.proofs.MomentLemmas.{on_sync_call}
use Rattle.sb_journal.proofs.ZeroLemmas.{zeros_left, zeros_failed, zeros_done}
use Rattle.sb_journal.proofs.closing.zero.Goals as goal

pub returns-in_err-write_zeros-clause-any_moment : goal.returns-in_err-write_zeros-clause-any_moment
returns-in_err-write_zeros-clause-any_moment g c = zeros_failed _ _ c.args.at c.args.count c.in_err-write_zeros.ensures.err

pub returns-clause-any_moment : goal.returns-clause-any_moment
returns-clause-any_moment g c =
    on_sync_call c.sync.result _ _ _ _
    (zeros_left _ _ _ _ c.args.at c.args.count (g.met.D.Disk.fits c.args.disk.now) c.requires.len c.in_ok-write_zeros.ensures.ok) c.sync.ensures.ok c.sync.ensures.err

on_ok : {T E : Type 0} (result : Result T E) (A B : Type 0) → (A → B) → OnOk result A → OnOk result B
on_ok (Ok x) A B leads ok = leads ok
on_ok (Err e) A B leads ok = tt

pub returns-clause-zeroed : goal.returns-clause-zeroed
returns-clause-zeroed g c =
    on_ok c.sync.result _ _ (λ is. zeros_done (g.D.Disk.told c.args.disk.now) _ (g.D.Disk.told c.sync.new.self) _ _ c.args.at c.args.count
    (g.met.D.Disk.fits c.args.disk.now) c.requires.len c.in_ok-write_zeros.ensures.ok is) c.sync.ensures.ok
