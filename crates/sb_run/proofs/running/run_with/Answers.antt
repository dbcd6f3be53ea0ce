use Rattle.std.proofs.Common.{◌≡◌, None, Result, IfOk, refl, subst, ℕ}
use Rattle.sb_registry.specs.Boxes.{repeated_in}
use Rattle.sb_run.specs.Run.{AreTaken, BadBoxes, tells}
use Rattle.sb_run.proofs.RunLemmas.{on_mounted}
use Rattle.sb_run.proofs.running.run_with.Goals as goal

pub returns-in-Ok-clause-run : goal.returns-in-Ok-clause-run
returns-in-Ok-clause-run g c = λ m taken.
    let meanings = g.B.Boxes.meanings in
    on_mounted (tells g.D.Disk.told g.D.Disk.len g.D.Disk.faults) (meanings c.in-Ok.boxes) m c.args.words.now c.args.most _ _ c.args.disk.now c.mount.new.self
    c.run_mounted.new.disk c.run_mounted.result c.mount.ensures.told c.mount.ensures.cause.later
    (subst (λ (o : Result g.row.B.Denot ℕ). AreTaken meanings o m) c.in-Ok.is taken)
    (subst (λ (o : Result g.row.B.Denot ℕ). IfOk o (λ b. repeated_in (meanings b) ≡ None)) c.in-Ok.is c.requires.unique) c.run_mounted.ensures.run

pub returns-in-Err-clause-run : goal.returns-in-Err-clause-run
returns-in-Err-clause-run g c = λ m taken.
    BadBoxes c.in-Err.code c.mount.ensures.told (subst (λ (o : Result g.row.B.Denot ℕ). AreTaken g.B.Boxes.meanings o m) c.in-Err.is taken) refl c.refuse_store.ensures.refused
