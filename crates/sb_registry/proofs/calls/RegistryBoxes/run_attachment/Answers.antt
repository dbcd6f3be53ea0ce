use Rattle.sb_registry.proofs.RunsLemmas.{Fits-live}
use Rattle.sb_registry.proofs.calls.RegistryBoxes.run_attachment.Goals as goal

pub call_attachment-requires-clause-fits : goal.call_attachment-requires-clause-fits
call_attachment-requires-clause-fits g c = Fits-live _ c.args.inst.now c.args.call.now _ c.in-Some.ensures c.requires.live c.requires.fits
