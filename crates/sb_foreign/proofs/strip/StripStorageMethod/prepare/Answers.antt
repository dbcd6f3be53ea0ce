use Rattle.sb_foreign.proofs.StripLaws.{Changes-prepared}
use Rattle.sb_foreign.proofs.strip.StripStorageMethod.prepare.Goals as goal

pub returns : goal.returns
returns c = Changes-prepared c.args._inst.now c.args._ctx.now c.requires.clean.unchanged c.requires.inst.may.fits
