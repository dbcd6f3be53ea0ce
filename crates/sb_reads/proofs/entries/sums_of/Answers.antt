use Rattle.std.proofs.Common.{◌∙◌}
use Rattle.sb_drive.proofs.SpacesLemmas.{IfErr-passed}
use Rattle.sb_drive.specs.Slots.{owned}
use Rattle.sb_reads.proofs.StoresLemmas.{Holds-live, IsSums-final, sums-answered}
use Rattle.sb_reads.proofs.entries.sums_of.Goals as goal

pub returns-in_err-made-clause-undamaged : goal.returns-in_err-made-clause-undamaged
returns-in_err-made-clause-undamaged g c =
    IfErr-passed c.from_residual.result c.in_err-made.field-0.0 _ c.from_residual.ensures.1 (λ want s kept content has is.
    c.in_err-made.ensures.undamaged c.requires.live want s kept content has is.tables is.stand (Holds-live _ _ s kept c.args.inst.now content c.requires.live is))

pub returns-clause-sums : goal.returns-clause-sums
returns-clause-sums g c = λ want s kept content has is.
    let inst = c.args.inst.now in
    let live = c.requires.live in
    let left = c.in_ok-made.ensures.asked live want s kept has is.tables in
    c.sums_in.ensures ∙ sums-answered live.box inst left.own.view (owned s inst.owner) (owned left.slots inst.owner) c.in_ok-made.made content (IsSums-final c.in_ok-made.made c.in_ok-made.ensures.ends) left.own.answers
    (Holds-live _ _ s kept inst content live is)
