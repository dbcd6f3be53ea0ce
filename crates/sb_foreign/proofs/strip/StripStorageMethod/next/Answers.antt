use Rattle.std.proofs.Common.{option_map, sym, subst, IfSome, ◌∙◌}
use Rattle.sb_foreign.specs.Strips.{IsPlaced}
use Rattle.sb_foreign.proofs.StripLaws.{Looks-row, Looks-end}
use Rattle.sb_foreign.proofs.strip.StripStorageMethod.next.Goals as goal

pub returns-in-Ok-Some : goal.returns-in-Ok-Some
returns-in-Ok-Some c =
    Looks-row c.args.inst.now (option_map (λ key. key.now) c.args.after) c.args.ctx.now c.in-Some.page.now c.in-Some-get.bytes.now c.in-Ok-Some.key c.in-Ok-Some.row c.requires.clean.unchanged (sym c.in-Some.ensures)
    c.in-Some-get.ensures.lookup.0.2 c.requires.inst.may.fits (subst (λ o. IfSome o IsPlaced) c.in-Ok-Some.field-0-is c.in-Ok-Some.ensures.placed) (sym c.in-Ok-Some.field-0-is ∙ c.in-Ok-Some.ensures.row)

pub returns-in-Ok-None : goal.returns-in-Ok-None
returns-in-Ok-None c =
    Looks-end c.args.inst.now (option_map (λ key. key.now) c.args.after) c.args.ctx.now c.in-Some.page.now c.in-Some-get.bytes.now c.requires.clean.unchanged (sym c.in-Some.ensures)
    c.in-Some-get.ensures.lookup.0.2 (sym c.in-Ok-None.field-0-is ∙ c.in-Ok-None.ensures.row)
