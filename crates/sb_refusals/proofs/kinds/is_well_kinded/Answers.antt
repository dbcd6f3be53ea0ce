use Rattle.std.proofs.Common.{Bool, ◌&&◌, ap, sym, ◌∙◌}
use Rattle.sb_plain.specs.State.{view}
use Rattle.sb_refusals.proofs.Kinded.{lookup_kinded, range_kinded, range_not_kinded}
use Rattle.sb_refusals.proofs.kinds.is_well_kinded.Goals as goal

pub returns-in-Lookup : goal.returns-in-Lookup
returns-in-Lookup g c s sees seen =
    lookup_kinded (g.C.Catalogue.extensions c.args.catalogue.now) (view s) c.args.command.now c.args.named.now c.in-Lookup.relation c.in-Lookup.name c.in-Lookup.values c.is_lookup.result
    c.in-Lookup.is seen c.is_lookup.ensures

pub returns-then-is_range : goal.returns-then-is_range
returns-then-is_range g c s sees seen =
    ap (λ (t : Bool). t && c.is_range-then-is_range.result) (sym c.if-is_range.true)
    ∙ range_kinded (g.C.Catalogue.extensions c.args.catalogue.now) (view s) c.args.command.now c.args.named.now c.in-Range.relation c.in-Range.name c.in-Range.low c.in-Range.high c.is_range.result
    c.is_range-then-is_range.result c.in-Range.is seen c.is_range.ensures c.is_range-then-is_range.ensures

pub returns-else-is_range : goal.returns-else-is_range
returns-else-is_range g c s sees seen =
    range_not_kinded (g.C.Catalogue.extensions c.args.catalogue.now) (view s) c.args.command.now c.args.named.now c.in-Range.relation c.in-Range.name c.in-Range.low c.in-Range.high c.is_range.result
    c.in-Range.is seen c.is_range.ensures c.if-is_range.false
