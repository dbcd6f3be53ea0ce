use Rattle.std.proofs.Common.{◌∙◌, Option, IfSome, sym, ap, subst}
use Rattle.sb_relation.specs.Db.{Row, row_at}
use Rattle.sb_relation.specs.Lawful.{IsRow}
use Rattle.sb_registry.specs.Slots.{owned}
use Rattle.sb_registry.proofs.SpacesLemmas.{IfErr-passed}
use Rattle.sb_registry.specs.SpaceFault.TheVariants.{NoMemory}
use Rattle.sb_rows.proofs.CallsLemmas.{Looks-made, Looks-no_memory, Looks-passed}
use Rattle.sb_rows.proofs.PlacingsLemmas.{IsRow-ended, IsRowOrNone-ended, tuple_in-answered}
use Rattle.sb_rows.proofs.lookups.get_row.Goals as goal

pub tuple_in-requires : goal.tuple_in-requires
tuple_in-requires g c = IsRowOrNone-ended c.args.inst.now c.in_ok-copy.copy c.in_ok-made.made c.in_ok-made.ensures.may c.in_ok-made.ensures.ends

pub returns-in_err-copy-clause-looks : goal.returns-in_err-copy-clause-looks
returns-in_err-copy-clause-looks g c =
    Looks-no_memory g.S.PageSpace.has g.S.PageSpace.leads g.S.PageSpace.fails c.args.space.now c.args.space.now c.from_residual.result c.from_residual.ensures.1 (g.met.S.PageSpace.stays c.args.space.now) (λ want s has. has)

pub returns-in_err-copy-clause-undamaged : goal.returns-in_err-copy-clause-undamaged
returns-in_err-copy-clause-undamaged g c = IfErr-passed c.from_residual.result NoMemory _ c.from_residual.ensures.1 (λ want s rows has h. tt)

pub returns-in_err-made-clause-looks : goal.returns-in_err-made-clause-looks
returns-in_err-made-clause-looks g c =
    Looks-passed g.S.PageSpace.has g.S.PageSpace.leads g.S.PageSpace.fails c.args.space.now c.run_method.new.space c.from_residual-in_err-made.result c.in_err-made.field-0.0 c.from_residual-in_err-made.ensures.1 (c.in_err-made.ensures.looks tt)

pub returns-in_err-made-clause-undamaged : goal.returns-in_err-made-clause-undamaged
returns-in_err-made-clause-undamaged g c =
    IfErr-passed c.from_residual-in_err-made.result c.in_err-made.field-0.0 _ c.from_residual-in_err-made.ensures.1 (λ want s rows has h. (c.in_err-made.ensures.runs h.live).sound want s rows has h.holds)

pub returns-clause-row : goal.returns-clause-row
returns-clause-row g c = λ want s rows has h.
    let owner = c.args.inst.now.owner in
    let left = (c.in_ok-made.ensures.runs h.live).answers want s has in
    let is = IsRowOrNone-ended c.args.inst.now c.in_ok-copy.copy c.in_ok-made.made c.in_ok-made.ensures.may c.in_ok-made.ensures.ends in
    c.tuple_in.ensures ∙ tuple_in-answered h.live.box c.args.inst.now c.in_ok-copy.copy (owned s owner) (owned left.slots owner) rows c.in_ok-made.made is left.own h.holds
    ∙ ap (row_at rows) c.in_ok-copy.ensures

pub returns-clause-is_row : goal.returns-clause-is_row
returns-clause-is_row g c =
    subst (λ (x : Option Row). IfSome x (IsRow c.args.inst.now.schema)) (sym c.tuple_in.ensures) (IsRow-ended c.args.inst.now c.in_ok-copy.copy c.in_ok-made.made c.in_ok-made.ensures.may)

pub returns-clause-looks : goal.returns-clause-looks
returns-clause-looks g c = Looks-made g.S.PageSpace.has g.S.PageSpace.leads g.S.PageSpace.fails c.args.space.now c.run_method.new.space c.in_ok-made.made c.tuple_in.result (c.in_ok-made.ensures.looks tt)
