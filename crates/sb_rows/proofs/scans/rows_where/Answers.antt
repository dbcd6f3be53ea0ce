use Rattle.std.proofs.Common.{◌≡◌, ◌∙◌, true, false, filter, take, Option, IfSome, sym, subst}
use Rattle.std.proofs.lemmas.Result.{IfOk-weaker}
use Rattle.sb_relation.specs.Db.{Key, Rows}
use Rattle.sb_registry.specs.Slots.{Slots}
use Rattle.sb_registry.specs.Spaces.{Wanted}
use Rattle.sb_rows.specs.Live.{HasRows}
use Rattle.sb_rows.specs.Paths.{FixesKey}
use Rattle.sb_rows.specs.Scans.{rows_above}
use Rattle.sb_rows.proofs.PathLemmas.{rows_above-fixed}
use Rattle.sb_rows.proofs.scans.rows_where.Goals as goal

-- the row of the key isn't wanted
pub returns-then-not-is_wanted-clause-rows : goal.returns-then-not-is_wanted-clause-rows
returns-then-not-is_wanted-clause-rows g c =
    let passes = g.T.RowTest.passes c.args.test.now in
    let inst = c.args.inst.now in
    let fixes = subst (λ (o : Option Key). IfSome o (FixesKey passes inst)) c.in-Some.is c.in_ok-key.ensures in
    λ want s rows has h.
    c.new.ensures.items
    ∙ sym (rows_above-fixed (g.B.Boxes.meanings c.args.boxes.now) s inst rows passes c.in-Some.key c.args.low c.args.limit false fixes h (sym c.is_wanted.ensures ∙ c.if-not-is_wanted.true))

-- it is
pub returns-clause-rows : goal.returns-clause-rows
returns-clause-rows g c =
    let m = g.B.Boxes.meanings c.args.boxes.now in
    let passes = g.T.RowTest.passes c.args.test.now in
    let inst = c.args.inst.now in
    let fixes = subst (λ (o : Option Key). IfSome o (FixesKey passes inst)) c.in-Some.is c.in_ok-key.ensures in
    IfOk-weaker c.rows_at.result _ (λ found. (want : Wanted) (s : Slots) (rows : Rows) → g.S.PageSpace.has want s c.args.space.now → HasRows m s inst rows → found.items ≡ take c.args.limit (filter (λ row. passes row.1) (rows_above c.args.low rows)))
    (λ found is want s rows has h.
    is want s rows has h
    ∙ sym (rows_above-fixed m s inst rows passes c.in-Some.key c.args.low c.args.limit true fixes h (sym c.is_wanted.ensures ∙ c.if-not-is_wanted.false)))
    c.rows_at.ensures.rows
