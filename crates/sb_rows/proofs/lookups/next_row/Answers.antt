use Rattle.std.proofs.Common.{◌∙◌, Option, IfSome, IsTrue, refl, sym, subst, true≢false}
use Rattle.sb_relation.specs.Db.{Key, Row}
use Rattle.sb_treemethod.specs.MethodAnswers.{IsRowOf, is_above}
use Rattle.sb_registry.specs.Slots.{owned}
use Rattle.sb_rows.proofs.CallsLemmas.{Looks-damaged, Looks-made, Looks-passed}
use Rattle.sb_rows.proofs.PlacingsLemmas.{IsRowOf-ended, IsRowOrEnd-ended, is_above-ended, is_move_above-found, row_in-answered}
use Rattle.sb_rows.proofs.lookups.next_row.Goals as goal

pub row_in-requires : goal.row_in-requires
row_in-requires g c = IsRowOrEnd-ended c.args.inst.now c.args.low c.in-Ok.made c.in-Ok.ensures.may c.in-Ok.ensures.ends

pub returns-in-Err-clause-looks : goal.returns-in-Err-clause-looks
returns-in-Err-clause-looks g c =
    Looks-passed g.S.PageSpace.has g.S.PageSpace.leads g.S.PageSpace.fails c.args.space.now c.run_method.new.space _ c.in-Err.fault refl (c.in-Err.ensures.looks tt)

pub returns-in-Err-clause-undamaged : goal.returns-in-Err-clause-undamaged
returns-in-Err-clause-undamaged g c =
    λ want s rows has h. (c.in-Err.ensures.runs h.live).sound want s rows has h.holds

-- ---- the row isn't above the key
pub returns-then-not-risen-clause-looks : goal.returns-then-not-risen-clause-looks
returns-then-not-risen-clause-looks g c =
    let looks = c.in-Ok.ensures.looks tt in
    Looks-damaged g.S.PageSpace.has g.S.PageSpace.leads g.S.PageSpace.fails c.args.space.now c.run_method.new.space c.args.inst.now.root looks.leads looks.same

pub returns-then-not-risen-clause-undamaged : goal.returns-then-not-risen-clause-undamaged
returns-then-not-risen-clause-undamaged g c = λ want s rows has h.
    let owner = c.args.inst.now.owner in
    let left = (c.in-Ok.ensures.runs h.live).answers want s has in
    let is = IsRowOrEnd-ended c.args.inst.now c.args.low c.in-Ok.made c.in-Ok.ensures.may c.in-Ok.ensures.ends in
    let row = row_in-answered h.live.box c.args.inst.now c.args.low (owned s owner) (owned left.slots owner) rows c.in-Ok.made is left.own h.holds in
    true≢false (sym (is_move_above-found c.args.low rows c.in-Ok.made row) ∙ sym c.is_risen-risen.ensures ∙ c.if-not-risen.true)

-- ---- the row, or the end
pub returns-clause-row : goal.returns-clause-row
returns-clause-row g c = λ want s rows has h.
    let owner = c.args.inst.now.owner in
    let left = (c.in-Ok.ensures.runs h.live).answers want s has in
    let is = IsRowOrEnd-ended c.args.inst.now c.args.low c.in-Ok.made c.in-Ok.ensures.may c.in-Ok.ensures.ends in
    c.row_in.ensures ∙ row_in-answered h.live.box c.args.inst.now c.args.low (owned s owner) (owned left.slots owner) rows c.in-Ok.made is left.own h.holds

pub returns-clause-is_row : goal.returns-clause-is_row
returns-clause-is_row g c =
    subst (λ (x : Option (Key × Row)). IfSome x (λ r. IsRowOf c.args.inst.now r.0 r.1)) (sym c.row_in.ensures) (IsRowOf-ended c.args.inst.now c.args.low c.in-Ok.made c.in-Ok.ensures.may)

pub returns-clause-above : goal.returns-clause-above
returns-clause-above g c =
    subst (λ (x : Option (Key × Row)). IfSome x (λ r. IsTrue (is_above c.args.low r.0))) (sym c.row_in.ensures)
    (is_above-ended c.args.low c.in-Ok.made (sym c.is_risen-risen.ensures ∙ c.if-not-risen.false))

pub returns-clause-looks : goal.returns-clause-looks
returns-clause-looks g c = Looks-made g.S.PageSpace.has g.S.PageSpace.leads g.S.PageSpace.fails c.args.space.now c.run_method.new.space c.in-Ok.made c.row_in.result (c.in-Ok.ensures.looks tt)
