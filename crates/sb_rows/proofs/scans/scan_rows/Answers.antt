use Rattle.std.proofs.Common.{◌∙◌, ◌^◌, ◌≤◌, List, length, Option, IfSome, Ok, Err, All, arith, refl, sym, subst}
use Rattle.std.proofs.lemmas.List.Elements.{All-nil}
use Rattle.sb_relation.specs.Db.{Key, Row}
use Rattle.sb_treemethod.specs.MethodAnswers.{IsRowOf}
use Rattle.sb_rows.proofs.CallsLemmas.{Looks-damaged, Looks-later, Looks-made, Looks-no_memory, Looks-passed}
use Rattle.sb_rows.proofs.ScansLemmas.{All-more, IsMade-end, IsMade-few, IsMade-limit, IsMade-next, IsMade-none, length-more}
use Rattle.sb_registry.specs.Slots.{owned}
use Rattle.sb_rows.proofs.scans.scan_rows.Goals as goal

pub rows-init : goal.rows-init
rows-init g c = record {
  ready = c.requires.ready;
  leads = g.met.S.PageSpace.stays c.args.space.now;
  has = λ want s has. has;
  each = subst (λ (xs : List _). All (λ row. IsRowOf c.args.inst.now row.0 row.1) xs) (sym c.new-found.ensures.items) (All-nil (λ row. IsRowOf c.args.inst.now row.0 row.1));
  within = subst (λ (xs : List _). length xs ≤ c.args.limit) (sym c.new-found.ensures.items) (omega arith);
  made = λ want s rows has h. IsMade-none (λ row. row) (g.T.RowTest.passes c.args.test.now) rows c.args.low c.new-found.result.items c.new-found.ensures.items;
}

-- ---- one row more
pub rows-preserved : goal.rows-preserved
rows-preserved g c =
    let before = c.rows.invariant in
    let looks = c.in-Ok.ensures.looks in
    let row : Key × Row = (c.in-Some.key, c.in-Some.row) in
    let new = c.add_row.new.found.items in
    let more = c.in-Ok-add_row.ensures.added in
    record {
      ready = c.in-Ok.ensures.ready;
      leads = g.met.S.PageSpace.goes_on 0 0 c.args.space.now c.rows.space c.next_row.new.space before.leads looks.leads;
      has = λ want s has. looks.same want s (before.has want s has);
      each = All-more (λ row. IsRowOf c.args.inst.now row.0 row.1) c.rows.found.items new (row) c.passes-passed.result more before.each
          (subst (λ (o : Option (Key × Row)). IfSome o (λ r. IsRowOf c.args.inst.now r.0 r.1)) c.in-Some.is c.in-Ok.ensures.is_row);
      within = length-more c.rows.found.items new row c.passes-passed.result c.args.limit more before.within (omega (arith, c.if-len-limit.false, c.len.ensures));
      made = λ want s rows has h.
          let law = (h.live.law.formed c.args.inst.now (owned s c.args.inst.now.owner) rows h.holds).lawful in
          let next = c.in-Ok.ensures.row want s rows (before.has want s has) h in
          let made = IsMade-next (λ row. row) (g.T.RowTest.passes c.args.test.now) rows c.args.low c.rows.last c.rows.counter c.rows.found.items new row c.passes-passed.result law.rising
          (sym next ∙ c.in-Some.is) c.passes-passed.ensures more (before.made want s rows has h) in
          rw c.in-Ok-add_row.ensures.copy made;
    }

-- ---- a refusal
pub returns-in-Err-clause-looks : goal.returns-in-Err-clause-looks
returns-in-Err-clause-looks g c =
    let fault = c.in-Err.fault in
    Looks-passed g.S.PageSpace.has g.S.PageSpace.leads g.S.PageSpace.fails c.args.space.now c.next_row.new.space _ fault refl
    (Looks-later g.S.PageSpace.has g.S.PageSpace.leads g.S.PageSpace.fails c.args.space.now c.rows.space c.next_row.new.space (Err fault) g.met.S.PageSpace.goes_on g.met.S.PageSpace.fails_on c.rows.invariant.leads c.rows.invariant.has c.in-Err.ensures.looks)

pub returns-in-Err-clause-undamaged : goal.returns-in-Err-clause-undamaged
returns-in-Err-clause-undamaged g c = λ want s rows has h. c.in-Err.ensures.undamaged want s rows (c.rows.invariant.has want s has) h

pub returns-in-Err-add_row-clause-looks : goal.returns-in-Err-add_row-clause-looks
returns-in-Err-add_row-clause-looks g c =
    let looks = c.in-Ok.ensures.looks in
    Looks-no_memory g.S.PageSpace.has g.S.PageSpace.leads g.S.PageSpace.fails c.args.space.now c.next_row.new.space _ refl
    (g.met.S.PageSpace.goes_on 0 0 c.args.space.now c.rows.space c.next_row.new.space c.rows.invariant.leads looks.leads) (λ want s has. looks.same want s (c.rows.invariant.has want s has))

-- ---- the end
pub returns-in_default-clause-looks : goal.returns-in_default-clause-looks
returns-in_default-clause-looks g c =
    Looks-made g.S.PageSpace.has g.S.PageSpace.leads g.S.PageSpace.fails c.args.space.now c.next_row.new.space c.in-Ok.next _ (Looks-later g.S.PageSpace.has g.S.PageSpace.leads g.S.PageSpace.fails c.args.space.now c.rows.space c.next_row.new.space (Ok c.in-Ok.next) g.met.S.PageSpace.goes_on g.met.S.PageSpace.fails_on c.rows.invariant.leads c.rows.invariant.has c.in-Ok.ensures.looks)

pub returns-in_default-clause-rows : goal.returns-in_default-clause-rows
returns-in_default-clause-rows g c = λ want s rows has h.
    let next = c.in-Ok.ensures.row want s rows (c.rows.invariant.has want s has) h in
    IsMade-end (g.T.RowTest.passes c.args.test.now) rows c.args.low c.rows.last c.rows.counter c.args.limit c.rows.found.items c.rows.invariant.within (sym next ∙ c.in_default.is) (c.rows.invariant.made want s rows has h)

-- ---- more rows than there are
pub returns-clause-looks : goal.returns-clause-looks
returns-clause-looks g c = Looks-damaged g.S.PageSpace.has g.S.PageSpace.leads g.S.PageSpace.fails c.args.space.now c.rows.space c.args.inst.now.root c.rows.invariant.leads c.rows.invariant.has

pub returns-clause-undamaged : goal.returns-clause-undamaged
returns-clause-undamaged g c = λ want s rows has h.
    let law = (h.live.law.formed c.args.inst.now (owned s c.args.inst.now.owner) rows h.holds).lawful in
    IsMade-few (λ row. row) (g.T.RowTest.passes c.args.test.now) rows c.args.low c.rows.last c.rows.counter (2 ^ 48) c.rows.found.items law.few (omega arith) (c.rows.invariant.made want s rows has h)

-- ---- as many as are wanted
pub returns-then-len-limit-clause-rows : goal.returns-then-len-limit-clause-rows
returns-then-len-limit-clause-rows g c = λ want s rows has h.
    IsMade-limit (g.T.RowTest.passes c.args.test.now) rows c.args.low c.rows.last c.rows.counter c.args.limit c.rows.found.items (omega (arith, c.if-len-limit.true, c.len.ensures)) (c.rows.invariant.made want s rows has h)

pub returns-then-len-limit-clause-looks : goal.returns-then-len-limit-clause-looks
returns-then-len-limit-clause-looks g c = record { same = c.rows.invariant.has; leads = c.rows.invariant.leads; fault = tt; refused = tt }
