use Rattle.std.proofs.Common.{◌∙◌, [], Option, Err, option_map, sym, ap}
use Rattle.std.proofs.Common.{◌∷◌, ◌++◌, take}
use Rattle.std.specs.List.{cons_option, filter_map}
use Rattle.std.proofs.lemmas.List.{take_all, take_more}
use Rattle.sb_relation.specs.Db.{Row}
use Rattle.sb_relation.specs.Images.{Entry}
use Rattle.sb_reads.specs.Reads.{row_of}
use Rattle.sb_drive.proofs.SpacesLemmas.{IfErr-passed}
use Rattle.sb_rows.proofs.CallsLemmas.{Looks-later, Looks-no_memory, Looks-passed}
use Rattle.sb_reads.proofs.RowsLemmas.{rows_more}
use Rattle.sb_reads.proofs.indexes.rows_of.Goals as goal

pub returns-in_err-row-clause-undamaged : goal.returns-in_err-row-clause-undamaged
returns-in_err-row-clause-undamaged g c =
    IfErr-passed c.from_residual.result c.in_err-row.field-0.0 _ c.from_residual.ensures.1 (λ want s rows has h. c.in_err-row.ensures.undamaged want s rows (c.entries.invariant.has want s has) h)

pub returns-in_err-row-clause-looks : goal.returns-in_err-row-clause-looks
returns-in_err-row-clause-looks g c =
    let fault = c.in_err-row.field-0.0 in
    Looks-passed g.S.PageSpace.has g.S.PageSpace.leads g.S.PageSpace.fails c.args.space.now c.get_row.new.space c.from_residual.result fault c.from_residual.ensures.1
    (Looks-later g.S.PageSpace.has g.S.PageSpace.leads g.S.PageSpace.fails c.args.space.now c.entries.space c.get_row.new.space (Err fault) g.met.S.PageSpace.goes_on g.met.S.PageSpace.fails_on c.entries.invariant.leads c.entries.invariant.has c.in_err-row.ensures.looks)

pub returns-in_err-add_row-clause-looks : goal.returns-in_err-add_row-clause-looks
returns-in_err-add_row-clause-looks g c =
    let looks = c.in_ok-row.ensures.looks in
    Looks-no_memory g.S.PageSpace.has g.S.PageSpace.leads g.S.PageSpace.fails c.args.space.now c.get_row.new.space c.from_residual-in_err-add_row.result c.from_residual-in_err-add_row.ensures.1
    (g.met.S.PageSpace.goes_on 0 0 c.args.space.now c.entries.space c.get_row.new.space c.entries.invariant.leads looks.leads) (λ want s has. looks.same want s (c.entries.invariant.has want s has))

pub entries-preserved : goal.entries-preserved
entries-preserved g c =
    let before = c.entries.invariant in
    let looks = c.in_ok-row.ensures.looks in
    let es = c.args.entries.now in
    let i = c.entries.entry-index in
    let e : Entry = c.entry-item.result in
    let found = c.entries.found.items in
    record {
      ready = c.in_ok-row.ensures.ready;
      leads = g.met.S.PageSpace.goes_on 0 0 c.args.space.now c.entries.space c.get_row.new.space before.leads looks.leads;
      has = λ want s has. looks.same want s (before.has want s has);
      rows = λ want s rows has h.
          let row = c.in_ok-row.ensures.row want s rows (before.has want s has) h in
          let more = c.in_ok-add_row.ensures ∙ ap (λ (o : Option Row). found ++ cons_option (option_map (λ (r : Row). (e.1, r)) o) []) row in
          rows_more rows (take i es) e found c.add_row.new.found.items more (before.rows want s rows has h)
          ∙ ap (filter_map (row_of rows)) (sym (take_more es i e c.entries-test.true ∙ ap (λ (x : Entry). take i es ++ x ∷ []) (sym c.entry-item.is)));
    }

pub returns-clause-rows : goal.returns-clause-rows
returns-clause-rows g c = λ want s rows has h.
    c.entries.invariant.rows want s rows has h ∙ ap (filter_map (row_of rows)) (take_all c.entries.entry-index c.args.entries.now c.entries-test.false)
