use Rattle.std.proofs.Common.{◌∙◌, length, Option, arith, sym, ap}
use Rattle.std.proofs.lemmas.Bool.{lt-leb}
use Rattle.sb_relation.specs.Db.{Row}
use Rattle.sb_rows.specs.Paths.{kept, rows_under}
use Rattle.sb_rows.proofs.PathLemmas.{rows-fixed, rows-long}
use Rattle.sb_rows.proofs.paths.passing_row.Goals as goal

-- the key is too long
pub returns-then-len-gt-LONGEST_KEY-clause-row : goal.returns-then-len-gt-LONGEST_KEY-clause-row
returns-then-len-gt-LONGEST_KEY-clause-row g c = λ want s rows has h.
    let key = c.args.key.now in
    rows-long (g.B.Boxes.meanings c.args.boxes.now) s c.args.inst.now rows (g.T.RowTest.passes c.args.test.now) key c.requires.fixed
    (lt-leb (length key) 200 (omega (arith, c.len.ensures, c.if-len-gt-LONGEST_KEY.true))) h

-- its row is tested
pub returns-clause-row : goal.returns-clause-row
returns-clause-row g c = λ want s rows has h.
    let key = c.args.key.now in
    let passes = g.T.RowTest.passes c.args.test.now in
    rows-fixed (g.B.Boxes.meanings c.args.boxes.now) s c.args.inst.now rows passes key c.requires.fixed h
    ∙ ap (λ (o : Option Row). rows_under key (kept passes o)) (sym (c.in_ok-row.ensures.row want s rows has h))
    ∙ ap (λ (o : Option Row). rows_under key o) (sym c.kept.ensures)
