use Rattle.std.proofs.Common.{sym, ◌∙◌}
use Rattle.sb_value.specs.declared.schema.Column.{Column}
use Rattle.sb_refusals.proofs.Repeats.{stands_twice, stands_once}
use Rattle.sb_refusals.proofs.twice.first_column_twice.Goals as goal

pub loop-i-preserved : goal.loop-i-preserved
loop-i-preserved c =
    c.loop-i.invariant
    ∙ stands_once (λ (x : Column). x.name) c.args.columns.now c.loop-i.i c.index-columns-i.result c.loop-i-test.true c.index-columns-i.is c.if-has_column.ensures

pub returns-then-has_column : goal.returns-then-has_column
returns-then-has_column c =
    sym (c.loop-i.invariant
    ∙ stands_twice (λ (x : Column). x.name) c.args.columns.now c.loop-i.i c.index-columns-i.result c.loop-i-test.true c.index-columns-i.is c.if-has_column.ensures)
