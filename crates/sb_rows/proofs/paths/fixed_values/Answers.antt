use Rattle.sb_rows.proofs.PathLemmas.{values_in-more}
use Rattle.sb_rows.proofs.paths.fixed_values.Goals as goal

pub loop-name-preserved : goal.loop-name-preserved
loop-name-preserved g c = λ row is.
    let schema = c.args.inst.now.schema in
    values_in-more schema row c.as_slice-name-items.result.now c.loop-name.name-index c.name-item.result c.in-Some.value.now c.in_ok-copy.field-0 c.loop-name.values.items c.push.new.self.items
    c.name-item.is c.loop-name-test.true (c.in-Some.ensures schema c.requires.over row is) c.in_ok-copy.ensures c.in_ok-push.ensures.items (c.loop-name.invariant row is)
