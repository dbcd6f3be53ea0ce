use Rattle.std.proofs.Common.{◌∙◌, List, ap, arith}
use Rattle.std.specs.Option.{option_copied}
use Rattle.sb_value.specs.declared.value.Value.{Value}
use Rattle.sb_relation.specs.Db.{Name}
use Rattle.sb_asking.specs.Finds.{value_at}
use Rattle.sb_asking.proofs.ValuesLemmas.{value_at-fixed}
use Rattle.sb_asking.proofs.finds.ValueTestRowTest.fixed.Goals as goal

pub returns : goal.returns
returns c =
    let test = c.args.self.now in
    value_at-fixed test.schema.now test.columns.now test.values.now c.args.name.now (option_copied c.value_at.result)
    (omega (arith, c.if-len.false, c.len.ensures, c.len-2.ensures))
    (c.value_at.ensures ∙ ap (λ (l : List Name). value_at l c.as_slice-2.result.now c.args.name.now) c.as_slice.ensures
    ∙ ap (λ (l : List Value). value_at test.columns.now l c.args.name.now) c.as_slice-2.ensures)
