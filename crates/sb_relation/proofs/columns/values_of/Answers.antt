use Rattle.std.proofs.Common.{Option, Some, None, sym, ◌∙◌, ap, arith}
use Rattle.sb_value.specs.declared.value.Value.{Value}
use Rattle.std.specs.Option.{option_copied}
use Rattle.std.proofs.lemmas.List.{append-nil}
use Rattle.sb_relation.proofs.ValuesIn.{values_in-more}
use Rattle.sb_relation.proofs.columns.values_of.Goals as goal
use Rattle.sb_relation.proofs.columns.values_of.Goals.{in-Some+in_ok-copy+in_ok-push, in_default}

pub loop-name-preserved : goal.loop-name-preserved
loop-name-preserved c =
    let more = λ (o : Option Value). values_in-more c.args.schema.now c.args.row.now c.as_slice-name-items.result.now c.loop-name.name-index c.name-item.result o
    c.loop-name-test.true c.name-item.is in
    elim c.match-column_value.branch [
      | in-Some+in_ok-copy+in_ok-push w ↦
          let here = more (Some w.in-Some.value.now) (sym c.column_value.ensures ∙ ap option_copied w.in-Some.is) in
          grind (arith, here, w.values-is, w.in_ok-push.ensures.items, w.in_ok-copy.ensures, c.loop-name.invariant)
      | in_default w ↦
          let none = more None (sym c.column_value.ensures ∙ ap option_copied w.in_default.is) in
          grind (arith, append-nil, none, w.values-is, c.loop-name.invariant)
    ]
