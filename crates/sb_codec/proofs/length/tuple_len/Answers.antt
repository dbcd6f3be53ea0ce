use Rattle.std.proofs.Common.{◌^◌, ◌-◌, length, ap, arith}
use Rattle.std.specs.List.{flat_map}
use Rattle.sb_value.specs.Spelling.{value_spelling}
use Rattle.sb_codec.proofs.Rows.{part_below}
use Rattle.sb_codec.proofs.length.tuple_len.Goals as goal

pub overflow_add-len : goal.overflow_add-len
overflow_add-len c =
    let items = c.as_slice-value-items.result.now in
    let whole = ap (λ l. length (flat_map value_spelling l)) c.as_slice-value-items.ensures in
    let fits = c.requires.fits in
    let part = part_below value_spelling items c.loop-value.value-index (2 ^ 32 - 1) c.value-item.result (omega arith) c.loop-value-test.true c.value-item.is in
    omega arith
