use Rattle.std.proofs.Common.{◌^◌, length, ap, arith}
use Rattle.std.specs.List.{flat_map}
use Rattle.sb_value.specs.Code.{value_code}
use Rattle.sb_codec.proofs.Rows.{part_below}
use Rattle.sb_codec.proofs.length.key_len.Goals as goal

pub code_len-len-requires : goal.code_len-len-requires
code_len-len-requires c =
    let items = c.as_slice-value-items.result.now in
    let whole = ap (λ l. length (flat_map value_code l)) c.as_slice-value-items.ensures in
    let part = part_below value_code items c.loop-value.value-index (2 ^ 32) c.value-item.result (omega arith) c.loop-value-test.true c.value-item.is in
    omega arith

pub overflow_add-len : goal.overflow_add-len
overflow_add-len c =
    let items = c.as_slice-value-items.result.now in
    let whole = ap (λ l. length (flat_map value_code l)) c.as_slice-value-items.ensures in
    let part = part_below value_code items c.loop-value.value-index (2 ^ 32) c.value-item.result (omega arith) c.loop-value-test.true c.value-item.is in
    omega arith
