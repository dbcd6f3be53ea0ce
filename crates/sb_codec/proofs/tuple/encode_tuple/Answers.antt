use Rattle.std.proofs.Common.{◌∷◌, [], length}
use Rattle.sb_value.specs.Spelling.{value_spelling, IsStorable}
use Rattle.sb_codec.proofs.Rows.{spelled_more}
use Rattle.sb_codec.proofs.tuple.encode_tuple.Goals as goal

pub loop-value-preserved : goal.loop-value-preserved
loop-value-preserved c =
    let more = spelled_more IsStorable value_spelling c.as_slice-values.result.now c.loop-value.value-index c.value-item.result (length c.args.t.now ∷ [])
    c.loop-value.out c.put_value.new.out c.value-item.is c.loop-value-test.true c.loop-value.invariant.storable c.in_ok-put_value.ensures.storable
    c.loop-value.invariant.spelled c.in_ok-put_value.ensures.ok in
    record { spelled = more.0; storable = more.1 }
