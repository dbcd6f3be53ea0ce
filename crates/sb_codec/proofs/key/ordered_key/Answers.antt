use Rattle.std.proofs.Common.{[]}
use Rattle.sb_value.specs.Code.{value_code}
use Rattle.sb_codec.specs.Kinds.{IsProper}
use Rattle.sb_codec.proofs.Rows.{spelled_more}
use Rattle.sb_codec.proofs.key.ordered_key.Goals as goal

pub loop-value-preserved : goal.loop-value-preserved
loop-value-preserved c =
    let more = spelled_more IsProper value_code c.as_slice-value-items.result.now c.loop-value.value-index c.value-item.result []
    c.loop-value.out.items c.put_code.new.out.items c.value-item.is c.loop-value-test.true c.loop-value.invariant.proper c.in_ok-put_code.ensures.proper
    c.loop-value.invariant.code c.in_ok-put_code.ensures.code in
    record { code = more.0; proper = more.1 }
