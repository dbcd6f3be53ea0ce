use Rattle.std.proofs.Common.{length}
use Rattle.sb_pred.specs.Spelling.{term_spelling, IsStorableTerm}
use Rattle.sb_rule.proofs.Lists.{item_written}
use Rattle.sb_rule.proofs.writing.append_terms.Goals as goal

pub loop-term-preserved : goal.loop-term-preserved
loop-term-preserved c =
    let more = item_written IsStorableTerm term_spelling c.as_slice-term-items.result.now c.loop-term.term-index (length c.args.terms.now) c.term-item.result c.args.out.now
    c.loop-term.out c.append_term.new.out c.term-item.is c.loop-term-test.true c.loop-term.invariant.storable c.in_ok-append_term.ensures.storable
    c.loop-term.invariant.written c.in_ok-append_term.ensures.ok in
    record { written = more.0; storable = more.1 }
