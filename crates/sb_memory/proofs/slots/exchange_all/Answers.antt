use Rattle.std.proofs.Common.{length, get_or, set, subst, sym, ◌∙◌, arith}
use Rattle.std.proofs.lemmas.List.{length-set}
use Rattle.std.proofs.lemmas.List.Elements.{All-get_or}
use Rattle.sb_memory.specs.Contents.{slots}
use Rattle.sb_drive.specs.Slots.{IsPage, AreWhole}
use Rattle.sb_memory.specs.Writes.{AreAmong}
use Rattle.sb_memory.proofs.WritesLemmas.{written-more, undone-more, AreAmong-more, ArePagesTo-more}
use Rattle.sb_memory.proofs.WholeLemmas.{AreWhole-with_slot}
use Rattle.sb_memory.proofs.slots.exchange_all.Goals as goal

pub loop-write-preserved : goal.loop-write-preserved
loop-write-preserved c =
    let ws = c.loop-write.writes in
    let i = c.loop-write.write-index in
    let w = c.write-item.result in
    let s = slots c.loop-write.pages in
    let after = slots c.exchange.new.pages in
    let new = c.exchange.new.write in
    record {
      rest = written-more ws i w new s after (omega arith) c.exchange.ensures.pages ∙ c.loop-write.invariant.rest;
      back = undone-more ws i w new s after (omega arith) c.exchange.ensures.pages c.exchange.ensures.back ∙ c.loop-write.invariant.back;
      among = subst (λ n. AreAmong n (set ws i new)) (sym c.exchange.ensures.len)
          (AreAmong-more (length c.loop-write.pages) ws i w new s (omega arith) c.exchange.ensures.back c.loop-write.invariant.among);
      len = c.exchange.ensures.len ∙ c.loop-write.invariant.len;
      whole = λ before pages.
          let now = c.loop-write.invariant.whole before pages in
          let old = get_or ws i w in (
            subst AreWhole (sym c.exchange.ensures.pages) (AreWhole-with_slot old.number old.slot s (All-get_or (λ x. IsPage x.slot) ws i w (omega arith) now.1) now.0),
            ArePagesTo-more ws i w new s (omega arith) c.exchange.ensures.back now.0 now.1,
          );
      as_many = length-set ws i new ∙ c.loop-write.invariant.as_many;
    }
