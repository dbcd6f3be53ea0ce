use Rattle.std.proofs.Common.{◌≡◌, ◌<◌, [], refl, sym, subst, rules}
use Rattle.std.proofs.lemmas.List.Elements.{All-push}
use Rattle.sb_drive.specs.Slots.{IsPage, Slot}
use Rattle.sb_memory.specs.Writes.{AreAmong, ArePagesTo}
use Rattle.sb_memory.specs.declared.slots.Write.{Write}
use Rattle.sb_halves_tests.proofs.memory.filling.Goals as goal

pub loop-number-preserved : goal.loop-number-preserved
loop-number-preserved g c =
    let old = c.loop-number.writes.items in
    let w : Write = record { number = c.loop-number.number; slot = c.new-slot.result } in
    let slot : ◌≡◌ {A = Slot} c.new-slot.result (c.args.owner, []) = search rules in
    record {
      among = subst (AreAmong 16384) (sym (rw c.expect.ensures at c.push.ensures.items)) (All-push (λ x. x.number < 16384) old w c.loop-number.invariant.among c.loop-number-test.true);
      whole = subst ArePagesTo (sym (rw c.expect.ensures at c.push.ensures.items)) (All-push (λ x. IsPage x.slot) old w c.loop-number.invariant.whole (subst IsPage (sym slot) (λ some. absurd (some refl))));
    }
