use Rattle.std.proofs.Common.{arith}
use Rattle.std.proofs.lemmas.List.{length_push}
use Rattle.std.proofs.lemmas.List.Elements.{All-push}
use Rattle.sb_catalog.specs.Descriptors.{attached_spelling, IsStorableAttached}
use Rattle.sb_rule.proofs.Fronts.{no_more}
use Rattle.sb_catalog.proofs.Parts.{attached_front}
use Rattle.sb_rule.proofs.Lists.{item_read}
use Rattle.sb_catalog.proofs.reading.take_attachments.Goals as goal

pub returns-in_default : goal.returns-in_default
returns-in_default c x rest fits e =
    let none = rw c.in_default.is at c.in_ok-attached.ensures in
    no_more IsStorableAttached attached_spelling attached_front c.loop.attachments.items x c.args.bytes.now c.loop.rest.now rest (omega (arith, fits.0)) c.loop.invariant.storable fits.1 none c.loop.invariant.spelled e

pub loop-preserved : goal.loop-preserved
loop-preserved c =
    let items = c.loop.attachments.items in
    let found = rw c.in-Some.is at c.in_ok-attached.ensures in
    rw c.in_ok-push.ensures.items record {
      counted = omega (arith, length_push items c.in-Some.attached);
      storable = All-push IsStorableAttached items c.in-Some.attached c.loop.invariant.storable found.0;
      spelled = item_read attached_spelling items c.in-Some.attached c.args.bytes.now c.loop.rest.now c.in-Some.after.now c.loop.invariant.spelled found.1;
    }

pub returns : goal.returns
returns c = rw c.from_vec.ensures ((omega arith, c.loop.invariant.storable), c.loop.invariant.spelled)
