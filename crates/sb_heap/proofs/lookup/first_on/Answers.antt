use Rattle.std.proofs.Common.{◌≡◌, Option, Some, option_map, sym, ap, ◌∙◌, inr, refl}
use Rattle.sb_relation.specs.Db.{Key}
use Rattle.sb_node.specs.Entries.{Entry}
use Rattle.sb_node.specs.Page.{node_in}
use Rattle.sb_node.specs.Walk.{entries_left}
use Rattle.sb_ctx.specs.MethodAnswers.{is_above}
use Rattle.sb_heap.specs.Scans.{first_above}
use Rattle.sb_heap.proofs.Scanning.{first_here, entry_amiss, long_record, misspelled_record}
use Rattle.sb_heap.proofs.lookup.first_on.Goals as goal

pub returns-in-Some-3 : goal.returns-in-Some-3
returns-in-Some-3 c =
    let own = rw c.in-Some.is at c.in_ok-bytes.ensures.ok in
    let low : Option Key = option_map (λ key. key.now) c.args.low in
    let row = rw c.in-Some-3.is at c.in_ok-row.ensures in
    let e : Entry = (c.in-Some-2.slot.now, c.in-Some-2.value.now) in
    let start : first_above c.args.page low (entries_left c.into_iter-slot-iterator.result) ≡ first_above c.args.page low (node_in c.in-Some.bytes.now).entries =
    ap (first_above c.args.page low) (ap entries_left c.into_iter-slot-iterator.ensures.into_iter_gives ∙ c.new-slot-items.ensures) in
    record {
      own = record { bytes = c.in-Some.bytes.now; head = c.in-Some._head; some = own.0; low = own.1; is = own.2 };
      slot = e.0;
      value = e.1;
      entry = sym start ∙ sym c.loop-slot.invariant.rest ∙ ap (first_above c.args.page low) c.in-Some-2.ensures.steps
          ∙ first_here c.args.page low e (entries_left c.next.new.self) (sym (ap (is_above low) c.in_ok-key.ensures) ∙ sym c.is_behind.ensures ∙ c.if-is_behind.true);
      slot_long = c.if-slot-ne-SLOT_SIZE.false;
      key_is = c.in_ok-key.ensures;
      row_is = row.0;
      value_is = row.1;
    }

pub returns-in-None-2 : goal.returns-in-None-2
returns-in-None-2 c =
    let own = rw c.in-Some.is at c.in_ok-bytes.ensures.ok in
    let low : Option Key = option_map (λ key. key.now) c.args.low in
    let e : Entry = (c.in-Some-2.slot.now, c.in-Some-2.value.now) in
    let start : first_above c.args.page low (entries_left c.into_iter-slot-iterator.result) ≡ first_above c.args.page low (node_in c.in-Some.bytes.now).entries =
    ap (first_above c.args.page low) (ap entries_left c.into_iter-slot-iterator.ensures.into_iter_gives ∙ c.new-slot-items.ensures) in
    let found : first_above c.args.page low (node_in c.in-Some.bytes.now).entries ≡ Some e =
    sym start ∙ sym c.loop-slot.invariant.rest ∙ ap (first_above c.args.page low) c.in-Some-2.ensures.steps
    ∙ first_here c.args.page low e (entries_left c.next.new.self) (sym (ap (is_above low) c.in_ok-key.ensures) ∙ sym c.is_behind.ensures ∙ c.if-is_behind.true) in
    inr (
      refl,
      record {
        own = record { bytes = c.in-Some.bytes.now; head = c.in-Some._head; some = own.0; low = own.1; is = own.2 };
        amiss = entry_amiss c.args.ctx.now c.args.inst.now.schema c.args.page low c.in-Some.bytes.now e own.2.held_is own.2.form found (misspelled_record c.args.inst.now.schema e (rw c.in-None-2.is at c.in_ok-row.ensures));
      },
    )

pub returns-then-slot-ne-SLOT_SIZE : goal.returns-then-slot-ne-SLOT_SIZE
returns-then-slot-ne-SLOT_SIZE c =
    let own = rw c.in-Some.is at c.in_ok-bytes.ensures.ok in
    let low : Option Key = option_map (λ key. key.now) c.args.low in
    let e : Entry = (c.in-Some-2.slot.now, c.in-Some-2.value.now) in
    let start : first_above c.args.page low (entries_left c.into_iter-slot-iterator.result) ≡ first_above c.args.page low (node_in c.in-Some.bytes.now).entries =
    ap (first_above c.args.page low) (ap entries_left c.into_iter-slot-iterator.ensures.into_iter_gives ∙ c.new-slot-items.ensures) in
    let found : first_above c.args.page low (node_in c.in-Some.bytes.now).entries ≡ Some e =
    sym start ∙ sym c.loop-slot.invariant.rest ∙ ap (first_above c.args.page low) c.in-Some-2.ensures.steps
    ∙ first_here c.args.page low e (entries_left c.next.new.self) (sym (ap (is_above low) c.in_ok-key.ensures) ∙ sym c.is_behind.ensures ∙ c.if-is_behind.true) in
    inr (
      refl,
      record {
        own = record { bytes = c.in-Some.bytes.now; head = c.in-Some._head; some = own.0; low = own.1; is = own.2 };
        amiss = entry_amiss c.args.ctx.now c.args.inst.now.schema c.args.page low c.in-Some.bytes.now e own.2.held_is own.2.form found (long_record c.args.inst.now.schema e c.if-slot-ne-SLOT_SIZE.true);
      },
    )

pub returns : goal.returns
returns c =
    let own = rw c.in-Some.is at c.in_ok-bytes.ensures.ok in
    let low : Option Key = option_map (λ key. key.now) c.args.low in
    let start : first_above c.args.page low (entries_left c.into_iter-slot-iterator.result) ≡ first_above c.args.page low (node_in c.in-Some.bytes.now).entries =
    ap (first_above c.args.page low) (ap entries_left c.into_iter-slot-iterator.ensures.into_iter_gives ∙ c.new-slot-items.ensures) in
    inr (record {
      own = record { bytes = c.in-Some.bytes.now; head = c.in-Some._head; some = own.0; low = own.1; is = own.2 };
      none = sym start ∙ sym c.loop-slot.invariant.rest ∙ ap (first_above c.args.page low) c.in-None.ensures.steps.0;
    })
