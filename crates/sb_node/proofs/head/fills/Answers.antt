use Rattle.std.proofs.Common.{sym, ◌∙◌, ap, ◌-◌, ◌+◌, arith}
use Rattle.std.specs.Option.{option_map}
use Rattle.sb_node.specs.Page.{is_above}
use Rattle.sb_node.proofs.Runs.{filled_past, filled_on, after_above}
use Rattle.sb_node.proofs.head.fills.Goals as goal

pub returns-then-at-end : goal.returns-then-at-end
returns-then-at-end c =
    sym (sym c.loop-entry.invariant.rest
    ∙ filled_past c.args.page.now c.args.end (option_map (λ k. k.now) c.loop-entry.last) (c.args.count - c.loop-entry._entry) (c.args.count - (c.loop-entry._entry + 1)) c.loop-entry.at (omega arith)
    (omega (arith, after_above c.args.page.now c.loop-entry.at)))

pub loop-entry-preserved : goal.loop-entry-preserved
loop-entry-preserved c =
    rw (c.key_of-key.ensures, c.after_of-after.ensures) (record {
      rest =
          sym (filled_on c.args.page.now c.args.end (option_map (λ k. k.now) c.loop-entry.last) (c.args.count - c.loop-entry._entry) (c.args.count - (c.loop-entry._entry + 1)) c.loop-entry.at (omega arith)
          (omega (arith, c.after_of-after.ensures)) (ap (is_above (option_map (λ k. k.now) c.loop-entry.last)) (sym c.key_of-key.ensures) ∙ sym c.may_follow.ensures ∙ c.if-not-may_follow.false))
          ∙ c.loop-entry.invariant.rest;
      low = omega (arith, c.after_of-after.ensures);
    })
