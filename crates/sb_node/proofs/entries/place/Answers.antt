use Rattle.std.proofs.Common.{sym, ◌∙◌, ◌≡◌, arith, ap}
use Rattle.std.specs.Prelude.{Err}
use Rattle.sb_node.specs.Entries.{key_cmp}
use Rattle.sb_node.proofs.Placed.{Scans-begin, Scans-less, Scans-equal, Scans-on, Scans-end, Scans-inside}
use Rattle.sb_node.proofs.Runs.{form_size}
use Rattle.sb_node.proofs.entries.place.Goals as goal

pub get_u16-count-requires : goal.get_u16-count-requires
get_u16-count-requires c = omega (arith, form_size c.args.page.now c.requires)

pub loop-i-init : goal.loop-i-init
loop-i-init c = Scans-begin c.args.page.now c.args.key.now c.requires

pub key_of-mine-requires-clause-low : goal.key_of-mine-requires-clause-low
key_of-mine-requires-clause-low c = (Scans-inside c.args.page.now c.args.key.now c.loop-i.i c.loop-i.at c.requires (omega (arith, c.get_u16-count.ensures)) c.loop-i.invariant).low

pub key_of-mine-requires-clause-within : goal.key_of-mine-requires-clause-within
key_of-mine-requires-clause-within c = (Scans-inside c.args.page.now c.args.key.now c.loop-i.i c.loop-i.at c.requires (omega (arith, c.get_u16-count.ensures)) c.loop-i.invariant).within

pub returns-in-Less : goal.returns-in-Less
returns-in-Less c =
    Scans-less c.args.page.now c.args.key.now c.loop-i.i c.loop-i.at (omega (arith, c.get_u16-count.ensures)) (ap (key_cmp c.args.key.now) (sym c.key_of-mine.ensures) ∙ sym c.cmp.ensures ∙ c.in-Less.is) c.loop-i.invariant

pub returns-in-Equal : goal.returns-in-Equal
returns-in-Equal c =
    Scans-equal c.args.page.now c.args.key.now c.loop-i.i c.loop-i.at (omega (arith, c.get_u16-count.ensures)) (ap (key_cmp c.args.key.now) (sym c.key_of-mine.ensures) ∙ sym c.cmp.ensures ∙ c.in-Equal.is) c.loop-i.invariant

pub after_of-at-requires-clause-within : goal.after_of-at-requires-clause-within
after_of-at-requires-clause-within c = (Scans-inside c.args.page.now c.args.key.now c.loop-i.i c.loop-i.at c.requires (omega (arith, c.get_u16-count.ensures)) c.loop-i.invariant).low

pub after_of-at-requires-clause-low : goal.after_of-at-requires-clause-low
after_of-at-requires-clause-low c = (Scans-inside c.args.page.now c.args.key.now c.loop-i.i c.loop-i.at c.requires (omega (arith, c.get_u16-count.ensures)) c.loop-i.invariant).short

pub loop-i-preserved : goal.loop-i-preserved
loop-i-preserved c =
    rw c.after_of-at.ensures
    (Scans-on c.args.page.now c.args.key.now c.loop-i.i c.loop-i.at (omega (arith, c.get_u16-count.ensures)) (ap (key_cmp c.args.key.now) (sym c.key_of-mine.ensures) ∙ sym c.cmp.ensures ∙ c.in-Greater.is) c.loop-i.invariant)

pub returns : goal.returns
returns c =
    let all : c.get_u16-count.result ≡ c.loop-i.i = omega arith in
    ap Err all ∙ Scans-end c.args.page.now c.args.key.now c.loop-i.i c.loop-i.at (omega (arith, c.get_u16-count.ensures)) c.loop-i.invariant
