use Rattle.std.proofs.Common.{◌∙◌, arith, append_assoc}
use Rattle.sb_pred.specs.Spelling.{pred_spelling}
use Rattle.sb_pred.proofs.Found.{first_and_rest, no_second_pred, some_node, first_byte, no_compare, no_both, no_either, no_fails}
use Rattle.sb_pred.proofs.reading.+reader.Goals as goal

pub pair_of-returns-in_default-2 : goal.pair_of-returns-in_default-2
pair_of-returns-in_default-2 t c x rest fits e =
    let left = rw c.in-Some.is at c.in_ok-left.ensures in
    let right = rw c.in_default-2.is at c.in_ok-right.ensures in
    no_second_pred c.args.limit c.nodes.result _ _ _ left.0.0 left.0.1 c.ranges.limit.fits c.nodes.ensures left.1 right x.0 x.1 rest fits
    (e ∙ append_assoc (pred_spelling x.0) (pred_spelling x.1) rest)

pub pred_of-returns-in_default : goal.pred_of-returns-in_default
pred_of-returns-in_default t c x rest fits e =
    let front = first_byte x c.args.bytes.now rest e in
    omega (arith, front.0)

pub pred_of-returns-then-limit-eq0 : goal.pred_of-returns-then-limit-eq0
pred_of-returns-then-limit-eq0 t c x rest fits e = omega (arith, fits.1, some_node x)

pub pred_of-returns-in-None : goal.pred_of-returns-in-None
pred_of-returns-in-None t c x rest fits e =
    let none = rw c.in-None.is at c.in_ok-op-in-1.ensures in
    no_compare c.args.limit _ _ (first_and_rest _ 1 c.in-len1-up.len_at_least c.in-1.is) none x rest fits e

pub pred_of-returns-in-None-2 : goal.pred_of-returns-in-None-2
pred_of-returns-in-None-2 t c x rest fits e =
    let none = rw c.in-None-2.is at c.in_ok-left-in-2.ensures in
    no_both c.args.limit _ _ (first_and_rest _ 2 c.in-len1-up.len_at_least c.in-2.is) none x rest fits e

pub pred_of-returns-in-None-3 : goal.pred_of-returns-in-None-3
pred_of-returns-in-None-3 t c x rest fits e =
    let none = rw c.in-None-3.is at c.in_ok-left-in-3.ensures in
    no_either c.args.limit _ _ (first_and_rest _ 3 c.in-len1-up.len_at_least c.in-3.is) none x rest fits e

pub pred_of-returns-in-None-4 : goal.pred_of-returns-in-None-4
pred_of-returns-in-None-4 t c x rest fits e =
    let none = rw c.in-None-4.is at c.in_ok-inner-in-4.ensures in
    no_fails c.args.limit _ _ (first_and_rest _ 4 c.in-len1-up.len_at_least c.in-4.is) none x rest fits e

pub pred_of-returns-in_default-tag : goal.pred_of-returns-in_default-tag
pred_of-returns-in_default-tag t c x rest fits e =
    let front = first_byte x c.args.bytes.now rest e in
    omega (arith, front.1)
