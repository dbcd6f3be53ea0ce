use Rattle.std.proofs.Common.{◌∙◌, false, not, sym, ap}
use Rattle.sb_opening.specs.declared.codes.Named.{Named}
use Rattle.sb_opening.proofs.BoxLemmas.{first-found, none-more}
use Rattle.sb_opening.proofs.moving.absent.Goals as goal

pub returns-then-not-has_any : goal.returns-then-not-has_any
returns-then-not-has_any g c =
    let d : Named = record { method = false; code = 0 } in
    first-found (g.B.Boxes.meanings c.args.boxes.now) c.args.named.now c.loop-one.one-index d c.loop-one-test.true c.loop-one.invariant (ap not (sym c.has_any.ensures ∙ c.if-not-has_any.true))

pub loop-one-preserved : goal.loop-one-preserved
loop-one-preserved g c =
    let d : Named = record { method = false; code = 0 } in
    none-more (g.B.Boxes.meanings c.args.boxes.now) c.args.named.now c.loop-one.one-index d c.loop-one-test.true c.loop-one.invariant (ap not (sym c.has_any.ensures ∙ c.if-not-has_any.false))
