use Rattle.std.proofs.Common.{List, false, slice_index_or, take, sym, subst}
use Rattle.std.proofs.lemmas.List.{take_more}
use Rattle.sb_opening.specs.declared.codes.Named.{Named}
use Rattle.sb_opening.specs.Naming.{HasLive}
use Rattle.sb_opening.proofs.BoxLemmas.{HasLive-next}
use Rattle.sb_opening.proofs.moving.make_live.Goals as goal

pub loop-one-preserved : goal.loop-one-preserved
loop-one-preserved g c =
    let d : Named = record { method = false; code = 0 } in
    let old = g.B.Boxes.meanings c.args.boxes.now in
    let new = g.B.Boxes.meanings c.register.new.self in
    let i = c.loop-one.one-index in
    let named = c.args.named.now in
    subst (λ (ns : List Named). HasLive old ns new) (sym (take_more named i d c.loop-one-test.true))
    (HasLive-next old (g.B.Boxes.meanings c.loop-one.boxes) new (take i named) (slice_index_or named i d) c.loop-one.invariant c.in_ok-register.ensures.unique c.in_ok-register.field-0 c.in_ok-register.ensures.ok)
