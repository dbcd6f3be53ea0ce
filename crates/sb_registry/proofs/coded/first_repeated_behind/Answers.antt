use Rattle.std.proofs.Common.{refl, true, false, sym, ◌∙◌}
use Rattle.sb_registry.proofs.CodesLemmas.{next_turn}
use Rattle.sb_registry.proofs.coded.first_repeated_behind.Goals as goal
use Rattle.sb_registry.proofs.coded.first_repeated_behind.Goals.{then-has_code-via-then-has_code, then-has_code-via-else-has_code+then-has_code-2}

pub returns-then-has_code : goal.returns-then-has_code
returns-then-has_code g c =
    elim c.then-has_code.branch [
      | then-has_code-via-then-has_code w ↦
          sym (next_turn g.B.Coded.code_of c.args.front.now c.args.boxes.now c.loop-i.i c.index-boxes-i.result c.own_code-code.result true _
          c.loop-i-test.true c.index-boxes-i.is c.own_code-code.ensures (sym w.if-has_code.true ∙ c.has_code.ensures) refl)
          ∙ c.loop-i.invariant
      | then-has_code-via-else-has_code+then-has_code-2 w ↦
          sym (next_turn g.B.Coded.code_of c.args.front.now c.args.boxes.now c.loop-i.i c.index-boxes-i.result c.own_code-code.result false true
          c.loop-i-test.true c.index-boxes-i.is c.own_code-code.ensures (sym w.if-has_code.false ∙ c.has_code.ensures) (sym w.if-has_code-2.true ∙ w.has_code-else-has_code.ensures))
          ∙ c.loop-i.invariant
    ]

pub loop-i-preserved : goal.loop-i-preserved
loop-i-preserved g c =
    sym (next_turn g.B.Coded.code_of c.args.front.now c.args.boxes.now c.loop-i.i c.index-boxes-i.result c.own_code-code.result false false
    c.loop-i-test.true c.index-boxes-i.is c.own_code-code.ensures (sym c.if-has_code.false ∙ c.has_code.ensures) (sym c.if-has_code-2.false ∙ c.has_code-else-has_code.ensures))
    ∙ c.loop-i.invariant
