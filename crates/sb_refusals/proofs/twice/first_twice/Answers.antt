use Rattle.std.proofs.Common.{[], sym, ap, ◌∙◌}
use Rattle.sb_plain.specs.Refusing.{first_again}
use Rattle.sb_relation.specs.Db.{Name}
use Rattle.sb_refusals.proofs.Repeats.{map_itself, stands_twice, stands_once, none_twice}
use Rattle.sb_refusals.proofs.twice.first_twice.Goals as goal

pub loop-i-init : goal.loop-i-init
loop-i-init c = sym (ap (first_again []) (map_itself c.args.names.now))

pub loop-i-preserved : goal.loop-i-preserved
loop-i-preserved c = c.loop-i.invariant ∙ stands_once (λ (n : Name). n) c.args.names.now c.loop-i.i c.index-names-i.result c.loop-i-test.true c.index-names-i.is c.if-has_name.ensures

pub returns-then-has_name : goal.returns-then-has_name
returns-then-has_name c = sym (c.loop-i.invariant ∙ stands_twice (λ (n : Name). n) c.args.names.now c.loop-i.i c.index-names-i.result c.loop-i-test.true c.index-names-i.is c.if-has_name.ensures)

pub returns : goal.returns
returns c = sym (c.loop-i.invariant ∙ none_twice (λ (n : Name). n) c.args.names.now c.loop-i.i c.loop-i-test.false)
