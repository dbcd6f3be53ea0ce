use Rattle.std.proofs.Common.{◌+◌, ◌*◌, ◌≤◌}
use Rattle.sb_cascade.proofs.Acting.{Acting, Counting}
use Rattle.sb_cascade.proofs.changes.+changes.Given as goal

abbrev pub decreases-change : goal.decreases-change
decreases-change g l = 5 * l.levels

abbrev pub decreases-change_key : goal.decreases-change_key
decreases-change_key g l = 5 * l.levels + 1

abbrev pub decreases-change_each : goal.decreases-change_each
decreases-change_each g l = 5 * l.levels + 2

abbrev pub decreases-act : goal.decreases-act
decreases-act g l = 5 * l.levels + 3

abbrev pub decreases-act_all : goal.decreases-act_all
decreases-act_all g l = 5 * l.levels + 4

abbrev pub invariant-act_all-loop-action : goal.invariant-act_all-loop-action
invariant-act_all-loop-action g l = record {
  leads : g.L.Layer.leads l.fn.layer l.layer;
  ready : g.L.Layer.is_ready l.layer;
  acting : Acting g.L.Layer.stands (g.L.Layer.extensions l.fn.layer) l.levels l.actions l.fn.layer l.action-index l.layer;
}

abbrev pub invariant-change_each-loop-key : goal.invariant-change_each-loop-key
invariant-change_each-loop-key g l = record {
  leads : g.L.Layer.leads l.fn.layer l.layer;
  ready : g.L.Layer.is_ready l.layer;
  few : l.count ≤ l.key-index;
  counting : Counting g.L.Layer.stands (g.L.Layer.extensions l.fn.layer) l.levels l.action l.keys l.fn.layer l.key-index l.count l.layer;
}
