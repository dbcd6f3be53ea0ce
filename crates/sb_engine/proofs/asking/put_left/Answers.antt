use Rattle.std.proofs.Common.{◌≡◌, ℕ, List, OnOk, subst}
use Rattle.sb_rule.specs.declared.action.Action.{Action}
use Rattle.sb_engine.specs.Asking.{with_late}
use Rattle.sb_engine.proofs.asking.put_left.Goals as goal

pub returns-clause-put : goal.returns-clause-put
returns-clause-put c =
    let put = c.put_off-put.result in
    let new = c.put_off-put.new.queue in
    let old = c.args.queue.now in
    let relation = c.args.relation.now in
    subst (λ (l : List (List ℕ)). OnOk put (new ≡ with_late old relation c.args.name c.args.late l)) c.as_slice-2.ensures
    (subst (λ (l : List Action). OnOk put (new ≡ with_late old relation c.args.name l c.as_slice-2.result.now)) c.as_slice.ensures c.put_off-put.ensures.put)
