use Rattle.std.proofs.lemmas.Result.{on_ok_weaker}
use Rattle.sb_rule.proofs.writing.append_action.Goals as goal

pub returns-in_ok-append_name-in-Delete-clause-storable : goal.returns-in_ok-append_name-in-Delete-clause-storable
returns-in_ok-append_name-in-Delete-clause-storable c =
    on_ok_weaker c.append_pairs.result (λ pairs. rw c.in-Delete.is (c.in_ok-append_name-in-Delete.ensures.storable, pairs)) c.append_pairs.ensures.storable

pub returns-in_ok-push-in-Set-clause-storable : goal.returns-in_ok-push-in-Set-clause-storable
returns-in_ok-push-in-Set-clause-storable c =
    on_ok_weaker c.append_assignment.result (λ parts. rw c.in-Set.is parts) c.append_assignment.ensures.storable

pub returns-in_ok-push-in-Add-clause-storable : goal.returns-in_ok-push-in-Add-clause-storable
returns-in_ok-push-in-Add-clause-storable c =
    on_ok_weaker c.append_assignment-in-Add.result (λ parts. rw c.in-Add.is parts) c.append_assignment-in-Add.ensures.storable
