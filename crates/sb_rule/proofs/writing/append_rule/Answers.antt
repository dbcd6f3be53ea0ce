use Rattle.std.proofs.lemmas.Result.{on_ok_weaker}
use Rattle.sb_rule.proofs.writing.append_rule.Goals as goal

pub returns-in-JoinIndex-clause-storable : goal.returns-in-JoinIndex-clause-storable
returns-in-JoinIndex-clause-storable c =
    on_ok_weaker c.append_join_index.result (λ stored. rw c.in-JoinIndex.is stored) c.append_join_index.ensures.storable

pub returns-in-Refers-clause-storable : goal.returns-in-Refers-clause-storable
returns-in-Refers-clause-storable c =
    on_ok_weaker c.append_refers.result (λ stored. rw c.in-Refers.is stored) c.append_refers.ensures.storable
