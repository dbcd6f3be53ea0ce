use Rattle.sb_deferred.proofs.CatalogLemmas.{more-complete, with-relation-complete, with-rule-complete, without-rule-complete, without-relation-complete}
use Rattle.sb_deferred.proofs.laws.what_comes_and_goes_tells_no_less.Goals as goal

pub returns : goal.returns
returns c = record {
  more = more-complete;
  actions = λ db q actions complete. complete;
  a_relation = with-relation-complete;
  a_rule = with-rule-complete;
  without_a_rule = without-rule-complete;
  without_a_relation = without-relation-complete;
}
