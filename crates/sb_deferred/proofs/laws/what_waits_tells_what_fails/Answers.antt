use Rattle.sb_deferred.proofs.ChangeLemmas.{changed-complete, changed-mirrored}
use Rattle.sb_deferred.proofs.CommitLemmas.{first-complete, nothing-fails, nothing-fails-at-all}
use Rattle.sb_deferred.proofs.FailingLemmas.{entry-fails, mirrors-alike}
use Rattle.sb_deferred.proofs.laws.what_waits_tells_what_fails.Goals as goal

pub returns : goal.returns
returns c = record {
  at_first = first-complete;
  after_a_change = changed-complete;
  mirrors = changed-mirrored;
  nothing_fails = nothing-fails;
  nothing_at_all = nothing-fails-at-all;
  an_entry_fails = entry-fails;
  mirrors_alike = mirrors-alike;
}
