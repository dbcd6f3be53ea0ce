use Rattle.std.proofs.Common.{sym}
use Rattle.sb_standing.proofs.CallsLemmas.{Looks-later}
use Rattle.sb_deferred.proofs.CommitLemmas.{nothing-fails-at-all}
use Rattle.sb_standing.specs.Tables.{db_of}
use Rattle.sb_engine.specs.Working.{extensions_of}
use Rattle.sb_engine.proofs.failing.first_failing.Goals as goal

pub returns-then-branch-clause-looks : goal.returns-then-branch-clause-looks
returns-then-branch-clause-looks g c =
    let first = c.in_ok-some_entry_fails.ensures.looks in
    Looks-later g.S.PageSpace.has g.S.PageSpace.leads g.S.PageSpace.fails c.args.space.now c.some_entry_fails.new.space c.first_rule.new.space c.first_rule.result g.met.S.PageSpace.goes_on g.met.S.PageSpace.fails_on
    first.leads first.same c.first_rule.ensures.looks

-- no entry fails
pub returns-clause-found : goal.returns-clause-found
returns-clause-found g c = λ want s gone kept has keeps mirrored complete.
    sym (nothing-fails-at-all (extensions_of (g.B.Boxes.meanings c.args.boxes.now)) (db_of kept) c.args.queue.now keeps.tables.rising mirrored complete
    (c.in_ok-some_entry_fails.ensures.none want s gone kept has keeps c.if-branch.false))
