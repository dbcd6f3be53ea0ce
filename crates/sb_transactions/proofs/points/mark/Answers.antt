use Rattle.std.proofs.Common.{refl, ◌∙◌}
use Rattle.sb_transactions.specs.declared.transactions.Point.{Point}
use Rattle.sb_transactions.proofs.PointLemmas.{IsNotBehind-mark, WasSo-mark}
use Rattle.sb_transactions.proofs.points.mark.Goals as goal

pub returns-clause-was : goal.returns-clause-was
returns-clause-was c = λ m place want g told size at.
    let point : Point = record { space = c.mark.result; queue = c.mark-2.result; done = c.args.transaction.now.work.done; gone = c.len.result } in
    WasSo-mark c.args.transaction.now.tx.store.number point (record { told = told; size = size; store = c.args.space.now.store }) c.args.transaction.now.work
    c.mark.ensures c.mark-2.ensures refl (c.len.ensures ∙ c.args.transaction.now.work.gone.ok.0) m place want g c.requires.within at

pub returns-clause-latest : goal.returns-clause-latest
returns-clause-latest c = λ up one told size of.
    let point : Point = record { space = c.mark.result; queue = c.mark-2.result; done = c.args.transaction.now.work.done; gone = c.len.result } in
    IsNotBehind-mark c.args.transaction.now.tx.store.number point (record { told = told; size = size; store = c.args.space.now.store }) c.args.transaction.now.work
    c.mark.ensures c.mark-2.ensures refl (c.len.ensures ∙ c.args.transaction.now.work.gone.ok.0) up one of
