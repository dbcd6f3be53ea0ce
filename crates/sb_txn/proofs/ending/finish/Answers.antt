use Rattle.std.proofs.Common.{List, [], ◌∷◌, ◌++◌, ◌∙◌, subst}
use Rattle.sb_disk.specs.Moments.{LeavesOnly}
use Rattle.sb_disk.proofs.MomentLemmas.{and_then}
use Rattle.sb_log.specs.Records.{Change, Back, Commit}
use Rattle.sb_log.specs.Views.{active_with}
use Rattle.sb_log.proofs.WholeLemmas.{IsWhole-back}
use Rattle.sb_images.specs.Images.{IsOldOrNew}
use Rattle.sb_images.specs.Store.{IsStoreOn, own_of, with_changes}
use Rattle.sb_images.proofs.CommitLemmas.{LeavesOnly-old}
use Rattle.sb_images.proofs.StoreLemmas.{IsStoreOn-ready}
use Rattle.sb_txn.specs.Steps.{some}
use Rattle.sb_txn.proofs.ChangeLemmas.{few-back}
use Rattle.sb_txn.proofs.EndLemmas.{own_of-back}
use Rattle.sb_txn.proofs.LogLemmas.{HasSamePages-then}
use Rattle.sb_txn.proofs.ending.finish.Goals as goal

pub returns-in_err-append_if-clause-any_moment : goal.returns-in_err-append_if-clause-any_moment
returns-in_err-append_if-clause-any_moment g c want now h opened pending rest store few =
    LeavesOnly-old want (with_changes (own_of (opened ++ pending) (active_with c.args.tx c.args.n)) want) h _ _
    (c.append_if.ensures.any_moment want h opened pending (IsStoreOn-ready want now _ c.args.journal.now h opened pending (active_with c.args.tx c.args.n ∷ rest) store))

-- the store behind the Back, and what a crash leaves up to it
pub returns-in_err-commit-clause-any_moment : goal.returns-in_err-commit-clause-any_moment
returns-in_err-commit-clause-any_moment g c want now h opened pending rest store few =
    let a = active_with c.args.tx c.args.n in
    let back = Back c.args.tx c.args.n in
    let run = c.append_if.ensures.any_moment want h opened pending (IsStoreOn-ready want now _ c.args.journal.now h opened pending (a ∷ rest) store) in
    let mid = c.in_ok-append_if.ensures.store want now h opened pending (a ∷ rest) store (λ is disk whole. IsWhole-back h.pages disk now opened pending a rest whole) in
    let same = own_of-back c.args.undone opened pending c.args.tx c.args.n in
    let so_far = LeavesOnly-old want (with_changes (own_of (opened ++ pending) a) want) h _ _ run in
    let commit = c.commit.ensures.any_moment want now h opened (pending ++ some c.args.undone back) c.args.n rest mid (few-back opened pending c.args.undone c.args.tx c.args.n few) in
    and_then _ _ _ (IsOldOrNew h want (with_changes (own_of (opened ++ pending) a) want)) so_far
    (subst (λ (cs : List Change). LeavesOnly (g.D.Disk.told c.append_if.new.disk) (g.D.Disk.told c.commit.new.disk) (IsOldOrNew h want (with_changes cs want))) same commit)

pub returns-clause-any_moment : goal.returns-clause-any_moment
returns-clause-any_moment g c want now h opened pending rest store few =
    let a = active_with c.args.tx c.args.n in
    let back = Back c.args.tx c.args.n in
    let run = c.append_if.ensures.any_moment want h opened pending (IsStoreOn-ready want now _ c.args.journal.now h opened pending (a ∷ rest) store) in
    let mid = c.in_ok-append_if.ensures.store want now h opened pending (a ∷ rest) store (λ is disk whole. IsWhole-back h.pages disk now opened pending a rest whole) in
    let same = own_of-back c.args.undone opened pending c.args.tx c.args.n in
    let so_far = LeavesOnly-old want (with_changes (own_of (opened ++ pending) a) want) h _ _ run in
    let commit = c.commit.ensures.any_moment want now h opened (pending ++ some c.args.undone back) c.args.n rest mid (few-back opened pending c.args.undone c.args.tx c.args.n few) in
    and_then _ _ _ (IsOldOrNew h want (with_changes (own_of (opened ++ pending) a) want)) so_far
    (subst (λ (cs : List Change). LeavesOnly (g.D.Disk.told c.append_if.new.disk) (g.D.Disk.told c.commit.new.disk) (IsOldOrNew h want (with_changes cs want))) same commit)

pub returns-clause-pages : goal.returns-clause-pages
returns-clause-pages g c h gates log =
    let one = c.append_if.ensures.stays in
    HasSamePages-then h _ _ _ (c.in_ok-append_if.ensures.pages h gates log) (c.in_ok-commit.ensures.pages h (one.gates ∙ gates) (one.log ∙ log))

pub returns-clause-store : goal.returns-clause-store
returns-clause-store g c want now h opened pending rest store few =
    let a = active_with c.args.tx c.args.n in
    let back = Back c.args.tx c.args.n in
    let mid = c.in_ok-append_if.ensures.store want now h opened pending (a ∷ rest) store (λ is disk whole. IsWhole-back h.pages disk now opened pending a rest whole) in
    subst (λ (cs : List Change). IsStoreOn (with_changes cs want) now (g.D.Disk.told c.commit.new.disk) c.commit.new.journal h (opened ++ ((pending ++ some c.args.undone back) ++ Commit c.args.tx ∷ [])) [] rest)
    (own_of-back c.args.undone opened pending c.args.tx c.args.n)
    (c.in_ok-commit.ensures.store want now h opened (pending ++ some c.args.undone back) c.args.n rest mid (few-back opened pending c.args.undone c.args.tx c.args.n few))
