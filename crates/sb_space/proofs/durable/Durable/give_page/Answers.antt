use Rattle.std.proofs.Common.{◌∙◌, ℕ, List, sym, ap, subst, arith}
use Rattle.sb_ctx.specs.View.{with_held, given_page}
use Rattle.sb_txn.proofs.ResultLemmas.{OnOk-map}
use Rattle.sb_space.specs.Durable.{parts_in}
use Rattle.sb_space.specs.Owners.{IsOwned}
use Rattle.sb_space.specs.View.{lent}
use Rattle.sb_space.proofs.Calling.{Calls-then, Calls-from, Calls-unless}
use Rattle.sb_space.proofs.Looking.{HasPages-still, held-now, owned-now}
use Rattle.sb_space.proofs.durable.Durable.give_page.Goals as goal

pub returns-then-not-branch-clause-given : goal.returns-then-not-branch-clause-given
returns-then-not-branch-clause-given g c =
    OnOk-map c.give_bytes.result _ _ (λ given want s has.
    let none = subst (IsOwned s c.args.owner c.args.n) c.if-not-branch.true (c.in_ok-is_owned.ensures.owned want s has) in
    given ∙ ap (λ (bytes : List ℕ). with_held c.args.n (given_page bytes) c.args.ctx.now) (sym none)) c.give_bytes.ensures.given

pub returns-in_err-load-clause-calls : goal.returns-in_err-load-clause-calls
returns-in_err-load-clause-calls g c =
    let a = lent c.args.self.now in
    let b = lent c.is_owned.new.self in
    let d = lent c.load.new.self in
    Calls-from g.D.Disk.told g.D.Disk.len g.D.Disk.faults 0 a d c.in_err-load.field-0.0 c.from_residual-in_err-load.result c.from_residual-in_err-load.ensures.1
    (Calls-then g.D.Disk.told g.D.Disk.len g.D.Disk.faults 0 0 a b d c.in_ok-is_owned.field-0 _ c.in_ok-is_owned.ensures.calls c.in_err-load.ensures.calls)

pub returns-clause-given : goal.returns-clause-given
returns-clause-given g c =
    OnOk-map c.give_bytes-2.result _ _ (λ given want s has.
    let told = g.D.Disk.told in
    let len = g.D.Disk.len in
    let n = c.args.n in
    let first = c.in_ok-is_owned.ensures.calls in
    let second = c.in_ok-load.ensures.calls in
    let middle = HasPages-still told len g.D.Disk.faults (lent c.args.self.now) (lent c.is_owned.new.self) want s first.leads first.up has in
    let still = HasPages-still told len g.D.Disk.faults (lent c.is_owned.new.self) (lent c.load.new.self) want s second.leads second.up middle in
    let sizes = ap (λ x. x.pages) first.leads.works.geometry in
    let later = ap (λ x. x.pages) second.leads.works.geometry in
    let within = c.in_ok-is_owned.ensures.within c.if-not-branch.false in
    let own = subst (IsOwned s c.args.owner n) c.if-not-branch.false (c.in_ok-is_owned.ensures.owned want s has) in
    let p = parts_in told len (lent c.load.new.self) in
    let bytes = held-now want s p still n _ (omega (arith, sizes, later, within)) c.held.ensures.bytes in
    let is = owned-now want s p still c.args.owner n (omega (arith, sizes, later, within)) own.0 own.1 in
    given ∙ ap (λ (x : List ℕ). with_held n (given_page x) c.args.ctx.now) (bytes ∙ sym is)) c.give_bytes-2.ensures.given

pub returns-clause-calls : goal.returns-clause-calls
returns-clause-calls g c =
    let a = lent c.args.self.now in
    let b = lent c.is_owned.new.self in
    let d = lent c.load.new.self in
    Calls-unless g.D.Disk.told g.D.Disk.len g.D.Disk.faults 0 a d c.in_ok-load.field-0 c.give_bytes-2.result c.give_bytes-2.ensures.err
    (Calls-then g.D.Disk.told g.D.Disk.len g.D.Disk.faults 0 0 a b d c.in_ok-is_owned.field-0 _ c.in_ok-is_owned.ensures.calls c.in_ok-load.ensures.calls)
