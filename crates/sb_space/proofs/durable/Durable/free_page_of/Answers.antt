use Rattle.std.proofs.Common.{subst, ◌∙◌, arith}
use Rattle.sb_drive.specs.Slots.{nobodys}
use Rattle.sb_space.specs.Durable.{parts_in}
use Rattle.sb_space.specs.Owners.{IsOwned}
use Rattle.sb_space.specs.View.{lent}
use Rattle.sb_txn.proofs.ResultLemmas.{OnOk-map}
use Rattle.sb_space.proofs.Calling.{Calls-then, UnlessDown-map}
use Rattle.sb_space.proofs.Looking.{HasPages-still, bytes_for-none}
use Rattle.sb_space.proofs.Keeping.{Ends-set, Ends-map, Ends-none, others_none}
use Rattle.sb_space.proofs.durable.Durable.free_page_of.Goals as goal

pub returns-then-not-branch-clause-pages : goal.returns-then-not-branch-clause-pages
returns-then-not-branch-clause-pages g c = λ want s has.
    let calls = c.in_ok-is_owned.ensures.calls in
    Ends-none c.args.owner want s (parts_in g.D.Disk.told g.D.Disk.len (lent c.is_owned.new.self)) (HasPages-still g.D.Disk.told g.D.Disk.len g.D.Disk.faults (lent c.args.self.now) (lent c.is_owned.new.self) want s calls.leads calls.up has)

pub returns-clause-pages : goal.returns-clause-pages
returns-clause-pages g c =
    let told = g.D.Disk.told in
    let len = g.D.Disk.len in
    let owner = c.args.owner in
    let n = c.args.n in
    let calls = c.in_ok-is_owned.ensures.calls in
    let a = lent c.args.self.now in
    let b = lent c.is_owned.new.self in
    let q = parts_in told len (lent c.set_owner.new.self) in
    UnlessDown-map c.set_owner.result _ _ (λ made want s has.
    let own = subst (IsOwned s owner n) c.if-not-branch.false (c.in_ok-is_owned.ensures.owned want s has) in
    let high = own.0 in
    let is = own.1 in
    let set = made want s (HasPages-still told len g.D.Disk.faults a b want s calls.leads calls.up has) (λ one. omega (arith, high, is, one)) (λ one. omega (arith, one)) in
    Ends-map owner want s q _ _ (λ t. OnOk-map c.set_owner.result _ _ (λ is. record { here = is.here ∙ bytes_for-none owner 0; rest = is.rest }))
    (Ends-set owner n nobodys want s q c.set_owner.result (λ o other. bytes_for-none o 0) (λ o other. others_none owner o (s n) other is) set.1)) c.set_owner.ensures.pages

pub returns-clause-calls : goal.returns-clause-calls
returns-clause-calls g c =
    Calls-then g.D.Disk.told g.D.Disk.len g.D.Disk.faults 0 1 (lent c.args.self.now) (lent c.is_owned.new.self) (lent c.set_owner.new.self) c.in_ok-is_owned.field-0 c.set_owner.result c.in_ok-is_owned.ensures.calls c.set_owner.ensures.calls
