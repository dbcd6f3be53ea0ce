use Rattle.std.proofs.Common.{refl, subst, ◌∙◌}
use Rattle.sb_space.specs.Durable.{parts_in}
use Rattle.sb_space.specs.Owners.{IsOwned}
use Rattle.sb_space.specs.View.{lent}
use Rattle.sb_txn.proofs.ResultLemmas.{OnOk-map}
use Rattle.sb_space.proofs.Calling.{Calls-then, UnlessDown-map}
use Rattle.sb_space.proofs.Looking.{HasPages-still, bytes_for-own}
use Rattle.sb_space.proofs.Keeping.{Ends-set, Ends-map, Ends-none, others_none, bytes_in-page}
use Rattle.sb_space.proofs.durable.Durable.write_page.Goals as goal

pub returns-then-not-branch-clause-pages : goal.returns-then-not-branch-clause-pages
returns-then-not-branch-clause-pages g c = λ want s has.
    let calls = c.in_ok-is_owned.ensures.calls in
    Ends-none c.args.owner want s (parts_in g.D.Disk.told g.D.Disk.len (lent c.is_owned.new.self)) (HasPages-still g.D.Disk.told g.D.Disk.len g.D.Disk.faults (lent c.args.self.now) (lent c.is_owned.new.self) want s calls.leads calls.up has)

pub returns-in-Some-clause-pages : goal.returns-in-Some-clause-pages
returns-in-Some-clause-pages g c =
    let told = g.D.Disk.told in
    let len = g.D.Disk.len in
    let owner = c.args.owner in
    let n = c.args.n in
    let bytes = c.in-Some.bytes.now in
    let calls = c.in_ok-is_owned.ensures.calls in
    let a = lent c.args.self.now in
    let b = lent c.is_owned.new.self in
    let q = parts_in told len (lent c.set_bytes.new.self) in
    let here = bytes_in-page (λ b. b.now) c.args.ctx.now n c.page.result c.in-Some.bytes c.page.ensures c.in-Some.is in
    UnlessDown-map c.set_bytes.result _ _ (λ made want s has.
    let own = subst (IsOwned s owner n) c.if-not-branch.false (c.in_ok-is_owned.ensures.owned want s has) in
    let set = made want s (HasPages-still told len g.D.Disk.faults a b want s calls.leads calls.up has) own.0 own.1 in
    Ends-map owner want s q _ _ (λ t. OnOk-map c.set_bytes.result _ _ (λ is. record { here = is.here ∙ bytes_for-own owner bytes own.0 ∙ here; rest = is.rest }))
    (Ends-set owner n (owner, bytes) want s q c.set_bytes.result (λ o other. others_none owner o (owner, bytes) other refl) (λ o other. others_none owner o (s n) other own.1) set)) c.set_bytes.ensures.pages

pub returns-in-Some-clause-calls : goal.returns-in-Some-clause-calls
returns-in-Some-clause-calls g c =
    Calls-then g.D.Disk.told g.D.Disk.len g.D.Disk.faults 0 1 (lent c.args.self.now) (lent c.is_owned.new.self) (lent c.set_bytes.new.self) c.in_ok-is_owned.field-0 c.set_bytes.result c.in_ok-is_owned.ensures.calls c.set_bytes.ensures.calls

pub returns-in_default-clause-pages : goal.returns-in_default-clause-pages
returns-in_default-clause-pages g c = λ want s has.
    let calls = c.in_ok-is_owned.ensures.calls in
    Ends-none c.args.owner want s (parts_in g.D.Disk.told g.D.Disk.len (lent c.is_owned.new.self)) (HasPages-still g.D.Disk.told g.D.Disk.len g.D.Disk.faults (lent c.args.self.now) (lent c.is_owned.new.self) want s calls.leads calls.up has)

pub returns-in_default-2-clause-pages : goal.returns-in_default-2-clause-pages
returns-in_default-2-clause-pages g c = λ want s has.
    let calls = c.in_ok-is_owned.ensures.calls in
    Ends-none c.args.owner want s (parts_in g.D.Disk.told g.D.Disk.len (lent c.is_owned.new.self)) (HasPages-still g.D.Disk.told g.D.Disk.len g.D.Disk.faults (lent c.args.self.now) (lent c.is_owned.new.self) want s calls.leads calls.up has)
