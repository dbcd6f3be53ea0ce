use Rattle.std.proofs.Common.{sym, ◌∙◌, arith}
use Rattle.sb_space.specs.Durable.{parts_in}
use Rattle.sb_space.specs.Table.{shown}
use Rattle.sb_space.specs.View.{lent}
use Rattle.sb_txn.proofs.ResultLemmas.{OnOk-map}
use Rattle.sb_space.proofs.Calling.{Calls-none, Calls-then, Calls-memory, Calls-most, UnlessDown-map}
use Rattle.sb_space.proofs.Looking.{HasPages-still, shown-owner}
use Rattle.sb_space.proofs.Keeping.{Ends-set, Ends-map, Ends-none, others_none, none_nobodys}
use Rattle.sb_space.proofs.durable.Durable.take_page.Goals as goal

pub returns-then-owner-lt-FIRST_OWNER-clause-pages : goal.returns-then-owner-lt-FIRST_OWNER-clause-pages
returns-then-owner-lt-FIRST_OWNER-clause-pages g c = λ want s has. Ends-none c.args.owner want s (parts_in g.D.Disk.told g.D.Disk.len (lent c.args.self.now)) has

pub returns-then-owner-lt-FIRST_OWNER-clause-calls : goal.returns-then-owner-lt-FIRST_OWNER-clause-calls
returns-then-owner-lt-FIRST_OWNER-clause-calls g c =
    let a = lent c.args.self.now in
    Calls-most g.D.Disk.told g.D.Disk.len g.D.Disk.faults 0 1 a a _ (omega arith) (Calls-memory g.D.Disk.told g.D.Disk.len g.D.Disk.faults 0 a a (tt {0}) (Calls-none g.D.Disk.told g.D.Disk.len g.D.Disk.faults (tt {0}) a c.requires.ready))

pub returns-then-branch-ne0-clause-pages : goal.returns-then-branch-ne0-clause-pages
returns-then-branch-ne0-clause-pages g c = λ want s has.
    let calls = c.in_ok-owner_of.ensures.calls in
    Ends-none c.args.owner want s (parts_in g.D.Disk.told g.D.Disk.len (lent c.owner_of.new.self)) (HasPages-still g.D.Disk.told g.D.Disk.len g.D.Disk.faults (lent c.args.self.now) (lent c.owner_of.new.self) want s calls.leads calls.up has)

pub returns-clause-pages : goal.returns-clause-pages
returns-clause-pages g c =
    let told = g.D.Disk.told in
    let len = g.D.Disk.len in
    let owner = c.args.owner in
    let n = c.args.n in
    let calls = c.in_ok-owner_of.ensures.calls in
    let a = lent c.args.self.now in
    let b = lent c.owner_of.new.self in
    let q = parts_in told len (lent c.set_owner.new.self) in
    let high = c.if-owner-lt-FIRST_OWNER.false in
    UnlessDown-map c.set_owner.result _ _ (λ made want s has.
    let free = sym (c.in_ok-owner_of.ensures.owner want s has) ∙ c.if-branch-ne0.false in
    let set = made want s (HasPages-still told len g.D.Disk.faults a b want s calls.leads calls.up has) (λ one. omega (arith, free, one)) (λ one. omega (arith, high, one)) in
    Ends-map owner want s q _ _ (λ t. OnOk-map c.set_owner.result _ _ (λ is. is.rest))
    (Ends-set owner n (shown owner set.0) want s q c.set_owner.result (λ o other. others_none owner o (shown owner set.0) other (shown-owner owner set.0)) (λ o other. none_nobodys o (s n) free) set.1)) c.set_owner.ensures.pages

pub returns-clause-calls : goal.returns-clause-calls
returns-clause-calls g c =
    Calls-then g.D.Disk.told g.D.Disk.len g.D.Disk.faults 0 1 (lent c.args.self.now) (lent c.owner_of.new.self) (lent c.set_owner.new.self) c.in_ok-owner_of.field-0 c.set_owner.result c.in_ok-owner_of.ensures.calls c.set_owner.ensures.calls
