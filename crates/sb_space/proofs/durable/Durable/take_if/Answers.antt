use Rattle.std.proofs.Common.{Bool, [], ◌∷◌, length, Ok, refl, sym, subst}
use Rattle.sb_txn.proofs.ResultLemmas.{OnOk-map}
use Rattle.sb_space.specs.Durable.{Calls, parts_in}
use Rattle.sb_space.specs.Stored.{Touches, taken_in}
use Rattle.sb_space.specs.View.{lent}
use Rattle.sb_space.proofs.Calling.{Calls-none, UnlessDown-map}
use Rattle.sb_space.proofs.Keeping.{Ends-map}
use Rattle.sb_space.proofs.Listing.{Touches-one}
use Rattle.sb_space.proofs.durable.Durable.take_if.Goals as goal

pub returns-then-not-taken-clause-pages : goal.returns-then-not-taken-clause-pages
returns-then-not-taken-clause-pages g c = λ want s has. record { slots = s; has = has; others = λ o other. refl; is = λ m other. refl }

pub returns-then-not-taken-clause-calls : goal.returns-then-not-taken-clause-calls
returns-then-not-taken-clause-calls g c =
    let a = lent c.args.self.now in
    subst (λ (t : Bool). Calls {T = Unit {0}} g.D.Disk.told g.D.Disk.len g.D.Disk.faults (length (taken_in ((c.args.n, t) ∷ []))) a a (Ok tt)) (sym c.if-not-taken.true) (Calls-none g.D.Disk.told g.D.Disk.len g.D.Disk.faults tt a c.requires.ready)

pub returns-clause-pages : goal.returns-clause-pages
returns-clause-pages g c =
    let owner = c.args.owner in
    let n = c.args.n in
    UnlessDown-map c.take_page.result _ _ (λ made want s has. Ends-map owner want s (parts_in g.D.Disk.told g.D.Disk.len (lent c.take_page.new.self)) _ _
    (λ t. OnOk-map c.take_page.result _ _ (λ rest. subst (λ (b : Bool). Touches owner (taken_in ((n, b) ∷ [])) s t) (sym c.if-not-taken.false) (Touches-one owner n s t rest))) (made want s has)) c.take_page.ensures.pages

pub returns-clause-calls : goal.returns-clause-calls
returns-clause-calls g c =
    subst (λ (t : Bool). Calls {T = Unit {0}} g.D.Disk.told g.D.Disk.len g.D.Disk.faults (length (taken_in ((c.args.n, t) ∷ []))) (lent c.args.self.now) (lent c.take_page.new.self) c.take_page.result) (sym c.if-not-taken.false) c.take_page.ensures.calls
