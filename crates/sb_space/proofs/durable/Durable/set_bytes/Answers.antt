use Rattle.std.proofs.Common.{◌≡◌, ℕ, ◌-◌, ◌<◌, List, length, take, drop, inr, refl, sym, ap, subst, ◌∙◌, arith}
use Rattle.std.proofs.lemmas.List.{length-take, length-drop}
use Rattle.sb_bytes.specs.Bytes.{splice}
use Rattle.sb_space.specs.Durable.{parts_in}
use Rattle.sb_space.specs.View.{lent}
use Rattle.sb_space.specs.Works.{Stands}
use Rattle.sb_space.proofs.Calling.{Calls-then, UnlessDown-map}
use Rattle.sb_space.proofs.Looking.{HasPages-still, Stands-still, held-now, held-stands}
use Rattle.sb_space.proofs.Owning.{written-result, written-same, HasPages-written}
use Rattle.sb_space.proofs.Ranges.{splice-differing, same-wholly, DiffersAtEnds-range}
use Rattle.sb_space.proofs.Rewriting.{rewritten-same, rewritten-result}
use Rattle.sb_space.proofs.durable.Durable.set_bytes.Goals as goal

pub change-requires-clause-exact : goal.change-requires-clause-exact
change-requires-clause-exact g c = λ want now stands.
    let told = g.D.Disk.told in
    let len = g.D.Disk.len in
    let n = c.args.n in
    let b = lent c.load.new.self in
    let sizes = ap (λ x. x.pages) c.in_ok-load.ensures.calls.leads.works.geometry in
    let within = c.requires.page in
    let less : n < b.store.now.pool.geometry.pages = omega (arith, sizes, within) in
    let held = c.held-page.result.now in
    let bytes = c.args.bytes.now in
    let from = c.first_difference-from.result in
    let to = c.behind_differences-to.result in
    let under = c.if-from-to.false in
    let long = c.requires.long in
    let full = c.held-page.ensures.long in
    let end = c.behind_differences-to.ensures.within in
    let size : length (take (to - from) (drop from bytes)) ≡ to - from = omega (arith, under, end, long, full, length-take (to - from) (drop from bytes), length-drop from bytes) in
    let differ = splice-differing held bytes from to (omega (arith, under)) end (full ∙ sym long) c.first_difference-from.ensures.same c.behind_differences-to.ensures.same in
    let page = held-stands want now (parts_in told len b) stands n _ less c.held-page.ensures.bytes in
    inr (DiffersAtEnds-range held bytes (now n) (take (to - from) (drop from bytes)) from to (omega (arith, under)) size page (ap (splice from (take (to - from) (drop from bytes))) (sym page) ∙ differ)
    (c.first_difference-from.ensures.differ (omega (arith, under, end))) (c.behind_differences-to.ensures.differ (omega (arith, under))))

pub returns-then-from-to-clause-pages : goal.returns-then-from-to-clause-pages
returns-then-from-to-clause-pages g c = λ want s has high own.
    let told = g.D.Disk.told in
    let len = g.D.Disk.len in
    let n = c.args.n in
    let calls = c.in_ok-load.ensures.calls in
    let a = lent c.args.self.now in
    let b = lent c.load.new.self in
    let still = HasPages-still told len g.D.Disk.faults a b want s calls.leads calls.up has in
    let sizes = ap (λ x. x.pages) calls.leads.works.geometry in
    let within = c.requires.page in
    let less : n < b.store.now.pool.geometry.pages = omega (arith, sizes, within) in
    let page = held-now want s (parts_in told len b) still n _ less c.held-page.ensures.bytes in
    let same = same-wholly c.held-page.result.now c.args.bytes.now c.first_difference-from.result c.behind_differences-to.result c.if-from-to.true c.first_difference-from.ensures.same c.behind_differences-to.ensures.same in
    HasPages-written want s (parts_in told len b) (parts_in told len b) still refl still.now n c.args.owner c.args.bytes.now less high own
    (written-same n c.args.bytes.now still.now (sym page ∙ same)) still.stands

pub returns-clause-pages : goal.returns-clause-pages
returns-clause-pages g c =
    let told = g.D.Disk.told in
    let len = g.D.Disk.len in
    let n = c.args.n in
    let calls = c.in_ok-load.ensures.calls in
    let a = lent c.args.self.now in
    let b = lent c.load.new.self in
    let d = lent c.change.new.self in
    let sizes = ap (λ x. x.pages) calls.leads.works.geometry in
    let within = c.requires.page in
    let less : n < b.store.now.pool.geometry.pages = omega (arith, sizes, within) in
    let from = c.first_difference-from.result in
    let to = c.behind_differences-to.result in
    let under = c.if-from-to.false in
    let long = c.requires.long in
    let full = c.held-page.ensures.long in
    let differ = splice-differing c.held-page.result.now c.args.bytes.now from to (omega (arith, under)) c.behind_differences-to.ensures.within (full ∙ sym long) c.first_difference-from.ensures.same c.behind_differences-to.ensures.same in
    UnlessDown-map c.change.result _ _ (λ made want s has. made want s (HasPages-still told len g.D.Disk.faults a b want s calls.leads calls.up has))
    (written-result (parts_in told len b) (parts_in told len d) n c.args.owner from c.args.bytes.now _ c.change.result (ap (λ x. x.pages) c.change.ensures.calls.leads.works.geometry) less
    (λ want s has. ap (splice from _) (sym (held-now want s (parts_in told len b) has n _ less c.held-page.ensures.bytes)) ∙ differ) c.change.ensures.pages)

pub returns-then-from-to-clause-stands : goal.returns-then-from-to-clause-stands
returns-then-from-to-clause-stands g c = λ want now stands.
    let told = g.D.Disk.told in
    let len = g.D.Disk.len in
    let n = c.args.n in
    let calls = c.in_ok-load.ensures.calls in
    let b = lent c.load.new.self in
    let still = Stands-still told len g.D.Disk.faults (lent c.args.self.now) b want now calls.leads calls.up stands in
    let sizes = ap (λ x. x.pages) calls.leads.works.geometry in
    let within = c.requires.page in
    let page = held-stands want now (parts_in told len b) still n _ (omega (arith, sizes, within)) c.held-page.ensures.bytes in
    let same = same-wholly c.held-page.result.now c.args.bytes.now c.first_difference-from.result c.behind_differences-to.result c.if-from-to.true c.first_difference-from.ensures.same c.behind_differences-to.ensures.same in
    subst (λ (then : ℕ → List ℕ). Stands want then (parts_in told len b)) (sym (rewritten-same n c.args.bytes.now now (sym page ∙ same))) still

pub returns-clause-stands : goal.returns-clause-stands
returns-clause-stands g c =
    let told = g.D.Disk.told in
    let len = g.D.Disk.len in
    let n = c.args.n in
    let calls = c.in_ok-load.ensures.calls in
    let a = lent c.args.self.now in
    let b = lent c.load.new.self in
    let sizes = ap (λ x. x.pages) calls.leads.works.geometry in
    let within = c.requires.page in
    let less : n < b.store.now.pool.geometry.pages = omega (arith, sizes, within) in
    let from = c.first_difference-from.result in
    let to = c.behind_differences-to.result in
    let under = c.if-from-to.false in
    let long = c.requires.long in
    let full = c.held-page.ensures.long in
    let differ = splice-differing c.held-page.result.now c.args.bytes.now from to (omega (arith, under)) c.behind_differences-to.ensures.within (full ∙ sym long) c.first_difference-from.ensures.same c.behind_differences-to.ensures.same in
    rewritten-result (parts_in told len a) (parts_in told len b) (parts_in told len (lent c.change.new.self)) n from c.args.bytes.now _ c.change.result
    (λ want now stands. Stands-still told len g.D.Disk.faults a b want now calls.leads calls.up stands)
    (λ want now stands. ap (splice from _) (sym (held-stands want now (parts_in told len b) stands n _ less c.held-page.ensures.bytes)) ∙ differ) c.change.ensures.pages

pub returns-clause-calls : goal.returns-clause-calls
returns-clause-calls g c =
    Calls-then g.D.Disk.told g.D.Disk.len g.D.Disk.faults 0 1 (lent c.args.self.now) (lent c.load.new.self) (lent c.change.new.self) c.in_ok-load.field-0 c.change.result c.in_ok-load.ensures.calls c.change.ensures.calls
