use Rattle.std.proofs.Common.{◌≡◌, ℕ, ◌+◌, ◌<◌, Bool, Option, IfSome, List, length, sym, ap, subst, ◌∙◌, arith}
use Rattle.sb_space.specs.Durable.{parts_in}
use Rattle.sb_space.specs.Instances.{AreMarked, IsFirstFree, marks_set, unmarked}
use Rattle.sb_space.specs.View.{lent}
use Rattle.sb_space.proofs.Calling.{Calls-none, Calls-then, Calls-from, Calls-ok}
use Rattle.sb_space.proofs.Looking.{HasPages-still}
use Rattle.sb_space.proofs.Marking.{AreMarked-none, AreMarked-more, IsFirstFree-none, IsFirstFree-more, below-more, length-unmarked, marks_set-set, marks_set-unmarked}
use Rattle.sb_space.proofs.durable.Durable.mark_owners.Goals as goal

pub loop-n-init : goal.loop-n-init
loop-n-init g c =
    let p = parts_in g.D.Disk.told g.D.Disk.len (lent c.args.self.now) in
    let first = c.table_pages-n.ensures in
    let none = ap marks_set c.requires.new ∙ marks_set-unmarked 65536 in
    record {
      calls = Calls-none g.D.Disk.told g.D.Disk.len g.D.Disk.faults tt (lent c.args.self.now) c.requires.ready;
      few = omega (arith, none, first);
      below = tt;
      marks = λ want s has. subst (λ (marks : List Bool). AreMarked c.table_pages-n.result s marks) (sym c.requires.new) (subst (λ (n : ℕ). AreMarked n s (unmarked 65536)) (sym first) (AreMarked-none want s p has 65536));
      first = λ want s has m less. IsFirstFree-none want s p has m (omega (arith, less, first));
    }

pub owner_of-requires-clause-ready : goal.owner_of-requires-clause-ready
owner_of-requires-clause-ready g c = c.loop-n.invariant.calls.ready

pub owner_of-requires-clause-page : goal.owner_of-requires-clause-page
owner_of-requires-clause-page g c =
    let sizes = ap (λ x. x.pages) c.loop-n.invariant.calls.leads.works.geometry in
    omega (arith, sizes, c.loop-n-test.true, c.pages-n-end.ensures)

pub returns-in_err-owner-clause-calls : goal.returns-in_err-owner-clause-calls
returns-in_err-owner-clause-calls g c =
    let a = lent c.args.self.now in
    let b = lent c.loop-n.self in
    let d = lent c.owner_of.new.self in
    Calls-from g.D.Disk.told g.D.Disk.len g.D.Disk.faults 0 a d c.in_err-owner.field-0.0 c.from_residual.result c.from_residual.ensures.1
    (Calls-then g.D.Disk.told g.D.Disk.len g.D.Disk.faults 0 0 a b d tt _ c.loop-n.invariant.calls c.in_err-owner.ensures.calls)

pub bounds-marks-owner : goal.bounds-marks-owner
bounds-marks-owner g c =
    let long = c.loop-n.auto.marks ∙ ap (λ (marks : List Bool). length marks) c.requires.new ∙ length-unmarked 65536 in
    omega (arith, long)

pub loop-n-preserved : goal.loop-n-preserved
loop-n-preserved g c =
    let told = g.D.Disk.told in
    let len = g.D.Disk.len in
    let faults = g.D.Disk.faults in
    let a = lent c.args.self.now in
    let b = lent c.loop-n.self in
    let d = lent c.owner_of.new.self in
    let n = c.loop-n.n in
    let marks = c.loop-n.marks in
    let owner = c.in_ok-owner.owner in
    let calls = c.loop-n.invariant.calls in
    let long = c.loop-n.auto.marks ∙ ap (λ (ms : List Bool). length ms) c.requires.new ∙ length-unmarked 65536 in
    let less : owner < length marks = omega (arith, long) in
    let most = marks_set-set marks owner in
    let few = c.loop-n.invariant.few in
    record {
      calls = Calls-ok told len faults 0 a d owner tt (Calls-then told len faults 0 0 a b d tt _ calls c.in_ok-owner.ensures.calls);
      few = omega (arith, most, few);
      below = subst (λ (free : Option ℕ). IfSome free (λ k. k < n + 1)) (sym c.first_free-free.ensures) (below-more n c.loop-n.free owner c.loop-n.invariant.below);
      marks = λ want s has. AreMarked-more n s marks owner less
          (c.in_ok-owner.ensures.owner want s (HasPages-still told len faults a b want s calls.leads calls.up has)) (c.loop-n.invariant.marks want s has);
      first = λ want s has. subst (IsFirstFree (n + 1) s) (sym c.first_free-free.ensures) (IsFirstFree-more n s c.loop-n.free owner
          (c.in_ok-owner.ensures.owner want s (HasPages-still told len faults a b want s calls.leads calls.up has)) (c.loop-n.invariant.first want s has));
    }

pub returns-clause-marks : goal.returns-clause-marks
returns-clause-marks g c = λ want s has.
    let within = c.loop-n.auto.n-end in
    let end : c.loop-n.n ≡ c.args.self.now.store.now.pool.geometry.pages = omega (arith, within, c.loop-n-test.false, c.pages-n-end.ensures, c.table_pages-n.ensures) in
    subst (λ (n : ℕ). AreMarked n s c.loop-n.marks) end (c.loop-n.invariant.marks want s has)

pub returns-clause-free : goal.returns-clause-free
returns-clause-free g c = λ want s has.
    let within = c.loop-n.auto.n-end in
    let end : c.loop-n.n ≡ c.args.self.now.store.now.pool.geometry.pages = omega (arith, within, c.loop-n-test.false, c.pages-n-end.ensures, c.table_pages-n.ensures) in
    subst (λ (n : ℕ). IsFirstFree n s c.loop-n.free) end (c.loop-n.invariant.first want s has)
