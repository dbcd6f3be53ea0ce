use Rattle.std.proofs.Common.{ℕ, ◌+◌, Bool, Ok, List, [], ◌∷◌, length, take, refl, sym, subst, ◌∙◌, arith}
use Rattle.sb_ctx.specs.View.{fresh_pages}
use Rattle.sb_space.specs.Durable.{Calls, parts_in}
use Rattle.sb_space.specs.Stored.{Touches, taken_in}
use Rattle.sb_space.specs.View.{lent}
use Rattle.sb_space.proofs.Calling.{Calls-none, Calls-then, Calls-from, Calls-memory, Calls-most}
use Rattle.sb_space.proofs.Keeping.{Ends-map}
use Rattle.sb_space.proofs.Listing.{front-all, taken-next, taken-count, taken-most, Touches-then, Ends-then, Ends-handed}
use Rattle.sb_space.proofs.durable.Durable.take_pages.Goals as goal

pub loop-i-init : goal.loop-i-init
loop-i-init g c = record {
  calls = Calls-none g.D.Disk.told g.D.Disk.len g.D.Disk.faults tt (lent c.args.self.now) c.requires.ready;
  pages = λ want s has. record { slots = s; has = has; others = λ o other. refl; is = λ m other. refl };
}

pub returns-in_default-clause-pages : goal.returns-in_default-clause-pages
returns-in_default-clause-pages g c = λ want s has.
    let all = front-all (fresh_pages c.args.ctx.now) c.loop-i.i (sym c.fresh_given.ensures ∙ c.in_default.is) in
    Ends-map c.args.owner want s (parts_in g.D.Disk.told g.D.Disk.len (lent c.loop-i.self)) _ _ (λ t is. subst (λ xs. Touches c.args.owner (taken_in xs) s t) all is) (c.loop-i.invariant.pages want s has)

pub returns-in_default-clause-calls : goal.returns-in_default-clause-calls
returns-in_default-clause-calls g c =
    let fresh = fresh_pages c.args.ctx.now in
    Calls-most g.D.Disk.told g.D.Disk.len g.D.Disk.faults (length (taken_in (take c.loop-i.i fresh))) (length (taken_in fresh)) (lent c.args.self.now) (lent c.loop-i.self) _ (taken-most fresh c.loop-i.i) c.loop-i.invariant.calls

pub take_if-requires : goal.take_if-requires
take_if-requires g c = record { ready = c.loop-i.invariant.calls.ready }

pub returns-in_err-take_if-clause-pages : goal.returns-in_err-take_if-clause-pages
returns-in_err-take_if-clause-pages g c =
    let told = g.D.Disk.told in
    let len = g.D.Disk.len in
    Ends-handed c.args.owner (parts_in told len (lent c.args.self.now)) (parts_in told len (lent c.loop-i.self)) (parts_in told len (lent c.take_if.new.self)) c.in_err-take_if.field-0.0 c.from_residual.result c.from_residual.ensures.1 _ _ _
    c.in_err-take_if.ensures.pages c.loop-i.invariant.pages

pub returns-in_err-take_if-clause-calls : goal.returns-in_err-take_if-clause-calls
returns-in_err-take_if-clause-calls g c =
    let told = g.D.Disk.told in
    let len = g.D.Disk.len in
    let faults = g.D.Disk.faults in
    let a = lent c.args.self.now in
    let b = lent c.loop-i.self in
    let d = lent c.take_if.new.self in
    let fresh = fresh_pages c.args.ctx.now in
    let e : ℕ × Bool = (c.in-Some.n, c.in-Some.taken) in
    let k = length (taken_in (take c.loop-i.i fresh)) in
    let l = length (taken_in (e ∷ [])) in
    let more = taken-count fresh c.loop-i.i e (sym c.fresh_given.ensures ∙ c.in-Some.is) in
    let most = taken-most fresh (c.loop-i.i + 1) in
    Calls-from told len faults (length (taken_in fresh)) a d c.in_err-take_if.field-0.0 c.from_residual.result c.from_residual.ensures.1
    (Calls-most told len faults (k + l) (length (taken_in fresh)) a d _ (omega (arith, more, most))
    (Calls-then told len faults k l a b d tt _ c.loop-i.invariant.calls c.in_err-take_if.ensures.calls))

pub loop-i-preserved : goal.loop-i-preserved
loop-i-preserved g c =
    let told = g.D.Disk.told in
    let len = g.D.Disk.len in
    let faults = g.D.Disk.faults in
    let owner = c.args.owner in
    let a = lent c.args.self.now in
    let b = lent c.loop-i.self in
    let d = lent c.take_if.new.self in
    let fresh = fresh_pages c.args.ctx.now in
    let i = c.loop-i.i in
    let e : ℕ × Bool = (c.in-Some.n, c.in-Some.taken) in
    let at = sym c.fresh_given.ensures ∙ c.in-Some.is in
    record {
      calls = subst (λ (x : ℕ). Calls {T = Unit {0}} told len faults x a d (Ok tt)) (taken-count fresh i e at)
          (Calls-then told len faults (length (taken_in (take i fresh))) (length (taken_in (e ∷ []))) a b d tt _ c.loop-i.invariant.calls c.in_ok-take_if.ensures.calls);
      pages = λ want s has. Ends-then owner want s (parts_in told len b) (parts_in told len d) _ _ _ (c.loop-i.invariant.pages want s has)
          (λ mid. c.in_ok-take_if.ensures.pages want _ mid)
          (λ u before now. subst (λ (ns : List ℕ). Touches owner ns s u) (sym (taken-next fresh i e at)) (Touches-then owner (taken_in (take i fresh)) (taken_in (e ∷ [])) s _ u before now));
    }

pub returns-clause-pages : goal.returns-clause-pages
returns-clause-pages g c = λ want s has. Ends-map c.args.owner want s (parts_in g.D.Disk.told g.D.Disk.len (lent c.loop-i.self)) _ _ (λ t is. tt) (c.loop-i.invariant.pages want s has)

pub returns-clause-calls : goal.returns-clause-calls
returns-clause-calls g c =
    let fresh = fresh_pages c.args.ctx.now in
    Calls-memory g.D.Disk.told g.D.Disk.len g.D.Disk.faults (length (taken_in fresh)) (lent c.args.self.now) (lent c.loop-i.self) tt
    (Calls-most g.D.Disk.told g.D.Disk.len g.D.Disk.faults (length (taken_in (take c.loop-i.i fresh))) (length (taken_in fresh)) (lent c.args.self.now) (lent c.loop-i.self) _ (taken-most fresh c.loop-i.i) c.loop-i.invariant.calls)
