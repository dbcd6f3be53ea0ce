use Rattle.std.proofs.Common.{ℕ, ◌+◌, Ok, List, [], ◌∷◌, length, take, refl, sym, ap, subst, ◌∙◌}
use Rattle.std.proofs.lemmas.Bool.{false≢true}
use Rattle.std.proofs.lemmas.List.{length-append}
use Rattle.sb_ctx.specs.View.{edited_pages}
use Rattle.sb_drive.specs.Stores.{bytes_in}
use Rattle.sb_space.specs.Durable.{Calls, parts_in}
use Rattle.sb_space.specs.Stored.{AreSet}
use Rattle.sb_space.specs.View.{lent}
use Rattle.sb_space.proofs.Calling.{Calls-none, Calls-then, Calls-from, Calls-memory, Calls-most}
use Rattle.sb_space.proofs.Keeping.{Ends-map}
use Rattle.sb_space.proofs.Listing.{front-all, front-more, front-less, front-most, AreSet-more, Ends-then, Ends-handed}
use Rattle.sb_space.proofs.durable.Durable.write_pages.Goals as goal

pub loop-i-init : goal.loop-i-init
loop-i-init g c = record {
  calls = Calls-none g.D.Disk.told g.D.Disk.len g.D.Disk.faults tt (lent c.args.self.now) c.requires.ready;
  pages = λ want s has. record { slots = s; has = has; others = λ o other. refl; is = record { here = λ m among. absurd (false≢true among); rest = λ m other. refl } };
}

pub returns-in_default-clause-pages : goal.returns-in_default-clause-pages
returns-in_default-clause-pages g c = λ want s has.
    let all = front-all (edited_pages c.args.ctx.now) c.loop-i.i (sym c.edited.ensures ∙ c.in_default.is) in
    Ends-map c.args.owner want s (parts_in g.D.Disk.told g.D.Disk.len (lent c.loop-i.self)) _ _ (λ t is. subst (λ (ns : List ℕ). AreSet c.args.owner ns (bytes_in c.args.ctx.now) s t) all is) (c.loop-i.invariant.pages want s has)

pub returns-in_default-clause-calls : goal.returns-in_default-clause-calls
returns-in_default-clause-calls g c =
    let ns = edited_pages c.args.ctx.now in
    Calls-most g.D.Disk.told g.D.Disk.len g.D.Disk.faults (length (take c.loop-i.i ns)) (length ns) (lent c.args.self.now) (lent c.loop-i.self) _ (front-most ns c.loop-i.i) c.loop-i.invariant.calls

pub write_page-requires : goal.write_page-requires
write_page-requires g c = record { ready = c.loop-i.invariant.calls.ready }

pub returns-in_err-write_page-clause-pages : goal.returns-in_err-write_page-clause-pages
returns-in_err-write_page-clause-pages g c =
    let told = g.D.Disk.told in
    let len = g.D.Disk.len in
    Ends-handed c.args.owner (parts_in told len (lent c.args.self.now)) (parts_in told len (lent c.loop-i.self)) (parts_in told len (lent c.write_page.new.self)) c.in_err-write_page.field-0.0 c.from_residual.result c.from_residual.ensures.1 _ _ _
    c.in_err-write_page.ensures.pages c.loop-i.invariant.pages

pub returns-in_err-write_page-clause-calls : goal.returns-in_err-write_page-clause-calls
returns-in_err-write_page-clause-calls g c =
    let told = g.D.Disk.told in
    let len = g.D.Disk.len in
    let faults = g.D.Disk.faults in
    let a = lent c.args.self.now in
    let b = lent c.loop-i.self in
    let d = lent c.write_page.new.self in
    let ns = edited_pages c.args.ctx.now in
    let k = length (take c.loop-i.i ns) in
    Calls-from told len faults (length ns) a d c.in_err-write_page.field-0.0 c.from_residual.result c.from_residual.ensures.1
    (Calls-most told len faults (k + 1) (length ns) a d _ (front-less ns c.loop-i.i c.in-Some.n (sym c.edited.ensures ∙ c.in-Some.is))
    (Calls-then told len faults k 1 a b d tt _ c.loop-i.invariant.calls c.in_err-write_page.ensures.calls))

pub loop-i-preserved : goal.loop-i-preserved
loop-i-preserved g c =
    let told = g.D.Disk.told in
    let len = g.D.Disk.len in
    let faults = g.D.Disk.faults in
    let owner = c.args.owner in
    let a = lent c.args.self.now in
    let b = lent c.loop-i.self in
    let d = lent c.write_page.new.self in
    let ns = edited_pages c.args.ctx.now in
    let i = c.loop-i.i in
    let n = c.in-Some.n in
    let more = front-more ns i n (sym c.edited.ensures ∙ c.in-Some.is) in
    let count = ap (λ (ks : List ℕ). length ks) more ∙ length-append (take i ns) (n ∷ []) in
    record {
      calls = subst (λ (x : ℕ). Calls {T = Unit {0}} told len faults x a d (Ok tt)) (sym count) (Calls-then told len faults (length (take i ns)) 1 a b d tt _ c.loop-i.invariant.calls c.in_ok-write_page.ensures.calls);
      pages = λ want s has. Ends-then owner want s (parts_in told len b) (parts_in told len d) _ _ _ (c.loop-i.invariant.pages want s has)
          (λ mid. c.in_ok-write_page.ensures.pages want _ mid)
          (λ u before now. subst (λ (ks : List ℕ). AreSet owner ks (bytes_in c.args.ctx.now) s u) (sym more) (AreSet-more owner (take i ns) n (bytes_in c.args.ctx.now) s _ u before now));
    }

pub returns-clause-pages : goal.returns-clause-pages
returns-clause-pages g c = λ want s has. Ends-map c.args.owner want s (parts_in g.D.Disk.told g.D.Disk.len (lent c.loop-i.self)) _ _ (λ t is. tt) (c.loop-i.invariant.pages want s has)

pub returns-clause-calls : goal.returns-clause-calls
returns-clause-calls g c =
    let ns = edited_pages c.args.ctx.now in
    Calls-memory g.D.Disk.told g.D.Disk.len g.D.Disk.faults (length ns) (lent c.args.self.now) (lent c.loop-i.self) tt
    (Calls-most g.D.Disk.told g.D.Disk.len g.D.Disk.faults (length (take c.loop-i.i ns)) (length ns) (lent c.args.self.now) (lent c.loop-i.self) _ (front-most ns c.loop-i.i) c.loop-i.invariant.calls)
