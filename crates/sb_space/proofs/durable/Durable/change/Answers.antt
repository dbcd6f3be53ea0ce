use Rattle.std.proofs.Common.{◌≡◌, ℕ, ◌<◌, ◌≤◌, List, length, true, Ok, Err, refl, sym, subst, ◌∙◌, arith}
use Rattle.std.proofs.lemmas.Bool.{false≢true}
use Rattle.std.proofs.lemmas.List.Elements.{All-from_get_or}
use Rattle.sb_space.specs.Works.{Stands, Fails}
use Rattle.sb_drive.specs.Spaces.{UnlessDown}
use Rattle.sb_txn.specs.Parts.{parts}
use Rattle.sb_space.proofs.Changed.{Works-changed, Stands-changed, Works-err, Stands-err, Fails-err, up-err, Serves-changed}
use Rattle.sb_space.proofs.Loading.{up_after}
use Rattle.sb_space.proofs.durable.Durable.change.Goals as goal

pub returns-in-Ok-clause-pages : goal.returns-in-Ok-clause-pages
returns-in-Ok-clause-pages g c =
    let n = c.args.self.now.tx.now.number in
    let s = c.args.self.now.store.now in
    Stands-changed g.D.Disk.told g.D.Disk.len g.D.Disk.faults n c.args.self.now.disk.now c.change.new.disk s c.change.new.self c.in-Ok.ensures.keeps c.in-Ok.ensures.any_moment
    c.requires.ready.alone c.args.owner c.args.n c.args.offset c.args.bytes.now c.requires.range c.requires.page
    (All-from_get_or (λ b. b < 256) c.args.bytes.now 0 (λ i less. omega (arith, c.type_inv.bytes i))) c.in-Ok.ensures.changes

pub returns-in-Ok-clause-calls : goal.returns-in-Ok-clause-calls
returns-in-Ok-clause-calls g c =
    let told = g.D.Disk.told in
    let len = g.D.Disk.len in
    let faults = g.D.Disk.faults in
    let n = c.args.self.now.tx.now.number in
    let d = c.args.self.now.disk.now in
    let e = c.change.new.disk in
    let s = c.args.self.now.store.now in
    let t = c.change.new.self in
    let serves = c.requires.ready in
    let small = All-from_get_or (λ b. b < 256) c.args.bytes.now 0 (λ i less. omega (arith, c.type_inv.bytes i)) in
    let works = Works-changed told len faults n d e s t c.in-Ok.ensures.keeps c.in-Ok.ensures.any_moment serves.alone c.args.owner c.args.n c.args.offset c.args.bytes.now c.requires.range c.requires.page small c.in-Ok.ensures.changes c.requires.exact in
    record {
      leads = record { store = refl; disk = refl; tx = refl; works = works };
      ready = (Serves-changed told len faults n d e s t (Ok tt) c.args.owner c.args.n c.args.offset c.args.bytes.now c.in-Ok.ensures.keeps c.in-Ok.ensures.changes tt serves);
      up = λ on. absurd (false≢true (sym (up_after {T = Unit {0}} told len faults n d e s t tt c.in-Ok.ensures.keeps) ∙ on));
      fails = tt;
    }

pub returns-in-Err-clause-pages : goal.returns-in-Err-clause-pages
returns-in-Err-clause-pages g c =
    let n = c.args.self.now.tx.now.number in
    let s = c.args.self.now.store.now in
    subst (λ x. UnlessDown {T = Unit {0}} (Err x) ((want now : ℕ → List ℕ) → Stands want now (parts g.D.Disk.told g.D.Disk.len c.args.self.now.disk.now s) → Stands want now (parts g.D.Disk.told g.D.Disk.len c.change.new.disk c.change.new.self))) (sym c.fault_of.ensures)
    (Stands-err g.D.Disk.told g.D.Disk.len g.D.Disk.faults n c.args.self.now.disk.now c.change.new.disk s c.change.new.self c.in-Err.ensures.any_moment
    c.requires.ready.alone c.args.n (length c.args.bytes.now) (omega (arith, c.requires.range)) c.in-Err.fault c.in-Err.ensures.keeps c.in-Err.ensures.refused)

pub returns-in-Err-clause-calls : goal.returns-in-Err-clause-calls
returns-in-Err-clause-calls g c =
    let told = g.D.Disk.told in
    let len = g.D.Disk.len in
    let faults = g.D.Disk.faults in
    let n = c.args.self.now.tx.now.number in
    let d = c.args.self.now.disk.now in
    let e = c.change.new.disk in
    let s = c.args.self.now.store.now in
    let t = c.change.new.self in
    let f = c.in-Err.fault in
    let serves = c.requires.ready in
    let leaves = c.in-Err.ensures.any_moment in
    let keeps = c.in-Err.ensures.keeps in
    let refused = c.in-Err.ensures.refused in
    let few : length c.args.bytes.now ≤ 4096 = omega (arith, c.requires.range) in
    record {
      leads = record { store = refl; disk = refl; tx = refl; works = (Works-err told len faults n d e s t leaves serves.alone c.args.n (length c.args.bytes.now) few f keeps refused) };
      ready = (Serves-changed told len faults n d e s t (Err f) c.args.owner c.args.n c.args.offset c.args.bytes.now keeps tt refused serves);
      up = subst (λ x. UnlessDown {T = Unit {0}} (Err x) (t.book.down ≡ true → s.book.down ≡ true)) (sym c.fault_of.ensures) (up-err told len faults n d e s t leaves serves.alone c.args.n (length c.args.bytes.now) few f keeps);
      fails = subst (λ x. Fails faults x d e s t) (sym c.fault_of.ensures) (Fails-err told len faults n d e s t leaves serves.alone c.args.n (length c.args.bytes.now) few f keeps refused);
    }
