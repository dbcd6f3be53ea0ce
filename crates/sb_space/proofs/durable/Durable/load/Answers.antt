use Rattle.std.proofs.Common.{refl, sym, ◌∙◌}
use Rattle.std.proofs.lemmas.Bool.{false≢true}
use Rattle.sb_space.proofs.Loading.{Works-loaded, up_after, Serves-loaded}
use Rattle.sb_space.proofs.durable.Durable.load.Goals as goal

pub returns-in-Ok-clause-calls : goal.returns-in-Ok-clause-calls
returns-in-Ok-clause-calls g c =
    let told = g.D.Disk.told in
    let len = g.D.Disk.len in
    let faults = g.D.Disk.faults in
    let tx = c.args.self.now.tx.now.number in
    let d = c.args.self.now.disk.now in
    let s = c.args.self.now.store.now in
    let keeps = c.in-Ok.ensures.keeps in
    record {
      leads = record {
        store = refl;
        disk = refl;
        tx = refl;
        works = Works-loaded told len faults tx d c.load.new.disk s c.load.new.self tt keeps c.in-Ok.ensures.any_moment c.in-Ok.ensures.loads;
      };
      ready = Serves-loaded told len faults tx d c.load.new.disk s c.load.new.self tt keeps c.in-Ok.ensures.loads.book c.requires.ready;
      up = λ on. absurd (false≢true (sym (up_after told len faults tx d c.load.new.disk s c.load.new.self tt keeps) ∙ on));
      fails = tt;
    }
