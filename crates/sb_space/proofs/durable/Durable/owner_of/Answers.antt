use Rattle.std.proofs.Common.{refl}
use Rattle.sb_space.specs.Durable.{parts_in}
use Rattle.sb_space.specs.View.{lent}
use Rattle.sb_space.proofs.Lookups.{owner-looked, Works-looked, Serves-looked, up-looked, Fails-looked}
use Rattle.sb_space.proofs.durable.Durable.owner_of.Goals as goal

pub returns-clause-owner : goal.returns-clause-owner
returns-clause-owner g c = owner-looked (parts_in g.D.Disk.told g.D.Disk.len (lent c.args.self.now)) c.args.n c.owner_of.result c.requires.page c.owner_of.ensures.owner

pub returns-clause-calls : goal.returns-clause-calls
returns-clause-calls g c =
    let told = g.D.Disk.told in
    let len = g.D.Disk.len in
    let faults = g.D.Disk.faults in
    let tx = c.args.self.now.tx.now.number in
    let d = c.args.self.now.disk.now in
    let s = c.args.self.now.store.now in
    let r = c.owner_of.result in
    let means = c.owner_of.ensures.err in
    let looks = c.owner_of.ensures.looks in
    record {
      leads = record { store = refl; disk = refl; tx = refl; works = Works-looked told len faults tx d c.owner_of.new.disk s c.owner_of.new.store r means looks };
      ready = Serves-looked told len faults tx d c.owner_of.new.disk s c.owner_of.new.store r means looks c.requires.ready;
      up = up-looked told len faults tx d c.owner_of.new.disk s c.owner_of.new.store r means looks;
      fails = Fails-looked told len faults tx d c.owner_of.new.disk s c.owner_of.new.store r means looks;
    }
