use Rattle.std.proofs.Common.{ap, sym, ◌≡◌, ◌∙◌}
use Rattle.sb_registry.specs.Runs.{IsSound}
use Rattle.sb_standing.specs.Standing.{owners_in}
use Rattle.sb_txn.specs.declared.store.Tx.{Tx}
use Rattle.sb_session.proofs.LentLemmas.{IsStoreLent}
use Rattle.sb_opening.specs.Naming.{named_in}
use Rattle.sb_opening.proofs.LookLemmas.{looked-fails, looked-over, looked-same, looked-serves, looked-works, refused-over, serves-lent}
use Rattle.sb_opening.proofs.looking.census_within.Goals as goal

pub returns-clause-codes : goal.returns-clause-codes
returns-clause-codes g c =
    let told = g.D.Disk.told in
    let len = g.D.Disk.len in
    let tx = c.args.tx.now.store.number in
    let is : IsStoreLent c.args.disk.now c.args.space.now.store tx c.new-pages.result =
    record { store_is = c.new-pages.ensures.store; disk_is = c.new-pages.ensures.disk; tx_is = ap (λ (t : Tx). t.number) c.new-pages.ensures.tx } in
    let leads = c.take_census.ensures.looks.leads in
    let same = c.disk-1.given.1 (sym (leads.disk ∙ c.new-pages.ensures.same_disk)) in
    looked-over told len g.D.Disk.faults c.args.disk.now c.args.space.now.store tx c.new-pages.result c.take_census.new.space is leads _ same c.args.place.root (λ census kept. census.named.items ≡ named_in kept) c.take_census.result c.take_census.ensures.codes

pub returns-clause-owners : goal.returns-clause-owners
returns-clause-owners g c =
    let told = g.D.Disk.told in
    let len = g.D.Disk.len in
    let tx = c.args.tx.now.store.number in
    let is : IsStoreLent c.args.disk.now c.args.space.now.store tx c.new-pages.result =
    record { store_is = c.new-pages.ensures.store; disk_is = c.new-pages.ensures.disk; tx_is = ap (λ (t : Tx). t.number) c.new-pages.ensures.tx } in
    let leads = c.take_census.ensures.looks.leads in
    let same = c.disk-1.given.1 (sym (leads.disk ∙ c.new-pages.ensures.same_disk)) in
    looked-over told len g.D.Disk.faults c.args.disk.now c.args.space.now.store tx c.new-pages.result c.take_census.new.space is leads _ same c.args.place.root (λ census kept. census.owners.items ≡ owners_in kept) c.take_census.result c.take_census.ensures.owners

pub returns-clause-undamaged : goal.returns-clause-undamaged
returns-clause-undamaged g c =
    let told = g.D.Disk.told in
    let len = g.D.Disk.len in
    let tx = c.args.tx.now.store.number in
    let is : IsStoreLent c.args.disk.now c.args.space.now.store tx c.new-pages.result =
    record { store_is = c.new-pages.ensures.store; disk_is = c.new-pages.ensures.disk; tx_is = ap (λ (t : Tx). t.number) c.new-pages.ensures.tx } in
    let leads = c.take_census.ensures.looks.leads in
    let same = c.disk-1.given.1 (sym (leads.disk ∙ c.new-pages.ensures.same_disk)) in
    refused-over told len g.D.Disk.faults c.args.disk.now c.args.space.now.store tx c.new-pages.result c.take_census.new.space is leads _ same c.args.place.root (λ e kept. IsSound e) c.take_census.result c.take_census.ensures.undamaged

pub returns-clause-looks : goal.returns-clause-looks
returns-clause-looks g c =
    let told = g.D.Disk.told in
    let len = g.D.Disk.len in
    let tx = c.args.tx.now.store.number in
    let is : IsStoreLent c.args.disk.now c.args.space.now.store tx c.new-pages.result =
    record { store_is = c.new-pages.ensures.store; disk_is = c.new-pages.ensures.disk; tx_is = ap (λ (t : Tx). t.number) c.new-pages.ensures.tx } in
    let leads = c.take_census.ensures.looks.leads in
    let same = c.disk-1.given.1 (sym (leads.disk ∙ c.new-pages.ensures.same_disk)) in
    record {
      ready = looked-serves told len g.D.Disk.faults c.args.disk.now c.args.space.now.store tx c.new-pages.result c.take_census.new.space is leads _ same c.take_census.ensures.ready;
      works = looked-works told len g.D.Disk.faults c.args.disk.now c.args.space.now.store tx c.new-pages.result c.take_census.new.space is leads _ same;
      same = looked-same told len g.D.Disk.faults c.args.disk.now c.args.space.now.store tx c.new-pages.result c.take_census.new.space is leads _ same c.take_census.result c.take_census.ensures.looks.same;
      reads = c.take_census.ensures.looks.fault;
      fails = looked-fails told len g.D.Disk.faults c.args.disk.now c.args.space.now.store tx c.new-pages.result c.take_census.new.space is leads _ same _ c.take_census.result c.take_census.ensures.looks.refused;
    }

pub take_census-requires-clause-ready : goal.take_census-requires-clause-ready
take_census-requires-clause-ready g c =
    serves-lent g.D.Disk.told g.D.Disk.len c.args.disk.now c.args.space.now.store c.args.tx.now.store.number c.new-pages.result
    (record { store_is = c.new-pages.ensures.store; disk_is = c.new-pages.ensures.disk; tx_is = ap (λ (t : Tx). t.number) c.new-pages.ensures.tx }) c.requires.ready
