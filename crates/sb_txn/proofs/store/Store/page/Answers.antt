use Rattle.std.proofs.Common.{◌<◌, refl, sym, subst}
use Rattle.sb_log.specs.declared.geometry.Geometry.{Geometry}
use Rattle.sb_pool.specs.State.{is_dirty, held}
use Rattle.sb_txn.proofs.KeepsLemmas.{StaysReady-as}
use Rattle.sb_txn.proofs.TiedLemmas.{bytes_now}
use Rattle.sb_txn.proofs.store.Store.page.Goals as goal

pub returns : goal.returns
returns g c =
    let call = c.in_ok-load.ensures in
    let below : c.args.n < c.load.new.self.pool.geometry.pages = subst (λ (h : Geometry). c.args.n < h.pages) (sym call.keeps.geometry) c.requires.page in (
      (
        refl,
        (λ _. tt),
        record {
          same = call.loads;
          leaves = call.any_moment;
          err = tt;
          keeps = StaysReady-as g.D.Disk.told g.D.Disk.len g.D.Disk.faults tt c.held.result _ _ _ _ call.keeps;
        },
      ),
      record {
        page = λ want now store.
            let after = (call.loads.pages want now store).2 in
            bytes_now now (g.D.Disk.told c.args.disk.now) (g.D.Disk.told c.load.new.disk) c.load.new.self.journal c.load.new.self.pool c.args.n c.held.result.now (is_dirty (held c.load.new.self.pool c.args.n))
            (call.any_moment.each want now store).tells after.pages after.up below c.held.ensures.bytes;
        long = c.held.ensures.long;
        after = tt;
      },
    )
