use Rattle.std.proofs.Common.{◌≤◌, ℕ, Option, sym, subst}
use Rattle.sb_disk.specs.Disk.{Story, WhereTold}
use Rattle.sb_images.specs.Layout.{need, gates_of, log_of}
use Rattle.sb_journal.specs.Opening.{Opened}
use Rattle.sb_recover.specs.Restarted.{IsRestarted}
use Rattle.sb_txn.proofs.OpenLemmas.{IsOpened-made}
use Rattle.sb_txn.proofs.store.Store.open.Goals as goal

pub returns-clause-opened : goal.returns-clause-opened
returns-clause-opened g c =
    let old = g.D.Disk.told c.args.disk.now in
    let h = c.in_ok-sizes.sizes in
    let call = c.in_ok-journal.ensures in
    let same = sym call.reads.story in
    IsOpened-made old (g.D.Disk.told c.open_journal.new.disk) (g.D.Disk.len c.args.disk.now) (g.D.Disk.len c.open_journal.new.disk) h c.in_ok-journal.journal c.in_ok-pool.pool c.in_ok-book.book (record {
      restart = subst (λ (t : Option Story). WhereTold old t (IsRestarted h)) same c.in_ok-sizes.ensures.ok;
      sizes = c.in_ok-sizes.ensures.sizes;
      room = subst (λ (n : ℕ). need h.pages h.log ≤ n) (sym call.reads.size) c.in_ok-sizes.ensures.room;
      empty = call.empty;
      read = subst (λ (t : Option Story). Opened t (gates_of h) (log_of h) c.in_ok-journal.journal) same call.read;
      sound = call.sound;
      stands = call.stands;
      agrees = c.in_ok-pool.ensures.agrees (g.D.Disk.told c.open_journal.new.disk) c.in_ok-journal.journal;
      no_page = c.in_ok-pool.ensures.empty;
      no_record = c.in_ok-book.ensures;
    })
