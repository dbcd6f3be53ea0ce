use Rattle.std.proofs.Common.{rules, ◌≡◌, length}
use Rattle.sb_journal.proofs.OpenLemmas.{piece_open}
use Rattle.sb_journal.proofs.reading.count_piece.Goals as goal

pub returns-clause-open : goal.returns-clause-open
returns-clause-open g c =
    let long : length c.read_at.new.buffer ≡ c.args.len = search rules in
    piece_open (g.D.Disk.told c.args.disk.now) c.args.at c.args.len c.first_closed.result c.read_at.new.buffer long (c.in_ok-read_at.ensures.ok)
    c.first_closed.ensures.most c.first_closed.ensures.open c.first_closed.ensures.closed
