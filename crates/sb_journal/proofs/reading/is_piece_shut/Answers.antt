use Rattle.std.proofs.Common.{rules, ◌≡◌, length}
use Rattle.sb_journal.proofs.OpenLemmas.{piece_shut}
use Rattle.sb_journal.proofs.reading.is_piece_shut.Goals as goal

pub returns-clause-shut : goal.returns-clause-shut
returns-clause-shut g c =
    let long : length c.read_at.new.buffer ≡ c.args.len = search rules in
    piece_shut (g.D.Disk.told c.args.disk.now) c.args.at c.args.len c.read_at.new.buffer c.is_shut.result long c.in_ok-read_at.ensures.ok c.is_shut.ensures
