use Rattle.std.proofs.Common.{◌≡◌, OnOk, ℕ, List, subst}
use Rattle.std.proofs.lemmas.List.{take-replicate}
use Rattle.sb_disk.specs.Disk.{wrote}
use Rattle.sb_journal.proofs.closing.write_zeros.Goals as goal

pub returns-clause-ok : goal.returns-clause-ok
returns-clause-ok g c =
    subst (λ (bytes : List ℕ). OnOk c.write_at.result (g.D.Disk.told c.write_at.new.self ≡ wrote c.args.at bytes (g.D.Disk.told c.args.disk.now))) (take-replicate c.args.count 65536 0 c.requires.few) c.write_at.ensures.ok
