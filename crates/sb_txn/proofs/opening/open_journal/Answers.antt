use Rattle.std.proofs.Common.{rules, subst}
use Rattle.sb_disk.specs.Disk.{Range}
use Rattle.sb_images.specs.Layout.{log_of}
use Rattle.sb_journal.specs.Opening.{Opened}
use Rattle.sb_journal.specs.View.{range_of}
use Rattle.sb_txn.proofs.OpenLemmas.{none_told, none_told-unclean}
use Rattle.sb_txn.proofs.opening.open_journal.Goals as goal
use Rattle.sb_txn.proofs.opening.open_journal.Goals.{then-chunks-gt0-via-then-chunks-gt0, then-chunks-gt0-via-else-chunks-gt0+then-not-clean}

pub returns-then-chunks-gt0-clause-refused : goal.returns-then-chunks-gt0-clause-refused
returns-then-chunks-gt0-clause-refused g c =
    let told = g.D.Disk.told c.args.disk.now in
    let is_opened = subst (λ (r : Range). Opened told r (log_of c.args.g.now) c.in_ok-journal.journal) c.gate_region.ensures
    (subst (λ (r : Range). Opened told (range_of c.gate_region.result) r c.in_ok-journal.journal) c.log_region.ensures c.in_ok-journal.ensures.ok) in
    elim c.then-chunks-gt0.branch [
      | then-chunks-gt0-via-then-chunks-gt0 w ↦ none_told c.args.g.now c.in_ok-journal.journal told c.requires.shut is_opened (search rules)
      | then-chunks-gt0-via-else-chunks-gt0+then-not-clean w ↦ none_told-unclean c.args.g.now c.in_ok-journal.journal told c.requires.shut is_opened (search rules)
    ]
