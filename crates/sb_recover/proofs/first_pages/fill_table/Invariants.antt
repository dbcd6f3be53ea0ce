use Rattle.std.proofs.Common.{◌≡◌, ◌*◌, take}
use Rattle.sb_recover.specs.FirstPages.{owner_entries}
use Rattle.sb_recover.proofs.first_pages.fill_table.Given as goal

abbrev pub invariant-loop-k : goal.invariant-loop-k
invariant-loop-k l = take (2 * l.k) l.page ≡ owner_entries l.pages (2048 * l.p) l.k
