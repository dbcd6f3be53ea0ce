use Rattle.std.proofs.Common.{◌≡◌, ℕ, ◌<◌, true, Ok}
use Rattle.sb_ctx.specs.View.{holds_fresh}
use Rattle.sb_drive.specs.Slots.{Slots}
use Rattle.sb_drive.specs.Spaces.{Wanted}
use Rattle.sb_space.specs.Durable.{Calls, parts_in}
use Rattle.sb_space.specs.View.{lent}
use Rattle.sb_space.specs.Works.{HasPages}
use Rattle.sb_space.proofs.durable.Durable.free_page.Given as goal

-- the pages before this one are somebody's, or held as fresh ones
abbrev pub invariant-loop-n : goal.invariant-loop-n
invariant-loop-n g l = record {
  calls : Calls {T = Unit {0}} g.D.Disk.told g.D.Disk.len g.D.Disk.faults 0 (lent l.fn.self) (lent l.self) (Ok tt);
  used : (want : Wanted) (s : Slots) → HasPages want s (parts_in g.D.Disk.told g.D.Disk.len (lent l.fn.self)) → (m : ℕ) → m < l.n → (s m).0 ≡ 0 → holds_fresh l.ctx m ≡ true;
}
