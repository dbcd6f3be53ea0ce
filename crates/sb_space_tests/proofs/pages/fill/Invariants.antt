use Rattle.std.proofs.Common.{◌≡◌}
use Rattle.sb_space.specs.Durable.{parts_in}
use Rattle.sb_space.specs.View.{lent}
use Rattle.sb_space.specs.Works.{Serves}
use Rattle.sb_space_tests.proofs.pages.fill.Given as goal

abbrev pub invariant-loop-taken : goal.invariant-loop-taken
invariant-loop-taken g l = record {
  ready : Serves (lent l.space).tx (parts_in g.D.Disk.told g.D.Disk.len (lent l.space));
  store : l.space.store.ghost_name ≡ l.fn.space.store.ghost_name;
  disk : l.space.disk.ghost_name ≡ l.fn.space.disk.ghost_name;
  tx : (lent l.space).tx ≡ (lent l.fn.space).tx;
}
