use Rattle.std.proofs.Common.{◌≡◌, ◌≤◌, ◌-◌, length, max}
use Rattle.sb_memory.specs.Contents.{slots}
use Rattle.sb_memory.proofs.slots.grow.Given as goal

abbrev pub invariant-loop-pages : goal.invariant-loop-pages
invariant-loop-pages l = record {
  same : slots l.pages.items ≡ slots l.fn.pages.items;
  least : length l.fn.pages.items ≤ length l.pages.items;
  most : length l.pages.items ≤ max l.len (length l.fn.pages.items);
}

abbrev pub decreases-loop-pages : goal.decreases-loop-pages
decreases-loop-pages l = l.len - length l.pages.items
