use Rattle.std.proofs.Common.{◌≡◌, ℕ, List, length, ap, sym, ◌∙◌, arith}
use Rattle.std.specs.Int.{bytes_high_first}
use Rattle.std.specs.FinMap.Entries.{find}
use Rattle.sb_node.specs.Entries.{key_cmp}
use Rattle.sb_heap.proofs.FreeSlots.{free_none}
use Rattle.sb_node.specs.Page.{node_in}
use Rattle.sb_node.specs.Walk.{entries_left}
use Rattle.sb_node.proofs.Runs.{count_short, head_count}
use Rattle.sb_node.proofs.Sizes.{head_counts}
use Rattle.sb_heap.specs.Slots.{free_from}
use Rattle.sb_heap.proofs.page.free_slot.Goals as goal

pub loop-key-init : goal.loop-key-init
loop-key-init c =
    let page = c.args.page.now in
    let same : entries_left c.into_iter-key-iterator.result ≡ (node_in page).entries = ap entries_left c.into_iter-key-iterator.ensures.into_iter_gives ∙ c.new-key-items.ensures in
    record {
      can = tt;
      finite = tt;
      free = ap (free_from 0) same;
      within = omega (arith, ap length same, (head_counts page c.requires).count);
    }

pub overflow_add-slot : goal.overflow_add-slot
overflow_add-slot c = omega (arith, c.loop-key.invariant.within, count_short c.args.page.now c.requires, head_count c.args.page.now)

pub returns : goal.returns
returns c =
    let page = c.args.page.now in
    let slot_is : c.loop-key.slot ≡ free_from 0 (node_in page).entries = ap (free_from c.loop-key.slot) (sym c.in-None.ensures.steps.0) ∙ c.loop-key.invariant.free in
    ap (λ (k : List ℕ). find key_cmp k (node_in page).entries) (c.slot_bytes-2.ensures ∙ ap (bytes_high_first 2) slot_is)
    ∙ free_none 0 (node_in page).entries (head_counts page c.requires).rising (omega (arith, (head_counts page c.requires).count, count_short page c.requires, head_count page))
