use Rattle.std.proofs.Common.{◌≡◌, length, ap, ◌∙◌, arith}
use Rattle.sb_node.specs.Entries.{sizes}
use Rattle.sb_node.specs.Page.{node_in}
use Rattle.sb_node.specs.Walk.{entries_left}
use Rattle.sb_node.proofs.Runs.{count_short, form_room, head_count}
use Rattle.sb_node.proofs.Sizes.{used_is}
use Rattle.sb_btree.specs.Halves.{halfway}
use Rattle.sb_btree.proofs.Placing.{page_count}
use Rattle.sb_btree.proofs.halves.half_of.Goals as goal

pub loop-key-init : goal.loop-key-init
loop-key-init c =
    let page = c.args.page.now in
    let same : entries_left c.into_iter-key-iterator.result ≡ (node_in page).entries = ap entries_left c.into_iter-key-iterator.ensures.into_iter_gives ∙ c.new-key-items.ensures in
    record {
      can = tt;
      finite = tt;
      half = omega (arith, ap (halfway 2036) same);
      within = omega (arith, ap length same, page_count page);
      short = omega (arith, ap sizes same, used_is page c.requires, form_room page c.requires);
    }

pub overflow_add-count : goal.overflow_add-count
overflow_add-count c = omega (arith, c.loop-key.invariant.within, count_short c.args.page.now c.requires, head_count c.args.page.now)
