use Rattle.std.proofs.Common.{◌≡◌, Option, option_map}
use Rattle.std.specs.List.{find as first}
use Rattle.sb_ctx.specs.View.{page_of}
use Rattle.sb_forms.specs.Read.{has}
use Rattle.sb_forms.specs.Tree.{nodes, level_of}
use Rattle.sb_btree.specs.Ways.{is_behind, next_ways, is_on_next_ways}
use Rattle.sb_btree.specs.Walks.{as_walk}
use Rattle.sb_btree.specs.Leaves.{entry_in}
use Rattle.sb_btree.specs.declared.lookup.LeafEntry.{LeafEntry}
use Rattle.sb_btree.proofs.Following.{next_way_first}
use Rattle.sb_btree.proofs.Leaves.{stands_root}
use Rattle.sb_btree.proofs.Roots.{root_gives, root_needs, no_root_gives, no_root_needs}
use Rattle.sb_btree.proofs.lookup.next.Goals as goal

pub returns-in-Ok-clause-gives : goal.returns-in-Ok-clause-gives
returns-in-Ok-clause-gives c =
    let after = option_map (λ key. key.now) c.args.after in
    rw c.answer.ensures (root_gives c.args.ctx.now c.args.root c.in-Ok.level (λ es (next : Option LeafEntry). option_map entry_in next ≡ first (is_behind after) es) (λ l N n. has n (next_ways l N after c.args.root)) (as_walk c.next_below.result) c.in-Ok.ensures.ok c.next_below.ensures.leads)

pub returns-in-Ok-clause-way : goal.returns-in-Ok-clause-way
returns-in-Ok-clause-way c =
    let after = option_map (λ key. key.now) c.args.after in
    rw c.answer.ensures (root_needs c.args.ctx.now c.args.root c.in-Ok.level (λ es (next : Option LeafEntry). option_map entry_in next ≡ first (is_behind after) es) (λ l N n. has n (next_ways l N after c.args.root)) (as_walk c.next_below.result) c.in-Ok.ensures.ok c.next_below.ensures.leads)

pub returns-in-Err-clause-gives : goal.returns-in-Err-clause-gives
returns-in-Err-clause-gives c =
    rw c.answer-in-Err.ensures (no_root_gives (Option LeafEntry) c.args.ctx.now c.args.root (λ es (next : Option LeafEntry). option_map entry_in next ≡ first (is_behind (option_map (λ key. key.now) c.args.after)) es) c.in-Err.stop c.in-Err.ensures.stops)

pub returns-in-Err-clause-way : goal.returns-in-Err-clause-way
returns-in-Err-clause-way c =
    let after = option_map (λ key. key.now) c.args.after in
    rw c.answer-in-Err.ensures (no_root_needs (Option LeafEntry) c.args.ctx.now c.args.root (λ P. is_on_next_ways c.args.root P after) c.in-Err.stop c.in-Err.ensures.stops (λ P. next_way_first (level_of (nodes P c.args.root)) (nodes P) after c.args.root))

pub returns-in-Ok-clause-stands : goal.returns-in-Ok-clause-stands
returns-in-Ok-clause-stands c =
    rw c.answer.ensures (stands_root (page_of c.args.ctx.now) c.args.root c.in-Ok.level (as_walk c.next_below.result) c.in-Ok.ensures.ok c.next_below.ensures.stands)
