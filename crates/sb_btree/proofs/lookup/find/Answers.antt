use Rattle.std.proofs.Common.{◌≡◌, Some, Option, option_map}
use Rattle.sb_ctx.specs.View.{page_of}
use Rattle.sb_forms.specs.Read.{has}
use Rattle.sb_forms.specs.Tree.{nodes, level_of}
use Rattle.sb_btree.specs.Ways.{way, is_on_way}
use Rattle.sb_btree.specs.Walks.{as_walk}
use Rattle.sb_btree.specs.Leaves.{entry_at, entry_in}
use Rattle.sb_btree.specs.declared.lookup.LeafEntry.{LeafEntry}
use Rattle.sb_btree.proofs.Descending.{way_first}
use Rattle.sb_btree.proofs.Leaves.{stands_root}
use Rattle.sb_btree.proofs.Roots.{root_gives, root_needs, no_root_gives, no_root_needs}
use Rattle.sb_btree.proofs.lookup.find.Goals as goal

pub returns-in-Ok-clause-gives : goal.returns-in-Ok-clause-gives
returns-in-Ok-clause-gives c =
    rw c.answer.ensures (root_gives c.args.ctx.now c.args.root c.in-Ok.level (λ es (found : Option LeafEntry). option_map entry_in found ≡ entry_at c.args.key.now es) (λ l N n. has n (way l N (Some c.args.key.now) c.args.root)) (as_walk c.find_below.result) c.in-Ok.ensures.ok c.find_below.ensures.leads)

pub returns-in-Ok-clause-way : goal.returns-in-Ok-clause-way
returns-in-Ok-clause-way c =
    rw c.answer.ensures (root_needs c.args.ctx.now c.args.root c.in-Ok.level (λ es (found : Option LeafEntry). option_map entry_in found ≡ entry_at c.args.key.now es) (λ l N n. has n (way l N (Some c.args.key.now) c.args.root)) (as_walk c.find_below.result) c.in-Ok.ensures.ok c.find_below.ensures.leads)

pub returns-in-Err-clause-gives : goal.returns-in-Err-clause-gives
returns-in-Err-clause-gives c =
    rw c.answer-in-Err.ensures (no_root_gives (Option LeafEntry) c.args.ctx.now c.args.root (λ es (found : Option LeafEntry). option_map entry_in found ≡ entry_at c.args.key.now es) c.in-Err.stop c.in-Err.ensures.stops)

pub returns-in-Err-clause-way : goal.returns-in-Err-clause-way
returns-in-Err-clause-way c =
    rw c.answer-in-Err.ensures (no_root_needs (Option LeafEntry) c.args.ctx.now c.args.root (λ P. is_on_way c.args.root P (Some c.args.key.now)) c.in-Err.stop c.in-Err.ensures.stops (λ P. way_first (level_of (nodes P c.args.root)) (nodes P) (Some c.args.key.now) c.args.root))

pub returns-in-Ok-clause-stands : goal.returns-in-Ok-clause-stands
returns-in-Ok-clause-stands c =
    rw c.answer.ensures (stands_root (page_of c.args.ctx.now) c.args.root c.in-Ok.level (as_walk c.find_below.result) c.in-Ok.ensures.ok c.find_below.ensures.stands)
