use Rattle.std.proofs.Common.{◌≡◌, ◌-◌, ◌≤◌, ◌∙◌, sym, ap, suc, arith, subst, length}
use Rattle.std.proofs.lemmas.Result.{err_from_is_err_and}
use Rattle.std.specs.Prelude.{Ok}
use Rattle.sb_ctx.specs.View.{page_of}
use Rattle.sb_btree.specs.Broken.{held_node}
use Rattle.sb_forms.specs.Tree.{entries_of}
use Rattle.sb_btree.proofs.Giving.{node_some}
use Rattle.sb_btree.proofs.Joining.{node_at, stays, drop_stops, next_like, merge_whole, merge_split}
use Rattle.sb_btree.specs.Spending.{spared}
use Rattle.sb_btree.proofs.Sparing.{raise_spared, spared-few, stops_within, drops_within}
use Rattle.sb_btree.proofs.Merges.{merge_split_within, merge_whole_within}
use Rattle.sb_btree.proofs.Weights.{written-few}
use Rattle.sb_btree.proofs.removal.merge.Goals as goal

pub drop_child-requires-clause-held : goal.drop_child-requires-clause-held
drop_child-requires-clause-held c =
    let down : c.args.level ≡ suc (c.args.level - 1) = omega arith in
    let n = node_at c.args.level (held_node (page_of c.args.ctx.now c.args.page)) c.requires.held in
    let k = node_at (c.args.level - 1) (held_node (page_of c.args.ctx.now c.args.child)) c.requires.child in
    let same = stays c.args.ctx.now c.args.level (c.args.level - 1) c.args.page n.node c.args.i c.args.child c.args.left down n.is n.like k.node k.is k.like c.give_away.new.ctx c.in_ok-put.put c.in_ok-put.ensures.gives in
    node_some (held_node (page_of c.give_away.new.ctx c.args.page)) n.node (ap held_node same ∙ n.is)

pub drop_child-requires-clause-within : goal.drop_child-requires-clause-within
drop_child-requires-clause-within c =
    let down : c.args.level ≡ suc (c.args.level - 1) = omega arith in
    let n = node_at c.args.level (held_node (page_of c.args.ctx.now c.args.page)) c.requires.held in
    let k = node_at (c.args.level - 1) (held_node (page_of c.args.ctx.now c.args.child)) c.requires.child in
    let same = stays c.args.ctx.now c.args.level (c.args.level - 1) c.args.page n.node c.args.i c.args.child c.args.left down n.is n.like k.node k.is k.like c.give_away.new.ctx c.in_ok-put.put c.in_ok-put.ensures.gives in
    subst (λ o. c.args.i ≤ length (entries_of (held_node o))) (sym same) c.requires.within

pub returns-in_err-taken-clause-merges : goal.returns-in_err-taken-clause-merges
returns-in_err-taken-clause-merges c =
    let down : c.args.level ≡ suc (c.args.level - 1) = omega arith in
    let n = node_at c.args.level (held_node (page_of c.args.ctx.now c.args.page)) c.requires.held in
    let k = node_at (c.args.level - 1) (held_node (page_of c.args.ctx.now c.args.child)) c.requires.child in
    let p = err_from_is_err_and c.from_residual-in_err-taken.result c.from_residual-in_err-taken.ensures.1 in
    rw (p.1, p.2)
    (drop_stops c.args.ctx.now c.args.level (c.args.level - 1) c.args.page n.node c.args.i c.args.child c.args.left down n.is n.like k.node k.is k.like c.give_away.new.ctx c.drop_child.new.ctx c.in_ok-put.put c.in_ok-put.ensures.gives c.give_away.ensures.given c.in_err-taken.field-0.0 c.in_err-taken.ensures.drops)

pub raise-requires-clause-held : goal.raise-requires-clause-held
raise-requires-clause-held c =
    let down : c.args.level ≡ suc (c.args.level - 1) = omega arith in
    let n = node_at c.args.level (held_node (page_of c.args.ctx.now c.args.page)) c.requires.held in
    let k = node_at (c.args.level - 1) (held_node (page_of c.args.ctx.now c.args.child)) c.requires.child in
    next_like c.args.ctx.now c.args.level (c.args.level - 1) c.args.page n.node c.args.i c.args.child c.args.left down n.is n.like k.node k.is k.like c.give_away.new.ctx c.drop_child.new.ctx c.in_ok-put.put c.in_ok-put.ensures.gives c.give_away.ensures.given c.in_ok-taken.taken c.in_ok-taken.ensures.drops c.drop_child.ensures.given

pub returns-in-Split-clause-merges : goal.returns-in-Split-clause-merges
returns-in-Split-clause-merges c =
    let down : c.args.level ≡ suc (c.args.level - 1) = omega arith in
    let n = node_at c.args.level (held_node (page_of c.args.ctx.now c.args.page)) c.requires.held in
    let k = node_at (c.args.level - 1) (held_node (page_of c.args.ctx.now c.args.child)) c.requires.child in
    merge_split c.args.ctx.now c.args.level (c.args.level - 1) c.args.page n.node c.args.i c.args.child c.args.left down n.is n.like k.node k.is k.like c.give_away.new.ctx c.drop_child.new.ctx c.in_ok-put.put c.in_ok-put.ensures.gives c.give_away.ensures.given c.in_ok-taken.taken c.in_ok-taken.ensures.drops c.drop_child.ensures.given
    c.raise.new.ctx c.in-Split.bound c.in-Split.next c.raise.result c.in-Split.is c.raise.ensures.raises

pub returns-in_default : goal.returns-in_default
returns-in_default c =
    let down : c.args.level ≡ suc (c.args.level - 1) = omega arith in
    let n = node_at c.args.level (held_node (page_of c.args.ctx.now c.args.page)) c.requires.held in
    let k = node_at (c.args.level - 1) (held_node (page_of c.args.ctx.now c.args.child)) c.requires.child in
    record {
      given = c.drop_child.ensures.given ∙ c.give_away.ensures.given;
      merges = merge_whole c.args.ctx.now c.args.level (c.args.level - 1) c.args.page n.node c.args.i c.args.child c.args.left down n.is n.like k.node k.is k.like c.give_away.new.ctx c.drop_child.new.ctx c.in_ok-put.put c.in_ok-put.ensures.gives c.give_away.ensures.given c.in_ok-taken.taken c.in_ok-taken.ensures.drops c.drop_child.ensures.given c.in_default.not-Split;
      edits = omega (arith, c.in_ok-put.ensures.edits, c.in_ok-taken.ensures.edits, written-few c.drop_child.new.ctx c.args.page, spared-few (Ok c.in_ok-taken.taken));
      room = merge_whole_within c.args.ctx.now c.args.level (c.args.level - 1) c.args.page n.node c.args.i c.args.child c.args.left down n.is n.like k.node k.is k.like c.give_away.new.ctx c.drop_child.new.ctx c.in_ok-put.put c.in_ok-put.ensures.gives c.give_away.ensures.given c.in_ok-taken.taken c.in_ok-taken.ensures.drops c.drop_child.ensures.given c.in_default.not-Split
          c.in_ok-put.ensures.room;
      other = c.in_ok-taken.ensures.other;
    }

-- ---- what it takes
pub returns-in_err-put-clause-room : goal.returns-in_err-put-clause-room
returns-in_err-put-clause-room c =
    let p = err_from_is_err_and c.from_residual.result c.from_residual.ensures.1 in
    rw (p.1, p.2) (λ inner. stops_within c.args.ctx.now c.give_away.new.ctx (held_node (page_of c.args.ctx.now c.args.page)) c.in_err-put.field-0.0 c.in_err-put.ensures.room)

pub returns-in_err-taken-clause-edits : goal.returns-in_err-taken-clause-edits
returns-in_err-taken-clause-edits c =
    let p = err_from_is_err_and c.from_residual-in_err-taken.result c.from_residual-in_err-taken.ensures.1 in
    omega (arith, ap spared p.1, c.in_ok-put.ensures.edits, c.in_err-taken.ensures.edits, written-few c.drop_child.new.ctx c.args.page)

pub returns-in_err-taken-clause-room : goal.returns-in_err-taken-clause-room
returns-in_err-taken-clause-room c =
    let p = err_from_is_err_and c.from_residual-in_err-taken.result c.from_residual-in_err-taken.ensures.1 in
    rw (p.1, p.2) (λ inner. drops_within c.args.ctx.now c.give_away.new.ctx c.drop_child.new.ctx c.args.page (held_node (page_of c.args.ctx.now c.args.page)) (held_node (page_of c.give_away.new.ctx c.args.page)) c.args.i c.in_err-taken.field-0.0 c.in_err-taken.ensures.drops)

pub returns-in-Split-clause-edits : goal.returns-in-Split-clause-edits
returns-in-Split-clause-edits c =
    omega (
      arith,
      c.in_ok-put.ensures.edits,
      c.in_ok-taken.ensures.edits,
      c.raise.ensures.edits,
      written-few c.drop_child.new.ctx c.args.page,
      raise_spared c.drop_child.new.ctx c.raise.new.ctx (held_node (page_of c.drop_child.new.ctx c.args.page)) c.raise.result c.raise.ensures.room,
    )

pub returns-in-Split-clause-room : goal.returns-in-Split-clause-room
returns-in-Split-clause-room c =
    let down : c.args.level ≡ suc (c.args.level - 1) = omega arith in
    let n = node_at c.args.level (held_node (page_of c.args.ctx.now c.args.page)) c.requires.held in
    let k = node_at (c.args.level - 1) (held_node (page_of c.args.ctx.now c.args.child)) c.requires.child in
    merge_split_within c.args.ctx.now c.args.level (c.args.level - 1) c.args.page n.node c.args.i c.args.child c.args.left down n.is n.like k.node k.is k.like c.give_away.new.ctx c.drop_child.new.ctx c.in_ok-put.put c.in_ok-put.ensures.gives c.give_away.ensures.given c.in_ok-taken.taken c.in_ok-taken.ensures.drops c.drop_child.ensures.given
    c.raise.new.ctx c.in-Split.bound c.in-Split.next c.raise.result c.in-Split.is c.requires.within c.in_ok-put.ensures.room c.raise.ensures.room
