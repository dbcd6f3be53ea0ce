use Rattle.std.proofs.Common.{◌≡◌, ◌∙◌, refl, sym, subst, arith, true}
use Rattle.sb_btree.specs.Broken.{held_node}
use Rattle.sb_ctx.specs.View.{page_of}
use Rattle.sb_node.specs.Page.{node_in}
use Rattle.sb_btree.specs.Removes.{Wrote, TakesChild, taker}
use Rattle.sb_btree.proofs.Giving.{front_like, node_some, took_front}
use Rattle.sb_btree.proofs.Sparing.{at_beside, wrote_taken}
use Rattle.sb_btree.proofs.Walked.{held_is}
use Rattle.sb_btree.proofs.Weights.{written-few}
use Rattle.sb_btree.proofs.removal.take_child.Goals as goal

pub put_child-requires-2-clause-held : goal.put_child-requires-2-clause-held
put_child-requires-2-clause-held c =
    let same = c.deref_mut.ensures.value ∙ c.in_ok-copy.ensures in
    front_like c.args.ctx.now c.set_first.new.ctx c.set_first.new.ctx c.args.level c.args.page c.in_ok-bytes.bytes.now c.in_ok-bytes.head c.args.bound.now c.args.child c.in_ok-bytes.ensures.ok
    (subst (λ b. Wrote c.args.ctx.now c.set_first.new.ctx c.args.page (taker true c.args.child (node_in b))) same c.in_ok-set_first.ensures.set)

pub returns-clause-takes : goal.returns-clause-takes
returns-clause-takes c =
    let same = c.deref_mut.ensures.value ∙ c.in_ok-copy.ensures in
    let in_front : c.args.in_front ≡ true = c.if-not-in_front.false in
    subst (λ b. TakesChild c.args.ctx.now c.put_child-2.new.ctx c.args.level c.args.page (held_node (page_of c.args.ctx.now c.args.page)) c.args.bound.now c.args.child b c.put_child-2.result) (sym in_front)
    (took_front c.args.ctx.now c.set_first.new.ctx c.put_child-2.new.ctx c.args.level c.args.page c.in_ok-bytes.bytes.now c.in_ok-bytes.head c.args.bound.now c.args.child c.in_ok-bytes.ensures.ok c.put_child-2.result
    (subst (λ b. Wrote c.args.ctx.now c.set_first.new.ctx c.args.page (taker true c.args.child (node_in b))) same c.in_ok-set_first.ensures.set) c.put_child-2.ensures.put)

pub returns-then-not-in_front-clause-room : goal.returns-then-not-in_front-clause-room
returns-then-not-in_front-clause-room c = at_beside c.args.ctx.now c.args.ctx.now c.put_child.new.ctx 610 (held_node (page_of c.args.ctx.now c.args.page)) c.put_child.result refl c.put_child.ensures.room

pub returns-clause-edits : goal.returns-clause-edits
returns-clause-edits c = omega (arith, c.in_ok-set_first.ensures.edits, c.put_child-2.ensures.edits, written-few c.set_first.new.ctx c.args.page)

pub returns-clause-room : goal.returns-clause-room
returns-clause-room c =
    let same = c.deref_mut.ensures.value ∙ c.in_ok-copy.ensures in
    let has = node_some (held_node (page_of c.args.ctx.now c.args.page)) (node_in c.in_ok-bytes.bytes.now) (held_is c.args.ctx.now c.args.level c.args.page c.in_ok-bytes.bytes.now c.in_ok-bytes.head c.in_ok-bytes.ensures.ok) in
    let still = wrote_taken c.args.ctx.now c.set_first.new.ctx c.args.page (taker true c.args.child (node_in c.in_ok-bytes.bytes.now)) has
    (subst (λ b. Wrote c.args.ctx.now c.set_first.new.ctx c.args.page (taker true c.args.child (node_in b))) same c.in_ok-set_first.ensures.set) in
    at_beside c.args.ctx.now c.set_first.new.ctx c.put_child-2.new.ctx 610 (held_node (page_of c.set_first.new.ctx c.args.page)) c.put_child-2.result still c.put_child-2.ensures.room
