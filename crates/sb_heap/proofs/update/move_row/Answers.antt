use Rattle.std.proofs.Common.{Ok, Some, arith}
use Rattle.sb_forms.specs.Tree.{Nodes}
use Rattle.sb_node.specs.Page.{node_in, node_of}
use Rattle.sb_node.proofs.Edited.{node_of-form}
use Rattle.sb_heap.specs.Links.{put_node, turned}
use Rattle.sb_heap.proofs.Writes.{Made-same, Made-then, ready_page}
use Rattle.sb_heap.proofs.update.move_row.Goals as goal

pub put_page-requires-clause-room : goal.put_page-requires-clause-room
put_page-requires-clause-room c = (ready_page c.spot_for.new.ctx c.args.page (c.in_ok-spot.ensures.spot.kept c.args.page c.requires.ready)).room

pub fill-requires-clause-room : goal.fill-requires-clause-room
fill-requires-clause-room c = c.in_ok-put_page.ensures.whole c.in_ok-spot.spot.page c.in_ok-spot.ensures.spot.room

pub returns : goal.returns
returns c =
    let spot = c.in_ok-spot.spot in
    let root = c.args.root in
    let page = c.args.page in
    let bytes = c.args.bytes.now in
    let mid = c.spot_for.new.ctx in
    record {
      spot = spot;
      mid = mid;
      spot_is = c.in_ok-spot.ensures.spot;
      key_is = c.in_ok-key.ensures;
      made = Made-same (λ (N : Nodes). turned root spot.page spot.turn (put_node spot.page (node_of spot.bytes.items) (put_node page (node_of bytes) N))) (λ N. turned root spot.page spot.turn (put_node spot.page (Some (node_in spot.bytes.items)) (put_node page (Some (node_in bytes)) N))) 5 mid c.fill.new.ctx (Ok tt)
          (λ N i. turned root spot.page spot.turn (put_node spot.page (node_of-form spot.bytes.items c.in_ok-spot.ensures.spot.form i) (put_node page (node_of-form bytes c.requires.form i) N)))
          (Made-then (put_node page (node_of bytes)) (λ (N : Nodes). turned root spot.page spot.turn (put_node spot.page (node_of spot.bytes.items) N)) 1 4 5 mid c.put_page.new.ctx c.fill.new.ctx (Ok tt) (omega arith) c.in_ok-put_page.ensures.made c.in_ok-fill.ensures);
    }
